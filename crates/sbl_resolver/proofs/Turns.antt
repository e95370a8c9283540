-- One turn of the loop over the occurrences.
use Rattle.std.proofs.Common.{◌≡◌, ℕ, ◌+◌, ◌<◌, Bool, true, false, ◌||◌, List, [], ◌∷◌, ◌++◌, Option, Some, None, length, take, drop, get_or, refl, sym, ap, ◌∙◌, add-one}
use Rattle.std.specs.Option.{option_or}
use Rattle.std.proofs.Math.Seq.{drop-cons}
use Rattle.std.proofs.lemmas.List.{take_more, map_push}
use Rattle.std.proofs.lemmas.List.Folds.{list_any-append}
use Rattle.sbl_text.specs.declared.fault.ScriptFault.{ScriptFault}
use Rattle.sbl_ast.specs.declared.tree.DeclarationKind.{DeclarationKind}
use Rattle.sbl_ast.specs.declared.tree.DeclarationKind.TheVariants as kinds
use Rattle.sbl_resolver.specs.declared.checks.CheckState.{CheckState}
use Rattle.sbl_resolver.specs.declared.occurrences.Occurrence as noted
use Rattle.sbl_ast.specs.declared.mode.Mode.TheVariants.{Forward}
use Rattle.sbl_resolver.specs.declared.occurrences.Notice.TheVariants as notices
use Rattle.sbl_resolver.specs.Occurrences.{Occurrence}
use Rattle.sbl_resolver.specs.Checks.{kind_of, is_text_of, is_awaited, fault_at, fault_after}
use Rattle.sbl_resolver.specs.inside.CheckParts.{declared_as, waits_after}
use Rattle.sbl_resolver.specs.inside.CheckParts.{has_text}
use Rattle.sbl_resolver.specs.MetNames.{HasMet, Notes}
use Rattle.sbl_resolver.specs.OccurrenceView.{view_occurrence, view_occurrences}

or_none : {X : Type 0} (o : Option X) → option_or o None ≡ o
or_none (Some x) = refl
or_none None = refl

or_assoc : {X : Type 0} (a b c : Option X) → option_or a (option_or b c) ≡ option_or (option_or a b) c
or_assoc (Some x) b c = refl
or_assoc None b c = refl

kind_of-push : (n : List ℕ) (ms : List Occurrence) (m : Occurrence) → kind_of n (ms ++ m ∷ []) ≡ option_or (kind_of n ms) (declared_as n m.notice)
kind_of-push n [] m = or_none (declared_as n m.notice)
kind_of-push n (x ∷ ms) m = ap (option_or (declared_as n x.notice)) (kind_of-push n ms m) ∙ or_assoc (declared_as n x.notice) (kind_of n ms) (declared_as n m.notice)

or_false : (b : Bool) → (b || false) ≡ b
or_false true = refl
or_false false = refl

has_text-push : (i k : ℕ) (t : List ℕ) (ms : List Occurrence) (m : Occurrence) → has_text i k t (ms ++ m ∷ []) ≡ (has_text i k t ms || is_text_of i k t m)
has_text-push i k t ms m = list_any-append (is_text_of i k t) ms (m ∷ []) ∙ ap (λ (b : Bool). has_text i k t ms || b) (or_false (is_text_of i k t m))

is_awaited-push : (ms : List Occurrence) (m : Occurrence) (b : Bool) → is_awaited (ms ++ m ∷ []) b ≡ waits_after m.notice (is_awaited ms b)
is_awaited-push [] m b = refl
is_awaited-push (x ∷ ms) m b = is_awaited-push ms m (waits_after x.notice b)

-- one more occurrence is met
pub met_more : (old new : CheckState) (ms : List Occurrence) (m : Occurrence) → HasMet old ms → Notes old new m → HasMet new (ms ++ m ∷ [])
met_more old new ms m met notes = record {
  kinds = λ n. notes.kinds n ∙ ap (λ (o : Option DeclarationKind). option_or o (declared_as n m.notice)) (met.kinds n) ∙ sym (kind_of-push n ms m);
  strings = λ i k t. notes.strings i k t ∙ ap (λ (b : Bool). b || is_text_of i k t m) (met.strings i k t) ∙ sym (has_text-push i k t ms m);
  waits = notes.waits ∙ ap (waits_after m.notice) met.waits ∙ sym (is_awaited-push ms m false);
}

-- some occurrence
abbrev pub any_occurrence : noted.Occurrence
any_occurrence = record { site = record { item = 0; mode = Forward }; notice = notices.Declares kinds.Strings (record { ref_ptr = (0, 0); now = [] }) }

abbrev pub note_in : List noted.Occurrence → ℕ → noted.Occurrence
note_in ms i = get_or ms i any_occurrence

pub take_push : (ms : List noted.Occurrence) (i : ℕ) → i < length ms → view_occurrences (take (i + 1) ms) ≡ view_occurrences (take i ms) ++ view_occurrence (note_in ms i) ∷ []
take_push ms i lt = ap view_occurrences (take_more ms i any_occurrence lt) ∙ map_push view_occurrence (take i ms) (note_in ms i)

pub drop_cons : (ms : List noted.Occurrence) (i : ℕ) → i < length ms → view_occurrences (drop i ms) ≡ view_occurrence (note_in ms i) ∷ view_occurrences (drop (i + 1) ms)
drop_cons ms i lt = rw add-one (ap view_occurrences (drop-cons ms i any_occurrence lt))

-- the faults from an occurrence on
pub turn : (all : List Occurrence) (ms : List noted.Occurrence) (i : ℕ) → i < length ms →
    fault_after all (view_occurrences (take i ms)) (view_occurrences (drop i ms))
    ≡ option_or (fault_at all (view_occurrences (take i ms)) (view_occurrence (note_in ms i)) (view_occurrences (drop (i + 1) ms))) (fault_after all (view_occurrences (take (i + 1) ms)) (view_occurrences (drop (i + 1) ms)))
turn all ms i lt =
    ap (fault_after all (view_occurrences (take i ms))) (drop_cons ms i lt)
    ∙ ap (λ (bs : List Occurrence). option_or (fault_at all (view_occurrences (take i ms)) (view_occurrence (note_in ms i)) (view_occurrences (drop (i + 1) ms))) (fault_after all bs (view_occurrences (drop (i + 1) ms)))) (sym (take_push ms i lt))

-- the occurrence has this fault
pub fault_found_here : (all : List Occurrence) (ms : List noted.Occurrence) (i : ℕ) (r : Option ScriptFault) (f : ScriptFault) → i < length ms
    → r ≡ fault_at all (view_occurrences (take i ms)) (view_occurrence (note_in ms i)) (view_occurrences (drop (i + 1) ms)) → r ≡ Some f
    → fault_after all (view_occurrences (take i ms)) (view_occurrences (drop i ms)) ≡ Some f
fault_found_here all ms i r f lt is some =
    turn all ms i lt ∙ ap (λ (o : Option ScriptFault). option_or o (fault_after all (view_occurrences (take (i + 1) ms)) (view_occurrences (drop (i + 1) ms)))) (sym is ∙ some)

-- it has none
pub no_fault_here : (all : List Occurrence) (ms : List noted.Occurrence) (i : ℕ) (r : Option ScriptFault) → i < length ms
    → r ≡ fault_at all (view_occurrences (take i ms)) (view_occurrence (note_in ms i)) (view_occurrences (drop (i + 1) ms)) → r ≡ None
    → fault_after all (view_occurrences (take (i + 1) ms)) (view_occurrences (drop (i + 1) ms)) ≡ fault_after all (view_occurrences (take i ms)) (view_occurrences (drop i ms))
no_fault_here all ms i r lt is none =
    sym (turn all ms i lt ∙ ap (λ (o : Option ScriptFault). option_or o (fault_after all (view_occurrences (take (i + 1) ms)) (view_occurrences (drop (i + 1) ms)))) (sym is ∙ none))
