-- All faults: one turn of the loop, and the laws.
use Rattle.std.proofs.Common.{◌≡◌, ℕ, ◌+◌, ◌<◌, Bool, true, false, List, [], ◌∷◌, ◌++◌, Option, Some, None, length, take, drop, refl, sym, subst, ap, ◌∙◌, append_assoc, append-nil, if◌then◌else◌}
use Rattle.std.specs.Option.{option_or, option_map_or}
use Rattle.sbl_text.specs.declared.fault.ScriptFault.{ScriptFault}
use Rattle.sbl_text.specs.declared.fault.ScriptFault.TheVariants as fault
use Rattle.sbl_ast.specs.Tree.{Item}
use Rattle.sbl_resolver.specs.declared.occurrences.Occurrence as noted
use Rattle.sbl_resolver.specs.Occurrences.{Occurrence, occurrences_of}
use Rattle.sbl_resolver.specs.Checks.{fault_at, fault_after, fault_of, has_external}
use Rattle.sbl_resolver.specs.Subjects.{subjects_of}
use Rattle.sbl_resolver.specs.AllFaults.{fault_here, faults_after, faults_of, first_of, FaultIsFirstOfAll, IsListed, EachFaultIsListed}
use Rattle.sbl_resolver.specs.OccurrenceView.{view_occurrence, view_occurrences}
use Rattle.sbl_resolver.proofs.Turns.{note_in, take_push, drop_cons}
use Rattle.sbl_resolver.proofs.FirstFault.{nothing}

-- ---- one turn

-- the fault of one occurrence with the number before it, if there is one
abbrev listed_if : ℕ → Option ScriptFault → List (ℕ × ScriptFault)
listed_if n o = option_map_or (λ f. (n, f) ∷ []) o []

turn : (all : List Occurrence) (ms : List noted.Occurrence) (i : ℕ) → i < length ms →
    faults_after all (view_occurrences (take i ms)) (view_occurrences (drop i ms))
    ≡ fault_here all (view_occurrences (take i ms)) (view_occurrence (note_in ms i)) (view_occurrences (drop (i + 1) ms)) ++ faults_after all (view_occurrences (take (i + 1) ms)) (view_occurrences (drop (i + 1) ms))
turn all ms i lt =
    ap (faults_after all (view_occurrences (take i ms))) (drop_cons ms i lt)
    ∙ ap (λ (bs : List Occurrence). fault_here all (view_occurrences (take i ms)) (view_occurrence (note_in ms i)) (view_occurrences (drop (i + 1) ms)) ++ faults_after all bs (view_occurrences (drop (i + 1) ms))) (sym (take_push ms i lt))

-- the occurrence has this fault
pub one_more_fault : (all : List Occurrence) (ms : List noted.Occurrence) (i n : ℕ) (r : Option ScriptFault) (f : ScriptFault) (found wanted : List (ℕ × ScriptFault)) → i < length ms
    → r ≡ fault_at all (view_occurrences (take i ms)) (view_occurrence (note_in ms i)) (view_occurrences (drop (i + 1) ms)) → r ≡ Some f → n ≡ length (subjects_of (view_occurrences (take i ms)))
    → found ++ faults_after all (view_occurrences (take i ms)) (view_occurrences (drop i ms)) ≡ wanted
    → (found ++ (n, f) ∷ []) ++ faults_after all (view_occurrences (take (i + 1) ms)) (view_occurrences (drop (i + 1) ms)) ≡ wanted
one_more_fault all ms i n r f found wanted lt is some count so_far =
    let more = faults_after all (view_occurrences (take (i + 1) ms)) (view_occurrences (drop (i + 1) ms)) in
    append_assoc found ((n, f) ∷ []) more
    ∙ ap (λ (l : List (ℕ × ScriptFault)). found ++ l) (ap (λ (k : ℕ). (k, f) ∷ more) count ∙ ap (λ (o : Option ScriptFault). listed_if (length (subjects_of (view_occurrences (take i ms)))) o ++ more) (sym some ∙ is) ∙ sym (turn all ms i lt))
    ∙ so_far

-- it has none
pub no_more_fault : (all : List Occurrence) (ms : List noted.Occurrence) (i : ℕ) (r : Option ScriptFault) (found wanted : List (ℕ × ScriptFault)) → i < length ms
    → r ≡ fault_at all (view_occurrences (take i ms)) (view_occurrence (note_in ms i)) (view_occurrences (drop (i + 1) ms)) → r ≡ None
    → found ++ faults_after all (view_occurrences (take i ms)) (view_occurrences (drop i ms)) ≡ wanted
    → found ++ faults_after all (view_occurrences (take (i + 1) ms)) (view_occurrences (drop (i + 1) ms)) ≡ wanted
no_more_fault all ms i r found wanted lt is none so_far =
    let more = faults_after all (view_occurrences (take (i + 1) ms)) (view_occurrences (drop (i + 1) ms)) in
    ap (λ (l : List (ℕ × ScriptFault)). found ++ l) (ap (λ (o : Option ScriptFault). listed_if (length (subjects_of (view_occurrences (take i ms)))) o ++ more) (sym none ∙ is) ∙ sym (turn all ms i lt))
    ∙ so_far

-- ---- the first one

first-after : (all before rest : List Occurrence) → first_of (faults_after all before rest) ≡ fault_after all before rest
first-after all before [] = refl
first-after all before (m ∷ after) = go (fault_at all before m after) (first-after all (before ++ m ∷ []) after) where
  go : (o : Option ScriptFault) → first_of (faults_after all (before ++ m ∷ []) after) ≡ fault_after all (before ++ m ∷ []) after → first_of (listed_if (length (subjects_of before)) o ++ faults_after all (before ++ m ∷ []) after) ≡ option_or o (fault_after all (before ++ m ∷ []) after)
  go None e = e
  go (Some f) e = refl

first-append : (xs ys : List (ℕ × ScriptFault)) → first_of (xs ++ ys) ≡ option_or (first_of xs) (first_of ys)
first-append [] ys = refl
first-append (x ∷ xs) ys = refl

first-external : (b : Bool) (n : ℕ) → first_of (if b then [] else (n, fault.NoExternal) ∷ []) ≡ (if b then None else Some fault.NoExternal)
first-external true n = refl
first-external false n = refl

pub fault_is_first_of_all : FaultIsFirstOfAll
fault_is_first_of_all items external =
    let all = occurrences_of items in
    let has = has_external items external all in
    let last = (if has then [] else (length (subjects_of all), fault.NoExternal) ∷ []) in
    first-append (faults_after all [] all) last
    ∙ ap (λ (o : Option ScriptFault). option_or o (first_of last)) (first-after all [] all)
    ∙ ap (option_or (fault_after all [] all)) (first-external has (length (subjects_of all)))

-- ---- each one

one_listed : (done after more : List (ℕ × ScriptFault)) (x : ℕ × ScriptFault) → after ≡ done ++ x ∷ more → IsListed x after
one_listed done after more x e = record { earlier = done; later = more; parts = e }

after_others : (others xs : List (ℕ × ScriptFault)) (x : ℕ × ScriptFault) → IsListed x xs → IsListed x (others ++ xs)
after_others others xs x l = one_listed (others ++ l.earlier) (others ++ xs) l.later x (ap (λ (k : List (ℕ × ScriptFault)). others ++ k) l.parts ∙ sym (append_assoc others l.earlier (x ∷ l.later)))

before_others : (xs others : List (ℕ × ScriptFault)) (x : ℕ × ScriptFault) → IsListed x xs → IsListed x (xs ++ others)
before_others xs others x l = one_listed l.earlier (xs ++ others) (l.later ++ others) x (ap (λ (k : List (ℕ × ScriptFault)). k ++ others) l.parts ∙ append_assoc l.earlier (x ∷ l.later) others)

fault_in_rest : (all done rest b c : List Occurrence) (x : Occurrence) (f : ScriptFault) → rest ≡ b ++ x ∷ c → fault_at all (done ++ b) x c ≡ Some f
    → IsListed (length (subjects_of (done ++ b)), f) (faults_after all done rest)
fault_in_rest all done [] b c x f parts is = absurd (nothing b c x parts)
fault_in_rest all done (m ∷ after) [] c x f parts is =
    let same : x ≡ m = cc in
    let rest : c ≡ after = cc in
    let here : fault_at all (done ++ []) m after ≡ Some f = subst (λ (y : Occurrence). fault_at all (done ++ []) y after ≡ Some f) same (subst (λ (r : List Occurrence). fault_at all (done ++ []) x r ≡ Some f) rest is) in
    let found : fault_at all done m after ≡ Some f = subst (λ (d : List Occurrence). fault_at all d m after ≡ Some f) (append-nil done) here in
    let more = faults_after all (done ++ m ∷ []) after in
    subst (λ (d : List Occurrence). IsListed (length (subjects_of d), f) (faults_after all done (m ∷ after))) (sym (append-nil done))
    (one_listed [] (faults_after all done (m ∷ after)) more (length (subjects_of done), f) (ap (λ (o : Option ScriptFault). listed_if (length (subjects_of done)) o ++ more) found))
fault_in_rest all done (m ∷ after) (y ∷ b) c x f parts is =
    let same : m ≡ y = cc in
    let rest : after ≡ b ++ x ∷ c = cc in
    let there : fault_at all (done ++ m ∷ b) x c ≡ Some f = subst (λ (z : Occurrence). fault_at all (done ++ z ∷ b) x c ≡ Some f) (sym same) is in
    let later : fault_at all ((done ++ m ∷ []) ++ b) x c ≡ Some f = subst (λ (d : List Occurrence). fault_at all d x c ≡ Some f) (sym (append_assoc done (m ∷ []) b)) there in
    subst (λ (z : Occurrence). IsListed (length (subjects_of (done ++ z ∷ b)), f) (faults_after all done (m ∷ after))) same
    (subst (λ (d : List Occurrence). IsListed (length (subjects_of d), f) (faults_after all done (m ∷ after))) (append_assoc done (m ∷ []) b)
    (after_others (fault_here all done m after) (faults_after all (done ++ m ∷ []) after) (length (subjects_of ((done ++ m ∷ []) ++ b)), f) (fault_in_rest all (done ++ m ∷ []) after b c x f rest later)))

pub each_fault_is_listed : EachFaultIsListed
each_fault_is_listed items external before after m f parts is =
    let all = occurrences_of items in
    before_others (faults_after all [] all) (if has_external items external all then [] else (length (subjects_of all), fault.NoExternal) ∷ []) (length (subjects_of before), f)
    (fault_in_rest all [] all before after m f parts is)
