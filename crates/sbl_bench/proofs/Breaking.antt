-- Edits that may be broken off, and the plain ones that stand on them.
use Rattle.std.proofs.Common.{◌≡◌, ◌≢◌, ◌<◌, ◌≤◌, ◌+◌, ◌-◌, ◌∙◌, ◌⊎◌, ℕ, Bool, true, false, nat_le, nat_lt, cond, List, [], ◌∷◌, length, Option, Some, None, Result, Ok, Err, IfErr, inl, inr, arith, refl, sym, subst}
use Rattle.std.specs.Option.{option_or}
use Rattle.sbl_script.specs.declared.edit_fault.EditFault as declared
use Rattle.sbl_script.specs.declared.edit_fault.EditFault.TheVariants as script
use Rattle.sbl_text.specs.declared.fault.ScriptFault.{ScriptFault}
use Rattle.sbl_semantics.specs.Limit.{max_word_length}
use Rattle.sbl_bench.specs.BreakingOff.{BreaksIfTold, EditsOrBreaks, IsBrokenOff}
use Rattle.sbl_bench.specs.Contents.{Contents, IsFaultOrMemory, max_runs, max_words, opening_fault, word_fault}
use Rattle.sbl_bench.specs.Edits.{Edit, Edits, fault_of_script, refusal_of_add}
use Rattle.sbl_bench.specs.Vocabulary.{is_skipped, is_word, with_word}
use Rattle.sbl_bench.specs.declared.fault.EditFault.{EditFault}
use Rattle.sbl_bench.specs.declared.fault.EditFault.TheVariants as fault
use Rattle.sbl_bench.specs.inside.Stops.{IsCut, IsFaultOfText, IsStopOf}

-- ---- a fault that is not that of an edit which was broken off

pub ends : (s t : Contents) (e : Edit) (f : EditFault) → f ≢ fault.BrokenOff → Edits (Err f) s e t → EditsOrBreaks (Err f) s e t
ends s t e fault.BrokenOff not h = absurd (not refl)
ends s t e _ not h = h

-- the caller has not said anything
pub untold : (said : Bool) (f : EditFault) → f ≢ fault.BrokenOff → BreaksIfTold said said f
untold said fault.BrokenOff not = absurd (not refl)
untold said _ not = refl

-- the same after calls in which the caller has said nothing
pub told_more : (f : EditFault) (said between said_now : Bool) → between ≡ said → BreaksIfTold between said_now f → BreaksIfTold said said_now f
told_more fault.BrokenOff said between said_now same told = told
told_more _ said between said_now same told = told ∙ same

-- an edit whose caller never says so
pub plain : (r : Result (Unit {0}) EditFault) (s t : Contents) (e : Edit) → IfErr r (λ f. BreaksIfTold false false f) → EditsOrBreaks r s e t → Edits r s e t
plain (Ok u) s t e told h = h
plain (Err fault.BrokenOff) s t e told h = cc told
plain (Err _) s t e told h = h

-- ---- faults that are found before any run

pub script_fault_ends : (g : declared.EditFault) → fault_of_script g ≢ fault.BrokenOff
script_fault_ends script.NoRoutine same = cc same
script_fault_ends script.NoGrouping same = cc same
script_fault_ends script.NoAmong same = cc same
script_fault_ends script.AmongCount same = cc same
script_fault_ends (script.Script f) same = cc same
script_fault_ends script.OutOfMemory same = cc same

pub text_fault_ends : (g : ScriptFault) (f : EditFault) → IsFaultOfText g f → f ≢ fault.BrokenOff
text_fault_ends g f (inl is) same = cc (sym is.1 ∙ same)
text_fault_ends g f (inr is) same = cc (sym is.1 ∙ same)

word_ends : (words : List (List ℕ)) (w : List ℕ) → word_fault words w ≢ Some fault.BrokenOff
word_ends words w = by (nat_lt max_word_length (length w)) (is_skipped w words) (nat_le max_words (length words))
  where
    by : (a b c : Bool) → cond a (Some fault.WordTooLong) (cond b None (cond c (Some fault.Full) None)) ≢ Some fault.BrokenOff
    by true b c same = cc same
    by false true c same = cc same
    by false false true same = cc same
    by false false false same = cc same

opening_ends : (words ws : List (List ℕ)) → opening_fault words ws ≢ Some fault.BrokenOff
opening_ends words [] same = cc same
opening_ends words (w ∷ ws) same = by (opening_ends (with_word words w) ws) (word_fault words w) refl same
  where
    by : opening_fault (with_word words w) ws ≢ Some fault.BrokenOff → (o : Option EditFault) → word_fault words w ≡ o
        → option_or o (opening_fault (with_word words w) ws) ≢ Some fault.BrokenOff
    by later None is e = later e
    by later (Some f) is e = word_ends words w (is ∙ e)

pub list_found_ends : (ws : List (List ℕ)) → opening_fault [] ws ≢ Some fault.BrokenOff
list_found_ends ws = opening_ends [] ws

pub list_ends : (ws : List (List ℕ)) (f : EditFault) → IsFaultOrMemory (opening_fault [] ws) f → f ≢ fault.BrokenOff
list_ends ws f is same = opening_ends [] ws (subst (IsFaultOrMemory (opening_fault [] ws)) same is)

pub added_ends : (s : Contents) (word : List ℕ) → refusal_of_add s word ≢ Some fault.BrokenOff
added_ends s [] same = cc same
added_ends s (c ∷ word) same = by (nat_lt max_word_length (length (c ∷ word))) (is_word (c ∷ word) s.words) (nat_le max_words (length s.words)) same
  where
    by : (a b c : Bool) → cond a (Some fault.WordTooLong) (cond b (Some fault.Present) (cond c (Some fault.Full) None)) ≢ Some fault.BrokenOff
    by true b c same = cc same
    by false true c same = cc same
    by false false true same = cc same
    by false false false same = cc same

-- ---- runs that are cut off

-- more runs than those of one word
pub cut_more : (f : EditFault) (most total before count new_count : ℕ) → before ≤ count → count + most ≤ before + total → IsCut most f count new_count → IsCut total f before new_count
cut_more fault.OutOfMemory most total before count new_count more room cut =
    let few = cut.1 in
    let is = cut.2 in
    (new_count - before, omega (arith, more, room, few, is), omega (arith, more, is))
cut_more fault.BrokenOff most total before count new_count more room cut =
    let few = cut.1 in
    let is = cut.2 in
    (new_count - before, omega (arith, more, room, few, is), omega (arith, more, is))
cut_more _ most total before count new_count more room cut = cut

-- where enough counts are left for all of them
pub cut_stops : (f : EditFault) (needed count new_count : ℕ) → needed ≤ max_runs - count → IsCut needed f count new_count → IsStopOf needed f count new_count
cut_stops fault.OutOfMemory needed count new_count room cut = inr (cut.0, cut.1, room, cut.2)
cut_stops fault.BrokenOff needed count new_count room cut = (cut.0, cut.1, room, cut.2)
cut_stops _ needed count new_count room cut = absurd cut
