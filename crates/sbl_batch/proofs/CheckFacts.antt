-- Facts on checks.
use Rattle.std.proofs.Common.{◌≡◌, ◌∙◌, ◌++◌, ◌+◌, ◌<◌, ◌≤◌, ℕ, zero, suc, Bool, true, false, List, [], ◌∷◌, Option, Some, None, Err, codes, length, take, nat_lt, refl, sym, ap, subst, arith, append_assoc}
use Rattle.std.proofs.lemmas.Bool.Decides.{nat_tests}
use Rattle.std.proofs.lemmas.Grind.{flat_map-append}
use Rattle.std.proofs.lemmas.List.{append-nil, length-append}
use Rattle.std.proofs.KnownBytes.{Appends-nil, Appends-trans}
use Rattle.std.specs.Str.{chars}
use Rattle.std.specs.Io.KnownBytes.{Appends}
use Rattle.std.specs.declared.vec.Vec.{Vec}
use Rattle.std.specs.declared.alloc.Global.{Global}
use Rattle.sbl_ast.specs.Source.{Source}
use Rattle.sbl_semantics.specs.Limit.{default_limit}
use Rattle.sbl_semantics.specs.Outcome.{Outcome', run_of}
use Rattle.sbl_batch.specs.Checking.{Progress, ComparesPair, IsRow, count}
use Rattle.sbl_batch.specs.Differences.{Got, Refused, IsChecked, all_differences, difference, differences, ending, made_of, of_outcome, pair_fault, row_of}
use Rattle.sbl_input.specs.FileWords.{line_fault}
use Rattle.sbl_io.specs.LinesOf.{lines_of}
use Rattle.sbl_io.specs.Records.{record_line, records_text}
use Rattle.sbl_io.specs.declared.faults.ServeFault.{ServeFault}
use Rattle.sbl_io.specs.declared.faults.ServeFault.TheVariants as fault

-- ---- one word

pub made_too_long : (script : Source) (word : List ℕ) → 255 < length word → Refused (codes "WordTooLong") ≡ made_of script word
made_too_long script word long = let test : nat_lt 255 (length word) ≡ true = grind (arith, nat_tests) in rw test refl

pub made_by_run : (script : Source) (word : List ℕ) (o : Outcome') → length word ≤ 255 → o ≡ run_of script word default_limit → of_outcome o ≡ made_of script word
made_by_run script word o fits is = let test : nat_lt 255 (length word) ≡ false = grind (arith, nat_tests) in rw test (ap of_outcome is)

-- ---- two lines

pub no_pair_fault : (word expected : List ℕ) → line_fault word ≡ None → line_fault expected ≡ None → pair_fault word expected ≡ None
no_pair_fault word expected a b = rw (a, b) refl

pub difference_is : (script : Source) (n : ℕ) (word expected w e : List ℕ) (g : Got) → w ≡ word → e ≡ expected → g ≡ made_of script (chars w)
    → row_of n w e g ≡ difference script n word expected
unfolding difference
difference_is script n word expected w e g same_word same_stem made = rw (made, same_word, same_stem) refl

pub no_row : (o : Option (Vec ℕ Global)) (rows : List (List (List ℕ))) → o ≡ None → IsRow o rows → rows ≡ []
no_row None rows e h = h
no_row (Some text) rows e h = cc

pub one_row : (o : Option (Vec ℕ Global)) (rows : List (List (List ℕ))) (t : Vec ℕ Global) → o ≡ Some t → IsRow o rows
    → (fields : List (List ℕ)) × (rows ≡ fields ∷ []) × (t.items ≡ record_line fields)
one_row None rows t e h = cc
one_row (Some text) rows t e h = let same : text ≡ t = cc in (h.0, h.1, ap (λ (v : Vec ℕ Global). v.items) (sym same) ∙ h.2)

pub row_text_is : (rows : List (List (List ℕ))) (fields : List (List ℕ)) (text : List ℕ) → rows ≡ fields ∷ [] → text ≡ record_line fields → records_text rows ≡ text
row_text_is rows fields text is made = ap records_text is ∙ append-nil (record_line fields) ∙ sym made

-- ---- two lists

one_step : (script : Source) (n : ℕ) (w e : List ℕ) (ws es : List (List ℕ)) → pair_fault w e ≡ None
    → differences script n (w ∷ ws) (e ∷ es) ≡ difference script n w e ++ differences script (n + 1) ws es
unfolding differences
one_step script n w e ws es none = rw none refl

no_step : (script : Source) (n : ℕ) (w e : List ℕ) (ws es : List (List ℕ)) (f : ServeFault) → pair_fault w e ≡ Some f → differences script n (w ∷ ws) (e ∷ es) ≡ []
unfolding differences
no_step script n w e ws es f some = rw some refl

goes_past : (w e : List ℕ) (ws es : List (List ℕ)) → pair_fault w e ≡ None → ending (w ∷ ws) (e ∷ es) ≡ ending ws es
unfolding ending
goes_past w e ws es none = rw none refl

stops_at : (w e : List ℕ) (ws es : List (List ℕ)) (f : ServeFault) → pair_fault w e ≡ Some f → ending (w ∷ ws) (e ∷ es) ≡ Some f
unfolding ending
stops_at w e ws es f some = rw some refl

no_words : (script : Source) (n : ℕ) (es : List (List ℕ)) → differences script n [] es ≡ []
unfolding differences
no_words script n es = refl

no_stems : (script : Source) (n : ℕ) (w : List ℕ) (ws : List (List ℕ)) → differences script n (w ∷ ws) [] ≡ []
unfolding differences
no_stems script n w ws = refl

both_end : ending [] [] ≡ None
unfolding ending
both_end = refl

words_end : (e : List ℕ) (es : List (List ℕ)) → ending [] (e ∷ es) ≡ Some fault.LengthsDiffer
unfolding ending
words_end e es = refl

stems_end : (w : List ℕ) (ws : List (List ℕ)) → ending (w ∷ ws) [] ≡ Some fault.LengthsDiffer
unfolding ending
stems_end w ws = refl

texts : (xs ys : List (List (List ℕ))) → records_text (xs ++ ys) ≡ records_text xs ++ records_text ys
texts xs ys = flat_map-append record_line xs ys

pub compared_first : (script : Source) (words expected : List ℕ) (held : Option (List ℕ)) → Progress script words expected words expected 1 0 held held
compared_first script words expected held = record { done = []; rows = refl; ends = refl; found_is = refl; text = Appends-nil held }

module _ {script : Source} {words expected words_left expected_left : List ℕ} {n found : ℕ} {held h : Option (List ℕ)}
    (so : Progress script words expected words_left expected_left n found held h) where
  -- the rows of the lines that are left end here, with this ending
  ends_here : (o : Option ServeFault) → differences script n (lines_of words_left) (lines_of expected_left) ≡ [] → ending (lines_of words_left) (lines_of expected_left) ≡ o
      → (ending (lines_of words) (lines_of expected) ≡ o) × (found ≡ length (all_differences script words expected))
      × Appends held h (records_text (all_differences script words expected))
  ends_here o none end =
      let all : so.done ≡ all_differences script words expected = sym (append-nil so.done) ∙ ap (λ (r : List (List (List ℕ))). so.done ++ r) (sym none) ∙ sym so.rows in
      (so.ends ∙ end, so.found_is ∙ ap length all, subst (λ (r : List (List (List ℕ))). Appends held h (records_text r)) all so.text)

  pub compared_all : lines_of words_left ≡ [] → lines_of expected_left ≡ []
      → (ending (lines_of words) (lines_of expected) ≡ None) × (found ≡ length (all_differences script words expected))
      × Appends held h (records_text (all_differences script words expected))
  compared_all no_word no_stem = ends_here None (rw (no_word, no_stem) (no_words script n [])) (rw (no_word, no_stem) both_end)

  pub fewer_words : (e : List ℕ) (es : List (List ℕ)) → lines_of words_left ≡ [] → lines_of expected_left ≡ e ∷ es → IsChecked script words expected held h (Err fault.LengthsDiffer)
  fewer_words e es no_word stem =
      let end = ends_here (Some fault.LengthsDiffer) (rw (no_word, stem) (no_words script n (e ∷ es))) (rw (no_word, stem) (words_end e es)) in
      (end.0, end.2)

  pub fewer_stems : (w : List ℕ) (ws : List (List ℕ)) → lines_of words_left ≡ w ∷ ws → lines_of expected_left ≡ [] → IsChecked script words expected held h (Err fault.LengthsDiffer)
  fewer_stems w ws word no_stem =
      let end = ends_here (Some fault.LengthsDiffer) (rw (word, no_stem) (no_stems script n w ws)) (rw (word, no_stem) (stems_end w ws)) in
      (end.0, end.2)

  pub compared_more : (w e words_after expected_after : List ℕ) (k : ℕ) (new : Option (List ℕ)) → lines_of words_left ≡ w ∷ lines_of words_after → lines_of expected_left ≡ e ∷ lines_of expected_after
      → pair_fault w e ≡ None → length (difference script n w e) ≡ k → Appends h new (records_text (difference script n w e))
      → Progress script words expected words_after expected_after (n + 1) (found + k) held new
  compared_more w e words_after expected_after k new word stem none count writes = record {
    done = so.done ++ difference script n w e;
    rows =
        so.rows ∙ ap (λ (r : List (List (List ℕ))). so.done ++ r) (rw (word, stem) (one_step script n w e _ _ none))
        ∙ sym (append_assoc so.done (difference script n w e) _);
    ends = so.ends ∙ rw (word, stem) (goes_past w e _ _ none);
    found_is = rw (length-append so.done (difference script n w e), count, so.found_is) refl;
    text = rw (texts so.done (difference script n w e)) (Appends-trans held h new _ _ so.text writes);
  }

pub one_counted : (n m : ℕ) (differs : Bool) → differs ≡ true → m ≡ n + 1 → m ≡ n + count differs
one_counted n m differs so_is is = rw so_is is

pub none_counted : (n m : ℕ) (differs : Bool) → differs ≡ false → m ≡ n → m ≡ n + count differs
none_counted n m differs so_is is = let same : m ≡ n + 0 = omega arith in rw so_is same

-- what was written is a prefix of all
prefix_of : (a b : List ℕ) (k : ℕ) → (n : ℕ) × (take n (a ++ b) ≡ take k a)
prefix_of [] b zero = (0, refl)
prefix_of [] b (suc k) = (0, refl)
prefix_of (x ∷ a) b zero = (0, refl)
prefix_of (x ∷ a) b (suc k) = let r = prefix_of a b k in (suc r.0, ap (λ (t : List ℕ). x ∷ t) r.1)

prefix_after : (a t b : List ℕ) → (n : ℕ) × (take n b ≡ t) → (n : ℕ) × (take n (a ++ b) ≡ a ++ t)
prefix_after [] t b prefix = prefix
prefix_after (x ∷ a) t b prefix = let r = prefix_after a t b prefix in (suc r.0, ap (λ (t : List ℕ). x ∷ t) r.1)

module _ {script : Source} {words expected words_left expected_left : List ℕ} {n found : ℕ} {held h : Option (List ℕ)}
    (so : Progress script words expected words_left expected_left n found held h) (w e : List ℕ) (ws es : List (List ℕ))
    (word : lines_of words_left ≡ w ∷ ws) (stem : lines_of expected_left ≡ e ∷ es) (new : Option (List ℕ)) where
  -- a prefix of the row in hand was written
  breaks_off : (k : ℕ) → pair_fault w e ≡ None → Appends h new (take k (records_text (difference script n w e)))
      → (m : ℕ) × Appends held new (take m (records_text (all_differences script words expected)))
  breaks_off k none writes =
      let d = difference script n w e in
      let rest = differences script (n + 1) ws es in
      let all : all_differences script words expected ≡ so.done ++ (d ++ rest) =
      so.rows ∙ ap (λ (r : List (List (List ℕ))). so.done ++ r) (rw (word, stem) (one_step script n w e ws es none)) in
      let text : records_text (all_differences script words expected) ≡ records_text so.done ++ (records_text d ++ records_text rest) =
      ap records_text all ∙ texts so.done (d ++ rest) ∙ ap (λ (t : List ℕ). records_text so.done ++ t) (texts d rest) in
      let prefix = prefix_after (records_text so.done) (take k (records_text d)) (records_text d ++ records_text rest) (prefix_of (records_text d) (records_text rest) k) in
      (prefix.0, subst (λ (t : List ℕ). Appends held new t) (sym prefix.1 ∙ ap (take prefix.0) (sym text)) (Appends-trans held h new _ _ so.text writes))

  -- nothing was written, and the lines have this fault
  refused_at : (f : ServeFault) → pair_fault w e ≡ Some f → Appends h new []
      → (ending (lines_of words) (lines_of expected) ≡ Some f) × Appends held new (records_text (all_differences script words expected))
  refused_at f some writes =
      let all : so.done ≡ all_differences script words expected =
      sym (append-nil so.done) ∙ ap (λ (r : List (List (List ℕ))). so.done ++ r) (sym (rw (word, stem) (no_step script n w e ws es f some))) ∙ sym so.rows in
      let text : records_text so.done ++ [] ≡ records_text (all_differences script words expected) = append-nil (records_text so.done) ∙ ap records_text all in
      (so.ends ∙ rw (word, stem) (stops_at w e ws es f some), subst (λ (t : List ℕ). Appends held new t) text (Appends-trans held h new _ _ so.text writes))

  pub compared_fails : (f : ServeFault) → ComparesPair script n w e h new (Err f) → IsChecked script words expected held new (Err f)
  compared_fails fault.Read pair = refused_at fault.Read pair.0 pair.1
  compared_fails fault.Write pair = breaks_off pair.1 pair.0 pair.2
  compared_fails fault.LineTooLong pair = refused_at fault.LineTooLong pair.0 pair.1
  compared_fails fault.Cut pair = refused_at fault.Cut pair.0 pair.1
  compared_fails fault.LengthsDiffer pair = refused_at fault.LengthsDiffer pair.0 pair.1
  compared_fails fault.NotText pair = refused_at fault.NotText pair.0 pair.1
  compared_fails fault.OutOfMemory pair = breaks_off 0 pair.0 pair.1
