-- What the tests of an addition, in their order, say of its refusal, and what its last step says of its answer.
use Rattle.std.proofs.Common.{nat_lt, ◌≡◌, ◌≢◌, ◌∙◌, ◌<◌, ◌≤◌, ◌+◌, ◌-◌, ◌++◌, ℕ, Bool, true, false, List, [], ◌∷◌, length, None, Result, Ok, Err, OnOk, OnErr, IfErr, inl, inr, refl, sym, ap, subst, arith}
use Rattle.std.proofs.lemmas.Bool.{le-ltb, lt-leb, or_parts}
use Rattle.std.proofs.lemmas.List.Elements.{filter-append}
use Rattle.std.proofs.lemmas.Slice.Eq.{bytes_eq-Decides}
use Rattle.std.specs.List.{filter}
use Rattle.std.specs.Str.{bytes_eq}
use Rattle.std.proofs.lemmas.Bool.Decides.{nat_tests}
use Rattle.std.proofs.lemmas.List.{length-map}
use Rattle.std.proofs.lemmas.Option.{none-some}
use Rattle.sbl_rows.specs.Setting.{Setting}
use Rattle.sbl_last_runs.specs.KeptEntries.{KeptWord, words_in}
use Rattle.sbl_bench.specs.declared.fault.EditFault.{EditFault}
use Rattle.sbl_bench.specs.declared.fault.EditFault.TheVariants as fault
use Rattle.sbl_bench.specs.BreakingOff.{IsBrokenOff}
use Rattle.sbl_bench.specs.Contents.{Contents, max_runs}
use Rattle.sbl_bench.specs.Edits.{Edit, Edits, Add, Remove, BeforeEdit, During, IsSettingAfter, refusal_of_add, runs_needed, words_after}
use Rattle.sbl_bench.specs.inside.ProofNames.{contents_after, lacks_counts}
use Rattle.sbl_bench.specs.inside.Stops.{IsStop}
use Rattle.sbl_bench.specs.Vocabulary.{is_word, without}

-- after all the tests a word is not refused
no_refusal : (s : Contents) (word : List ℕ) → 0 < length word → length word ≤ 255 → is_word word s.words ≡ false → length s.words < 100000
    → refusal_of_add s word ≡ None
no_refusal s [] h most new room = absurd (omega (arith, h))
no_refusal s (c ∷ cs) h most new room = rw (le-ltb 255 (length (c ∷ cs)) most, new, lt-leb 100000 (length s.words) room) refl

-- the same of the words of some entries, by what the tests answered
pub accepted_among : (script : Setting) (es : List KeptWord) (count : ℕ) (word : List ℕ) (known : Bool) (n : ℕ) → 0 < length word → length word ≤ 255
    → known ≡ is_word word (words_in es) → known ≡ false → n ≡ length es → n < 100000
    → refusal_of_add (record { setting = script; words = words_in es; count = count }) word ≡ None
accepted_among script es count word known n some most there new size room =
    no_refusal (record { setting = script; words = words_in es; count = count }) word some most (sym there ∙ new)
    (subst (λ (m : ℕ). m < 100000) (size ∙ sym (length-map es _)) room)

-- ---- runs

filter_none : (word : List ℕ) (words : List (List ℕ)) → is_word word words ≡ false → filter (bytes_eq word) words ≡ []
filter_none word [] h = refl
filter_none word (w ∷ words) h =
    let p = or_parts (bytes_eq word w) (is_word word words) h in
    rw p.0 (filter_none word words p.1)

-- a new word is the one that is run
pub one_run : (s : Contents) (word : List ℕ) → is_word word s.words ≡ false → runs_needed s (Add word) s.setting ≡ 1
one_run s word new =
    ap length (filter-append (bytes_eq word) s.words (word ∷ []) ∙ ap (λ (ws : List (List ℕ)). ws ++ filter (bytes_eq word) (word ∷ [])) (filter_none word s.words new))
    ∙ rw ((bytes_eq-Decides word word).1 refl) refl

-- a removal runs nothing
pub filter_off : (words : List (List ℕ)) → filter (λ w. false) words ≡ []
filter_off [] = refl
filter_off (w ∷ words) = filter_off words

pub no_run : (s : Contents) (word : List ℕ) → runs_needed s (Remove word) s.setting ≡ 0
no_run s word = ap length (filter_off (without word s.words))

-- ---- adding a word

-- where memory was refused before anything was run
pub edits_nothing : (s : Contents) (word : List ℕ) → refusal_of_add s word ≡ None → Edits (Err fault.OutOfMemory) s (Add word) s
edits_nothing s word free = BeforeEdit (λ w same. cc same) (λ f refused. absurd (none-some f (sym free ∙ refused))) refl

-- where no run can be counted any more
pub counts_no_more : (s : Contents) (word : List ℕ) → refusal_of_add s word ≡ None → is_word word s.words ≡ false → s.count ≡ max_runs
    → Edits (Err fault.MeterFull) s (Add word) s
counts_no_more s word free new full = (inr (s.setting, (free, refl), rw (one_run s word new, full) refl, refl), refl)

-- where one more run can be counted
one_left : (s : Contents) (word : List ℕ) → is_word word s.words ≡ false → s.count < max_runs → lacks_counts s (Add word) s.setting ≡ false
one_left s word new small = rw (one_run s word new) (le-ltb (max_runs - s.count) 1 (omega (arith, small)))

-- the answer of the last step, which runs the word and puts it last
pub adds : (r : Result (Unit {0}) EditFault) (s : Contents) (word : List ℕ) (words : List (List ℕ)) (count : ℕ) → refusal_of_add s word ≡ None
    → is_word word s.words ≡ false → s.count < max_runs
    → OnOk r (words ≡ s.words ++ word ∷ []) → OnOk r (count ≡ s.count + 1)
    → OnErr r (words ≡ s.words) → IfErr r (λ f. IsStop 1 f s.count count)
    → Edits r s (Add word) (record s { words = words; count = count })
adds (Ok u) s word words count free new small last counts _ _ = record {
  setting = s.setting;
  after = (free, refl);
  counts = one_left s word new small;
  is = λ i. record { setting = s.setting; words = last i; count = (counts ∙ ap (λ (n : ℕ). s.count + n) (sym (one_run s word new))) i };
}
adds (Err fault.OutOfMemory) s word words count free new small _ _ same stop =
    During (λ w same. cc same) (contents_after s (Add word) s.setting) (record { setting = s.setting; after = (free, refl); counts = one_left s word new small; is = refl })
    stop.0 (rw (one_run s word new) stop.1) (λ i. record s { words = same i; count = stop.2 i })
adds (Err fault.MeterFull) s word words count free new small _ _ same stop = (
  inr (s.setting, (free, refl), rw (one_run s word new, stop.0) refl, refl),
  λ i. record s { words = same i; count = stop.1 i },
)
adds (Err _) s word words count free new small _ _ same stop = absurd stop

-- ---- removing a word

pub no_word : (s : Contents) (word : List ℕ) → is_word word s.words ≡ false → Edits (Err fault.Absent) s (Remove word) s
no_word s word absent = (inl (absent, refl), refl)

pub removes : (s : Contents) (word : List ℕ) (words : List (List ℕ)) → is_word word s.words ≡ true → words ≡ without word s.words
    → Edits (Ok tt) s (Remove word) (record s { words = words })
removes s word words there gone = record {
  setting = s.setting;
  after = (there, refl);
  counts = rw (no_run s word) (le-ltb (max_runs - s.count) 0 (omega arith));
  is = λ i. record { setting = s.setting; words = gone i; count = kept i };
}
  where
    kept : s.count ≡ s.count + runs_needed s (Remove word) s.setting
    kept = rw (no_run s word) (omega arith)

-- ---- editing the script

-- where enough counts are left for the words that it has to run
enough : (s : Contents) (e : Edit) (t : Setting) (before needed : ℕ) → before ≡ s.count → needed ≡ runs_needed s e t → needed ≤ max_runs - before → lacks_counts s e t ≡ false
enough s e t before needed so many room = rw (sym so, sym many) (le-ltb (max_runs - before) needed room)

-- where fewer counts are left than that
pub replaces_never : (s : Contents) (e : Edit) (p : Setting) (count needed : ℕ) → IsSettingAfter s e p
    → count ≡ s.count → needed ≡ runs_needed s e p → max_runs - count < needed → Edits (Err fault.MeterFull) s e s
replaces_never s e p count needed after so many full =
    let test : nat_lt (max_runs - count) needed ≡ true = grind (arith, nat_tests) in
    (inr (p, after, rw (sym so, sym many) test, refl), refl)

-- where memory was refused after some runs
pub replaces_nothing : (s : Contents) (e : Edit) (p : Setting) (words : List (List ℕ)) (before needed count : ℕ) → ((word : List ℕ) → e ≢ Remove word) → IsSettingAfter s e p
    → before ≡ s.count → needed ≡ runs_needed s e p → needed ≤ max_runs - before → words ≡ s.words
    → ((n : ℕ) × (n ≤ runs_needed s e p) × (count ≡ s.count + n))
    → Edits (Err fault.OutOfMemory) s e (record s { words = words; count = count })
replaces_nothing s e p words before needed count wanted after so many room same ran =
    During wanted (contents_after s e p) (record { setting = p; after = after; counts = enough s e p before needed so many room; is = refl })
    ran.0 ran.1 (λ i. record { setting = s.setting; words = same i; count = ran.2 i })

-- where it was broken off before one of the runs
pub breaks : (s : Contents) (e : Edit) (p : Setting) (before needed count : ℕ) → IsSettingAfter s e p
    → before ≡ s.count → needed ≡ runs_needed s e p → needed ≤ max_runs - before → ((n : ℕ) × (n < runs_needed s e p) × (count ≡ s.count + n))
    → IsBrokenOff s e (record s { count = count })
breaks s e p before needed count after so many room cut = record {
  made = contents_after s e p;
  is = record { setting = p; after = after; counts = enough s e p before needed so many room; is = refl };
  runs = cut.0;
  fewer = cut.1;
  after = λ i. record s { count = cut.2 i };
}

pub replaces : (s : Contents) (e : Edit) (p : Setting) (words : List (List ℕ)) (before needed count : ℕ) → IsSettingAfter s e p
    → before ≡ s.count → needed ≡ runs_needed s e p → needed ≤ max_runs - before
    → words ≡ words_after s e → count ≡ s.count + runs_needed s e p → Edits (Ok tt) s e (record { setting = p; words = words; count = count })
replaces s e p words before needed count after so many room same counts = record {
  setting = p;
  after = after;
  counts = enough s e p before needed so many room;
  is = λ i. record { setting = p; words = same i; count = counts i };
}
