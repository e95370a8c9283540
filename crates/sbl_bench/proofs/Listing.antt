-- The words of a list: what is known of the vocabulary that they give, and the results of an edit by them.
use Rattle.std.proofs.Common.{◌≡◌, ◌≢◌, ◌∙◌, ◌<◌, ◌≤◌, ◌+◌, ◌-◌, ◌++◌, ◌||◌, ℕ, Bool, true, false, not, cond, nat_eq, List, [], ◌∷◌, length, map, take, drop, get_or, slice_index_or, Option, Some, None, Result, Ok, Err, IfOk, All, inl, inr, arith, tests, refl, sym, ap, subst}
use Rattle.std.specs.List.{AllByRecursion, IsDistinct}
use Rattle.std.specs.Option.{option_or}
use Rattle.std.specs.Str.{bytes_eq}
use Rattle.std.specs.declared.alloc.Global.{Global}
use Rattle.std.specs.declared.vec.Vec.{Vec}
use Rattle.indexmap.specs.IndexMap.{insert_entry}
use Rattle.std.proofs.lemmas.Bool.{or_parts}
use Rattle.std.proofs.lemmas.List.{length-append, length-map, map-append, take-append-drop}
use Rattle.std.proofs.lemmas.List.Elements.{All-nil, All-push}
use Rattle.sbl_bench.specs.BreakingOff.{EditsOrBreaks}
use Rattle.sbl_bench.specs.Contents.{Contents, IsFaultOrMemory, max_runs, opening_fault, word_fault}
use Rattle.sbl_bench.specs.Edits.{Edits, Remove, Words, BeforeEdit}
use Rattle.sbl_last_runs.specs.declared.run_trace.RunTrace.{RunTrace}
use Rattle.sbl_rows.specs.Setting.{Setting}
use Rattle.sbl_rows.proofs.Loops.{next}
use Rattle.sbl_rows.proofs.OrderFacts.{bytes_eq-back}
use Rattle.sbl_semantics.specs.Outcome.{outcome_of}
use Rattle.sbl_bench.specs.KeptRuns.{IsWord}
use Rattle.sbl_last_runs.specs.KeptEntries.{IsFresh, KeptWord, words_in}
use Rattle.sbl_bench.specs.Vocabulary.{is_skipped, is_word, vocabulary, with_word}
use Rattle.sbl_bench.specs.declared.fault.EditFault.{EditFault}
use Rattle.sbl_bench.specs.declared.fault.EditFault.TheVariants as fault
use Rattle.sbl_bench.specs.inside.ProofNames.{with_all}
use Rattle.sbl_bench.specs.inside.Stops.{IsStopOf}
use Rattle.sbl_bench.specs.inside.WordLists.{new_words, runs_of_word}
use Rattle.sbl_bench.proofs.MapEntries.{not_found}
use Rattle.sbl_bench.proofs.Meeting.{at_mapped}
use Rattle.sbl_bench.proofs.Taking.{Traces, goes_last, same_word}
use Rattle.sbl_bench.proofs.Refusals.{breaks, replaces, replaces_never, replaces_nothing}
use Rattle.sbl_bench.proofs.WordFaults.{room_of, short_of}

-- ---- a vocabulary

pub record IsVocabulary (words : List (List ℕ)) : Type 0 where
  pub sound : All IsWord words
  pub distinct : IsDistinct bytes_eq words
  pub few : length words ≤ 100000

each_push : (x w : List ℕ) (words : List (List ℕ)) → AllByRecursion (λ y. bytes_eq x y ≡ false) words → bytes_eq x w ≡ false → AllByRecursion (λ y. bytes_eq x y ≡ false) (words ++ w ∷ [])
each_push x w [] a e = (e, tt)
each_push x w (y ∷ words) a e = (a.0, each_push x w words a.1 e)

distinct_push : (words : List (List ℕ)) (w : List ℕ) → IsDistinct bytes_eq words → is_word w words ≡ false → IsDistinct bytes_eq (words ++ w ∷ [])
unfolding IsDistinct
distinct_push [] w d new = (tt, tt)
distinct_push (x ∷ words) w d new =
    let p = or_parts (bytes_eq w x) (is_word w words) new in
    (each_push x w words d.0 (bytes_eq-back x w ∙ p.0), distinct_push words w d.1 p.1)

-- a word of a list without repeats is not among those before it
pub new_at : (before : List (List ℕ)) (w : List ℕ) (after : List (List ℕ)) → IsDistinct bytes_eq (before ++ w ∷ after) → is_word w before ≡ false
unfolding IsDistinct
new_at [] w after d = refl
new_at (x ∷ before) w after d = rw (bytes_eq-back w x ∙ apart before d.0, new_at before w after d.1) refl
  where
    apart : (ws : List (List ℕ)) → AllByRecursion (λ y. bytes_eq x y ≡ false) (ws ++ w ∷ after) → bytes_eq x w ≡ false
    apart [] a = a.0
    apart (y ∷ ws) a = apart ws a.1

is_new_word : (w : List ℕ) (words : List (List ℕ)) → is_skipped w words ≡ false → (nat_eq (length w) 0 ≡ false) × (is_word w words ≡ false)
is_new_word [] words e = cc e
is_new_word (c ∷ w) words e = (grind (arith, tests), e)

one_more : (words : List (List ℕ)) (w : List ℕ) → word_fault words w ≡ None → IsVocabulary words → IsVocabulary (with_word words w)
one_more words w none v = by (is_skipped w words) refl
  where
    by : (b : Bool) → is_skipped w words ≡ b → IsVocabulary (with_word words w)
    by true e = rw e v
    by false e =
        let new = is_new_word w words e in
        let short : length w ≤ 255 = short_of words w none in
        let room : length words < 100000 = room_of words w none new.1 new.0 in
        let some : 0 < length w = grind (arith, tests, new.0) in
        let more : IsVocabulary (words ++ w ∷ []) = record {
          sound = All-push IsWord words w v.sound (some, short);
          distinct = distinct_push words w v.distinct new.1;
          few = rw (length-append words (w ∷ [])) (omega (arith, room));
        } in
        rw e more

first_none : (a b : Option EditFault) → option_or a b ≡ None → (a ≡ None) × (b ≡ None)
first_none None b e = (refl, e)
first_none (Some f) b e = cc e

all_more : (words ws : List (List ℕ)) → opening_fault words ws ≡ None → IsVocabulary words → IsVocabulary (with_all words ws)
all_more words [] none v = v
all_more words (w ∷ ws) none v =
    let p = first_none (word_fault words w) (opening_fault (with_word words w) ws) none in
    all_more (with_word words w) ws p.1 (one_more words w p.0 v)

pub vocabulary_is : (ws : List (List ℕ)) → opening_fault [] ws ≡ None → IsVocabulary (vocabulary ws)
unfolding IsDistinct
vocabulary_is ws none = all_more [] ws none (record { sound = All-nil IsWord; distinct = tt; few = omega arith })

-- ---- one word of the list after another

-- a text is put in, and its word comes last
pub put_seen : (has has' : List ℕ → Bool) (words words' : List (List ℕ)) (w : List ℕ) → ((q : List ℕ) → has q ≡ is_word q words) → ((q : List ℕ) → has' q ≡ (bytes_eq w q || has q))
    → words' ≡ words ++ w ∷ [] → (q : List ℕ) → has' q ≡ is_word q words'
put_seen has has' words words' w seen put last q =
    put q ∙ or_swap (bytes_eq w q) (has q) ∙ ap (λ (b : Bool). b || bytes_eq w q) (seen q) ∙ ap (λ (b : Bool). is_word q words || b) (bytes_eq-back w q)
    ∙ sym (word-push q words w) ∙ ap (is_word q) (sym last)
  where
    or_swap : (a b : Bool) → (a || b) ≡ (b || a)
    or_swap true true = refl
    or_swap true false = refl
    or_swap false true = refl
    or_swap false false = refl

    word-push : (q : List ℕ) (ws : List (List ℕ)) (w : List ℕ) → is_word q (ws ++ w ∷ []) ≡ (is_word q ws || bytes_eq q w)
    word-push q [] w = or_false (bytes_eq q w)
      where
        or_false : (b : Bool) → (b || false) ≡ b
        or_false true = refl
        or_false false = refl
    word-push q (x ∷ ws) w = by (bytes_eq q x) (word-push q ws w)
      where
        by : (b : Bool) → is_word q (ws ++ w ∷ []) ≡ (is_word q ws || bytes_eq q w) → (b || is_word q (ws ++ w ∷ [])) ≡ ((b || is_word q ws) || bytes_eq q w)
        by true rest = refl
        by false rest = rest

pub is_fault : (o : Option EditFault) (f : EditFault) → o ≡ Some f → IsFaultOrMemory o f
is_fault o fault.OutOfMemory is = tt
is_fault o _ is = is

module _ (all old rest more : List (List ℕ)) (w : List ℕ) (split : rest ≡ w ∷ more) where
  pub fault_next : (new : List (List ℕ)) → opening_fault [] all ≡ opening_fault old rest → word_fault old w ≡ None → new ≡ with_word old w → opening_fault [] all ≡ opening_fault new more
  fault_next new so none grown =
      so ∙ ap (opening_fault old) split ∙ ap (λ (o : Option EditFault). option_or o (opening_fault (with_word old w) more)) none ∙ ap (λ (ws : List (List ℕ)). opening_fault ws more) (sym grown)

  pub words_next : (new : List (List ℕ)) → vocabulary all ≡ with_all old rest → new ≡ with_word old w → vocabulary all ≡ with_all new more
  words_next new so grown = so ∙ ap (with_all old) split ∙ ap (λ (ws : List (List ℕ)). with_all ws more) (sym grown)

  fault_found : (f : EditFault) → opening_fault [] all ≡ opening_fault old rest → word_fault old w ≡ Some f → opening_fault [] all ≡ Some f
  fault_found f so is = so ∙ ap (opening_fault old) split ∙ ap (λ (o : Option EditFault). option_or o (opening_fault (with_word old w) more)) is

  -- the fault of a word is that of the list
  pub fault_here : (f : EditFault) → opening_fault [] all ≡ opening_fault old rest → IsFaultOrMemory (word_fault old w) f → IsFaultOrMemory (opening_fault [] all) f
  fault_here fault.OutOfMemory so is = tt
  fault_here _ so is = fault_found _ so is

-- ---- runs

-- so many runs do the words need, by the first of them
pub new_count : (before : List (List ℕ)) (w : List ℕ) (ws : List (List ℕ)) → length (new_words before (w ∷ ws)) ≡ runs_of_word before w + length (new_words before ws)
new_count before w ws = by (is_word w before)
  where
    by : (b : Bool) → length (cond (not b) (w ∷ new_words before ws) (new_words before ws)) ≡ cond b 0 1 + length (new_words before ws)
    by true = omega arith
    by false = omega arith

pub new_count_at : (before rest more : List (List ℕ)) (w : List ℕ) → rest ≡ w ∷ more → length (new_words before rest) ≡ runs_of_word before w + length (new_words before more)
new_count_at before rest more w split = ap (λ (ws : List (List ℕ)). length (new_words before ws)) split ∙ new_count before w more

pub no_run_of : (before : List (List ℕ)) (w : List ℕ) → is_word w before ≡ true → runs_of_word before w ≡ 0
no_run_of before w there = ap (λ (b : Bool). cond b 0 1) there

pub one_run_of : (before : List (List ℕ)) (w : List ℕ) → is_word w before ≡ false → runs_of_word before w ≡ 1
one_run_of before w new = ap (λ (b : Bool). cond b 0 1) new

-- a run that is kept is as fresh as it was
pub kept_fresh : {E : Type 0} (r : Result RunTrace E) (t : Setting) (word : List ℕ) (traced : RunTrace) → IfOk r (λ run. run.outcome ≡ traced.outcome)
    → IfOk r (λ run. run.touches.items ≡ traced.touches.items) → IfOk r (λ run. run.used ≡ traced.used) → IsFresh t word traced → IfOk r (λ run. IsFresh t word run)
kept_fresh (Ok run) t word traced outcome touches used fresh = record { outcome = ap outcome_of outcome ∙ fresh.outcome; touches = touches ∙ fresh.touches; used = used ∙ fresh.used }
kept_fresh (Err e) t word traced outcome touches used fresh = tt

-- a new word is put last
pub goes_last_new : (m : Traces) (new : List KeptWord) (key : Vec ℕ Global) (last : RunTrace) (word : List ℕ) → key.items ≡ word → is_word word (words_in m.entries) ≡ false
    → new ≡ insert_entry same_word m.entries key last → new ≡ m.entries ++ (key, last) ∷ []
goes_last_new m new key last word is fresh put =
    goes_last m key last last new (not_found key.items m.entries (subst (λ (w : List ℕ). is_word w (words_in m.entries) ≡ false) (sym is) fresh)) refl put

-- ---- the words of a list

pub sound_at : {A : Type 0} (f : A → List ℕ) (ws : List A) (k : ℕ) (d : A) → All IsWord (map f ws) → k < length ws → IsWord (f (slice_index_or ws k d))
sound_at f ws k d words below =
    let same = length-map ws f in
    let w : IsWord (slice_index_or (map f ws) k (f d)) = words k (f d) (omega (arith, same, below)) in
    subst IsWord (at_mapped f ws k d) w

-- a word of a list without repeats is new after those before it
pub new_after : {A : Type 0} (f : A → List ℕ) (ws : List A) (k : ℕ) (d : A) (before : List (List ℕ)) → IsDistinct bytes_eq (map f ws) → k < length ws
    → before ≡ map f (take k ws) → is_word (f (get_or ws k d)) before ≡ false
new_after f ws k d before distinct below so =
    ap (is_word (f (get_or ws k d))) so
    ∙ new_at (map f (take k ws)) (f (get_or ws k d)) (map f (drop (k + 1) ws)) (subst (IsDistinct bytes_eq) (sym (ap (λ (l : List (List ℕ)). map f (take k ws) ++ l) (sym (next f ws k d (get_or ws k d) below refl)) ∙ sym (map-append f (take k ws) (drop k ws)) ∙ ap (map f) (take-append-drop k ws))) distinct)

-- ---- the edit

pub words_refused : (s : Contents) (ws : List (List ℕ)) (f : EditFault) → IsFaultOrMemory (opening_fault [] ws) f → Edits (Err f) s (Words ws) s
words_refused s ws fault.OutOfMemory is = BeforeEdit (λ w same. cc same) tt refl
words_refused s ws _ is = (inl is, refl)

module _ (s : Contents) (ws : List (List ℕ)) (none : opening_fault [] ws ≡ None) where
  abbrev need : ℕ
  need = length (new_words s.words (vocabulary ws))

  no_removal : (word : List ℕ) → Words ws ≢ Remove word
  no_removal word same = cc same

  pub words_stop : (f : EditFault) (count : ℕ) → IsStopOf need f s.count count → EditsOrBreaks (Err f) s (Words ws) (record s { count = count })
  words_stop fault.OutOfMemory count (inl same) = BeforeEdit no_removal tt (λ i. record s { count = same i })
  words_stop fault.OutOfMemory count (inr some) = replaces_nothing s (Words ws) s.setting s.words s.count need count no_removal (none, refl) refl refl some.2 refl (some.0, some.1, some.3)
  words_stop fault.MeterFull count full =
      subst (λ (n : ℕ). Edits (Err fault.MeterFull) s (Words ws) (record s { count = n })) (sym full.1) (replaces_never s (Words ws) s.setting s.count need (none, refl) refl refl full.0)
  words_stop fault.BrokenOff count cut = breaks s (Words ws) s.setting s.count need count (none, refl) refl refl cut.2 (cut.0, cut.1, cut.3)
  words_stop _ count stop = absurd stop

  pub words_replace : (words : List (List ℕ)) (count : ℕ) → words ≡ vocabulary ws → need ≤ max_runs - s.count → count ≡ s.count + need
      → Edits (Ok tt) s (Words ws) (record s { words = words; count = count })
  words_replace words count same room counts = replaces s (Words ws) s.setting words s.count need count (none, refl) refl refl room same counts
