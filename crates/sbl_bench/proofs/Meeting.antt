-- Which words an edit of the script meets, and what their runs change.
use Rattle.std.proofs.Common.{◌≡◌, ◌∙◌, ◌⊎◌, ◌||◌, ◌<◌, ◌≤◌, inl, inr, ◌++◌, ℕ, zero, suc, Bool, true, false, cond, List, [], ◌∷◌, Option, Some, None, IfSome, IsSome, slice_index_or, length, map, arith, append_assoc, refl, sym, ap, subst}
use Rattle.std.specs.List.{All, filter, list_any}
use Rattle.std.specs.Str.{bytes_eq}
use Rattle.std.proofs.lemmas.Slice.Eq.{bytes_eq-Decides}
use Rattle.std.proofs.lemmas.List.{length-map}
use Rattle.std.proofs.lemmas.List.Elements.{All-cons, All-head, All-tail}
use Rattle.std.proofs.Math.Path.{fun_ext}
use Rattle.std.specs.Prelude.{if◌then◌else◌}
use Rattle.sbl_semantics.specs.Outcome.{run_of, touches_of, used_of}
use Rattle.sbl_last_runs.specs.declared.run_trace.RunTrace.{RunTrace}
use Rattle.sbl_bench.specs.inside.AffectedWords.{AffectedWords, is_affected, is_affected_run}
use Rattle.sbl_last_runs.specs.RunChanges.{AreAnew, AreRun, Rerun, is_changed, view_change, view_run}
use Rattle.sbl_bench.specs.inside.Changes.{AreStill, Brings, is_met, met_words, rerun_of, reruns}
use Rattle.sbl_bench.specs.Contents.{Contents}
use Rattle.sbl_bench.specs.Edits.{Edit, needs_run, runs_needed}
use Rattle.sbl_bench.specs.KeptRuns.{IsWord}
use Rattle.sbl_last_runs.specs.KeptEntries.{KeptWord, AreFresh, IsFresh, words_in}
use Rattle.sbl_last_runs.specs.Pairs.{Text, find}
use Rattle.sbl_rows.specs.Setting.{Setting}
use Rattle.sbl_rows.specs.inside.SameRuns.{RunsSame}
use Rattle.sbl_last_runs.specs.declared.change.RunChange.{RunChange}

-- ---- which words are met

-- a fresh run is that of its word
pub run_is : (t : Setting) (word : List ℕ) (r : RunTrace) → IsFresh t word r → view_run word r ≡ rerun_of t word
run_is t word r f = λ i. record { word = word; outcome = f.outcome i; touches = f.touches i; used = f.used i }

-- a word's last run is affected if a fresh one is
pub met_fresh : (s : Setting) (a : AffectedWords) (e : KeptWord) → IsFresh s e.0.items e.1 → is_met a e ≡ is_affected s a e.0.items
met_fresh s a e h = λ i. is_affected_run a (h.touches i) (h.used i)

-- as many entries are met as words of the vocabulary
pub met_count : (s : Setting) (a : AffectedWords) (es : List KeptWord) → AreFresh s es
    → length (met_words a es) ≡ length (filter (is_affected s a) (words_in es))
met_count s a [] h = refl
met_count s a (e ∷ es) h = by (is_met a e) refl (met_count s a es h.1)
  where
    by : (b : Bool) → is_met a e ≡ b → length (met_words a es) ≡ length (filter (is_affected s a) (words_in es))
        → length (met_words a (e ∷ es)) ≡ length (filter (is_affected s a) (words_in (e ∷ es)))
    by true k rest = rw (k, sym (met_fresh s a e h.0) ∙ k) (ap suc rest)
    by false k rest = rw (k, sym (met_fresh s a e h.0) ∙ k) rest

-- so many runs does the edit need
pub needed_is : (s : Contents) (e : Edit) (t : Setting) (a : AffectedWords) (es : List KeptWord) → Brings s e t a → s.words ≡ words_in es → AreFresh s.setting es
    → length (met_words a es) ≡ runs_needed s e t
needed_is s e t a es b words fresh =
    met_count s.setting a es fresh
    ∙ sym (ap (λ (needs_run : List ℕ → Bool). length (filter needs_run (words_in es))) (fun_ext b.met_is))
    ∙ sym (ap (λ (ws : List (List ℕ)). length (filter (needs_run s e t) ws)) (b.words ∙ words))

-- a word that is not met runs as before
pub still : (s t : Setting) (a : AffectedWords) → ((w : List ℕ) → is_affected s a w ≡ false → RunsSame s t w) → (es : List KeptWord) → AreFresh s es → AreStill (is_met a) t es
still s t a law [] h = tt
still s t a law (e ∷ es) h = (λ unmet. stays e.1 (law e.0.items (sym (met_fresh s a e h.0) ∙ unmet)) h.0, still s t a law es h.1)
  where
    stays : (r : RunTrace) → RunsSame s t e.0.items → IsFresh s e.0.items r → IsFresh t e.0.items r
    stays r x f = record { outcome = f.outcome ∙ sym x.outcome; touches = f.touches ∙ sym x.touches; used = f.used ∙ sym x.used }

-- ---- one word after another

-- one more entry is looked at, and its word is not met
pub not_met : (a : AffectedWords) (before : List (List ℕ)) (es rest all : List KeptWord) (e : KeptWord) → before ++ met_words a es ≡ met_words a all
    → es ≡ e ∷ rest → is_met a e ≡ false → before ++ met_words a rest ≡ met_words a all
not_met a before es rest all e so split off =
    ap (λ (b : Bool). before ++ words_in (cond b (e ∷ filter (is_met a) rest) (filter (is_met a) rest))) (sym off)
    ∙ ap (λ (l : List KeptWord). before ++ met_words a l) (sym split) ∙ so

-- one more entry is looked at, and its word is met
pub one_met : (a : AffectedWords) (before more : List (List ℕ)) (es rest all : List KeptWord) (e : KeptWord) → before ++ met_words a es ≡ met_words a all
    → es ≡ e ∷ rest → is_met a e ≡ true → more ≡ before ++ e.0.items ∷ [] → more ++ met_words a rest ≡ met_words a all
one_met a before more es rest all e so split on next =
    ap (λ (l : List (List ℕ)). l ++ met_words a rest) next
    ∙ append_assoc before (e.0.items ∷ []) (met_words a rest)
    ∙ ap (λ (b : Bool). before ++ words_in (cond b (e ∷ filter (is_met a) rest) (filter (is_met a) rest))) (sym on)
    ∙ ap (λ (l : List KeptWord). before ++ met_words a l) (sym split) ∙ so

-- the words that are met are words
pub met_sound : (a : AffectedWords) (es : List KeptWord) → All IsWord (words_in es) → All IsWord (met_words a es)
met_sound a [] h = h
met_sound a (e ∷ es) h = by (is_met a e) (met_sound a es (All-tail IsWord e.0.items (words_in es) h))
  where
    by : (b : Bool) → All IsWord (met_words a es) → All IsWord (words_in (cond b (e ∷ filter (is_met a) es) (filter (is_met a) es)))
    by true rest = All-cons IsWord e.0.items (met_words a es) (All-head IsWord e.0.items (words_in es) h) rest
    by false rest = rest

pub at_mapped : {A B : Type 0} (f : A → B) (xs : List A) (k : ℕ) (d : A) → slice_index_or (map f xs) k (f d) ≡ f (slice_index_or xs k d)
at_mapped f [] k d = refl
at_mapped f (x ∷ xs) zero d = refl
at_mapped f (x ∷ xs) (suc k) d = at_mapped f xs k d

-- ---- what is met, and the words that it has

-- a word that is not met is not run
abbrev with_change : Bool → Rerun → List Rerun → List Rerun
with_change needs_run r rs = if needs_run then r ∷ rs else rs

abbrev changes_of : (KeptWord → Bool) → Setting → List KeptWord → List Rerun
changes_of needs_run script [] = []
changes_of needs_run script (e ∷ es) = with_change (needs_run e) (rerun_of script e.0.items) (changes_of needs_run script es)

changes_are : (needs_run : KeptWord → Bool) (script : Setting) (es : List KeptWord) → reruns script (words_in (filter needs_run es)) ≡ changes_of needs_run script es
changes_are needs_run script [] = refl
changes_are needs_run script (e ∷ es) = by (needs_run e) (changes_are needs_run script es)
  where
    by : (b : Bool) → reruns script (words_in (filter needs_run es)) ≡ changes_of needs_run script es
        → reruns script (words_in (cond b (e ∷ filter needs_run es) (filter needs_run es))) ≡ with_change b (rerun_of script e.0.items) (changes_of needs_run script es)
    by true rest = ap (λ (rs : List Rerun). rerun_of script e.0.items ∷ rs) rest
    by false rest = rest

-- ---- from the list of the changes to what is anew

record RunOf (script : Setting) (es : List KeptWord) (r : Rerun) : Type 0 where
  pub outcome : r.outcome ≡ run_of script.script r.word script.limit
  pub touches : r.touches ≡ touches_of script.script r.word script.limit
  pub used : r.used ≡ used_of script.script r.word script.limit
  pub there : IsSome (find r.word es)

found_later : (word : List ℕ) (e : KeptWord) (es : List KeptWord) → IsSome (find word es) → IsSome (find word (e ∷ es))
found_later word e es h = by (bytes_eq word e.0.items)
  where
    by : (b : Bool) → IsSome (cond b (Some e.1) (find word es))
    by true = refl
    by false = h

run_later : (script : Setting) (e : KeptWord) (es : List KeptWord) (rs : List Rerun) → All (RunOf script es) rs → All (RunOf script (e ∷ es)) rs
run_later script e es rs a = λ k d h.
    let p = a k d h in
    record { outcome = p.outcome; touches = p.touches; used = p.used; there = found_later (slice_index_or rs k d).word e es p.there }

-- each change is that of a word that is there, with its new run
runs_there : (needs_run : KeptWord → Bool) (script : Setting) (es : List KeptWord) → All (RunOf script es) (changes_of needs_run script es)
runs_there needs_run script [] = λ k d h. absurd (omega (arith, h))
runs_there needs_run script (e ∷ es) = by (needs_run e) (run_later script e es (changes_of needs_run script es) (runs_there needs_run script es))
  where
    by : (b : Bool) → All (RunOf script (e ∷ es)) (changes_of needs_run script es) → All (RunOf script (e ∷ es)) (with_change b (rerun_of script e.0.items) (changes_of needs_run script es))
    by false rest = rest
    by true rest = All-cons (RunOf script (e ∷ es)) (rerun_of script e.0.items) (changes_of needs_run script es) (record { outcome = refl; touches = refl; used = refl; there = here }) rest
      where
        here : IsSome (find e.0.items (e ∷ es))
        here = rw ((bytes_eq-Decides e.0.items e.0.items).1 refl) refl

abbrev is_rerun : List Rerun → List ℕ → Bool
is_rerun rs word = list_any (λ r. bytes_eq r.word word) rs

or_true : (a : Bool) → (a || true) ≡ true
or_true true = refl
or_true false = refl

-- a run is fresh, or its word is run again
fresh_or_rerun : (needs_run : KeptWord → Bool) (script : Setting) (es : List KeptWord) (w : List ℕ) → AreStill needs_run script es
    → IfSome (find w es) (λ t. IsFresh script w t ⊎ (is_rerun (changes_of needs_run script es) w ≡ true))
fresh_or_rerun needs_run script [] w still = tt
fresh_or_rerun needs_run script (e ∷ es) w still = by (bytes_eq w e.0.items) refl (needs_run e) refl (fresh_or_rerun needs_run script es w still.1)
  where
    later : (b : Bool) (x : Option RunTrace) → IfSome x (λ t. IsFresh script w t ⊎ (is_rerun (changes_of needs_run script es) w ≡ true))
        → IfSome x (λ t. IsFresh script w t ⊎ (is_rerun (with_change b (rerun_of script e.0.items) (changes_of needs_run script es)) w ≡ true))
    later b None h = tt
    later b (Some t) (inl p) = inl p
    later false (Some t) (inr p) = inr p
    later true (Some t) (inr p) = inr (rw p (or_true (bytes_eq e.0.items w)))

    by : (b : Bool) → bytes_eq w e.0.items ≡ b → (c : Bool) → needs_run e ≡ c
        → IfSome (find w es) (λ t. IsFresh script w t ⊎ (is_rerun (changes_of needs_run script es) w ≡ true))
        → IfSome (cond b (Some e.1) (find w es)) (λ t. IsFresh script w t ⊎ (is_rerun (with_change c (rerun_of script e.0.items) (changes_of needs_run script es)) w ≡ true))
    by false h c k rest = later c (find w es) rest
    by true h false k rest = inl (subst (λ (x : List ℕ). IsFresh script x e.1) (sym ((bytes_eq-Decides w e.0.items).0 h)) (still.0 k))
    by true h true k rest = inr (rw ((bytes_eq-Decides e.0.items w).1 (sym ((bytes_eq-Decides w e.0.items).0 h))) refl)

changed_view : (cs : List RunChange) (w : List ℕ) → is_rerun (map view_change cs) w ≡ is_changed cs w
changed_view [] w = refl
changed_view (c ∷ cs) w = ap (λ (b : Bool). bytes_eq c.word.items w || b) (changed_view cs w)

abbrev Run : Setting → List KeptWord → RunChange → Type 0
Run script es c = IsFresh script c.word.items c.traced × IsSome (find c.word.items es)

run_view : (script : Setting) (es : List KeptWord) (cs : List RunChange) → All (RunOf script es) (map view_change cs) → AreRun script es cs
run_view script es [] a = λ k d h. absurd (omega (arith, h))
run_view script es (c ∷ cs) a = All-cons (Run script es) c cs (one (All-head (RunOf script es) (view_change c) (map view_change cs) a)) (run_view script es cs (All-tail (RunOf script es) (view_change c) (map view_change cs) a))
  where
    one : RunOf script es (view_change c) → Run script es c
    one r = (record { outcome = r.outcome; touches = r.touches; used = r.used }, r.there)

-- the words that are not met stay, and those that are met are run: then all is anew
anew_by : (needs_run : KeptWord → Bool) (script : Setting) (es : List KeptWord) (cs : List RunChange) → map view_change cs ≡ changes_of needs_run script es
    → AreStill needs_run script es → AreAnew script es cs
anew_by needs_run script es cs is still = record {
  run = run_view script es cs (subst (All (RunOf script es)) (sym is) (runs_there needs_run script es));
  fresh = λ w. at w (find w.items es) (fresh_or_rerun needs_run script es w.items still);
}
  where
    at : (w : Text) (x : Option RunTrace) → IfSome x (λ t. IsFresh script w.items t ⊎ (is_rerun (changes_of needs_run script es) w.items ≡ true))
        → IfSome x (λ t. IsFresh script w.items t ⊎ (is_changed cs w.items ≡ true))
    at w None h = tt
    at w (Some t) (inl p) = inl p
    at w (Some t) (inr p) = inr (sym (changed_view cs w.items) ∙ ap (λ (rs : List Rerun). is_rerun rs w.items) is ∙ p)

pub anew : (a : AffectedWords) (script : Setting) (es : List KeptWord) (cs : List RunChange) → map view_change cs ≡ reruns script (met_words a es)
    → AreStill (is_met a) script es → AreAnew script es cs
anew a script es cs is still = anew_by (is_met a) script es cs (is ∙ changes_are (is_met a) script es) still
