-- The runs of words exchanged with those of their changes, one after another.
use Rattle.std.proofs.Common.{map, ◌≡◌, ◌≢◌, ◌∙◌, ◌||◌, ◌⊎◌, inl, inr, ◌<◌, ◌≤◌, ◌+◌, ◌++◌, ℕ, suc, Bool, true, false, cond, List, [], ◌∷◌, Option, Some, None, IfSome, IsSome, slice_index_or, slice_set, length, take, drop, arith, refl, sym, ap, subst}
use Rattle.std.specs.List.{All, AllByRecursion, IsDistinct}
use Rattle.std.specs.Map.{keys_of}
use Rattle.std.specs.Str.{bytes_eq}
use Rattle.std.proofs.lemmas.Slice.Eq.{bytes_eq-Decides}
use Rattle.std.proofs.lemmas.List.{get_or_default, get_or-set_other, get_or-set_same}
use Rattle.std.proofs.lemmas.List.Elements.{All-head, All-tail}
use Rattle.std.proofs.lemmas.List.Folds.{list_any_at}
use Rattle.sbl_last_runs.specs.KeptEntries.{KeptWord, AreFresh, IsFresh, words_in}
use Rattle.sbl_last_runs.specs.Last.{AreApart, AreThere, word_found, word_run}
use Rattle.sbl_last_runs.specs.Pairs.{Text, find}
use Rattle.sbl_last_runs.specs.RunChanges.{AreAllFresh, AreAnew, is_changed}
use Rattle.sbl_rows.specs.Setting.{Setting}
use Rattle.sbl_last_runs.specs.declared.run_trace.RunTrace.{RunTrace}
use Rattle.sbl_last_runs.specs.declared.change.RunChange.{RunChange}

-- the first i changes have exchanged their runs
pub record IsCommitted (es fs : List KeptWord) (cs ls : List RunChange) (i : ℕ) : Type 0 where
  pub before : (k : ℕ) (d : RunChange) → k < i → word_run (slice_index_or ls k d) ≡ word_found es (slice_index_or cs k d)
  pub rest : (k : ℕ) (d : RunChange) → i ≤ k → slice_index_or ls k d ≡ slice_index_or cs k d
  pub run : (k : ℕ) (d : RunChange) → k < i → find (slice_index_or cs k d).word.items fs ≡ Some (slice_index_or cs k d).traced
  pub others : (w : Text) → ((k : ℕ) (d : RunChange) → k < i → (slice_index_or cs k d).word.items ≢ w.items) → find w.items fs ≡ find w.items es

pub committed_none : (es : List KeptWord) (cs : List RunChange) → IsCommitted es es cs cs 0
committed_none es cs = record {
  before = λ k d h. absurd (omega (arith, h));
  rest = λ k d h. refl;
  run = λ k d h. absurd (omega (arith, h));
  others = λ w h. refl;
}

different : (x y : List ℕ) → x ≢ y → bytes_eq x y ≡ false
different x y h = by (bytes_eq x y) refl
  where
    by : (b : Bool) → bytes_eq x y ≡ b → bytes_eq x y ≡ false
    by false e = e
    by true e = absurd (h ((bytes_eq-Decides x y).0 e))

same_word : (x : List ℕ) → bytes_eq x x ≡ true
same_word x = (bytes_eq-Decides x x).1 refl

earlier : (k i : ℕ) → k < i + 1 → (k < i) ⊎ (k ≡ i)
earlier k i h = grind (arith, h)

-- the next change
module _ (es fs : List KeptWord) (cs ls : List RunChange) (i : ℕ) (c : RunChange) (so : IsCommitted es fs cs ls i) (apart : AreApart cs) (at : (d : RunChange) → slice_index_or cs i d ≡ c) (below : i < length cs) where
  -- its word is that of no change before it
  other_word : (k : ℕ) (d : RunChange) → k < i → (slice_index_or cs k d).word.items ≢ c.word.items
  other_word k d h = subst (λ (x : RunChange). (slice_index_or cs k d).word.items ≢ x.word.items) (at d) (apart k i d h below)

  -- so its run is still the one before
  still_before : find c.word.items fs ≡ find c.word.items es
  still_before = so.others c.word other_word

  pub committed_there : AreThere es cs → IsSome (find c.word.items fs)
  committed_there there = subst IsSome (sym still_before) (subst (λ (x : RunChange). IsSome (find x.word.items es)) (at c) (there i c below))

  pub committed_more : (gs : List KeptWord) (n : RunChange) → i < length ls
      → ((w : Text) → find w.items gs ≡ cond (bytes_eq c.word.items w.items) (Some c.traced) (find w.items fs))
      → word_run n ≡ word_found fs c
      → IsCommitted es gs cs (slice_set ls i n) (i + 1)
  committed_more gs n room finds was = record {
    before = λ k d h. before_at k d (earlier k i h);
    rest = λ k d h. let other : k ≢ i = omega (arith, h) in get_or-set_other ls i k n d other ∙ so.rest k d (omega (arith, h));
    run = λ k d h. run_at k d (earlier k i h);
    others = λ w h.
        finds w
        ∙ ap (λ (b : Bool). cond b (Some c.traced) (find w.items fs)) (different c.word.items w.items (subst (λ (x : RunChange). x.word.items ≢ w.items) (at c) (h i c (omega arith))))
        ∙ so.others w (λ k d g. h k d (omega (arith, g)));
  }
    where
      before_at : (k : ℕ) (d : RunChange) → (k < i) ⊎ (k ≡ i) → word_run (slice_index_or (slice_set ls i n) k d) ≡ word_found es (slice_index_or cs k d)
      before_at k d (inl h) = let other : k ≢ i = omega (arith, h) in ap word_run (get_or-set_other ls i k n d other) ∙ so.before k d h
      before_at k d (inr h) =
          ap (λ (j : ℕ). word_run (slice_index_or (slice_set ls i n) j d)) h
          ∙ ap word_run (get_or-set_same ls i n d room)
          ∙ was
          ∙ ap (λ (t : Option RunTrace). (c.word.items, t)) still_before
          ∙ ap (word_found es) (sym (at d))
          ∙ ap (λ (j : ℕ). word_found es (slice_index_or cs j d)) (sym h)

      run_at : (k : ℕ) (d : RunChange) → (k < i) ⊎ (k ≡ i) → find (slice_index_or cs k d).word.items gs ≡ Some (slice_index_or cs k d).traced
      run_at k d (inl h) =
          let x = slice_index_or cs k d in
          let other = different c.word.items x.word.items (λ e. other_word k d h (sym e)) in
          finds x.word ∙ ap (λ (b : Bool). cond b (Some c.traced) (find x.word.items fs)) other ∙ so.run k d h
      run_at k d (inr h) =
          subst (λ (x : RunChange). find x.word.items gs ≡ Some x.traced) (sym (ap (λ (j : ℕ). slice_index_or cs j d) h ∙ at d))
          (finds c.word ∙ ap (λ (b : Bool). cond b (Some c.traced) (find c.word.items fs)) (same_word c.word.items))

-- ---- all changes

maps_agree : {A B C : Type 0} (f : A → C) (g : B → C) (xs : List A) (ys : List B) → length xs ≡ length ys
    → ((k : ℕ) (x : A) (y : B) → k < length xs → f (slice_index_or xs k x) ≡ g (slice_index_or ys k y)) → map f xs ≡ map g ys
maps_agree f g [] [] same h = refl
maps_agree f g [] (y ∷ ys) same h = absurd (omega (arith, same))
maps_agree f g (x ∷ xs) [] same h = absurd (omega (arith, same))
maps_agree f g (x ∷ xs) (y ∷ ys) same h =
    let first = h 0 x y (omega arith) in
    let rest = maps_agree f g xs ys (omega (arith, same)) (λ k a b l. h (suc k) a b (omega (arith, l))) in
    λ i. first i ∷ rest i

module _ (es fs : List KeptWord) (cs ls : List RunChange) (i : ℕ) (so : IsCommitted es fs cs ls i) (end : i ≡ length cs) where
  pub all_run : All (λ c. find c.word.items fs ≡ Some c.traced) cs
  all_run = λ k d h. so.run k d (omega (arith, h, end))

  pub all_others : (w : Text) → is_changed cs w.items ≡ false → find w.items fs ≡ find w.items es
  all_others w h = so.others w other
    where
      other : (k : ℕ) (d : RunChange) → k < i → (slice_index_or cs k d).word.items ≢ w.items
      other k d l e =
          let hit = list_any_at (λ (c : RunChange). bytes_eq c.word.items w.items) cs k d (omega (arith, l, end)) ((bytes_eq-Decides (slice_index_or cs k d).word.items w.items).1 e) in
          cc (sym h ∙ hit)

  pub all_before : length ls ≡ length cs → map word_run ls ≡ map (word_found es) cs
  all_before same = maps_agree word_run (word_found es) ls cs same (λ k x y l. ap word_run (get_or_default ls k x y l) ∙ so.before k y (omega (arith, l, same, end)))

-- a vector whose slice was written
pub take_overwritten : {A : Type 0} (xs ys : List A) → length xs ≡ length ys → take (length ys) (xs ++ drop (length xs) ys) ≡ xs
take_overwritten [] [] same = refl
take_overwritten [] (y ∷ ys) same = absurd (omega (arith, same))
take_overwritten (x ∷ xs) [] same = absurd (omega (arith, same))
take_overwritten (x ∷ xs) (y ∷ ys) same = let rest = take_overwritten xs ys (omega (arith, same)) in λ i. x ∷ rest i

-- ---- what is fresh then

-- a run is fresh, if it is that of a change or was fresh before
pub all_fresh : (t : Setting) (es fs : List KeptWord) (cs : List RunChange) → AreAnew t es cs → All (λ c. find c.word.items fs ≡ Some c.traced) cs
    → ((w : Text) → is_changed cs w.items ≡ false → find w.items fs ≡ find w.items es) → AreAllFresh t fs
all_fresh t es fs cs anew run others w = by (is_changed cs w.items) refl
  where
    Fresh : Option RunTrace → Type 0
    Fresh o = IfSome o (λ r. IsFresh t w.items r)

    kept : (o : Option RunTrace) → is_changed cs w.items ≡ false → IfSome o (λ r. IsFresh t w.items r ⊎ (is_changed cs w.items ≡ true)) → Fresh o
    kept None h k = tt
    kept (Some r) h (inl k) = k
    kept (Some r) h (inr k) = cc (sym h ∙ k)

    Run : RunChange → Type 0
    Run c = IsFresh t c.word.items c.traced × IsSome (find c.word.items es)

    Now : RunChange → Type 0
    Now c = find c.word.items fs ≡ Some c.traced

    among : (ds : List RunChange) → All Now ds → All Run ds → is_changed ds w.items ≡ true → Fresh (find w.items fs)
    among [] found anew h = cc h
    among (d ∷ ds) found anew h = one (bytes_eq d.word.items w.items) refl h (among ds (All-tail Now d ds found) (All-tail Run d ds anew))
      where
        one : (b : Bool) → bytes_eq d.word.items w.items ≡ b → (b || is_changed ds w.items) ≡ true → (is_changed ds w.items ≡ true → Fresh (find w.items fs)) → Fresh (find w.items fs)
        one false e g rest = rest g
        one true e g rest =
            subst (λ (x : List ℕ). IfSome (find x fs) (λ r. IsFresh t x r)) ((bytes_eq-Decides d.word.items w.items).0 e)
            (subst (λ (o : Option RunTrace). IfSome o (λ r. IsFresh t d.word.items r)) (sym (All-head Now d ds found)) (All-head Run d ds anew).0)

    by : (b : Bool) → is_changed cs w.items ≡ b → Fresh (find w.items fs)
    by false h = subst Fresh (sym (others w h)) (kept (find w.items es) h (anew.fresh w))
    by true h = among cs run anew.run h

-- ---- from the look-ups to the list

pub fresh_list : (script : Setting) (es : List KeptWord) → IsDistinct (λ (x y : Text). bytes_eq x.items y.items) (keys_of es) → AreAllFresh script es → AreFresh script es
unfolding IsDistinct
fresh_list script [] unique fresh = tt
fresh_list script (e ∷ es) unique fresh = (
  subst (λ (b : Bool). IfSome (cond b (Some e.1) (find e.0.items es)) (λ t. IsFresh script e.0.items t)) ((bytes_eq-Decides e.0.items e.0.items).1 refl) (fresh e.0),
  fresh_list script es unique.1 (λ w. following w (bytes_eq w.items e.0.items) refl),
)
  where
    absent : (fs : List KeptWord) → AllByRecursion (λ (y : Text). bytes_eq e.0.items y.items ≡ false) (keys_of fs) → find e.0.items fs ≡ None
    absent [] a = refl
    absent (f ∷ fs) a = rw a.0 (absent fs a.1)

    following : (w : Text) (b : Bool) → bytes_eq w.items e.0.items ≡ b → IfSome (find w.items es) (λ t. IsFresh script w.items t)
    following w true same = subst (λ (x : Option RunTrace). IfSome x (λ t. IsFresh script w.items t)) (sym (ap (λ (x : List ℕ). find x es) ((bytes_eq-Decides w.items e.0.items).0 same) ∙ absent es unique.0)) tt
    following w false other = subst (λ (b : Bool). IfSome (cond b (Some e.1) (find w.items es)) (λ t. IsFresh script w.items t)) other (fresh w)

pub words_by_keys : (es : List KeptWord) → words_in es ≡ map (λ (k : Text). k.items) (keys_of es)
words_by_keys [] = refl
words_by_keys (e ∷ es) = ap (λ (ws : List (List ℕ)). e.0.items ∷ ws) (words_by_keys es)

pub words_kept : (es fs : List KeptWord) → keys_of fs ≡ keys_of es → words_in fs ≡ words_in es
words_kept es fs same = words_by_keys fs ∙ ap (map (λ (k : Text). k.items)) same ∙ sym (words_by_keys es)
