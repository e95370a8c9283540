-- A command with holes has as many amongs, the same strings in those that are not picked, and leaves a `substring` waiting or not.
use Rattle.std.proofs.Common.{◌≡◌, ℕ, suc, ◌+◌, Bool, true, false, ◌∷◌, ◌++◌, map, refl, ap, ◌∙◌}
use Rattle.std.specs.Prelude.{if◌then◌else◌}
use Rattle.sbl_ast.specs.Tree.{Command, Rows, Others, Starter, Groups, bracket, simple_, literal_, name_, non_, prefixed, counted, move_, named, splice_, setlimit_, assign_, compare_, compare_values_, among_, no_rows, row, no_others, joined, no_starter, starter, bare, group}
use Rattle.sbl_semantics.specs.Regions.{number_after, number_after_rows, number_after_others, number_after_starter, number_after_groups, waits, waits_rows, waits_others}
use Rattle.sbl_machine.specs.Holes.{blanks, blanks_rows, blanks_others, blanks_starter, blanks_groups, hole, with_holes, rows_with_holes, others_with_holes, starter_with_holes, groups_with_holes}
use Rattle.sbl_semantics.specs.Meaning.{offer, offers}

-- ---- the blanks of a command count as its amongs

mutual
  blanks_same : (t : Command) (rest : Rows) (k : ℕ) → number_after_rows (blanks t rest) k ≡ number_after_rows rest (number_after t k)
  blanks_same (bracket rs) rest k = blanks_rows_same rs rest k
  blanks_same (prefixed x c) rest k = blanks_same c rest k
  blanks_same (counted x e c) rest k = blanks_same c rest k
  blanks_same (setlimit_ b c) rest k = blanks_same b (blanks c rest) k ∙ blanks_same c rest (number_after b k)
  blanks_same (among_ s gs) rest k = blanks_starter_same s (blanks_groups gs rest) (suc k) ∙ blanks_groups_same gs rest (number_after_starter s (suc k))
  blanks_same _ rest k = refl

  blanks_rows_same : (rs : Rows) (rest : Rows) (k : ℕ) → number_after_rows (blanks_rows rs rest) k ≡ number_after_rows rest (number_after_rows rs k)
  blanks_rows_same no_rows rest k = refl
  blanks_rows_same (row c os rs) rest k =
      blanks_same c (blanks_others os (blanks_rows rs rest)) k ∙ blanks_others_same os (blanks_rows rs rest) (number_after c k) ∙ blanks_rows_same rs rest (number_after_others os (number_after c k))

  blanks_others_same : (os : Others) (rest : Rows) (k : ℕ) → number_after_rows (blanks_others os rest) k ≡ number_after_rows rest (number_after_others os k)
  blanks_others_same no_others rest k = refl
  blanks_others_same (joined j c os) rest k = blanks_same c (blanks_others os rest) k ∙ blanks_others_same os rest (number_after c k)

  blanks_starter_same : (s : Starter) (rest : Rows) (k : ℕ) → number_after_rows (blanks_starter s rest) k ≡ number_after_rows rest (number_after_starter s k)
  blanks_starter_same no_starter rest k = refl
  blanks_starter_same (starter rs) rest k = blanks_rows_same rs rest k

  blanks_groups_same : (gs : Groups) (rest : Rows) (k : ℕ) → number_after_rows (blanks_groups gs rest) k ≡ number_after_rows rest (number_after_groups gs k)
  blanks_groups_same (bare es) rest k = refl
  blanks_groups_same (group e es rs gs) rest k = blanks_rows_same rs (blanks_groups gs rest) k ∙ blanks_groups_same gs rest (number_after_rows rs k)

hole_same : (s : Starter) (gs : Groups) (k : ℕ) → number_after (hole s gs) k ≡ number_after (among_ s gs) k
hole_same s gs k = blanks_starter_same s (blanks_groups gs no_rows) (suc k) ∙ blanks_groups_same gs no_rows (number_after_starter s (suc k))

module _ (holes : ℕ → Bool) where
  -- ---- so does a command with holes

  after_either : (b : Bool) (x y : Command) (k n : ℕ) → number_after x k ≡ n → number_after y k ≡ n → number_after (if b then x else y) k ≡ n
  after_either true x y k n p q = p
  after_either false x y k n p q = q

  mutual
    pub after_same : (t : Command) (k k' : ℕ) → k' ≡ k → number_after (with_holes holes k t) k' ≡ number_after t k
    after_same (bracket rs) k k' p = after_rows_same rs k k' p
    after_same (simple_ x) k k' p = p
    after_same (literal_ x) k k' p = p
    after_same (name_ x) k k' p = p
    after_same (non_ x y) k k' p = p
    after_same (prefixed x c) k k' p = after_same c k k' p
    after_same (counted x e c) k k' p = after_same c k k' p
    after_same (move_ x y) k k' p = p
    after_same (named x y) k k' p = p
    after_same (splice_ x y) k k' p = p
    after_same (setlimit_ b c) k k' p = after_same c (number_after b k) _ (after_same b k k' p)
    after_same (assign_ x y z) k k' p = p
    after_same (compare_ x y z) k k' p = p
    after_same (compare_values_ x y z) k k' p = p
    after_same (among_ s gs) k k' p =
        let n : suc k' ≡ suc k = ap suc p in
        after_either (holes (suc k)) (hole s gs) (among_ (starter_with_holes holes (suc k) s) (groups_with_holes holes (number_after_starter s (suc k)) gs)) k' (number_after (among_ s gs) k)
        (ap (number_after (hole s gs)) p ∙ hole_same s gs k)
        (after_groups_same gs (number_after_starter s (suc k)) _ (after_starter_same s (suc k) (suc k') n))

    pub after_rows_same : (rs : Rows) (k k' : ℕ) → k' ≡ k → number_after_rows (rows_with_holes holes k rs) k' ≡ number_after_rows rs k
    after_rows_same no_rows k k' p = p
    after_rows_same (row c os rs) k k' p = after_rows_same rs (number_after_others os (number_after c k)) _ (after_others_same os (number_after c k) _ (after_same c k k' p))

    pub after_others_same : (os : Others) (k k' : ℕ) → k' ≡ k → number_after_others (others_with_holes holes k os) k' ≡ number_after_others os k
    after_others_same no_others k k' p = p
    after_others_same (joined j c os) k k' p = after_others_same os (number_after c k) _ (after_same c k k' p)

    pub after_starter_same : (s : Starter) (k k' : ℕ) → k' ≡ k → number_after_starter (starter_with_holes holes k s) k' ≡ number_after_starter s k
    after_starter_same no_starter k k' p = p
    after_starter_same (starter rs) k k' p = after_rows_same rs k k' p

    after_groups_same : (gs : Groups) (k k' : ℕ) → k' ≡ k → number_after_groups (groups_with_holes holes k gs) k' ≡ number_after_groups gs k
    after_groups_same (bare es) k k' p = p
    after_groups_same (group e es rs gs) k k' p = after_groups_same gs (number_after_rows rs k) _ (after_rows_same rs k k' p)

  -- ---- a `substring` waits after both, or after neither

  waits_either : (b : Bool) (x y : Command) (w v : Bool) → waits x w ≡ v → waits y w ≡ v → waits (if b then x else y) w ≡ v
  waits_either true x y w v p q = p
  waits_either false x y w v p q = q

  mutual
    pub waits_same : (t : Command) (k : ℕ) (w w' : Bool) → w' ≡ w → waits (with_holes holes k t) w' ≡ waits t w
    waits_same (bracket rs) k w w' p = waits_rows_same rs k w w' p
    waits_same (simple_ s) k w w' p = ap (waits (simple_ s)) p
    waits_same (prefixed x c) k w w' p = waits_same c k w w' p
    waits_same (counted x e c) k w w' p = waits_same c k w w' p
    waits_same (setlimit_ b c) k w w' p = waits_same c (number_after b k) _ _ (waits_same b k w w' p)
    waits_same (among_ s gs) k w w' p = waits_either (holes (suc k)) _ _ w' false refl refl
    waits_same _ k w w' p = p

    waits_rows_same : (rs : Rows) (k : ℕ) (w w' : Bool) → w' ≡ w → waits_rows (rows_with_holes holes k rs) w' ≡ waits_rows rs w
    waits_rows_same no_rows k w w' p = p
    waits_rows_same (row c os rs) k w w' p = waits_rows_same rs (number_after_others os (number_after c k)) _ _ (waits_others_same os (number_after c k) _ _ (waits_same c k w w' p))

    pub waits_others_same : (os : Others) (k : ℕ) (w w' : Bool) → w' ≡ w → waits_others (others_with_holes holes k os) w' ≡ waits_others os w
    waits_others_same no_others k w w' p = p
    waits_others_same (joined j c os) k w w' p = waits_others_same os (number_after c k) _ _ (waits_same c k w w' p)

  -- ---- the groups of an among keep their strings

  pub offers_same : (gs : Groups) (k g : ℕ) → offers g (groups_with_holes holes k gs) ≡ offers g gs
  offers_same (bare es) k g = refl
  offers_same (group e es rs gs) k g = ap (λ os. offer g e ∷ (map (offer g) es ++ os)) (offers_same gs (number_after_rows rs k) (g + 1))
