-- The items before a definition and after it, if another is in its place.
use Rattle.std.proofs.Common.{◌≡◌, ℕ, ◌+◌, Bool, true, false, cond, ◌||◌, List, [], ◌∷◌, ◌++◌, length, Some, None, is_some, refl, sym, ap, ◌∙◌, arith}
use Rattle.std.specs.List.{list_any}
use Rattle.std.specs.Option.{option_or}
use Rattle.std.specs.Str.{bytes_eq}
use Rattle.std.proofs.lemmas.Slice.Eq.{bytes_eq-Decides}
use Rattle.sbl_ast.specs.declared.mode.Mode.{Mode}
use Rattle.sbl_ast.specs.declared.mode.Mode.TheVariants.{Forward, Backward}
use Rattle.sbl_ast.specs.Tree.{Plain, routine, grouping, Item, plain, backward}
use Rattle.sbl_ast.specs.Order.{ItemInMode, in_order}
use Rattle.sbl_ast.specs.inside.OrderParts.{in_mode}
use Rattle.sbl_resolver.specs.Bodies.{body_in}
use Rattle.sbl_ast.specs.NamedParts.{Part', Routine as body, Among as among, Grouping as terms}
use Rattle.sbl_script.specs.Edits.{changes, is_routine_named, is_grouping_named, plains_with, items_with}
use Rattle.sbl_script.specs.Homes.{first_in, first_passing, plain_if}
use Rattle.sbl_script.specs.OnlyTheItem.{number_from}

-- ---- the item, and those around it

abbrev pub at_mode : Mode → Plain → ItemInMode
at_mode m x = record { mode = m; plain = x }

-- two lists of items that are one but for the first that passes
pub record Parts (p : Plain → Bool) (y : Plain) (xs ys : List ItemInMode) : Type 0 where
  pub before : List ItemInMode
  pub mode : Mode
  pub item : Plain
  pub after : List ItemInMode
  pub passes : p item ≡ true
  pub old : xs ≡ before ++ at_mode mode item ∷ after
  pub new : ys ≡ before ++ at_mode mode y ∷ after
  pub number : (i : ℕ) → number_from p xs i ≡ Some (i + length before)

if_none : (p : Plain → Bool) (x : Plain) → p x ≡ false → plain_if p x ≡ None
if_none p x e = ap (λ k. cond k (Some x) None) e

none_in : (p : Plain → Bool) (xs : List Plain) → list_any p xs ≡ false → first_in p xs ≡ None
none_in p [] e = refl
none_in p (x ∷ xs) e = at (p x) refl e (λ g. none_in p xs g) where
  at : (k : Bool) → p x ≡ k → (k || list_any p xs) ≡ false → (list_any p xs ≡ false → first_in p xs ≡ None) → option_or (plain_if p x) (first_in p xs) ≡ None
  at true h g more = absurd cc
  at false h g more = ap (λ o. option_or o (first_in p xs)) (if_none p x h) ∙ more g

module _ (p : Plain → Bool) (y : Plain) where
  here : (m : Mode) (x : Plain) (rest : List ItemInMode) → p x ≡ true → Parts p y (at_mode m x ∷ rest) (at_mode m y ∷ rest)
  here m x rest e = record {
    before = [];
    mode = m;
    item = x;
    after = rest;
    passes = e;
    old = refl;
    new = refl;
    number = λ i. ap (λ k. cond k (Some i) (number_from p rest (i + 1))) e ∙ ap Some (omega arith);
  }

  later : (x : ItemInMode) (xs ys : List ItemInMode) → p x.plain ≡ false → Parts p y xs ys → Parts p y (x ∷ xs) (x ∷ ys)
  later x xs ys e parts = record {
    before = x ∷ parts.before;
    mode = parts.mode;
    item = parts.item;
    after = parts.after;
    passes = parts.passes;
    old = ap (λ l. x ∷ l) parts.old;
    new = ap (λ l. x ∷ l) parts.new;
    number = λ i. ap (λ k. cond k (Some i) (number_from p xs (i + 1))) e ∙ parts.number (i + 1) ∙ ap Some (omega arith);
  }

  in_plains : (xs : List Plain) (rest : List ItemInMode) → list_any p xs ≡ true → Parts p y (in_mode Backward xs ++ rest) (in_mode Backward (plains_with p y xs) ++ rest)
  in_plains [] rest e = absurd cc
  in_plains (x ∷ xs) rest e = at (p x) refl e (λ g. in_plains xs rest g) where
    at : (k : Bool) → p x ≡ k → (k || list_any p xs) ≡ true → (list_any p xs ≡ true → Parts p y (in_mode Backward xs ++ rest) (in_mode Backward (plains_with p y xs) ++ rest))
        → Parts p y (in_mode Backward (x ∷ xs) ++ rest) (in_mode Backward (cond k (y ∷ xs) (x ∷ plains_with p y xs)) ++ rest)
    at true h g more = here Backward x (in_mode Backward xs ++ rest) h
    at false h g more = later (at_mode Backward x) (in_mode Backward xs ++ rest) (in_mode Backward (plains_with p y xs) ++ rest) h (more g)

  after_plains : (xs : List Plain) (rest other : List ItemInMode) → list_any p xs ≡ false → Parts p y rest other → Parts p y (in_mode Backward xs ++ rest) (in_mode Backward xs ++ other)
  after_plains [] rest other e parts = parts
  after_plains (x ∷ xs) rest other e parts = at (p x) refl e (λ g. after_plains xs rest other g parts) where
    at : (k : Bool) → p x ≡ k → (k || list_any p xs) ≡ false → (list_any p xs ≡ false → Parts p y (in_mode Backward xs ++ rest) (in_mode Backward xs ++ other))
        → Parts p y (in_mode Backward (x ∷ xs) ++ rest) (in_mode Backward (x ∷ xs) ++ other)
    at true h g more = absurd cc
    at false h g more = later (at_mode Backward x) (in_mode Backward xs ++ rest) (in_mode Backward xs ++ other) h (more g)

  pub parts_of : (is : List Item) → is_some (first_passing p is) ≡ true → Parts p y (in_order is) (in_order (items_with p y is))
  parts_of [] e = absurd cc
  parts_of (plain x ∷ is) e = at (p x) refl (λ g. parts_of is g) where
    rest : p x ≡ false → is_some (first_passing p is) ≡ true
    rest h = sym (ap (λ o. is_some (option_or o (first_passing p is))) (if_none p x h)) ∙ e

    at : (k : Bool) → p x ≡ k → (is_some (first_passing p is) ≡ true → Parts p y (in_order is) (in_order (items_with p y is)))
        → Parts p y (in_order (plain x ∷ is)) (in_order (cond k (plain y ∷ is) (plain x ∷ items_with p y is)))
    at true h more = here Forward x (in_order is) h
    at false h more = later (at_mode Forward x) (in_order is) (in_order (items_with p y is)) h (more (rest h))
  parts_of (backward xs ∷ is) e = at (list_any p xs) refl (λ g. parts_of is g) where
    rest : list_any p xs ≡ false → is_some (first_passing p is) ≡ true
    rest h = sym (ap (λ o. is_some (option_or o (first_passing p is))) (none_in p xs h)) ∙ e

    at : (k : Bool) → list_any p xs ≡ k → (is_some (first_passing p is) ≡ true → Parts p y (in_order is) (in_order (items_with p y is)))
        → Parts p y (in_order (backward xs ∷ is)) (in_order (cond k (backward (plains_with p y xs) ∷ is) (backward xs ∷ items_with p y is)))
    at true h more = in_plains xs (in_order is) h
    at false h more = after_plains xs (in_order is) (in_order (items_with p y is)) h (more (rest h))

-- ---- a routine that is defined in forward mode stays so

-- one routine for another of its name
routine_stays : (n x : List ℕ) (z y : Plain) (is : List Item) → is_routine_named n z ≡ true → is_routine_named n y ≡ true → is_some (body_in x (plain y ∷ is)) ≡ is_some (body_in x (plain z ∷ is))
routine_stays n x (routine r c os) (routine m b qs) is e f =
    let same : m ≡ r = sym ((bytes_eq-Decides n m).0 f) ∙ (bytes_eq-Decides n r).0 e in
    go (bytes_eq x m) ∙ ap (λ w. is_some (cond (bytes_eq x w) (Some (c, os)) (body_in x is))) same where
      go : (k : Bool) → is_some (cond k (Some (b, qs)) (body_in x is)) ≡ is_some (cond k (Some (c, os)) (body_in x is))
      go true = refl
      go false = refl
routine_stays n x _ _ is e f = absurd cc

-- one grouping for another
grouping_stays : (n x : List ℕ) (z y : Plain) (is : List Item) → is_grouping_named n z ≡ true → is_grouping_named n y ≡ true → is_some (body_in x (plain y ∷ is)) ≡ is_some (body_in x (plain z ∷ is))
grouping_stays n x (grouping r c os) (grouping m b qs) is e f = refl
grouping_stays n x _ _ is e f = absurd cc

-- one definition for another that the same edit changes
body_stays : (d : Part') (x : List ℕ) (z y : Plain) (is : List Item) → changes d z ≡ true → changes d y ≡ true → is_some (body_in x (plain y ∷ is)) ≡ is_some (body_in x (plain z ∷ is))
body_stays (body n) = routine_stays n
body_stays (among n k) = routine_stays n
body_stays (terms n) = grouping_stays n

-- one item more before the same
body_after : (x : List ℕ) (z : Plain) (is js : List Item) → is_some (body_in x is) ≡ is_some (body_in x js) → is_some (body_in x (plain z ∷ is)) ≡ is_some (body_in x (plain z ∷ js))
body_after x (routine r c os) is js h = go (bytes_eq x r) where
  go : (k : Bool) → is_some (cond k (Some (c, os)) (body_in x is)) ≡ is_some (cond k (Some (c, os)) (body_in x js))
  go true = refl
  go false = h
body_after x _ is js h = h

module _ (d : Part') (y : Plain) (new : changes d y ≡ true) where
  abbrev p : Plain → Bool
  p = changes d

  pub still_defined : (is : List Item) (x : List ℕ) → is_some (body_in x (items_with p y is)) ≡ is_some (body_in x is)
  still_defined [] x = refl
  still_defined (plain z ∷ is) x = at (p z) refl (still_defined is x) where
    at : (k : Bool) → p z ≡ k → is_some (body_in x (items_with p y is)) ≡ is_some (body_in x is)
        → is_some (body_in x (cond k (plain y ∷ is) (plain z ∷ items_with p y is))) ≡ is_some (body_in x (plain z ∷ is))
    at true h more = body_stays d x z y is h new
    at false h more = body_after x z (items_with p y is) is more
  still_defined (backward xs ∷ is) x = at (list_any p xs) (still_defined is x) where
    at : (k : Bool) → is_some (body_in x (items_with p y is)) ≡ is_some (body_in x is) → is_some (body_in x (cond k (backward (plains_with p y xs) ∷ is) (backward xs ∷ items_with p y is))) ≡ is_some (body_in x (backward xs ∷ is))
    at true more = refl
    at false more = more
