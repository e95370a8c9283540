-- What is built from a grouping: the groupings that name it among their terms, or name another that is built from it.
use Rattle.std.specs.Prelude.{◌≡◌, ℕ, Bool, true, false, List, [], ◌∷◌, ◌++◌, map, if◌then◌else◌, ⊤}
use Rattle.std.specs.List.{AllByRecursion, fold, list_any}
use Rattle.sbl_ast.specs.declared.tree.Additive.TheVariants.{Plus}
use Rattle.sbl_ast.specs.Order.{in_order}
use Rattle.sbl_ast.specs.Tree.{written_out, by_name, Term, term, Plain, grouping}
use Rattle.sbl_semantics.specs.Items.{is_member}
use Rattle.sbl_resolver.specs.Checks.{WellDeclared}
use Rattle.sbl_semantics.specs.Outcome.{touches_of}
use Rattle.sbl_semantics.specs.TouchedItems.{item_of_touch, names_of, same_item}
use Rattle.sbl_ast.specs.NamedParts.{Part', Grouping}
use Rattle.sbl_ast.specs.Source.{Source}

-- ---- terms that name a grouping

-- whether one of the terms names a chosen grouping
abbrev pub any_names : (List ℕ → Bool) → List Term → Bool
any_names chosen ts = list_any (λ t. elim t [ term o a ↦ elim a [ written_out q ↦ false | by_name n ↦ chosen n ] ]) ts

-- ---- sets of items that are closed under what is built from them

-- if one of the terms of a grouping names a picked grouping, the grouping is picked
abbrev pub IsClosedAt : (Part' → Bool) → Plain → Type 0
IsClosedAt picked (grouping n a ts) = any_names (λ m. picked (Grouping m)) (term Plus a ∷ ts) ≡ true → picked (Grouping n) ≡ true
IsClosedAt picked x = ⊤

-- if a grouping is picked, so is each grouping of the script that is built from it, directly or through others
abbrev pub IsClosed : (Part' → Bool) → Source → Type 0
IsClosed picked s = AllByRecursion (λ x. IsClosedAt picked x.plain) (in_order s.items)

-- ---- the groupings that are built from one: a term names only groupings that are defined before it

-- adds the grouping that an item defines, if one of its terms names one of ns
abbrev pub and_built : Plain → List (List ℕ) → List (List ℕ)
and_built (grouping n a ts) ns = if any_names (is_member ns) (term Plus a ∷ ts) then ns ++ n ∷ [] else ns
and_built x ns = ns

-- the grouping with name n, and those that are built from it
abbrev pub built_from : List ℕ → Source → List (List ℕ)
built_from n s = fold (λ ns x. and_built x.plain ns) (n ∷ []) (in_order s.items)

-- whether an edit of one item affects another: the item itself or, if it is a grouping, a grouping built from it
abbrev pub is_affected_by : Source → Part' → Part' → Bool
is_affected_by s (Grouping m) (Grouping n) = is_member (built_from m s) n
is_affected_by s x y = same_item x y

-- whether a run of a script on a word, with this limit, touches something that an edit of item x affects
unfoldable pub meets : Part' → Source → List ℕ → ℕ → Bool
meets x script word limit = list_any (is_affected_by script x) (map (item_of_touch (names_of script)) (touches_of script word limit))

-- whether a run of a script on a word, with this limit, touches something that an edit of one of these items affects
unfoldable pub meets_one : List Part' → Source → List ℕ → ℕ → Bool
meets_one xs script word limit =
    list_any (λ y. list_any (λ x. is_affected_by script x y) xs) (map (item_of_touch (names_of script)) (touches_of script word limit))

-- in a well-declared script, the items that an item affects are closed
abbrev pub AffectedIsClosed : Type 0
AffectedIsClosed = (s : Source) → WellDeclared s.items s.external → (x : Part') → IsClosed (is_affected_by s x) s

-- ---- names for parts of these definitions, which only the functions inside the crate and proofs use

-- whether an edit of one of these items affects another
abbrev pub affected_by : Source → List Part' → Part' → Bool
affected_by s xs y = list_any (λ x. is_affected_by s x y) xs
