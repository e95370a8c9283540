-- A script differs from itself nowhere.
use Rattle.std.proofs.Common.{◌≡◌, ℕ, suc, Bool, true, false, nat_eq, if◌then◌else◌, List, [], ◌∷◌, Option, Some, None, refl, sym, ap}
use Rattle.std.specs.Option.{option_or}
use Rattle.std.proofs.lemmas.Bool.{eq-eqb, true≢false}
use denote.Enum.Bare.{true_same}
use Rattle.sbl_ast.specs.Counts.{count_in_among}
use Rattle.sbl_ast.specs.contracts.tree.Simple as simple
use Rattle.sbl_ast.specs.contracts.tree.Prefix as prefix
use Rattle.sbl_ast.specs.contracts.tree.Count as times
use Rattle.sbl_ast.specs.contracts.tree.Move as move
use Rattle.sbl_ast.specs.contracts.tree.Naming as naming
use Rattle.sbl_ast.specs.contracts.tree.Splice as splicing
use Rattle.sbl_ast.specs.contracts.tree.Assignment as assignment
use Rattle.sbl_ast.specs.contracts.tree.Comparison as comparison
use Rattle.sbl_ast.specs.contracts.tree.Joiner as joiner
use Rattle.sbl_ast.specs.contracts.tree.DeclarationKind as kind
use Rattle.sbl_ast.specs.Tree.{Command, Rows, Others, Starter, Groups, bracket, simple_, literal_, name_, non_, prefixed, counted, move_, named, splice_, setlimit_, assign_, compare_, compare_values_, among_, no_rows, row, no_others, joined, no_starter, starter, bare, group, Plain, declaration, escapes, macro, routine, grouping, Item, plain, backward}
use Rattle.sbl_semantics.specs.Regions.{number_after, number_after_rows, number_after_others, number_after_starter}
use Rattle.sbl_semantics.specs.DiffersByParts.{when, join, differ, differ_rows, differ_others, differ_starter, differ_groups, items_by, differ_plain, differ_plains, differ_item, differ_items}
use Rattle.sbl_ast.specs.NamedParts.{Grouping}
use Rattle.sbl_semantics.proofs.SameSelf.{also, name_self, flag_self, quoted_self, argument_self, expression_self, entry_self, entries_self, names_self, base_self, terms_self}

abbrev pub Nowhere : {X : Type 0} → Option (List X) → Type 0
Nowhere x = x ≡ Some []

so : {X : Type 0} (b : Bool) → b ≡ true → Nowhere {X = X} (when b)
so true p = refl
so false p = absurd (true≢false (sym p))

then_so : {X : Type 0} (b : Bool) (x : Option (List X)) → b ≡ true → Nowhere x → Nowhere (if b then x else None)
then_so true x p q = q
then_so false x p q = absurd (true≢false (sym p))

joins : {X : Type 0} (x y : Option (List X)) → Nowhere x → Nowhere y → Nowhere (join x y)
joins x y p q = (λ i. join (p i) (q i))

-- ---- commands

mutual
  pub self : (c : Command) (k : ℕ) → Nowhere (differ k c c)
  self (bracket rs) k = self_rows rs k
  self (simple_ x) k = so _ (true_same simple.the_type x x refl)
  self (literal_ q) k = so _ (quoted_self q)
  self (name_ n) k = so _ (name_self n)
  self (non_ a n) k = so _ (also _ _ (flag_self a) (name_self n))
  self (prefixed x c) k = then_so _ _ (true_same prefix.the_type x x refl) (self c k)
  self (counted x e c) k = then_so _ _ (also _ _ (true_same times.the_type x x refl) (expression_self e)) (self c k)
  self (move_ x e) k = so _ (also _ _ (true_same move.the_type x x refl) (expression_self e))
  self (named x n) k = so _ (also _ _ (true_same naming.the_type x x refl) (name_self n))
  self (splice_ x a) k = so _ (also _ _ (true_same splicing.the_type x x refl) (argument_self a))
  self (setlimit_ b c) k = joins _ _ (self b k) (self c (number_after b k))
  self (assign_ n o e) k = so _ (also _ _ (name_self n) (also _ _ (true_same assignment.the_type o o refl) (expression_self e)))
  self (compare_ n o e) k = so _ (also _ _ (name_self n) (also _ _ (true_same comparison.the_type o o refl) (expression_self e)))
  self (compare_values_ d o e) k = so _ (also _ _ (expression_self d) (also _ _ (true_same comparison.the_type o o refl) (expression_self e)))
  self (among_ s gs) k =
      ap (λ (x : Option (List ℕ)). option_or x (if nat_eq (count_in_among (s, gs)) (count_in_among (s, gs)) then Some (suc k ∷ []) else None))
      (joins _ _ (self_starter s (suc k)) (self_groups gs (number_after_starter s (suc k))))

  self_rows : (rs : Rows) (k : ℕ) → Nowhere (differ_rows k rs rs)
  self_rows no_rows k = refl
  self_rows (row c os rs) k = joins _ _ (self c k) (joins _ _ (self_others os (number_after c k)) (self_rows rs (number_after_others os (number_after c k))))

  self_others : (os : Others) (k : ℕ) → Nowhere (differ_others k os os)
  self_others no_others k = refl
  self_others (joined x c os) k = then_so _ _ (true_same joiner.the_type x x refl) (joins _ _ (self c k) (self_others os (number_after c k)))

  self_starter : (s : Starter) (k : ℕ) → Nowhere (differ_starter k s s)
  self_starter no_starter k = refl
  self_starter (starter rs) k = self_rows rs k

  self_groups : (gs : Groups) (k : ℕ) → Nowhere (differ_groups k gs gs)
  self_groups (bare es) k = so _ (entries_self es)
  self_groups (group e es rs gs) k = then_so _ _ (also _ _ (entry_self e) (entries_self es)) (joins _ _ (self_rows rs k) (self_groups gs (number_after_rows rs k)))

-- ---- items

pub plain_self : (x : Plain) → Nowhere (differ_plain x x)
plain_self (declaration k ns) = so _ (also _ _ (true_same kind.the_type k k refl) (names_self ns))
plain_self (escapes a b) = so _ (also _ _ (eq-eqb a a refl) (eq-eqb b b refl))
plain_self (macro n b q) = so _ (also _ _ (name_self n) (also _ _ (base_self b) (quoted_self q)))
plain_self (routine n c os) = then_so _ _ (name_self n) (ap (λ (o : Option (List ℕ)). Some (items_by n o)) (joins _ _ (self c 0) (self_others os (number_after c 0))))
plain_self (grouping n a ts) = then_so _ _ (name_self n) (ap (λ (b : Bool). Some (if b then [] else Grouping n ∷ [])) (also _ _ (argument_self a) (terms_self ts)))

plains_self : (xs : List Plain) → Nowhere (differ_plains xs xs)
plains_self [] = refl
plains_self (x ∷ xs) = joins _ _ (plain_self x) (plains_self xs)

item_self : (x : Item) → Nowhere (differ_item x x)
item_self (plain x) = plain_self x
item_self (backward xs) = plains_self xs

pub items_self : (xs : List Item) → Nowhere (differ_items xs xs)
items_self [] = refl
items_self (x ∷ xs) = joins _ _ (item_self x) (items_self xs)
