-- The definition that is found under a name.
use Rattle.std.proofs.Common.{◌≡◌, ℕ, Bool, true, false, List, [], ◌∷◌, Option, Some, None, if◌then◌else◌, refl, sym, ap, ◌∙◌, subst}
use Rattle.std.specs.Option.{option_or}
use Rattle.std.proofs.lemmas.Slice.Eq.{bytes_eq-Decides}
use Rattle.std.specs.Str.{bytes_eq}
use Rattle.std.specs.Prelude.{String}
use Rattle.std.specs.Global.{Global}
use Rattle.sbl_ast.specs.declared.tree.Grouping as declared-grouping
use Rattle.sbl_ast.specs.declared.tree.RowOfCommands.{RowOfCommands as Row}
use Rattle.sbl_ast.specs.declared.tree.Plain as declared
use Rattle.sbl_ast.specs.declared.tree.Plain.TheVariants as plains
use Rattle.sbl_ast.specs.Tree.{Command, Others, Plain, routine, grouping, Item, plain, backward}
use Rattle.sbl_ast.specs.Tree as trees
use Rattle.sbl_ast.specs.View.{view_plain}
use Rattle.sbl_script.specs.Edits.{is_routine_named, is_grouping_named}
use Rattle.sbl_script.specs.Homes.{first_in, first_passing, plain_if}

pub some_plain : (x y : Plain) → Some x ≡ Some y → x ≡ y
some_plain x y e = cc

-- ---- what is found passes

if_is : (p : Plain → Bool) (x y : Plain) → plain_if p x ≡ Some y → p y ≡ true
if_is p x y e = go (p x) refl e where
  go : (here : Bool) → p x ≡ here → (if here then Some x else None) ≡ Some y → p y ≡ true
  go true i g = subst (λ (z : Plain). p z ≡ true) (some_plain x y g) i
  go false i g = absurd cc

either_is : (p : Plain → Bool) (o rest : Option Plain) (y : Plain) → (o ≡ Some y → p y ≡ true) → (rest ≡ Some y → p y ≡ true) → option_or o rest ≡ Some y → p y ≡ true
either_is p (Some x) rest y f g e = f e
either_is p None rest y f g e = g e

in_is : (p : Plain → Bool) (xs : List Plain) (y : Plain) → first_in p xs ≡ Some y → p y ≡ true
in_is p [] y e = absurd cc
in_is p (x ∷ xs) y e = either_is p (plain_if p x) (first_in p xs) y (λ g. if_is p x y g) (λ g. in_is p xs y g) e

pub found_is : (p : Plain → Bool) (items : List Item) (y : Plain) → first_passing p items ≡ Some y → p y ≡ true
found_is p [] y e = absurd cc
found_is p (plain x ∷ is) y e = either_is p (plain_if p x) (first_passing p is) y (λ g. if_is p x y g) (λ g. found_is p is y g) e
found_is p (backward xs ∷ is) y e = either_is p (first_in p xs) (first_passing p is) y (λ g. in_is p xs y g) (λ g. found_is p is y g) e

-- ---- a definition of a kind

pub same_name : (n : List ℕ) → bytes_eq n n ≡ true
same_name n = (bytes_eq-Decides n n).1 refl

pub routine_is : (n : List ℕ) (x : Plain) → is_routine_named n x ≡ true → (c : Command) × (os : Others) × (x ≡ routine n c os)
routine_is n (routine m c os) h = (c, os, ap (λ (z : List ℕ). routine z c os) (sym ((bytes_eq-Decides n m).0 h)))
routine_is n _ h = absurd cc

pub grouping_is : (n : List ℕ) (x : Plain) → is_grouping_named n x ≡ true → (a : trees.Argument) × (ts : List trees.Term) × (x ≡ grouping n a ts)
grouping_is n (grouping m a ts) h = (a, ts, ap (λ (z : List ℕ). grouping z a ts) (sym ((bytes_eq-Decides n m).0 h)))
grouping_is n _ h = absurd cc

-- what is found under a name has that name
pub routine_found : (n : List ℕ) (items : List Item) (m : List ℕ) (c : Command) (os : Others) → first_passing (is_routine_named n) items ≡ Some (routine m c os) → first_passing (is_routine_named n) items ≡ Some (routine n c os)
routine_found n items m c os e = e ∙ ap (λ (z : List ℕ). Some (routine z c os)) (sym ((bytes_eq-Decides n m).0 (found_is (is_routine_named n) items (routine m c os) e)))

pub grouping_found : (n : List ℕ) (items : List Item) (m : List ℕ) (a : trees.Argument) (ts : List trees.Term) → first_passing (is_grouping_named n) items ≡ Some (grouping m a ts) → first_passing (is_grouping_named n) items ≡ Some (grouping n a ts)
grouping_found n items m a ts e = e ∙ ap (λ (z : List ℕ). Some (grouping z a ts)) (sym ((bytes_eq-Decides n m).0 (found_is (is_grouping_named n) items (grouping m a ts) e)))

-- and is of that kind
pub no_other_routine : (n : List ℕ) (items : List Item) (x : declared.Plain) → ((m : String Global) (b : Row) → x ≡ plains.Routine m b → ⊥) → first_passing (is_routine_named n) items ≡ Some (view_plain x) → ⊥
no_other_routine n items (plains.Routine m b) h e = h m b refl
no_other_routine n items _ h e = let no : false ≡ true = found_is (is_routine_named n) items _ e in absurd cc

pub no_other_grouping : (n : List ℕ) (items : List Item) (x : declared.Plain) → ((g : declared-grouping.Grouping) → x ≡ plains.Grouping g → ⊥) → first_passing (is_grouping_named n) items ≡ Some (view_plain x) → ⊥
no_other_grouping n items (plains.Grouping g) h e = h g refl
no_other_grouping n items _ h e = let no : false ≡ true = found_is (is_grouping_named n) items _ e in absurd cc
