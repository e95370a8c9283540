-- The places that edits change, as functions of the tree: what is in force there, the items around it, the script after
-- the edit, and the fault of a text.
use Rattle.std.specs.Prelude.{◌≡◌, ℕ, Bool, nat_eq, true, false, List, [], ◌∷◌, Option, Some, None, Result, Ok, Err, if◌then◌else◌}
use Rattle.std.specs.List.{list_any}
use Rattle.std.specs.Option.{MatchOption, ok_or, option_map, option_or}
use Rattle.sbl_text.specs.declared.fault.ScriptFault.{ScriptFault}
use Rattle.sbl_text.specs.Escapes.{InForce, nothing_set}
use Rattle.sbl_text.specs.Directives.{Directives, start_under}
use Rattle.sbl_text.specs.Tokens.{PlacedToken}
use Rattle.sbl_tree_amongs.specs.Amongs.{AmongContents, amongs_of_body, nth_held, put_in_body}
use Rattle.sbl_ast.specs.Counts.{count_in_among}
use Rattle.sbl_ast.specs.Texts.{Text, TreeOf}
use Rattle.sbl_ast.specs.Texts as texts
use Rattle.sbl_ast.specs.Tree.{Plain, routine, grouping, Item, plain, backward}
use Rattle.sbl_ast.specs.View.{RowView}
use Rattle.sbl_parser.specs.Reading.{IsReadAs}
use Rattle.sbl_script.specs.declared.edit_fault.EditFault.{EditFault}
use Rattle.sbl_script.specs.declared.edit_fault.EditFault.TheVariants as edits
use Rattle.sbl_ast.specs.Source.{Source}
use Rattle.sbl_resolver.specs.Checks.{WellDeclared}
use Rattle.sbl_script.specs.Reading.{HasTokens, IsFaultIn, first_left_out, lexemes}
use Rattle.sbl_ast.specs.NamedParts.{Part', Routine, Among, Grouping}
use Rattle.sbl_script.specs.Edits.{changes, is_routine_named, is_grouping_named}
use Rattle.sbl_script.specs.Edits.{escapes_after, plains_with, items_with}

-- a search of trees found nothing, or a tree with this view
abbrev pub Finds : {A : Type 0} → (A → Plain) → Option A → Option Plain → Type 0
Finds view found wanted = MatchOption found (wanted ≡ None) (λ x. wanted ≡ Some (view x))

-- ---- the definition that changes

abbrev pub plain_if : (Plain → Bool) → Plain → Option Plain
plain_if p x = if p x then Some x else None

abbrev pub first_in : (Plain → Bool) → List Plain → Option Plain
first_in p [] = None
first_in p (x ∷ xs) = option_or (plain_if p x) (first_in p xs)

-- the first item that passes the test, in text order
abbrev pub first_passing : (Plain → Bool) → List Item → Option Plain
first_passing p [] = None
first_passing p (plain x ∷ is) = option_or (plain_if p x) (first_passing p is)
first_passing p (backward xs ∷ is) = option_or (first_in p xs) (first_passing p is)

-- the item passes, or one inside it does
abbrev pub holds : (Plain → Bool) → Item → Bool
holds p (plain x) = p x
holds p (backward xs) = list_any p xs

abbrev pub item_with : (Plain → Bool) → Plain → Item → Item
item_with p y (plain x) = plain y
item_with p y (backward xs) = backward (plains_with p y xs)

-- ---- what is in force where it begins

-- what is in force before the first item that passes, and whether one passes
abbrev pub Walk : Type 0
Walk = InForce × Bool

abbrev pub walk_in : (Plain → Bool) → List Plain → InForce → Walk
walk_in p [] e = (e, false)
walk_in p (x ∷ xs) e = if p x then (e, true) else walk_in p xs (escapes_after e x)

abbrev pub walk_to : (Plain → Bool) → List Item → InForce → Walk
walk_to p [] e = (e, false)
walk_to p (plain x ∷ is) e = if p x then (e, true) else walk_to p is (escapes_after e x)
walk_to p (backward xs ∷ is) e = if (walk_in p xs e).1 then walk_in p xs e else walk_to p is (walk_in p xs e).0

-- the insert characters and macros that all items before the first that passes set
abbrev pub escapes_before : (Plain → Bool) → List Item → InForce
escapes_before p is = (walk_to p is nothing_set).0

abbrev pub state_reached : (Plain → Bool) → List Item → Directives
state_reached p is = start_under (escapes_before p is)

-- ---- the place that an edit changes

-- The kind of text that is read; the state in which that text begins; the items of the script with the tree of the text
-- in this place; whether that tree holds as many amongs as what it replaces.
pub record Home : Type 0 where
  pub text : Text
  pub state : Directives
  pub around : TreeOf text → List Item
  pub keeps_count : TreeOf text → Bool

-- a place in the first item that passes: `item` makes that item from the tree of the text
abbrev pub home_at : List Item → (Plain → Bool) → (w : Text) → (TreeOf w → Plain) → (TreeOf w → Bool) → Home
home_at items p w item keeps = record { text = w; state = state_reached p items; around = λ x. items_with p (item x) items; keeps_count = keeps }

-- a new body may hold any number of amongs
abbrev pub home_of_body : List Item → List ℕ → Home
home_of_body items n = home_at items (is_routine_named n) texts.body (λ b. routine n b.0 b.1) (λ b. true)

-- where the among is found in the tree: as deep as it is there, and with as many amongs
abbrev pub home_of_among : List Item → List ℕ → RowView → ℕ → AmongContents → Home
home_of_among items n b k h =
    home_at items (is_routine_named n) (texts.among h.0) (λ a. routine n (put_in_body b k a).0 (put_in_body b k a).1)
    (λ a. nat_eq (count_in_among a) (count_in_among (h.1, h.2)))

abbrev pub home_of_held : List Item → List ℕ → RowView → ℕ → Option AmongContents → Result Home EditFault
home_of_held items n b k o = ok_or (option_map (home_of_among items n b k) o) edits.NoAmong

abbrev pub home_of_terms : List Item → List ℕ → Home
home_of_terms items n = home_at items (is_grouping_named n) texts.terms (λ x. grouping n x.0 x.1) (λ x. true)

abbrev pub home_in : List Item → Option Plain → Part' → Result Home EditFault
home_in items (Some (routine m c os)) (Routine n) = Ok (home_of_body items n)
home_in items (Some (routine m c os)) (Among n k) = home_of_held items n (c, os) k (nth_held k (amongs_of_body (c, os)))
home_in items (Some (grouping m a ts)) (Grouping n) = Ok (home_of_terms items n)
home_in items _ (Grouping n) = Err edits.NoGrouping
home_in items _ e = Err edits.NoRoutine

-- the place that an edit changes; or the fault if the script lacks the definition, or else the among
abbrev pub home : List Item → Part' → Result Home EditFault
home items e = home_in items (first_passing (changes e) items) e

-- ---- the script after an edit

-- The text, read in this place, has a tree. With this tree the script passes all checks and is t. `as_many` is true if
-- the tree holds as many amongs as what it replaces.
pub record IsSubstitutedAt (s : Source) (h : Home) (text : List ℕ) (as_many : Bool) (t : Source) : Type 0 where
  pub placed : List PlacedToken
  pub tree : TreeOf h.text
  pub tokens : HasTokens h.state text placed
  pub offered : first_left_out placed ≡ None
  pub read : IsReadAs h.text (lexemes placed) tree
  pub items_are : t.items ≡ h.around tree
  pub external_is : t.external ≡ s.external
  pub well_declared : WellDeclared t.items t.external
  pub counted : h.keeps_count tree ≡ as_many

-- the script has the place that the edit changes; with the text there, and as many amongs as before, it is the script t
abbrev pub IsEditedAt : Source → Part' → List ℕ → Source → Type 0
IsEditedAt s e text t = (h : Home) × (home s.items e ≡ Ok h) × IsSubstitutedAt s h text true t

-- ---- faults

abbrev pub IsFaultAt : Source → Home → List ℕ → ScriptFault → Type 0
IsFaultAt s h text f = IsFaultIn h.text h.state h.around s.external text f

-- what each fault of an edit means
abbrev pub IsEditFaultAt : Source → Part' → List ℕ → EditFault → Type 0
IsEditFaultAt s e text edits.AmongCount = (h : Home) × (home s.items e ≡ Ok h) × (t : Source) × IsSubstitutedAt s h text false t
IsEditFaultAt s e text (edits.Script f) = (h : Home) × (home s.items e ≡ Ok h) × IsFaultAt s h text f
IsEditFaultAt s e text edits.OutOfMemory = ⊥
IsEditFaultAt s e text f = home s.items e ≡ Err f
