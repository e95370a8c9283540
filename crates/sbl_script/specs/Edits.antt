-- What an edit may replace in a script, the script after the edit, and the faults of an edit.
use Rattle.std.specs.Prelude.{◌≡◌, ℕ, ◌+◌, nat_eq, Bool, true, false, if◌then◌else◌, List, [], ◌∷◌, ◌++◌, length, map}
use Rattle.std.specs.Prelude.{Option, Some, None, Result, Ok, Err}
use Rattle.std.specs.List.{before_first, enumerate_from, filter, find, fold, list_any}
use Rattle.std.specs.Option.{ok_or, option_map}
use Rattle.std.specs.Str.{bytes_eq, chars}
use Rattle.sbl_text.specs.declared.directives.Coding.{Coding}
use Rattle.sbl_text.specs.declared.directives.Coding.TheVariants as coding
use Rattle.sbl_text.specs.Escapes.{InForce, nothing_set, with_inserts}
use Rattle.sbl_text.specs.Directives.{Directives, start_under, value_for_macro, defined_as}
use Rattle.sbl_text.specs.Tokens.{PlacedToken}
use Rattle.sbl_ast.specs.declared.tree.Base.{Base}
use Rattle.sbl_ast.specs.declared.tree.Base.TheVariants as bases
use Rattle.sbl_tree_amongs.specs.Replacement.{is_among}
use Rattle.sbl_ast.specs.NamedParts.{Part', Routine, Among, Grouping}
use Rattle.sbl_ast.specs.Order.{ItemInMode, in_order}
use Rattle.sbl_ast.specs.Tree.{Plain, escapes, macro, routine, grouping, Item, plain, backward, Starter, Groups}
use Rattle.sbl_ast.specs.Places.{AtDepth, places, placed_plain}
use Rattle.sbl_ast.specs.Texts.{Text, TreeOf, places_in}
use Rattle.sbl_ast.specs.Texts as texts
use Rattle.sbl_parser.specs.Reading.{IsReadAs}
use Rattle.sbl_script.specs.declared.edit_fault.EditFault.{EditFault}
use Rattle.sbl_script.specs.declared.edit_fault.EditFault.TheVariants as edits
use Rattle.sbl_ast.specs.Source.{Source}
use Rattle.sbl_resolver.specs.Checks.{WellDeclared}
use Rattle.sbl_script.specs.Reading.{HasTokens, IsFaultIn, first_left_out, lexemes}

-- ---- the definition that changes

-- whether an edit may change this item: it defines the routine or the grouping that the edit names; the edit changes the first such
-- item, in either mode
abbrev pub changes : Part' → Plain → Bool
changes (Routine n) (routine m c os) = bytes_eq n m
changes (Among n k) (routine m c os) = bytes_eq n m
changes (Grouping n) (grouping m a ts) = bytes_eq n m
changes e x = false

-- the items in text order, without their modes
abbrev pub plains_of : List Item → List Plain
plains_of is = map (λ (x : ItemInMode). x.plain) (in_order is)

-- the first item that passes the test
abbrev pub first_of : (Plain → Bool) → List Item → Option Plain
first_of p is = find p (plains_of is)

-- ---- what is in force where that definition begins

abbrev pub coding_of : Option Base → Coding
coding_of None = coding.Plain
coding_of (Some bases.Hex) = coding.Hex
coding_of (Some bases.Decimal) = coding.Decimal

-- what is in force after an item
abbrev pub escapes_after : InForce → Plain → InForce
escapes_after e (escapes a b) = with_inserts e a b
escapes_after e (macro n b q) = defined_as e (chars n) (value_for_macro (coding_of b) q.value)
escapes_after e _ = e

-- the state of the text before the first item that passes: what all items before it set is in force
abbrev pub state_before : (Plain → Bool) → List Item → Directives
state_before p is = start_under (fold escapes_after nothing_set (before_first p (plains_of is)))

-- ---- the items with another definition in its place

abbrev pub plains_with : (Plain → Bool) → Plain → List Plain → List Plain
plains_with p y [] = []
plains_with p y (x ∷ xs) = if p x then y ∷ xs else x ∷ plains_with p y xs

-- the items with y in place of the first that passes
abbrev pub items_with : (Plain → Bool) → Plain → List Item → List Item
items_with p y [] = []
items_with p y (plain x ∷ is) = if p x then plain y ∷ is else plain x ∷ items_with p y is
items_with p y (backward xs ∷ is) = if list_any p xs then backward (plains_with p y xs) ∷ is else backward xs ∷ items_with p y is

-- ---- the part that an edit replaces

-- the depths of the words `among`
abbrev pub among_depths : List AtDepth → List ℕ
among_depths ps = map (λ p. p.1) (filter (λ p. is_among p.0) ps)

-- The kind of text that an edit replaces in this definition; otherwise the fault: there is no such definition, or it has no such
-- among.
abbrev pub text_in : Option Plain → Part' → Result Text EditFault
text_in (Some (routine m c os)) (Routine n) = Ok texts.body
text_in (Some (routine m c os)) (Among n k) =
    ok_or (option_map (λ p. texts.among p.1) (find (λ p. nat_eq p.0 k) (enumerate_from 1 (among_depths (places_in texts.body (c, os))))))
    edits.NoAmong
text_in (Some (grouping m a ts)) (Grouping n) = Ok texts.terms
text_in _ (Grouping n) = Err edits.NoGrouping
text_in _ e = Err edits.NoRoutine

-- the same of the first definition that the edit may change
abbrev pub text_for : List Item → Part' → Result Text EditFault
text_for items e = text_in (first_of (changes e) items) e

-- With the tree x of its text, an edit makes the definition `new` of `old`. An among has the tree x in place of its old one: it is at
-- depth d, there are k - 1 words `among` before it, and all other tokens stay.
abbrev pub IsChanged : Part' → (w : Text) → TreeOf w → Plain → Plain → Type 0
IsChanged (Routine n) texts.body x old new = new ≡ routine n x.0 x.1
IsChanged (Among n k) (texts.among d) x old new =
    (prefix : List AtDepth) × (replaced : Starter × Groups) × (following : List AtDepth) × (k ≡ length (among_depths prefix) + 1)
    × (placed_plain old [] ≡ prefix ++ places_in (texts.among d) replaced ++ following)
    × (placed_plain new [] ≡ prefix ++ places_in (texts.among d) x ++ following)
IsChanged (Grouping n) texts.terms x old new = new ≡ grouping n x.0 x.1
IsChanged e w x old new = ⊥

-- and so it makes the items js of is
abbrev pub IsMade : List Item → Part' → (w : Text) → TreeOf w → List Item → Type 0
IsMade is e w x js =
    (old : Plain) × (new : Plain) × (first_of (changes e) is ≡ Some old) × IsChanged e w x old new × (js ≡ items_with (changes e) new is)

-- after an edit of an among there have to be as many amongs as before
abbrev pub keeps_count : Part' → List Item → List Item → Bool
keeps_count (Among n k) is js = nat_eq (length (among_depths (places js))) (length (among_depths (places is)))
keeps_count e is js = true

-- ---- the script after an edit

-- The text, read as w in this place, has a tree. With this tree the script passes all checks and is t. `as_many` is
-- true if the number of amongs is as the edit has to keep it.
pub record IsSubstituted (s : Source) (e : Part') (w : Text) (text : List ℕ) (as_many : Bool) (t : Source) : Type 0 where
  pub placed : List PlacedToken
  pub tree : TreeOf w
  pub tokens : HasTokens (state_before (changes e) s.items) text placed
  pub offered : first_left_out placed ≡ None
  pub read : IsReadAs w (lexemes placed) tree
  pub items_are : IsMade s.items e w tree t.items
  pub external_is : t.external ≡ s.external
  pub well_declared : WellDeclared t.items t.external
  pub counted : keeps_count e s.items t.items ≡ as_many

-- the script has the part that the edit replaces; with the text there it is the script t
abbrev pub IsEdited : Source → Part' → List ℕ → Source → Type 0
IsEdited s e text t = (w : Text) × (text_for s.items e ≡ Ok w) × IsSubstituted s e w text true t

-- ---- faults, in the order of the checks: no such routine or grouping; no such among; a fault of the text in its
-- place; another number of amongs

-- What each fault means: the number of amongs changed; a fault of the text, found in the script with that text in place of the
-- part; no such part. Running out of memory is not a fault of the edit.
abbrev pub IsEditFault : Source → Part' → List ℕ → EditFault → Type 0
IsEditFault s e text edits.AmongCount = (w : Text) × (text_for s.items e ≡ Ok w) × (t : Source) × IsSubstituted s e w text false t
IsEditFault s e text (edits.Script f) =
    (w : Text) × (text_for s.items e ≡ Ok w) × (around : TreeOf w → List Item) × ((x : TreeOf w) → IsMade s.items e w x (around x))
    × IsFaultIn w (state_before (changes e) s.items) around s.external text f
IsEditFault s e text edits.OutOfMemory = ⊥
IsEditFault s e text f = text_for s.items e ≡ Err f

-- ---- names for parts of these definitions, which the code, other crates and proofs use

-- the item defines the routine with this name
abbrev pub is_routine_named : List ℕ → Plain → Bool
is_routine_named n = changes (Routine n)

-- the item defines the grouping with this name
abbrev pub is_grouping_named : List ℕ → Plain → Bool
is_grouping_named n = changes (Grouping n)
