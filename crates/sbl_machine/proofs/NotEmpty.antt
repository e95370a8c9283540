-- No routine and no grouping of a script that a text can say has an empty name.
use Rattle.std.proofs.Common.{◌≡◌, ◌∙◌, ℕ, Bool, true, false, List, [], ◌∷◌, ◌++◌, map, Option, Some, None, refl, sym, ap, subst}
use Rattle.std.specs.List.{AllByRecursion}
use Rattle.std.specs.Prelude.{encode_utf8_all}
use Rattle.std.specs.Str.{bytes_eq, chars}
use Rattle.std.proofs.lemmas.Str.{chars-nil, encodes-chars}
use Rattle.sbl_token.specs.Lexemes.{Lexeme, word, sign, name, number, literal, inserts, macro_name}
use Rattle.sbl_token.specs.Words.{word_of}
use Rattle.sbl_token.specs.declared.words.Word.{Word}
use Rattle.sbl_text.specs.declared.pieces.Shape.{Shape}
use Rattle.sbl_text.specs.declared.pieces.Shape.TheVariants as shape
use Rattle.sbl_text.specs.Directives.{Directives, after, start}
use Rattle.sbl_text.specs.SpacedTokens.{IsSaid, IsSaidBy, AreSaid}
use Rattle.sbl_text.specs.inside.TokenParts.{word_or_name}
use Rattle.sbl_ast.proofs.After.{IsBefore, plain_before}
use Rattle.sbl_ast.specs.Order.{ItemInMode, in_order}
use Rattle.sbl_ast.specs.inside.OrderParts.{in_mode}
use Rattle.sbl_ast.specs.Places.{AtDepth, placed_plain, places, tokens}
use Rattle.sbl_ast.specs.inside.PlaceParts.{placed_items, placed_plains}
use Rattle.sbl_token.specs.Lexemes as lex
use Rattle.sbl_token.specs.declared.signs.Sign.TheVariants as signs
use Rattle.sbl_ast.specs.Tree.{Plain, routine, grouping, Item, plain, backward}
use Rattle.sbl_ast.specs.declared.mode.Mode.TheVariants.{Backward}
use Rattle.sbl_ast.specs.declared.tree.DeclarationKind.{DeclarationKind}
use Rattle.sbl_ast.specs.declared.tree.DeclarationKind.TheVariants as kinds
use Rattle.sbl_semantics.specs.Items.{is_member, known_in, names_by}
use Rattle.sbl_script.specs.SpelledScript.{AreSpelled}

-- ---- an empty name is not said

no_text : (s : Directives) (k : Shape) (text : List ℕ) → IsSaidBy s (name []) k text → ⊥
no_text s shape.Word text h =
    let never : [] ≡ h.1.0 ∷ h.1.1 = sym chars-nil ∙ ap chars (sym (by (word_of (encode_utf8_all (chars text))) refl)) ∙ h.1.2 in
    absurd cc
  where
    by : (o : Option Word) → word_of (encode_utf8_all (chars text)) ≡ o → text ≡ []
    by None g =
        let same : name [] ≡ name (encode_utf8_all (chars text)) = h.3.0 ∙ ap (λ (p : Option Word). word_or_name p (encode_utf8_all (chars text))) g in
        let none : encode_utf8_all (chars text) ≡ [] = cc in
        sym (encodes-chars text h.0) ∙ none
    by (Some w) g =
        let never : name [] ≡ word w = h.3.0 ∙ ap (λ (p : Option Word). word_or_name p (encode_utf8_all (chars text))) g in
        absurd cc
no_text s shape.Number text h = let never : name [] ≡ number _ = h.3.0.1 in absurd cc
no_text s shape.Sign text h = let never : name [] ≡ sign _ = h.3.0.2 in absurd cc
no_text s shape.Literal text h = let never : name [] ≡ literal _ _ = h.3.0.4 in absurd cc
no_text s shape.Inserts text h = let never : name [] ≡ inserts _ _ = h.3.0.3 in absurd cc
no_text s shape.MacroName text h = let never : name [] ≡ macro_name _ = h.3.0 in absurd cc
no_text s _ text h = absurd h.3.0

-- a token that is no empty name
abbrev IsNamed : AtDepth → Type 0
IsNamed p = p.0 ≡ name [] → ⊥

abbrev Ps : Type 0
Ps = List AtDepth

abbrev Each : Ps → Type 0
Each ps = AllByRecursion IsNamed ps

each_named : (s : Directives) (ps : Ps) → AreSaid s (tokens ps) → Each ps
each_named s [] h = tt
each_named s (p ∷ ps) h = (λ e. let said = subst (IsSaid s) e h.0 in no_text s said.0 said.1 said.2, each_named (after s p.0) ps h.1)

-- ---- items

rest_of : (ps qs : Ps) → Each (ps ++ qs) → Each qs
rest_of [] qs h = h
rest_of (p ∷ ps) qs h = rest_of ps qs h.1

plain_rest : (x : Plain) (r : Ps) → Each (placed_plain x r) → Each r
plain_rest x r h = rest_of (placed_plain x []) r (subst Each (plain_before x [] r) h)

plains_rest : (xs : List Plain) (r : Ps) → Each (placed_plains xs r) → Each r
plains_rest [] r h = h
plains_rest (x ∷ xs) r h = plains_rest xs r (plain_rest x (placed_plains xs r) h)

one_more : (n : List ℕ) (rest : List (List ℕ)) → (name n ≡ name [] → ⊥) → is_member rest [] ≡ false → is_member (n ∷ rest) [] ≡ false
one_more [] rest h e = absurd (h refl)
one_more (c ∷ cs) rest h e = e

routine_named : (x : Plain) (r : Ps) → Each (placed_plain x r) → (rest : List (List ℕ)) → is_member rest [] ≡ false → is_member (names_by kinds.Routines x ++ rest) [] ≡ false
routine_named (routine n c os) r h rest e = one_more n rest h.1.0 e
routine_named _ r h rest e = e

grouping_named : (x : Plain) (r : Ps) → Each (placed_plain x r) → (rest : List (List ℕ)) → is_member rest [] ≡ false → is_member (names_by kinds.Groupings x ++ rest) [] ≡ false
grouping_named (grouping n a ts) r h rest e = one_more n rest h.1.0 e
grouping_named _ r h rest e = e

module _ (k : DeclarationKind) (one : (x : Plain) (r : Ps) → Each (placed_plain x r) → (rest : List (List ℕ)) → is_member rest [] ≡ false → is_member (names_by k x ++ rest) [] ≡ false) where
  plains_named : (xs : List Plain) (r : Ps) → Each (placed_plains xs r) → (ys : List ItemInMode) → is_member (known_in ys k) [] ≡ false → is_member (known_in (in_mode Backward xs ++ ys) k) [] ≡ false
  plains_named [] r h ys e = e
  plains_named (x ∷ xs) r h ys e =
      one x (placed_plains xs r) h (known_in (in_mode Backward xs ++ ys) k) (plains_named xs r (plain_rest x (placed_plains xs r) h) ys e)

  items_named : (is : List Item) → Each (placed_items is []) → is_member (known_in (in_order is) k) [] ≡ false
  items_named [] h = refl
  items_named (plain x ∷ is) h =
      one x (placed_items is []) h (known_in (in_order is) k) (items_named is (plain_rest x (placed_items is []) h))
  items_named (backward xs ∷ is) h =
      plains_named xs ((lex.sign signs.Close, 0) ∷ placed_items is []) h.1.1 (in_order is) (items_named is (plains_rest xs ((lex.sign signs.Close, 0) ∷ placed_items is []) h.1.1).1)

each_in : (items : List Item) → AreSpelled items → Each (places items)
each_in items h = each_named start (places items) h

pub routines_named : (items : List Item) → AreSpelled items → is_member (known_in (in_order items) kinds.Routines) [] ≡ false
routines_named items h = items_named kinds.Routines routine_named items (each_in items h)

pub groupings_named : (items : List Item) → AreSpelled items → is_member (known_in (in_order items) kinds.Groupings) [] ≡ false
groupings_named items h = items_named kinds.Groupings grouping_named items (each_in items h)
