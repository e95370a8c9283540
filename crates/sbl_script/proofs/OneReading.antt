-- Bytes are read as one script, or have one fault.
use Rattle.std.proofs.Common.{◌≡◌, ◌⊎◌, ℕ, ◌+◌, List, [], ◌∷◌, ◌++◌, length, map, Option, Some, None, refl, sym, ap, subst, ◌∙◌, inl, inr, arith, length-append}
use Rattle.std.proofs.lemmas.List.{length-map}
use Rattle.std.specs.Str.{chars}
use Rattle.sbl_text.specs.declared.fault.ScriptFault.{ScriptFault}
use Rattle.sbl_text.specs.declared.fault.ScriptFault.TheVariants as fault
use Rattle.sbl_token.specs.Lexemes.{Lexeme}
use Rattle.sbl_text.specs.Literals.{byte_length}
use Rattle.sbl_text.specs.Directives.{Directives, start}
use Rattle.sbl_text.specs.Tokens.{Piece, PlacedToken, AreTokensFrom, ArePlacedFrom, piece_lexemes, placed_from}
use Rattle.sbl_text.specs.inside.TokenParts.{and_more, put_placed}
use Rattle.sbl_text.specs.Laws.{PlacesAreOne, FirstFaultIsOne, TokensOrFault}
use Rattle.sbl_ast.specs.Tree.{Item}
use Rattle.sbl_ast.specs.Texts.{Text, TreeOf, script}
use Rattle.sbl_parser.specs.Reading.{IsReadAs, IsSyntaxAt, IsTooDeepAt, IsOutOfProfileAt}
use Rattle.sbl_parser.specs.Laws as grammar
use Rattle.sbl_ast.specs.Source.{Source}
use Rattle.sbl_resolver.specs.Checks.{fault_of}
use Rattle.sbl_script.proofs.Places.{IsGrammarFault}
use Rattle.sbl_script.specs.Reading.{HasTokens, IsScriptOf, IsTextFault, IsUnread, IsFaultIn, IsFaultOf, first_left_out, place_of, lexemes}

-- what is known of tokens and of trees
pub record Facts : Type 0 where
  pub places : PlacesAreOne
  pub first : FirstFaultIsOne
  pub either : TokensOrFault
  pub tree : grammar.TreesAreOne
  pub fault : grammar.FaultIsOne
  pub none : grammar.TreeOrFault

-- ---- tokens

said_by : (l : Option Lexeme) (place : ℕ) (x : List ℕ) (ts : List PlacedToken) (ls : List Lexeme) → map (λ (p : PlacedToken). p.lexeme) ts ≡ ls → map (λ (p : PlacedToken). p.lexeme) (put_placed place x l ts) ≡ and_more l ls
said_by None place x ts ls e = e
said_by (Some l) place x ts ls e = ap (λ (r : List Lexeme). l ∷ r) e

pub said_so : (place : ℕ) (ps : List Piece) → map (λ (p : PlacedToken). p.lexeme) (placed_from place ps) ≡ piece_lexemes ps
said_so place [] = refl
said_so place (p ∷ ps) = said_by p.lexeme place p.text (placed_from (place + byte_length p.text) ps) (piece_lexemes ps) (said_so (place + byte_length p.text) ps)

pub are_tokens : (s : Directives) (text : List ℕ) (ts : List PlacedToken) → ArePlacedFrom s text ts → AreTokensFrom s text (map (λ (p : PlacedToken). p.lexeme) ts)
are_tokens s text ts h = (h.0, h.1, h.2, h.3, ap (map (λ (p : PlacedToken). p.lexeme)) h.4 ∙ said_so 0 h.0)

-- ---- the text

pub text_is_one : Facts → (s : Directives) (bytes : List ℕ) (f g : ScriptFault) → IsTextFault s bytes f → IsTextFault s bytes g → f ≡ g
text_is_one k s bytes f g (inl a) (inl b) = a.1 ∙ sym b.1
text_is_one k s bytes f g (inr (inl a)) (inr (inl b)) = a.2 ∙ sym b.2
text_is_one k s bytes f g (inr (inl a)) (inr (inr b)) = absurd (a.1 b.1)
text_is_one k s bytes f g (inr (inr a)) (inr (inl b)) = absurd (b.1 a.1)
text_is_one k s bytes f g (inr (inr a)) (inr (inr b)) = k.first s (chars bytes) f g a.2 b.2
text_is_one k s bytes f g (inl a) (inr (inl b)) = absurd (omega (arith, a.0, b.0))
text_is_one k s bytes f g (inl a) (inr (inr b)) = absurd (omega (arith, a.0, b.0))
text_is_one k s bytes f g (inr (inl a)) (inl b) = absurd (omega (arith, a.0, b.0))
text_is_one k s bytes f g (inr (inr a)) (inl b) = absurd (omega (arith, a.0, b.0))

-- a text with tokens has no fault
pub no_text_fault : Facts → (s : Directives) (bytes : List ℕ) (ts : List PlacedToken) (f : ScriptFault) → HasTokens s bytes ts → IsTextFault s bytes f → ⊥
no_text_fault k s bytes ts f h (inl a) = omega (arith, a.0, h.short)
no_text_fault k s bytes ts f h (inr (inl a)) = a.1 h.text
no_text_fault k s bytes ts f h (inr (inr a)) = k.either s (chars bytes) (map (λ (p : PlacedToken). p.lexeme) ts) f (are_tokens s (chars bytes) ts h.cut) a.2

pub placed_one : Facts → (s : Directives) (bytes : List ℕ) (ts us : List PlacedToken) → HasTokens s bytes ts → HasTokens s bytes us → ts ≡ us
placed_one k s bytes ts us h g = k.places s (chars bytes) ts us h.cut g.cut

-- ---- the grammar

abbrev fault_at_place : grammar.Wrong → ℕ → ScriptFault
fault_at_place grammar.syntax place = fault.Syntax place
fault_at_place grammar.too_deep place = fault.TooDeep place
fault_at_place grammar.out_of_profile place = fault.OutOfProfile place

-- what is wrong, and where
abbrev Found : Text → List PlacedToken → ℕ → List PlacedToken → ScriptFault → Type 0
Found w ts end rest f = (x : grammar.Wrong) × grammar.IsWrongAt w x (lexemes ts) (lexemes rest) × (f ≡ fault_at_place x (place_of end rest))

found_wrong : (w : Text) (ts : List PlacedToken) (end : ℕ) (f : ScriptFault) (h : IsGrammarFault w ts end f) → Found w ts end h.1 f
found_wrong w ts end f h = go h.3 where
  go : (IsSyntaxAt w (lexemes ts) (lexemes h.1) × (f ≡ fault.Syntax (place_of end h.1))) ⊎ (IsTooDeepAt w (lexemes ts) (lexemes h.1) × (f ≡ fault.TooDeep (place_of end h.1))) ⊎ (IsOutOfProfileAt w (lexemes ts) (lexemes h.1) × (f ≡ fault.OutOfProfile (place_of end h.1))) → Found w ts end h.1 f
  go (inl a) = (grammar.syntax, a.0, a.1)
  go (inr (inl a)) = (grammar.too_deep, a.0, a.1)
  go (inr (inr a)) = (grammar.out_of_profile, a.0, a.1)

same_rest : (p q r s : List PlacedToken) → p ++ r ≡ q ++ s → length r ≡ length s → r ≡ s
same_rest [] [] r s e l = e
same_rest [] (y ∷ q) r s e l = absurd (omega (arith, ap length e, length-append q s, l))
same_rest (x ∷ p) [] r s e l = absurd (omega (arith, ap length e, length-append p r, l))
same_rest (x ∷ p) (y ∷ q) r s e l = let below : p ++ r ≡ q ++ s = cc in same_rest p q r s below l

grammar_is_one : Facts → (w : Text) (ts : List PlacedToken) (end : ℕ) (f g : ScriptFault) → IsGrammarFault w ts end f → IsGrammarFault w ts end g → f ≡ g
grammar_is_one k w ts end f g h j =
    let a = found_wrong w ts end f h in
    let b = found_wrong w ts end g j in
    let same = k.fault w (lexemes ts) (lexemes h.1) (lexemes j.1) a.0 b.0 a.1 b.1 in
    let lengths : length h.1 ≡ length j.1 = sym (length-map h.1 _) ∙ ap length same.1 ∙ length-map j.1 _ in
    let rest : h.1 ≡ j.1 = same_rest h.0 j.0 h.1 j.1 (sym h.2 ∙ j.2) lengths in
    a.2 ∙ ap (λ (x : grammar.Wrong). fault_at_place x (place_of end h.1)) same.0 ∙ ap (λ (r : List PlacedToken). fault_at_place b.0 (place_of end r)) rest ∙ sym b.2

-- a tree has none
no_grammar_fault : Facts → (w : Text) (ts : List PlacedToken) (end : ℕ) (f : ScriptFault) (tree : TreeOf w) → IsReadAs w (lexemes ts) tree → IsGrammarFault w ts end f → ⊥
no_grammar_fault k w ts end f tree h j = let a = found_wrong w ts end f j in k.none w (lexemes ts) (lexemes j.1) tree a.0 h a.1

pub some_one : {X : Type 0} (x y : X) → Some x ≡ Some y → x ≡ y
some_one x y e = cc

pub some_none : {X : Type 0} (x : X) (o : Option X) → o ≡ None → o ≡ Some x → ⊥
some_none x o a b = cc

pub unread_is_one : Facts → (w : Text) (ts : List PlacedToken) (end : ℕ) (f g : ScriptFault) → IsUnread w ts end f → IsUnread w ts end g → f ≡ g
unread_is_one k w ts end f g (inl a) (inl b) = a.2 ∙ ap fault.OutOfProfile (some_one a.0 b.0 (sym a.1 ∙ b.1)) ∙ sym b.2
unread_is_one k w ts end f g (inl a) (inr b) = absurd (some_none a.0 (first_left_out ts) b.0 a.1)
unread_is_one k w ts end f g (inr a) (inl b) = absurd (some_none b.0 (first_left_out ts) a.0 b.1)
unread_is_one k w ts end f g (inr a) (inr b) = grammar_is_one k w ts end f g a.1 b.1

pub no_unread : Facts → (w : Text) (ts : List PlacedToken) (end : ℕ) (f : ScriptFault) (tree : TreeOf w) → first_left_out ts ≡ None → IsReadAs w (lexemes ts) tree → IsUnread w ts end f → ⊥
no_unread k w ts end f tree offered h (inl a) = some_none a.0 (first_left_out ts) offered a.1
no_unread k w ts end f tree offered h (inr a) = no_grammar_fault k w ts end f tree h a.1

-- ---- the checks

pub tree_one : Facts → (w : Text) (ts : List PlacedToken) (x y : TreeOf w) → IsReadAs w (lexemes ts) x → IsReadAs w (lexemes ts) y → x ≡ y
tree_one k w ts x y h g = k.tree w x y (h.0 ∙ sym g.0)

-- ---- the laws

-- a text has one fault
module _ (k : Facts) (w : Text) (s : Directives) (around : TreeOf w → List Item) (external text : List ℕ) (f g : ScriptFault) where
  abbrev IsCheckFault : List PlacedToken → ScriptFault → Type 0
  IsCheckFault ts f = (tree : TreeOf w) × IsReadAs w (lexemes ts) tree × (fault_of (around tree) external ≡ Some f)

  check_is_one : (ts : List PlacedToken) → IsCheckFault ts f → IsCheckFault ts g → f ≡ g
  check_is_one ts a b = some_one f g (sym a.2 ∙ ap (λ (x : TreeOf w). fault_of (around x) external) (tree_one k w ts a.0 b.0 a.1 b.1) ∙ b.2)

  pub fault_is_one : IsFaultIn w s around external text f → IsFaultIn w s around external text g → f ≡ g
  fault_is_one (inl a) (inl b) = text_is_one k s text f g a b
  fault_is_one (inl a) (inr (inl b)) = absurd (no_text_fault k s text b.0 f b.1 a)
  fault_is_one (inl a) (inr (inr b)) = absurd (no_text_fault k s text b.0 f b.1 a)
  fault_is_one (inr (inl a)) (inl b) = absurd (no_text_fault k s text a.0 g a.1 b)
  fault_is_one (inr (inr a)) (inl b) = absurd (no_text_fault k s text a.0 g a.1 b)
  fault_is_one (inr (inl a)) (inr (inl b)) =
      let same = placed_one k s text a.0 b.0 a.1 b.1 in
      unread_is_one k w b.0 (length text) f g (subst (λ (ts : List PlacedToken). IsUnread w ts (length text) f) same a.2) b.2
  fault_is_one (inr (inl a)) (inr (inr b)) =
      let same = placed_one k s text a.0 b.0 a.1 b.1 in
      absurd (no_unread k w b.0 (length text) f b.3.0 b.2 b.3.1 (subst (λ (ts : List PlacedToken). IsUnread w ts (length text) f) same a.2))
  fault_is_one (inr (inr a)) (inr (inl b)) =
      let same = placed_one k s text b.0 a.0 b.1 a.1 in
      absurd (no_unread k w a.0 (length text) g a.3.0 a.2 a.3.1 (subst (λ (ts : List PlacedToken). IsUnread w ts (length text) g) same b.2))
  fault_is_one (inr (inr a)) (inr (inr b)) =
      let same = placed_one k s text a.0 b.0 a.1 b.1 in
      check_is_one b.0 (subst (λ (ts : List PlacedToken). IsCheckFault ts f) same a.3) b.3

pub same_source : (s t : Source) → s.items ≡ t.items → s.external ≡ t.external → s ≡ t
same_source s t a b = ap (λ (i : List Item). with_external i s.external) a ∙ ap (λ (e : List ℕ). with_external t.items e) b where
  with_external : List Item → List ℕ → Source
  with_external i e = record { items = i; external = e }

pub script_is_one : Facts → (bytes external : List ℕ) (s t : Source) → IsScriptOf bytes external s → IsScriptOf bytes external t → s ≡ t
script_is_one k bytes external s t h g =
    let same = placed_one k start bytes h.placed g.placed h.tokens g.tokens in
    let tree = subst (λ (ts : List PlacedToken). IsReadAs script (lexemes ts) s.items) same h.tree in
    same_source s t (tree_one k script g.placed s.items t.items tree g.tree) (h.external_is ∙ sym g.external_is)

pub script_or_fault : Facts → (bytes external : List ℕ) (s : Source) (f : ScriptFault) → IsScriptOf bytes external s → IsFaultOf bytes external f → ⊥
script_or_fault k bytes external s f h (inl a) = no_text_fault k start bytes h.placed f h.tokens a
script_or_fault k bytes external s f h (inr (inl a)) =
    let same = placed_one k start bytes a.0 h.placed a.1 h.tokens in
    no_unread k script h.placed (length bytes) f s.items h.offered h.tree (subst (λ (ts : List PlacedToken). IsUnread script ts (length bytes) f) same a.2)
script_or_fault k bytes external s f h (inr (inr a)) =
    let same = placed_one k start bytes h.placed a.0 h.tokens a.1 in
    let tree = subst (λ (ts : List PlacedToken). IsReadAs script (lexemes ts) s.items) same h.tree in
    let items : s.items ≡ a.3.0 = tree_one k script a.0 s.items a.3.0 tree a.3.1 in
    let named : fault_of s.items s.external ≡ fault_of a.3.0 external = ap (λ (is : List Item). fault_of is s.external) items ∙ ap (λ (e : List ℕ). fault_of a.3.0 e) h.external_is in
    some_none f (fault_of s.items s.external) h.well_declared (named ∙ a.3.2)
