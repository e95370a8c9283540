-- The canonical text of a script is read as that script.
use Rattle.std.proofs.Common.{◌≡◌, ℕ, Bool, true, false, List, [], ◌∷◌, Some, None, refl, sym, ap, subst, ◌∙◌}
use Rattle.std.specs.Prelude.{if◌then◌else◌}
use Rattle.std.specs.List.{list_any}
use Rattle.std.specs.Str.{chars, IsUtf8}
use Rattle.sbl_token.specs.Lexemes.{Lexeme}
use Rattle.sbl_text.specs.Directives.{start}
use Rattle.sbl_text.specs.Tokens.{PlacedToken, AreTokensFrom, MayEnd, placed_from}
use Rattle.sbl_text.specs.SpacedTokens.{after_all, AreSaid, spaced_text}
use Rattle.sbl_text.specs.Laws.{SpacedAreRead}
use Rattle.sbl_ast.specs.Tree.{Item}
use Rattle.sbl_ast.specs.Places.{lexemes_of, places, AreShallow}
use Rattle.sbl_print.specs.Canonical.{canonical}
use Rattle.sbl_print.specs.SpacedItems.{CanonicalIsSpaced}
use Rattle.sbl_ast.specs.Source.{Source}
use Rattle.sbl_resolver.specs.Checks.{WellDeclared}
use Rattle.sbl_script.specs.CanonicalText.{CanonicalIsRead}
use Rattle.sbl_parser.specs.Profile.{is_left_out}
use Rattle.sbl_script.specs.Reading.{first_left_out, lexemes}
use Rattle.sbl_script.specs.SpelledScript.{AreSpelled}
use Rattle.sbl_script.proofs.Offered.{none_left_out}
use Rattle.sbl_script.proofs.OneReading.{said_so}

-- what is known of tokens, of trees and of the canonical text
pub record Facts : Type 0 where
  pub read : SpacedAreRead
  pub spaced : CanonicalIsSpaced

-- what is known of the script
pub record Kept (s : Source) : Type 0 where
  pub declared : WellDeclared s.items s.external
  pub shallow : AreShallow (places s.items)
  pub spelled : AreSpelled s.items
  pub ends : MayEnd (after_all start (lexemes_of s.items))

-- ---- tokens that are left out

none_offered : (ts : List PlacedToken) → list_any is_left_out (lexemes ts) ≡ false → first_left_out ts ≡ None
none_offered [] h = refl
none_offered (t ∷ ts) h = at (is_left_out t.lexeme) refl (none_offered ts)
  where
    at : (b : Bool) → is_left_out t.lexeme ≡ b → (list_any is_left_out (lexemes ts) ≡ false → first_left_out ts ≡ None) → (if b then Some t.start else first_left_out ts) ≡ None
    at true i more = let e : list_any is_left_out (lexemes (t ∷ ts)) ≡ true = rw i refl in absurd (cc (sym h ∙ e))
    at false i more = let e : list_any is_left_out (lexemes (t ∷ ts)) ≡ list_any is_left_out (lexemes ts) = rw i refl in more (sym e ∙ h)

-- ---- the canonical text

-- the canonical text has the tokens of the items
pub tokens_back : Facts → (items : List Item) → AreSaid start (lexemes_of items) → MayEnd (after_all start (lexemes_of items)) → AreTokensFrom start (chars (canonical items)) (lexemes_of items)
tokens_back k items said end =
    let p = k.spaced items in
    let t = k.read start p.spaced p.white (subst (AreSaid start) (sym p.tokens) said) (subst (λ (ls : List Lexeme). MayEnd (after_all start ls)) (sym p.tokens) end) in
    subst (λ (b : List ℕ). AreTokensFrom start (chars b) (lexemes_of items)) p.text_is (subst (AreTokensFrom start (chars (spaced_text p.spaced))) p.tokens t)

pub read_back : Facts → (text : List ℕ) → IsUtf8 text → (s : Source) → Kept s → CanonicalIsRead s text
read_back k text utf8 s kept is short =
    let t = subst (λ (b : List ℕ). AreTokensFrom start (chars b) (lexemes_of s.items)) (sym is) (tokens_back k s.items kept.spelled kept.ends) in
    let found = placed_from 0 t.0 in
    let are : lexemes found ≡ lexemes_of s.items = said_so 0 t.0 ∙ sym t.4 in
    record {
      placed = found;
      tokens = record { short = short; text = utf8; cut = (t.0, t.1, t.2, t.3, refl) };
      offered = none_offered found (ap (list_any is_left_out) are ∙ none_left_out s.items);
      tree = (sym are, kept.shallow);
      external_is = refl;
      well_declared = kept.declared;
    }
