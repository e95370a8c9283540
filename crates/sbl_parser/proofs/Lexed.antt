-- What the trees say of roles, they say of tokens.
use Rattle.std.proofs.Common.{◌≡◌, ℕ, List, [], ◌∷◌, ◌++◌, map, drop, refl, sym, ap, subst, ◌∙◌}
use Rattle.std.proofs.lemmas.List.{map-append}
use Rattle.sbl_token.specs.Lexemes.{Lexeme, lexeme_of}
use Rattle.sbl_token.specs.Lexemes as l
use Rattle.sbl_token.specs.declared.signs.Sign.TheVariants as signs
use Rattle.sbl_token.specs.declared.token.Token.{Token}
use Rattle.sbl_ast.specs.Terminal.{Terminal, terminal_of, terminals_of, tokens_left, lexeme_as}
use Rattle.sbl_ast.specs.Terminal as t
use Rattle.sbl_ast.specs.Texts.{Text, TreeOf, places_in, tokens_of}
use Rattle.sbl_ast.specs.Places.{AtDepth, AreShallow, tokens}
use Rattle.sbl_ast.specs.TerminalPlaces as roles
use Rattle.sbl_ast.proofs.Lexed.{lexemes_at_depth, with_lexeme, places_lexed, text_lexed, tokens_lexed}
use Rattle.sbl_parser.specs.Reading.{IsPrefix, IsTooDeep, HasNoneTooDeep, IsReadAs, CannotFollow, StopsAt, IsSyntaxAt, IsTooDeepAt, IsOutOfProfileAt}
use Rattle.sbl_parser.specs.TerminalReading as reading
use Rattle.sbl_parser.proofs.Runs.{text_runs}
use Rattle.sbl_parser.proofs.Followers.{IsDone}
use Rattle.sbl_parser.proofs.Faults.{none_too_deep}
use Rattle.sbl_parser.proofs.Parts.{there, back}

abbrev Ts : Type 0
Ts = List Terminal

abbrev Ls : Type 0
Ls = List Lexeme

-- the tokens with these roles, and the roles of these tokens
abbrev pub L : Ts → Ls
L ts = map lexeme_as ts

abbrev pub T : Ls → Ts
T ls = map terminal_of ls

terminals_back : (ts : Ts) → T (L ts) ≡ ts
terminals_back [] = refl
terminals_back (x ∷ ts) = ap (λ (y : Terminal). y ∷ T (L ts)) (back x) ∙ ap (λ (r : Ts). x ∷ r) (terminals_back ts)

same_lexemes : (ts : List Token) → L (terminals_of ts) ≡ map lexeme_of ts
same_lexemes [] = refl
same_lexemes (x ∷ ts) = ap (λ (y : Lexeme). y ∷ L (terminals_of ts)) (there (lexeme_of x)) ∙ ap (λ (r : Ls). lexeme_of x ∷ r) (same_lexemes ts)

-- ---- the tokens of a tree

abbrev with_role : AtDepth → roles.AtDepth
with_role p = (terminal_of p.0, p.1)

abbrev roles_at_depth : List AtDepth → List roles.AtDepth
roles_at_depth ps = map with_role ps

placed_back : (rs : List roles.AtDepth) → roles_at_depth (lexemes_at_depth rs) ≡ rs
placed_back [] = refl
placed_back ((x, d) ∷ rs) = ap (λ (y : Terminal). (y, d) ∷ roles_at_depth (lexemes_at_depth rs)) (back x) ∙ ap (λ (r : List roles.AtDepth). (x, d) ∷ r) (placed_back rs)

tokens_roled : (ps : List AtDepth) → roles.tokens (roles_at_depth ps) ≡ T (tokens ps)
tokens_roled [] = refl
tokens_roled (p ∷ ps) = ap (λ (r : Ts). terminal_of p.0 ∷ r) (tokens_roled ps)

places_back : (w : Text) (x : TreeOf w) → roles.places_in w x ≡ roles_at_depth (places_in w x)
places_back w x = sym (ap roles_at_depth (places_lexed w x) ∙ placed_back (roles.places_in w x))

pub text_back : (w : Text) (x : TreeOf w) → roles.tokens_of w x ≡ T (tokens_of w x)
text_back w x = sym (ap T (text_lexed w x) ∙ terminals_back (roles.tokens_of w x))

shallow_lexed : (rs : List roles.AtDepth) → roles.AreShallow rs → AreShallow (lexemes_at_depth rs)
shallow_lexed [] h = tt
shallow_lexed (r ∷ rs) h = (h.0, shallow_lexed rs h.1)

shallow_roled : (ps : List AtDepth) → AreShallow ps → roles.AreShallow (roles_at_depth ps)
shallow_roled [] h = tt
shallow_roled (p ∷ ps) h = (h.0, shallow_roled ps h.1)

-- ---- from tokens to roles

prefix_back : (w : Text) (b : Ls) → IsPrefix w b → reading.IsPrefix w (T b)
prefix_back w b h = (h.0, T h.1, text_back w h.0 ∙ ap T h.2 ∙ map-append terminal_of b h.1)

deep_back : (w : Text) (b : Ls) (x : Lexeme) → IsTooDeep w b x → reading.IsTooDeep w (T b) (terminal_of x)
deep_back w b x h = (h.0, roles_at_depth h.1, h.2, roles_at_depth h.3, places_back w h.0 ∙ ap roles_at_depth h.4 ∙ map-append with_role h.1 ((x, h.2) ∷ h.3), tokens_roled h.1 ∙ ap T h.5, h.6)

read_back : (w : Text) (all : Ls) (tree : TreeOf w) → IsReadAs w all tree → reading.IsReadAs w (T all) tree
read_back w all tree h = (text_back w tree ∙ ap T h.0, subst roles.AreShallow (sym (places_back w tree)) (shallow_roled (places_in w tree) h.1))

-- no token of a tree that is nowhere too deep is too deep
pub none_deep : (w : Text) (p : Ls) (x : Lexeme) (more : Ls) (tree : TreeOf w) → IsReadAs w (p ++ x ∷ more) tree → IsTooDeep w p x → ⊥
none_deep w p x more tree h deep =
    let r = read_back w (p ++ x ∷ more) tree h in
    none_too_deep w (roles.places_in w tree) IsDone r.1 (text_runs w tree) (T p) (T more) (terminal_of x) (r.0 ∙ map-append terminal_of p (x ∷ more)) (deep_back w p x deep)

-- ---- from roles to tokens

prefix_to : (w : Text) (b : Ts) → reading.IsPrefix w b → IsPrefix w (L b)
prefix_to w b h = (h.0, L h.1, text_lexed w h.0 ∙ ap L h.2 ∙ map-append lexeme_as b h.1)

deep_to : (w : Text) (b : Ts) (x : Terminal) → reading.IsTooDeep w b x → IsTooDeep w (L b) (lexeme_as x)
deep_to w b x h = (h.0, lexemes_at_depth h.1, h.2, lexemes_at_depth h.3, places_lexed w h.0 ∙ ap lexemes_at_depth h.4 ∙ map-append with_lexeme h.1 ((x, h.2) ∷ h.3), tokens_lexed h.1 ∙ ap L h.5, h.6)

none_to : (w : Text) (b : Ts) → reading.HasNoneTooDeep w b → HasNoneTooDeep w (L b)
none_to w b h p q x e deep = h (T p) (T q) (terminal_of x) (sym (terminals_back b) ∙ ap T e ∙ map-append terminal_of p (x ∷ q)) (deep_back w p x deep)

follow_to : (w : Text) (b r : Ts) → reading.CannotFollow w b r → CannotFollow w (L b) (L r)
follow_to w b [] h = λ tree e. h tree (text_back w tree ∙ ap T e ∙ terminals_back b)
follow_to w b (x ∷ more) h = λ prefix.
    h (subst (λ (z : Ts). reading.IsPrefix w z) (ap T (sym (map-append lexeme_as b (x ∷ []))) ∙ terminals_back (b ++ x ∷ [])) (prefix_back w (L b ++ lexeme_as x ∷ []) prefix))

stops_to : (w : Text) (b r : Ts) → reading.StopsAt w b r → StopsAt w (L b) (L r)
stops_to w b r h = (prefix_to w b h.prefix, none_to w b h.shallow, follow_to w b r h.stops)

pub syntax_to : (w : Text) (all r : Ts) → reading.IsSyntaxAt w all r → IsSyntaxAt w (L all) (L r)
syntax_to w all r h = (
  L h.before,
  ap L h.parts ∙ map-append lexeme_as h.before r,
  stops_to w h.before r h.stops,
  λ prefix n e. ap L (h.other (T prefix) n (sym (terminals_back h.before) ∙ ap T e ∙ map-append terminal_of prefix (l.sign signs.Dollar ∷ l.name n ∷ []))),
)

pub too_deep_to : (w : Text) (all r : Ts) → reading.IsTooDeepAt w all r → IsTooDeepAt w (L all) (L r)
too_deep_to w all r h =
    (L h.before, lexeme_as h.first, L h.more, ap L h.is, ap L h.parts ∙ map-append lexeme_as h.before r, none_to w h.before h.shallow, deep_to w h.before h.first h.deep)

pub out_of_profile_to : (w : Text) (all r : Ts) → reading.IsOutOfProfileAt w all r → IsOutOfProfileAt w (L all) (L r)
out_of_profile_to w all r h =
    let subject : Ts = t.dollar ∷ t.name h.subject ∷ [] in (
      L h.before,
      h.subject,
      lexeme_as h.bad,
      L h.more,
      ap L h.is,
      ap L h.parts ∙ map-append lexeme_as h.before r,
      subst (λ (z : Ls). StopsAt w z (L (h.bad ∷ h.more))) (map-append lexeme_as h.before subject) (stops_to w (h.before ++ subject) (h.bad ∷ h.more) h.stops),
    )

-- ---- the tokens of a text

pub read_lexed : (w : Text) (ts : List Token) (tree : TreeOf w) → reading.IsReadAs w (terminals_of ts) tree → IsReadAs w (map lexeme_of ts) tree
read_lexed w ts tree h =
    (text_lexed w tree ∙ ap L h.0 ∙ same_lexemes ts, subst AreShallow (sym (places_lexed w tree)) (shallow_lexed (roles.places_in w tree) h.1))

pub left_lexed : (P : Ts → Ts → Type 0) (Q : Ls → Ls → Type 0) → ((all r : Ts) → P all r → Q (L all) (L r)) → (ts : List Token) (at : ℕ) → P (terminals_of ts) (tokens_left ts at)
    → Q (map lexeme_of ts) (map lexeme_of (drop at ts))
left_lexed P Q to ts at h =
    subst (λ (z : Ls). Q z (map lexeme_of (drop at ts))) (same_lexemes ts) (subst (λ (z : Ls). Q (L (terminals_of ts)) z) (same_lexemes (drop at ts)) (to (terminals_of ts) (tokens_left ts at) h))
