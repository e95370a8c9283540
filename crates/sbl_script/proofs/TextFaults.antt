-- A fault of a text, and of its tokens, is none of a check.
use Rattle.std.proofs.Common.{◌≡◌, ◌⊎◌, inl, inr, ℕ, ◌+◌, Bool, true, false, cond, ◌&&◌, ◌||◌, List, [], ◌∷◌, Option, Some, None, is_some, Result, Ok, Err, refl, subst, ap, ◌∙◌}
use Rattle.std.specs.Prelude.{◌==◌}
use Rattle.std.specs.List.{list_all}
use Rattle.sbl_text.specs.declared.fault.ScriptFault.{ScriptFault}
use Rattle.sbl_text.specs.declared.fault.ScriptFault.TheVariants as fault
use Rattle.sbl_text.specs.declared.pieces.Shape.{Shape}
use Rattle.sbl_text.specs.declared.pieces.Shape.TheVariants as shape
use Rattle.sbl_text.specs.declared.pieces.Expectation.{Expectation}
use Rattle.sbl_text.specs.declared.pieces.Expectation.TheVariants as wanted
use Rattle.sbl_text.specs.Classes.{is_white, quote, slash}
use Rattle.sbl_text.specs.declared.escapes.Inserts.{Inserts}
use Rattle.sbl_text.specs.Escapes.{InForce, find, opens}
use Rattle.sbl_text.specs.Literals.{byte_length, character_named, insertion_value, FirstWrong}
use Rattle.sbl_text.specs.inside.LiteralParts.{Refusal, code_or_fault, value_or_character}
use Rattle.sbl_text.specs.Codes.{code_of}
use Rattle.sbl_text.specs.Directives.{Directives}
use Rattle.sbl_text.specs.Tokens.{PlacedToken, fault_at, IsRefused}
use Rattle.sbl_text.specs.inside.TokenParts.{starts_star, pair_fault, token_fault}
use Rattle.sbl_ast.specs.Texts.{Text}
use Rattle.sbl_script.specs.OnlyTheItem.{item_of}
use Rattle.sbl_script.specs.Reading.{IsTextFault, IsUnread}

-- the external that is run fails
abbrev lacks_external : ScriptFault → Bool
lacks_external fault.NoExternal = true
lacks_external _ = false

-- it is the fault of a check
abbrev pub is_checked : ScriptFault → Bool
is_checked f = is_some (item_of f) || lacks_external f

abbrev IsOfText : ScriptFault → Type 0
IsOfText f = is_checked f ≡ false

as_said : (f g : ScriptFault) → IsOfText g → f ≡ g → IsOfText f
as_said f g h e = ap is_checked e ∙ h

-- ---- insertions

abbrev AreOfText : Refusal → Type 0
AreOfText g = (place : ℕ) → IsOfText (g place)

abbrev Refuses : {X : Type 0} → Result X Refusal → Type 0
Refuses r = (g : Refusal) → r ≡ Err g → AreOfText g

refuses_text : {X : Type 0} (h : Refusal) → AreOfText h → Refuses {X = X} (Err h)
refuses_text h k g e = let same : h ≡ g = cc in subst AreOfText same k

unknown : {X : Type 0} → Refuses {X = X} (Err fault.UnknownEscape)
unknown = refuses_text fault.UnknownEscape (λ place. refl)

ok_refuses : {X : Type 0} (x : X) → Refuses (Ok x)
ok_refuses x g e = absurd cc

code_refuses : (o : Option ℕ) → Refuses (code_or_fault o)
code_refuses None = refuses_text fault.BadCode (λ place. refl)
code_refuses (Some c) = ok_refuses c

either : {X : Type 0} (b : Bool) (x y : Result X Refusal) → Refuses x → Refuses y → Refuses (cond b x y)
either true x y h k = h
either false x y h k = k

character_refuses : (e : Option Inserts) (name : List ℕ) → Refuses (character_named e name)
character_refuses e [] = unknown
character_refuses e (c ∷ []) = either (c == quote || opens e c) (Ok c) (Err fault.UnknownEscape) (ok_refuses c) unknown
character_refuses e (c ∷ d ∷ cs) = either (c == 85 && d == 43) (code_or_fault (code_of 16 6 cs)) (Err fault.UnknownEscape) (code_refuses (code_of 16 6 cs)) unknown

value_refuses : (o : Option (List ℕ)) (c : Result ℕ Refusal) → Refuses c → Refuses (value_or_character o c)
value_refuses (Some v) c h = ok_refuses v
value_refuses None (Ok c) h = ok_refuses (c ∷ [])
value_refuses None (Err k) h = refuses_text k (h k refl)

inserted_refuses : (e : InForce) (name : List ℕ) → Refuses (insertion_value e name)
inserted_refuses e name =
    either (list_all is_white name) (Ok []) (value_or_character (find e.macros name) (character_named e.inserts name)) (ok_refuses [])
    (value_refuses (find e.macros name) (character_named e.inserts name) (character_refuses e.inserts name))

first_wrong : (e : InForce) (spelling : List ℕ) (place : ℕ) (f : ScriptFault) → FirstWrong e spelling place f → IsOfText f
first_wrong e spelling place f (before, rest, ps, parts, are, inl (more, is, said)) = as_said f _ refl said
first_wrong e spelling place f (before, rest, ps, parts, are, inr (x, name, more, is, insertion, g, none, said)) = as_said f _ (inserted_refuses e name g none _) said

-- ---- pieces

pair_of_text : (text : List ℕ) (place : ℕ) → IsOfText (pair_fault text place)
pair_of_text [] place = refl
pair_of_text (c ∷ cs) place = at (c == quote) place (place + byte_length (c ∷ [])) where
  at : (b : Bool) (x y : ℕ) → IsOfText (cond b (fault.BadCharacter x) (fault.BadCharacter y))
  at true x y = refl
  at false x y = refl

token_of_text : (text : List ℕ) (place : ℕ) → IsOfText (token_fault text place)
token_of_text [] place = refl
token_of_text (c ∷ cs) place = at (c == quote) (c == slash && starts_star cs) where
  at : (a b : Bool) → IsOfText (cond a (fault.UnclosedString place) (cond b (fault.UnclosedComment place) (fault.BadCharacter place)))
  at true b = refl
  at false true = refl
  at false false = refl

prefix_of_text : (w : Expectation) (text : List ℕ) (place : ℕ) → IsOfText (fault_at w text place)
prefix_of_text wanted.Inserts text place = pair_of_text text place
prefix_of_text wanted.Token text place = token_of_text text place
prefix_of_text wanted.MacroName text place = token_of_text text place

piece_of_text : (s : Directives) (k : Shape) (x : List ℕ) (place : ℕ) (f : ScriptFault) → IsRefused s k x place f → IsOfText f
piece_of_text s shape.Number x place f (high, said) = as_said f _ refl said
piece_of_text s shape.Literal x place f (inner, is, inl h) = first_wrong s.escapes inner (place + 1) f h
piece_of_text s shape.Literal x place f (inner, is, inr (v, means, none, said)) = as_said f _ refl said
piece_of_text s _ x place f h = absurd h

-- ---- texts, and their tokens

one_of_three : {P Q R : Type 0} (f x y z : ScriptFault) → IsOfText x → IsOfText y → IsOfText z → (P × (f ≡ x)) ⊎ ((Q × (f ≡ y)) ⊎ (R × (f ≡ z))) → IsOfText f
one_of_three f x y z a b c (inl h) = as_said f x a h.1
one_of_three f x y z a b c (inr (inl h)) = as_said f y b h.1
one_of_three f x y z a b c (inr (inr h)) = as_said f z c h.1

pub text_fault : (s : Directives) (bytes : List ℕ) (f : ScriptFault) → IsTextFault s bytes f → is_checked f ≡ false
text_fault s bytes f (inl (long, said)) = as_said f _ refl said
text_fault s bytes f (inr (inl (short, none, said))) = as_said f _ refl said
text_fault s bytes f (inr (inr (short, is, (before, rest, ps, t, parts, cut, inl (ends, none, said))))) = as_said f _ (prefix_of_text t.wanted rest _) said
text_fault s bytes f (inr (inr (short, is, (before, rest, ps, t, parts, cut, inr (k, x, more, split, piece, bad))))) = piece_of_text t k x _ f bad

pub unread : (w : Text) (ts : List PlacedToken) (end : ℕ) (f : ScriptFault) → IsUnread w ts end f → is_checked f ≡ false
unread w ts end f (inl (place, left, said)) = as_said f _ refl said
unread w ts end f (inr (offered, g)) = one_of_three f _ _ _ refl refl refl g.3
