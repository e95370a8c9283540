-- The fault of some tokens is one, and the tokens of a tree have none.
use Rattle.std.proofs.Common.{◌≡◌, ◌⊎◌, inl, inr, ℕ, List, [], ◌∷◌, ◌++◌, length, refl, sym, ap, subst, ◌∙◌, append_assoc, arith, length-append}
use Rattle.std.proofs.lemmas.List.{append-nil, map-append}
use Rattle.sbl_token.specs.Lexemes as l
use Rattle.sbl_token.specs.Lexemes.{Lexeme}
use Rattle.sbl_token.specs.declared.signs.Sign.TheVariants as signs
use Rattle.sbl_ast.specs.Texts.{Text, TreeOf, tokens_of}
use Rattle.sbl_ast.specs.Places.{AtDepth, tokens}
use Rattle.sbl_parser.specs.Reading.{IsPrefix, IsTooDeep, HasNoneTooDeep, IsReadAs, CannotFollow, StopsAt, IsSyntaxAt, IsTooDeepAt, IsOutOfProfileAt}
use Rattle.sbl_parser.specs.Laws.{Wrong, syntax, too_deep, out_of_profile, IsWrongAt}
use Rattle.sbl_parser.proofs.Lexed.{none_deep}

abbrev Ts : Type 0
Ts = List Lexeme

cons : {a b : Ts} (x : Lexeme) → a ≡ b → x ∷ a ≡ x ∷ b
cons x e = ap (λ (r : Ts). x ∷ r) e

-- ---- two ways to cut the same tokens

-- p ends before q does
abbrev IsBefore : Ts → Ts → Ts → Ts → Type 0
IsBefore p r q s = (x : Lexeme) × (c : Ts) × (q ≡ p ++ x ∷ c) × (r ≡ x ∷ (c ++ s))

abbrev Cuts : Ts → Ts → Ts → Ts → Type 0
Cuts p r q s = ((p ≡ q) × (r ≡ s)) ⊎ (IsBefore p r q s ⊎ IsBefore q s p r)

same_head : (x y : Lexeme) (a b : Ts) → x ∷ a ≡ y ∷ b → x ≡ y
same_head x y a b e = cc

same_tail : (x y : Lexeme) (a b : Ts) → x ∷ a ≡ y ∷ b → a ≡ b
same_tail x y a b e = cc

cons_same : (x y : Lexeme) (a b : Ts) → x ≡ y → a ≡ b → x ∷ a ≡ y ∷ b
cons_same x y a b e f = cc

cuts : (p r q s : Ts) → p ++ r ≡ q ++ s → Cuts p r q s
cuts [] r [] s e = inl (refl, e)
cuts [] r (y ∷ q) s e = inr (inl (y, q, refl, e))
cuts (x ∷ p) r [] s e = inr (inr (x, p, refl, sym e))
cuts (x ∷ p) r (y ∷ q) s e = go (cuts p r q s (same_tail x y (p ++ r) (q ++ s) e)) where
  head : x ≡ y
  head = same_head x y (p ++ r) (q ++ s) e

  go : Cuts p r q s → Cuts (x ∷ p) r (y ∷ q) s
  go (inl h) = inl (cons_same x y p q head h.0, h.1)
  go (inr (inl h)) = inr (inl (h.0, h.1, cons_same y x q (p ++ h.0 ∷ h.1) (sym head) h.2, h.3))
  go (inr (inr h)) = inr (inr (h.0, h.1, cons_same x y p (q ++ h.0 ∷ h.1) head h.2, h.3))

-- ---- prefixes

-- a prefix of a prefix is a prefix
prefix_of_prefix : (k : Text) (p : Ts) (x : Lexeme) (c : Ts) → IsPrefix k (p ++ x ∷ c) → IsPrefix k (p ++ x ∷ [])
prefix_of_prefix k p x c h = (h.0, c ++ h.1, h.2 ∙ append_assoc p (x ∷ c) h.1 ∙ sym (append_assoc p (x ∷ []) (c ++ h.1)))

-- a token that stands too deep may stand there
deep_prefix : (k : Text) (p : Ts) (x : Lexeme) → IsTooDeep k p x → IsPrefix k (p ++ x ∷ [])
deep_prefix k p x h =
    let rest : Ts = tokens h.3 in
    let whole : tokens_of k h.0 ≡ tokens h.1 ++ x ∷ rest = ap (λ (r : List AtDepth). tokens r) h.4 ∙ map-append (λ q. q.0) h.1 ((x, h.2) ∷ h.3) in
    (h.0, rest, whole ∙ ap (λ (r : Ts). r ++ x ∷ rest) h.5 ∙ sym (append_assoc p (x ∷ []) rest))

-- what cannot follow is no prefix
no_prefix : (k : Text) (p r : Ts) (x : Lexeme) (c : Ts) → CannotFollow k p r → r ≡ x ∷ c → IsPrefix k (p ++ x ∷ []) → ⊥
no_prefix k p [] x c h e prefix = absurd cc
no_prefix k p (y ∷ r) x c h e prefix = h (subst (λ (z : Lexeme). IsPrefix k (p ++ z ∷ [])) (sym (same_head y x r c e)) prefix)

-- ---- two faults of the same tokens

-- nothing stops before a prefix ends
stops_before : (k : Text) (p r q s : Ts) → StopsAt k p r → IsPrefix k q → IsBefore p r q s → ⊥
stops_before k p r q s h prefix b = no_prefix k p r b.0 (b.1 ++ s) h.2 b.3 (prefix_of_prefix k p b.0 b.1 (subst (λ (z : Ts). IsPrefix k z) b.2 prefix))

both_stop : (k : Text) (p r q s : Ts) → p ++ r ≡ q ++ s → StopsAt k p r → StopsAt k q s → (p ≡ q) × (r ≡ s)
both_stop k p r q s e h g = go (cuts p r q s e) where
  go : Cuts p r q s → (p ≡ q) × (r ≡ s)
  go (inl same) = same
  go (inr (inl b)) = absurd (stops_before k p r q s h g.0 b)
  go (inr (inr b)) = absurd (stops_before k q s p r g h.0 b)

-- none is too deep before
not_before : (k : Text) (p r q : Ts) (x : Lexeme) (more : Ts) → HasNoneTooDeep k p → IsTooDeep k q x → IsBefore q (x ∷ more) p r → ⊥
not_before k p r q x more h deep b = h q b.1 x (b.2 ∙ ap (λ (z : Lexeme). q ++ z ∷ b.1) (sym (same_head x b.0 more (b.1 ++ r) b.3))) deep

-- a prefix that one more token makes longer
stops_at_deep : (k : Text) (p r q : Ts) (x : Lexeme) (more : Ts) → p ++ r ≡ q ++ x ∷ more → StopsAt k p r → IsTooDeep k q x → ⊥
stops_at_deep k p r q x more e h deep = go (cuts p r q (x ∷ more) e) where
  prefix : IsPrefix k (q ++ x ∷ [])
  prefix = deep_prefix k q x deep

  go : Cuts p r q (x ∷ more) → ⊥
  go (inl same) = no_prefix k p r x more h.2 same.1 (subst (λ (z : Ts). IsPrefix k (z ++ x ∷ [])) (sym same.0) prefix)
  go (inr (inl b)) =
      let longer : q ++ x ∷ [] ≡ p ++ b.0 ∷ (b.1 ++ x ∷ []) = ap (λ (z : Ts). z ++ x ∷ []) b.2 ∙ append_assoc p (b.0 ∷ b.1) (x ∷ []) in
      no_prefix k p r b.0 (b.1 ++ x ∷ more) h.2 b.3 (prefix_of_prefix k p b.0 (b.1 ++ x ∷ []) (subst (λ (z : Ts). IsPrefix k z) longer prefix))
  go (inr (inr b)) = not_before k p r q x more h.1 deep b

both_deep : (k : Text) (p : Ts) (x : Lexeme) (m q : Ts) (y : Lexeme) (n : Ts) → p ++ x ∷ m ≡ q ++ y ∷ n → HasNoneTooDeep k p → IsTooDeep k p x → HasNoneTooDeep k q → IsTooDeep k q y → x ∷ m ≡ y ∷ n
both_deep k p x m q y n e hp dp hq dq = go (cuts p (x ∷ m) q (y ∷ n) e) where
  go : Cuts p (x ∷ m) q (y ∷ n) → x ∷ m ≡ y ∷ n
  go (inl same) = same.1
  go (inr (inl b)) = absurd (not_before k q (y ∷ n) p x m hq dp b)
  go (inr (inr b)) = absurd (not_before k p (x ∷ m) q y n hp dq b)

-- ---- each two

-- the tokens before the bad one of a `$` and its name
abbrev subject : List ℕ → Ts
subject n = l.sign signs.Dollar ∷ l.name n ∷ []

profile_parts : (k : Text) (all r : Ts) (h : IsOutOfProfileAt k all r) → all ≡ (h.0 ++ subject h.1) ++ h.2 ∷ h.3
profile_parts k all r h = h.5 ∙ ap (λ (z : Ts). h.0 ++ z) h.4 ∙ sym (append_assoc h.0 (subject h.1) (h.2 ∷ h.3))

deep_parts : (k : Text) (all r : Ts) (h : IsTooDeepAt k all r) → all ≡ h.0 ++ h.1 ∷ h.2
deep_parts k all r h = h.4 ∙ ap (λ (z : Ts). h.0 ++ z) h.3

two_syntax : (k : Text) (all r s : Ts) → IsSyntaxAt k all r → IsSyntaxAt k all s → r ≡ s
two_syntax k all r s h g = (both_stop k h.0 r g.0 s (sym h.1 ∙ g.1) h.2 g.2).1

syntax_deep : (k : Text) (all r s : Ts) → IsSyntaxAt k all r → IsTooDeepAt k all s → ⊥
syntax_deep k all r s h g = stops_at_deep k h.0 r g.0 g.1 g.2 (sym h.1 ∙ deep_parts k all s g) h.2 g.6

syntax_profile : (k : Text) (all r s : Ts) → IsSyntaxAt k all r → IsOutOfProfileAt k all s → ⊥
syntax_profile k all r s h g =
    let same = both_stop k h.0 r (g.0 ++ subject g.1) (g.2 ∷ g.3) (sym h.1 ∙ profile_parts k all s g) h.2 g.6 in
    let none : r ≡ [] = h.3 g.0 g.1 same.0 in
    let some : r ≡ g.2 ∷ g.3 = same.1 in absurd (cc (sym none ∙ some))

two_deep : (k : Text) (all r s : Ts) → IsTooDeepAt k all r → IsTooDeepAt k all s → r ≡ s
two_deep k all r s h g = h.3 ∙ both_deep k h.0 h.1 h.2 g.0 g.1 g.2 (sym (deep_parts k all r h) ∙ deep_parts k all s g) h.5 h.6 g.5 g.6 ∙ sym g.3

profile_deep : (k : Text) (all r s : Ts) → IsOutOfProfileAt k all r → IsTooDeepAt k all s → ⊥
profile_deep k all r s h g =
    stops_at_deep k (h.0 ++ subject h.1) (h.2 ∷ h.3) g.0 g.1 g.2 (sym (profile_parts k all r h) ∙ deep_parts k all s g) h.6 g.6

two_profile : (k : Text) (all r s : Ts) → IsOutOfProfileAt k all r → IsOutOfProfileAt k all s → r ≡ s
two_profile k all r s h g =
    let same = both_stop k (h.0 ++ subject h.1) (h.2 ∷ h.3) (g.0 ++ subject g.1) (g.2 ∷ g.3) (sym (profile_parts k all r h) ∙ profile_parts k all s g) h.6 g.6 in
    h.4 ∙ same_ends h.0 g.0 (l.name h.1) (l.name g.1) (h.2 ∷ h.3) (g.2 ∷ g.3) same.0 same.1 ∙ sym g.4 where
      ends : (p q : Ts) (a b c d : Lexeme) → p ++ a ∷ b ∷ [] ≡ q ++ c ∷ d ∷ [] → b ≡ d
      ends [] [] a b c d e = cc
      ends [] (y ∷ q) a b c d e = absurd (omega (arith, ap length e, length-append q (c ∷ d ∷ [])))
      ends (x ∷ p) [] a b c d e = absurd (omega (arith, ap length e, length-append p (a ∷ b ∷ [])))
      ends (x ∷ p) (y ∷ q) a b c d e = ends p q a b c d (same_tail x y (p ++ a ∷ b ∷ []) (q ++ c ∷ d ∷ []) e)

      same_ends : (p q : Ts) (a b : Lexeme) (m n : Ts) → p ++ l.sign signs.Dollar ∷ a ∷ [] ≡ q ++ l.sign signs.Dollar ∷ b ∷ [] → m ≡ n → l.sign signs.Dollar ∷ a ∷ m ≡ l.sign signs.Dollar ∷ b ∷ n
      same_ends p q a b m n e f = cons (l.sign signs.Dollar) (cons_same a b m n (ends p q (l.sign signs.Dollar) a (l.sign signs.Dollar) b e) f)

pub fault_is_one : (k : Text) (all r s : Ts) (v w : Wrong) → IsWrongAt k v all r → IsWrongAt k w all s → (v ≡ w) × (r ≡ s)
fault_is_one k all r s syntax syntax h g = (refl, two_syntax k all r s h g)
fault_is_one k all r s syntax too_deep h g = absurd (syntax_deep k all r s h g)
fault_is_one k all r s syntax out_of_profile h g = absurd (syntax_profile k all r s h g)
fault_is_one k all r s too_deep syntax h g = absurd (syntax_deep k all s r g h)
fault_is_one k all r s too_deep too_deep h g = (refl, two_deep k all r s h g)
fault_is_one k all r s too_deep out_of_profile h g = absurd (profile_deep k all s r g h)
fault_is_one k all r s out_of_profile syntax h g = absurd (syntax_profile k all s r g h)
fault_is_one k all r s out_of_profile too_deep h g = absurd (profile_deep k all r s h g)
fault_is_one k all r s out_of_profile out_of_profile h g = (refl, two_profile k all r s h g)

-- ---- a tree has none

no_stop : (k : Text) (p r : Ts) (tree : TreeOf k) → tokens_of k tree ≡ p ++ r → StopsAt k p r → ⊥
no_stop k p r tree e h = go r e h.2 where
  go : (r : Ts) → tokens_of k tree ≡ p ++ r → CannotFollow k p r → ⊥
  go [] e stops = stops tree (e ∙ append-nil p)
  go (x ∷ more) e stops = stops (tree, more, e ∙ sym (append_assoc p (x ∷ []) more))

no_deep : (k : Text) (p : Ts) (x : Lexeme) (more : Ts) (tree : TreeOf k) → IsReadAs k (p ++ x ∷ more) tree → IsTooDeep k p x → ⊥
no_deep k p x more tree h deep = none_deep k p x more tree h deep

pub tree_or_fault : (k : Text) (all rest : Ts) (tree : TreeOf k) (w : Wrong) → IsReadAs k all tree → IsWrongAt k w all rest → ⊥
tree_or_fault k all rest tree syntax h g = no_stop k g.0 rest tree (h.0 ∙ g.1) g.2
tree_or_fault k all rest tree too_deep h g = no_deep k g.0 g.1 g.2 tree (subst (λ (z : Ts). IsReadAs k z tree) (deep_parts k all rest g) h) g.6
tree_or_fault k all rest tree out_of_profile h g = no_stop k (g.0 ++ subject g.1) (g.2 ∷ g.3) tree (h.0 ∙ profile_parts k all rest g) g.6
