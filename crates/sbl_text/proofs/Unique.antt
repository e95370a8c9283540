-- A text has one list of tokens, or one first fault.
use Rattle.std.proofs.Common.{◌≡◌, ℕ, ◌+◌, ◌<◌, Bool, true, false, List, [], ◌∷◌, ◌++◌, length, Option, Some, None, Result, Ok, Err, refl, sym, ap, subst, ◌∙◌, arith, append_assoc, ◌⊎◌, inl, inr}
use Rattle.std.specs.Prelude.{not, ◌==◌, encode_utf8_all}
use Rattle.std.specs.List.{list_all}
use Rattle.std.proofs.lemmas.List.{append_cancel_right}
use Rattle.sbl_text.specs.declared.pieces.Shape.{Shape}
use Rattle.sbl_text.specs.declared.pieces.Shape.TheVariants as shape
use Rattle.sbl_text.specs.declared.escapes.Inserts.{Inserts}
use Rattle.sbl_text.specs.declared.fault.ScriptFault.{ScriptFault}
use Rattle.sbl_text.specs.declared.fault.ScriptFault.TheVariants as fault
use Rattle.sbl_token.specs.declared.token.Token.{Token}
use Rattle.sbl_text.specs.Escapes.{InForce, opens, closes}
use Rattle.sbl_text.specs.Literals.{byte_length, insertion_value, IsInsertion, IsPlain, Part, IsPart, AreParts, Means, IsWrong, FirstWrong, IsLiteral}
use Rattle.sbl_text.specs.inside.LiteralParts.{Refusal, values}
use Rattle.sbl_text.specs.Pieces.{Setting, IsPiece, is_gap}
use Rattle.sbl_text.specs.Scan.{FirstPiece, cut_in}
use Rattle.sbl_token.specs.Lexemes.{Lexeme, lexeme_of, sign, literal, inserts}
use Rattle.sbl_text.specs.Directives.{Directives, setting_of, value_for, after}
use Rattle.sbl_text.specs.Tokens.{IsLexeme, HasValue, Piece, AreCut, piece_lexemes, MayEnd, AreTokensFrom, PlacedToken, placed_from, ArePlacedFrom, IsRefused, IsFault, IsFirstFaultFrom, Advances, Reading, IsAnswer, IsNext}
use Rattle.sbl_text.specs.inside.TokenParts.{MaySay, after_piece}
use Rattle.sbl_text.proofs.Written.{signs_differ}
use Rattle.sbl_text.proofs.Cuts.{and_left, and_right}
use Rattle.sbl_text.proofs.Whole.{LeavesCut, longest}
use Rattle.sbl_text.proofs.Lists.{append_nil, cut_append, said_append, said_gaps, as_pieces, gaps_cut, some_text}

-- ---- one piece

same_prefix : (x y r s : List ℕ) → length x ≡ length y → x ++ r ≡ y ++ s → (x ≡ y) × (r ≡ s)
same_prefix [] [] r s l h = (refl, h)
same_prefix [] (c ∷ y) r s l h = absurd (omega (arith, l))
same_prefix (c ∷ x) [] r s l h = absurd (omega (arith, l))
same_prefix (c ∷ x) (d ∷ y) r s l h =
    let i : x ++ r ≡ y ++ s = cc in let d_is : c ≡ d = cc in
    let t = same_prefix x y r s (omega (arith, l)) i in (cc, t.1)

same_shape : (j k : Shape) (n m : ℕ) (o : FirstPiece) → LeavesCut j n o → LeavesCut k m o → j ≡ k
same_shape j k n m None a b = absurd a
same_shape j k n m (Some p) a b = sym a.0 ∙ b.0

piece_one : (e : Setting) (j k : Shape) (x y r s : List ℕ) → IsPiece e j x r → IsPiece e k y s → x ++ r ≡ y ++ s → (j ≡ k) × (x ≡ y) × (r ≡ s)
piece_one e j k x y r s p q is =
    let a = longest e j x r p.stands in
    let b = longest e k y s q.stands in
    let l : length x ≡ length y = omega (arith, p.longest k y s is q.stands, q.longest j x r (sym is) p.stands) in
    let t = same_prefix x y r s l is in
    (same_shape j k (length r) (length s) (cut_in e.inserts e.wanted (x ++ r)) a (subst (λ (u : List ℕ). LeavesCut k (length s) (cut_in e.inserts e.wanted u)) (sym is) b), t.0, t.1)

-- ---- one meaning of a spelling

abbrev Free : Option Inserts → List ℕ → Type 0
Free e x = list_all (λ c. not (closes e c)) x ≡ true

not_free : (e : Option Inserts) (b c : ℕ) (x : List ℕ) → closes e b ≡ true → b ≡ c → Free e (c ∷ x) → ⊥
not_free e b c x h is f =
    let k : not (closes e c) ≡ true = and_left (not (closes e c)) (list_all (λ d. not (closes e d)) x) f in
    let m : not (closes e c) ≡ false = ap (λ (d : ℕ). not (closes e d)) (sym is) ∙ ap not h in absurd (cc (sym k ∙ m))

name_one : (e : Option Inserts) (x y : List ℕ) (b d : ℕ) (r s : List ℕ) → Free e x → Free e y → closes e b ≡ true → closes e d ≡ true → x ++ b ∷ r ≡ y ++ d ∷ s → (x ≡ y) × (b ≡ d) × (r ≡ s)
name_one e [] [] b d r s f g i j is = (refl, cc, cc)
name_one e [] (c ∷ y) b d r s f g i j is = absurd (not_free e b c y i (cc) g)
name_one e (c ∷ x) [] b d r s f g i j is = absurd (not_free e d c x j (cc) f)
name_one e (c ∷ x) (k ∷ y) b d r s f g i j is =
    let t : x ++ b ∷ r ≡ y ++ d ∷ s = cc in
    let h : c ≡ k = cc in
    let n = name_one e x y b d r s (and_right (not (closes e c)) (list_all (λ m. not (closes e m)) x) f) (and_right (not (closes e k)) (list_all (λ m. not (closes e m)) y) g) i j t in
    (ap (λ (v : List ℕ). c ∷ v) n.0 ∙ ap (λ (m : ℕ). m ∷ y) h, n.1, n.2)

-- an insertion is taken in one way
insertion_one : (e : InForce) (x y n m r s : List ℕ) → IsInsertion e x n → IsInsertion e y m → x ++ r ≡ y ++ s → (x ≡ y) × (n ≡ m) × (r ≡ s)
insertion_one e x y n m r s a b is =
    let i : a.0 ∷ ((n ++ a.1 ∷ []) ++ r) ≡ b.0 ∷ ((m ++ b.1 ∷ []) ++ s) = ap (λ (t : List ℕ). t ++ r) (sym a.2) ∙ is ∙ ap (λ (t : List ℕ). t ++ s) b.2 in
    let first : a.0 ≡ b.0 = cc in
    let j : (n ++ a.1 ∷ []) ++ r ≡ (m ++ b.1 ∷ []) ++ s = cc in
    let k : n ++ a.1 ∷ r ≡ m ++ b.1 ∷ s = sym (append_assoc n (a.1 ∷ []) r) ∙ j ∙ append_assoc m (b.1 ∷ []) s in
    let t = name_one e.inserts n m a.1 b.1 r s a.6 b.6 a.5 b.5 k in
    (a.2 ∙ ap (λ (c : ℕ). c ∷ (n ++ a.1 ∷ [])) first ∙ ap (λ (v : List ℕ). b.0 ∷ (v ++ a.1 ∷ [])) t.0 ∙ ap (λ (c : ℕ). b.0 ∷ (m ++ c ∷ [])) t.1 ∙ sym b.2, t.0, t.2)

plain_not_insertion : (e : InForce) (x y v n r s : List ℕ) → IsPlain e x v → IsInsertion e y n → x ++ r ≡ y ++ s → ⊥
plain_not_insertion e x y v n r s a b is =
    let i : a.0 ∷ r ≡ b.0 ∷ ((n ++ b.1 ∷ []) ++ s) = ap (λ (t : List ℕ). t ++ r) (sym a.1) ∙ is ∙ ap (λ (t : List ℕ). t ++ s) b.2 in
    let first : a.0 ≡ b.0 = cc in
    let k : opens e.inserts b.0 ≡ false = ap (opens e.inserts) (sym first) ∙ a.3 in
    absurd (cc (sym b.4 ∙ k))

same_part : (p q : Part) → p.text ≡ q.text → p.value ≡ q.value → p ≡ q
same_part p q a b =
    let make : List ℕ → List ℕ → Part = λ t v. record { text = t; value = v } in ap (λ (t : List ℕ). make t p.value) a ∙ ap (make q.text) b

part_one : (e : InForce) (p q : Part) (r s : List ℕ) → IsPart e p → IsPart e q → p.text ++ r ≡ q.text ++ s → (p ≡ q) × (r ≡ s)
part_one e p q r s (inl a) (inl b) is =
    let i : a.0 ∷ r ≡ b.0 ∷ s = ap (λ (t : List ℕ). t ++ r) (sym a.1) ∙ is ∙ ap (λ (t : List ℕ). t ++ s) b.1 in
    let first : a.0 ≡ b.0 = cc in
    let h = ap (λ (c : ℕ). let t : List ℕ = c ∷ [] in t) first in
    (same_part p q (a.1 ∙ h ∙ sym b.1) (a.4 ∙ h ∙ sym b.4), cc)
part_one e p q r s (inl a) (inr b) is = absurd (plain_not_insertion e p.text q.text p.value b.0 r s a b.1 is)
part_one e p q r s (inr a) (inl b) is = absurd (plain_not_insertion e q.text p.text q.value a.0 s r b a.1 (sym is))
part_one e p q r s (inr a) (inr b) is =
    let t = insertion_one e p.text q.text a.0 b.0 r s a.1 b.1 is in
    let o : Ok p.value ≡ Ok q.value = sym a.2 ∙ ap (insertion_value e) t.1 ∙ b.2 in
    (same_part p q t.0 (cc), t.2)

part_takes : (e : InForce) (p : Part) → IsPart e p → 0 < length p.text
part_takes e p (inl a) = let l = ap length a.1 in omega arith
part_takes e p (inr a) = let l = ap length a.1.2 in omega arith

starts_empty : (x y : List ℕ) → [] ≡ x ++ y → x ≡ []
starts_empty [] y is = refl
starts_empty (c ∷ x) y is = cc

no_part : (e : InForce) (p : Part) (following : List ℕ) → [] ≡ p.text ++ following → IsPart e p → ⊥
no_part e p following is h = let l = part_takes e p h in omega (arith, ap length (starts_empty p.text following is), l)

parts_one : (e : InForce) (text : List ℕ) (ps qs : List Part) → AreParts e text ps [] → AreParts e text qs [] → ps ≡ qs
parts_one e text [] [] a b = refl
parts_one e text [] (q ∷ qs) a b = absurd (no_part e q b.0 (sym a ∙ b.1) b.2)
parts_one e text (p ∷ ps) [] a b = absurd (no_part e p a.0 (sym b ∙ a.1) a.2)
parts_one e text (p ∷ ps) (q ∷ qs) a b =
    let o = part_one e p q a.0 b.0 a.2 b.2 (sym a.1 ∙ b.1) in
    ap (λ (x : Part). x ∷ ps) o.0 ∙ ap (λ (t : List Part). q ∷ t) (parts_one e a.0 ps qs a.3 (subst (λ (t : List ℕ). AreParts e t qs []) (sym o.1) b.3))

means_one : (e : InForce) (text v w : List ℕ) → Means e text v → Means e text w → v ≡ w
means_one e text v w a b = a.2 ∙ ap values (parts_one e text a.0 b.0 a.1 b.1) ∙ sym b.2

-- where a spelling is wrong no part stands
wrong_no_part : (e : InForce) (p : Part) (text following : List ℕ) (n : ℕ) (f : ScriptFault) → IsWrong e text n f → text ≡ p.text ++ following → IsPart e p → ⊥
wrong_no_part e p text following n f (inl h) is (inl a) =
    let i : 39 ∷ h.0 ≡ a.0 ∷ following = sym h.1 ∙ is ∙ ap (λ (t : List ℕ). t ++ following) a.1 in
    let c : 39 ≡ a.0 = cc in absurd (let k : (39 == 39) ≡ false = ap (λ (m : ℕ). m == 39) c ∙ a.2 in cc)
wrong_no_part e p text following n f (inl h) is (inr a) =
    let i : 39 ∷ h.0 ≡ a.1.0 ∷ ((a.0 ++ a.1.1 ∷ []) ++ following) = sym h.1 ∙ is ∙ ap (λ (t : List ℕ). t ++ following) a.1.2 in
    let c : 39 ≡ a.1.0 = cc in absurd (let k : (39 == 39) ≡ false = ap (λ (m : ℕ). m == 39) c ∙ a.1.3 in cc)
wrong_no_part e p text following n f (inr h) is (inl a) = plain_not_insertion e p.text h.0 p.value h.1 following h.2 a h.4 (sym is ∙ h.3)
wrong_no_part e p text following n f (inr h) is (inr a) =
    let t = insertion_one e h.0 p.text h.1 a.0 h.2 following h.4 a.1 (sym h.3 ∙ is) in
    absurd (let k : Err h.5 ≡ Ok p.value = sym h.6 ∙ ap (insertion_value e) t.1 ∙ a.2 in cc)

quote_not_insertion : (e : InForce) (text more x n r : List ℕ) → text ≡ 39 ∷ more → text ≡ x ++ r → IsInsertion e x n → ⊥
quote_not_insertion e text more x n r i j a =
    let k : 39 ∷ more ≡ a.0 ∷ ((n ++ a.1 ∷ []) ++ r) = sym i ∙ j ∙ ap (λ (t : List ℕ). t ++ r) a.2 in
    let c : 39 ≡ a.0 = cc in absurd (let k : (39 == 39) ≡ false = ap (λ (m : ℕ). m == 39) c ∙ a.3 in cc)

wrong_one_at : (e : InForce) (text : List ℕ) (n : ℕ) (f g : ScriptFault) → IsWrong e text n f → IsWrong e text n g → f ≡ g
wrong_one_at e text n f g (inl a) (inl b) = a.2 ∙ sym b.2
wrong_one_at e text n f g (inl a) (inr b) = absurd (quote_not_insertion e text a.0 b.0 b.1 b.2 a.1 b.3 b.4)
wrong_one_at e text n f g (inr a) (inl b) = absurd (quote_not_insertion e text b.0 a.0 a.1 a.2 b.1 a.3 a.4)
wrong_one_at e text n f g (inr a) (inr b) =
    let t = insertion_one e a.0 b.0 a.1 b.1 a.2 b.2 a.4 b.4 (sym a.3 ∙ b.3) in
    let o : Err a.5 ≡ Err b.5 = sym a.6 ∙ ap (insertion_value e) t.1 ∙ b.6 in
    let h : a.5 ≡ b.5 = cc in
    a.7 ∙ ap (λ (k : Refusal). k n) h ∙ sym b.7

-- a fault and a meaning, or two faults: the parts before them are the same
wrong_place : (e : InForce) (text r s : List ℕ) (n m : ℕ) (f g : ScriptFault) (ps qs : List Part) → AreParts e text ps r → AreParts e text qs s → IsWrong e r n f → IsWrong e s m g → r ≡ s
wrong_place e text r s n m f g [] [] a b i j = sym a ∙ b
wrong_place e text r s n m f g [] (q ∷ qs) a b i j = absurd (wrong_no_part e q r b.0 n f i (sym a ∙ b.1) b.2)
wrong_place e text r s n m f g (p ∷ ps) [] a b i j = absurd (wrong_no_part e p s a.0 m g j (sym b ∙ a.1) a.2)
wrong_place e text r s n m f g (p ∷ ps) (q ∷ qs) a b i j =
    let o = part_one e p q a.0 b.0 a.2 b.2 (sym a.1 ∙ b.1) in
    wrong_place e a.0 r s n m f g ps qs a.3 (subst (λ (t : List ℕ). AreParts e t qs s) (sym o.1) b.3) i j

wrong_not_end : (e : InForce) (n : ℕ) (f : ScriptFault) → IsWrong e [] n f → ⊥
wrong_not_end e n f (inl h) = let i = h.1 in cc
wrong_not_end e n f (inr h) = let i : [] ≡ h.4.0 ∷ ((h.1 ++ h.4.1 ∷ []) ++ h.2) = h.3 ∙ ap (λ (t : List ℕ). t ++ h.2) h.4.2 in cc

wrong_no_meaning : (e : InForce) (text r : List ℕ) (n : ℕ) (f : ScriptFault) (ps qs : List Part) → AreParts e text ps r → AreParts e text qs [] → IsWrong e r n f → ⊥
wrong_no_meaning e text r n f [] [] a b i = wrong_not_end e n f (subst (λ (t : List ℕ). IsWrong e t n f) (sym a ∙ b) i)
wrong_no_meaning e text r n f [] (q ∷ qs) a b i = wrong_no_part e q r b.0 n f i (sym a ∙ b.1) b.2
wrong_no_meaning e text r n f (p ∷ ps) [] a b i = no_part e p a.0 (sym b ∙ a.1) a.2
wrong_no_meaning e text r n f (p ∷ ps) (q ∷ qs) a b i =
    let o = part_one e p q a.0 b.0 a.2 b.2 (sym a.1 ∙ b.1) in
    wrong_no_meaning e a.0 r n f ps qs a.3 (subst (λ (t : List ℕ). AreParts e t qs []) (sym o.1) b.3) i

first_wrong_one : (e : InForce) (text : List ℕ) (n : ℕ) (f g : ScriptFault) → FirstWrong e text n f → FirstWrong e text n g → f ≡ g
first_wrong_one e text n f g a b =
    let r = wrong_place e text a.1 b.1 (n + byte_length a.0) (n + byte_length b.0) f g a.2 b.2 a.4 b.4 a.5 b.5 in
    let k : a.0 ≡ b.0 = append_cancel_right a.0 b.0 b.1 (ap (λ (t : List ℕ). a.0 ++ t) (sym r) ∙ sym a.3 ∙ b.3) in
    wrong_one_at e b.1 (n + byte_length b.0) f g
    (subst (λ (t : List ℕ). IsWrong e b.1 (n + byte_length t) f) k (subst (λ (t : List ℕ). IsWrong e t (n + byte_length a.0) f) r a.5)) b.5

-- ---- what pieces say

told_gap : (s : Directives) (k : Shape) (x : List ℕ) (l : Lexeme) → is_gap k ≡ true → IsLexeme s k x l → ⊥
told_gap s shape.Blank x l g h = h
told_gap s shape.LineComment x l g h = h
told_gap s shape.BlockComment x l g h = h
told_gap s _ x l g h = cc

same_inner : (x inner other : List ℕ) → x ≡ 39 ∷ (inner ++ 39 ∷ []) → x ≡ 39 ∷ (other ++ 39 ∷ []) → inner ≡ other
same_inner x inner other a b = append_cancel_right inner other (39 ∷ []) (let h = sym a ∙ b in cc)

told_one : (s : Directives) (k : Shape) (x : List ℕ) (l m : Lexeme) → IsLexeme s k x l → IsLexeme s k x m → l ≡ m
told_one s shape.Blank x l m a b = absurd a
told_one s shape.LineComment x l m a b = absurd a
told_one s shape.BlockComment x l m a b = absurd a
told_one s shape.Word x l m a b = a ∙ sym b
told_one s shape.Number x l m a b = a.1 ∙ sym b.1
told_one s shape.Sign x l m a b = a.2 ∙ ap sign (signs_differ a.0 b.0 (sym a.1 ∙ b.1)) ∙ sym b.2
told_one s shape.Literal x l m a b =
    let d = same_inner x a.0 b.0 a.2 b.2 in
    let v = means_one s.escapes b.0 a.1 b.1 (subst (λ (t : List ℕ). Means s.escapes t a.1) d a.3) b.3 in
    a.4 ∙ ap (λ (t : List ℕ). literal (encode_utf8_all t) a.1) d ∙ ap (literal (encode_utf8_all b.0)) v ∙ sym b.4
told_one s shape.Inserts x l m a b =
    let e : a.0 ∷ a.1 ∷ [] ≡ b.0 ∷ b.1 ∷ [] = sym a.2 ∙ b.2 in
    let d : a.0 ≡ b.0 = cc in
    let f : a.1 ≡ b.1 = cc in
    a.3 ∙ ap (λ (n : ℕ). inserts n a.1) d ∙ ap (inserts b.0) f ∙ sym b.3
told_one s shape.MacroName x l m a b = a ∙ sym b

may_say_one : (s : Directives) (k : Shape) (x : List ℕ) (o u : Option Lexeme) → MaySay s k x o → MaySay s k x u → o ≡ u
may_say_one s k x None None a b = refl
may_say_one s k x None (Some m) a b = absurd (told_gap s k x m a b.0)
may_say_one s k x (Some l) None a b = absurd (told_gap s k x l b a.0)
may_say_one s k x (Some l) (Some m) a b = ap Some (told_one s k x l m a.0 b.0)

same_piece : (p q : Piece) → p.shape ≡ q.shape → p.text ≡ q.text → p.lexeme ≡ q.lexeme → p ≡ q
same_piece p q a b c =
    let make : Shape → List ℕ → Option Lexeme → Piece = λ k t o. record { shape = k; text = t; lexeme = o } in
    ap (λ (k : Shape). make k p.text p.lexeme) a ∙ ap (λ (t : List ℕ). make q.shape t p.lexeme) b ∙ ap (make q.shape q.text) c

-- ---- two lists of pieces of a text: one goes on where the other ends

abbrev Ahead : List Piece → List Piece → Directives → List ℕ → Directives → List ℕ → Type 0
Ahead ps qs u r v z = (us : List Piece) × (qs ≡ ps ++ us) × AreCut u r us v z

ahead_cons : (p q : Piece) (ps qs : List Piece) (u : Directives) (r : List ℕ) (v : Directives) (z : List ℕ) → p ≡ q → Ahead ps qs u r v z ⊎ Ahead qs ps v z u r → Ahead (p ∷ ps) (q ∷ qs) u r v z ⊎ Ahead (q ∷ qs) (p ∷ ps) v z u r
ahead_cons p q ps qs u r v z is (inl h) = inl (h.0, ap (λ (t : List Piece). q ∷ t) h.1 ∙ ap (λ (t : Piece). t ∷ (ps ++ h.0)) (sym is), h.2)
ahead_cons p q ps qs u r v z is (inr h) = inr (h.0, ap (λ (t : List Piece). p ∷ t) h.1 ∙ ap (λ (t : Piece). t ∷ (qs ++ h.0)) is, h.2)

restart : (s t u : Directives) (x y r : List ℕ) (ps : List Piece) → s ≡ t → x ≡ y → AreCut s x ps u r → AreCut t y ps u r
restart s t u x y r ps a b h = subst (λ (z : List ℕ). AreCut t z ps u r) b (subst (λ (k : Directives). AreCut k x ps u r) a h)

two_cuts : (s : Directives) (text : List ℕ) (ps qs : List Piece) (u : Directives) (r : List ℕ) (v : Directives) (z : List ℕ) → AreCut s text ps u r → AreCut s text qs v z → Ahead ps qs u r v z ⊎ Ahead qs ps v z u r
two_cuts s text [] qs u r v z a b = inl (qs, refl, restart s u v text r z qs a.1 a.0 b)
two_cuts s text (p ∷ ps) [] u r v z a b = inr (p ∷ ps, refl, restart s v u text z r (p ∷ ps) b.1 b.0 a)
two_cuts s text (p ∷ ps) (q ∷ qs) u r v z a b =
    let o = piece_one (setting_of s) p.shape q.shape p.text q.text a.0 b.0 a.2 b.2 (sym a.1 ∙ b.1) in
    let m : MaySay s p.shape p.text q.lexeme = subst (λ (k : Shape). MaySay s k p.text q.lexeme) (sym o.0) (subst (λ (t : List ℕ). MaySay s q.shape t q.lexeme) (sym o.1) b.3) in
    let l = may_say_one s p.shape p.text p.lexeme q.lexeme a.3 m in
    ahead_cons p q ps qs u r v z (same_piece p q o.0 o.1 l)
    (two_cuts (after_piece s p.lexeme) a.0 ps qs u r v z a.4 (restart (after_piece s q.lexeme) (after_piece s p.lexeme) v b.0 a.0 z qs (ap (after_piece s) (sym l)) (sym o.2) b.4))

no_more : (s t : Directives) (us : List Piece) (r : List ℕ) → AreCut s [] us t r → (us ≡ []) × (r ≡ []) × (s ≡ t)
no_more s t [] r h = (refl, sym h.0, h.1)
no_more s t (u ∷ us) r h = absurd (let l = some_text s.escapes.inserts u.shape u.text h.2.stands.has in omega (arith, ap length (starts_empty u.text h.0 h.1), l))

same_at_end : (ps qs : List Piece) (u v : Directives) → Ahead ps qs u [] v [] ⊎ Ahead qs ps v [] u [] → qs ≡ ps
same_at_end ps qs u v (inl h) = h.1 ∙ ap (λ (t : List Piece). ps ++ t) (no_more u v h.0 [] h.2).0 ∙ append_nil ps
same_at_end ps qs u v (inr h) = sym (h.1 ∙ ap (λ (t : List Piece). qs ++ t) (no_more v u h.0 [] h.2).0 ∙ append_nil qs)

pub tokens_one : (s : Directives) (text : List ℕ) (ls ms : List Lexeme) → AreTokensFrom s text ls → AreTokensFrom s text ms → ls ≡ ms
tokens_one s text ls ms a b =
    a.4 ∙ ap piece_lexemes (sym (same_at_end a.0 b.0 a.1 b.1 (two_cuts s text a.0 b.0 a.1 [] b.1 [] a.2 b.2))) ∙ sym b.4

pub placed_tokens_one : (s : Directives) (text : List ℕ) (ts us : List PlacedToken) → ArePlacedFrom s text ts → ArePlacedFrom s text us → ts ≡ us
placed_tokens_one s text ts us a b =
    a.4 ∙ ap (placed_from 0) (sym (same_at_end a.0 b.0 a.1 b.1 (two_cuts s text a.0 b.0 a.1 [] b.1 [] a.2 b.2))) ∙ sym b.4

-- ---- faults

refused_says : (s : Directives) (k : Shape) (x : List ℕ) (n : ℕ) (f : ScriptFault) (o : Option Lexeme) → IsRefused s k x n f → MaySay s k x o → ⊥
refused_says s shape.Number x n f None h m = cc
refused_says s shape.Number x n f (Some l) h m = omega (arith, h.0, m.0.0)
refused_says s shape.Literal x n f None h m = cc
refused_says s shape.Literal x n f (Some l) h m = literal_refused h.2
  where
    same : m.0.0 ≡ h.0
    same = same_inner x m.0.0 h.0 m.0.2 h.1

    means : Means s.escapes h.0 m.0.1
    means = subst (λ (t : List ℕ). Means s.escapes t m.0.1) same m.0.3

    value : (w : List ℕ) × (value_for s.defining m.0.1 ≡ Some w)
    value = subst (HasValue s) m.0.4 m.1

    literal_refused : FirstWrong s.escapes h.0 (n + 1) f ⊎ ((v : List ℕ) × Means s.escapes h.0 v × (value_for s.defining v ≡ None) × (f ≡ fault.BadCode n)) → ⊥
    literal_refused (inl w) = wrong_no_meaning s.escapes h.0 w.1 (n + 1 + byte_length w.0) f w.2 means.0 w.4 means.1 w.5
    literal_refused (inr w) =
        let v = means_one s.escapes h.0 m.0.1 w.0 means w.1 in absurd (let e : Some value.0 ≡ None = sym value.1 ∙ ap (value_for s.defining) v ∙ w.2 in cc)
refused_says s shape.Blank x n f o h m = h
refused_says s _ x n f o h m = h

literal_refused_one : (s : Directives) (inner : List ℕ) (n : ℕ) (f g : ScriptFault) → FirstWrong s.escapes inner (n + 1) f ⊎ ((v : List ℕ) × Means s.escapes inner v × (value_for s.defining v ≡ None) × (f ≡ fault.BadCode n))
    → FirstWrong s.escapes inner (n + 1) g ⊎ ((v : List ℕ) × Means s.escapes inner v × (value_for s.defining v ≡ None) × (g ≡ fault.BadCode n)) → f ≡ g
literal_refused_one s inner n f g (inl a) (inl b) = first_wrong_one s.escapes inner (n + 1) f g a b
literal_refused_one s inner n f g (inl a) (inr b) = absurd (wrong_no_meaning s.escapes inner a.1 (n + 1 + byte_length a.0) f a.2 b.1.0 a.4 b.1.1 a.5)
literal_refused_one s inner n f g (inr a) (inl b) = absurd (wrong_no_meaning s.escapes inner b.1 (n + 1 + byte_length b.0) g b.2 a.1.0 b.4 a.1.1 b.5)
literal_refused_one s inner n f g (inr a) (inr b) = a.3 ∙ sym b.3

refused_one : (s : Directives) (k : Shape) (x : List ℕ) (n : ℕ) (f g : ScriptFault) → IsRefused s k x n f → IsRefused s k x n g → f ≡ g
refused_one s shape.Number x n f g a b = a.1 ∙ sym b.1
refused_one s shape.Literal x n f g a b =
    let d = same_inner x a.0 b.0 a.1 b.1 in
    literal_refused_one s b.0 n f g
    (subst (λ (t : List ℕ). FirstWrong s.escapes t (n + 1) f ⊎ ((v : List ℕ) × Means s.escapes t v × (value_for s.defining v ≡ None) × (f ≡ fault.BadCode n))) d a.2) b.2
refused_one s _ x n f g a b = absurd a

-- no piece without fault stands where a fault does
fault_stops : (s : Directives) (text : List ℕ) (n : ℕ) (f : ScriptFault) (u : Directives) (r : List ℕ) (us : List Piece) → IsFault s text n f → AreCut s text us u r → us ≡ []
fault_stops s text n f u r [] h c = refl
fault_stops s text n f u r (p ∷ us) (inl h) c = absurd (h.1 p.shape p.text c.0 c.1 c.2.stands)
fault_stops s text n f u r (p ∷ us) (inr h) c =
    let o = piece_one (setting_of s) p.shape h.0 p.text h.1 c.0 h.2 c.2 h.4 (sym c.1 ∙ h.3) in
    absurd (refused_says s p.shape p.text n f p.lexeme
    (subst (λ (k : Shape). IsRefused s k p.text n f) (sym o.0) (subst (λ (x : List ℕ). IsRefused s h.0 x n f) (sym o.1) h.5)) c.3)

fault_same : (s : Directives) (text : List ℕ) (n : ℕ) (f g : ScriptFault) → IsFault s text n f → IsFault s text n g → f ≡ g
fault_same s text n f g (inl a) (inl b) = a.2 ∙ sym b.2
fault_same s text n f g (inl a) (inr b) = absurd (a.1 b.0 b.1 b.2 b.3 b.4.stands)
fault_same s text n f g (inr a) (inl b) = absurd (b.1 a.0 a.1 a.2 a.3 a.4.stands)
fault_same s text n f g (inr a) (inr b) =
    let o = piece_one (setting_of s) a.0 b.0 a.1 b.1 a.2 b.2 a.4 b.4 (sym a.3 ∙ b.3) in
    refused_one s b.0 b.1 n f g (subst (λ (k : Shape). IsRefused s k b.1 n f) o.0 (subst (λ (x : List ℕ). IsRefused s a.0 x n f) o.1 a.5)) b.5

fault_not_end : (s : Directives) (n : ℕ) (f : ScriptFault) → MayEnd s → IsFault s [] n f → ⊥
fault_not_end s n f m (inl h) = m (h.0 refl)
fault_not_end s n f m (inr h) = let l = some_text s.escapes.inserts h.0 h.1 h.4.stands.has in omega (arith, ap length (starts_empty h.1 h.2 h.3), l)

-- where faults stand after the pieces before them
abbrev Same : Directives → List ℕ → Directives → List ℕ → Type 0
Same u r v z = (u ≡ v) × (r ≡ z)

same_place : (s : Directives) (text : List ℕ) (u : Directives) (r : List ℕ) (v : Directives) (z : List ℕ) (n m : ℕ) (f g : ScriptFault) (ps qs : List Piece) → AreCut s text ps u r → AreCut s text qs v z → IsFault u r n f → IsFault v z m g → Same u r v z
same_place s text u r v z n m f g ps qs a b i j = met (two_cuts s text ps qs u r v z a b)
  where
    met : Ahead ps qs u r v z ⊎ Ahead qs ps v z u r → Same u r v z
    met (inl h) = let c = subst (λ (t : List Piece). AreCut u r t v z) (fault_stops u r n f v z h.0 i h.2) h.2 in (c.1, c.0)
    met (inr h) = let c = subst (λ (t : List Piece). AreCut v z t u r) (fault_stops v z m g u r h.0 j h.2) h.2 in (sym c.1, sym c.0)

one_fault : (text before r other z : List ℕ) (u v : Directives) (f g : ScriptFault) → text ≡ before ++ r → text ≡ other ++ z → Same u r v z → IsFault u r (byte_length before) f → IsFault v z (byte_length other) g → f ≡ g
one_fault text before r other z u v f g a b e i j =
    let k : before ≡ other = append_cancel_right before other z (ap (λ (t : List ℕ). before ++ t) (sym e.1) ∙ sym a ∙ b) in
    fault_same v z (byte_length other) f g
    (subst (λ (t : List ℕ). IsFault v z (byte_length t) f) k (subst (λ (t : List ℕ). IsFault v t (byte_length before) f) e.1 (subst (λ (w : Directives). IsFault w r (byte_length before) f) e.0 i))) j

pub first_fault_one : (s : Directives) (text : List ℕ) (f g : ScriptFault) → IsFirstFaultFrom s text f → IsFirstFaultFrom s text g → f ≡ g
first_fault_one s text f g a b =
    one_fault text a.0 a.1 b.0 b.1 a.3 b.3 f g a.4 b.4 (same_place s text a.3 a.1 b.3 b.1 (byte_length a.0) (byte_length b.0) f g a.2 b.2 a.5 b.5 a.6 b.6) a.6 b.6

end_or_fault : (s : Directives) (text : List ℕ) (u : Directives) (v : Directives) (r : List ℕ) (n : ℕ) (f : ScriptFault) (ps qs : List Piece) → AreCut s text ps u [] → MayEnd u → AreCut s text qs v r → IsFault v r n f → ⊥
end_or_fault s text u v r n f ps qs a m b i = met (two_cuts s text ps qs u [] v r a b)
  where
    met : Ahead ps qs u [] v r ⊎ Ahead qs ps v r u [] → ⊥
    met (inl h) =
        let e = no_more u v h.0 r h.2 in
        fault_not_end v n f (subst MayEnd e.2 m) (subst (λ (t : List ℕ). IsFault v t n f) e.1 i)
    met (inr h) =
        let c = subst (λ (t : List Piece). AreCut v r t u []) (fault_stops v r n f u [] h.0 i h.2) h.2 in
        fault_not_end v n f (subst MayEnd (sym c.1) m) (subst (λ (t : List ℕ). IsFault v t n f) c.0 i)

pub tokens_or_fault : (s : Directives) (text : List ℕ) (ls : List Lexeme) (f : ScriptFault) → AreTokensFrom s text ls → IsFirstFaultFrom s text f → ⊥
tokens_or_fault s text ls f a b = end_or_fault s text a.1 b.3 b.1 (byte_length b.0) f a.0 b.2 a.2 a.3 b.5 b.6

-- ---- the same fault again

-- a fault that was answered is kept
fault_stays : (s t : Reading) (f : ScriptFault) (a : Result (Option Token) ScriptFault) → s.fault ≡ Some f → IsNext s t a → (a ≡ Err f) × (t ≡ s)
fault_stays s t f a k h = subst (λ (o : Option ScriptFault). IsAnswer o s t a) k h

fault_known : (o : Option ScriptFault) (r s : Reading) (f : ScriptFault) → r.fault ≡ o → IsAnswer o r s (Err f) → (f ≡ fault.OutOfMemory) ⊎ (s.fault ≡ Some f)
fault_known None r s f is (_, _, inl o) = inl o.0
fault_known None r s f is (_, _, inr o) = inr o.1
fault_known (Some g) r s f is h = inr (ap (λ (u : Reading). u.fault) h.1 ∙ is ∙ (let e : f ≡ g = cc (h.0) in ap Some (sym e)))

pub same_again : (r s t : Reading) (f : ScriptFault) (a : Result (Option Token) ScriptFault) → IsNext r s (Err f) → IsNext s t a → (f ≡ fault.OutOfMemory) ⊎ ((a ≡ Err f) × (t ≡ s))
same_again r s t f a h k = again (fault_known r.fault r s f refl h)
  where
    again : (f ≡ fault.OutOfMemory) ⊎ (s.fault ≡ Some f) → (f ≡ fault.OutOfMemory) ⊎ ((a ≡ Err f) × (t ≡ s))
    again (inl o) = inl o
    again (inr e) = inr (fault_stays s t f a e k)

-- ---- one reading of a spelling

closed_not : (b : Bool) → b ≡ true → b ≡ false → ⊥
closed_not b h g = absurd cc

no_meaning : (e : InForce) (text v : List ℕ) (f : ScriptFault) → Means e text v → FirstWrong e text 0 f → ⊥
no_meaning e text v f m w = wrong_no_meaning e text w.1 (0 + byte_length w.0) f w.2 m.0 w.4 m.1 w.5

pub literal_one : (e : InForce) (text : List ℕ) (a b : Result (List ℕ) ScriptFault) → IsLiteral e text a → IsLiteral e text b → a ≡ b
literal_one e text (Ok v) (Ok w) h g = ap Ok (means_one e text v w h.1 g.1)
literal_one e text (Ok v) (Err f) h (inl g) = absurd (closed_not _ h.0 g.0)
literal_one e text (Ok v) (Err f) h (inr g) = absurd (no_meaning e text v f h.1 g.1)
literal_one e text (Err f) (Ok v) (inl h) g = absurd (closed_not _ g.0 h.0)
literal_one e text (Err f) (Ok v) (inr h) g = absurd (no_meaning e text v f g.1 h.1)
literal_one e text (Err f) (Err d) (inl h) (inl g) = ap Err (h.1 ∙ sym g.1)
literal_one e text (Err f) (Err d) (inl h) (inr g) = absurd (closed_not _ g.0 h.0)
literal_one e text (Err f) (Err d) (inr h) (inl g) = absurd (closed_not _ h.0 g.0)
literal_one e text (Err f) (Err d) (inr h) (inr g) = ap Err (first_wrong_one e text 0 f d h.1 g.1)

-- ---- one token after another

advanced_first : (text : List ℕ) (s t : Directives) (from rest : List ℕ) (token : Token) (ls : List Lexeme) → Advances text s from t rest (Ok (Some token)) → AreTokensFrom t rest ls → AreTokensFrom s from (lexeme_of token ∷ ls)
advanced_first text s t from rest token ls h g =
    let c = h.0 in
    let q : Piece = record { shape = c.kind; text = c.own; lexeme = Some (lexeme_of token) } in
    let following : AreCut (after s (lexeme_of token)) rest g.0 g.1 [] = subst (λ (v : Directives). AreCut v rest g.0 g.1 []) h.2 g.2 in
    let cut : AreCut s from (as_pieces c.gaps.0 ++ q ∷ g.0) g.1 [] = cut_append s s g.1 from (c.own ++ rest) [] (as_pieces c.gaps.0) (q ∷ g.0) (gaps_cut s from (c.own ++ rest) c.gaps.0 c.gaps.1) (rest, refl, c.piece, (c.told, h.1), following) in
    let says : piece_lexemes (as_pieces c.gaps.0 ++ q ∷ g.0) ≡ lexeme_of token ∷ piece_lexemes g.0 = said_append (as_pieces c.gaps.0) (q ∷ g.0) ∙ ap (λ (l : List Lexeme). l ++ piece_lexemes (q ∷ g.0)) (said_gaps c.gaps.0) in
    (as_pieces c.gaps.0 ++ q ∷ g.0, g.1, cut, g.3, ap (λ (l : List Lexeme). lexeme_of token ∷ l) g.4 ∙ sym says)

advanced_last : (text : List ℕ) (s t : Directives) (from rest : List ℕ) → Advances text s from t rest (Ok None) → AreTokensFrom s from []
advanced_last text s t from rest h = (as_pieces h.0.0.0, s, gaps_cut s from [] h.0.0.0 h.0.0.1, h.0.1, sym (said_gaps h.0.0.0))

pub next_is_first : (r t : Reading) (token : Token) (ls : List Lexeme) → IsNext r t (Ok (Some token)) → AreTokensFrom t.state t.rest ls → AreTokensFrom r.state r.rest (lexeme_of token ∷ ls)
next_is_first r t token ls h g = first r.fault h
  where
    first : (o : Option ScriptFault) → IsAnswer o r t (Ok (Some token)) → AreTokensFrom r.state r.rest (lexeme_of token ∷ ls)
    first None k = advanced_first r.text r.state t.state r.rest t.rest token ls k.0 g
    first (Some f) k = absurd (let e = k.0 in cc)

pub none_is_last : (r t : Reading) → IsNext r t (Ok None) → AreTokensFrom r.state r.rest []
none_is_last r t h = last r.fault h
  where
    last : (o : Option ScriptFault) → IsAnswer o r t (Ok None) → AreTokensFrom r.state r.rest []
    last None k = advanced_last r.text r.state t.state r.rest t.rest k.0
    last (Some f) k = absurd (let e = k.0 in cc)
