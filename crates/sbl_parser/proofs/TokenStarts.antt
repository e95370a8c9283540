-- What a token may begin, and that arithmetic and the strings of an among have one tree.
use Rattle.std.proofs.Common.{◌≡◌, Bool, true, false, List, [], ◌∷◌, Some, None, refl, sym, ap}
use Rattle.sbl_ast.specs.Terminal.{Terminal}
use Rattle.sbl_ast.specs.Tree.{Argument, written_out, by_name, Expression, expression, Sums, no_sums, sum, Product, product, Scales, no_scales, scale, Factor, negated, bracketed, numeral, variable, fixed, length_of, Entry, entry}
use Rattle.sbl_ast.specs.Terminal as t
use Rattle.sbl_parser.specs.declared.role.Role.{Role}
use Rattle.sbl_parser.specs.declared.role.Role.TheVariants as roles
use Rattle.sbl_parser.specs.Roles.{role_as, role_of}
use Rattle.sbl_ast.specs.Spelled.{argument_terminal, spelled_expression, spelled_sums, spelled_product, spelled_scales, spelled_factor, spelled_entry, spelled_entries}

abbrev pub Ts : Type 0
Ts = List Terminal

-- ---- what a token may begin

abbrev pub is_adds : Role → Bool
is_adds (roles.Additive o) = true
is_adds _ = false

abbrev pub is_multiplies : Role → Bool
is_multiplies (roles.Multiplicative o) = true
is_multiplies _ = false

abbrev pub is_joins : Role → Bool
is_joins (roles.Joiner o) = true
is_joins _ = false

abbrev pub is_name : Role → Bool
is_name roles.Name = true
is_name _ = false

abbrev pub is_string : Role → Bool
is_string roles.Literal = true
is_string _ = false

abbrev pub is_open : Role → Bool
is_open roles.Open = true
is_open _ = false

abbrev pub Never : (Role → Bool) → Ts → Type 0
Never f ts = f (role_of ts) ≡ false

-- what may follow an expression
pub record Ends (ts : Ts) : Type 0 where
  pub adds_not : Never is_adds ts
  pub multiplies_not : Never is_multiplies ts

-- what may follow a row
pub record EndsRow (ts : Ts) : Type 0 where
  pub ends : Ends ts
  pub joins_not : Never is_joins ts

pub differ : (f : Role → Bool) (a b : Ts) → Never f a → f (role_of b) ≡ true → a ≡ b → ⊥
differ f a b n y e = let g : f (role_of a) ≡ f (role_of b) = ap (λ (r : Ts). f (role_of r)) e in cc

pub same_argument : (a b : Argument) → argument_terminal a ≡ argument_terminal b → a ≡ b
same_argument (written_out p) (written_out q) e = cc
same_argument (written_out p) (by_name n) e = absurd cc
same_argument (by_name n) (written_out q) e = absurd cc
same_argument (by_name n) (by_name m) e = cc

pub tail : (x y : Terminal) (a b : Ts) → x ∷ a ≡ y ∷ b → a ≡ b
tail x y a b e = cc

-- ---- arithmetic

pub calm : (x : Terminal) (ts : Ts) → is_adds (role_as x) ≡ false → is_multiplies (role_as x) ≡ false → Ends (x ∷ ts)
calm x ts a b = record { adds_not = a; multiplies_not = b }

pub sums_calm : (ss : Sums) (rest : Ts) → Never is_multiplies rest → Never is_multiplies (spelled_sums ss rest)
sums_calm no_sums rest h = h
sums_calm (sum o p ss) rest h = refl

mutual
  pub same_expression : (x y : Expression) (a b : Ts) → Ends a → Ends b → spelled_expression x a ≡ spelled_expression y b → (x ≡ y) × (a ≡ b)
  same_expression (expression p ss) (expression q us) a b ha hb e =
      let m = same_product p q (spelled_sums ss a) (spelled_sums us b) (sums_calm ss a ha.multiplies_not) (sums_calm us b hb.multiplies_not) e in
      let n = same_sums ss us a b ha hb m.1 in
      (cc, n.1)

  pub same_sums : (ss us : Sums) (a b : Ts) → Ends a → Ends b → spelled_sums ss a ≡ spelled_sums us b → (ss ≡ us) × (a ≡ b)
  same_sums no_sums no_sums a b ha hb e = (refl, e)
  same_sums no_sums (sum o p us) a b ha hb e = absurd (differ is_adds a (t.additive o ∷ spelled_product p (spelled_sums us b)) ha.adds_not refl e)
  same_sums (sum o p ss) no_sums a b ha hb e = absurd (differ is_adds b (t.additive o ∷ spelled_product p (spelled_sums ss a)) hb.adds_not refl (sym e))
  same_sums (sum o p ss) (sum u q us) a b ha hb e =
      let m = same_product p q (spelled_sums ss a) (spelled_sums us b) (sums_calm ss a ha.multiplies_not) (sums_calm us b hb.multiplies_not) (tail _ _ _ _ e) in
      let n = same_sums ss us a b ha hb m.1 in
      let heads : o ≡ u = cc in
      (cc, n.1)

  pub same_product : (p q : Product) (a b : Ts) → Never is_multiplies a → Never is_multiplies b → spelled_product p a ≡ spelled_product q b → (p ≡ q) × (a ≡ b)
  same_product (product f ss) (product g us) a b ha hb e =
      let m = same_factor f g (spelled_scales ss a) (spelled_scales us b) e in
      let n = same_scales ss us a b ha hb m.1 in
      (cc, n.1)

  pub same_scales : (ss us : Scales) (a b : Ts) → Never is_multiplies a → Never is_multiplies b → spelled_scales ss a ≡ spelled_scales us b → (ss ≡ us) × (a ≡ b)
  same_scales no_scales no_scales a b ha hb e = (refl, e)
  same_scales no_scales (scale o g us) a b ha hb e = absurd (differ is_multiplies a (t.multiplicative o ∷ spelled_factor g (spelled_scales us b)) ha refl e)
  same_scales (scale o f ss) no_scales a b ha hb e = absurd (differ is_multiplies b (t.multiplicative o ∷ spelled_factor f (spelled_scales ss a)) hb refl (sym e))
  same_scales (scale o f ss) (scale u g us) a b ha hb e =
      let m = same_factor f g (spelled_scales ss a) (spelled_scales us b) (tail _ _ _ _ e) in
      let n = same_scales ss us a b ha hb m.1 in
      let heads : o ≡ u = cc in
      (cc, n.1)

  pub same_factor : (f g : Factor) (a b : Ts) → spelled_factor f a ≡ spelled_factor g b → (f ≡ g) × (a ≡ b)
  same_factor (negated f) (negated g) a b e = let m = same_factor f g a b (tail _ _ _ _ e) in (ap (λ (x : Factor). negated x) m.0, m.1)
  same_factor (bracketed x) (bracketed y) a b e =
      let m = same_expression x y (t.close_ ∷ a) (t.close_ ∷ b) (calm t.close_ a refl refl) (calm t.close_ b refl refl) (tail _ _ _ _ e) in
      (ap (λ (z : Expression). bracketed z) m.0, tail _ _ _ _ m.1)
  same_factor (numeral n) (numeral m) a b e = (cc, cc)
  same_factor (variable n) (variable m) a b e = (cc, cc)
  same_factor (fixed c) (fixed d) a b e = (cc, cc)
  same_factor (length_of p) (length_of q) a b e =
      let heads : argument_terminal p ≡ argument_terminal q = cc in
      (ap (λ (z : Argument). length_of z) (same_argument p q heads), cc)
  same_factor _ _ a b e = absurd cc

-- ---- the strings of an among

pub same_entry : (x y : Entry) (a b : Ts) → Never is_name a → Never is_name b → spelled_entry x a ≡ spelled_entry y b → (x ≡ y) × (a ≡ b)
same_entry (entry p None) (entry q None) a b ha hb e = (cc, cc)
same_entry (entry p None) (entry q (Some n)) a b ha hb e = absurd (differ is_name a (t.name n ∷ b) ha refl (tail _ _ _ _ e))
same_entry (entry p (Some n)) (entry q None) a b ha hb e = absurd (differ is_name b (t.name n ∷ a) hb refl (sym (tail _ _ _ _ e)))
same_entry (entry p (Some n)) (entry q (Some m)) a b ha hb e = (cc, cc)

pub entry_string : (x : Entry) (rest : Ts) → is_string (role_of (spelled_entry x rest)) ≡ true
entry_string (entry q None) rest = refl
entry_string (entry q (Some n)) rest = refl

pub entry_no_name : (x : Entry) (rest : Ts) → Never is_name (spelled_entry x rest)
entry_no_name (entry q None) rest = refl
entry_no_name (entry q (Some n)) rest = refl

pub entry_no_open : (x : Entry) (rest : Ts) → Never is_open (spelled_entry x rest)
entry_no_open (entry q None) rest = refl
entry_no_open (entry q (Some n)) rest = refl

pub entries_no_name : (xs : List Entry) (rest : Ts) → Never is_name rest → Never is_name (spelled_entries xs rest)
entries_no_name [] rest h = h
entries_no_name (x ∷ xs) rest h = entry_no_name x _

-- what may follow strings
pub record EndsEntries (ts : Ts) : Type 0 where
  pub name_not : Never is_name ts
  pub string_not : Never is_string ts

pub same_entries : (xs ys : List Entry) (a b : Ts) → EndsEntries a → EndsEntries b → spelled_entries xs a ≡ spelled_entries ys b → (xs ≡ ys) × (a ≡ b)
same_entries [] [] a b ha hb e = (refl, e)
same_entries [] (y ∷ ys) a b ha hb e = absurd (differ is_string a (spelled_entry y (spelled_entries ys b)) ha.string_not (entry_string y _) e)
same_entries (x ∷ xs) [] a b ha hb e = absurd (differ is_string b (spelled_entry x (spelled_entries xs a)) hb.string_not (entry_string x _) (sym e))
same_entries (x ∷ xs) (y ∷ ys) a b ha hb e =
    let m = same_entry x y (spelled_entries xs a) (spelled_entries ys b) (entries_no_name xs a ha.name_not) (entries_no_name ys b hb.name_not) e in
    let n = same_entries xs ys a b ha hb m.1 in
    (cc, n.1)
