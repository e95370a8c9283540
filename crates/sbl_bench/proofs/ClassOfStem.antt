-- The class of a stem is one of the classes exactly if a word has the stem.
use Rattle.std.proofs.Common.{◌≡◌, ◌∙◌, ◌&&◌, ◌<◌, ℕ, Bool, true, false, cond, List, [], ◌∷◌, length, map, Some, None, arith, refl, sym, ap}
use Rattle.std.specs.List.{find, list_any}
use Rattle.std.specs.Str.{bytes_eq}
use Rattle.std.proofs.lemmas.Slice.Eq.{bytes_eq-Decides}
use Rattle.sbl_rows.specs.Classes.{Class, Pair, classes_of, in_order, members_of, pair_class, stem_pairs}
use Rattle.sbl_rows.specs.inside.ClassParts.{words_with}
use Rattle.sbl_rows.specs.Rows.{Row}
use Rattle.sbl_rows.proofs.ClassLaws.{any-class, any-same}
use Rattle.sbl_rows.proofs.OrderFacts.{any-in_order, any-stems}

and_true : (b : Bool) → (b && true) ≡ b
and_true true = refl
and_true false = refl

-- whether there is a text
abbrev some_text : List (List ℕ) → Bool
some_text texts = list_any (λ t. true) texts

-- a stem is one of the stems exactly if its class has a member
stems_there : (pairs : List Pair) (stem : List ℕ) → list_any (bytes_eq stem) (in_order (map (λ p. p.0) pairs)) ≡ some_text (in_order (members_of stem pairs))
stems_there pairs stem =
    any-in_order (bytes_eq stem) (map (λ p. p.0) pairs)
    ∙ any-stems (bytes_eq stem) pairs
    ∙ sym (any-same (λ (p : Pair). bytes_eq stem p.0 && true) (λ (p : Pair). bytes_eq stem p.0) (λ p. and_true (bytes_eq stem p.0)) pairs)
    ∙ sym (any-class (λ t. true) pairs stem)

-- the class of a stem among those of some stems
find_stem : (pairs : List Pair) (stem : List ℕ) (stems : List (List ℕ))
    → find (λ (c : Class). bytes_eq stem c.stem) (map (pair_class pairs) stems) ≡ cond (list_any (bytes_eq stem) stems) (Some (pair_class pairs stem)) None
find_stem pairs stem [] = refl
find_stem pairs stem (t ∷ stems) = by (bytes_eq stem t) refl (find_stem pairs stem stems)
  where
    by : (b : Bool) → bytes_eq stem t ≡ b
        → find (λ (c : Class). bytes_eq stem c.stem) (map (pair_class pairs) stems) ≡ cond (list_any (bytes_eq stem) stems) (Some (pair_class pairs stem)) None
        → find (λ (c : Class). bytes_eq stem c.stem) (map (pair_class pairs) (t ∷ stems)) ≡ cond (list_any (bytes_eq stem) (t ∷ stems)) (Some (pair_class pairs stem)) None
    by true same rest = rw same (ap (λ (x : List ℕ). Some (pair_class pairs x)) (sym ((bytes_eq-Decides stem t).0 same)))
    by false other rest = rw other rest

class_is : (rows : List Row) (stem : List ℕ) (b : Bool) → some_text (in_order (words_with stem rows)) ≡ b
    → cond b (Some (pair_class (stem_pairs rows) stem)) None ≡ find (λ (c : Class). bytes_eq stem c.stem) (classes_of rows)
class_is rows stem b is =
    ap (λ (t : Bool). cond t (Some (pair_class (stem_pairs rows) stem)) None) (sym is ∙ sym (stems_there (stem_pairs rows) stem))
    ∙ sym (find_stem (stem_pairs rows) stem (in_order (map (λ p. p.0) (stem_pairs rows))))

-- no word has the stem
pub class_absent : (rows : List Row) (stem : List ℕ) (words : List (List ℕ)) → words ≡ in_order (words_with stem rows) → length words ≡ 0
    → None ≡ find (λ (c : Class). bytes_eq stem c.stem) (classes_of rows)
class_absent rows stem [] is none = class_is rows stem false (ap some_text (sym is))
class_absent rows stem (w ∷ words) is none = absurd (omega (arith, none))

-- some word has it
pub class_there : (rows : List Row) (stem : List ℕ) (words : List (List ℕ)) → words ≡ in_order (words_with stem rows) → 0 < length words
    → Some (record { stem = stem; members = words }) ≡ find (λ (c : Class). bytes_eq stem c.stem) (classes_of rows)
class_there rows stem [] is some = absurd (omega (arith, some))
class_there rows stem (w ∷ words) is some = (λ i. Some (record { stem = stem; members = is i })) ∙ class_is rows stem true (ap some_text (sym is))
