-- How the classes are made: from the pairs of a stem and a member, taken one after another in order.
use Rattle.std.specs.Prelude.{ℕ, Bool, false, List, [], ◌∷◌, ◌++◌, map, if◌then◌else◌}
use Rattle.std.specs.List.{cons_option}
use Rattle.std.specs.Borrow.{Bor}
use Rattle.std.specs.declared.cmp.Ordering.{Ordering}
use Rattle.std.specs.Ordering.{nat_cmp, ordering_then}
use Rattle.std.specs.Cmp.Lexicographic.{slice_cmp}
use Rattle.std.specs.Str.{bytes_eq}
use Rattle.std.specs.BTreeSet.{insert_key}
use Rattle.sbl_semantics.specs.Outcome.{Outcome'}
use Rattle.sbl_rows.specs.declared.stem_class.StemPair as declared
use Rattle.sbl_rows.specs.Classes.{Class, Pair, in_order, members_of, pair_of}

-- the pair of a word before others; a refused word has none
abbrev pub with_pair : Outcome' → List ℕ → List Pair → List Pair
with_pair o word pairs = cons_option (pair_of word o) pairs

-- by the stem, then by the member, both in code point order; a prefix comes first
abbrev pub pair_cmp : Pair → Pair → Ordering
pair_cmp p q = ordering_then (slice_cmp nat_cmp p.0 q.0) (slice_cmp nat_cmp p.1 q.1)

abbrev pub pairs_in_order : List Pair → List Pair
pairs_in_order [] = []
pairs_in_order (p ∷ pairs) = insert_key pair_cmp (pairs_in_order pairs) p

-- the class of a stem among pairs that are in this order
abbrev pub class_sorted : List Pair → List ℕ → Class
class_sorted pairs stem = record { stem = stem; members = members_of stem pairs }

-- the classes of pairs that are in this order
abbrev pub classes_sorted : List Pair → List Class
classes_sorted pairs = map (class_sorted pairs) (in_order (map (λ p. p.0) pairs))

abbrev pub one_member : Pair → Class
one_member p = record { stem = p.0; members = p.1 ∷ [] }

abbrev pub is_last : List ℕ → List Class → Bool
is_last stem [] = false
is_last stem (c ∷ []) = bytes_eq c.stem stem
is_last stem (c ∷ d ∷ classes) = is_last stem (d ∷ classes)

abbrev pub put_in_last : List Class → List ℕ → List Class
put_in_last [] member = []
put_in_last (c ∷ []) member = record { stem = c.stem; members = c.members ++ member ∷ [] } ∷ []
put_in_last (c ∷ d ∷ classes) member = c ∷ put_in_last (d ∷ classes) member

-- Appends the member to the last class, if that class has its stem, and otherwise appends a new class with this member.
abbrev pub put_last : List Class → Pair → List Class
put_last classes p = if is_last p.0 classes then put_in_last classes p.1 else classes ++ one_member p ∷ []

abbrev pub put_pairs : List Class → List Pair → List Class
put_pairs classes [] = classes
put_pairs classes (p ∷ pairs) = put_pairs (put_last classes p) pairs

-- ---- the pairs that the code's values represent

abbrev pub view_pair : declared.StemPair → Pair
view_pair p = (p.stem.now, p.member.now)

abbrev pub view_pairs : List declared.StemPair → List Pair
view_pairs pairs = map view_pair pairs

-- a pair in a set of pairs
abbrev pub TextPair : Type 0
TextPair = Bor (List ℕ) × Bor (List ℕ)

abbrev pub plain_pair : TextPair → Pair
plain_pair p = (p.0.now, p.1.now)
