-- Classes: each stem with its members, both in code point order, a prefix first. The members are the words that have the stem, or the
-- stems that these words have in another list of rows. A word whose run is refused is in no class.
use Rattle.std.specs.Prelude.{ℕ, Bool, false, List, [], map, Option, Some, None}
use Rattle.std.specs.List.{filter, filter_map, find}
use Rattle.std.specs.Option.{option_and_then, option_map}
use Rattle.std.specs.Ordering.{nat_cmp}
use Rattle.std.specs.Cmp.Lexicographic.{slice_cmp}
use Rattle.std.specs.Str.{bytes_eq}
use Rattle.std.specs.Borrow.{Bor}
use Rattle.std.specs.declared.vec.Vec.{Vec}
use Rattle.std.specs.declared.alloc.Global.{Global}
use Rattle.std.specs.BTreeSet.{insert_key}
use Rattle.sbl_ast.specs.Folds.{foldr}
use Rattle.sbl_semantics.specs.Outcome.{Outcome', Stem, Refused}
use Rattle.sbl_rows.specs.Rows.{Row}
use Rattle.sbl_rows.specs.declared.class.Class as declared
use Rattle.sbl_rows.specs.declared.stem_class.StemClass as borrowed

pub record Class : Type 0 where
  pub stem : List ℕ
  pub members : List (List ℕ)

-- a stem and a member of its class
abbrev pub Pair : Type 0
Pair = List ℕ × List ℕ

-- the texts in code point order, a prefix first, without repeats
abbrev pub in_order : List (List ℕ) → List (List ℕ)
in_order texts = foldr (λ text others. insert_key (slice_cmp nat_cmp) others text) [] texts

-- the members of the class of a stem, as they come
abbrev pub members_of : List ℕ → List Pair → List (List ℕ)
members_of stem pairs = map (λ p. p.1) (filter (λ p. bytes_eq stem p.0) pairs)

-- the class of a stem among pairs
abbrev pub pair_class : List Pair → List ℕ → Class
pair_class pairs stem = record { stem = stem; members = in_order (members_of stem pairs) }

-- the classes of pairs
abbrev pub pair_classes : List Pair → List Class
pair_classes pairs = map (pair_class pairs) (in_order (map (λ p. p.0) pairs))

-- ---- the classes of rows

-- the stem that an outcome gives; a refusal gives none
abbrev pub stem_of : Outcome' → Option (List ℕ)
stem_of (Stem stem) = Some stem
stem_of (Refused f) = None

-- whether an outcome gives this stem
abbrev pub is_stem : List ℕ → Outcome' → Bool
is_stem stem (Stem given) = bytes_eq given stem
is_stem stem (Refused f) = false

-- a word with its stem, if it has one
abbrev pub pair_of : List ℕ → Outcome' → Option Pair
pair_of word outcome = option_map (λ stem. (stem, word)) (stem_of outcome)

-- the words that have a stem, each with it
abbrev pub stem_pairs : List Row → List Pair
stem_pairs rows = filter_map (λ r. pair_of r.word r.outcome) rows

-- the class of a stem: the words of the rows that have it
abbrev pub class_with : List Row → List ℕ → Class
class_with rows stem = pair_class (stem_pairs rows) stem

-- the classes of the stems of the rows
abbrev pub classes_of : List Row → List Class
classes_of rows = pair_classes (stem_pairs rows)

-- the class of a word among the rows: that of its stem; none if the word is refused or not in the rows
abbrev pub class_of : List Row → List ℕ → Option Class
class_of rows word = option_map (class_with rows) (option_and_then (λ r. stem_of r.outcome) (find (λ r. bytes_eq word r.word) rows))

-- ---- the classes that the code's values represent

abbrev pub words_of : List (Vec ℕ Global) → List (List ℕ)
words_of words = map (λ w. w.items) words

abbrev pub view_class : declared.Class → Class
view_class c = record { stem = c.stem.items; members = words_of c.words.items }

abbrev pub texts_of : List (Bor (List ℕ)) → List (List ℕ)
texts_of texts = map (λ t. t.now) texts

abbrev pub view_stem_class : borrowed.StemClass → Class
view_stem_class c = record { stem = c.stem.now; members = texts_of c.members.items }

abbrev pub view_stem_classes : List borrowed.StemClass → List Class
view_stem_classes classes = map view_stem_class classes
