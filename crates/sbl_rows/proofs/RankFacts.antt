-- The ranking, one class after another.
use Rattle.std.proofs.Common.{◌≡◌, ◌∙◌, ◌++◌, List, [], ◌∷◌, map, length, refl, sym, ap, subst}
use Rattle.std.specs.List.{AllByRecursion}
use Rattle.std.specs.declared.vec.Vec.{Vec}
use Rattle.std.specs.declared.alloc.Global.{Global}
use Rattle.std.specs.declared.cmp.Ordering.{Ordering}
use Rattle.std.specs.declared.cmp.Ordering.TheVariants.{Less, Equal, Greater}
use Rattle.std.specs.Ordering.{match_ordering, nat_cmp, ordering_then}
use Rattle.std.specs.Cmp.Lexicographic.{slice_cmp}
use Rattle.std.specs.BTreeMap.{insert_entry}
use Rattle.std.specs.BTreeSet.{replace_key}
use Rattle.std.proofs.lemmas.List.{length-map, map-append}
use Rattle.std.proofs.lemmas.Map.Lookups.{exact_bytes, exact_unsigned}
use Rattle.sbl_rows.specs.declared.stem_class.StemClass.{StemClass}
use Rattle.sbl_rows.specs.Classes.{Class, texts_of, view_stem_class, view_stem_classes}
use Rattle.sbl_rows.specs.KnownOutcomes.{Text}
use Rattle.sbl_rows.specs.Largest.{by_size, size_cmp}
use Rattle.sbl_rows.specs.Ranking.{Entry, Rank, view_entry}

abbrev pub rank_cmp : Rank → Rank → Ordering
rank_cmp x y = ordering_then (nat_cmp y.0.0 x.0.0) (slice_cmp nat_cmp x.1.now y.1.now)

-- the size in the key is that of the class
abbrev pub Sized : List Entry → Type 0
Sized entries = AllByRecursion (λ e. e.0.0.0 ≡ length e.1.items) entries

members_length : (e : Entry) → e.0.0.0 ≡ length e.1.items → length (view_entry e).members ≡ e.0.0.0
members_length e h = length-map e.1.items (λ (t : Text). t.now) ∙ sym h

same_order : (e f : Entry) → e.0.0.0 ≡ length e.1.items → f.0.0.0 ≡ length f.1.items → size_cmp (view_entry e) (view_entry f) ≡ rank_cmp e.0 f.0
same_order e f h k = λ i. ordering_then (nat_cmp (members_length f k i) (members_length e h i)) (slice_cmp nat_cmp e.0.1.now f.0.1.now)

first_equal : (a b : Ordering) → ordering_then a b ≡ Equal → a ≡ Equal
first_equal Less b h = cc h
first_equal Equal b h = refl
first_equal Greater b h = cc h

second_equal : (a b : Ordering) → ordering_then a b ≡ Equal → b ≡ Equal
second_equal Less b h = cc h
second_equal Equal b h = h
second_equal Greater b h = cc h

pub view-insert : (entries : List Entry) (k : Rank) (v : Vec Text Global) → k.0.0 ≡ length v.items → Sized entries → map view_entry (insert_entry rank_cmp entries k v) ≡ replace_key size_cmp (map view_entry entries) (view_entry (k, v))
view-insert [] k v h s = refl
view-insert (e ∷ entries) k v h s =
    by (rank_cmp k e.0) refl (view-insert entries k v h s.1)
    ∙ (λ i. match_ordering (sym (same_order (k, v) e h s.0) i) (view_entry (k, v) ∷ view_entry e ∷ map view_entry entries) (view_entry (k, v) ∷ map view_entry entries) (view_entry e ∷ replace_key size_cmp (map view_entry entries) (view_entry (k, v))))
  where
    by : (o : Ordering) → rank_cmp k e.0 ≡ o → map view_entry (insert_entry rank_cmp entries k v) ≡ replace_key size_cmp (map view_entry entries) (view_entry (k, v))
        → map view_entry (match_ordering o ((k, v) ∷ e ∷ entries) ((e.0, v) ∷ entries) (e ∷ insert_entry rank_cmp entries k v))
        ≡ match_ordering o (view_entry (k, v) ∷ view_entry e ∷ map view_entry entries) (view_entry (k, v) ∷ map view_entry entries) (view_entry e ∷ replace_key size_cmp (map view_entry entries) (view_entry (k, v)))
    by Less o rest = refl
    by Equal o rest = λ i. record { stem = sym (exact_bytes k.1.now e.0.1.now (second_equal (nat_cmp e.0.0.0 k.0.0) (slice_cmp nat_cmp k.1.now e.0.1.now) o)) i; members = texts_of v.items } ∷ map view_entry entries
    by Greater o rest = ap (λ l. view_entry e ∷ l) rest

pub sized-insert : (entries : List Entry) (k : Rank) (v : Vec Text Global) → k.0.0 ≡ length v.items → Sized entries → Sized (insert_entry rank_cmp entries k v)
sized-insert [] k v h s = (h, tt)
sized-insert (e ∷ entries) k v h s = by (rank_cmp k e.0) refl (sized-insert entries k v h s.1)
  where
    by : (o : Ordering) → rank_cmp k e.0 ≡ o → Sized (insert_entry rank_cmp entries k v) → Sized (match_ordering o ((k, v) ∷ e ∷ entries) ((e.0, v) ∷ entries) (e ∷ insert_entry rank_cmp entries k v))
    by Less o rest = (h, s)
    by Equal o rest = (exact_unsigned e.0.0.0 k.0.0 (first_equal (nat_cmp e.0.0.0 k.0.0) (slice_cmp nat_cmp k.1.now e.0.1.now) o) ∙ h, s.1)
    by Greater o rest = (s.0, rest)

-- the classes that are still to be ranked, onto those that are
abbrev pub onto : List Class → List Class → List Class
onto ranked [] = ranked
onto ranked (c ∷ classes) = replace_key size_cmp (onto ranked classes) c

pub onto-none : (classes : List Class) → onto [] classes ≡ by_size classes
onto-none [] = refl
onto-none (c ∷ classes) = ap (λ l. replace_key size_cmp l c) (onto-none classes)

pub onto-last : (ranked classes : List Class) (c : Class) → onto ranked (classes ++ c ∷ []) ≡ onto (replace_key size_cmp ranked c) classes
onto-last ranked [] c = refl
onto-last ranked (d ∷ classes) c = ap (λ l. replace_key size_cmp l d) (onto-last ranked classes c)

-- the classes so far are ranked, and these are still to come
pub record IsRanking (entries : List Entry) (rest all : List StemClass) : Type 0 where
  pub ranked : onto (map view_entry entries) (view_stem_classes rest) ≡ by_size (view_stem_classes all)
  pub sized : Sized entries

-- the last of these is ranked
pub rank-last : (entries more : List Entry) (rest all before : List StemClass) (class : StemClass) (k : Rank) → k.0.0 ≡ length class.members.items → k.1 ≡ class.stem
    → more ≡ insert_entry rank_cmp entries k class.members → before ≡ rest ++ class ∷ [] → IsRanking entries before all → IsRanking more rest all
rank-last entries more rest all before class k size stem put last is = record {
  ranked =
      ap (λ (es : List Entry). onto (map view_entry es) (view_stem_classes rest)) put
      ∙ ap (λ (l : List Class). onto l (view_stem_classes rest)) (view-insert entries k class.members size is.sized)
      ∙ ap (λ (t : Text). onto (replace_key size_cmp (map view_entry entries) (record { stem = t.now; members = texts_of class.members.items })) (view_stem_classes rest)) stem
      ∙ sym (onto-last (map view_entry entries) (view_stem_classes rest) (view_stem_class class))
      ∙ ap (onto (map view_entry entries)) (sym (map-append view_stem_class rest (class ∷ [])))
      ∙ ap (λ (cs : List StemClass). onto (map view_entry entries) (view_stem_classes cs)) (sym last)
      ∙ is.ranked;
  sized = subst Sized (sym put) (sized-insert entries k class.members size is.sized);
}
