-- Rows of which a first part is written.
use Rattle.std.proofs.Common.{◌≡◌, ◌∙◌, ◌++◌, ◌+◌, ℕ, List, [], ◌∷◌, Option, refl, sym, ap, subst, map, length, take}
use Rattle.std.proofs.KnownBytes.{Appends-nil, Appends-trans}
use Rattle.std.proofs.Math.Seq.{take-append-add}
use Rattle.std.proofs.lemmas.List.{append-nil, append_assoc, map-append}
use Rattle.std.specs.Io.KnownBytes.{Appends}
use Rattle.std.specs.Str.{chars}
use Rattle.sbl_ast.specs.Source.{Source}
use Rattle.sbl_batch.specs.Filter.{AppendsPart, filter_output}
use Rattle.sbl_batch.specs.HeldRows.{HoldsRows, WritesPart}
use Rattle.sbl_batch.proofs.RowFacts.{filtered-append, filtered-none}

pub part-none : (h : Option (List ℕ)) (t : List ℕ) → WritesPart h h t t
part-none h t = ([], Appends-nil h, refl)

pub part-all : (h k : Option (List ℕ)) (t u : List ℕ) → Appends h k t → u ≡ [] → WritesPart h k t u
part-all h k t u all none = (t, all, sym (append-nil t) ∙ ap (λ (x : List ℕ). t ++ x) (sym none))

module _ (h k m : Option (List ℕ)) (a b : List ℕ) (so : WritesPart h k a b) where
  part-more : (c : List ℕ) → WritesPart k m b c → WritesPart h m a c
  part-more c next =
      (so.0 ++ next.0, Appends-trans h k m so.0 next.0 so.1 next.1, so.2 ∙ ap (λ (x : List ℕ). so.0 ++ x) next.2 ∙ sym (append_assoc so.0 next.0 c))

  part-whole : Appends k m b → Appends h m a
  part-whole rest = subst (λ (x : List ℕ). Appends h m x) (sym so.2) (Appends-trans h k m so.0 b so.1 rest)

  part-cut : (n : ℕ) → Appends k m (take n b) → (j : ℕ) × Appends h m (take j a)
  part-cut n cut =
      let j = length so.0 + n in
      let same : so.0 ++ take n b ≡ take j a = sym (take-append-add so.0 b n) ∙ ap (λ (x : List ℕ). take j x) (sym so.2) in
      (j, subst (λ (x : List ℕ). Appends h m x) same (Appends-trans h k m so.0 (take n b) so.1 cut))

-- ---- rows of lines

pub holds-none : (s : Source) (h : Option (List ℕ)) (t : List ℕ) → t ≡ [] → HoldsRows s h h t []
holds-none s h t none = ([], Appends-nil h, filtered-none s ∙ sym none)

module _ (s : Source) (h k : Option (List ℕ)) (t : List ℕ) (lines : List (List ℕ)) (so : HoldsRows s h k t lines) where
  pub holds-moved : (m : Option (List ℕ)) (u : List ℕ) → WritesPart k m t u → HoldsRows s h m u lines
  holds-moved m u next = part-more h k m (filter_output s (map chars lines)) t so u next

  pub holds-push : (l u : List ℕ) → u ≡ t ++ filter_output s (chars l ∷ []) → HoldsRows s h k u (lines ++ l ∷ [])
  holds-push l u more =
      let row = filter_output s (chars l ∷ []) in
      let whole : filter_output s (map chars (lines ++ l ∷ [])) ≡ filter_output s (map chars lines) ++ row =
      ap (filter_output s) (map-append chars lines (l ∷ [])) ∙ filtered-append s (map chars lines) (chars l ∷ []) in
      (so.0, so.1, whole ∙ ap (λ (x : List ℕ). x ++ row) so.2 ∙ append_assoc so.0 t row ∙ ap (λ (x : List ℕ). so.0 ++ x) (sym more))

  pub holds-stays : (u : List ℕ) → u ≡ t → HoldsRows s h k u lines
  holds-stays u same = (so.0, so.1, so.2 ∙ ap (λ (x : List ℕ). so.0 ++ x) (sym same))

  pub holds-written : (m : Option (List ℕ)) → Appends k m t → Appends h m (filter_output s (map chars lines))
  holds-written m all = part-whole h k m (filter_output s (map chars lines)) t so all

  pub holds-all : t ≡ [] → Appends h k (filter_output s (map chars lines))
  holds-all none = holds-written k (subst (λ (x : List ℕ). Appends k k x) (sym none) (Appends-nil k))

  pub holds-cut : (m : Option (List ℕ)) (n : ℕ) → Appends k m (take n t) → AppendsPart s h m lines
  holds-cut m n cut = part-cut h k m (filter_output s (map chars lines)) t so n cut
