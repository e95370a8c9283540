-- How many amongs there are, one occurrence further.
use Rattle.std.proofs.Common.{◌≡◌, ℕ, ◌+◌, ◌≤◌, List, [], ◌∷◌, ◌++◌, length, suc, refl, sym, ap, ◌∙◌, arith}
use Rattle.std.proofs.lemmas.List.{map_push}
use Rattle.sbl_resolver.specs.declared.occurrences.Occurrence as noted
use Rattle.sbl_resolver.specs.Occurrences.{Occurrence, Notice, declares, defines_routine, defines_grouping, uses, substring, among, string, backwards, region_end, amongs_in}
use Rattle.sbl_resolver.specs.inside.CheckParts.{amongs_after}
use Rattle.sbl_resolver.specs.OccurrenceView.{view_notice, view_occurrence, view_occurrences}

amongs-push : (s : List Occurrence) (m : Occurrence) (k : ℕ) → amongs_in (s ++ m ∷ []) k ≡ amongs_after m.notice (amongs_in s k)
amongs-push [] m k = refl
amongs-push (x ∷ s) m k = amongs-push s m (amongs_after x.notice k)

-- one more occurrence
pub amongs_after_push : (s : List noted.Occurrence) (m : noted.Occurrence) → amongs_after (view_notice m.notice) (amongs_in (view_occurrences s) 0) ≡ amongs_in (view_occurrences (s ++ m ∷ [])) 0
amongs_after_push s m = sym (ap (λ l. amongs_in l 0) (map_push view_occurrence s m) ∙ amongs-push (view_occurrences s) (view_occurrence m) 0)

one_more : (n : Notice) (k : ℕ) → amongs_after n k ≤ k + 1
one_more (declares d n) k = omega arith
one_more (defines_routine n) k = omega arith
one_more (defines_grouping n) k = omega arith
one_more (uses u n) k = omega arith
one_more substring k = omega arith
one_more (among a b) k = omega arith
one_more (string o t) k = omega arith
one_more backwards k = omega arith
one_more region_end k = omega arith

at_most : (s : List Occurrence) (k : ℕ) → amongs_in s k ≤ k + length s
at_most [] k = omega arith
at_most (m ∷ s) k = let one = one_more m.notice k in let rest = at_most s (amongs_after m.notice k) in omega arith

same_length : (s : List noted.Occurrence) → length (view_occurrences s) ≡ length s
same_length [] = refl
same_length (m ∷ s) = ap suc (same_length s)

-- there are not more than occurrences
pub few : (s : List noted.Occurrence) → amongs_in (view_occurrences s) 0 ≤ length s
few s = let most = at_most (view_occurrences s) 0 in let same = same_length s in omega arith
