use Rattle.std.proofs.Common.{rules, ◌≡◌, ◌∙◌, ◌+◌, ◌∷◌, ℕ, List, ap, subst, sym}
use Rattle.std.specs.List.Sorted.{IsStrictlySortedBy}
use Rattle.sbl_uses.specs.TakeNumbers.{number_of, one_if}
use Rattle.sbl_uses.specs.Used.{same_take}
use Rattle.sbl_uses.specs.UnusedViews.{Key, take_of}
use Rattle.sbl_uses.proofs.Sets.{key_order}
use Rattle.sbl_uses.proofs.TakeFacts.{one_among, one_first, put_right, rest_sorted}
use Rattle.sbl_uses.proofs.take_counts.count_each.Goals as goal

pub loop-key-preserved : goal.loop-key-preserved
loop-key-preserved c =
    let k : Key = c.in-Some.key in
    let rest : List Key = c.next.new.self in
    let split : c.loop-key.key-iterator ≡ k ∷ rest = search (rules, c.in-Some.ensures.steps) in
    let sorted : IsStrictlySortedBy key_order (k ∷ rest) = subst (IsStrictlySortedBy key_order) split c.loop-key.invariant.0 in (
      rest_sorted k rest sorted,
      λ t.
          let old = number_of c.loop-key.counts t in
          ap (λ (n : ℕ). n + one_among rest t) (c.in_ok-count_one.ensures t)
          ∙ put_right old (one_if (same_take t (take_of k))) (one_among rest t)
          ∙ ap (λ (n : ℕ). old + n) (one_first k rest t sorted)
          ∙ ap (λ (ks : List Key). old + one_among ks t) (sym split)
          ∙ c.loop-key.invariant.1 t,
    )
