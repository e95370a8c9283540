use Rattle.std.proofs.Common.{◌≡◌, ◌+◌, ◌∙◌, ap, sym}
use Rattle.sbl_resolver.specs.Occurrences.{amongs_in}
use Rattle.sbl_resolver.specs.inside.CheckParts.{amongs_after}
use Rattle.sbl_resolver.specs.OccurrenceView.{view_notice, view_occurrences}
use Rattle.sbl_resolver.proofs.Counted.{amongs_after_push}
use Rattle.sbl_resolver.proofs.sofar.SoFar.put.Goals as goal

pub invariant_of-self-2 : goal.invariant_of-self-2
invariant_of-self-2 c =
    let is : c.self.inside.amongs ≡ amongs_in (view_occurrences c.self.inside.occurrences.items) 0 = c.self.invariant in
    c.amongs_after-self-inside.ensures (c.next_among-next.ensures ∙ ap (λ l. amongs_in (view_occurrences l) 0 + 1) (sym c.self.view_is) ∙ ap (λ k. k + 1) (sym is))
    ∙ ap (amongs_after (view_notice c.args.notice)) is
    ∙ amongs_after_push c.self.inside.occurrences.items (record { site = c.args.site; notice = c.args.notice })
    ∙ ap (λ l. amongs_in (view_occurrences l) 0) (sym c.in_ok-push.ensures.items)
