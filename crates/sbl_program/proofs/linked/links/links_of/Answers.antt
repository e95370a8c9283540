use Rattle.std.proofs.Common.{◌≡◌, ℕ, ◌+◌, ◌<◌, List, Option, length, refl, sym, ap, ◌∙◌, rules, Some}
use mathlib.Core.Path.{subst}
use Rattle.std.specs.Prelude.{slice_get, IfSome}
use Rattle.std.proofs.lemmas.List.{length-append}
use Rattle.std.proofs.lemmas.Option.{slice_get_read}
use Rattle.sbl_program.specs.Linked.{AreLinks, GoDown, IsLast, Row, texts_of}
use Rattle.sbl_program.proofs.Chain.{down_more, links_more, own_link, own_stands}
use Rattle.sbl_program.proofs.Sorted.{part_at}
use Rattle.sbl_program.proofs.linked.links.links_of.Goals as goal

pub loop-i-preserved : goal.loop-i-preserved
loop-i-preserved c =
    let inv = c.loop-i.invariant in
    let i = c.loop-i.i in
    let rows = c.args.rows.now in
    let texts = texts_of rows in
    let old = c.loop-i.links.items in
    let r = c.index-rows-i.result in
    let w = r.0.items in
    let link = c.follow-link.result in
    let own : slice_get texts i ≡ Some w = part_at (λ (r : Row). r.0.items) rows i r (slice_get_read rows (length rows) i r refl c.loop-i-test.true c.index-rows-i.is) in
    let stand = own_stands texts i w c.requires own in
    let short : c.len.result ≡ length w = search rules in
    let last : IsLast texts w (length w) link = own_link texts _ old _ w c.len.result i link c.deref.ensures.value c.deref-in-loop-i.ensures.value short c.follow-link.ensures.last inv.0 stand in
    let more = c.in_ok-push.ensures.items in
    let inside : IfSome link (λ r. r < length old) = subst (λ (n : ℕ). IfSome link (λ r. r < n)) (sym inv.2) c.follow-link.ensures.inside in (
      subst (λ (ls : List (Option ℕ)). AreLinks texts ls) (sym more) (links_more texts old link w inv.0 (ap (slice_get texts) inv.2 ∙ own) last),
      subst (λ (ls : List (Option ℕ)). GoDown ls) (sym more) (down_more old link inv.1 inside),
      ap length more ∙ length-append old _ ∙ ap (λ k. k + 1) inv.2,
    )
