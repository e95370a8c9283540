use Rattle.std.proofs.Common.{rules, ◌≡◌, ◌∙◌, length}
use Rattle.sbl_source_map.proofs.BlockFacts.{check_in}
use Rattle.sbl_source_map.proofs.HeadFacts.{if_ok}
use Rattle.sbl_source_map.proofs.block_faults.check_faults_in.Goals as goal

pub returns : goal.returns
returns c =
    let typed = c.args.typed in
    let ends : c.len-end.result ≡ length c.args.text.items = search rules in
    if_ok c.faults_within.result c.faults_within.ensures
    (λ faults within.
    check_in typed.before.now typed.head typed.block.now typed.after.now c.args.external.now c.args.text.items c.deref.result.now c.len-end.result c.in_ok-all.all.items c.deref-2.result.now
    faults.items c.requires (c.deref.ensures.value ∙ c.in_ok-extend_from_slice.ensures.items) ends c.in_ok-all.ensures c.deref-2.ensures.value within)
