use Rattle.std.proofs.Common.{◌∙◌}
use Rattle.sbl_source_map.proofs.InBlocks.{is_token_in, none_is_in}
use Rattle.sbl_source_map.proofs.block_places.token_offset_in.Goals as goal

pub returns-in-Some : goal.returns-in-Some
returns-in-Some c =
    is_token_in c.token_is_one.ensures.one c.deref.result.now c.args.cut.before.now c.args.cut.part.now c.args.cut.after.now c.args.fault c.in-Some.offset c.offset_in.result
    (c.deref.ensures.value ∙ c.in_ok-text.ensures) (rw c.in-Some.is at c.in_ok-offset.ensures) c.offset_in.ensures

pub returns : goal.returns
returns c =
    none_is_in c.deref.result.now c.args.cut.before.now c.args.cut.part.now c.args.cut.after.now c.args.fault
    (c.deref.ensures.value ∙ c.in_ok-text.ensures) (rw c.in-None.is at c.in_ok-offset.ensures)
