use Rattle.std.proofs.Common.{inl, inr, refl, Err}
use Rattle.sbl_bench.specs.KeptRuns.{contents_of}
use Rattle.sbl_bench.specs.declared.fault.EditFault.TheVariants as fault
use Rattle.sbl_history.specs.Desks.{state_of}
use Rattle.sbl_script.specs.Parts.{view_part}
use Rattle.sbl_work.proofs.ReplyFacts.{part_bytes, part_utf8}
use Rattle.sbl_work.proofs.parts.replace_part_by.Goals as goal

pub returns-in_default : goal.returns-in_default
returns-in_default g c = part_bytes (contents_of c.args.bench.now) (state_of c.args.desk.now) (view_part c.args.part) c.args.text.now c.in_default.ensures.cases.0

pub returns-in-Ok-without_head : goal.returns-in-Ok-without_head
returns-in-Ok-without_head g c =
    part_utf8 (contents_of c.args.bench.now) (contents_of c.replace_part.new.bench) (state_of c.args.desk.now) (state_of c.replace_part.new.self) (view_part c.args.part)
    c.in-Ok.text.now c.args.text.now c.replace_part.result c.in-Ok.ensures.cases.0 c.in-Ok.ensures.cases.1
    (inl (c.in-Ok-without_head.rest.now, c.in-Ok-without_head.ensures, c.replace_part.ensures.replaces))

pub returns-in-Err : goal.returns-in-Err
returns-in-Err g c =
    part_utf8 (contents_of c.args.bench.now) (contents_of c.args.bench.now) (state_of c.args.desk.now) (state_of c.args.desk.now) (view_part c.args.part)
    c.in-Ok.text.now c.args.text.now (Err fault.OutOfMemory) c.in-Ok.ensures.cases.0 c.in-Ok.ensures.cases.1 (inr (refl, refl, refl))
