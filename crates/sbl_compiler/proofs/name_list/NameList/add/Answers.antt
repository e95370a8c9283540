use Rattle.std.proofs.Common.{◌∙◌}
use Rattle.sbl_compiler.proofs.NamesNumbered.{one_more}
use Rattle.sbl_compiler.proofs.name_list.NameList.add.Goals as goal

pub invariant_of-self-in-Ok : goal.invariant_of-self-in-Ok
invariant_of-self-in-Ok c =
    one_more c.self.inside.names.items c.push.new.self.items c.in_ok-from_str.field-0 c.args.name.now c.len-number.result c.self.inside.numbers c.keep_first.new.numbers
    c.in_ok-push.ensures.items c.in_ok-from_str.ensures.ok (c.len-number.ensures ∙ c.self.inside.names.ok.0) c.self.invariant c.in-Ok.ensures.kept
