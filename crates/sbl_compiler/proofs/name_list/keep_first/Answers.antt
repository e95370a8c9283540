use Rattle.std.proofs.Common.{sym, ◌∙◌}
use Rattle.sbl_compiler.proofs.NamesNumbered.{insert_keeps_names}
use Rattle.sbl_compiler.proofs.name_list.keep_first.Goals as goal

pub returns-in_ok-insert-clause-kept : goal.returns-in_ok-insert-clause-kept
returns-in_ok-insert-clause-kept c =
    insert_keeps_names c.args.numbers.now c.insert.new.self c.in_ok-from_str.field-0 c.args.name.now c.args.number (sym c.contains_key.ensures ∙ c.if-not-contains_key.true) c.in_ok-from_str.ensures.ok c.in_ok-insert.ensures.updates
