use Rattle.sbl_text.proofs.Spellings.{never_closed, name_parts}
use Rattle.sbl_text.proofs.literals.split_name.Goals as goal

pub returns-in_err-end : goal.returns-in_err-end
returns-in_err-end c = rw c.from_residual.ensures (never_closed c.args.inserts c.args.chars.now c.in_err-end.ensures)

pub returns-in-len1-up : goal.returns-in-len1-up
returns-in-len1-up c =
    name_parts c.args.inserts c.args.chars.now c.split_at.result.0.now c.split_at.result.1.now c.in_ok-end.end c.closing-item.result c.in_ok-end.ensures c.split_at.ensures.front c.split_at.ensures.back
    c.in-len1-up.len_at_least c.closing-item.is
