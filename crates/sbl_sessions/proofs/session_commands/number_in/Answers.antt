use Rattle.std.specs.Char.{is_ascii_digit}
use Rattle.std.proofs.Common.{◌≡◌, ◌+◌, ◌-◌, ◌*◌, ◌≤◌, min, get_or, true, arith, rules}
use Rattle.sbl_sessions.specs.inside.SessionParts.{max_number}
use Rattle.sbl_sessions.proofs.NumberFacts.{reads_more}
use Rattle.sbl_sessions.proofs.session_commands.number_in.Goals as goal

pub loop-i-preserved : goal.loop-i-preserved
loop-i-preserved c =
    let byte = get_or c.args.digits.now c.loop-i.i 0 in
    let digit : is_ascii_digit byte ≡ true = search rules in
    let next : c.saturating_add-number.result ≡ min (min (c.loop-i.number * 10) max_number + (byte - 48)) max_number = search rules in
    let fits : c.saturating_add-number.result ≤ max_number = omega arith in
    (reads_more c.args.digits.now c.loop-i.i c.loop-i.number c.saturating_add-number.result (omega arith) c.loop-i.invariant.0 digit next, fits)
