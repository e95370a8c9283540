use Rattle.std.proofs.Common.{arith, rules}
use Rattle.sbl_program.proofs.Shorter.{best_there, none_there}
use Rattle.sbl_program.proofs.plain.PlainTableAmongSearch.next_shorter.Goals as goal

pub returns-in-None : goal.returns-in-None
returns-in-None c x before rest cut = absurd (none_there c.args.self.now.direction c.args.self.now.strings.items c.deref.result.now c.args.i x before rest cut c.deref.ensures.value (first_of (search rules, omega (arith, c.in-None.ensures.lookup))))

pub returns-in-Some : goal.returns-in-Some
returns-in-Some c x before rest cut = best_there c.args.self.now.direction c.args.self.now.strings.items c.deref.result.now c.args.i x before rest c.in-Some.string.now c.deref-in-Some.result.now c.len.result c.best.result cut c.deref.ensures.value (search rules) (search rules) c.deref-in-Some.ensures.value (omega (arith, c.len.ensures)) c.best.ensures
