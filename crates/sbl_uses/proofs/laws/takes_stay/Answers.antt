use Rattle.sbl_uses.proofs.EventsStay.{events_stay, takes_stay}
use Rattle.sbl_uses.proofs.laws.takes_stay.Goals as goal

pub returns-clause-events : goal.returns-clause-events
returns-clause-events c = events_stay c.differing_agree.ensures.agree

pub returns-clause-takes : goal.returns-clause-takes
returns-clause-takes c = takes_stay c.differing_agree.ensures.agree
