use Rattle.sbl_machine.proofs.TablesDiffer.{tables_differ, searches_are_exact}
use Rattle.sbl_machine.proofs.laws.searches_are_exact.Goals as goal

pub returns-clause-differ : goal.returns-clause-differ
returns-clause-differ c = tables_differ c.amongs_are_sound.ensures

pub returns-clause-exact : goal.returns-clause-exact
returns-clause-exact c = searches_are_exact c.amongs_are_sound.ensures c.fitting_are_matches.ensures
