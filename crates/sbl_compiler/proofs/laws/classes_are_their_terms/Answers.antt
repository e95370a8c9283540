use Rattle.sbl_compiler.proofs.Own.{classes_are_their_terms}
use Rattle.sbl_compiler.proofs.laws.classes_are_their_terms.Goals as goal

pub returns : goal.returns
returns c = classes_are_their_terms
