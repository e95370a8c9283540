use Rattle.sbl_uses.specs.Parts.{parts_of}
use Rattle.sbl_uses.proofs.UserFacts.{unused_are}
use Rattle.sbl_uses.proofs.laws.unused_have_number_zero.Goals as goal

pub returns : goal.returns
returns c = λ s words. unused_are s words (parts_of s.script)
