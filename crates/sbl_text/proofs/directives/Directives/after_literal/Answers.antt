use Rattle.std.specs.Str.{chars}
use Rattle.sbl_text.proofs.Nexts.{nothing_defined, end_undefined}
use Rattle.sbl_text.proofs.directives.Directives.after_literal.Goals as goal

pub returns-in-None : goal.returns-in-None
returns-in-None c =
    nothing_defined c.args.self.now c.settle.new.self c.args.characters.now
    (end_undefined (λ d. record { name = chars d.name.now; coding = d.coding }) c.args.self.now c.self.inside.defining c.self.inside.escapes c.self.inside.wanted c.self.view_is c.in-None.is)
    c.settle.ensures
