use Rattle.std.proofs.Common.{rules, ◌≡◌, ◌∙◌}
use Rattle.std.specs.Prelude.{is_ok}
use Rattle.std.specs.Str.{chars}
use Rattle.std.proofs.lemmas.Str.{chars_from_encodes}
use Rattle.sbl_text.proofs.Definitions.{one_defined}
use Rattle.sbl_text.proofs.escapes.Escapes.define.Goals as goal

pub returns : goal.returns
returns c =
    let items : c.in_ok-letters.letters.items ≡ chars c.args.name.now = search (rules, chars_from_encodes) in
    one_defined c.args.self.now c.self.inside.inserts c.self.inside.macros c.define.new.self (chars c.args.name.now) c.deref.result.now c.args.value.now (is_ok c.define.result)
    c.self.view_is c.define.ensures (c.deref.ensures.value ∙ items)
