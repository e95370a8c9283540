use Rattle.std.proofs.Common.{◌+◌, length, ap, refl, ◌∙◌}
use Rattle.sbl_semantics.specs.Fitting.{read_as, first, fitting}
use Rattle.sbl_program.specs.Strings.{strings_of}
use Rattle.sbl_program.proofs.Fits.{best_fits}
use Rattle.sbl_program.proofs.SoFar.{read_length}
use Rattle.sbl_program.proofs.plain.PlainTableAmongSearch.longest.Goals as goal

pub returns : goal.returns
returns c =
    let x = read_as c.args.self.now.direction c.ahead-part.result.now in
    best_fits (strings_of c.args.self.now) x (length c.ahead-part.result.now + 1) c.best.result (length c.ahead-part.result.now) (read_length c.args.self.now.direction c.ahead-part.result.now) refl c.best.ensures ∙ ap (λ y. first (fitting (strings_of c.args.self.now) y)) c.ahead-part.ensures
