use Rattle.std.proofs.Common.{◌≡◌, ◌+◌, false, None, length, ap, refl, rules, ◌∙◌}
use Rattle.std.proofs.Props.{props}
use mathlib.Core.Logic.{∥∥₁_elim}
use Rattle.sbl_semantics.specs.Fitting.{read_as, first, fitting}
use Rattle.sbl_program.specs.Beginnings.{has_remainder, may_begin}
use Rattle.sbl_program.specs.Linked.{numbers_of, texts_of}
use Rattle.sbl_program.specs.LinkedStrings.{strings_of}
use Rattle.sbl_program.proofs.Beginnings.{none_fits}
use Rattle.sbl_program.proofs.Fits.{best_fits}
use Rattle.sbl_program.proofs.SoFar.{read_length}
use Rattle.sbl_program.proofs.linked.LinkedTableAmongSearch.longest.Goals as goal

pub returns : goal.returns
returns c =
    let x = read_as c.args.self.now.direction c.ahead-part.result.now in
    ∥∥₁_elim c.best.ensures (Prim.hlevel props) (λ best. best_fits (strings_of c.args.self.now) x (length c.ahead-part.result.now + 1) c.best.result (length c.ahead-part.result.now) (read_length c.args.self.now.direction c.ahead-part.result.now) refl best ∙ ap (λ y. first (fitting (strings_of c.args.self.now) y)) c.ahead-part.ensures)

pub returns-then-not-may_begin : goal.returns-then-not-may_begin
returns-then-not-may_begin c =
    let t = c.args.self.now in
    let part = c.ahead-part.result.now in
    let x = read_as t.direction part in
    let class = has_remainder t.beginnings.remainders in
    let everywhere = t.beginnings.everywhere in
    let no : may_begin class everywhere x ≡ false = search rules in
    ∥∥₁_elim t.linked (Prim.hlevel props)
    (λ linked. ∥∥₁_elim t.begun (Prim.hlevel props)
    (λ begun. best_fits (strings_of t) x (length part + 1) None (length part) (read_length t.direction part) refl (none_fits class everywhere x (length part + 1) (strings_of t) (texts_of t.rows.items) (numbers_of t.rows.items) linked.rows_are begun no) ∙ ap (λ y. first (fitting (strings_of t) y)) c.ahead-part.ensures))
