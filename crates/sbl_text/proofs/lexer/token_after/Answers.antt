use Rattle.std.proofs.Common.{inr, sym, subst}
use Rattle.std.specs.Str.{chars}
use Rattle.std.proofs.lemmas.Result.{err_from_is_err_and}
use Rattle.sbl_text.specs.Pieces.{Has}
use Rattle.sbl_text.specs.Directives.{setting_of}
use Rattle.sbl_text.proofs.Nexts.{after_gaps, after_piece, no_token, no_piece_refused, comes}
use Rattle.sbl_text.proofs.lexer.token_after.Goals as goal

pub place_of-start-requires : goal.place_of-start-requires
place_of-start-requires c = after_gaps (setting_of c.args.state.now) (chars c.args.source.now) (chars c.args.from.now) (chars c.cut_after.result.0.now) c.requires c.cut_after.ensures.gaps

pub returns-in_err-end_or_fault-in-None : goal.returns-in_err-end_or_fault-in-None
returns-in_err-end_or_fault-in-None c =
    let before = after_gaps (setting_of c.args.state.now) (chars c.args.source.now) (chars c.args.from.now) (chars c.cut_after.result.0.now) c.requires c.cut_after.ensures.gaps in
    let none = rw c.in-None.is at c.cut_after.ensures.next in
    let p = err_from_is_err_and c.from_residual.result c.from_residual.ensures.1 in
    rw (p.1, p.2) (inr (no_token c.args.state.now (chars c.args.source.now) (chars c.args.from.now) (chars c.cut_after.result.0.now) c.place_of-start.result c.in_err-end_or_fault-in-None.field-0.0
    before c.place_of-start.ensures.place c.cut_after.ensures.gaps none (rw (c.next_wanted.ensures) at c.in_err-end_or_fault-in-None.ensures)))

pub returns-in_err-kind-in-Some : goal.returns-in_err-kind-in-Some
returns-in_err-kind-in-Some c =
    let before = after_gaps (setting_of c.args.state.now) (chars c.args.source.now) (chars c.args.from.now) (chars c.cut_after.result.0.now) c.requires c.cut_after.ensures.gaps in
    let cut = rw c.in-Some.is at c.cut_after.ensures.next in
    let p = err_from_is_err_and c.from_residual-in_err-kind-in-Some.result c.from_residual-in_err-kind-in-Some.ensures.1 in
    rw (p.1, p.2) (no_piece_refused c.args.state.now (chars c.args.source.now) (chars c.args.from.now) (chars c.cut_after.result.0.now) (chars c.in-Some.rest.now) (chars c.prefix_before-text.result.now) c.in-Some.shape
    c.place_of-start.result c.in_err-kind-in-Some.field-0.0 before c.place_of-start.ensures.place c.cut_after.ensures.gaps cut.1 c.prefix_before-text.ensures.characters c.in_err-kind-in-Some.ensures)

pub meaning-requires-clause-has : goal.meaning-requires-clause-has
meaning-requires-clause-has c =
    let cut = rw c.in-Some.is at c.cut_after.ensures.next in
    subst (Has c.args.state.now.escapes.inserts c.in-Some.shape) (sym (c.prefix_before-text.ensures.characters cut.1.0 cut.1.1)) cut.1.2.stands.has

pub place_of-end-requires : goal.place_of-end-requires
place_of-end-requires c =
    let before = after_gaps (setting_of c.args.state.now) (chars c.args.source.now) (chars c.args.from.now) (chars c.cut_after.result.0.now) c.requires c.cut_after.ensures.gaps in
    let cut = rw c.in-Some.is at c.cut_after.ensures.next in
    after_piece (chars c.args.source.now) (chars c.cut_after.result.0.now) cut.1.0 (chars c.in-Some.rest.now) before.0 before.1 cut.1.1

pub returns-in_ok-kind-in-Some : goal.returns-in_ok-kind-in-Some
returns-in_ok-kind-in-Some c =
    let before = after_gaps (setting_of c.args.state.now) (chars c.args.source.now) (chars c.args.from.now) (chars c.cut_after.result.0.now) c.requires c.cut_after.ensures.gaps in
    let cut = rw c.in-Some.is at c.cut_after.ensures.next in
    comes c.args.state.now (chars c.args.source.now) (chars c.args.from.now) (chars c.cut_after.result.0.now) (chars c.in-Some.rest.now) (chars c.prefix_before-text.result.now) c.in-Some.shape
    record { kind = c.in_ok-kind-in-Some.kind; text = c.prefix_before-text.result; start = c.place_of-start.result; end = c.place_of-end.result; value = c.in_ok-kind-in-Some.value }
    before c.place_of-start.ensures.place c.place_of-end.ensures.place c.cut_after.ensures.gaps cut.1 c.prefix_before-text.ensures.characters c.prefix_before-text.ensures.bytes c.in_ok-kind-in-Some.ensures.0 c.in_ok-kind-in-Some.ensures.1
