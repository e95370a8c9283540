use Rattle.std.proofs.Common.{rules, ◌≡◌, ◌∙◌, [], List, ℕ, Some, None, Err, take, length, ap, sym, subst}
use Rattle.std.specs.Io.KnownBytes.{Appends}
use Rattle.std.proofs.KnownBytes.{Appends-nil}
use Rattle.sbl_batch.specs.Checking.{view_got}
use Rattle.sbl_batch.specs.Differences.{difference}
use Rattle.sbl_io.specs.Records.{records_text}
use Rattle.sbl_io.specs.declared.faults.ServeFault.TheVariants as fault
use Rattle.sbl_batch.proofs.CheckFacts.{difference_is, no_pair_fault, no_row, one_row, row_text_is}
use Rattle.sbl_batch.proofs.checking.compare.Goals as goal

pub returns-in_err-write_all-in-Some-clause-compares : goal.returns-in_err-write_all-in-Some-clause-compares
returns-in_err-write_all-in-Some-clause-compares g c = λ script made.
    let held = g.W.Sink.held in
    let d = difference script c.args.number c.args.word.now c.args.expected.now in
    let rows_are = difference_is script c.args.number c.args.word.now c.args.expected.now c.in_ok-word.word.now c.in_ok-expected.expected.now (view_got c.in_ok-got.got)
    c.in_ok-word.ensures.text.0 c.in_ok-expected.ensures.text.0 (c.in_ok-got.ensures script made) in
    let some : c.in_ok-row_of.field-0 ≡ Some c.in-Some.row = search rules in
    let row = one_row c.in_ok-row_of.field-0 _ c.in-Some.row some c.in_ok-row_of.ensures in
    let text : records_text d ≡ c.deref.result.now = row_text_is d row.0 c.deref.result.now (sym rows_are ∙ row.1) (c.deref.ensures.value ∙ row.2) in
    let wrote : c.from_residual-in_err-write_all-in-Some.result ≡ Err fault.Write = search rules in
    rw wrote (
      no_pair_fault c.args.word.now c.args.expected.now c.in_ok-word.ensures.text.1 c.in_ok-expected.ensures.text.1,
      c.write_all.ensures.prefix.0,
      subst (λ (t : List ℕ). Appends (held c.args.writer.now) (held c.write_all.new.writer) (take c.write_all.ensures.prefix.0 t)) (sym text) c.write_all.ensures.prefix.1,
    )

pub returns-in-None-clause-compares : goal.returns-in-None-clause-compares
returns-in-None-clause-compares g c = λ script made.
    let held = g.W.Sink.held in
    let rows_are = difference_is script c.args.number c.args.word.now c.args.expected.now c.in_ok-word.word.now c.in_ok-expected.expected.now (view_got c.in_ok-got.got)
    c.in_ok-word.ensures.text.0 c.in_ok-expected.ensures.text.0 (c.in_ok-got.ensures script made) in
    let is : c.in_ok-row_of.field-0 ≡ None = search rules in
    let none : difference script c.args.number c.args.word.now c.args.expected.now ≡ [] = sym rows_are ∙ no_row c.in_ok-row_of.field-0 _ is c.in_ok-row_of.ensures in (
      no_pair_fault c.args.word.now c.args.expected.now c.in_ok-word.ensures.text.1 c.in_ok-expected.ensures.text.1,
      ap length none,
      rw none (Appends-nil (held c.args.writer.now)),
    )

pub returns-in_ok-write_all-in-Some-clause-compares : goal.returns-in_ok-write_all-in-Some-clause-compares
returns-in_ok-write_all-in-Some-clause-compares g c = λ script made.
    let rows_are = difference_is script c.args.number c.args.word.now c.args.expected.now c.in_ok-word.word.now c.in_ok-expected.expected.now (view_got c.in_ok-got.got)
    c.in_ok-word.ensures.text.0 c.in_ok-expected.ensures.text.0 (c.in_ok-got.ensures script made) in
    let some : c.in_ok-row_of.field-0 ≡ Some c.in-Some.row = search rules in
    let row = one_row c.in_ok-row_of.field-0 _ c.in-Some.row some c.in_ok-row_of.ensures in
    let text : records_text (difference script c.args.number c.args.word.now c.args.expected.now) ≡ c.deref.result.now =
    row_text_is (difference script c.args.number c.args.word.now c.args.expected.now) row.0 c.deref.result.now (sym rows_are ∙ row.1) (c.deref.ensures.value ∙ row.2) in (
      no_pair_fault c.args.word.now c.args.expected.now c.in_ok-word.ensures.text.1 c.in_ok-expected.ensures.text.1,
      ap length (sym rows_are ∙ row.1),
      subst (λ (t : List ℕ). Appends (g.W.Sink.held c.args.writer.now) (g.W.Sink.held c.write_all.new.writer) t) (sym text) c.in_ok-write_all-in-Some.ensures.all,
    )
