use Rattle.std.proofs.Common.{◌++◌, ◌∷◌, []}
use Rattle.std.proofs.Math.Seq.{take-length}
use Rattle.sbl_batch.proofs.LineFacts.{line-appended, more-appended}
use Rattle.sbl_batch.proofs.lines.append_plain.Goals as goal

pub returns-clause-line : goal.returns-clause-line
returns-clause-line c =
    line-appended c.args.rows.now.items c.args.word.now c.args.kind.now c.args.text.now
    c.extend_from_slice.new.self.items c.push.new.self.items c.extend_from_slice-2.new.self.items c.push-2.new.self.items
    c.extend_from_slice-3.new.self.items c.push-3.new.self.items
    c.in_ok-extend_from_slice.ensures.items c.in_ok-push.ensures.items c.in_ok-extend_from_slice-2.ensures.items c.in_ok-push-2.ensures.items
    c.in_ok-extend_from_slice-3.ensures.items c.in_ok-push-3.ensures.items

pub returns-clause-prefix : goal.returns-clause-prefix
returns-clause-prefix c =
    let rows = c.args.rows.now.items in
    let rest = c.args.word.now ++ (44 ∷ (c.args.kind.now ++ (44 ∷ (c.args.text.now ++ (10 ∷ []))))) in
    more-appended rows rows rest c.push-3.new.self.items (take-length rows) (returns-clause-line c)
