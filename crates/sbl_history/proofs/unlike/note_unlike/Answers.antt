use Rattle.std.proofs.Common.{◌≡◌, ◌∙◌, ◌-◌, Some, arith, ap, drop, false, inl, length, take, true}
use Rattle.std.specs.Prelude.{slice_get}
use Rattle.sbl_rows.specs.Rows.{view_row, view_rows}
use Rattle.sbl_rows.specs.declared.row.Row.{Row}
use Rattle.sbl_rows.proofs.ChangeLaws.{each}
use Rattle.sbl_history.specs.inside.Noted.{IsNoted}
use Rattle.sbl_history.specs.inside.TextSets.{has}
use Rattle.sbl_history.proofs.RowSteps.{all_more, all_noted, all_rest, noted_grows, noted_pair, row_at}
use Rattle.sbl_history.proofs.unlike.note_unlike.Goals as goal

pub loop-i-preserved-then-eq : goal.loop-i-preserved-then-eq
loop-i-preserved-then-eq c =
    let before = c.args.before.now in
    let after = c.args.after.now in
    let x = c.index-before-i-then-eq.result in
    let y = c.index-after-j-then-eq.result in
    let old = has c.loop-i.words in
    let new = has c.note_if_unlike.new.words in
    let grows = c.note_if_unlike.ensures.grows in
    let x_at : slice_get (view_rows before) c.loop-i.i ≡ Some (view_row x) = row_at before c.loop-i.i x c.loop-i-test.true c.index-before-i-then-eq.is in
    let y_at : slice_get (view_rows after) c.loop-i.j ≡ Some (view_row y) = row_at after c.loop-i.j y c.if-j-after.true c.index-after-j-then-eq.is in
    let noted : new x.word.now ≡ false → view_row x ≡ view_row y = c.note_if_unlike.ensures.noted in
    let other : new y.word.now ≡ false → view_row y ≡ view_row x = c.note_if_unlike.ensures.other in (
      omega (arith, c.loop-i-test.true),
      omega (arith, c.if-j-after.true),
      all_more (IsNoted old (view_rows after)) (IsNoted new (view_rows after)) view_row before c.loop-i.i x c.loop-i-test.true c.index-before-i-then-eq.is
          (noted_grows old new (view_rows after) grows) c.loop-i.invariant.2 (noted_pair new (view_rows after) c.loop-i.j (view_row x) (view_row y) y_at noted),
      all_more (IsNoted old (view_rows before)) (IsNoted new (view_rows before)) view_row after c.loop-i.j y c.if-j-after.true c.index-after-j-then-eq.is
          (noted_grows old new (view_rows before) grows) c.loop-i.invariant.3
          (noted_pair new (view_rows before) c.loop-i.i (view_row y) (view_row x) x_at other),
    )

pub loop-i-preserved-then-comes_later : goal.loop-i-preserved-then-comes_later
loop-i-preserved-then-comes_later c =
    let before = c.args.before.now in
    let after = c.args.after.now in
    let x = c.index-before-i-then-comes_later.result in
    let old = has c.loop-i.words in
    let new = has c.insert.new.self in (
      omega (arith, c.loop-i-test.true),
      c.loop-i.invariant.1,
      all_more (IsNoted old (view_rows after)) (IsNoted new (view_rows after)) view_row before c.loop-i.i x c.loop-i-test.true c.index-before-i-then-comes_later.is
          (noted_grows old new (view_rows after) c.insert.ensures.others) c.loop-i.invariant.2 (inl (ap (λ (r : Row). new r.word.now) c.index-before-i-then-comes_later.is ∙ c.insert.ensures.own)),
      each (IsNoted old (view_rows before)) (IsNoted new (view_rows before)) (noted_grows old new (view_rows before) c.insert.ensures.others) (view_rows (take c.loop-i.j after)) c.loop-i.invariant.3,
    )

pub loop-i-preserved : goal.loop-i-preserved
loop-i-preserved c =
    let before = c.args.before.now in
    let after = c.args.after.now in
    let y = c.index-after-j-else-comes_later.result in
    let old = has c.loop-i.words in
    let new = has c.insert-else-comes_later.new.self in
    let grows = c.insert-else-comes_later.ensures.others in (
      c.loop-i.invariant.0,
      omega (arith, c.if-j-after.true),
      each (IsNoted old (view_rows after)) (IsNoted new (view_rows after)) (noted_grows old new (view_rows after) grows) (view_rows (take c.loop-i.i before)) c.loop-i.invariant.2,
      all_more (IsNoted old (view_rows before)) (IsNoted new (view_rows before)) view_row after c.loop-i.j y c.if-j-after.true c.index-after-j-else-comes_later.is
          (noted_grows old new (view_rows before) grows) c.loop-i.invariant.3 (inl (ap (λ (r : Row). new r.word.now) c.index-after-j-else-comes_later.is ∙ c.insert-else-comes_later.ensures.own)),
    )

pub returns-clause-before : goal.returns-clause-before
returns-clause-before c =
    let before = c.args.before.now in
    let after = view_rows c.args.after.now in
    let new = has c.note_all-2.new.words in
    let rest = take (length before - c.loop-i.i) (drop c.loop-i.i before) in
    all_noted (has c.loop-i.words) new after before rest c.loop-i.i (λ t h. c.note_all-2.ensures.grows t (c.note_all.ensures.grows t h)) (all_rest c.loop-i.i before)
    c.loop-i.invariant.2
    (each (λ r. has c.note_all.new.words r.word ≡ true) (λ r. new r.word ≡ true) (λ r h. c.note_all-2.ensures.grows r.word h) (view_rows rest) c.note_all.ensures.noted)

pub returns-clause-after : goal.returns-clause-after
returns-clause-after c =
    let before = view_rows c.args.before.now in
    let after = c.args.after.now in
    let rest = take (length after - c.loop-i.j) (drop c.loop-i.j after) in
    all_noted (has c.loop-i.words) (has c.note_all-2.new.words) before after rest c.loop-i.j (λ t h. c.note_all-2.ensures.grows t (c.note_all.ensures.grows t h)) (all_rest c.loop-i.j after)
    c.loop-i.invariant.3 c.note_all-2.ensures.noted
