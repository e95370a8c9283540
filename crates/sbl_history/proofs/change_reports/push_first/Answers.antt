use Rattle.std.proofs.Common.{◌≡◌, ◌∙◌, ◌+◌, ◌++◌, ℕ, List, ◌∷◌, arith, ap, drop, inl, inr, subst, sym}
use Rattle.sbl_rows.specs.Changes.{Change, view_change, view_changes}
use Rattle.sbl_rows.proofs.Loops.{next}
use Rattle.sbl_history.proofs.ChangeReportFacts.{first_more, first_rows, first_same}
use Rattle.sbl_history.proofs.change_reports.push_first.Goals as goal
use Rattle.sbl_history.proofs.change_reports.push_first.Goals.{then-left-gt0+then-is_of+in_ok-push_change, else-left-gt0}
use Rattle.sbl_history.proofs.change_reports.push_first.Goals.{else-left-gt0-via-then-left-gt0+else-is_of, else-left-gt0-via-else-left-gt0}

pub loop-change-preserved : goal.loop-change-preserved
loop-change-preserved c =
    let found = c.args.found.now in
    let i = c.loop-change.change-index in
    let k = c.args.kind in
    let x : Change = view_change c.change-item.result in
    let xs : List Change = view_changes (drop i found) in
    let rest : List Change = view_changes (drop (i + 1) found) in
    let whole : List ℕ = c.args.out.now.items ++ first_rows k c.args.number (view_changes found) in
    let list : xs ≡ x ∷ rest = next view_change found i c.change-item.result c.change-item.result c.loop-change-test.true c.change-item.is in
    elim c.if-left-gt0.branch [
      | then-left-gt0+then-is_of+in_ok-push_change w ↦
          first_more k c.loop-change.left c.if-left-gt0.left xs rest x c.loop-change.out.items c.if-left-gt0.out.items whole list w.if-left-gt0.true w.left-is
          (sym w.is_of.ensures ∙ w.if-is_of.true) (ap (λ v. v.items) w.out-is ∙ w.in_ok-push_change.ensures) c.loop-change.invariant
      | else-left-gt0 w ↦
          subst (λ (n : ℕ). c.if-left-gt0.out.items ++ first_rows k n rest ≡ whole) (sym w.left-is)
          (subst (λ (o : List ℕ). o ++ first_rows k c.loop-change.left rest ≡ whole) (ap (λ v. v.items) (sym w.out-is))
          (first_same k c.loop-change.left xs rest x c.loop-change.out.items whole list
          (elim w.else-left-gt0.branch [
            | else-left-gt0-via-then-left-gt0+else-is_of v ↦ inr (sym v.is_of.ensures ∙ v.if-is_of.false)
            | else-left-gt0-via-else-left-gt0 v ↦ inl (omega (arith, v.if-left-gt0.false))
          ]) c.loop-change.invariant))
    ]
