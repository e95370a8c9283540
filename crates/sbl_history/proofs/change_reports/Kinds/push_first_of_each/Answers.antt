use Rattle.std.proofs.Common.{◌≡◌, ℕ, List, OnOk, subst}
use Rattle.sbl_rows.specs.Changes.{view_changes}
use Rattle.sbl_history.specs.ChangeReports.{first_of_kind}
use Rattle.sbl_history.proofs.ChangeReportFacts.{three_texts}
use Rattle.sbl_history.proofs.change_reports.Kinds.push_first_of_each.Goals as goal

pub returns : goal.returns
returns c =
    let first = first_of_kind c.args.number (view_changes c.args.found.now) in
    subst (λ (text : List ℕ). OnOk c.push_first-3.result (c.push_first-3.new.out.items ≡ text))
    (three_texts c.args.out.now.items c.push_first.new.out.items c.push_first-2.new.out.items (first c.args.self.first) (first c.args.self.second) (first c.args.self.third)
    c.in_ok-push_first.ensures c.in_ok-push_first-2.ensures) c.push_first-3.ensures
