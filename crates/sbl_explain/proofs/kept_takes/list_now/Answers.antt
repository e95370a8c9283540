use Rattle.std.proofs.Common.{◌≡◌, IfSome, Option, false, subst}
use Rattle.std.specs.Global.{Vec}
use Rattle.std.specs.declared.alloc.Global.{Global}
use Rattle.std.specs.declared.rc.Rc.{Rc}
use Rattle.sbl_bench.specs.KeptRuns.{setting_of}
use Rattle.sbl_explain.specs.Kept.{IsListOf, is_one_of}
use Rattle.sbl_explain.specs.declared.kept_words.Taken.{Taken}
use Rattle.sbl_explain.proofs.KeptFacts.{list_stays}
use Rattle.sbl_explain.proofs.kept_takes.list_now.Goals as goal

pub returns-in-Some : goal.returns-in-Some
returns-in-Some c = λ u are stays there.
    let w = c.args.word.now in
    let again = is_one_of c.args.again.now in
    let kept : (again w ≡ false) × IsListOf u w c.in-Some.list =
    subst (λ (o : Option (Rc (Vec Taken) Global)). IfSome o (λ list. (again w ≡ false) × IsListOf u w list)) c.in-Some.is (c.in_ok-list.ensures u are) in
    list_stays (setting_of c.args.bench.now) u c.args.bench.now.words again w c.in-Some.list stays there kept.0 kept.1
