use Rattle.std.proofs.Common.{IfSome, List, Option, ℕ, subst, sym}
use Rattle.std.specs.Borrow.{Bor}
use Rattle.std.specs.BTreeSet.{BTreeSet}
use Rattle.sbl_rows.specs.Setting.{under}
use Rattle.sbl_script.specs.ParsedScript.{source_of}
use Rattle.sbl_explain.specs.Kept.{AreKept, StayKept}
use Rattle.sbl_explain.specs.declared.kept_words.KeptWord.{KeptWord}
use Rattle.sbl_explain.proofs.kept_takes.words_after.Goals as goal

pub returns-in-Some : goal.returns-in-Some
returns-in-Some c =
    let u = under (source_of c.args.run.now.script) c.args.run.now.limit in
    c.words_with_takes.ensures u (subst (λ (l : List KeptWord). AreKept u l) (sym c.deref.ensures.value) c.args.run.now.kept)
    (subst (λ (o : Option (BTreeSet (Bor (List ℕ)))). IfSome o (StayKept c.args.bench.now u)) c.in-Some.is c.in_ok-again.ensures)
