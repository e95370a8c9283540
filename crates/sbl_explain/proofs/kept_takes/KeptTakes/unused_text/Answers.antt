use Rattle.std.proofs.Common.{List, subst, sym}
use Rattle.sbl_explain.specs.Kept.{KeepsWords}
use Rattle.sbl_explain.specs.declared.kept_words.KeptWord.{KeptWord}
use Rattle.sbl_explain.proofs.kept_takes.KeptTakes.unused_text.Goals as goal

pub returns : goal.returns
returns c =
    c.in_ok-text.ensures (subst (λ (l : List KeptWord). KeepsWords c.args.bench.now l) (sym c.deref.ensures.value) c.in_ok-words.ensures)
