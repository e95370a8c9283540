use Rattle.std.proofs.Common.{◌≡◌, ◌∙◌, List, ap, subst, sym}
use Rattle.sbl_bench.specs.KeptRuns.{setting_of}
use Rattle.sbl_script.specs.ParsedScript.{ParsedScript, source_of}
use Rattle.sbl_uses.specs.Counts.{usables_of}
use Rattle.sbl_explain.specs.Kept.{KeepsWords}
use Rattle.sbl_uses.specs.UsableViews.{view_usables}
use Rattle.sbl_explain.specs.UsableViews.{AreDefined, rows_text}
use Rattle.sbl_uses.specs.Used.{Usable}
use Rattle.sbl_explain.specs.declared.kept_words.KeptWord.{KeptWord}
use Rattle.sbl_uses.specs.declared.usables.Usable as declared
use Rattle.sbl_uses.proofs.Defined.{usables_defined}
use Rattle.sbl_explain.proofs.kept_takes.KeptTakes.counts_text.Goals as goal

pub returns : goal.returns
returns c =
    let bench = c.args.bench.now in
    let s = setting_of bench in
    let us = c.deref.result.now in
    let parts : view_usables us ≡ usables_of s.script =
    ap (λ (l : List declared.Usable). view_usables l) c.deref.ensures.value ∙ c.in_ok-usables.ensures ∙ ap (λ (p : ParsedScript). usables_of (source_of p)) c.script.ensures in
    let defined : AreDefined bench (view_usables us) = subst (λ (l : List Usable). AreDefined bench l) (sym parts) (usables_defined s.script) in
    let keeps : KeepsWords bench c.deref-2.result.now = subst (λ (l : List KeptWord). KeepsWords bench l) (sym c.deref-2.ensures.value) c.in_ok-words.ensures in
    c.in_ok-text.ensures defined keeps ∙ ap (rows_text bench) parts
