use Rattle.std.proofs.Common.{◌≡◌, ◌∙◌, List, ap, map}
use Rattle.sbl_rows.proofs.Ranging.{if_ok_weaker}
use Rattle.sbl_bench.specs.KeptRuns.{setting_of}
use Rattle.sbl_io.specs.Records.{records_text}
use Rattle.sbl_explain.specs.TakeNumbers.{KeepsNumbers}
use Rattle.sbl_uses.specs.UsableViews.{view_usables}
use Rattle.sbl_explain.specs.UsableViews.{number_rows, row_for}
use Rattle.sbl_explain.specs.declared.counts.Count.{Count}
use Rattle.sbl_explain.proofs.KeptFacts.{number_is}
use Rattle.sbl_explain.proofs.counts.text_of_counts.Goals as goal

pub returns : goal.returns
returns c = λ defined keeps.
    let bench = c.args.bench.now in
    let numbers : KeepsNumbers bench c.in_ok-taken.taken = λ t. c.in_ok-taken.ensures t ∙ number_is (setting_of bench) bench.words c.args.words.now keeps.1 t in
    let rows : number_rows c.in_ok-counts.counts.items ≡ map (row_for bench) (view_usables c.args.usables.now) = c.in_ok-counts.ensures defined numbers in
    if_ok_weaker c.records_text.result (λ text is. is ∙ ap (λ (l : List Count). records_text (number_rows l)) c.deref.ensures.value ∙ ap records_text rows) c.records_text.ensures
