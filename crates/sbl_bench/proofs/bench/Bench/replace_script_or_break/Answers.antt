use Rattle.std.proofs.Common.{◌≡◌, ◌⊎◌, Err, subst, ℕ, List}
use Rattle.std.proofs.lemmas.Result.{err_from_is_err_and}
use Rattle.sbl_script.specs.ParsedScript.{source_of}
use Rattle.sbl_script.specs.Reading.{IsFaultOf, IsScriptOf}
use Rattle.sbl_text.specs.declared.fault.ScriptFault.TheVariants as texts
use Rattle.sbl_bench.specs.inside.Changes.{IsExchange}
use Rattle.sbl_bench.specs.BreakingOff.{EditsOrBreaks}
use Rattle.sbl_bench.specs.Contents.{Contents}
use Rattle.sbl_bench.specs.Edits.{Edits, Whole}
use Rattle.sbl_bench.specs.KeptRuns.{KeptRuns, contents_of}
use Rattle.sbl_last_runs.specs.KeptEntries.{words_in}
use Rattle.sbl_rows.specs.Setting.{under}
use Rattle.sbl_bench.proofs.Breaking.{ends, text_fault_ends, untold}
use Rattle.sbl_bench.proofs.Bringing.{whole_exchange}
use Rattle.sbl_bench.proofs.Replacing.{unread}
use Rattle.sbl_bench.proofs.bench.Bench.replace_script_or_break.Goals as goal

pub returns-in_err-script-clause-edits : goal.returns-in_err-script-clause-edits
returns-in_err-script-clause-edits g c =
    let s : Contents = record { setting = under (source_of c.self.inside.script) c.self.inside.limit; words = words_in c.self.inside.traces.entries; count = c.self.inside.meter } in
    let g = c.in_err-script.field-0.0 in
    let is = subst (λ (x : List ℕ). (g ≡ texts.OutOfMemory) ⊎ IsFaultOf c.args.text.now x g) c.external.ensures c.in_err-script.ensures.fault in
    let p = err_from_is_err_and c.from_residual.result c.from_residual.ensures.1 in
    rw p.1 (subst (λ (k : KeptRuns). EditsOrBreaks (Err p.0) (contents_of k) (Whole c.args.text.now) (contents_of k)) c.self.view_is
    (ends s s (Whole c.args.text.now) p.0 (text_fault_ends g p.0 p.2) (unread s c.args.text.now g p.0 p.2 is)))

pub returns-in_err-script-clause-told : goal.returns-in_err-script-clause-told
returns-in_err-script-clause-told g c =
    let g = c.in_err-script.field-0.0 in
    let p = err_from_is_err_and c.from_residual.result c.from_residual.ensures.1 in
    rw p.1 (untold _ p.0 (text_fault_ends g p.0 p.2))

pub exchange-requires : goal.exchange-requires
exchange-requires g c =
    let s : Contents = record { setting = under (source_of c.self.inside.script) c.self.inside.limit; words = words_in c.self.inside.traces.entries; count = c.self.inside.meter } in
    let q = source_of c.in_ok-script.script in
    let read = subst (λ (x : List ℕ). IsScriptOf c.args.text.now x q) c.external.ensures c.in_ok-script.ensures.script in
    (Whole c.args.text.now, subst (λ (k : KeptRuns). IsExchange (contents_of k) (Whole c.args.text.now) q) c.self.view_is (whole_exchange s c.args.text.now q read))

pub returns-clause-edits : goal.returns-clause-edits
returns-clause-edits g c =
    let s : Contents = record { setting = under (source_of c.self.inside.script) c.self.inside.limit; words = words_in c.self.inside.traces.entries; count = c.self.inside.meter } in
    let q = source_of c.in_ok-script.script in
    let read = subst (λ (x : List ℕ). IsScriptOf c.args.text.now x q) c.external.ensures c.in_ok-script.ensures.script in
    c.exchange.ensures.edits (Whole c.args.text.now) (subst (λ (k : KeptRuns). IsExchange (contents_of k) (Whole c.args.text.now) q) c.self.view_is (whole_exchange s c.args.text.now q read))
