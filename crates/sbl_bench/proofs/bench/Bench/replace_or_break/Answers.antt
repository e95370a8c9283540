use Rattle.std.proofs.Common.{Err, subst}
use Rattle.std.proofs.lemmas.Result.{err_from_is_err_and}
use Rattle.sbl_ast.specs.NamedParts.{Part'}
use Rattle.sbl_script.specs.ParsedScript.{source_of}
use Rattle.sbl_script.specs.Parts.{view_part}
use Rattle.sbl_bench.specs.BreakingOff.{EditsOrBreaks}
use Rattle.sbl_bench.specs.Contents.{Contents}
use Rattle.sbl_rows.specs.Setting.{under}
use Rattle.sbl_bench.specs.Edits.{Edits, Replace, fault_of_script}
use Rattle.sbl_bench.specs.KeptRuns.{KeptRuns, contents_of}
use Rattle.sbl_last_runs.specs.KeptEntries.{words_in}
use Rattle.sbl_bench.specs.declared.fault.EditFault.TheVariants.{OutOfMemory}
use Rattle.sbl_semantics.specs.TouchedItems.{item_of}
use Rattle.sbl_bench.specs.inside.Changes.{IsTaken}
use Rattle.sbl_bench.proofs.Breaking.{ends, script_fault_ends, untold}
use Rattle.sbl_bench.proofs.Replacing.{nothing_made, passes, refusal_edits}
use Rattle.sbl_bench.proofs.bench.Bench.replace_or_break.Goals as goal

pub returns-in_err-script-clause-edits : goal.returns-in_err-script-clause-edits
returns-in_err-script-clause-edits g c =
    let s : Contents = record { setting = under (source_of c.self.inside.script) c.self.inside.limit; words = words_in c.self.inside.traces.entries; count = c.self.inside.meter } in
    let e : Part' = view_part c.args.part in
    let g = c.in_err-script.field-0.0 in
    let p = err_from_is_err_and c.from_residual.result c.from_residual.ensures.1 in
    rw (p.1, p.2) (subst (λ (k : KeptRuns). EditsOrBreaks (Err (fault_of_script g)) (contents_of k) (Replace e c.args.text.now) (contents_of k)) c.self.view_is
    (ends s s (Replace e c.args.text.now) (fault_of_script g) (script_fault_ends g) (refusal_edits s e c.args.text.now c.with.result c.with.ensures.missing g c.in_err-script.was c.in_err-script.ensures.fault)))

pub returns-in_err-script-clause-told : goal.returns-in_err-script-clause-told
returns-in_err-script-clause-told g c =
    let g = c.in_err-script.field-0.0 in
    let p = err_from_is_err_and c.from_residual.result c.from_residual.ensures.1 in
    rw (p.1, p.2) (untold _ (fault_of_script g) (script_fault_ends g))

pub returns-in_err-item-clause-edits : goal.returns-in_err-item-clause-edits
returns-in_err-item-clause-edits g c =
    let s : Contents = record { setting = under (source_of c.self.inside.script) c.self.inside.limit; words = words_in c.self.inside.traces.entries; count = c.self.inside.meter } in
    let e : Part' = view_part c.args.part in
    let p = err_from_is_err_and c.from_residual-in_err-item.result c.from_residual-in_err-item.ensures.1 in
    rw (p.1, p.2) (subst (λ (k : KeptRuns). Edits (Err OutOfMemory) (contents_of k) (Replace e c.args.text.now) (contents_of k)) c.self.view_is
    (nothing_made s e c.args.text.now c.with.result c.with.ensures.missing c.in_ok-script.script c.in_ok-script.was))

pub take_edited-requires : goal.take_edited-requires
take_edited-requires g c =
    let q = source_of c.in_ok-script.script in
    let s : Contents = record { setting = under (source_of c.self.inside.script) c.self.inside.limit; words = words_in c.self.inside.traces.entries; count = c.self.inside.meter } in
    let e : Part' = view_part c.args.part in (
      e,
      c.args.text.now,
      subst (λ (k : KeptRuns). IsTaken (contents_of k) e c.args.text.now q (item_of c.in_ok-item.item)) c.self.view_is (record {
        edited = c.in_ok-script.ensures.script;
        replaces = c.in_ok-item.ensures;
        passes = passes s e c.args.text.now c.with.result c.with.ensures.missing c.in_ok-script.script c.in_ok-script.was;
      }),
    )

pub returns-clause-edits : goal.returns-clause-edits
returns-clause-edits g c =
    let q = source_of c.in_ok-script.script in
    let s : Contents = record { setting = under (source_of c.self.inside.script) c.self.inside.limit; words = words_in c.self.inside.traces.entries; count = c.self.inside.meter } in
    let e : Part' = view_part c.args.part in
    c.take_edited.ensures.edits e c.args.text.now (subst (λ (k : KeptRuns). IsTaken (contents_of k) e c.args.text.now q (item_of c.in_ok-item.item)) c.self.view_is (record {
      edited = c.in_ok-script.ensures.script;
      replaces = c.in_ok-item.ensures;
      passes = passes s e c.args.text.now c.with.result c.with.ensures.missing c.in_ok-script.script c.in_ok-script.was;
    }))
