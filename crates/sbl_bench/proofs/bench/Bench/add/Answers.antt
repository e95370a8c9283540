use Rattle.std.proofs.Common.{rules, ap, subst, sym, ◌∙◌, ◌≡◌, ◌++◌, List, [], ◌∷◌, ℕ, Ok, Err}
use Rattle.std.proofs.lemmas.Result.{err_from_is_err_and}
use Rattle.sbl_script.specs.ParsedScript.{source_of}
use Rattle.sbl_bench.specs.declared.fault.EditFault.TheVariants.{OutOfMemory, MeterFull}
use Rattle.sbl_bench.specs.KeptRuns.{KeptRuns, contents_of}
use Rattle.sbl_last_runs.specs.KeptEntries.{KeptWord, words_in}
use Rattle.sbl_rows.specs.ChangedRows.{changed_rows}
use Rattle.sbl_bench.specs.LeavesChanges.{rows_now}
use Rattle.sbl_rows.specs.Rows.{rows_of}
use Rattle.sbl_last_runs.specs.Last.{last_changes}
use Rattle.sbl_bench.proofs.LastChanges.{no_rows_change}
use Rattle.sbl_bench.specs.Edits.{Edits, Add}
use Rattle.sbl_bench.specs.Contents.{Contents}
use Rattle.sbl_rows.specs.Setting.{under}
use Rattle.sbl_bench.proofs.Refusals.{accepted_among, adds, counts_no_more, edits_nothing}
use Rattle.sbl_bench.proofs.bench.Bench.add.Goals as goal

pub returns-in_err-copy-clause-edits : goal.returns-in_err-copy-clause-edits
returns-in_err-copy-clause-edits c =
    let script = under (source_of c.self.inside.script) c.self.inside.limit in
    let es = c.self.inside.traces.entries in
    let free = accepted_among script es c.self.inside.meter c.args.word.now c.has_word.result c.len.result (search rules) (search rules) c.has_word.ensures c.if-has_word.false c.len.ensures.len (search rules) in
    let p = err_from_is_err_and c.from_residual.result c.from_residual.ensures.1 in
    rw (p.1, p.2) (subst (λ (k : KeptRuns). Edits (Err OutOfMemory) (contents_of k) (Add c.args.word.now) (contents_of k)) c.self.view_is (edits_nothing (record { setting = script; words = words_in es; count = c.self.inside.meter }) c.args.word.now free))

pub returns-then-is_full-clause-edits : goal.returns-then-is_full-clause-edits
returns-then-is_full-clause-edits c =
    let script = under (source_of c.self.inside.script) c.self.inside.limit in
    let es = c.self.inside.traces.entries in
    let s : Contents = record { setting = script; words = words_in es; count = c.self.inside.meter } in
    let free = accepted_among script es c.self.inside.meter c.args.word.now c.has_word.result c.len.result (search rules) (search rules) c.has_word.ensures c.if-has_word.false c.len.ensures.len (search rules) in
    subst (λ (k : KeptRuns). Edits (Err MeterFull) (contents_of k) (Add c.args.word.now) (contents_of k)) c.self.view_is
    (counts_no_more s c.args.word.now free (sym c.has_word.ensures ∙ c.if-has_word.false) (c.is_full.ensures.at_end.0 c.if-is_full.true))

pub returns-in_err-put_last-clause-edits : goal.returns-in_err-put_last-clause-edits
returns-in_err-put_last-clause-edits c =
    let es = c.self.inside.traces.entries in
    let script = under (source_of c.self.inside.script) c.self.inside.limit in
    let free = accepted_among script es c.self.inside.meter c.args.word.now c.has_word.result c.len.result (search rules) (search rules) c.has_word.ensures c.if-has_word.false c.len.ensures.len (search rules) in
    let new = sym c.has_word.ensures ∙ c.if-has_word.false in
    let g = c.in_err-put_last.field-0.0 in
    let f = err_from_is_err_and c.from_residual-in_err-put_last.result c.from_residual-in_err-put_last.ensures.1 in
    rw (f.1, f.2) (subst (λ (k : KeptRuns). Edits (Err g) (contents_of k) (Add c.args.word.now) (record { setting = script; words = words_in c.put_last.new.traces.entries; count = c.put_last.new.meter })) c.self.view_is
    (adds (Err g) (record { setting = script; words = words_in es; count = c.self.inside.meter }) c.args.word.now (words_in c.put_last.new.traces.entries) c.put_last.new.meter free new (c.is_full.ensures.room c.if-is_full.false) tt
    tt (ap words_in c.in_err-put_last.ensures.err) c.in_err-put_last.ensures.stop))

pub returns-in_err-put_last-clause-changes : goal.returns-in_err-put_last-clause-changes
returns-in_err-put_last-clause-changes c =
    let f = err_from_is_err_and c.from_residual-in_err-put_last.result c.from_residual-in_err-put_last.ensures.1 in
    rw f.1 (ap (λ (es : List KeptWord). last_changes es c.self.inside.last.items) c.in_err-put_last.ensures.err ∙ ap (λ (k : KeptRuns). k.changes) c.self.view_is)

pub returns-clause-edits : goal.returns-clause-edits
returns-clause-edits c =
    let es = c.self.inside.traces.entries in
    let script = under (source_of c.self.inside.script) c.self.inside.limit in
    let free = accepted_among script es c.self.inside.meter c.args.word.now c.has_word.result c.len.result (search rules) (search rules) c.has_word.ensures c.if-has_word.false c.len.ensures.len (search rules) in
    let last = subst (λ (w : List ℕ). words_in c.put_last.new.traces.entries ≡ words_in es ++ w ∷ []) c.in_ok-copy.ensures.items c.in_ok-put_last.ensures.words in
    let new = sym c.has_word.ensures ∙ c.if-has_word.false in
    subst (λ (k : KeptRuns). Edits (Ok tt) (contents_of k) (Add c.args.word.now) (record { setting = script; words = words_in c.put_last.new.traces.entries; count = c.put_last.new.meter })) c.self.view_is
    (adds (Ok tt) (record { setting = script; words = words_in es; count = c.self.inside.meter }) c.args.word.now (words_in c.put_last.new.traces.entries) c.put_last.new.meter free new (c.is_full.ensures.room c.if-is_full.false) last
    c.in_ok-put_last.ensures.counted tt tt)

pub returns-clause-changes : goal.returns-clause-changes
returns-clause-changes c =
    let script = under (source_of c.self.inside.script) c.self.inside.limit in
    let words = words_in c.put_last.new.traces.entries in
    ap (last_changes c.put_last.new.traces.entries) c.new.ensures.items
    ∙ subst (λ (k : KeptRuns). [] ≡ changed_rows (rows_now k) (rows_of script words)) c.self.view_is (sym (no_rows_change script (words_in c.self.inside.traces.entries) words))
