use Rattle.std.proofs.Common.{◌≡◌, ◌∙◌, ap, sym, subst, is_some, List, [], ℕ, Ok, Err}
use Rattle.sbl_script.specs.ParsedScript.{source_of}
use Rattle.sbl_bench.specs.declared.fault.EditFault.TheVariants.{Absent}
use Rattle.sbl_bench.specs.Edits.{Edits, Remove}
use Rattle.sbl_bench.specs.KeptRuns.{KeptRuns, contents_of}
use Rattle.sbl_last_runs.specs.KeptEntries.{KeptWord, words_in}
use Rattle.sbl_bench.specs.inside.KeptEntries.{IsKept}
use Rattle.sbl_rows.specs.ChangedRows.{changed_rows}
use Rattle.sbl_bench.specs.LeavesChanges.{rows_now}
use Rattle.sbl_rows.specs.Rows.{rows_of}
use Rattle.sbl_last_runs.specs.Last.{last_changes}
use Rattle.sbl_bench.proofs.LastChanges.{no_rows_change}
use Rattle.sbl_bench.specs.Contents.{Contents}
use Rattle.sbl_rows.specs.Setting.{under}
use Rattle.sbl_bench.proofs.Refusals.{no_word, removes}
use Rattle.sbl_last_runs.specs.Pairs.{IsIndexed}
use Rattle.sbl_bench.proofs.MapEntries.{found_word, kept-remove, key_taken, words-remove}
use Rattle.sbl_bench.proofs.bench.Bench.remove.Goals as goal

pub returns-in_default-clause-edits : goal.returns-in_default-clause-edits
returns-in_default-clause-edits c =
    let es = c.self.inside.traces.entries in
    let word = c.args.word.now in
    let s : Contents = record { setting = under (source_of c.self.inside.script) c.self.inside.limit; words = words_in es; count = c.self.inside.meter } in
    let same : words_in c.shift_remove_entry.new.self.entries ≡ words_in es = ap words_in c.in_default.ensures.unchanged in
    let absent = sym (found_word word es) ∙ ap is_some (sym c.in_default.ensures.value) in
    subst (λ (k : KeptRuns). Edits (Err Absent) (contents_of k) (Remove word) (record { setting = under (source_of c.self.inside.script) c.self.inside.limit; words = words_in c.shift_remove_entry.new.self.entries; count = c.self.inside.meter })) c.self.view_is
    (subst (λ (ws : List (List ℕ)). Edits (Err Absent) s (Remove word) (record s { words = ws })) (sym same) (no_word s word absent))

pub invariant_of-self-2 : goal.invariant_of-self-2
invariant_of-self-2 c =
    let word = c.args.word.now in
    let es = c.self.inside.traces.entries in (
      c.self.invariant.0,
      subst (IsKept (under (source_of c.self.inside.script) c.self.inside.limit)) (sym c.in-Some.ensures.entries) (kept-remove (under (source_of c.self.inside.script) c.self.inside.limit) word es c.self.invariant.1),
      (let taken = key_taken word es c.shift_remove_entry.new.self.entries c.in-Some.key c.in-Some.last c.words_are_unique.ensures c.in-Some.ensures.entries c.in-Some.ensures.key c.in-Some.ensures.value in
          c.follow_old.ensures es c.shift_remove_entry.new.self.entries taken.0 taken.1 (subst (IsIndexed es) (sym c.take.ensures.value) c.self.invariant.2)),
    )

pub returns-clause-edits : goal.returns-clause-edits
returns-clause-edits c =
    let es = c.self.inside.traces.entries in
    let word = c.args.word.now in
    subst (λ (k : KeptRuns). Edits (Ok tt) (contents_of k) (Remove word) (record { setting = under (source_of c.self.inside.script) c.self.inside.limit; words = words_in c.shift_remove_entry.new.self.entries; count = c.self.inside.meter })) c.self.view_is
    (removes (record { setting = under (source_of c.self.inside.script) c.self.inside.limit; words = words_in es; count = c.self.inside.meter }) word (words_in c.shift_remove_entry.new.self.entries)
    (sym (found_word word es) ∙ ap is_some (sym c.in-Some.ensures.value))
    (ap words_in c.in-Some.ensures.entries ∙ words-remove word es))

pub returns-in_default-clause-changes : goal.returns-in_default-clause-changes
returns-in_default-clause-changes c =
    ap (λ (es : List KeptWord). last_changes es c.self.inside.last.items) c.in_default.ensures.unchanged ∙ ap (λ (k : KeptRuns). k.changes) c.self.view_is

pub returns-clause-changes : goal.returns-clause-changes
returns-clause-changes c =
    let script = under (source_of c.self.inside.script) c.self.inside.limit in
    let words = words_in c.shift_remove_entry.new.self.entries in
    ap (last_changes c.shift_remove_entry.new.self.entries) c.new.ensures.items
    ∙ subst (λ (k : KeptRuns). [] ≡ changed_rows (rows_now k) (rows_of script words)) c.self.view_is (sym (no_rows_change script (words_in c.self.inside.traces.entries) words))
