use Rattle.std.proofs.Common.{◌≡◌, List, All, Ok, Err, length, ap, sym, refl, subst, arith}
use Rattle.std.proofs.lemmas.List.{length-map}
use Rattle.std.proofs.lemmas.Result.{err_from_is_err_and}
use Rattle.sbl_script.specs.ParsedScript.{ParsedScript, source_of}
use Rattle.sbl_machine.specs.MachineOf.{IsLinkedMachineOf}
use Rattle.sbl_bench.specs.inside.Changes.{Brings, affected_of}
use Rattle.sbl_bench.specs.BreakingOff.{EditsOrBreaks}
use Rattle.sbl_bench.specs.Edits.{BeforeEdit, Edits}
use Rattle.sbl_bench.specs.KeptRuns.{IsWord, KeptRuns, contents_of}
use Rattle.sbl_last_runs.specs.KeptEntries.{KeptWord, words_in}
use Rattle.sbl_bench.specs.inside.KeptEntries.{IsKept}
use Rattle.sbl_rows.specs.ChangedRows.{changed_rows}
use Rattle.sbl_bench.specs.Contents.{Contents}
use Rattle.sbl_last_runs.specs.Last.{Follows, last_changes}
use Rattle.sbl_last_runs.specs.Pairs.{IsIndexed}
use Rattle.sbl_last_runs.specs.declared.change.RunChange.{RunChange}
use Rattle.sbl_bench.specs.LeavesChanges.{rows_now}
use Rattle.sbl_rows.specs.Rows.{rows_of}
use Rattle.sbl_rows.specs.Setting.{under}
use Rattle.sbl_bench.proofs.LastChanges.{apart, edit_changes}
use Rattle.sbl_bench.proofs.Meeting.{anew, still}
use Rattle.sbl_bench.proofs.Reruns.{commit_edits, stop_edits}
use Rattle.sbl_bench.proofs.bench.Bench.take_script.Goals as goal

words_length : (es : List KeptWord) → length (words_in es) ≡ length es
words_length es = length-map es _

pub returns-in_err-after-clause-edits : goal.returns-in_err-after-clause-edits
returns-in_err-after-clause-edits g c e brings =
    let f = err_from_is_err_and c.from_residual.result c.from_residual.ensures.1 in
    rw (f.1, f.2) (BeforeEdit brings.wants brings.passes refl)

pub returns-in_err-changes-clause-edits : goal.returns-in_err-changes-clause-edits
returns-in_err-changes-clause-edits g c e brings =
    let p = source_of c.self.inside.script in
    let q = source_of c.args.script.now in
    let l = c.self.inside.limit in
    let es = c.self.inside.traces.entries in
    let a = affected_of c.args.affected.now in
    let t = under q l in
    let s : Contents = record { setting = under p l; words = words_in es; count = c.self.inside.meter } in
    let b : Brings s e t a = subst (λ (k : KeptRuns). Brings (contents_of k) e (under q k.limit) a) (sym c.self.view_is) brings in
    let g = c.in_err-changes.field-0.0 in
    let f = err_from_is_err_and c.from_residual-in_err-changes.result c.from_residual-in_err-changes.ensures.1 in
    let after : Contents = record { setting = under p l; words = words_in es; count = c.rerun.new.meter } in
    rw (f.1, f.2) (subst (λ (k : KeptRuns). EditsOrBreaks (Err g) (contents_of k) e after) c.self.view_is
    (stop_edits s e t a es b refl c.self.invariant.1.fresh g c.rerun.new.meter c.in_err-changes.ensures.stop))

pub make_changes-last-requires-clause-changes : goal.make_changes-last-requires-clause-changes
make_changes-last-requires-clause-changes g c =
    let e = c.requires.0 in
    let p = source_of c.self.inside.script in
    let q = source_of c.args.script.now in
    let l = c.self.inside.limit in
    let es = c.self.inside.traces.entries in
    let a = affected_of c.args.affected.now in
    let t = under q l in
    let s : Contents = record { setting = under p l; words = words_in es; count = c.self.inside.meter } in
    let b : Brings s e t a = subst (λ (k : KeptRuns). Brings (contents_of k) e (under q k.limit) a) (sym c.self.view_is) c.requires.1 in
    (t, anew a t es c.in_ok-changes.changes.items (c.in_ok-changes.ensures.changes q c.in_ok-after.ensures) (still s.setting t a b.stays es c.self.invariant.1.fresh))

pub make_changes-last-requires-clause-apart : goal.make_changes-last-requires-clause-apart
make_changes-last-requires-clause-apart g c =
    let q = source_of c.args.script.now in
    apart (under q c.self.inside.limit) (affected_of c.args.affected.now) c.self.inside.traces.entries c.in_ok-changes.changes.items (c.in_ok-changes.ensures.changes q c.in_ok-after.ensures) c.rerun.ensures.unique

pub invariant_of-self-2 : goal.invariant_of-self-2
invariant_of-self-2 g c =
    let e = c.requires.0 in
    let p = source_of c.self.inside.script in
    let q = source_of c.args.script.now in
    let l = c.self.inside.limit in
    let es = c.self.inside.traces.entries in
    let a = affected_of c.args.affected.now in
    let t = under q l in
    let s : Contents = record { setting = under p l; words = words_in es; count = c.self.inside.meter } in
    let b : Brings s e t a = subst (λ (k : KeptRuns). Brings (contents_of k) e (under q k.limit) a) (sym c.self.view_is) c.requires.1 in
    let fs = c.make_changes-last.new.traces.entries in
    let words = c.make_changes-last.ensures.words in
    subst (λ (x : ParsedScript). IsLinkedMachineOf c.in_ok-after.after (source_of x) × IsKept (under (source_of x) l) fs × IsIndexed fs c.follow.result) (sym c.swap.ensures.x_after) (
      c.in_ok-after.ensures,
      record {
        fresh = c.make_changes-last.ensures.fresh t (anew a t es c.in_ok-changes.changes.items (c.in_ok-changes.ensures.changes q c.in_ok-after.ensures) (still s.setting t a b.stays es c.self.invariant.1.fresh));
        sound = subst (All IsWord) (sym words) c.self.invariant.1.sound;
        room = let x = words_length fs in let y = words_length es in let z = ap length words in let r = c.self.invariant.1.room in omega arith;
      },
      c.follow.ensures es (subst (λ (l : List RunChange). Follows es l fs) (sym c.as_slice.ensures.value) c.make_changes-last.ensures.follows) (subst (IsIndexed es) (sym c.take.ensures.value) c.self.invariant.2),
    )

pub returns-clause-edits : goal.returns-clause-edits
returns-clause-edits g c e brings =
    let p = source_of c.self.inside.script in
    let q = source_of c.args.script.now in
    let l = c.self.inside.limit in
    let es = c.self.inside.traces.entries in
    let a = affected_of c.args.affected.now in
    let t = under q l in
    let s : Contents = record { setting = under p l; words = words_in es; count = c.self.inside.meter } in
    let b : Brings s e t a = subst (λ (k : KeptRuns). Brings (contents_of k) e (under q k.limit) a) (sym c.self.view_is) brings in
    let fs = c.make_changes-last.new.traces.entries in
    let after : Contents = record { setting = t; words = words_in fs; count = c.rerun.new.meter } in
    subst (λ (x : ParsedScript). Edits (Ok tt) (contents_of c.args.self.now) e (record { setting = under (source_of x) l; words = words_in fs; count = c.rerun.new.meter })) (sym c.swap.ensures.x_after)
    (subst (λ (k : KeptRuns). Edits (Ok tt) (contents_of k) e after) c.self.view_is
    (commit_edits s e t a es b refl c.self.invariant.1.fresh c.make_changes-last.new.traces.entries c.rerun.new.meter c.make_changes-last.ensures.words c.in_ok-changes.ensures.room c.in_ok-changes.ensures.counted))

pub returns-clause-changes : goal.returns-clause-changes
returns-clause-changes g c =
    let e = c.requires.0 in
    let p = source_of c.self.inside.script in
    let q = source_of c.args.script.now in
    let l = c.self.inside.limit in
    let es = c.self.inside.traces.entries in
    let fs = c.make_changes-last.new.traces.entries in
    let ls = c.make_changes-last.result.items in
    let a = affected_of c.args.affected.now in
    let t = under q l in
    let s : Contents = record { setting = under p l; words = words_in es; count = c.self.inside.meter } in
    let b : Brings s e t a = subst (λ (k : KeptRuns). Brings (contents_of k) e (under q k.limit) a) (sym c.self.view_is) c.requires.1 in
    subst (λ (x : ParsedScript). last_changes fs ls ≡ changed_rows (rows_now c.args.self.now) (rows_of (under (source_of x) l) (words_in fs))) (sym c.swap.ensures.x_after)
    (subst (λ (k : KeptRuns). last_changes fs ls ≡ changed_rows (rows_now k) (rows_of t (words_in fs))) c.self.view_is
    (edit_changes s.setting t a es fs c.in_ok-changes.changes.items ls b.stays c.self.invariant.1.fresh (c.in_ok-changes.ensures.changes q c.in_ok-after.ensures) c.make_changes-last.ensures.last c.make_changes-last.ensures.words))
