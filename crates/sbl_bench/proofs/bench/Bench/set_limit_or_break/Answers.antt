use Rattle.std.proofs.Common.{◌≡◌, ℕ, true, List, All, Ok, Err, inl, length, ap, sym, refl, subst, arith}
use Rattle.std.proofs.lemmas.List.{length-map}
use Rattle.std.proofs.lemmas.Result.{err_from_is_err_and}
use Rattle.sbl_script.specs.ParsedScript.{source_of}
use Rattle.sbl_bench.specs.inside.Changes.{Brings, affected_of}
use Rattle.sbl_bench.specs.BreakingOff.{EditsOrBreaks}
use Rattle.sbl_bench.specs.Edits.{Edit, Edits, Limit, is_limit}
use Rattle.sbl_bench.specs.KeptRuns.{IsWord, KeptRuns, contents_of}
use Rattle.sbl_last_runs.specs.KeptEntries.{KeptWord, words_in}
use Rattle.sbl_rows.specs.ChangedRows.{changed_rows}
use Rattle.sbl_bench.specs.Contents.{Contents}
use Rattle.sbl_last_runs.specs.Last.{Follows, last_changes}
use Rattle.sbl_last_runs.specs.Pairs.{IsIndexed}
use Rattle.sbl_last_runs.specs.declared.change.RunChange.{RunChange}
use Rattle.sbl_bench.specs.LeavesChanges.{rows_now}
use Rattle.sbl_rows.specs.Rows.{rows_of}
use Rattle.sbl_rows.specs.Setting.{under}
use Rattle.sbl_bench.proofs.Bringing.{limit_brings}
use Rattle.sbl_bench.proofs.LastChanges.{apart, edit_changes}
use Rattle.sbl_bench.proofs.Meeting.{anew, still}
use Rattle.sbl_bench.proofs.Reruns.{commit_edits, stop_edits}
use Rattle.sbl_bench.proofs.bench.Bench.set_limit_or_break.Goals as goal

words_length : (es : List KeptWord) → length (words_in es) ≡ length es
words_length es = length-map es _

pub returns-in_default-clause-edits : goal.returns-in_default-clause-edits
returns-in_default-clause-edits g c = (inl (c.in_default.ensures, refl), refl)

pub returns-in_err-changes-clause-edits : goal.returns-in_err-changes-clause-edits
returns-in_err-changes-clause-edits g c =
    let p = source_of c.self.inside.script in
    let l = c.self.inside.limit in
    let n = c.in-Some.limit in
    let es = c.self.inside.traces.entries in
    let a = affected_of c.above_smaller-affected.result in
    let e : Edit = Limit n in
    let t = under p n in
    let s : Contents = record { setting = under p l; words = words_in es; count = c.self.inside.meter } in
    let ok : is_limit n ≡ true = subst (λ (m : ℕ). is_limit m ≡ true) (sym c.in-Some.ensures.0) c.in-Some.ensures.1 in
    let b : Brings s e t a = subst (Brings s e t) (sym c.above_smaller-affected.ensures) (limit_brings c.used_steps_suffice.ensures.suffice c.used_steps_suffice.ensures.touch s n ok) in
    let g = c.in_err-changes.field-0.0 in
    let f = err_from_is_err_and c.from_residual.result c.from_residual.ensures.1 in
    let after : Contents = record { setting = under p l; words = words_in es; count = c.rerun.new.meter } in
    rw (f.1, f.2) (subst (λ (m : ℕ). EditsOrBreaks (Err g) (contents_of c.args.self.now) (Limit m) after) c.in-Some.ensures.0
    (subst (λ (k : KeptRuns). EditsOrBreaks (Err g) (contents_of k) e after) c.self.view_is
    (stop_edits s e t a es b refl c.self.invariant.1.fresh g c.rerun.new.meter c.in_err-changes.ensures.stop)))

pub make_changes-before-requires-clause-changes : goal.make_changes-before-requires-clause-changes
make_changes-before-requires-clause-changes g c =
    let p = source_of c.self.inside.script in
    let l = c.self.inside.limit in
    let n = c.in-Some.limit in
    let es = c.self.inside.traces.entries in
    let a = affected_of c.above_smaller-affected.result in
    let e : Edit = Limit n in
    let t = under p n in
    let s : Contents = record { setting = under p l; words = words_in es; count = c.self.inside.meter } in
    let ok : is_limit n ≡ true = subst (λ (m : ℕ). is_limit m ≡ true) (sym c.in-Some.ensures.0) c.in-Some.ensures.1 in
    let b : Brings s e t a = subst (Brings s e t) (sym c.above_smaller-affected.ensures) (limit_brings c.used_steps_suffice.ensures.suffice c.used_steps_suffice.ensures.touch s n ok) in
    (t, anew a t es c.in_ok-changes.changes.items (c.in_ok-changes.ensures.changes p c.self.invariant.0) (still s.setting t a b.stays es c.self.invariant.1.fresh))

pub make_changes-before-requires-clause-apart : goal.make_changes-before-requires-clause-apart
make_changes-before-requires-clause-apart g c =
    let t = under (source_of c.self.inside.script) c.in-Some.limit in
    apart t (affected_of c.above_smaller-affected.result) c.self.inside.traces.entries c.in_ok-changes.changes.items (c.in_ok-changes.ensures.changes (source_of c.self.inside.script) c.self.invariant.0) c.rerun.ensures.unique

pub invariant_of-self-2 : goal.invariant_of-self-2
invariant_of-self-2 g c =
    let p = source_of c.self.inside.script in
    let l = c.self.inside.limit in
    let n = c.in-Some.limit in
    let es = c.self.inside.traces.entries in
    let a = affected_of c.above_smaller-affected.result in
    let e : Edit = Limit n in
    let t = under p n in
    let s : Contents = record { setting = under p l; words = words_in es; count = c.self.inside.meter } in
    let ok : is_limit n ≡ true = subst (λ (m : ℕ). is_limit m ≡ true) (sym c.in-Some.ensures.0) c.in-Some.ensures.1 in
    let b : Brings s e t a = subst (Brings s e t) (sym c.above_smaller-affected.ensures) (limit_brings c.used_steps_suffice.ensures.suffice c.used_steps_suffice.ensures.touch s n ok) in
    let fs = c.make_changes-before.new.traces.entries in
    let words = c.make_changes-before.ensures.words in (
      c.self.invariant.0,
      record {
        fresh = c.make_changes-before.ensures.fresh t (anew a t es c.in_ok-changes.changes.items (c.in_ok-changes.ensures.changes p c.self.invariant.0) (still s.setting t a b.stays es c.self.invariant.1.fresh));
        sound = subst (All IsWord) (sym words) c.self.invariant.1.sound;
        room = let x = words_length fs in let y = words_length es in let z = ap length words in let r = c.self.invariant.1.room in omega arith;
      },
      c.follow.ensures es (subst (λ (l : List RunChange). Follows es l fs) (sym c.as_slice.ensures.value) c.make_changes-before.ensures.follows) (subst (IsIndexed es) (sym c.take.ensures.value) c.self.invariant.2),
    )

pub returns-clause-edits : goal.returns-clause-edits
returns-clause-edits g c =
    let p = source_of c.self.inside.script in
    let l = c.self.inside.limit in
    let n = c.in-Some.limit in
    let es = c.self.inside.traces.entries in
    let a = affected_of c.above_smaller-affected.result in
    let e : Edit = Limit n in
    let t = under p n in
    let s : Contents = record { setting = under p l; words = words_in es; count = c.self.inside.meter } in
    let ok : is_limit n ≡ true = subst (λ (m : ℕ). is_limit m ≡ true) (sym c.in-Some.ensures.0) c.in-Some.ensures.1 in
    let b : Brings s e t a = subst (Brings s e t) (sym c.above_smaller-affected.ensures) (limit_brings c.used_steps_suffice.ensures.suffice c.used_steps_suffice.ensures.touch s n ok) in
    let after : Contents = record { setting = t; words = words_in c.make_changes-before.new.traces.entries; count = c.rerun.new.meter } in
    subst (λ (m : ℕ). Edits (Ok tt) (contents_of c.args.self.now) (Limit m) after) c.in-Some.ensures.0
    (subst (λ (k : KeptRuns). Edits (Ok tt) (contents_of k) e after) c.self.view_is
    (commit_edits s e t a es b refl c.self.invariant.1.fresh c.make_changes-before.new.traces.entries c.rerun.new.meter c.make_changes-before.ensures.words c.in_ok-changes.ensures.room c.in_ok-changes.ensures.counted))

pub returns-clause-changes : goal.returns-clause-changes
returns-clause-changes g c =
    let p = source_of c.self.inside.script in
    let l = c.self.inside.limit in
    let n = c.in-Some.limit in
    let es = c.self.inside.traces.entries in
    let fs = c.make_changes-before.new.traces.entries in
    let ls = c.make_changes-before.result.items in
    let a = affected_of c.above_smaller-affected.result in
    let e : Edit = Limit n in
    let t = under p n in
    let s : Contents = record { setting = under p l; words = words_in es; count = c.self.inside.meter } in
    let ok : is_limit n ≡ true = subst (λ (m : ℕ). is_limit m ≡ true) (sym c.in-Some.ensures.0) c.in-Some.ensures.1 in
    let b : Brings s e t a = subst (Brings s e t) (sym c.above_smaller-affected.ensures) (limit_brings c.used_steps_suffice.ensures.suffice c.used_steps_suffice.ensures.touch s n ok) in
    subst (λ (k : KeptRuns). last_changes fs ls ≡ changed_rows (rows_now k) (rows_of t (words_in fs))) c.self.view_is
    (edit_changes s.setting t a es fs c.in_ok-changes.changes.items ls b.stays c.self.invariant.1.fresh (c.in_ok-changes.ensures.changes p c.self.invariant.0) c.make_changes-before.ensures.last c.make_changes-before.ensures.words)
