use Rattle.std.proofs.Common.{◌≡◌, ◌≤◌, ◌+◌, ◌-◌, ◌∙◌, ℕ, List, [], All, None, Ok, Err, length, map, ap, sym, subst, arith}
use Rattle.std.proofs.lemmas.List.{length-map}
use Rattle.std.proofs.lemmas.Result.{err_from_is_err_and}
use Rattle.sbl_script.specs.ParsedScript.{source_of}
use Rattle.sbl_rows.specs.ChangedRows.{changed_rows}
use Rattle.sbl_rows.specs.Classes.{texts_of}
use Rattle.sbl_rows.specs.KnownOutcomes.{Text}
use Rattle.sbl_rows.specs.Rows.{rows_of}
use Rattle.sbl_rows.specs.Setting.{under}
use Rattle.sbl_bench.specs.BreakingOff.{EditsOrBreaks}
use Rattle.sbl_bench.specs.Contents.{Contents, max_runs, opening_fault}
use Rattle.sbl_bench.specs.Edits.{Edits, Words}
use Rattle.sbl_bench.specs.KeptRuns.{IsWord, KeptRuns, contents_of}
use Rattle.sbl_last_runs.specs.KeptEntries.{KeptWord, words_in}
use Rattle.sbl_bench.specs.LeavesChanges.{rows_now}
use Rattle.sbl_bench.specs.Vocabulary.{vocabulary}
use Rattle.sbl_last_runs.specs.Last.{last_changes}
use Rattle.sbl_bench.specs.inside.Stops.{IsStopOf}
use Rattle.sbl_bench.specs.inside.WordLists.{new_words}
use Rattle.sbl_bench.proofs.Breaking.{ends, list_ends, untold}
use Rattle.sbl_bench.proofs.LastChanges.{no_rows_change}
use Rattle.sbl_bench.proofs.Listing.{IsVocabulary, vocabulary_is, words_refused, words_replace, words_stop}
use Rattle.sbl_bench.proofs.bench.Bench.replace_words_or_break.Goals as goal

is_vocabulary : (ws : List (List ℕ)) (list texts : List Text) → opening_fault [] ws ≡ None → texts_of list ≡ vocabulary ws → texts ≡ list → IsVocabulary (texts_of texts)
is_vocabulary ws list texts none is same = subst IsVocabulary (sym (ap texts_of same ∙ is)) (vocabulary_is ws none)

pub returns-in_err-list-clause-edits : goal.returns-in_err-list-clause-edits
returns-in_err-list-clause-edits g c =
    let ws = map (λ w. w.items) c.args.words.now in
    let s : Contents = record { setting = under (source_of c.self.inside.script) c.self.inside.limit; words = words_in c.self.inside.traces.entries; count = c.self.inside.meter } in
    let g = c.in_err-list.field-0.0 in
    let f = err_from_is_err_and c.from_residual.result c.from_residual.ensures.1 in
    let not = list_ends ws g c.in_err-list.ensures.fault in
    rw (f.1, f.2) (subst (λ (k : KeptRuns). EditsOrBreaks (Err g) (contents_of k) (Words ws) (contents_of k)) c.self.view_is (ends s s (Words ws) g not (words_refused s ws g c.in_err-list.ensures.fault)))

pub returns-in_err-list-clause-told : goal.returns-in_err-list-clause-told
returns-in_err-list-clause-told g c =
    let g = c.in_err-list.field-0.0 in
    let f = err_from_is_err_and c.from_residual.result c.from_residual.ensures.1 in
    rw (f.1, f.2) (untold _ g (list_ends (map (λ w. w.items) c.args.words.now) g c.in_err-list.ensures.fault))

pub runs_of-requires-clause-sound : goal.runs_of-requires-clause-sound
runs_of-requires-clause-sound g c =
    (is_vocabulary (map (λ w. w.items) c.args.words.now) c.in_ok-list.list.items c.deref.result.now c.in_ok-list.ensures.ok c.in_ok-list.ensures.words c.deref.ensures.value).sound

pub runs_of-requires-clause-distinct : goal.runs_of-requires-clause-distinct
runs_of-requires-clause-distinct g c =
    (is_vocabulary (map (λ w. w.items) c.args.words.now) c.in_ok-list.list.items c.deref.result.now c.in_ok-list.ensures.ok c.in_ok-list.ensures.words c.deref.ensures.value).distinct

pub returns-in_err-traces-clause-edits : goal.returns-in_err-traces-clause-edits
returns-in_err-traces-clause-edits g c =
    let ws = map (λ w. w.items) c.args.words.now in
    let es = c.self.inside.traces.entries in
    let t = under (source_of c.self.inside.script) c.self.inside.limit in
    let s : Contents = record { setting = t; words = words_in es; count = c.self.inside.meter } in
    let listed = ap texts_of c.deref.ensures.value ∙ c.in_ok-list.ensures.words in
    let g = c.in_err-traces.field-0.0 in
    let f = err_from_is_err_and c.from_residual-in_err-traces.result c.from_residual-in_err-traces.ensures.1 in
    let stop = subst (λ (v : List (List ℕ)). IsStopOf (length (new_words (words_in es) v)) g c.self.inside.meter c.runs_of.new.meter) listed c.in_err-traces.ensures.stop in
    rw (f.1, f.2) (subst (λ (k : KeptRuns). EditsOrBreaks (Err g) (contents_of k) (Words ws) (record { setting = t; words = words_in es; count = c.runs_of.new.meter })) c.self.view_is
    (words_stop s ws c.in_ok-list.ensures.ok g c.runs_of.new.meter stop))

pub invariant_of-self-2 : goal.invariant_of-self-2
invariant_of-self-2 g c =
    let ws = map (λ w. w.items) c.args.words.now in
    let fs = c.in_ok-traces.traces.entries in
    let listed = ap texts_of c.deref.ensures.value ∙ c.in_ok-list.ensures.words in
    let words : words_in fs ≡ vocabulary ws = c.in_ok-traces.ensures.words ∙ listed in
    let v = vocabulary_is ws c.in_ok-list.ensures.ok in (
      c.self.invariant.0,
      record {
        fresh = c.in_ok-traces.ensures.fresh (source_of c.self.inside.script) c.self.invariant.0 c.self.invariant.1.fresh;
        sound = subst (All IsWord) (sym words) v.sound;
        room = (let few = v.few in let same = ap length words in let n : length (words_in fs) ≡ length fs = length-map fs (λ (e : KeptWord). e.0.items) in omega arith);
      },
      tt,
    )

pub returns-clause-edits : goal.returns-clause-edits
returns-clause-edits g c =
    let ws = map (λ w. w.items) c.args.words.now in
    let es = c.self.inside.traces.entries in
    let fs = c.in_ok-traces.traces.entries in
    let t = under (source_of c.self.inside.script) c.self.inside.limit in
    let s : Contents = record { setting = t; words = words_in es; count = c.self.inside.meter } in
    let listed = ap texts_of c.deref.ensures.value ∙ c.in_ok-list.ensures.words in
    let room = subst (λ (v : List (List ℕ)). length (new_words (words_in es) v) ≤ max_runs - c.self.inside.meter) listed c.in_ok-traces.ensures.room in
    let counted = subst (λ (v : List (List ℕ)). c.runs_of.new.meter ≡ c.self.inside.meter + length (new_words (words_in es) v)) listed c.in_ok-traces.ensures.counted in
    subst (λ (k : KeptRuns). Edits (Ok tt) (contents_of k) (Words ws) (record { setting = t; words = words_in fs; count = c.runs_of.new.meter })) c.self.view_is
    (words_replace s ws c.in_ok-list.ensures.ok (words_in fs) c.runs_of.new.meter (c.in_ok-traces.ensures.words ∙ listed) room counted)

pub returns-clause-changes : goal.returns-clause-changes
returns-clause-changes g c =
    let script = under (source_of c.self.inside.script) c.self.inside.limit in
    let fs = c.in_ok-traces.traces.entries in
    ap (last_changes fs) c.new.ensures.items
    ∙ subst (λ (k : KeptRuns). [] ≡ changed_rows (rows_now k) (rows_of script (words_in fs))) c.self.view_is (sym (no_rows_change script (words_in c.self.inside.traces.entries) (words_in fs)))
