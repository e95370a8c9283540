use Rattle.std.proofs.Common.{arith, tests, false, List, None, ◌≡◌, ◌∙◌, ◌<◌, ℕ, sym, ap, is_some, nat_eq, length}
use Rattle.std.proofs.lemmas.List.{length-map}
use Rattle.indexmap.specs.declared.map.entry.Entry.TheVariants.{Vacant}
use Rattle.indexmap.specs.Entry.{map_with_value}
use Rattle.sbl_ast.specs.Source.{Source}
use Rattle.sbl_machine.specs.MachineOf.{IsLinkedMachineOf}
use Rattle.sbl_semantics.specs.Outcome.{outcome_of, run_of, touches_of, used_of}
use Rattle.sbl_bench.specs.KeptRuns.{IsWord}
use Rattle.sbl_last_runs.specs.KeptEntries.{words_in}
use Rattle.sbl_bench.specs.inside.KeptEntries.{IsKept}
use Rattle.sbl_semantics.specs.Limit.{default_limit}
use Rattle.sbl_rows.specs.Setting.{under}
use Rattle.sbl_bench.specs.Contents.{word_fault}
use Rattle.sbl_bench.specs.Vocabulary.{with_word}
use Rattle.sbl_bench.proofs.MapEntries.{found_word, words-push, kept-push}
use Rattle.sbl_bench.proofs.Taking.{comes_home, goes_last, skips, takes}
use Rattle.sbl_bench.proofs.WordFaults.{none_unless, room_of, short_of}
use Rattle.sbl_bench.proofs.open.take_word.Goals as goal

pub returns-in-Occupied-clause-words : goal.returns-in-Occupied-clause-words
returns-in-Occupied-clause-words c =
    let home = sym (rw c.in-Occupied.is at c.in-Ok.ensures.same_map) in
    let stays = c.leave.ensures ∙ (rw c.in-Occupied.is at c.in-Ok.ensures.unchanged) in
    let found = rw c.in-Occupied.is at c.in-Ok.ensures.found in
    let old = c.args.traces.now.entries in
    let there = sym (found_word c.args.word.items old) ∙ found.0 in
    search (comes_home {left = c.leave.new.entry.0} (λ es. words_in es ≡ with_word (words_in old) c.args.word.items) old home stays (sym (skips c.args.word.items (words_in old) there)))

pub returns-in_ok-last-in-Vacant-clause-words : goal.returns-in_ok-last-in-Vacant-clause-words
returns-in_ok-last-in-Vacant-clause-words c =
    let home = sym (rw c.in-Vacant.is at c.in-Ok.ensures.same_map) in
    let none = rw c.in-Vacant.is at c.in-Ok.ensures.found in
    let put = goes_last c.args.traces.now c.args.word c.insert.result.now c.in_ok-last-in-Vacant.last _ none c.insert.ensures.value (rw c.in-Vacant.is at c.in-Ok.ensures.update.1 c.insert.result.now) in
    let old = c.args.traces.now.entries in
    let new = sym (found_word c.args.word.items old) ∙ ap is_some none in
    let some = ap (λ (n : ℕ). nat_eq n 0) (sym c.args.word.ok.0) ∙ sym c.is_empty.ensures ∙ c.if-is_empty.false in
    search (comes_home {left = map_with_value (Vacant c.in-Vacant.entry) c.insert.result.now} (λ es. words_in es ≡ with_word (words_in old) c.args.word.items) _ home put
    (words-push old _ ∙ sym (takes c.args.word.items (words_in old) some new)))

pub returns-in_ok-last-in-Vacant-clause-kept : goal.returns-in_ok-last-in-Vacant-clause-kept
returns-in_ok-last-in-Vacant-clause-kept c =
    let home = sym (rw c.in-Vacant.is at c.in-Ok.ensures.same_map) in
    let none = rw c.in-Vacant.is at c.in-Ok.ensures.found in
    let put = goes_last c.args.traces.now c.args.word c.insert.result.now c.in_ok-last-in-Vacant.last _ none c.insert.ensures.value (rw c.in-Vacant.is at c.in-Ok.ensures.update.1 c.insert.result.now) in
    let old = c.args.traces.now.entries in
    let key = (rw c.in-Vacant.is at c.in-Ok.ensures.key) ((rw c.in-Vacant.is at c.in-Ok.ensures.value) ∙ none) in
    let read = c.as_slice.ensures.value ∙ ap (λ v. v.items) (c.key.ensures ∙ key) in
    let new = sym (found_word c.args.word.items old) ∙ ap is_some none in
    let some : nat_eq (length c.args.word.items) 0 ≡ false = ap (λ (n : ℕ). nat_eq n 0) (sym c.args.word.ok.0) ∙ sym c.is_empty.ensures ∙ c.if-is_empty.false in
    let fine : word_fault (words_in old) c.args.word.items ≡ None =
    ap (λ (w : List ℕ). word_fault (words_in old) w) (sym c.as_slice-text.ensures.value) ∙ sym (c.word_fault.ensures (words_in old) c.has_no_room.ensures) ∙ none_unless _ c.in_default.not-Some in
    let few = room_of (words_in old) c.args.word.items fine new some in
    let room : length old < 100000 = grind (arith, tests, few, length-map) in
    let sound : IsWord c.args.word.items = (grind (arith, tests, some), short_of (words_in old) c.args.word.items fine) in
    search (comes_home {left = map_with_value (Vacant c.in-Vacant.entry) c.insert.result.now} (λ es. (s : Source) → IsLinkedMachineOf c.args.machine.now s → IsKept (under s default_limit) old → IsKept (under s default_limit) es) _ home put
    (λ s made kept. kept-push (under s default_limit) old (c.args.word, c.in_ok-last-in-Vacant.last) kept sound room (record {
      outcome = ap outcome_of c.in_ok-last-in-Vacant.ensures.outcome ∙ c.in_ok-traced-in-Vacant.ensures.outcome s made ∙ ap (λ w. run_of s w default_limit) read;
      touches = c.in_ok-last-in-Vacant.ensures.touches ∙ c.in_ok-traced-in-Vacant.ensures.touches s made ∙ ap (λ w. touches_of s w default_limit) read;
      used = c.in_ok-last-in-Vacant.ensures.used ∙ c.in_ok-traced-in-Vacant.ensures.used s made ∙ ap (λ w. used_of s w default_limit) read;
    })))
