use Rattle.std.proofs.Common.{◌≡◌, ◌∙◌, false, List, Some, map, length, take, drop, ◌++◌, ℕ, ap, subst, sym}
use Rattle.std.specs.List.{All, IsDistinct}
use Rattle.std.proofs.lemmas.List.{length-map}
use Rattle.std.specs.Str.{bytes_eq}
use Rattle.std.specs.declared.vec.Vec.{Vec}
use Rattle.std.specs.declared.alloc.Global.{Global}
use Rattle.sbl_last_runs.specs.Last.{Follows, last_changes, word_found, word_run}
use Rattle.sbl_last_runs.specs.RunChanges.{is_changed}
use Rattle.sbl_last_runs.specs.KeptEntries.{KeptWord}
use Rattle.sbl_last_runs.specs.Pairs.{Text, find}
use Rattle.sbl_last_runs.specs.declared.change.RunChange.{RunChange}
use Rattle.sbl_last_runs.proofs.ChangeFacts.{all_fresh, fresh_list, words_kept, take_overwritten}
use Rattle.sbl_last_runs.proofs.Following.{follows}
use Rattle.sbl_last_runs.proofs.RunsBefore.{last_is}
use Rattle.sbl_last_runs.proofs.change.make_changes.Goals as goal

-- a word has the run of its change
abbrev Now : List KeptWord → RunChange → Type 0
Now fs c = find c.word.items fs ≡ Some c.traced

-- any other word has its run
abbrev Stays : List KeptWord → List KeptWord → List RunChange → Type 0
Stays es fs cs = (w : Text) → is_changed cs w.items ≡ false → find w.items fs ≡ find w.items es

-- where each change has the word that it had, a list of changes is overwritten by those in their places
kept_back : (es : List KeptWord) (changes : Vec RunChange Global) (ls : List RunChange) → map word_run ls ≡ map (word_found es) changes.items
    → take changes.len (ls ++ drop (length ls) changes.items) ≡ ls
kept_back es changes ls was =
    let same : length ls ≡ length changes.items = sym (length-map ls word_run) ∙ ap length was ∙ length-map changes.items (word_found es) in
    ap (λ (n : ℕ). take n (ls ++ drop (length ls) changes.items)) changes.ok.0 ∙ take_overwritten ls changes.items same

pub returns-clause-fresh : goal.returns-clause-fresh
returns-clause-fresh c = λ t anew.
    let es = c.args.traces.now.entries in
    let fs = c.commit.new.traces.entries in
    fresh_list t fs (subst (IsDistinct (λ (x y : Text). bytes_eq x.items y.items)) (sym c.commit.ensures.keys) c.requires.unique)
    (all_fresh t es fs c.args.changes.items anew (subst (All (Now fs)) c.as_mut_slice.ensures.value c.commit.ensures.run) (subst (Stays es fs) c.as_mut_slice.ensures.value c.commit.ensures.others))

pub returns-clause-words : goal.returns-clause-words
returns-clause-words c = words_kept c.args.traces.now.entries c.commit.new.traces.entries c.commit.ensures.keys

pub returns-clause-follows : goal.returns-clause-follows
returns-clause-follows c =
    let es = c.args.traces.now.entries in
    let fs = c.commit.new.traces.entries in
    let cs = c.args.changes.items in
    let ls = c.commit.new.changes in
    let was : map word_run ls ≡ map (word_found es) cs = c.commit.ensures.before ∙ ap (map (word_found es)) c.as_mut_slice.ensures.value in
    subst (λ (l : List RunChange). Follows es l fs) (sym (kept_back es c.args.changes ls was)) (follows es fs cs ls was (subst (Stays es fs) c.as_mut_slice.ensures.value c.commit.ensures.others))

pub returns-clause-last : goal.returns-clause-last
returns-clause-last c = λ s t fresh anew.
    let es = c.args.traces.now.entries in
    let fs = c.commit.new.traces.entries in
    let cs = c.args.changes.items in
    let ls = c.commit.new.changes in
    let was : map word_run ls ≡ map (word_found es) cs = c.commit.ensures.before ∙ ap (map (word_found es)) c.as_mut_slice.ensures.value in
    ap (last_changes fs) (kept_back es c.args.changes ls was) ∙ last_is s t es fs cs ls fresh anew.run (subst (All (Now fs)) c.as_mut_slice.ensures.value c.commit.ensures.run) was
