use Rattle.std.proofs.Common.{◌≡◌, ◌∙◌, ◌++◌, [], ◌∷◌, List, ℕ, None, ap, sym, subst}
use Rattle.std.specs.Map.{lookup}
use Rattle.std.specs.Str.{bytes_eq}
use Rattle.std.specs.declared.vec.Vec.{Vec}
use Rattle.std.specs.declared.alloc.Global.{Global}
use Rattle.sbl_semantics.specs.Outcome.{outcome_of, run_of, touches_of, used_of}
use Rattle.sbl_last_runs.specs.KeptEntries.{KeptWord, words_in}
use Rattle.sbl_bench.specs.inside.KeptEntries.{IsKept}
use Rattle.sbl_last_runs.specs.Pairs.{IsOneMore}
use Rattle.sbl_rows.specs.Setting.{under}
use Rattle.indexmap.proofs.CallerLemmas.{insert_entry-new}
use Rattle.sbl_last_runs.proofs.Entries.{is_key}
use Rattle.sbl_bench.proofs.MapEntries.{not_found, words-push, kept-push, put_more}
use Rattle.sbl_bench.proofs.traces.put_last.Goals as goal

-- the new word goes last
goes_last : (c : goal.Joined-unwrap) → c.insert.new.self.entries ≡ c.args.traces.now.entries ++ (c.args.word, c.in_ok-last.last) ∷ []
goes_last c =
    let es = c.args.traces.now.entries in
    let eq = λ (x y : Vec ℕ Global). bytes_eq x.items y.items in
    let inserted = rw c.unwrap.ensures at c.insert.ensures.entries in
    let none : lookup (is_key c.args.word.items) c.reserve.new.self.entries ≡ None =
    ap (lookup (is_key c.args.word.items)) c.reserve.ensures.entries ∙ not_found c.args.word.items es c.requires.new in
    inserted ∙ insert_entry-new eq c.reserve.new.self c.args.word c.in_ok-last.last none ∙ ap (λ (l : List KeptWord). l ++ (c.args.word, c.in_ok-last.last) ∷ []) c.reserve.ensures.entries

pub returns-clause-words : goal.returns-clause-words
returns-clause-words c = ap words_in (goes_last c) ∙ words-push c.args.traces.now.entries _

pub returns-clause-kept : goal.returns-clause-kept
returns-clause-kept c s made kept =
    subst (IsKept (under s c.args.limit)) (sym (goes_last c))
    (kept-push (under s c.args.limit) c.args.traces.now.entries (c.args.word, c.in_ok-last.last) kept c.requires.sound c.requires.room
    (record {
      outcome = ap outcome_of c.in_ok-last.ensures.outcome ∙ c.in_ok-traced.ensures.outcome s made ∙ ap (λ (w : List ℕ). run_of s w c.args.limit) c.as_slice.ensures.value;
      touches = c.in_ok-last.ensures.touches ∙ c.in_ok-traced.ensures.touches s made ∙ ap (λ (w : List ℕ). touches_of s w c.args.limit) c.as_slice.ensures.value;
      used = c.in_ok-last.ensures.used ∙ c.in_ok-traced.ensures.used s made ∙ ap (λ (w : List ℕ). used_of s w c.args.limit) c.as_slice.ensures.value;
    }))

pub returns-clause-more : goal.returns-clause-more
returns-clause-more c = subst (λ (es : List KeptWord). IsOneMore c.args.word.items es c.args.traces.now.entries) (sym (goes_last c)) (put_more c.args.traces.now.entries (c.args.word, c.in_ok-last.last) c.requires.new)
