-- What the entry of a word tells of what its run touches.
use Rattle.std.proofs.Common.{◌≡◌, ◌∙◌, ℕ, Bool, true, false, cond, List, Some, None, is_some, sym, ap}
use Rattle.sbl_semantics.specs.TouchedItems.{items_of, names_of, touched_items}
use Rattle.sbl_ast.specs.NamedParts.{Part'}
use Rattle.sbl_last_runs.specs.declared.run_trace.RunTrace.{RunTrace}
use Rattle.sbl_rows.specs.Setting.{Setting}
use Rattle.sbl_last_runs.specs.KeptEntries.{KeptWord, AreFresh, words_in}
use Rattle.sbl_last_runs.specs.Pairs.{find}
use Rattle.sbl_bench.specs.Traces.{trace_of}
use Rattle.sbl_bench.specs.Vocabulary.{is_word}
use Rattle.sbl_bench.proofs.MapEntries.{found_word}
use Rattle.sbl_last_runs.proofs.Entries.{fresh_found}

-- a word with an entry is in the vocabulary
pub is_there : (word : List ℕ) (es : List KeptWord) (t : RunTrace) → Some t ≡ find word es → is_word word (words_in es) ≡ true
is_there word es t is = sym (found_word word es) ∙ ap is_some (sym is)

-- so it is not absent
pub not_absent : (word : List ℕ) (es : List KeptWord) (t : RunTrace) (words : List (List ℕ)) → Some t ≡ find word es → words_in es ≡ words → is_word word words ≡ false → ⊥
not_absent word es t words is same absent =
    let yes = ap (is_word word) (sym same) ∙ is_there word es t is in
    cc (sym yes ∙ absent)

pub not_there : (word : List ℕ) (es : List KeptWord) → None ≡ find word es → is_word word (words_in es) ≡ false
not_there word es is = sym (found_word word es) ∙ ap is_some (sym is)

-- the items of its touches are its trace
pub trace_found : (script : Setting) (word : List ℕ) (es : List KeptWord) (t : RunTrace) (items : List Part') → AreFresh script es → Some t ≡ find word es
    → items ≡ items_of (names_of script.script) t.touches.items → Some items ≡ trace_of script (words_in es) word
unfolding touched_items
trace_found script word es t items fresh is of =
    ap Some (of ∙ ap (items_of (names_of script.script)) (fresh_found script word es t fresh is).touches)
    ∙ ap (λ (b : Bool). cond b (Some (touched_items script.script word script.limit)) None) (sym (is_there word es t is))

-- a word without an entry has none
pub no_trace : (script : Setting) (word : List ℕ) (es : List KeptWord) → None ≡ find word es → None ≡ trace_of script (words_in es) word
no_trace script word es is = ap (λ (b : Bool). cond b (Some (touched_items script.script word script.limit)) None) (sym (not_there word es is))
