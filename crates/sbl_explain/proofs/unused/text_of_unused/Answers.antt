use Rattle.std.proofs.Common.{◌≡◌, ◌∙◌, List, ℕ, ap, subst}
use Rattle.std.specs.Borrow.{Bor}
use Rattle.std.specs.Prelude.{IfOk}
use Rattle.sbl_bench.specs.KeptRuns.{setting_of}
use Rattle.sbl_script.specs.ParsedScript.{ParsedScript, source_of}
use Rattle.sbl_uses.specs.Parts.{Part, parts_of}
use Rattle.sbl_uses.specs.TakesRows.{parts_text}
use Rattle.sbl_uses.specs.Unused.{unused_text}
use Rattle.sbl_uses.specs.UnusedViews.{HasMet, HasTaken, parts_in, texts_of}
use Rattle.sbl_explain.proofs.KeptFacts.{taken_is}
use Rattle.sbl_explain.proofs.unused.text_of_unused.Goals as goal

pub returns : goal.returns
unfolding unused_text
returns c = λ keeps.
    let bench = c.args.bench.now in
    let s = setting_of bench in
    let words = bench.words in
    let are : texts_of c.deref.result.now ≡ words = ap (λ (l : List (Bor (List ℕ))). texts_of l) c.deref.ensures.value ∙ c.in_ok-all.ensures in
    let met : HasMet s words c.in_ok-met.met = c.in_ok-met.ensures are in
    let taken : HasTaken s words c.in_ok-taken.taken = λ t. c.in_ok-taken.ensures t ∙ taken_is s words c.args.words.now keeps.1 t in
    let parts : parts_in c.in_ok-parts.parts ≡ parts_of s.script = c.in_ok-parts.ensures ∙ ap (λ (p : ParsedScript). parts_of (source_of p)) c.script.ensures in
    subst (λ (ps : List Part). IfOk c.text_of_rows.result (λ text. text.items ≡ parts_text s words ps)) parts (c.text_of_rows.ensures s words (met, taken))
