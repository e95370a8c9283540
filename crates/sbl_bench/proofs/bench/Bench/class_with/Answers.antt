use Rattle.std.proofs.Common.{◌≡◌, ◌∙◌, ◌<◌, ℕ, List, Some, ap, arith, length}
use Rattle.std.proofs.lemmas.Grind.{common_steps}
use Rattle.std.specs.List.{find}
use Rattle.std.specs.Str.{bytes_eq}
use Rattle.sbl_script.specs.ParsedScript.{source_of}
use Rattle.sbl_rows.specs.Setting.{under}
use Rattle.sbl_rows.specs.Classes.{Class, classes_of, in_order, words_of}
use Rattle.sbl_rows.specs.inside.ClassParts.{words_with}
use Rattle.sbl_rows.specs.Rows.{rows_of}
use Rattle.sbl_bench.specs.KeptRuns.{KeptRuns, setting_of}
use Rattle.sbl_last_runs.specs.KeptEntries.{words_in}
use Rattle.sbl_bench.proofs.ClassOfStem.{class_absent, class_there}
use Rattle.sbl_bench.proofs.bench.Bench.class_with.Goals as goal

pub returns-then-is_empty : goal.returns-then-is_empty
returns-then-is_empty c =
    let s = under (source_of c.self.inside.script) c.self.inside.limit in
    let rows = rows_of s (words_in c.self.inside.traces.entries) in
    let words = words_of c.in_ok-words.words.items in
    let is : words ≡ in_order (words_with c.args.stem.now rows) = c.in_ok-words.ensures s c.self.invariant.1.fresh in
    let none : length words ≡ 0 = grind (arith, common_steps) in
    class_absent rows c.args.stem.now words is none ∙ ap (λ (k : KeptRuns). find (λ (x : Class). bytes_eq c.args.stem.now x.stem) (classes_of (rows_of (setting_of k) k.words))) c.self.view_is

pub returns : goal.returns
returns c =
    let s = under (source_of c.self.inside.script) c.self.inside.limit in
    let rows = rows_of s (words_in c.self.inside.traces.entries) in
    let words = words_of c.in_ok-words.words.items in
    let is : words ≡ in_order (words_with c.args.stem.now rows) = c.in_ok-words.ensures s c.self.invariant.1.fresh in
    let some : 0 < length words = grind (arith, common_steps) in
    ap (λ (t : List ℕ). Some (record { stem = t; members = words })) c.in_ok-stem.ensures.items
    ∙ class_there rows c.args.stem.now words is some ∙ ap (λ (k : KeptRuns). find (λ (x : Class). bytes_eq c.args.stem.now x.stem) (classes_of (rows_of (setting_of k) k.words))) c.self.view_is
