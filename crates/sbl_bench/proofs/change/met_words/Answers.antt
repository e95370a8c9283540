use Rattle.std.proofs.Common.{rules, ◌≡◌, ◌∙◌, ◌++◌, ◌∷◌, [], ℕ, List, Bor, true, false, map, ap, sym}
use Rattle.std.proofs.lemmas.List.{map-append}
use Rattle.sbl_bench.specs.inside.Changes.{affected_of, is_met}
use Rattle.sbl_last_runs.specs.KeptEntries.{KeptWord}
use Rattle.sbl_bench.proofs.Meeting.{not_met, one_met}
use Rattle.sbl_bench.proofs.change.met_words.Goals as goal

pub loop-word-preserved-in-Continue-1 : goal.loop-word-preserved-in-Continue-1
loop-word-preserved-in-Continue-1 c =
    let a = affected_of c.args.affected.now in
    let e : KeptWord = (c.in-Some.word.now, c.in-Some.last.now) in
    let split : c.loop-word.word-iterator ≡ e ∷ c.next.new.self = search (rules, c.in-Some.ensures.steps) in
    let met : is_met a e ≡ true = sym c.is_affected.ensures ∙ c.if-is_affected.true in
    let before = map (λ (w : Bor (List ℕ)). w.now) c.loop-word.words.items in
    let pushed : c.push.new.self.items ≡ c.loop-word.words.items ++ c.as_slice.result ∷ [] = search rules in
    let more : map (λ (w : Bor (List ℕ)). w.now) c.push.new.self.items ≡ before ++ e.0.items ∷ [] =
    ap (map (λ (w : Bor (List ℕ)). w.now)) pushed ∙ map-append (λ (w : Bor (List ℕ)). w.now) c.loop-word.words.items (c.as_slice.result ∷ []) ∙ ap (λ (t : List ℕ). before ++ t ∷ []) c.as_slice.ensures.value in
    one_met a before (map (λ w. w.now) c.push.new.self.items) c.loop-word.word-iterator c.next.new.self c.args.traces.now.entries e c.loop-word.invariant split met more

pub loop-word-preserved : goal.loop-word-preserved
loop-word-preserved c =
    let a = affected_of c.args.affected.now in
    let e : KeptWord = (c.in-Some.word.now, c.in-Some.last.now) in
    let split : c.loop-word.word-iterator ≡ e ∷ c.next.new.self = search (rules, c.in-Some.ensures.steps) in
    let off : is_met a e ≡ false = sym c.is_affected.ensures ∙ c.if-is_affected.false in
    not_met a (map (λ w. w.now) c.loop-word.words.items) c.loop-word.word-iterator c.next.new.self c.args.traces.now.entries e c.loop-word.invariant split off
