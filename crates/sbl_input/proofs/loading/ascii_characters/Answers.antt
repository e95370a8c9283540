use Rattle.std.proofs.Common.{◌∙◌, ◌++◌, ◌≤◌, ◌∷◌, [], ℕ, List, ap, arith, get_or, length, sym, vec_capacity}
use Rattle.std.proofs.lemmas.List.{take_more}
use Rattle.sbl_input.proofs.loading.ascii_characters.Goals as goal

pub loop-byte-preserved : goal.loop-byte-preserved
loop-byte-preserved c =
    let line = c.args.line.now in
    let i = c.loop-byte.byte-index in
    let room : length line ≤ vec_capacity c.push_reserved.new.self = omega (arith, c.push_reserved.ensures.capacity, c.loop-byte.invariant.1) in
    (c.push_reserved.ensures.items ∙ ap (λ (t : List ℕ). t ++ get_or line i 0 ∷ []) c.loop-byte.invariant.0 ∙ sym (take_more line i 0 c.loop-byte-test.true), room)
