use Rattle.std.proofs.Common.{rules, ◌≡◌, ◌∙◌, ◌<◌, List, None, ap, drop, length, map, sym}
use Rattle.std.proofs.lemmas.List.{take_rest}
use Rattle.sbl_token.specs.declared.token.Token.{Token}
use Rattle.sbl_text.specs.Tokens.{placed_of}
use Rattle.sbl_source_map.specs.PartTokens.{after_head}
use Rattle.sbl_source_map.proofs.PartFacts.{past_other}
use Rattle.sbl_source_map.proofs.parts.definition_tokens.Goals as goal

pub loop-i-preserved : goal.loop-i-preserved
loop-i-preserved c =
    let r = c.args.is_routine in
    let ts = c.args.tokens.now in
    let there : c.loop-i.i < length ts = search rules in
    let other : after_head r c.args.name.now (map placed_of (drop c.loop-i.i ts)) ≡ None =
    ap (λ (us : List Token). after_head r c.args.name.now (map placed_of us)) (sym (take_rest ts c.loop-i.i)) ∙ sym c.in_default.ensures in
    past_other r c.args.name.now ts c.loop-i.i there other ∙ c.loop-i.invariant
