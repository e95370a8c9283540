use Rattle.std.proofs.Common.{◌≡◌, ℕ, List, length, sym, ap, ◌∙◌, arith}
use Rattle.std.specs.Prelude.{encode_utf8_all}
use Rattle.std.specs.Str.{chars}
use Rattle.std.proofs.lemmas.Str.{encodes-chars}
use Rattle.sbl_text.specs.Literals.{byte_length}
use Rattle.sbl_source_map.specs.FaultRanges.{past_refused}
use Rattle.sbl_source_map.proofs.fault_ranges.refused_end.Goals as goal

pub returns : goal.returns
returns c = λ x at is place.
    let text = c.args.text.now in
    let rest = c.past_refused-rest.result.now in
    let whole : byte_length (chars text) ≡ length text = ap length (encodes-chars text c.utf8.text) in
    let after : byte_length (chars rest) ≡ length rest = ap length (encodes-chars rest c.past_refused-rest.utf8) in
    let said : chars rest ≡ past_refused c.args.stop.inserts c.args.stop.fault at =
    c.past_refused-rest.ensures.value ∙ ap (past_refused c.args.stop.inserts c.args.stop.fault) (c.rest_from.ensures.rest x at is place) in
    let same = ap byte_length said in omega (arith, whole, after, same)
