use Rattle.std.proofs.Common.{[], ◌∙◌, sym, subst, true≢false}
use Rattle.sbl_text.specs.declared.fault.ScriptFault.{ScriptFault}
use Rattle.sbl_source_map.specs.FaultPlaces.{IsFaultAt}
use Rattle.sbl_source_map.proofs.FaultKinds.{one_fault, same_fault}
use Rattle.sbl_source_map.proofs.fault_places.token_offset.Goals as goal

pub returns-in-Some : goal.returns-in-Some
returns-in-Some c =
    let place = rw c.in-Some.is at c.in_ok-place.ensures in
    let of_token = (c.faults_are_at_tokens.ensures.fault c.args.text.now [] c.in-Some.place.fault place.token place.fault).0 in
    let same = one_fault c.in-Some.place.fault c.args.fault of_token (sym c.is_same.ensures ∙ c.if-is_same.true) in
    (place.token, subst (λ (f : ScriptFault). IsFaultAt c.args.text.now f place.token) same place.fault, place.begin)

pub returns-in_default : goal.returns-in_default
returns-in_default c =
    let place = rw c.in-Some.is at c.in_ok-place.ensures in
    λ t h. true≢false
    (sym (same_fault c.in-Some.place.fault c.args.fault (c.token_is_one.ensures.one c.args.text.now c.in-Some.place.fault c.args.fault place.token t place.fault h).0) ∙ sym c.is_same.ensures ∙ c.if-is_same.false)

pub returns-in_default-2 : goal.returns-in_default-2
returns-in_default-2 c = λ t h. (rw c.in_default.is at c.in_ok-place.ensures) c.args.fault t h
