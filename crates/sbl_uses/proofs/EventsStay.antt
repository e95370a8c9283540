-- The events of a word whose run meets nothing that differs.
use Rattle.std.proofs.Common.{◌≡◌, ◌∙◌, ℕ, Bool, true, false, List, map, sym, ap, ap₂}
use Rattle.std.specs.List.{list_any}
use Rattle.sbl_ast.specs.Source.{Source}
use Rattle.sbl_machine.specs.BuiltFrom.{affected_by, meets_one}
use Rattle.sbl_machine.specs.DifferLaws.{DifferingAgree}
use Rattle.sbl_machine.proofs.FrameLaw.{agree_names, clear_by_names, marked_by}
use Rattle.sbl_machine.proofs.FramePairs.{dirty_at}
use Rattle.sbl_machine.proofs.TouchedOrder.{any-mapped}
use Rattle.sbl_machine.proofs.WhyLaw.{events_change_nothing}
use Rattle.sbl_semantics.specs.Events.{Event'}
use Rattle.sbl_semantics.specs.Meaning.{ending_with_events}
use Rattle.sbl_semantics.specs.Outcome.{events_at, events_of, touched_at, touches_of}
use Rattle.sbl_semantics.specs.TouchedItems.{Names', item_of_touch, names_of}
use Rattle.sbl_uses.specs.EventsStay.{EventsStay, TakesStay}
use Rattle.sbl_uses.specs.Moments.{at_start}
use Rattle.sbl_uses.specs.Used.{takes_from}
use Rattle.sbl_uses.proofs.EventsFrame.{events_on}

pub events_stay : DifferingAgree → EventsStay
unfolding meets_one events_of
events_stay agrees s t xs well differ word limit clear =
    let picked = affected_by s xs in
    let names = names_of s in
    let e = ending_with_events s word limit in
    let agree = agrees s t xs well differ in
    let untouched : dirty_at (marked_by picked names) e ≡ false =
    sym (clear_by_names picked names e)
    ∙ ap (list_any (marked_by picked names)) (events_change_nothing s word limit).touches
    ∙ sym (any-mapped (item_of_touch names) picked (touches_of s word limit))
    ∙ clear in
    ap events_at (events_on picked s t agree.0 agree.1 word limit untouched)

pub takes_stay : DifferingAgree → TakesStay
takes_stay agrees s t xs well differ word limit clear =
    let agree = agrees s t xs well differ in
    ap₂ (λ (names : Names') (events : List Event'). takes_from names.routines (at_start word) events)
    (agree_names (affected_by s xs) s t agree.1) (events_stay agrees s t xs well differ word limit clear)
