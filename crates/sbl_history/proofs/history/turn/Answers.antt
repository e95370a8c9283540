use Rattle.std.proofs.Common.{◌∙◌, ◌++◌, ◌∷◌, [], ap, map, refl, sym}
use Rattle.std.proofs.lemmas.List.{map-append}
use Rattle.sbl_history.specs.Desks.{view_edit, view_kind, view_text}
use Rattle.sbl_history.specs.History.{Turn}
use Rattle.sbl_history.specs.declared.steps.Step.{Step}
use Rattle.sbl_history.proofs.history.turn.Goals as goal

pub returns-in-Ok-clause-turns : goal.returns-in-Ok-clause-turns
returns-in-Ok-clause-turns g c =
    let rest = c.pop.new.self.items in
    let edit = c.in-Some.edit in
    let others = c.args.to.now.items in (
      view_edit edit,
      ap (map view_edit) c.in-Some.ensures.items ∙ map-append view_edit rest (edit ∷ []),
      c.in-Ok.ensures.edits,
      ap (map view_edit) c.push_reserved.ensures.items ∙ map-append view_edit others (record edit { step = c.exchange.new.step } ∷ [])
          ∙ ap (λ (t : Turn). map view_edit others ++ record { kind = view_kind edit.kind; turn = t } ∷ []) c.in-Ok.ensures.exchanged.0,
      c.in-Ok.ensures.exchanged.1,
    )

pub returns-in-Err-clause-turns : goal.returns-in-Err-clause-turns
returns-in-Err-clause-turns g c =
    let rest = c.pop.new.self.items in
    let was = c.in-Some.ensures.items in (
      map view_edit rest,
      view_edit c.in-Some.edit,
      ap (map view_edit) was ∙ map-append view_edit rest (c.in-Some.edit ∷ []),
      c.in-Err.ensures.edits,
      ap view_text c.in-Err.ensures.kept.1,
      ap (map view_edit) (c.push_reserved-in-Err.ensures.items ∙ ap (λ (x : Step). rest ++ record c.in-Some.edit { step = x } ∷ []) c.in-Err.ensures.kept.0 ∙ sym was),
      refl,
    )
