use Rattle.std.proofs.Common.{◌≡◌, ◌∙◌, ◌++◌, List, ap}
use Rattle.std.specs.List.{filter_map}
use Rattle.sbl_rows.specs.declared.stem_class.StemPair.{StemPair}
use Rattle.sbl_rows.specs.Changes as spec
use Rattle.sbl_rows.specs.Classes.{Class, Pair, pair_classes}
use Rattle.sbl_rows.specs.Moves.{moves_of, new_classes}
use Rattle.sbl_rows.specs.Rows.{Row}
use Rattle.sbl_rows.specs.ChangedRows.{outcome_in}
use Rattle.sbl_rows.specs.Views.{known_outcome, view_changes, view_stem_classes, view_pairs, view_rows}
use Rattle.sbl_rows.proofs.ChangeFacts.{six}
use Rattle.sbl_rows.proofs.compare.changes.Goals as goal

pub returns : goal.returns
returns c =
    let before : List Row = view_rows c.args.before.now in
    let after : List Row = view_rows c.args.after.now in
    let was : known_outcome c.in_ok-known_before.known_before ≡ outcome_in before = c.in_ok-known_before.ensures in
    let is : known_outcome c.in_ok-known_after.known_after ≡ outcome_in after = c.in_ok-known_after.ensures in
    let moves : List Pair = moves_of (outcome_in before) after in
    let moved : view_pairs c.in_ok-moves.moves.items ≡ moves = c.in_ok-moves.ensures ∙ (λ i. moves_of (was i) after) in
    let old : view_stem_classes c.in_ok-old.old.items ≡ pair_classes moves =
    c.in_ok-old.ensures ∙ ap (λ (ms : List StemPair). pair_classes (view_pairs ms)) c.deref.ensures.value ∙ ap pair_classes moved in
    let new : view_stem_classes c.in_ok-new.new.items ≡ new_classes moves = c.in_ok-new.ensures ∙ ap new_classes moved in
    let old-2 : view_stem_classes c.deref-2.result.now ≡ pair_classes moves = ap view_stem_classes c.deref-2.ensures.value ∙ old in
    let new-3 : view_stem_classes c.deref-3.result.now ≡ new_classes moves = ap view_stem_classes c.deref-3.ensures.value ∙ new in
    let old-4 : view_stem_classes c.deref-4.result.now ≡ pair_classes moves = ap view_stem_classes c.deref-4.ensures.value ∙ old in
    let new-5 : view_stem_classes c.deref-5.result.now ≡ new_classes moves = ap view_stem_classes c.deref-5.ensures.value ∙ new in
    six _ _ _ _ _ _ _ _ _ _ _ _ _ (ap view_changes c.new-changes.ensures.items)
    c.in_ok-push_lone.ensures c.in_ok-push_lone-2.ensures c.in_ok-push_changed.ensures
    c.in_ok-push_several.ensures c.in_ok-push_several-2.ensures c.in_ok-push_renamed.ensures
    ∙ (λ i.
    ((filter_map (λ (r : Row). spec.word_addition (was i r.word) r) after
    ++ filter_map (λ (r : Row). spec.word_removal (is i r.word) r) before)
    ++ filter_map (λ (r : Row). spec.outcome_change (was i r.word) r) after)
    ++ ((filter_map (λ (d : Class). spec.class_split d d.members) (old-2 i)
    ++ filter_map (λ (d : Class). spec.class_merger d d.members) (new-3 i))
    ++ filter_map (λ (d : Class). spec.class_renaming (new-5 i) d d.members) (old-4 i)))
