use Rattle.std.proofs.Common.{◌≡◌, ◌||◌, ℕ, List, drop}
use Rattle.sbl_rows.specs.Changes.{is_from_one}
use Rattle.sbl_rows.specs.Classes.{view_stem_classes}
use Rattle.sbl_rows.specs.KnownOutcomes.{has_text}
use Rattle.sbl_rows.proofs.class_changes.stems_from_one.Given as goal

-- the stems so far, and those of the classes still to come
abbrev pub invariant-loop-class : goal.invariant-loop-class
invariant-loop-class l = (stem : List ℕ) → (is_from_one (view_stem_classes (drop l.class-index l.classes)) stem || has_text l.stems stem) ≡ is_from_one (view_stem_classes l.classes) stem
