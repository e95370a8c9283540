use Rattle.std.proofs.Common.{◌≡◌, ◌++◌, drop, map}
use Rattle.sbl_rows.specs.Classes.{Class, view_stem_classes, texts_of}
use Rattle.sbl_rows.proofs.family_rows.class_stems.Given as goal

-- the stems so far, and those of the classes still to come
abbrev pub invariant-loop-class : goal.invariant-loop-class
invariant-loop-class l =
    texts_of l.stems.items ++ map (λ (c : Class). c.stem) (view_stem_classes (drop l.class-index l.classes))
    ≡ map (λ (c : Class). c.stem) (view_stem_classes l.classes)
