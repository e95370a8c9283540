use Rattle.std.proofs.Common.{◌∙◌, take, ap, sym}
use Rattle.std.specs.List.{take-map}
use Rattle.sbl_rows.specs.Classes.{view_stem_class, view_stem_classes}
use Rattle.sbl_rows.specs.Largest.{by_size}
use Rattle.sbl_rows.proofs.largest.largest_classes.Goals as goal

pub returns : goal.returns
returns c =
    ap view_stem_classes c.truncate.ensures.items
    ∙ sym (take-map view_stem_class c.args.n c.in_ok-largest.largest.items)
    ∙ ap (take c.args.n) (c.in_ok-largest.ensures ∙ c.in_ok-ranking.ensures ∙ ap by_size c.in_ok-classes.ensures)
