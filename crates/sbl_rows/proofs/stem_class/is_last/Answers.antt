use Rattle.std.proofs.Common.{◌∙◌, ◌-◌, sym, refl, length}
use Rattle.sbl_rows.specs.Classes.{view_stem_class}
use Rattle.sbl_rows.proofs.LastFacts.{last_stem}
use Rattle.sbl_rows.proofs.stem_class.is_last.Goals as goal

pub returns-in-Some : goal.returns-in-Some
returns-in-Some c =
    c.eq.ensures ∙ sym (last_stem view_stem_class c.args.stem.now c.args.classes.now (length c.args.classes.now - 1) c.in-Some.class.now refl (sym c.in-Some.ensures.value))
