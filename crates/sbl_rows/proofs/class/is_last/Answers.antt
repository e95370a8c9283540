use Rattle.std.proofs.Common.{◌∙◌, ◌-◌, ap, sym, refl, List, ℕ, length}
use Rattle.std.specs.Str.{bytes_eq}
use Rattle.sbl_rows.specs.Classes.{view_class}
use Rattle.sbl_rows.proofs.LastFacts.{last_stem}
use Rattle.sbl_rows.proofs.class.is_last.Goals as goal

pub returns-in-Some : goal.returns-in-Some
returns-in-Some c =
    c.eq.ensures ∙ ap (λ (s : List ℕ). bytes_eq s c.args.stem.now) c.as_slice.ensures.value
    ∙ sym (last_stem view_class c.args.stem.now c.args.classes.now (length c.args.classes.now - 1) c.in-Some.class.now refl (sym c.in-Some.ensures.value))
