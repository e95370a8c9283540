use Rattle.std.proofs.Common.{◌++◌, ◌∷◌, [], map, ap, ◌∙◌, Vec, Global, ℕ}
use Rattle.std.proofs.lemmas.List.{map-append}
use Rattle.sbl_program.proofs.plain.add.Goals as goal

pub returns : goal.returns
returns c =
    let g = λ (v : Vec ℕ Global). v.items in
    let old = c.args.copies.now.items in
    ap (map g) c.in_ok-push.ensures.items ∙ map-append g old (c.in_ok-copy_string.field-0 ∷ []) ∙ ap (λ w. map g old ++ (w ∷ [])) c.in_ok-copy_string.ensures
