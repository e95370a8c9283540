use Rattle.std.proofs.Common.{string_bytes, ap, ◌∙◌, List, ℕ, [], ◌∷◌, ◌++◌, refl, append_assoc}
use Rattle.sbl_ast.specs.Terminal as t
use Rattle.sbl_ast.specs.View.{view_literal}
use Rattle.sbl_print.proofs.Adding.{if_put, one_more}
use Rattle.sbl_print.proofs.tokens.put_literal.Goals as goal

pub returns : goal.returns
returns c =
    let old = string_bytes c.args.out.now in
    let between = string_bytes c.push_str-2.new.self in
    let new = string_bytes c.push_str-3.new.self in
    let text = c.as_str.result.now in
    let spelling = (view_literal c.args.literal.now).spelling in
    if_put c.push_str-3.result between new (39 ∷ []) c.push_str-3.ensures.bytes
    (λ h. one_more old new (39 ∷ (spelling ++ 39 ∷ [])) (t.literal (view_literal c.args.literal.now))
    (
    h
    ∙ ap (λ (x : List ℕ). x ++ 39 ∷ [])
    (
    c.in_ok-push_str-2.ensures.bytes ∙ ap (λ (x : List ℕ). x ++ text) c.in_ok-push_str.ensures.bytes ∙ append_assoc old (32 ∷ 39 ∷ []) text
    ∙ ap (λ (x : List ℕ). old ++ 32 ∷ 39 ∷ x) c.as_str.ensures.value
    )
    ∙ append_assoc old (32 ∷ 39 ∷ spelling) (39 ∷ [])
    )
    refl)
