use Rattle.std.proofs.Common.{string_bytes, ap, ◌∙◌, List, ℕ, [], ◌++◌, refl, sym, append_assoc}
use Rattle.std.proofs.lemmas.List.{append-nil}
use Rattle.std.specs.Char.{encode_utf8}
use Rattle.sbl_ast.specs.Terminal as t
use Rattle.sbl_print.specs.Adding.{space}
use Rattle.sbl_print.proofs.Adding.{if_put, one_more}
use Rattle.sbl_print.proofs.tokens.put_inserts.Goals as goal

pub returns : goal.returns
returns c =
    let old = string_bytes c.args.out.now in
    let between = string_bytes c.push.new.self in
    let new = string_bytes c.push-2.new.self in
    let a = encode_utf8 c.args.a in
    let b = encode_utf8 c.args.b in
    if_put c.push-2.result between new b c.push-2.ensures.bytes
    (λ h. one_more old new (a ++ (b ++ [])) (t.inserts c.args.a c.args.b)
    (
    h ∙ ap (λ (x : List ℕ). x ++ b) (c.in_ok-push.ensures.bytes ∙ ap (λ (x : List ℕ). x ++ a) c.in_ok-push_str.ensures.bytes ∙ append_assoc old space a)
    ∙ append_assoc old (space ++ a) b
    ∙ ap (λ (x : List ℕ). old ++ (space ++ (a ++ x))) (sym (append-nil b))
    )
    refl)
