use Rattle.std.proofs.Common.{string_bytes, ap, ◌∙◌, List, ℕ, ◌++◌, append_assoc}
use Rattle.sbl_print.specs.Adding.{space}
use Rattle.sbl_print.proofs.Adding.{if_put, one_more}
use Rattle.sbl_print.proofs.tokens.put.Goals as goal

pub returns : goal.returns
returns c =
    let old = string_bytes c.args.out.now in
    let between = string_bytes c.push_str.new.self in
    let new = string_bytes c.push_str-2.new.self in
    let text = c.args.text.now in
    if_put c.push_str-2.result between new text c.push_str-2.ensures.bytes
    (λ h x is. one_more old new text x (h ∙ ap (λ (b : List ℕ). b ++ text) c.in_ok-push_str.ensures.bytes ∙ append_assoc old space text) is)
