use Rattle.std.proofs.Common.{◌≡◌, ◌∙◌, ◌++◌, ◌∷◌, [], ◌≤◌, ℕ, List, ap, arith, length, length-append}
use Rattle.std.specs.Prelude.{codes}
use Rattle.std.specs.Fmt.Cut.{cut_to}
use Rattle.std.specs.Fmt.InlineText.{inline_text}
use Rattle.snowbench.proofs.ListFacts.{cut_to_fits}
use Rattle.snowbench.proofs.program.line_of_fault.Goals as goal

pub returns : goal.returns
returns c =
    let name = codes "snowbench: " in
    let text = c.as_str.result.now in
    let first : inline_text c.and_str.result ≡ name =
    c.and_str.ensures.within (omega (arith, ap length c.new.ensures.text))
    ∙ ap (λ (l : List ℕ). l ++ cut_to 11 name) c.new.ensures.text ∙ cut_to_fits 11 name (omega arith) in
    let first_length : length (inline_text c.and_str.result) ≡ 11 = ap length first in
    let second : inline_text c.and_str-2.result ≡ name ++ text =
    c.and_str-2.ensures.within (omega (arith, first_length))
    ∙ ap (λ (l : List ℕ). l ++ cut_to 80 text) first ∙ ap (λ (l : List ℕ). name ++ l) (cut_to_fits 80 text c.as_str.ensures.len) in
    let second_length : length (inline_text c.and_str-2.result) ≤ 91 = omega (arith, ap length second, length-append name text, c.as_str.ensures.len) in (
      text,
      c.and_str-3.ensures.within (omega (arith, second_length))
          ∙ ap (λ (l : List ℕ). l ++ cut_to 1 (10 ∷ [])) second ∙ ap (λ (l : List ℕ). (name ++ text) ++ l) (cut_to_fits 1 (10 ∷ []) (omega arith)),
    )
