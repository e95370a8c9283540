use Rattle.std.proofs.Common.{rules, ◌≡◌, ◌<◌, ◌+◌, true, false, sym, ap, ◌∙◌, arith, get_or, length}
use Rattle.std.proofs.lemmas.Grind.{common_steps}
use Rattle.std.proofs.lemmas.List.Sums.{count_by_more_no, count_by_more_yes}
use Rattle.sbl_source_map.specs.Positions.{is_line_feed}
use Rattle.sbl_source_map.proofs.LastLines.{at_line_feed, at_character, at_other, few}
use Rattle.sbl_text_rows.proofs.rulers.position_at.Goals.{then-text-i-eq10, else-text-i-eq10+then-begins_character, else-text-i-eq10+else-begins_character}
use Rattle.sbl_text_rows.proofs.rulers.position_at.Goals as goal

pub overflow_add-column : goal.overflow_add-column
overflow_add-column c = grind (arith, common_steps, few)

pub loop-i-preserved : goal.loop-i-preserved
loop-i-preserved c =
    let text = c.args.text.now in
    let i = c.loop-i.i in
    let there : i < length text = grind (arith, common_steps) in
    let line = c.loop-i.invariant.0 in
    elim c.if-text-i-eq10.branch [
      | then-text-i-eq10 w ↦
          let feed : is_line_feed (get_or text i 0) ≡ true = search rules in
          let h = at_line_feed text i 0 there feed in
          (w.line-is ∙ ap (λ n. n + 1) (line ∙ sym (count_by_more_yes is_line_feed text i 0 there feed)), w.column-is ∙ ap (λ n. n + 1) (sym h))
      | else-text-i-eq10+then-begins_character w ↦
          let other : is_line_feed (get_or text i 0) ≡ false = grind arith in
          let h = at_character text i 0 there other (sym w.begins_character.ensures ∙ w.if-begins_character.true) in
          (w.line-is ∙ line ∙ ap (λ n. n + 1) (sym (count_by_more_no is_line_feed text i 0 there other)), w.column-is ∙ ap (λ n. n + 1) (c.loop-i.invariant.1 ∙ sym h))
      | else-text-i-eq10+else-begins_character w ↦
          let other : is_line_feed (get_or text i 0) ≡ false = grind arith in
          let h = at_other text i 0 there other (sym w.begins_character.ensures ∙ w.if-begins_character.false) in
          (w.line-is ∙ line ∙ ap (λ n. n + 1) (sym (count_by_more_no is_line_feed text i 0 there other)), w.column-is ∙ c.loop-i.invariant.1 ∙ ap (λ n. n + 1) (sym h))
    ]
