use Rattle.std.proofs.Common.{◌+◌, rules, sym, ap, ◌∙◌, arith}
use Rattle.std.proofs.lemmas.Grind.{common_steps}
use Rattle.sbl_source_map.proofs.LastLines.{at_line_feed, at_character, at_other, few}
use Rattle.sbl_source_map.proofs.positions.column_after.Goals.{then-byte-eq10, else-byte-eq10+then-begins_character, else-byte-eq10+else-begins_character}
use Rattle.sbl_source_map.proofs.positions.column_after.Goals as goal

pub overflow_add-column : goal.overflow_add-column
overflow_add-column c = grind (arith, common_steps, few)

pub loop-byte-preserved : goal.loop-byte-preserved
loop-byte-preserved c = elim c.if-byte-eq10.branch [
  | then-byte-eq10 w ↦ grind (arith, at_line_feed)
  | else-byte-eq10+then-begins_character w ↦
      let h = at_character c.args.bytes.now c.loop-byte.byte-index 0 (search rules) (grind arith) (sym w.begins_character.ensures ∙ w.if-begins_character.true) in
      w.column-is ∙ ap (λ n. n + 1) (c.loop-byte.invariant ∙ sym h)
  | else-byte-eq10+else-begins_character w ↦
      let h = at_other c.args.bytes.now c.loop-byte.byte-index 0 (search rules) (grind arith) (sym w.begins_character.ensures ∙ w.if-begins_character.false) in
      w.column-is ∙ c.loop-byte.invariant ∙ ap (λ n. n + 1) (sym h)
]
