use Rattle.std.proofs.Common.{◌∙◌, sym, refl, inl, inr, Some, None}
use Rattle.sbl_text.specs.declared.fault.ScriptFault.TheVariants as fault
use Rattle.sbl_text.proofs.Spellings.{named_empty, named_one, named_code, named_other}
use Rattle.sbl_text.proofs.literals.character.Goals.{in-Some, in-None, else-u-eq85-via-then-u-eq85+else-plus-eq43, else-u-eq85-via-else-u-eq85}
use Rattle.sbl_text.proofs.literals.character.Goals as goal

pub returns-then-plus-eq43 : goal.returns-then-plus-eq43
returns-then-plus-eq43 c = elim c.match-code.branch [
  | in-Some w ↦ rw w.result-is (named_code c.args.inserts c.args.name.now c.u-item.result c.plus-item.result (Some w.in-Some.c) c.in-len2-up.len_at_least c.u-item.is c.plus-item.is c.if-u-eq85.true c.if-plus-eq43.true
      (sym w.in-Some.is ∙ c.code.ensures))
  | in-None w ↦ rw w.result-is (
    fault.BadCode,
    named_code c.args.inserts c.args.name.now c.u-item.result c.plus-item.result None c.in-len2-up.len_at_least c.u-item.is c.plus-item.is c.if-u-eq85.true c.if-plus-eq43.true
        (sym w.in-None.is ∙ c.code.ensures),
    refl,
  )
]

pub returns-in-empty : goal.returns-in-empty
returns-in-empty c = (fault.UnknownEscape, named_empty c.args.inserts c.args.name.now c.in-empty.len_below, refl)

pub returns-else-opens : goal.returns-else-opens
returns-else-opens c =
    (fault.UnknownEscape, named_one c.args.inserts c.args.name.now c.c-item.result c.in-len1.len_at_least c.in-len1.len_below c.c-item.is c.if-c-eq39.false (sym c.opens.ensures ∙ c.if-opens.false), refl)

pub returns-else-u-eq85 : goal.returns-else-u-eq85
returns-else-u-eq85 c = elim c.else-u-eq85.branch [
  | else-u-eq85-via-then-u-eq85+else-plus-eq43 w ↦ (fault.UnknownEscape, named_other c.args.inserts c.args.name.now c.u-item.result c.plus-item.result c.in-len2-up.len_at_least c.u-item.is c.plus-item.is (inr w.if-plus-eq43.false), refl)
  | else-u-eq85-via-else-u-eq85 w ↦ (fault.UnknownEscape, named_other c.args.inserts c.args.name.now c.u-item.result c.plus-item.result c.in-len2-up.len_at_least c.u-item.is c.plus-item.is (inl w.if-u-eq85.false), refl)
]
