use Rattle.std.proofs.Common.{rules, ◌≡◌, ◌∙◌, List, ℕ, Bool, true, false, ap, refl, subst}
use Rattle.std.proofs.lemmas.Str.{IsUtf8-from_is_utf8}
use Rattle.std.specs.Str.{IsUtf8, chars, is_utf8}
use Rattle.sbl_batch.specs.HeldRows.{PushesRow}
use Rattle.sbl_batch.proofs.filtering.filter_line.Goals as goal

of_bytes : (line : List ℕ) → ¬ (IsUtf8 line) → is_utf8 line ≡ false
of_bytes line none = by (is_utf8 line) refl
  where
    by : (t : Bool) → is_utf8 line ≡ t → is_utf8 line ≡ false
    by true e = absurd (none (IsUtf8-from_is_utf8 line e))
    by false e = e

pub returns-in_default-clause-pushes : goal.returns-in_default-clause-pushes
returns-in_default-clause-pushes c = λ s made. (of_bytes c.args.line.now c.in_default.ensures.cases.0, refl)

pub filter_word-filtered-requires-clause-is : goal.filter_word-filtered-requires-clause-is
filter_word-filtered-requires-clause-is c = c.deref.ensures.value ∙ c.in_ok-put_characters.ensures

pub returns-clause-pushes : goal.returns-clause-pushes
returns-clause-pushes c = λ s made.
    subst (λ (w : List ℕ). PushesRow s w c.args.rows.now.text.items c.filter_word-filtered.new.rows.text.items c.filter_word-filtered.result) c.in-Ok.ensures.cases.0
    (c.filter_word-filtered.ensures.pushes s made)
