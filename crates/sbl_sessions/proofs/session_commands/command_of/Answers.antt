use Rattle.std.proofs.Common.{◌≡◌, ◌∙◌, arith, rules, refl, sym, ap, List, [], ◌∷◌, ℕ, true, false, length, Bool, ◌≢◌}
use Rattle.std.specs.Str.{IsUtf8, is_utf8}
use Rattle.std.proofs.lemmas.Str.{IsUtf8-from_is_utf8, is_utf8-from_IsUtf8}
use Rattle.sbl_sessions.specs.Commands as spec
use Rattle.sbl_sessions.specs.inside.SessionParts as names
use Rattle.sbl_sessions.proofs.CommandFacts.{by_tables}
use Rattle.sbl_sessions.proofs.session_commands.command_of.Goals as goal

of_none : (line : List ℕ) → length line ≡ 0 → names.Nothing ≡ spec.line_command line
unfolding spec.line_command
of_none [] e = refl
of_none (b ∷ line) e = absurd (omega arith)

of_text : (line : List ℕ) → length line ≢ 0 → IsUtf8 line → spec.line_command line ≡ spec.text_command line
unfolding spec.line_command
of_text [] some utf8 = absurd (some refl)
of_text (b ∷ line) some utf8 = rw (is_utf8-from_IsUtf8 (b ∷ line) utf8) refl

of_bytes : (line : List ℕ) → length line ≢ 0 → ¬ (IsUtf8 line) → spec.line_command line ≡ spec.Bad
unfolding spec.line_command
of_bytes [] some not = absurd (some refl)
of_bytes (b ∷ line) some not = by (is_utf8 (b ∷ line)) refl
  where
    by : (t : Bool) → is_utf8 (b ∷ line) ≡ t → spec.line_command (b ∷ line) ≡ spec.Bad
    by true e = absurd (not (IsUtf8-from_is_utf8 (b ∷ line) e))
    by false e = rw e refl

pub returns-then-is_empty : goal.returns-then-is_empty
returns-then-is_empty c = of_none c.args.line.now (search rules)

pub returns-in-Ok : goal.returns-in-Ok
returns-in-Ok c =
    c.text_command.ensures ∙ ap names.tested_command c.in-Ok.ensures.cases.0 ∙ sym (by_tables c.args.line.now) ∙ sym (of_text c.args.line.now (search rules) c.in-Ok.ensures.cases.1)

pub returns-in-Err : goal.returns-in-Err
returns-in-Err c = sym (of_bytes c.args.line.now (search rules) c.in-Err.ensures.cases.0)
