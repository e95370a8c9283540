use Rattle.std.proofs.Common.{◌≡◌, ◌∙◌, List, ℕ, Option, ap}
use Rattle.std.specs.Option.{option_and_then}
use Rattle.std.proofs.lemmas.Str.{is_utf8-from_IsUtf8}
use Rattle.sbl_ast.specs.NamedParts.{Part'}
use Rattle.sbl_sessions.specs.Requests.{block_word}
use Rattle.sbl_sessions.specs.Words.{command_word}
use Rattle.sbl_sessions.proofs.CommandFacts.{named_by, target_of_text}
use Rattle.sbl_sessions.proofs.session_commands.part_of.Goals as goal

pub returns : goal.returns
returns c =
    let line = c.args.line.now in
    let given = c.argument_of.result.now in
    let word : c.command_word.result.now ≡ command_word line = c.command_word.ensures ∙ ap command_word c.as_bytes.ensures.value in
    named_by c.in_ok-part_by.field-0 (block_word c.command_word.result.now) given c.in_ok-part_by.ensures
    ∙ ap (λ (w : List ℕ). option_and_then (λ (names : List ℕ → Option Part'). names given) (block_word w)) word
    ∙ ap (λ (a : List ℕ). option_and_then (λ (names : List ℕ → Option Part'). names a) (block_word (command_word line))) c.argument_of.ensures
    ∙ target_of_text line (is_utf8-from_IsUtf8 line c.utf8.line)
