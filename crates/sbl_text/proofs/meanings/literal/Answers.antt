use Rattle.std.proofs.Common.{rules, refl, ◌≡◌, ◌∙◌}
use Rattle.std.specs.Str.{chars}
use Rattle.std.proofs.lemmas.Str.{chars_from_encodes}
use Rattle.sbl_text.proofs.Nexts.{letters_closed, inner_room, told_literal, wrong_literal}
use Rattle.sbl_text.proofs.meanings.literal.Goals as goal

pub literal_value-requires-clause-closed : goal.literal_value-requires-clause-closed
literal_value-requires-clause-closed c =
    let items : c.in_ok-letters.letters.items ≡ chars c.between_quotes-spelling.result.now = search (rules, chars_from_encodes) in
    letters_closed c.args.state.now.escapes c.escapes.result.now c.deref.result.now c.requires.has.0 c.escapes.ensures
    (c.deref.ensures.value ∙ items ∙ c.between_quotes-spelling.ensures.characters c.requires.has.0 c.requires.has.1) c.requires.has.2

pub literal_value-requires-clause-room : goal.literal_value-requires-clause-room
literal_value-requires-clause-room c =
    let items : c.in_ok-letters.letters.items ≡ chars c.between_quotes-spelling.result.now = search (rules, chars_from_encodes) in
    inner_room c.args.text.now c.deref.result.now c.requires.has.0 c.args.place c.utf8.text c.requires.has.1
    (c.deref.ensures.value ∙ items ∙ c.between_quotes-spelling.ensures.characters c.requires.has.0 c.requires.has.1) c.requires.room

pub returns-in-Ok : goal.returns-in-Ok
returns-in-Ok c =
    let items : c.in_ok-letters.letters.items ≡ chars c.between_quotes-spelling.result.now = search (rules, chars_from_encodes) in (
      told_literal c.args.state.now c.escapes.result.now (chars c.args.text.now) c.between_quotes-spelling.result.now c.deref.result.now c.requires.has.0 c.in-Ok.value.items c.escapes.ensures c.requires.has.1
          (c.between_quotes-spelling.ensures.bytes c.requires.has.0 c.requires.has.1)
          (c.deref.ensures.value ∙ items ∙ c.between_quotes-spelling.ensures.characters c.requires.has.0 c.requires.has.1) c.in-Ok.ensures,
      refl,
    )

pub returns : goal.returns
returns c =
    let items : c.in_ok-letters.letters.items ≡ chars c.between_quotes-spelling.result.now = search (rules, chars_from_encodes) in
    wrong_literal c.args.state.now c.escapes.result.now (chars c.args.text.now) c.deref.result.now c.requires.has.0 c.args.place c.in-Err.fault c.escapes.ensures c.requires.has.1
    (c.deref.ensures.value ∙ items ∙ c.between_quotes-spelling.ensures.characters c.requires.has.0 c.requires.has.1) c.in-Err.ensures
