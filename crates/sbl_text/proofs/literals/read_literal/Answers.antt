use Rattle.std.proofs.Common.{rules, ◌≡◌, ◌∙◌, true, false, refl, inl, inr}
use Rattle.std.specs.Str.{chars}
use Rattle.std.proofs.lemmas.Str.{chars_from_encodes}
use Rattle.sbl_text.proofs.Parted.{closed_as, literal_read}
use Rattle.sbl_text.proofs.literals.read_literal.Goals as goal

pub returns-then-not-is_closed : goal.returns-then-not-is_closed
returns-then-not-is_closed c =
    let items : c.in_ok-letters.letters.items ≡ chars c.args.spelling.now = search (rules, chars_from_encodes) in
    inr (inl (closed_as c.args.escapes.now c.inserts.result c.deref.result.now (chars c.args.spelling.now) c.is_closed.result false c.inserts.ensures (c.deref.ensures.value ∙ items) c.is_closed.ensures c.if-not-is_closed.true, refl))

pub returns : goal.returns
returns c =
    let items : c.in_ok-letters.letters.items ≡ chars c.args.spelling.now = search (rules, chars_from_encodes) in
    literal_read (λ v. v.items) c.args.escapes.now c.deref-2.result.now (chars c.args.spelling.now) c.literal_value.result (c.deref-2.ensures.value ∙ items)
    (closed_as c.args.escapes.now c.inserts.result c.deref.result.now (chars c.args.spelling.now) c.is_closed.result true c.inserts.ensures (c.deref.ensures.value ∙ items) c.is_closed.ensures c.if-not-is_closed.false)
    c.literal_value.ensures
