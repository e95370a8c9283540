use Rattle.std.proofs.Common.{rules, length, length-append, arith, ap, refl, ◌≡◌, ◌≢◌, ◌∙◌, ◌++◌, [], ◌∷◌, List, ℕ, true}
use Rattle.std.specs.Result.{is_ok}
use Rattle.std.specs.Io.KnownBytes.{Consumes}
use Rattle.std.proofs.KnownBytes.{Consumes-trans}
use Rattle.sbl_io.specs.Devices.{Tally}
use Rattle.sbl_io.specs.HeldInput.{line_of, input_of}
use Rattle.sbl_io.proofs.Bytes.{no_feed_push}
use Rattle.sbl_io.proofs.HeldFacts.{some_is}
use Rattle.sbl_io.proofs.lines.Lines.take_line.Goals as goal

pub loop-byte-preserved : goal.loop-byte-preserved
loop-byte-preserved g c =
    let left = g.R.Source.left in
    let held = c.take_held.new.self in
    let same = c.take_held.ensures.same in
    let invariant = c.loop-byte.invariant in
    let step : Consumes (input_of left held) (input_of left c.next_byte.new.self) (c.in-Some.byte ∷ []) = rw c.in-Some.is at c.in_ok-next_byte.ensures.byte in
    let ok : is_ok c.push.result ≡ true = search rules in
    let line : c.push.new.self.items ≡ line_of held ++ c.in-Some.byte ∷ [] = (rw ok at c.push.ensures.items) ∙ ap (λ (l : List ℕ). l ++ c.in-Some.byte ∷ []) c.next_byte.ensures.line in
    let other : c.in-Some.byte ≢ 10 = search rules in
    let falls = rw c.in-Some.is at c.in_ok-next_byte.ensures.falls in (
      rw line (Consumes-trans _ _ _ _ _ (c.take_held.ensures.takes _ invariant.0) step),
      rw line (no_feed_push _ _ (c.take_held.ensures.no_feed invariant.1) other),
      search rules,
      c.in_ok-next_byte.ensures.steady ∙ ap (λ (t : Tally). t.failures) (ap g.R.Source.tally same.0) ∙ invariant.3,
      c.next_byte.ensures.fault ∙ same.3 ∙ invariant.4,
      omega (arith, length-append {A = ℕ}, falls, ap length line, ap length c.next_byte.ensures.line, c.take_held.ensures.fuel),
      search rules,
      search rules,
      search rules,
      search rules,
      λ has.
          let so = invariant.10 has in
          let feed = c.take_held.ensures.feed so.2 so.0 in
          let is = rw c.in-Some.is at (c.in_ok-next_byte.ensures.held feed.0).0 in
          let ten : c.in-Some.byte ≡ 10 = some_is is ∙ feed.1 in
          absurd (other ten),
    )

pub returns-then-len-gt-MAX_LINE-clause-takes : goal.returns-then-len-gt-MAX_LINE-clause-takes
returns-then-len-gt-MAX_LINE-clause-takes g c =
    let left = g.R.Source.left in
    let held = c.take_held.new.self in
    let byte = c.in-Some.byte in
    let step : Consumes (input_of left held) (input_of left c.next_byte.new.self) (byte ∷ []) = rw c.in-Some.is at c.in_ok-next_byte.ensures.byte in
    let other : byte ≢ 10 = search rules in
    (search rules, byte, other, rw c.next_byte.ensures.line (Consumes-trans _ _ _ _ _ (c.take_held.ensures.takes _ c.loop-byte.invariant.0) step))

pub returns-in_err-next_byte-clause-held : goal.returns-in_err-next_byte-clause-held
returns-in_err-next_byte-clause-held g c = λ has.
    let so = c.loop-byte.invariant.10 has in
    let feed = c.take_held.ensures.feed so.2 so.0 in
    let is = (c.in_err-next_byte.ensures.held feed.0).0 in cc is

pub returns-in-None-clause-held : goal.returns-in-None-clause-held
returns-in-None-clause-held g c = λ has.
    let so = c.loop-byte.invariant.10 has in
    let feed = c.take_held.ensures.feed so.2 so.0 in
    let is = rw c.in-None.is at (c.in_ok-next_byte.ensures.held feed.0).0 in cc is

pub returns-in-Some-eq10-clause-held : goal.returns-in-Some-eq10-clause-held
returns-in-Some-eq10-clause-held g c = λ has.
    let so = c.loop-byte.invariant.10 has in
    let feed = c.take_held.ensures.feed so.2 so.0 in
    let reader = (c.in_ok-next_byte.ensures.held feed.0).1 in
    (refl, reader ∙ c.take_held.ensures.same.0 ∙ so.1, rw c.next_byte.ensures.line feed.2)

pub returns-then-len-gt-MAX_LINE-clause-held : goal.returns-then-len-gt-MAX_LINE-clause-held
returns-then-len-gt-MAX_LINE-clause-held g c = λ has.
    let so = c.loop-byte.invariant.10 has in
    let feed = c.take_held.ensures.feed so.2 so.0 in
    let is = rw c.in-Some.is at (c.in_ok-next_byte.ensures.held feed.0).0 in
    let ten : c.in-Some.byte ≡ 10 = some_is is ∙ feed.1 in
    let other : c.in-Some.byte ≢ 10 = search rules in
    absurd (other ten)
