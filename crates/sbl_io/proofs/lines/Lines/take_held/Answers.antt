use Rattle.std.proofs.Common.{◌≡◌, ◌<◌, ◌+◌, ◌-◌, ◌∙◌, ◌++◌, rules, arith, take, length, length-take-le, get_or, refl, sym, ◌≤◌}
use Rattle.std.specs.Prelude.{slice_range}
use Rattle.std.proofs.KnownBytes.{Consumes-trans}
use Rattle.sbl_io.specs.HeldInput.{line_of}
use Rattle.sbl_io.specs.inside.LineSteps.{NoFeed}
use Rattle.sbl_io.proofs.Bytes.{no_feed_append, no_feed_prefix, take_many}
use Rattle.sbl_io.proofs.HeldFacts.{byte-held, feed-inside}
use Rattle.sbl_io.proofs.lines.Lines.take_held.Goals as goal

pub returns-clause-takes : goal.returns-clause-takes
returns-clause-takes g c whole before =
    let self = c.args.self.now in
    let n = c.min-count.result in
    let part = take n (slice_range self.chunk.items self.at self.end) in
    let line : c.extend_from_slice.new.self.items ≡ line_of self ++ part = search rules in
    rw line (Consumes-trans _ _ _ _ _ before (take_many self.chunk.items self.at self.end n _ (search rules)))

pub returns-clause-no_feed : goal.returns-clause-no_feed
returns-clause-no_feed g c before =
    let self = c.args.self.now in
    let held = slice_range self.chunk.items self.at self.end in
    let n = c.min-count.result in
    let prefix : n ≤ c.first_feed.result = search rules in
    let line : c.extend_from_slice.new.self.items ≡ line_of self ++ take n held = search rules in
    rw line (no_feed_append (line_of self) (take n held) before (no_feed_prefix n c.first_feed.result held prefix (search rules)))

pub returns-clause-feed : goal.returns-clause-feed
returns-clause-feed g c empty has =
    let self = c.args.self.now in
    let held = slice_range self.chunk.items self.at self.end in
    let n = c.first_feed.result in
    let free : NoFeed (take n held) = search rules in
    let inside : n < length held = feed-inside held n free has in
    let size : length held ≡ self.end - self.at = search rules in
    let within : n < length (slice_range c.deref.result.now self.at self.end) = rw c.deref.ensures.value inside in
    let is : get_or held n 0 ≡ 10 = rw c.deref.ensures.value at (c.first_feed.ensures.feed within) in
    let none : length (line_of self) ≡ 0 = rw empty refl in
    let count : c.min-count.result ≡ n = omega (arith, inside, size, none, c.min-count.ensures, c.len.ensures, self.in_chunk, self.whole) in
    let before : self.at + n < self.end = omega (arith, inside, size) in
    let line : c.extend_from_slice.new.self.items ≡ line_of self ++ take c.min-count.result held = search rules in
    let short : length c.extend_from_slice.new.self.items ≤ 65536 = rw (line, empty) (omega (arith, length-take-le c.min-count.result held, count, inside, size, self.in_chunk, self.whole)) in
    rw count (before, sym (byte-held self.chunk.items self.at self.end n (omega (arith, inside, size))) ∙ is, short)
