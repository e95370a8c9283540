use Rattle.std.proofs.Common.{◌≡◌, ◌∙◌, ◌≤◌, ◌<◌, ap, arith, false, length, nat_le, not, rules, tests}
use Rattle.std.specs.List.{list_any}
use Rattle.std.specs.Str.{bytes_eq}
use Rattle.sbl_input.proofs.WordListFacts.{few_room, full_room}
use Rattle.sbl_input.proofs.word_list.has_no_room.Goals as goal

pub returns-then-len-ge-MAX_WORDS : goal.returns-then-len-ge-MAX_WORDS
returns-then-len-ge-MAX_WORDS c =
    let keys = c.args.set.now.keys in
    let word = c.args.word.now in
    let full : 100000 ≤ length keys = omega (arith, c.len.ensures.len, c.if-len-ge-MAX_WORDS.true) in
    let same : c.contains.result ≡ list_any (λ k. bytes_eq word k.items) keys = search rules in
    ap not same ∙ full_room keys word full

pub returns-else-len-ge-MAX_WORDS : goal.returns-else-len-ge-MAX_WORDS
returns-else-len-ge-MAX_WORDS c =
    let few : length c.args.set.now.keys < 100000 = omega (arith, c.len.ensures.len, c.if-len-ge-MAX_WORDS.false) in
    let low : nat_le 100000 c.len.result ≡ false = grind (arith, tests, c.if-len-ge-MAX_WORDS.false) in
    low ∙ few_room c.args.set.now.keys c.args.word.now few
