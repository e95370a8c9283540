use Rattle.std.proofs.Common.{◌<◌, ◌^◌, length, arith}
use Rattle.sbl_rows.specs.Families.{same_stem}
use Rattle.sbl_rows.specs.Grouping.{view_pairs}
use Rattle.sbl_rows.proofs.PairNumbers.{pairs-le, together-fit}
use Rattle.sbl_rows.proofs.family_pairs.count_family.Goals as goal

pub overflow_add-tally : goal.overflow_add-tally
overflow_add-tally c =
    let words = c.extend_from_slice.new.self in
    let small : length words.items < 2 ^ 64 = let k = words.ok.0 in let s = words.small in omega arith in
    let fit = together-fit c.args.tally.now.words.items c.args.family.now words.items c.in_ok-extend_from_slice.ensures.items small in
    let within = c.requires.within in
    let more = c.all_pairs.ensures in
    omega arith

pub overflow_add-tally-2 : goal.overflow_add-tally-2
overflow_add-tally-2 c =
    let words = c.extend_from_slice.new.self in
    let small : length words.items < 2 ^ 64 = let k = words.ok.0 in let s = words.small in omega arith in
    let fit = together-fit c.args.tally.now.words.items c.args.family.now words.items c.in_ok-extend_from_slice.ensures.items small in
    let le = pairs-le same_stem (view_pairs c.args.family.now) in
    let before = c.requires.same in
    let more = c.in_ok-tally.ensures in
    omega arith
