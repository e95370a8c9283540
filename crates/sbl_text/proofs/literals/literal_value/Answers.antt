use Rattle.std.proofs.Common.{◌∙◌, ◌-◌, length, take, drop, refl, sym, arith}
use Rattle.std.specs.Char.{len_utf8}
use Rattle.std.proofs.lemmas.Result.{err_from_is_err_and}
use Rattle.sbl_text.proofs.Parted.{split_rest, plain_read, insert_taken, insertion_read, insertion_wrong, room_for_one, room_for_name, name_fits}
use Rattle.sbl_text.proofs.literals.literal_value.Goals as goal

pub overflow_add-at : goal.overflow_add-at
overflow_add-at c =
    let rest = c.loop-rest.rest.now in
    let following = take (length rest - 1) (drop 1 rest) in
    let h = room_for_one c.args.escapes.now c.args.spelling.now rest following c.loop-rest.value.items c.args.place c.loop-rest.at c.len_utf8-at.result c.c-item.result
    c.loop-rest.invariant (split_rest rest c.c-item.result c.in-len1-up.len_at_least c.c-item.is) c.len_utf8-at.ensures.value c.requires.room in omega (arith, h)

pub loop-rest-preserved-then-not-opens : goal.loop-rest-preserved-then-not-opens
loop-rest-preserved-then-not-opens c =
    let rest = c.loop-rest.rest.now in
    let following = take (length rest - 1) (drop 1 rest) in
    plain_read c.args.escapes.now c.inserts-inserts.result c.args.spelling.now rest following c.loop-rest.value.items c.push.new.self.items c.args.place c.loop-rest.at c.len_utf8-at.result c.c-item.result
    c.loop-rest.invariant c.inserts-inserts.ensures (split_rest rest c.c-item.result c.in-len1-up.len_at_least c.c-item.is) c.if-c-eq39.false (sym c.opens.ensures ∙ c.if-not-opens.true)
    c.in_ok-push.ensures.items c.len_utf8-at.ensures.value

pub returns-in_err-insert : goal.returns-in_err-insert
returns-in_err-insert c =
    let rest = c.loop-rest.rest.now in
    let following = take (length rest - 1) (drop 1 rest) in
    let t = insert_taken c.args.escapes.now c.inserts-inserts.result rest following c.in-Some.name.now c.in-Some.after.now c.c-item.result c.in-Some.closing
    c.inserts-inserts.ensures (split_rest rest c.c-item.result c.in-len1-up.len_at_least c.c-item.is) c.if-c-eq39.false (sym c.opens.ensures ∙ c.if-not-opens.false) c.in-Some.ensures in
    let p = err_from_is_err_and c.from_residual-in_err-insert.result c.from_residual-in_err-insert.ensures.1 in
    rw (p.1, p.2) (insertion_wrong c.args.escapes.now c.args.spelling.now rest c.in-Some.name.now c.in-Some.after.now c.loop-rest.value.items c.args.place c.loop-rest.at c.c-item.result c.in-Some.closing
    c.in_err-insert.field-0.0 c.loop-rest.invariant t c.in_err-insert.ensures)

pub bytes_of-requires : goal.bytes_of-requires
bytes_of-requires c =
    let rest = c.loop-rest.rest.now in
    let following = take (length rest - 1) (drop 1 rest) in
    let t = insert_taken c.args.escapes.now c.inserts-inserts.result rest following c.in-Some.name.now c.in-Some.after.now c.c-item.result c.in-Some.closing
    c.inserts-inserts.ensures (split_rest rest c.c-item.result c.in-len1-up.len_at_least c.c-item.is) c.if-c-eq39.false (sym c.opens.ensures ∙ c.if-not-opens.false) c.in-Some.ensures in
    name_fits c.args.escapes.now c.args.spelling.now rest c.in-Some.name.now c.in-Some.after.now c.loop-rest.value.items c.args.place c.loop-rest.at c.c-item.result c.in-Some.closing
    c.loop-rest.invariant t c.requires.room

pub overflow_add-at-in-len1-up : goal.overflow_add-at-in-len1-up
overflow_add-at-in-len1-up c =
    let rest = c.loop-rest.rest.now in
    let following = take (length rest - 1) (drop 1 rest) in
    let t = insert_taken c.args.escapes.now c.inserts-inserts.result rest following c.in-Some.name.now c.in-Some.after.now c.c-item.result c.in-Some.closing
    c.inserts-inserts.ensures (split_rest rest c.c-item.result c.in-len1-up.len_at_least c.c-item.is) c.if-c-eq39.false (sym c.opens.ensures ∙ c.if-not-opens.false) c.in-Some.ensures in
    let h = room_for_name c.args.escapes.now c.args.spelling.now rest c.in-Some.name.now c.in-Some.after.now c.loop-rest.value.items c.args.place c.loop-rest.at
    c.len_utf8.result c.bytes_of.result (len_utf8 c.in-Some.closing) c.c-item.result c.in-Some.closing c.loop-rest.invariant t c.len_utf8.ensures.value c.bytes_of.ensures refl c.requires.room in omega (arith, h)

pub overflow_add-at-in-len1-up-2 : goal.overflow_add-at-in-len1-up-2
overflow_add-at-in-len1-up-2 c =
    let rest = c.loop-rest.rest.now in
    let following = take (length rest - 1) (drop 1 rest) in
    let t = insert_taken c.args.escapes.now c.inserts-inserts.result rest following c.in-Some.name.now c.in-Some.after.now c.c-item.result c.in-Some.closing
    c.inserts-inserts.ensures (split_rest rest c.c-item.result c.in-len1-up.len_at_least c.c-item.is) c.if-c-eq39.false (sym c.opens.ensures ∙ c.if-not-opens.false) c.in-Some.ensures in
    let h = room_for_name c.args.escapes.now c.args.spelling.now rest c.in-Some.name.now c.in-Some.after.now c.loop-rest.value.items c.args.place c.loop-rest.at
    c.len_utf8.result c.bytes_of.result c.len_utf8-in-len1-up.result c.c-item.result c.in-Some.closing c.loop-rest.invariant t c.len_utf8.ensures.value c.bytes_of.ensures c.len_utf8-in-len1-up.ensures.value c.requires.room in omega (arith, h)

pub overflow_add-at-in-len1-up-3 : goal.overflow_add-at-in-len1-up-3
overflow_add-at-in-len1-up-3 c =
    let rest = c.loop-rest.rest.now in
    let following = take (length rest - 1) (drop 1 rest) in
    let t = insert_taken c.args.escapes.now c.inserts-inserts.result rest following c.in-Some.name.now c.in-Some.after.now c.c-item.result c.in-Some.closing
    c.inserts-inserts.ensures (split_rest rest c.c-item.result c.in-len1-up.len_at_least c.c-item.is) c.if-c-eq39.false (sym c.opens.ensures ∙ c.if-not-opens.false) c.in-Some.ensures in
    let h = room_for_name c.args.escapes.now c.args.spelling.now rest c.in-Some.name.now c.in-Some.after.now c.loop-rest.value.items c.args.place c.loop-rest.at
    c.len_utf8.result c.bytes_of.result c.len_utf8-in-len1-up.result c.c-item.result c.in-Some.closing c.loop-rest.invariant t c.len_utf8.ensures.value c.bytes_of.ensures c.len_utf8-in-len1-up.ensures.value c.requires.room in omega (arith, h)

pub loop-rest-preserved : goal.loop-rest-preserved
loop-rest-preserved c =
    let rest = c.loop-rest.rest.now in
    let following = take (length rest - 1) (drop 1 rest) in
    let t = insert_taken c.args.escapes.now c.inserts-inserts.result rest following c.in-Some.name.now c.in-Some.after.now c.c-item.result c.in-Some.closing
    c.inserts-inserts.ensures (split_rest rest c.c-item.result c.in-len1-up.len_at_least c.c-item.is) c.if-c-eq39.false (sym c.opens.ensures ∙ c.if-not-opens.false) c.in-Some.ensures in
    insertion_read c.args.escapes.now c.args.spelling.now rest c.in-Some.name.now c.in-Some.after.now c.loop-rest.value.items c.insert.new.value.items c.in_ok-insert.ensures.0 c.args.place c.loop-rest.at
    c.len_utf8.result c.bytes_of.result c.len_utf8-in-len1-up.result c.c-item.result c.in-Some.closing c.loop-rest.invariant t c.in_ok-insert.ensures.1 c.in_ok-insert.ensures.2
    c.len_utf8.ensures.value c.bytes_of.ensures c.len_utf8-in-len1-up.ensures.value
