use Rattle.std.proofs.Common.{◌≡◌, ◌≤◌, ℕ, ◌+◌, ◌-◌, ◌/◌, ◌<◌, Bool, true, false, List, length, get_or, sym, ap, ◌∙◌, arith, rules, Some}
use Rattle.std.specs.Prelude.{slice_get}
use Rattle.std.specs.Ordering.{is_gt, nat_cmp}
use Rattle.std.specs.Cmp.Lexicographic.{slice_cmp}
use Rattle.std.proofs.lemmas.Option.{slice_get-get_or}
use Rattle.sbl_semantics.specs.Fitting.{read_as}
use Rattle.sbl_program.specs.Linked.{Row, texts_of}
use Rattle.sbl_program.proofs.Keys.{key_at}
use Rattle.sbl_program.proofs.Sorted.{before_middle, after_middle, part_at}
use Rattle.sbl_program.proofs.linked.links.count_before.Goals as goal

-- the row in the middle of a part of some rows
middle : (rows : List Row) (low high : ℕ) (d : Row) → low < high → high ≤ length rows →
    (low + (high - low) / 2 < high) × (slice_get (texts_of rows) (low + (high - low) / 2) ≡ Some (get_or rows (low + (high - low) / 2) d).0.items)
middle rows low high d more most =
    let m = low + (high - low) / 2 in
    let less : m < high = omega (arith, more) in
    let inside : m < length rows = omega (arith, less, most) in
    (less, part_at (λ (r : Row). r.0.items) rows m (get_or rows m d) (slice_get-get_or rows m d inside))

-- whether it is after a text, by what a test of it said
is_after : (x : List ℕ) (tested row : Row) (result b : Bool) → tested ≡ row → result ≡ is_gt (slice_cmp nat_cmp tested.0.items x) → result ≡ b → is_gt (slice_cmp nat_cmp row.0.items x) ≡ b
is_after x tested row result b is says so = ap (λ (r : Row). is_gt (slice_cmp nat_cmp r.0.items x)) (sym is) ∙ sym says ∙ so

pub loop-low-preserved-then-is_row_after : goal.loop-low-preserved-then-is_row_after
loop-low-preserved-then-is_row_after c =
    let inv = c.loop-low.invariant in
    let q = middle c.args.rows.now c.loop-low.low c.loop-low.high c.index-rows-middle.result (omega (arith, c.loop-low-test.true)) inv.1 in
    let after = is_after (read_as c.args.direction c.args.part.now) c.index-rows-middle.result _ c.is_row_after.result true c.index-rows-middle.is c.is_row_after.ensures (search rules) in
    (omega arith, omega (arith, q.0, inv.1), inv.2, λ j v l s. after_middle (texts_of c.args.rows.now) (read_as c.args.direction c.args.part.now) _ _ c.requires.rise q.1 after j v l s)

pub loop-low-preserved : goal.loop-low-preserved
loop-low-preserved c =
    let inv = c.loop-low.invariant in
    let q = middle c.args.rows.now c.loop-low.low c.loop-low.high c.index-rows-middle.result (omega (arith, c.loop-low-test.true)) inv.1 in
    let not = is_after (read_as c.args.direction c.args.part.now) c.index-rows-middle.result _ c.is_row_after.result false c.index-rows-middle.is c.is_row_after.ensures (search rules) in
    (omega (arith, q.0), inv.1, (λ j v l s. before_middle (texts_of c.args.rows.now) (read_as c.args.direction c.args.part.now) _ _ c.requires.rise q.1 not j v (omega (arith, l)) s), inv.3)

pub is_row_after-requires-clause-keyed : goal.is_row_after-requires-clause-keyed
is_row_after-requires-clause-keyed c =
    let m = c.loop-low.low + (c.loop-low.high - c.loop-low.low) / 2 in
    let rows = c.args.rows.now in
    let row = c.index-rows-middle.result in
    let more : c.loop-low.low < c.loop-low.high = omega (arith, c.loop-low-test.true) in
    let inside : m < length rows = omega (arith, more, c.loop-low.invariant.1) in
    let there : slice_get rows m ≡ Some row = slice_get-get_or rows m row inside ∙ ap Some (sym c.index-rows-middle.is) in
    key_at (texts_of rows) c.args.keys.now m 0 row.0.items c.requires.keyed (part_at (λ (r : Row). r.0.items) rows m row there)
