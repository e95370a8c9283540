use Rattle.std.proofs.Common.{◌≡◌, ℕ, ◌-◌, ◌<◌, ◌≤◌, true, false, List, length, sym, ap, ◌∙◌, arith, rules, Some, get_or}
use Rattle.std.specs.Prelude.{slice_get}
use Rattle.std.proofs.lemmas.List.{length-map}
use Rattle.std.proofs.lemmas.Option.{slice_get-get_or}
use Rattle.sbl_semantics.specs.Fitting.{read_as}
use Rattle.sbl_program.specs.Linked.{Row, texts_of}
use Rattle.sbl_program.proofs.Keys.{after_by_key, key_at, keys_rise}
use Rattle.sbl_program.proofs.Sorted.{after_middle, before_middle, part_at}
use Rattle.sbl_program.proofs.linked.links.count_upto.Goals as goal

pub keys_upto-count-requires : goal.keys_upto-count-requires
keys_upto-count-requires c = keys_rise (texts_of c.args.rows.now) c.args.keys.now c.requires.rise c.requires.keyed

-- the last row of those whose keys are not greater
row_there : (rows : List Row) (keys : List ℕ) (count : ℕ) (row : Row) → length keys ≡ length (texts_of rows) → count ≤ length keys → (count ≡ 0 → ⊥) → row ≡ get_or rows (count - 1) row → slice_get (texts_of rows) (count - 1) ≡ Some row.0.items
row_there rows keys count row long within some is =
    let inside : count - 1 < length rows = omega (arith, long, within, some, length-map rows (λ (r : Row). r.0.items)) in
    let there : slice_get rows (count - 1) ≡ Some row = slice_get-get_or rows (count - 1) row inside ∙ ap Some (sym is) in
    part_at (λ (r : Row). r.0.items) rows (count - 1) row there

pub is_row_after-requires-clause-keyed : goal.is_row_after-requires-clause-keyed
is_row_after-requires-clause-keyed c =
    let count = c.keys_upto-count.result in
    let row = c.index-rows-count.result in
    let at = row_there c.args.rows.now c.args.keys.now count row c.requires.keyed.long c.keys_upto-count.ensures.inside (λ e. omega (arith, e, c.if-count-eq0.false)) c.index-rows-count.is in
    key_at (texts_of c.args.rows.now) c.args.keys.now (count - 1) 0 row.0.items c.requires.keyed at

pub count_before-requires-clause-following : goal.count_before-requires-clause-following
count_before-requires-clause-following c =
    let count = c.keys_upto-count.result in
    let rows = c.args.rows.now in
    let row = c.index-rows-count.result in
    let x = read_as c.args.direction c.args.part.now in
    let at = row_there rows c.args.keys.now count row c.requires.keyed.long c.keys_upto-count.ensures.inside (λ e. omega (arith, e, c.if-count-eq0.false)) c.index-rows-count.is in
    let b : c.is_row_after.result ≡ true = search rules in
    after_middle (texts_of rows) x row.0.items (count - 1) c.requires.rise at (sym c.is_row_after.ensures ∙ b)

pub returns-then-count-eq0 : goal.returns-then-count-eq0
returns-then-count-eq0 c = record {
  inside = omega arith;
  before = λ j v l. absurd (omega (arith, l));
  following = λ j v l s. after_by_key (texts_of c.args.rows.now) c.args.keys.now (read_as c.args.direction c.args.part.now) c.key_of-key.result c.keys_upto-count.result c.key_of-key.ensures c.requires.keyed c.keys_upto-count.ensures j v (omega (arith, c.if-count-eq0.true)) s;
}

pub returns : goal.returns
returns c =
    let count = c.keys_upto-count.result in
    let rows = c.args.rows.now in
    let row = c.index-rows-count.result in
    let x = read_as c.args.direction c.args.part.now in
    let at = row_there rows c.args.keys.now count row c.requires.keyed.long c.keys_upto-count.ensures.inside (λ e. omega (arith, e, c.if-count-eq0.false)) c.index-rows-count.is in
    let b : c.is_row_after.result ≡ false = search rules in record {
      inside = omega (arith, c.requires.keyed.long, c.keys_upto-count.ensures.inside);
      before = λ j v l s. before_middle (texts_of rows) x row.0.items (count - 1) c.requires.rise at (sym c.is_row_after.ensures ∙ b) j v (omega (arith, l)) s;
      following = after_by_key (texts_of rows) c.args.keys.now x c.key_of-key.result count c.key_of-key.ensures c.requires.keyed c.keys_upto-count.ensures;
    }
