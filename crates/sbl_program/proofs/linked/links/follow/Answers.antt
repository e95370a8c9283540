use Rattle.std.proofs.Common.{◌≡◌, ◌<◌, ◌≤◌, true, length, get_or, sym, ap, ◌∙◌, arith, Some, None}
use Rattle.std.specs.Prelude.{slice_get, nat_eq}
use Rattle.std.specs.List.{starts_with}
use Rattle.std.proofs.lemmas.Option.{slice_get-get_or}
use Rattle.sbl_semantics.specs.Fitting.{read_as}
use Rattle.sbl_program.specs.Linked.{Row, StandsAt, texts_of}
use Rattle.sbl_program.proofs.Chain.{down_below, down_row, match_stands_at, goes_on, some_at, stand_at}
use Rattle.sbl_program.proofs.Sorted.{part_at}
use Rattle.sbl_program.proofs.linked.links.follow.Goals as goal

pub returns-then-is_shorter_prefix-clause-last : goal.returns-then-is_shorter_prefix-clause-last
returns-then-is_shorter_prefix-clause-last c links stand =
    let inv = c.loop-at.invariant in
    let row = c.in-Some.row in
    let rows = c.args.rows.now in
    let r = get_or rows row c.index-rows-row.result in
    let x = read_as c.args.direction c.args.part.now in
    let less : row < c.args.count = some_at c.loop-at.at row (λ r. r < c.args.count) c.in-Some.is inv.1 in
    let inside : row < length rows = omega (arith, less, c.requires.linked, c.requires.long) in
    let st : StandsAt (texts_of rows) x c.args.below (Some row) = stand_at (texts_of rows) x c.args.below c.loop-at.at row c.in-Some.is (inv.0 links stand) in
    let at : slice_get (texts_of rows) row ≡ Some r.0.items = part_at (λ (r : Row). r.0.items) rows row r (slice_get-get_or rows row c.index-rows-row.result inside) in
    let yes = c.if-is_shorter_prefix.ensures in
    let prefix : starts_with nat_eq x r.0.items ≡ true = ap (λ y. starts_with nat_eq x y) (sym c.deref.ensures.value) ∙ yes.0 in
    let short : length r.0.items < c.args.below = omega (arith, yes.1, ap length c.deref.ensures.value) in
    match_stands_at (texts_of rows) x c.args.below row r.0.items st at prefix short

pub loop-at-smaller : goal.loop-at-smaller
loop-at-smaller c =
    let row = c.in-Some.row in
    let links = c.args.links.now in
    let less : row < c.args.count = some_at c.loop-at.at row (λ r. r < c.args.count) c.in-Some.is c.loop-at.invariant.1 in
    down_row links row (get_or links row None) c.loop-at.at c.requires.down (slice_get-get_or links row None (omega (arith, less, c.requires.linked))) c.in-Some.is

pub loop-at-preserved : goal.loop-at-preserved
loop-at-preserved c =
    let inv = c.loop-at.invariant in
    let row = c.in-Some.row in
    let rows = c.args.rows.now in
    let links = c.args.links.now in
    let r = get_or rows row c.index-rows-row.result in
    let x = read_as c.args.direction c.args.part.now in
    let less : row < c.args.count = some_at c.loop-at.at row (λ r. r < c.args.count) c.in-Some.is inv.1 in
    let inside : row < length rows = omega (arith, less, c.requires.linked, c.requires.long) in
    let at : slice_get (texts_of rows) row ≡ Some r.0.items = part_at (λ (r : Row). r.0.items) rows row r (slice_get-get_or rows row c.index-rows-row.result inside) in
    let link : slice_get links row ≡ Some (get_or links row None) = slice_get-get_or links row None (omega (arith, less, c.requires.linked)) in
    let unmet : starts_with nat_eq x r.0.items ≡ true → c.args.below ≤ length r.0.items = λ prefix.
    let f : starts_with nat_eq x c.deref.result.now ≡ true = ap (λ y. starts_with nat_eq x y) c.deref.ensures.value ∙ prefix in
    omega (arith, c.if-is_shorter_prefix.ensures f, ap length c.deref.ensures.value) in (
      (λ are stand.
          let st : StandsAt (texts_of rows) x c.args.below (Some row) = stand_at (texts_of rows) x c.args.below c.loop-at.at row c.in-Some.is (inv.0 are stand) in
          goes_on (texts_of rows) x c.args.below row r.0.items (get_or links row None) st at unmet (are row (get_or links row None) r.0.items link at)),
      down_below links row c.args.count (get_or links row None) c.requires.down link less,
    )
