use Rattle.std.proofs.Common.{◌≡◌, ◌<◌, length, get_or, refl, arith, Some, None}
use Rattle.std.specs.Prelude.{slice_get}
use Rattle.std.proofs.lemmas.List.{length-map}
use Rattle.std.proofs.lemmas.Option.{slice_get-get_or}
use Rattle.sbl_semantics.specs.Fitting.{read_as}
use Rattle.sbl_program.specs.Linked.{Row, numbers_of, texts_of}
use Rattle.sbl_program.proofs.Chain.{best_is, count_stands}
use Rattle.sbl_program.proofs.Sorted.{part_at}
use Rattle.sbl_program.proofs.linked.links.best_of.Goals as goal

pub returns-in-None : goal.returns-in-None
returns-in-None c strings linked =
    let rows = c.args.rows.now in
    let x = read_as c.args.direction c.args.part.now in
    let start = count_stands (texts_of rows) x c.args.below c.count_upto-count.result c.requires.rise c.count_upto-count.ensures in
    best_is strings (texts_of rows) (numbers_of rows) x c.args.below None None linked.rows_are refl (c.in-None.ensures.last linked.links_are start)

pub returns-in-Some : goal.returns-in-Some
returns-in-Some c strings linked =
    let rows = c.args.rows.now in
    let row = c.in-Some.row in
    let x = read_as c.args.direction c.args.part.now in
    let r = get_or rows row c.index-rows-row.result in
    let start = count_stands (texts_of rows) x c.args.below c.count_upto-count.result c.requires.rise c.count_upto-count.ensures in
    let less : row < c.count_upto-count.result = c.in-Some.ensures.inside in
    let inside : row < length rows = omega (arith, less, c.count_upto-count.ensures.inside, length-map rows (λ (r : Row). r.0.items)) in
    let at : slice_get (numbers_of rows) row ≡ Some r.1.0 = part_at (λ (r : Row). r.1.0) rows row r (slice_get-get_or rows row c.index-rows-row.result inside) in
    best_is strings (texts_of rows) (numbers_of rows) x c.args.below (Some row) (Some r.1.0) linked.rows_are (r.1.0, at, refl) (c.in-Some.ensures.last linked.links_are start)
