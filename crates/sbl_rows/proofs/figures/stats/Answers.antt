use Rattle.std.proofs.Common.{◌≡◌, ◌∙◌, List, length, map, sym}
use Rattle.std.specs.List.{count_by}
use Rattle.std.proofs.lemmas.List.{length-map}
use Rattle.sbl_rows.specs.Changes.{is_one}
use Rattle.sbl_rows.specs.Classes.{Class, view_class}
use Rattle.sbl_rows.specs.Rows.{Row, view_row, view_rows}
use Rattle.sbl_rows.specs.Stats.{is_itself, is_refused}
use Rattle.sbl_rows.proofs.FigureFacts.{count_by-map}
use Rattle.sbl_rows.proofs.figures.stats.Goals as goal

pub returns : goal.returns
returns c =
    let rows : List Row = view_rows c.args.rows.now in
    let cs : List Class = map view_class c.args.classes.now in
    let words : length c.args.rows.now ≡ length rows = sym (length-map c.args.rows.now view_row) in
    let refused : c.refused_words.result ≡ count_by (λ r. is_refused r.outcome) rows = c.refused_words.ensures ∙ count_by-map view_row (λ r. is_refused r.outcome) c.args.rows.now in
    let unchanged : c.unchanged_words.result ≡ count_by (λ r. is_itself r.word r.outcome) rows = c.unchanged_words.ensures ∙ count_by-map view_row (λ r. is_itself r.word r.outcome) c.args.rows.now in
    let classes : length c.args.classes.now ≡ length cs = sym (length-map c.args.classes.now view_class) in
    let alone : c.classes_of_one.result ≡ count_by (λ d. is_one d.members) cs = c.classes_of_one.ensures ∙ count_by-map view_class (λ d. is_one d.members) c.args.classes.now in
    let largest = c.largest_size.ensures in
    λ i. record { words = words i; refused = refused i; classes = classes i; alone = alone i; largest = largest i; unchanged = unchanged i }
