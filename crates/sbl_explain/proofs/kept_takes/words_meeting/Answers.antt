use Rattle.std.proofs.Common.{◌≡◌, ◌∙◌, ◌+◌, ◌||◌, Bool, List, true, ap, drop, map, sym}
use Rattle.std.proofs.Math.ListN.{drop_of_length-le}
use Rattle.std.specs.List.{list_any}
use Rattle.std.specs.Str.{bytes_eq}
use Rattle.sbl_bench.specs.KeptRuns.{setting_of}
use Rattle.sbl_bench.specs.Traces.{rows_meeting}
use Rattle.sbl_machine.specs.BuiltFrom.{meets}
use Rattle.sbl_machine.specs.Marks.{has_item}
use Rattle.sbl_rows.specs.Rows.{view_row}
use Rattle.sbl_rows.specs.declared.row.Row as declared
use Rattle.sbl_semantics.specs.TouchedItems.{item_of, names_of}
use Rattle.sbl_ast.specs.NamedParts.{Part'}
use Rattle.sbl_semantics.specs.declared.item.Item.{Item}
use Rattle.sbl_explain.specs.Kept.{is_one_of, row_words}
use Rattle.sbl_explain.proofs.KeptFacts.{one_met, or_clear, row_missed}
use Rattle.sbl_uses.proofs.Loops.{at_prefix}
use Rattle.sbl_uses.proofs.UserFacts.{all_at}
use Rattle.sbl_explain.proofs.kept_takes.words_meeting.Goals as goal

pub loop-item-preserved : goal.loop-item-preserved
loop-item-preserved c = λ has w there out.
    let bench = c.args.bench.now in
    let s = setting_of bench in
    let items = c.args.items.now in
    let i = c.loop-item.item-index in
    let item = c.item-item.result in
    let rows = c.deref.result.now in
    let test = λ (x : Part'). meets x s.script w s.limit in
    let later = list_any test (map item_of (drop (i + 1) items)) in
    let here : has_item (names_of s.script) (item_of item) ≡ true =
    ap (λ (x : Item). has_item (names_of s.script) (item_of x)) c.item-item.is ∙ all_at (has_item (names_of s.script)) item_of items i item has c.loop-item-test.true in
    let clear = or_clear (list_any (bytes_eq w) (row_words rows)) (is_one_of c.loop-item.words w) (sym (c.in_ok-add_words.ensures w) ∙ out) in
    let are : map view_row rows ≡ rows_meeting s bench.words (item_of item) = ap (λ (l : List declared.Row). map view_row l) c.deref.ensures.value ∙ c.in_ok-rows.ensures here in
    sym (ap (λ (b : Bool). b || later) (row_missed s bench.words (item_of item) rows w are there clear.0))
    ∙ sym (ap (λ (xs : List Part'). list_any test xs) (at_prefix item_of items i item c.loop-item-test.true c.item-item.is))
    ∙ c.loop-item.invariant has w there clear.1

pub returns : goal.returns
returns c = λ has w there out.
    let s = setting_of c.args.bench.now in
    let items = c.args.items.now in
    let test = λ (x : Part'). meets x s.script w s.limit in
    one_met s.script w s.limit (map item_of items)
    ∙ sym (c.loop-item.invariant has w there out)
    ∙ ap (λ (l : List Item). list_any test (map item_of l)) (drop_of_length-le items c.loop-item-test.false)
