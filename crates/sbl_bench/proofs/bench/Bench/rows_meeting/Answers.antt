use Rattle.std.proofs.Common.{◌≡◌, ◌∙◌, [], ◌∷◌, List, Some, true, ap, map, subst, sym}
use Rattle.std.specs.List.{list_all}
use Rattle.sbl_script.specs.ParsedScript.{source_of}
use Rattle.sbl_rows.specs.Setting.{under}
use Rattle.sbl_rows.proofs.Ranging.{if_ok_weaker}
use Rattle.sbl_machine.specs.Marks.{has_item}
use Rattle.sbl_semantics.specs.TouchedItems.{item_of, names_of}
use Rattle.sbl_ast.specs.NamedParts.{Part'}
use Rattle.sbl_semantics.specs.declared.item.Item.{Item}
use Rattle.sbl_bench.specs.KeptRuns.{KeptRuns, setting_of}
use Rattle.sbl_bench.specs.Traces.{rows_meeting}
use Rattle.sbl_bench.specs.inside.AffectedWords.{AreMet}
use Rattle.sbl_bench.specs.inside.Changes.{affected_of}
use Rattle.sbl_bench.proofs.MeetingRows.{one_there, shown_meeting}
use Rattle.sbl_bench.proofs.bench.Bench.rows_meeting.Goals as goal

pub returns : goal.returns
returns c there =
    let b = c.self.inside in
    let p = source_of b.script in
    let s = under p b.limit in
    let x = item_of c.args.item.now in
    let a = affected_of c.in_ok-affected.affected in
    let here : has_item (names_of p) x ≡ true = subst (λ (k : KeptRuns). has_item (names_of (setting_of k).script) x ≡ true) (sym c.self.view_is) there in
    let defines : list_all (has_item (names_of p)) (map item_of c.from_ref-items.result.now) ≡ true =
    ap (λ (is : List Item). list_all (has_item (names_of p)) (map item_of is)) c.from_ref-items.ensures.value ∙ one_there (names_of p) x here in
    let met : AreMet p (Some (x ∷ [])) a = subst (λ (xs : List Part'). AreMet p (Some xs) a) (ap (map item_of) c.from_ref-items.ensures.value) (c.in_ok-affected.ensures c.self.invariant.0 defines) in
    if_ok_weaker c.affected_rows.result
    (λ rows is. is ∙ shown_meeting c.one_item_alone.ensures.meets s b.traces.entries x a c.self.invariant.1.fresh met ∙ ap (λ (k : KeptRuns). rows_meeting (setting_of k) k.words x) c.self.view_is)
    c.affected_rows.ensures
