use Rattle.std.proofs.Common.{map, ap, sym, refl, subst}
use Rattle.std.proofs.lemmas.Result.{err_from_is_err_and}
use Rattle.sbl_script.specs.ParsedScript.{source_of}
use Rattle.sbl_semantics.specs.TouchedItems.{item_of}
use Rattle.sbl_bench.specs.inside.Changes.{Brings, IsTaken, affected_of}
use Rattle.sbl_bench.specs.Contents.{Contents}
use Rattle.sbl_bench.specs.Edits.{BeforeEdit, Replace}
use Rattle.sbl_bench.specs.KeptRuns.{KeptRuns, contents_of}
use Rattle.sbl_last_runs.specs.KeptEntries.{words_in}
use Rattle.sbl_rows.specs.Setting.{under}
use Rattle.sbl_bench.proofs.Bringing.{edited_brings}
use Rattle.sbl_bench.proofs.bench.Bench.take_edited.Goals as goal

pub returns-in_err-affected-clause-edits : goal.returns-in_err-affected-clause-edits
returns-in_err-affected-clause-edits g c e text is =
    let f = err_from_is_err_and c.from_residual.result c.from_residual.ensures.1 in
    rw (f.1, f.2) (BeforeEdit (λ w same. cc same) is.passes refl)

pub take_script-requires : goal.take_script-requires
take_script-requires g c =
    let e = c.requires.0 in
    let text = c.requires.1 in
    let q = source_of c.args.script in
    let s : Contents = record { setting = under (source_of c.self.inside.script) c.self.inside.limit; words = words_in c.self.inside.traces.entries; count = c.self.inside.meter } in
    let a = affected_of c.in_ok-affected.affected in
    let taken : IsTaken s e text q (item_of c.args.item.now) = subst (λ (k : KeptRuns). IsTaken (contents_of k) e text q (item_of c.args.item.now)) (sym c.self.view_is) c.requires.2 in
    let b : Brings s (Replace e text) (under q c.self.inside.limit) a = edited_brings c.untouched_stay.ensures c.one_item_alone.ensures.meets c.edits_agree.ensures.there s e text q _ taken c.is_well_declared.ensures (map item_of c.from_ref-items.result.now) (ap (map item_of) c.from_ref-items.ensures.value) a (c.in_ok-affected.ensures c.self.invariant.0) in
    (Replace e text, subst (λ (k : KeptRuns). Brings (contents_of k) (Replace e text) (under q k.limit) a) c.self.view_is b)

pub returns-clause-edits : goal.returns-clause-edits
returns-clause-edits g c e text is =
    let q = source_of c.args.script in
    let s : Contents = record { setting = under (source_of c.self.inside.script) c.self.inside.limit; words = words_in c.self.inside.traces.entries; count = c.self.inside.meter } in
    let a = affected_of c.in_ok-affected.affected in
    let taken : IsTaken s e text q (item_of c.args.item.now) = subst (λ (k : KeptRuns). IsTaken (contents_of k) e text q (item_of c.args.item.now)) (sym c.self.view_is) is in
    let b : Brings s (Replace e text) (under q c.self.inside.limit) a = edited_brings c.untouched_stay.ensures c.one_item_alone.ensures.meets c.edits_agree.ensures.there s e text q _ taken c.is_well_declared.ensures (map item_of c.from_ref-items.result.now) (ap (map item_of) c.from_ref-items.ensures.value) a (c.in_ok-affected.ensures c.self.invariant.0) in
    c.take_script.ensures.edits (Replace e text) (subst (λ (k : KeptRuns). Brings (contents_of k) (Replace e text) (under q k.limit) a) c.self.view_is b)
