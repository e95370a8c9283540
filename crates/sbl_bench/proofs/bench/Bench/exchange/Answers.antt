use Rattle.std.proofs.Common.{refl, sym, subst}
use Rattle.std.proofs.lemmas.Result.{err_from_is_err_and}
use Rattle.sbl_script.specs.ParsedScript.{source_of}
use Rattle.sbl_bench.specs.inside.Changes.{Brings, IsExchange, affected_of}
use Rattle.sbl_bench.specs.Contents.{Contents}
use Rattle.sbl_bench.specs.Edits.{BeforeEdit}
use Rattle.sbl_bench.specs.KeptRuns.{KeptRuns, contents_of}
use Rattle.sbl_last_runs.specs.KeptEntries.{words_in}
use Rattle.sbl_rows.specs.Setting.{under}
use Rattle.sbl_bench.proofs.Bringing.{exchange_brings}
use Rattle.sbl_bench.proofs.bench.Bench.exchange.Goals as goal

pub returns-in_err-affected-clause-edits : goal.returns-in_err-affected-clause-edits
returns-in_err-affected-clause-edits g c e is =
    let f = err_from_is_err_and c.from_residual.result c.from_residual.ensures.1 in
    rw (f.1, f.2) (BeforeEdit is.wants is.passes refl)

pub take_script-requires : goal.take_script-requires
take_script-requires g c =
    let p = source_of c.self.inside.script in
    let q = source_of c.args.script.now in
    let l = c.self.inside.limit in
    let s : Contents = record { setting = under p l; words = words_in c.self.inside.traces.entries; count = c.self.inside.meter } in
    let e = c.requires.0 in
    let a = affected_of c.in_ok-affected.affected in
    let is : IsExchange s e q = subst (λ (k : KeptRuns). IsExchange (contents_of k) e q) (sym c.self.view_is) c.requires.1 in
    let b : Brings s e (under q l) a = exchange_brings c.differing_stay.ensures s e q is c.is_well_declared.ensures a (c.in_ok-affected.ensures c.self.invariant.0) in
    (e, subst (λ (k : KeptRuns). Brings (contents_of k) e (under q k.limit) a) c.self.view_is b)

pub returns-clause-edits : goal.returns-clause-edits
returns-clause-edits g c e given =
    let p = source_of c.self.inside.script in
    let q = source_of c.args.script.now in
    let l = c.self.inside.limit in
    let s : Contents = record { setting = under p l; words = words_in c.self.inside.traces.entries; count = c.self.inside.meter } in
    let a = affected_of c.in_ok-affected.affected in
    let is : IsExchange s e q = subst (λ (k : KeptRuns). IsExchange (contents_of k) e q) (sym c.self.view_is) given in
    let b : Brings s e (under q l) a = exchange_brings c.differing_stay.ensures s e q is c.is_well_declared.ensures a (c.in_ok-affected.ensures c.self.invariant.0) in
    c.take_script.ensures.edits e (subst (λ (k : KeptRuns). Brings (contents_of k) e (under q k.limit) a) c.self.view_is b)
