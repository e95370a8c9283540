use Rattle.std.proofs.Common.{◌≡◌, ◌∙◌, ap, sym, List, ℕ, Some}
use Rattle.std.specs.Prelude.{option_map}
use Rattle.std.specs.declared.vec.Vec.{Vec}
use Rattle.std.specs.declared.alloc.Global.{Global}
use Rattle.std.proofs.KnownBytes.{Appends-nil}
use Rattle.std.proofs.lemmas.List.{length-map}
use Rattle.sbl_bench.specs.Contents.{rows_now}
use Rattle.sbl_bench.specs.KeptRuns.{contents_of, setting_of}
use Rattle.sbl_rows.specs.Rows.{row_of}
use Rattle.snowbench.specs.WholeList.{list_of}
use Rattle.snowbench.proofs.listing.list_files.Goals as goal

abbrev bytes_of : Vec ℕ Global → List ℕ
bytes_of text = text.items

pub returns-in-Ok-write_all-clause-listed : goal.returns-in-Ok-write_all-clause-listed
returns-in-Ok-write_all-clause-listed g c =
    let bench = c.in-Ok.bench in
    let list : list_of c.args.kind (rows_now (contents_of c.in-Ok.bench)) ≡ Some c.deref.result.now =
    sym c.in-Ok-Some.ensures ∙ ap (option_map bytes_of) c.in-Ok-Some.field-0-is ∙ ap (λ (t : List ℕ). Some t) (sym c.deref.ensures.value) in
    let count = c.len-words.ensures ∙ sym (length-map bench.words (row_of (setting_of bench))) in
    (contents_of bench, c.in-Ok.ensures, (c.deref.result.now, list, count, c.in-Ok-write_all.ensures.all))

pub returns-in-Ok-Some-clause-listed : goal.returns-in-Ok-Some-clause-listed
returns-in-Ok-Some-clause-listed g c =
    let list : list_of c.args.kind (rows_now (contents_of c.in-Ok.bench)) ≡ Some c.deref.result.now =
    sym c.in-Ok-Some.ensures ∙ ap (option_map bytes_of) c.in-Ok-Some.field-0-is ∙ ap (λ (t : List ℕ). Some t) (sym c.deref.ensures.value) in
    rw c.in-Err-write_all.ensures.why.0
    (contents_of c.in-Ok.bench, c.in-Ok.ensures, (c.deref.result.now, list, c.write_all.ensures.prefix.0, c.write_all.ensures.prefix.1))

pub returns-in-Ok-None-clause-listed : goal.returns-in-Ok-None-clause-listed
returns-in-Ok-None-clause-listed g c =
    (contents_of c.in-Ok.bench, c.in-Ok.ensures, (sym c.in-Ok-None.ensures ∙ ap (option_map bytes_of) c.in-Ok-None.field-0-is, Appends-nil (g.W.Sink.held c.args.writer.now)))

pub returns-clause-listed : goal.returns-clause-listed
returns-clause-listed g c = (contents_of c.in-Ok.bench, c.in-Ok.ensures, Appends-nil (g.W.Sink.held c.args.writer.now))
