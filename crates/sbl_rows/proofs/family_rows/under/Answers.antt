use Rattle.std.proofs.Common.{◌≡◌, ◌<◌, ◌≤◌, length, arith}
use Rattle.std.proofs.lemmas.List.{length-map}
use Rattle.sbl_rows.specs.Grouping.{view_pairs}
use Rattle.sbl_rows.specs.KnownOutcomes.{Text}
use Rattle.sbl_rows.specs.Classes.{texts_of}
use Rattle.sbl_rows.proofs.FamilyFacts.{under-few, under-many}
use Rattle.sbl_rows.proofs.family_rows.under.Goals as goal

pub returns-then-len-lt2 : goal.returns-then-len-lt2
returns-then-len-lt2 c =
    let stems = c.in_ok-stems.stems in
    let size : length (texts_of stems.items) ≡ length stems.items = length-map stems.items (λ (t : Text). t.now) in
    let few : length (texts_of stems.items) < 2 = let k = stems.ok.0 in let l = c.len.ensures in let t = c.if-len-lt2.true in omega arith in
    under-few (view_pairs c.args.family.now) (texts_of stems.items) c.in_ok-stems.ensures few

pub returns : goal.returns
returns c =
    let stems = c.in_ok-stems.stems in
    let size : length (texts_of stems.items) ≡ length stems.items = length-map stems.items (λ (t : Text). t.now) in
    let several : 2 ≤ length (texts_of stems.items) = let k = stems.ok.0 in let l = c.len.ensures in let t = c.if-len-lt2.false in omega arith in
    under-many c.args.family.now c.in-Some.first.now (texts_of stems.items) c.in-Some.ensures.value c.in_ok-stems.ensures several
