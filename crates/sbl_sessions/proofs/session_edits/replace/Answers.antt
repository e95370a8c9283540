use Rattle.std.proofs.Common.{◌≡◌, ◌∙◌, true, false, refl, sym}
use Rattle.std.proofs.lemmas.Str.{IsUtf8-from_is_utf8, is_utf8-from_IsUtf8}
use Rattle.sbl_bench.specs.KeptRuns.{contents_of}
use Rattle.sbl_script.specs.Parts.{view_part}
use Rattle.sbl_sessions.proofs.EditFacts.{replaced_text}
use Rattle.sbl_sessions.proofs.session_edits.replace.Goals as goal

pub returns-in_default-clause-text : goal.returns-in_default-clause-text
returns-in_default-clause-text c = λ utf8. absurd (c.in_default.ensures.cases.0 (IsUtf8-from_is_utf8 c.args.text.now utf8))

pub returns-clause-text : goal.returns-clause-text
returns-clause-text c = λ utf8.
    let what = view_part c.args.part in
    replaced_text c.replace.result (contents_of c.args.bench.now) (contents_of c.replace.new.self) what what c.in-Ok.text.now c.args.text.now _ refl c.in-Ok.ensures.cases.0 c.replace.ensures.edits refl

pub returns-clause-bytes : goal.returns-clause-bytes
returns-clause-bytes c = λ bytes.
    let e : false ≡ true = sym bytes ∙ is_utf8-from_IsUtf8 c.args.text.now c.in-Ok.ensures.cases.1 in
    absurd (cc e)
