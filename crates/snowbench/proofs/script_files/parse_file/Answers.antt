use Rattle.std.proofs.Common.{rules, ◌≡◌, ◌∙◌, inr, refl, subst, List, ℕ, None}
use Rattle.sbl_batch.specs.Compare.{HasScriptFault}
use Rattle.snowbench.specs.ScriptFiles.{overlong_line, script_text}
use Rattle.snowbench.proofs.script_files.parse_file.Goals as goal

pub returns : goal.returns
returns c =
    let fits : overlong_line c.args.bytes.now ≡ None = search rules in
    let text : c.deref.result.now ≡ script_text c.args.bytes.now = c.deref.ensures.value ∙ c.in-Ok.ensures in
    inr (inr (fits, c.in-Err.fault, refl, subst (λ (t : List ℕ). HasScriptFault t c.args.external.now c.in-Err.fault) text c.in-Err.ensures.fault))
