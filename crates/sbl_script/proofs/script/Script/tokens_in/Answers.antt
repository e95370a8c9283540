use Rattle.std.proofs.Common.{rules, ◌≡◌, inr, map}
use Rattle.std.proofs.lemmas.Result.{err_from_is_err_and}
use Rattle.sbl_text.specs.Tokens.{placed_of}
use Rattle.sbl_script.specs.ParsedScript.{source_of}
use Rattle.sbl_script.specs.Parts.{view_part}
use Rattle.sbl_script.specs.Edits.{changes}
use Rattle.sbl_script.specs.Homes.{escapes_before, state_reached}
use Rattle.sbl_script.proofs.Editing as editing
use Rattle.sbl_script.proofs.script.Script.tokens_in.Goals as goal

pub returns-in_err-text-clause-fault : goal.returns-in_err-text-clause-fault
returns-in_err-text-clause-fault c =
    let p = err_from_is_err_and c.from_residual.result c.from_residual.ensures.1 in
    let there = state_reached (changes (view_part c.args.part)) (source_of c.args.self.now).items in
    rw (p.1, p.2) (inr (editing.text_moved there _ _ _ c.as_bytes.ensures.value (c.in_err-text.ensures.fault there)))

pub returns-clause-tokens : goal.returns-clause-tokens
returns-clause-tokens c =
    let s = source_of c.args.self.now in
    let same : c.in_ok-escapes.escapes ≡ escapes_before (changes (view_part c.args.part)) s.items = search rules in
    editing.has_tokens c.tokens_under.result (λ ts. map placed_of ts.items) c.in_ok-escapes.escapes (escapes_before (changes (view_part c.args.part)) s.items) c.in_ok-text.text.now _ c.args.text.now same c.in_ok-text.ensures.ok.0 c.as_bytes.ensures.value c.in_ok-text.ensures.ok.1 c.in_ok-text.ensures.ok.2 c.tokens_under.ensures.placed

pub returns-clause-fault : goal.returns-clause-fault
returns-clause-fault c =
    let s = source_of c.args.self.now in
    let same : c.in_ok-escapes.escapes ≡ escapes_before (changes (view_part c.args.part)) s.items = search rules in
    editing.no_tokens c.tokens_under.result c.in_ok-escapes.escapes (escapes_before (changes (view_part c.args.part)) s.items) c.in_ok-text.text.now _ c.args.text.now same c.in_ok-text.ensures.ok.0 c.as_bytes.ensures.value c.in_ok-text.ensures.ok.1 c.in_ok-text.ensures.ok.2 c.tokens_under.ensures.fault
