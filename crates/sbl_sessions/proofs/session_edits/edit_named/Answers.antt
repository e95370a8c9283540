use Rattle.std.proofs.Common.{◌≡◌, ◌<◌, ◌∙◌, List, [], ℕ, None, Some, rules, length, ap, string_bytes, subst, sym}
use Rattle.std.specs.Option.{option_map}
use Rattle.sbl_bench.specs.KeptRuns.{contents_of}
use Rattle.sbl_reports.specs.Block.{HasText, HoldsText, made_text, max_script}
use Rattle.sbl_reports.specs.declared.block_text.BlockFault.{BlockFault}
use Rattle.sbl_reports.specs.declared.block_text.BlockFault.TheVariants.{TooLong}
use Rattle.sbl_script.specs.Parts.{view_part}
use Rattle.sbl_sessions.specs.CommandViews.{IsTextAnswer}
use Rattle.sbl_sessions.specs.Commands.{block_command, target_of}
use Rattle.sbl_sessions.specs.Answers.{edit_text}
use Rattle.sbl_sessions.specs.EditFaults.{fault_in}
use Rattle.sbl_sessions.proofs.EditFacts.{bad_line, block_held, block_too_long}
use Rattle.sbl_sessions.proofs.session_edits.edit_named.Goals as goal

pub returns-in_default : goal.returns-in_default
returns-in_default c = λ lines holds.
    let s = contents_of c.args.bench.now in
    let given : c.as_str.result.now ≡ string_bytes c.args.line = search rules in
    let line = string_bytes c.args.line in
    let none : None ≡ target_of line = subst (λ (x : List ℕ). None ≡ target_of x) given (sym (ap (option_map view_part) c.in_default.is) ∙ c.part_of.ensures) in
    subst (λ (x : List ℕ). IsTextAnswer s (block_command line lines) x s) (sym c.of_text.ensures) (bad_line s line lines none)

pub returns-in-Ok : goal.returns-in-Ok
returns-in-Ok c = λ lines holds.
    let s = contents_of c.args.bench.now in
    let t = contents_of c.replace-edited.new.bench in
    let given : c.as_str.result.now ≡ string_bytes c.args.line = search rules in
    let line = string_bytes c.args.line in
    let bytes = c.deref.result.now in
    let what = view_part c.in-Some.part in
    let named : Some what ≡ target_of line = subst (λ (x : List ℕ). Some what ≡ target_of x) given (sym (ap (option_map view_part) c.in-Some.is) ∙ c.part_of.ensures) in
    let held : HasText None bytes lines = subst (λ (x : List ℕ). HasText None x lines) (sym c.deref.ensures.value) (c.in-Ok.ensures.text lines holds) in
    subst (λ (x : List ℕ). IsTextAnswer s (block_command line lines) x t) (sym c.edit_text.ensures)
    (block_held s t line bytes (edit_text (fault_in c.replace-edited.result)) lines what named held c.replace-edited.ensures.text c.replace-edited.ensures.bytes)

pub returns-in-Err-TooLong : goal.returns-in-Err-TooLong
returns-in-Err-TooLong c = λ lines holds.
    let s = contents_of c.args.bench.now in
    let given : c.as_str.result.now ≡ string_bytes c.args.line = search rules in
    let line = string_bytes c.args.line in
    let what = view_part c.in-Some.part in
    let named : Some what ≡ target_of line = subst (λ (x : List ℕ). Some what ≡ target_of x) given (sym (ap (option_map view_part) c.in-Some.is) ∙ c.part_of.ensures) in
    let why : c.in-Err-TooLong.field-0 ≡ TooLong = search rules in
    let long : max_script < length (made_text lines) = subst (λ (f : BlockFault). HasText (Some f) [] lines) why (c.in-Err-TooLong.ensures.fault lines holds) in
    subst (λ (x : List ℕ). IsTextAnswer s (block_command line lines) x s) (sym (c.of_text-in-Err-TooLong.ensures ∙ c.edit_text-in-Err-TooLong.ensures)) (block_too_long s line lines what named long)
