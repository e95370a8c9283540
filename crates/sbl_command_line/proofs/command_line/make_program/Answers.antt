use Rattle.std.proofs.Common.{◌≡◌, ◌∙◌, ◌&&◌, ap, ap₂, refl, Bool, true, false, not}
use Rattle.std.proofs.lemmas.Result.{IfOk-weaker}
use Rattle.clap.specs.Words.{App, app_of, with_subcommand}
use Rattle.sbl_command_line.specs.CommandLine.{asking}
use Rattle.sbl_command_line.proofs.command_line.make_program.Goals as goal

third : (a b c d : Bool) → (a && (b && (not c && d))) ≡ true → c ≡ false
third false b c d h = cc
third true false c d h = cc
third true true true d h = cc
third true true false d h = refl

pub returns : goal.returns
returns c =
    let start : app_of c.arg_required_else_help.result ≡ asking =
    rw c.arg_required_else_help.ensures (rw c.subcommand_required.ensures (rw c.after_help.ensures (rw c.about.ensures (rw c.in_ok-bin_name.ensures.0
    (ap (λ (a : App). record a { top = record a.top { subcommand_required = true; arg_required_else_help = true } }) c.new.ensures.app))))) in
    let run = c.in_ok-subcommand.ensures.shape (third _ _ _ _ (ap (λ (a : App). a.top.is_plain) c.in_ok-run_command.ensures))
    ∙ ap₂ with_subcommand start (ap (λ (a : App). a.top) c.in_ok-run_command.ensures) in
    let session = c.in_ok-subcommand-2.ensures.shape (third _ _ _ _ (ap (λ (a : App). a.top.is_plain) c.in_ok-session_command.ensures))
    ∙ ap₂ with_subcommand run (ap (λ (a : App). a.top) c.in_ok-session_command.ensures) in
    let stem = c.in_ok-subcommand-3.ensures.shape (third _ _ _ _ (ap (λ (a : App). a.top.is_plain) c.in_ok-stem_command.ensures))
    ∙ ap₂ with_subcommand session (ap (λ (a : App). a.top) c.in_ok-stem_command.ensures) in
    let filter = c.in_ok-subcommand-4.ensures.shape (third _ _ _ _ (ap (λ (a : App). a.top.is_plain) c.in_ok-filter_command.ensures))
    ∙ ap₂ with_subcommand stem (ap (λ (a : App). a.top) c.in_ok-filter_command.ensures) in
    let check = c.in_ok-subcommand-5.ensures.shape (third _ _ _ _ (ap (λ (a : App). a.top.is_plain) c.in_ok-check_command.ensures))
    ∙ ap₂ with_subcommand filter (ap (λ (a : App). a.top) c.in_ok-check_command.ensures) in
    let compare = c.in_ok-subcommand-6.ensures.shape (third _ _ _ _ (ap (λ (a : App). a.top.is_plain) c.in_ok-compare_command.ensures))
    ∙ ap₂ with_subcommand check (ap (λ (a : App). a.top) c.in_ok-compare_command.ensures) in
    IfOk-weaker c.subcommand-7.result _ _ (λ r h. h.shape (third _ _ _ _ (ap (λ (a : App). a.top.is_plain) c.in_ok-work_command.ensures))
    ∙ ap₂ with_subcommand compare (ap (λ (a : App). a.top) c.in_ok-work_command.ensures)) c.subcommand-7.ensures
