use Rattle.std.proofs.Common.{rules}
use Rattle.sbl_ast.specs.View.{view_command, view_among}
use Rattle.sbl_ast.proofs.Views.{command_Prefixed, command_Among}
use Rattle.sbl_resolver.specs.OccurrenceView.{view_occurrences}
use Rattle.sbl_resolver.proofs.Walked.{prefixed_is, among_is}
use Rattle.sbl_resolver.proofs.sofar.SoFar.+commands.Goals as goal

pub note_command-returns-in_ok-note_prefix-in-Prefixed : goal.note_command-returns-in_ok-note_prefix-in-Prefixed
note_command-returns-in_ok-note_prefix-in-Prefixed t c =
    let inner = view_command c.in-Prefixed.inner.value in
    rw (c.in-Prefixed.is, command_Prefixed c.in-Prefixed.prefix c.in-Prefixed.inner, prefixed_is c.in-Prefixed.prefix inner c.args.site (view_occurrences c.args.self.now)) (search rules)

pub note_command-returns-in-Among : goal.note_command-returns-in-Among
note_command-returns-in-Among t c =
    let among = view_among c.in-Among.among in
    rw (c.in-Among.is, command_Among c.in-Among.among, among_is among.0 among.1 c.args.site (view_occurrences c.args.self.now)) (search rules)
