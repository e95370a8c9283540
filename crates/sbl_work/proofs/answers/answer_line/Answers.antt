use Rattle.std.proofs.Common.{◌≡◌, ◌∙◌, ap}
use Rattle.std.specs.Option.{is_some}
use Rattle.std.specs.Str.{chars}
use Rattle.sbl_bench.specs.KeptRuns.{contents_of}
use Rattle.sbl_work.specs.Commands.{Approve, Figures, Words, Hello, Places, Text, Tokens, TokensOf, Faults, FaultsOf, Counts, Echo, Integers, Largest, Saved, Show, Stats, Stem, Unused, Why}
use Rattle.sbl_work.specs.Commands.{alone_command, append_command, count_in, families_in_file, find_command, first_changes_command, uses_command, with_file}
use Rattle.sbl_history.specs.Desks.{state_of}
use Rattle.sbl_work.specs.ReplyViews.{view_file}
use Rattle.sbl_work.proofs.ReplyFacts.{same_command}
use Rattle.sbl_work.proofs.StemFileFacts.{seen_file}
use Rattle.sbl_work.proofs.answers.answer_line.Goals as goal

pub returns-in-Stats : goal.returns-in-Stats
returns-in-Stats g c =
    let s = contents_of c.args.bench.now in
    let t = contents_of c.stats.new.bench in
    let d = state_of c.args.desk.now in
    same_command s t d d (Stats) (alone_command (view_file c.args.file) c.args.line.now) c.stats.result (c.in-Stats.ensures (view_file c.args.file)) (c.stats.ensures d)

pub returns-in-Figures : goal.returns-in-Figures
returns-in-Figures g c =
    let s = contents_of c.args.bench.now in
    let d = state_of c.args.desk.now in
    same_command s s d d (Figures) (alone_command (view_file c.args.file) c.args.line.now) c.figures_reply.result (c.in-Figures.ensures (view_file c.args.file)) (c.figures_reply.ensures)

pub returns-in-FirstChanges : goal.returns-in-FirstChanges
returns-in-FirstChanges g c =
    let s = contents_of c.args.bench.now in
    let d = state_of c.args.desk.now in
    same_command s s d d (first_changes_command c.in-FirstChanges.argument.now) (alone_command (view_file c.args.file) c.args.line.now) c.first_changes_reply.result (c.in-FirstChanges.ensures (view_file c.args.file)) (c.first_changes_reply.ensures)

pub returns-in-Unused : goal.returns-in-Unused
returns-in-Unused g c =
    let s = contents_of c.args.bench.now in
    let d = state_of c.args.desk.now in
    same_command s s d d (Unused) (alone_command (view_file c.args.file) c.args.line.now) c.unused_reply.result (c.in-Unused.ensures (view_file c.args.file)) (c.unused_reply.ensures d)

pub returns-in-Largest : goal.returns-in-Largest
returns-in-Largest g c =
    let s = contents_of c.args.bench.now in
    let d = state_of c.args.desk.now in
    same_command s s d d (Largest (count_in c.in-Largest.argument.now)) (alone_command (view_file c.args.file) c.args.line.now) c.largest.result (c.in-Largest.ensures (view_file c.args.file)) (c.largest.ensures d)

pub returns-in-Families : goal.returns-in-Families
returns-in-Families g c =
    let s = contents_of c.args.bench.now in
    let d = state_of c.args.desk.now in
    same_command s s d d (with_file families_in_file (view_file c.args.file)) (alone_command (view_file c.args.file) c.args.line.now) c.families.result (c.in-Families.ensures (view_file c.args.file)) (c.families.ensures d)

pub returns-in-Why : goal.returns-in-Why
returns-in-Why g c =
    let s = contents_of c.args.bench.now in
    let d = state_of c.args.desk.now in
    same_command s s d d (Why (chars c.in-Why.word.now)) (alone_command (view_file c.args.file) c.args.line.now) c.why.result (c.in-Why.ensures (view_file c.args.file)) (c.why.ensures d)

pub returns-in-Integers : goal.returns-in-Integers
returns-in-Integers g c =
    let s = contents_of c.args.bench.now in
    let d = state_of c.args.desk.now in
    same_command s s d d (Integers (chars c.in-Integers.word.now)) (alone_command (view_file c.args.file) c.args.line.now) c.integers.result (c.in-Integers.ensures (view_file c.args.file)) (c.integers.ensures d)

pub returns-in-Uses : goal.returns-in-Uses
returns-in-Uses g c =
    let s = contents_of c.args.bench.now in
    let d = state_of c.args.desk.now in
    same_command s s d d (uses_command c.in-Uses.text.now) (alone_command (view_file c.args.file) c.args.line.now) c.uses_reply.result (c.in-Uses.ensures (view_file c.args.file)) (c.uses_reply.ensures d)

pub returns-in-Counts : goal.returns-in-Counts
returns-in-Counts g c =
    let s = contents_of c.args.bench.now in
    let d = state_of c.args.desk.now in
    same_command s s d d (Counts) (alone_command (view_file c.args.file) c.args.line.now) c.counts_reply.result (c.in-Counts.ensures (view_file c.args.file)) (c.counts_reply.ensures d)

pub returns-in-Find : goal.returns-in-Find
returns-in-Find g c =
    let s = contents_of c.args.bench.now in
    let d = state_of c.args.desk.now in
    same_command s s d d (find_command c.in-Find.text.now) (alone_command (view_file c.args.file) c.args.line.now) c.find_reply.result (c.in-Find.ensures (view_file c.args.file)) (c.find_reply.ensures d)

pub returns-in-Stem : goal.returns-in-Stem
returns-in-Stem g c =
    let s = contents_of c.args.bench.now in
    let t = contents_of c.stem_reply.new.bench in
    let d = state_of c.args.desk.now in
    same_command s t d d (Stem (chars c.in-Stem.text.now)) (alone_command (view_file c.args.file) c.args.line.now) c.stem_reply.result (c.in-Stem.ensures (view_file c.args.file)) (c.stem_reply.ensures d)

pub returns-in-Show : goal.returns-in-Show
returns-in-Show g c =
    let s = contents_of c.args.bench.now in
    let d = state_of c.args.desk.now in
    same_command s s d d (Show c.in-Show.name.now) (alone_command (view_file c.args.file) c.args.line.now) c.show.result (c.in-Show.ensures (view_file c.args.file)) (c.show.ensures d)

pub returns-in-Save : goal.returns-in-Save
returns-in-Save g c =
    let s = contents_of c.args.bench.now in
    let d = state_of c.args.desk.now in
    same_command s s d d (with_file (λ bytes. Saved) (view_file c.args.file)) (alone_command (view_file c.args.file) c.args.line.now) c.save_reply.result (c.in-Save.ensures (view_file c.args.file)) (c.save_reply.ensures d)

pub returns-in-Append : goal.returns-in-Append
returns-in-Append g c =
    let s = contents_of c.args.bench.now in
    let d = state_of c.args.desk.now in
    same_command s s d d (with_file append_command (view_file c.args.file)) (alone_command (view_file c.args.file) c.args.line.now) c.append_reply.result (c.in-Append.ensures (view_file c.args.file)) (c.append_reply.ensures d)

pub returns-in-Echo : goal.returns-in-Echo
returns-in-Echo g c =
    let s = contents_of c.args.bench.now in
    let d = state_of c.args.desk.now in
    same_command s s d d (Echo c.in-Echo.text.now) (alone_command (view_file c.args.file) c.args.line.now) c.echo.result (c.in-Echo.ensures (view_file c.args.file)) (c.echo.ensures d)

pub returns-in-Approve : goal.returns-in-Approve
returns-in-Approve g c =
    let s = contents_of c.args.bench.now in
    let d = state_of c.args.desk.now in
    let seen : c.is_some.result ≡ is_some (view_file c.args.file) = c.is_some.ensures ∙ seen_file c.args.file in
    same_command s s d d (Approve c.is_some.result) (alone_command (view_file c.args.file) c.args.line.now) c.approve_reply.result (ap Approve seen ∙ c.in-Approve.ensures (view_file c.args.file)) (c.approve_reply.ensures d)

pub returns-in-Words : goal.returns-in-Words
returns-in-Words g c =
    let d = state_of c.args.desk.now in
    same_command (contents_of c.args.bench.now) (contents_of c.words_reply.new.bench) d d (with_file Words (view_file c.args.file)) (alone_command (view_file c.args.file) c.args.line.now) c.words_reply.result (c.in-Words.ensures (view_file c.args.file)) c.words_reply.ensures

pub returns-in-Text : goal.returns-in-Text
returns-in-Text g c =
    let s = contents_of c.args.bench.now in
    let d = state_of c.args.desk.now in
    same_command s s d d (Text) (alone_command (view_file c.args.file) c.args.line.now) c.text_reply.result (c.in-Text.ensures (view_file c.args.file)) (c.text_reply.ensures)

pub returns-in-Places : goal.returns-in-Places
returns-in-Places g c =
    let s = contents_of c.args.bench.now in
    let d = state_of c.args.desk.now in
    same_command s s d d (Places) (alone_command (view_file c.args.file) c.args.line.now) c.places_reply.result (c.in-Places.ensures (view_file c.args.file)) (c.places_reply.ensures)

pub returns-in-Tokens : goal.returns-in-Tokens
returns-in-Tokens g c =
    let s = contents_of c.args.bench.now in
    let d = state_of c.args.desk.now in
    same_command s s d d (Tokens) (alone_command (view_file c.args.file) c.args.line.now) c.tokens_reply.result (c.in-Tokens.ensures (view_file c.args.file)) (c.tokens_reply.ensures)

pub returns-in-TokensOf : goal.returns-in-TokensOf
returns-in-TokensOf g c =
    let s = contents_of c.args.bench.now in
    let d = state_of c.args.desk.now in
    same_command s s d d (with_file TokensOf (view_file c.args.file)) (alone_command (view_file c.args.file) c.args.line.now) c.file_tokens_reply.result (c.in-TokensOf.ensures (view_file c.args.file)) (c.file_tokens_reply.ensures s d)

pub returns-in-Hello : goal.returns-in-Hello
returns-in-Hello g c =
    let s = contents_of c.args.bench.now in
    let d = state_of c.args.desk.now in
    same_command s s d d (Hello) (alone_command (view_file c.args.file) c.args.line.now) c.hello_reply.result (c.in-Hello.ensures (view_file c.args.file)) (c.hello_reply.ensures s d)

pub returns-in-Faults : goal.returns-in-Faults
returns-in-Faults g c =
    let s = contents_of c.args.bench.now in
    let d = state_of c.args.desk.now in
    same_command s s d d (Faults) (alone_command (view_file c.args.file) c.args.line.now) c.faults_reply.result (c.in-Faults.ensures (view_file c.args.file)) (c.faults_reply.ensures)

pub returns-in-FaultsOf : goal.returns-in-FaultsOf
returns-in-FaultsOf g c =
    let s = contents_of c.args.bench.now in
    let d = state_of c.args.desk.now in
    same_command s s d d (with_file FaultsOf (view_file c.args.file)) (alone_command (view_file c.args.file) c.args.line.now) c.file_faults_reply.result (c.in-FaultsOf.ensures (view_file c.args.file)) (c.file_faults_reply.ensures d)
