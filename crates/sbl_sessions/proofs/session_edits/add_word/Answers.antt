use Rattle.std.proofs.Common.{rules, take}
use Rattle.std.specs.Str.{chars}
use Rattle.sbl_bench.specs.KeptRuns.{contents_of}
use Rattle.sbl_sessions.proofs.EditFacts.{add_answered}
use Rattle.sbl_sessions.proofs.FirstFacts.{first_taken}
use Rattle.sbl_sessions.proofs.session_edits.add_word.Goals as goal

pub returns : goal.returns
returns c =
    let word = chars c.args.word.now in
    let taken = take c.first_characters-count.result c.first_characters-count.new.room in
    let first = first_taken c.first_characters-count.result c.first_characters-count.new.room word (search rules) c.first_characters-count.ensures.first in
    add_answered c.add.result (contents_of c.args.bench.now) (contents_of c.add.new.self) word taken c.edit_text.result.now first c.add.ensures.edits c.edit_text.ensures
