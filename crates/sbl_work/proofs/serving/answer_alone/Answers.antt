use Rattle.std.proofs.Common.{◌∙◌, [], ◌∷◌, Some, ap, sym}
use Rattle.sbl_bench.specs.KeptRuns.{contents_of}
use Rattle.sbl_history.specs.Desks.{state_of}
use Rattle.sbl_work.specs.Commands.{Approve, EditWhole, FaultsOf, MarkStems, TokensOf, Words, alone_command, with_file}
use Rattle.sbl_work.proofs.ReplyFacts.{append_memory, families_memory, same_command, save_memory}
use Rattle.sbl_work.proofs.StemFileFacts.{file_for}
use Rattle.sbl_work.proofs.serving.answer_alone.Goals as goal

pub returns-in-Reload : goal.returns-in-Reload
returns-in-Reload g c =
    let it = c.replace_by_file.ensures in
    (it.0, same_command (contents_of c.args.bench.now) (contents_of c.replace_by_file.new.bench) (state_of c.args.desk.now) (state_of c.replace_by_file.new.desk) (with_file EditWhole it.0) (alone_command it.0 c.args.line.now) c.replace_by_file.result (c.in-Reload.ensures it.0) it.1)

pub returns-in-Err-OutOfMemory : goal.returns-in-Err-OutOfMemory
returns-in-Err-OutOfMemory g c = families_memory (contents_of c.args.bench.now) (state_of c.args.desk.now) c.args.line.now c.edit_reply.result (c.in-Families.ensures (Some [])) c.edit_reply.ensures

pub returns-in-Err-OutOfMemory-save_text : goal.returns-in-Err-OutOfMemory-save_text
returns-in-Err-OutOfMemory-save_text g c = save_memory (contents_of c.args.bench.now) (state_of c.args.desk.now) c.args.line.now c.edit_reply-in-Err-OutOfMemory-save_text.result (sym (c.in-Save.ensures (Some []))) c.edit_reply-in-Err-OutOfMemory-save_text.ensures

pub returns-in-Err-OutOfMemory-append : goal.returns-in-Err-OutOfMemory-append
returns-in-Err-OutOfMemory-append g c = append_memory (contents_of c.args.bench.now) (state_of c.args.desk.now) c.args.line.now c.edit_reply-in-Err-OutOfMemory-append.result (c.in-Append.ensures (Some (0 ∷ []))) c.edit_reply-in-Err-OutOfMemory-append.ensures

pub returns-in-Replace : goal.returns-in-Replace
returns-in-Replace g c =
    let it = c.replace_by_file-in-Replace.ensures in
    (it.0, same_command (contents_of c.args.bench.now) (contents_of c.replace_by_file-in-Replace.new.bench) (state_of c.args.desk.now) (state_of c.replace_by_file-in-Replace.new.desk) (with_file EditWhole it.0) (alone_command it.0 c.args.line.now) c.replace_by_file-in-Replace.result (c.in-Replace.ensures it.0) it.1)

pub returns-in-MarkStems : goal.returns-in-MarkStems
returns-in-MarkStems g c =
    let s = contents_of c.args.bench.now in
    let it = c.mark_by_file.ensures in
    (it.0, same_command s s (state_of c.args.desk.now) (state_of c.mark_by_file.new.desk) (with_file MarkStems it.0) (alone_command it.0 c.args.line.now) c.mark_by_file.result (c.in-MarkStems.ensures it.0) it.1)

pub returns-in-Approve : goal.returns-in-Approve
returns-in-Approve g c =
    let s = contents_of c.args.bench.now in
    let d = state_of c.args.desk.now in
    let it = c.approve_by_file.ensures d in
    let file = file_for it.0 in
    (file.0, same_command s s d d (Approve it.0) (alone_command file.0 c.args.line.now) c.approve_by_file.result (ap Approve (sym file.1) ∙ c.in-Approve.ensures file.0) it.1)

pub returns-in-Words : goal.returns-in-Words
returns-in-Words g c =
    let d = state_of c.args.desk.now in
    let it = c.words_by_file.ensures in
    (it.0, same_command (contents_of c.args.bench.now) (contents_of c.words_by_file.new.bench) d d (with_file Words it.0) (alone_command it.0 c.args.line.now) c.words_by_file.result (c.in-Words.ensures it.0) it.1)

pub returns-in-TokensOf : goal.returns-in-TokensOf
returns-in-TokensOf g c =
    let s = contents_of c.args.bench.now in
    let d = state_of c.args.desk.now in
    let it = c.tokens_by_file.ensures s d in
    (it.0, same_command s s d d (with_file TokensOf it.0) (alone_command it.0 c.args.line.now) c.tokens_by_file.result (c.in-TokensOf.ensures it.0) it.1)

pub returns-in-FaultsOf : goal.returns-in-FaultsOf
returns-in-FaultsOf g c =
    let s = contents_of c.args.bench.now in
    let d = state_of c.args.desk.now in
    let it = c.faults_by_file.ensures d in
    (it.0, same_command s s d d (with_file FaultsOf it.0) (alone_command it.0 c.args.line.now) c.faults_by_file.result (c.in-FaultsOf.ensures it.0) it.1)
