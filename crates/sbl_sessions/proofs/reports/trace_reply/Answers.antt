use Rattle.std.proofs.Common.{◌≡◌, ◌∙◌, List, ℕ, None, Some, rules, subst, sym, ap, take}
use Rattle.std.specs.Option.{option_map}
use Rattle.std.specs.Str.{chars}
use Rattle.sbl_bench.specs.KeptRuns.{contents_of}
use Rattle.sbl_bench.specs.Traces.{trace_of}
use Rattle.sbl_bench.specs.Vocabulary.{is_word}
use Rattle.sbl_machine.specs.ItemRefs.{items_of_refs}
use Rattle.sbl_sessions.proofs.FirstFacts.{first_taken, looks, there_first, trace_first}
use Rattle.sbl_sessions.proofs.ReportFacts.{trace_absent, trace_answer, trace_refused}
use Rattle.sbl_sessions.proofs.reports.trace_reply.Goals as goal

pub returns-in-Ok-Some : goal.returns-in-Ok-Some
returns-in-Ok-Some c =
    let s = contents_of c.args.bench.now in
    let word = chars c.args.word.now in
    let first = first_taken c.first_characters-count.result c.first_characters-count.new.room word (search rules) c.first_characters-count.ensures.first in
    let given : c.in-Ok-Some.field-0 ≡ Some c.in-Ok-Some.items = search rules in
    let is : Some (items_of_refs c.in-Ok-Some.items) ≡ trace_of s.setting s.words word =
    sym (ap (option_map items_of_refs) given) ∙ c.in-Ok-Some.ensures.touched ∙ ap (trace_of s.setting s.words) first
    ∙ trace_first s.setting s.words word (looks s.words c.words_fit.ensures word) in
    trace_answer s word (items_of_refs c.in-Ok-Some.items) c.items_text.result c.report.result is c.items_text.ensures c.report.ensures.made c.report.ensures.refused

pub returns-in-Ok-None : goal.returns-in-Ok-None
returns-in-Ok-None c =
    let s = contents_of c.args.bench.now in
    let word = chars c.args.word.now in
    let first = first_taken c.first_characters-count.result c.first_characters-count.new.room word (search rules) c.first_characters-count.ensures.first in
    let given : c.in-Ok-None.field-0 ≡ None = search rules in
    let is : None ≡ trace_of s.setting s.words word =
    sym (ap (option_map items_of_refs) given) ∙ c.in-Ok-None.ensures.touched ∙ ap (trace_of s.setting s.words) first
    ∙ trace_first s.setting s.words word (looks s.words c.words_fit.ensures word) in
    trace_absent s word c.edit_text.result.now is c.edit_text.ensures

pub returns-in-Err : goal.returns-in-Err
returns-in-Err c =
    let s = contents_of c.args.bench.now in
    let word = chars c.args.word.now in
    let first = first_taken c.first_characters-count.result c.first_characters-count.new.room word (search rules) c.first_characters-count.ensures.first in
    let there : is_word (take c.first_characters-count.result c.first_characters-count.new.room) s.words ≡ is_word word s.words =
    ap (λ (w : List ℕ). is_word w s.words) first ∙ there_first s.words word (looks s.words c.words_fit.ensures word) in
    trace_refused s word c.report-in-Err.result (λ missing. let no = c.in-Err.ensures.absent (there ∙ missing) in cc no) c.report-in-Err.ensures.refused
