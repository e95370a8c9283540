use Rattle.std.proofs.Common.{◌∙◌, Ok, map, ap}
use Rattle.std.proofs.lemmas.Result.{err_from_is_err_and}
use Rattle.sbl_bench.specs.KeptRuns.{contents_of}
use Rattle.sbl_work.proofs.WordFileFacts.{words_edit, words_unread}
use Rattle.sbl_work.proofs.word_files.reread_words.Goals as goal

pub returns-in_err-words : goal.returns-in_err-words
returns-in_err-words g c =
    let f = err_from_is_err_and c.from_residual.result c.from_residual.ensures.1 in
    rw (f.1, f.2) (words_unread c.args.may_break c.args.bytes.now (contents_of c.args.bench.now) c.in_err-words.field-0.0 c.in_err-words.ensures.fault)

pub returns-in-Ok : goal.returns-in-Ok
returns-in-Ok g c = (
  c.in_ok-words.ensures.no_fault,
  words_edit c.args.may_break c.args.bytes.now (contents_of c.args.bench.now) (contents_of c.replace_words.new.bench) (Ok tt) (map (λ w. w.items) c.deref.result.now)
      (ap (map (λ w. w.items)) c.deref.ensures.value ∙ c.in_ok-words.ensures.words) c.in-Ok.ensures,
)
