use Rattle.std.proofs.Common.{map}
use Rattle.sbl_bench.specs.Edits.{Words}
use Rattle.sbl_bench.specs.KeptRuns.{contents_of}
use Rattle.sbl_bench.proofs.Breaking.{plain}
use Rattle.sbl_bench.proofs.bench.Bench.replace_words.Goals as goal

pub returns-clause-edits : goal.returns-clause-edits
returns-clause-edits c =
    plain c.replace_words_or_break.result (contents_of c.args.self.now) (contents_of c.replace_words_or_break.new.self) (Words (map (λ w. w.items) c.args.words.now)) c.replace_words_or_break.ensures.told c.replace_words_or_break.ensures.edits
