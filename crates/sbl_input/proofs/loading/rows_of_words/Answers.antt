use Rattle.sbl_script.specs.ParsedScript.{source_of}
use Rattle.sbl_input.specs.WordLists.{texts_of}
use Rattle.sbl_input.proofs.VocabularyFacts.{rows_open}
use Rattle.sbl_input.proofs.loading.rows_of_words.Goals as goal

pub vocabulary_rows-requires : goal.vocabulary_rows-requires
vocabulary_rows-requires c = (c.in_ok-words.ensures.ok c.requires.0 c.requires.1).fine

pub returns : goal.returns
returns c = λ all held.
    rows_open (source_of c.args.script.now) (texts_of c.in_ok-words.words.keys) all c.in_ok-vocabulary_rows.field-0.items (c.in_ok-words.ensures.ok all held)
    c.in_ok-vocabulary_rows.ensures
