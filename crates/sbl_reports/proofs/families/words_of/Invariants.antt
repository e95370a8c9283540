use Rattle.std.proofs.Common.{◌≡◌, take}
use Rattle.sbl_rows.specs.Classes.{texts_of}
use Rattle.sbl_reports.specs.FamilyReader.{words_read}
use Rattle.sbl_reports.proofs.families.words_of.Given as goal

abbrev pub invariant-loop-word : goal.invariant-loop-word
invariant-loop-word l = texts_of l.words.items ≡ words_read (take l.word-index l.family)
