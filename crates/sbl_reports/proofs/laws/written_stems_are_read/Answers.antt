use Rattle.sbl_reports.proofs.StemFacts.{stems_read, stems_unchanged}
use Rattle.sbl_reports.proofs.laws.written_stems_are_read.Goals as goal

pub returns : goal.returns
returns c = record { read = stems_read; changes = stems_unchanged c.changes_are_sound.ensures.none }
