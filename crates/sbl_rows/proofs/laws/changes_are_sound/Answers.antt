use Rattle.sbl_rows.proofs.ChangeLaws.{no_changes, split_or_renamed}
use Rattle.sbl_rows.proofs.ExchangeLaws.{turned_changes}
use Rattle.sbl_rows.proofs.laws.changes_are_sound.Goals as goal

pub returns : goal.returns
returns c = record { none = no_changes; either = split_or_renamed; exchange = turned_changes }
