use Rattle.sbl_rows.proofs.ClassLaws.{classes_are_of_rows, classes_rise}
use Rattle.sbl_rows.proofs.laws.classes_are_sound.Goals as goal

pub returns : goal.returns
returns c = record { rise = classes_rise; of_rows = classes_are_of_rows }
