use Rattle.sbl_rows.proofs.FamilyLaws.{none_apart, none_joined, pairs_add_up, unknown_have_no_row, unknown_rise, words_have_their_stems}
use Rattle.sbl_rows.proofs.laws.families_are_sound.Goals as goal

pub returns : goal.returns
returns c = record { apart = none_apart; joined = none_joined; sum = pairs_add_up; stems = words_have_their_stems; rise = unknown_rise; unknown = unknown_have_no_row }
