use Rattle.std.proofs.Common.{◌<◌, length}
use Rattle.std.specs.Str.{chars}
use Rattle.sbl_text.proofs.Whole.{piece_given}
use Rattle.sbl_text.proofs.pieces.piece.Goals as goal

pub returns-clause-value : goal.returns-clause-value
returns-clause-value c =
    piece_given c.args.inserts c.args.wanted (chars c.args.text.now) (λ r. chars r.now) (λ r. length r.now < length c.args.text.now) c.cut_in.result c.cut_in.ensures
