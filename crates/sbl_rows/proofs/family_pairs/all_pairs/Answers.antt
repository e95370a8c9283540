use Rattle.std.proofs.Common.{◌≡◌, ◌+◌, ◌*◌, ℕ, length, subst}
use Rattle.std.proofs.lemmas.List.{length-map}
use Rattle.sbl_rows.specs.Families.{any_two, pairs_in}
use Rattle.sbl_rows.specs.Grouping.{view_pair, view_pairs}
use Rattle.sbl_rows.proofs.PairNumbers.{half, pairs-any}
use Rattle.sbl_rows.proofs.family_pairs.all_pairs.Goals as goal

pub returns : goal.returns
returns c =
    half (length c.args.words.now) (pairs_in any_two (view_pairs c.args.words.now))
    (subst (λ (n : ℕ). 2 * pairs_in any_two (view_pairs c.args.words.now) + n ≡ n * n) (length-map c.args.words.now view_pair) (pairs-any (view_pairs c.args.words.now)))
