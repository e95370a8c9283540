use Rattle.std.proofs.Common.{◌∙◌, List, ap, map}
use Rattle.std.specs.List.{list_any}
use Rattle.sbl_uses.specs.UnusedViews.{Key, take_of}
use Rattle.sbl_uses.proofs.Sets.{take_added}
use Rattle.sbl_uses.proofs.takes.add_take.Goals as goal

pub returns : goal.returns
returns c = λ test. ap (λ (ks : List Key). list_any test (map take_of ks)) c.in_ok-insert.ensures.keys ∙ take_added c.args.takes.now.keys (c.args.among, c.args.string) test
