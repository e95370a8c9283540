use Rattle.std.proofs.Common.{◌∙◌, List, ℕ, ap}
use Rattle.std.specs.List.{list_any}
use Rattle.sbl_machine.specs.ItemRefs.{item_of_ref}
use Rattle.sbl_uses.specs.Unused.{same_take}
use Rattle.sbl_uses.specs.UnusedViews.{takes_in}
use Rattle.sbl_uses.proofs.Sets.{take_held}
use Rattle.sbl_uses.proofs.unused.Used.has_take.Goals as goal

pub returns : goal.returns
returns c =
    c.contains.ensures
    ∙ take_held (c.args.among.now, c.in_ok-from_slice.field-0) c.args.self.now.taken.now.keys
    ∙ ap (λ (s : List ℕ). list_any (same_take (item_of_ref c.args.among.now, s)) (takes_in c.args.self.now.taken.now)) c.in_ok-from_slice.ensures.items
