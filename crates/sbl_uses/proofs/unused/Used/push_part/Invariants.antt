use Rattle.std.proofs.Common.{ℕ, List, drop}
use Rattle.std.specs.List.{flat_map}
use Rattle.sbl_rows.specs.Setting.{Setting}
use Rattle.sbl_machine.specs.ItemRefs.{item_of_ref}
use Rattle.sbl_io.specs.Records.{records_text}
use Rattle.sbl_io.proofs.Taking.{Leaves}
use Rattle.sbl_uses.specs.Unused as spec
use Rattle.sbl_uses.specs.UnusedViews.{IsUsed, texts_of}
use Rattle.sbl_uses.proofs.unused.Used.push_part.Given as goal

abbrev pub invariant-loop-string : goal.invariant-loop-string
invariant-loop-string g l = (s : Setting) (words : List (List ℕ)) → IsUsed s words l.self → Leaves g.T.Report.has_taken l.initial.out l.out (records_text (flat_map (λ (q : List ℕ). spec.string_rows s words (item_of_ref l.item, q)) (texts_of (drop l.string-index l.strings)))) (records_text (flat_map (λ (q : List ℕ). spec.string_rows s words (item_of_ref l.item, q)) (texts_of l.strings)))
