-- A whole script that is refused for memory before it is read.
use Rattle.std.proofs.Common.{ℕ, List, Err, inr, refl}
use Rattle.sbl_bench.specs.Contents.{Contents}
use Rattle.sbl_bench.specs.Edits.{Edits, BeforeEdit, Whole}
use Rattle.sbl_bench.specs.declared.fault.EditFault.TheVariants.{OutOfMemory}

-- every refusal of a whole script is one of its text, so an allocation may fail before anything is tried
pub nothing_tried : (s : Contents) (text : List ℕ) → Edits (Err OutOfMemory) s (Whole text) s
nothing_tried s text = BeforeEdit (λ w same. cc same) (λ f refused. inr (refused.0, refused.2)) refl
