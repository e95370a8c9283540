-- What a call that replaces a file leaves, by its result.
use Rattle.std.specs.Prelude.{◌≡◌, ◌⊎◌, ⊤, ℕ, true, List, Option, Some, None, Result, Ok, Err}
use Rattle.std.specs.Option.{option_map}
use Rattle.sbl_saving.specs.Folders.{Folder, after_failed, after_no_draft, with_part, with_text, with_unsettled_text}
use Rattle.sbl_saving.specs.declared.folder.SaveStep.{SaveStep}
use Rattle.sbl_saving.specs.declared.folder.SaveStep.TheVariants as step
use Rattle.sbl_saving.specs.declared.replace.ReplaceFault.{ReplaceFault}
use Rattle.sbl_saving.specs.declared.replace.ReplaceFault.TheVariants as fault

-- A step failed before the target was changed: the target, and what may or might have been found there, is as before. The new file
-- is removed, or it could not be.
abbrev pub Keeps : SaveStep → Folder → Folder → Type 0
Keeps s f g = (g.target ≡ f.target) × (g.now ≡ f.now) × (g.ever ≡ f.ever) × (g.failed ≡ Some s) × ((g.draft ≡ None) ⊎ (g.is_left ≡ true))

-- the same, if what is in the folder is known
abbrev pub FailsAt : SaveStep → Option Folder → Option Folder → Type 0
FailsAt s (Some f) (Some g) = Keeps s f g
FailsAt s None None = ⊤
FailsAt s f g = ⊥

-- a step failed, and the new file has some bytes
abbrev pub HasPart : SaveStep → Option Folder → Option Folder → Type 0
HasPart s old new = (part : Option (List ℕ)) × (new ≡ option_map (λ f. after_failed s (with_part part f)) old)

-- After `Ok` no step failed, and the target has the text. Each fault says which step failed first. If the names could not be flushed,
-- the target has the text, too, but the old one may come back. After the other faults it is as before.
abbrev pub IsReplaced : List ℕ → Result (Unit {0}) ReplaceFault → Option Folder → Option Folder → Type 0
IsReplaced text (Ok u) old new = new ≡ option_map (with_text text) old
IsReplaced text (Err fault.NotMade) old new = new ≡ option_map after_no_draft old
IsReplaced text (Err fault.NotWritten) old new = FailsAt step.Write old new ⊎ FailsAt step.Flush old new
IsReplaced text (Err fault.NotNamed) old new = FailsAt step.Rename old new
IsReplaced text (Err fault.NotSettled) old new = new ≡ option_map (with_unsettled_text text) old
