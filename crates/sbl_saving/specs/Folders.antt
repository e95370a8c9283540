-- A file that is to be replaced, and a new file beside it in the same folder.
use Rattle.std.specs.Prelude.{ℕ, Bool, true, false, List, [], ◌∷◌, ◌++◌, if◌then◌else◌, Option, Some, None}
use Rattle.std.specs.Option.{option_map}
use Rattle.sbl_saving.specs.declared.folder.SaveStep.{SaveStep}
use Rattle.sbl_saving.specs.declared.folder.SaveStep.TheVariants as step

-- What may be found at a name: exactly these bytes, or no file; or anything, since bytes were not flushed to the disk.
pub data Found : Type 0 where
  Exactly : Option (List ℕ) → Found
  Anything : Found

-- What a reader of the target gets, and of the new file, none if there is no such file; whether the bytes of the new file are on the
-- disk; what may be found at the target if the program or the machine stops now; what might have been found there if it had
-- stopped at some moment until now; and since the new file was last to be made: which step failed first, none if no step did, and
-- whether the new file could not be removed.
pub record Folder : Type 0 where
  pub target : Option (List ℕ)
  pub draft : Option (List ℕ)
  pub is_flushed : Bool
  pub now : List Found
  pub ever : List Found
  pub failed : Option SaveStep
  pub is_left : Bool

-- a file before the first step: the target has these bytes on the disk, or there is none
abbrev pub folder_with : Option (List ℕ) → Folder
folder_with target = record {
  target = target;
  draft = None;
  is_flushed = false;
  now = Exactly target ∷ [];
  ever = Exactly target ∷ [];
  failed = None;
  is_left = false;
}

-- ---- steps

-- the new file is made, and has no bytes
abbrev pub with_draft : Folder → Folder
with_draft f = record f { draft = Some []; is_flushed = false; failed = None; is_left = false }

-- it could not be made
abbrev pub after_no_draft : Folder → Folder
after_no_draft f = record f { failed = Some step.Create; is_left = false }

-- of the steps that failed
abbrev pub first : Option SaveStep → SaveStep → SaveStep
first (Some s) t = s
first None t = t

-- a step fails after the new file was made
abbrev pub after_failed : SaveStep → Folder → Folder
after_failed s f = record f { failed = Some (first f.failed s) }

-- the new file could not be removed
abbrev pub after_no_remove : Folder → Folder
after_no_remove f = record f { is_left = true }

-- bytes are put at the end of the new file
abbrev pub with_bytes : List ℕ → Folder → Folder
with_bytes bytes f = record f { draft = option_map (λ d. d ++ bytes) f.draft; is_flushed = false }

-- some of them are, or all
abbrev pub with_part : Option (List ℕ) → Folder → Folder
with_part part f = record f { draft = part; is_flushed = false }

-- the bytes of the new file are on the disk
abbrev pub after_flush : Folder → Folder
after_flush f = record f { is_flushed = true }

-- what is found at the name of the new file, if the program or the machine stops
abbrev pub found_of : Folder → Found
found_of f = if f.is_flushed then Exactly f.draft else Anything

-- The new file takes the name of the target. Until the folder is flushed, what was there before may come back.
abbrev pub after_rename : Folder → Folder
after_rename f = record f { target = f.draft; draft = None; now = f.now ++ found_of f ∷ []; ever = f.ever ++ found_of f ∷ [] }

-- what a reader of the target gets is there also after a stop of the machine
abbrev pub after_flush_of_names : Folder → Folder
after_flush_of_names f = record f { now = Exactly f.target ∷ [] }

-- the new file is removed
abbrev pub without_draft : Folder → Folder
without_draft f = record f { draft = None }

-- ---- a file that is replaced

-- The target has the text, also after a stop of the machine. At no moment anything else could be found there than before, or the
-- text. No step failed.
abbrev pub with_text : List ℕ → Folder → Folder
with_text text f = record {
  target = Some text;
  draft = None;
  is_flushed = true;
  now = Exactly (Some text) ∷ [];
  ever = f.ever ++ Exactly (Some text) ∷ [];
  failed = None;
  is_left = false;
}

-- the same, but the names could not be flushed: after a stop of the machine it may be as before
abbrev pub with_unsettled_text : List ℕ → Folder → Folder
with_unsettled_text text f = record {
  target = Some text;
  draft = None;
  is_flushed = true;
  now = f.now ++ Exactly (Some text) ∷ [];
  ever = f.ever ++ Exactly (Some text) ∷ [];
  failed = Some step.FlushNames;
  is_left = false;
}
