-- What an edit of the script that is refused for its name, its number or its text answers.
use Rattle.std.proofs.Common.{◌≡◌, ◌⊎◌, ℕ, List, Result, Ok, Err, inl, inr, refl, sym}
use Rattle.sbl_ast.specs.NamedParts.{Part'}
use Rattle.sbl_script.specs.Edits.{IsEditFault, text_for}
use Rattle.sbl_script.specs.declared.edit_fault.EditFault as declared
use Rattle.sbl_script.specs.declared.edit_fault.EditFault.TheVariants as script
use Rattle.sbl_bench.specs.declared.fault.EditFault.{EditFault}
use Rattle.sbl_bench.specs.declared.fault.EditFault.TheVariants as fault
use Rattle.sbl_bench.specs.Contents.{Contents}
use Rattle.sbl_script.specs.Reading.{IsFaultOf}
use Rattle.sbl_text.specs.declared.fault.ScriptFault.{ScriptFault}
use Rattle.sbl_text.specs.declared.fault.ScriptFault.TheVariants as texts
use Rattle.sbl_bench.specs.inside.Stops.{IsFaultOfText}
use Rattle.sbl_bench.specs.Edits.{Edits, BeforeEdit, PassesTests, Replace, Whole, fault_of_script}

-- the edit is refused for its text
abbrev IsOfText : EditFault → Type 0
IsOfText f = (f ≡ fault.AmongCount) ⊎ ((g : ScriptFault) × (f ≡ fault.Script g))

not_routine : {A : Type 0} (r : Result A declared.EditFault) → r ≡ Err script.OutOfMemory → r ≡ Err script.NoRoutine → ⊥
not_routine r out missing = cc

not_grouping : {A : Type 0} (r : Result A declared.EditFault) → r ≡ Err script.OutOfMemory → r ≡ Err script.NoGrouping → ⊥
not_grouping r out missing = cc

not_among : {A : Type 0} (r : Result A declared.EditFault) → r ≡ Err script.OutOfMemory → r ≡ Err script.NoAmong → ⊥
not_among r out missing = cc

not_made : {A : Type 0} (r : Result A declared.EditFault) (a : A) (f : declared.EditFault) → r ≡ Ok a → r ≡ Err f → ⊥
not_made r a f made missing = cc

module _ {A : Type 0} (s : Contents) (what : Part') (text : List ℕ) (r : Result A declared.EditFault)
    (missing : (f : declared.EditFault) → text_for s.setting.script.items what ≡ Err f → r ≡ Err f) where
  -- where memory was refused, it is for its text that the edit is refused, if it is
  for_its_text : (g : declared.EditFault) (f : EditFault) → r ≡ Err script.OutOfMemory → IsEditFault s.setting.script what text g → f ≡ fault_of_script g → IsOfText f
  for_its_text script.NoRoutine f out is same = absurd (not_routine r out (missing script.NoRoutine is))
  for_its_text script.NoGrouping f out is same = absurd (not_grouping r out (missing script.NoGrouping is))
  for_its_text script.NoAmong f out is same = absurd (not_among r out (missing script.NoAmong is))
  for_its_text script.AmongCount f out is same = inl same
  for_its_text (script.Script g) f out is same = inr (g, same)
  for_its_text script.OutOfMemory f out is same = absurd is

  -- a fault that is no want of memory is the edit's
  fault_of_edit : (g : declared.EditFault) → IsEditFault s.setting.script what text g → Edits (Err (fault_of_script g)) s (Replace what text) s
  fault_of_edit script.NoRoutine is = (inl (script.NoRoutine, is, refl), refl)
  fault_of_edit script.NoGrouping is = (inl (script.NoGrouping, is, refl), refl)
  fault_of_edit script.NoAmong is = (inl (script.NoAmong, is, refl), refl)
  fault_of_edit script.AmongCount is = (inl (script.AmongCount, is, refl), refl)
  fault_of_edit (script.Script f) is = (inl (script.Script f, is, refl), refl)
  fault_of_edit script.OutOfMemory is = absurd is

  -- where a script was made, it is for its text that the edit is refused, if it is
  of_its_text : (a : A) (g : declared.EditFault) (f : EditFault) → r ≡ Ok a → IsEditFault s.setting.script what text g → f ≡ fault_of_script g → IsOfText f
  of_its_text a script.NoRoutine f made is same = absurd (not_made r a script.NoRoutine made (missing script.NoRoutine is))
  of_its_text a script.NoGrouping f made is same = absurd (not_made r a script.NoGrouping made (missing script.NoGrouping is))
  of_its_text a script.NoAmong f made is same = absurd (not_made r a script.NoAmong made (missing script.NoAmong is))
  of_its_text a script.AmongCount f made is same = inl same
  of_its_text a (script.Script g) f made is same = inr (g, same)
  of_its_text a script.OutOfMemory f made is same = absurd is

  -- so nothing but the text refuses it
  pub passes : (a : A) → r ≡ Ok a → PassesTests s (Replace what text)
  passes a made = λ f refusal_edits. of_its_text a refusal_edits.0 f made refusal_edits.1 refusal_edits.2

  -- if memory was refused after that
  pub nothing_made : (a : A) → r ≡ Ok a → Edits (Err fault.OutOfMemory) s (Replace what text) s
  nothing_made a made = BeforeEdit (λ w same. cc same) (passes a made) refl

  out_of_memory : r ≡ Err script.OutOfMemory → Edits (Err fault.OutOfMemory) s (Replace what text) s
  out_of_memory out = BeforeEdit (λ w same. cc same) (λ f refusal_edits. for_its_text refusal_edits.0 f out refusal_edits.1 refusal_edits.2) refl

  pub refusal_edits : (g : declared.EditFault) → r ≡ Err g → (g ≡ script.OutOfMemory) ⊎ IsEditFault s.setting.script what text g → Edits (Err (fault_of_script g)) s (Replace what text) s
  refusal_edits g is (inl out) = rw out (out_of_memory (rw (sym out) is))
  refusal_edits g is (inr fault) = fault_of_edit g fault

-- ---- a whole script

pub unread : (s : Contents) (bytes : List ℕ) (g : ScriptFault) (f : EditFault) → IsFaultOfText g f → (g ≡ texts.OutOfMemory) ⊎ IsFaultOf bytes s.setting.script.external g → Edits (Err f) s (Whole bytes) s
unread s bytes g f (inl out) is = rw out.1 (BeforeEdit (λ w same. cc same) (λ h refusal_edits. inr (refusal_edits.0, refusal_edits.2)) refl)
unread s bytes g f (inr fault_of_edit) (inl out) = absurd (fault_of_edit.0 out)
unread s bytes g f (inr fault_of_edit) (inr is) = rw fault_of_edit.1 (inl (g, is, refl), refl)
