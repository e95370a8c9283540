-- The replies to `faults`.
use Rattle.std.proofs.Common.{◌≡◌, ◌-◌, inl, inr, ℕ, length, List, [], ◌∷◌, Option, Some, None, Result, Ok, Err, refl, subst}
use Rattle.std.specs.Prelude.{IfOk, OnErr, Vec}
use Rattle.std.proofs.lemmas.Str.{is_utf8-from_IsUtf8}
use Rattle.std.specs.Str.{IsUtf8}
use Rattle.std.specs.declared.alloc.AllocError.{AllocError}
use Rattle.std.specs.declared.alloc.Global.{Global}
use Rattle.sbl_bench.specs.Contents.{Contents}
use Rattle.sbl_bench.specs.declared.fault.EditFault.TheVariants as edit
use Rattle.sbl_history.specs.Desks.{State}
use Rattle.sbl_history.specs.Refused.{RefusedText}
use Rattle.sbl_ast.specs.NamedParts.{Part'}
use Rattle.sbl_sessions.specs.Answers.{edit_text}
use Rattle.sbl_sessions.specs.CommandViews.{IsReply}
use Rattle.sbl_sessions.specs.declared.replies.Reply.{Reply}
use Rattle.sbl_print.specs.Canonical.{canonical}
use Rattle.sbl_source_map.specs.BlockFaults.{AreBlockFaults}
use Rattle.sbl_source_map.specs.FaultLists.{AreFaultsOf}
use Rattle.sbl_source_map.specs.Heads.{IsWithoutHead}
use Rattle.sbl_source_map.specs.PartTokens.{IsCutAtPart}
use Rattle.sbl_source_map.specs.declared.parts.Excerpt.{Excerpt}
use Rattle.sbl_source_map.specs.declared.fault_lists.PlacedFault.{PlacedFault}
use Rattle.sbl_text.specs.declared.fault.ScriptFault.{ScriptFault}
use Rattle.sbl_work.specs.Commands.{FaultsOf, with_file}
use Rattle.sbl_work.specs.FaultReplies.{alone, or_alone, AreBytesFaults, ArePartFaults, AreTypedFaults, IsFaultsText, IsRefusedText}
use Rattle.sbl_work.specs.Replies.{IsFaultsReply, TellsFaults}
use Rattle.sbl_work.specs.ReplyViews.{IsWorkAnswer}
use Rattle.sbl_sessions.proofs.CommandFacts.{not_text}

-- rows, or memory for them is refused
pub rows_reply : (AreRows : List ℕ → Type 0) (s : Contents) (d : State) (rows : Result (Vec ℕ Global) AllocError) (r : Reply) → IfOk rows (λ made. AreRows made.items) → IfOk rows (λ made. IsReply r made.items)
    → OnErr rows (IsReply r (edit_text (Some edit.OutOfMemory))) → (text : List ℕ) × IsReply r text × TellsFaults AreRows s d text s d
rows_reply AreRows s d (Ok made) r has shown refused = (made.items, shown, inl (has, refl, refl))
rows_reply AreRows s d (Err e) r has shown refused = (edit_text (Some edit.OutOfMemory), refused, inr (refl, refl, refl))

-- the reply about a text that is kept
pub kept_reply : (s : Contents) (d : State) (r : Reply) (o : Option RefusedText) (x : RefusedText) → Some x ≡ o
    → (text : List ℕ) × IsReply r text × TellsFaults (IsRefusedText s x) s d text s d → (text : List ℕ) × IsReply r text × IsFaultsReply o s d text s d
kept_reply s d r o x is h = subst (λ (q : Option RefusedText). (text : List ℕ) × IsReply r text × IsFaultsReply q s d text s d) is h

-- memory for a file is refused
pub faults_memory : (s : Contents) (d : State) (r : Reply) → IsReply r (edit_text (Some edit.OutOfMemory)) → (file : Option (List ℕ)) × IsWorkAnswer s d (with_file FaultsOf file) r s d
faults_memory s d r shown = (Some [], (edit_text (Some edit.OutOfMemory), shown, inr (refl, refl, refl)))

-- what is typed is a text, or bytes that are none
pub typed_text : (s : Contents) (what : Part') (text typed : List ℕ) (f : ScriptFault) (faults : List PlacedFault) → text ≡ typed → IsUtf8 typed
    → AreTypedFaults s what text f faults → ArePartFaults s what typed f faults
typed_text s what text typed f faults same utf8 h =
    rw (is_utf8-from_IsUtf8 typed utf8) (subst (λ (b : List ℕ). AreTypedFaults s what b f faults) same h)

pub typed_bytes : (s : Contents) (what : Part') (typed : List ℕ) (f : ScriptFault) (faults : List PlacedFault) → ¬ (IsUtf8 typed)
    → AreFaultsOf typed s.setting.script.external faults → ArePartFaults s what typed f faults
typed_bytes s what typed f faults not h = rw (not_text typed not) h

-- the script is cut at the part, or has no such part
pub typed_cut : (s : Contents) (what : Part') (typed rest text external block : List ℕ) (f : ScriptFault) (o : Option Excerpt) (cut : Excerpt) (head : ℕ) (all faults : List PlacedFault)
    → IsWithoutHead what typed rest → IsCutAtPart what text o → o ≡ Some cut → text ≡ canonical s.setting.script.items → external ≡ s.setting.script.external
    → head ≡ length typed - length rest → block ≡ rest → AreBlockFaults cut.before.now head block cut.after.now external f all → faults ≡ or_alone f all → AreTypedFaults s what typed f faults
typed_cut s what typed rest text external block f o cut head all faults without cuts is same of_script ahead blocks are found = (
  rest,
  Some cut,
  without,
  subst (λ (t : List ℕ). IsCutAtPart what t (Some cut)) same (subst (λ (p : Option Excerpt). IsCutAtPart what text p) is cuts),
  (
    all,
    subst (λ (e : List ℕ). AreBlockFaults cut.before.now (length typed - length rest) rest cut.after.now e f all) of_script
        (subst (λ (b : List ℕ). AreBlockFaults cut.before.now (length typed - length rest) b cut.after.now external f all) blocks
        (subst (λ (n : ℕ). AreBlockFaults cut.before.now n block cut.after.now external f all) ahead are)),
    found,
  ),
)

pub typed_uncut : (s : Contents) (what : Part') (typed rest text : List ℕ) (f : ScriptFault) (o : Option Excerpt) (faults : List PlacedFault) → IsWithoutHead what typed rest → IsCutAtPart what text o
    → o ≡ None → text ≡ canonical s.setting.script.items → faults ≡ alone f → AreTypedFaults s what typed f faults
typed_uncut s what typed rest text f o faults without cuts is same found = (
  rest,
  None,
  without,
  subst (λ (t : List ℕ). IsCutAtPart what t None) same (subst (λ (p : Option Excerpt). IsCutAtPart what text p) is cuts),
  found,
)
