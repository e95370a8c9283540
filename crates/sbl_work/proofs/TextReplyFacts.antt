-- The replies to `text`, `places` and `tokens`.
use Rattle.std.proofs.Common.{◌≡◌, ◌<◌, ◌≤◌, inl, inr, ℕ, Bool, true, false, List, [], Some, None, Option, Result, Ok, Err, length, nat_lt, refl, sym, subst, ap, arith}
use Rattle.std.proofs.lemmas.Bool.Decides.{nat_tests}
use Rattle.std.proofs.lemmas.Str.{is_utf8-from_IsUtf8}
use Rattle.std.specs.Prelude.{IfOk, OnErr, Vec}
use Rattle.std.specs.Str.{IsUtf8, is_utf8}
use Rattle.std.specs.declared.alloc.AllocError.{AllocError}
use Rattle.std.specs.declared.alloc.Global.{Global}
use Rattle.sbl_bench.specs.Contents.{Contents}
use Rattle.sbl_bench.specs.declared.fault.EditFault.TheVariants as edit
use Rattle.sbl_history.specs.Desks.{State}
use Rattle.sbl_reports.specs.Block.{max_script}
use Rattle.sbl_sessions.specs.Answers.{edit_text}
use Rattle.sbl_sessions.specs.CommandViews.{IsReply}
use Rattle.sbl_sessions.specs.declared.replies.Reply.{Reply}
use Rattle.sbl_text.specs.declared.fault.ScriptFault.TheVariants as script
use Rattle.sbl_text_rows.specs.TokenRows.{IsTokensText}
use Rattle.sbl_work.specs.Commands.{TokensOf, with_file}
use Rattle.sbl_work.specs.Replies.{IsFileTokensReply, IsRowsReply, TellsRows, not_text_text}
use Rattle.sbl_work.specs.ReplyViews.{IsRowsAnswer, IsWorkAnswer}
use Rattle.sbl_sessions.proofs.CommandFacts.{not_text}

-- the bytes are a text
pub rows_utf8 : (HasRows : List ℕ → List ℕ → Type 0) (s : Contents) (d : State) (text bytes : List ℕ) (rows : Result (Vec ℕ Global) AllocError) (r : Reply) → text ≡ bytes → IsUtf8 bytes
    → IfOk rows (λ made. HasRows text made.items) → IfOk rows (λ made. IsReply r made.items) → OnErr rows (IsReply r (edit_text (Some edit.OutOfMemory))) → IsRowsAnswer HasRows bytes s d r
rows_utf8 HasRows s d text bytes (Ok made) r same utf8 has shown refused =
    rw (is_utf8-from_IsUtf8 bytes utf8) (made.items, shown, inl (subst (λ (b : List ℕ). HasRows b made.items) same has, refl, refl))
rows_utf8 HasRows s d text bytes (Err e) r same utf8 has shown refused =
    rw (is_utf8-from_IsUtf8 bytes utf8) (edit_text (Some edit.OutOfMemory), refused, inr (refl, refl, refl))

-- they are none
pub rows_bytes : (HasRows : List ℕ → List ℕ → Type 0) (s : Contents) (d : State) (bytes : List ℕ) → ¬ (IsUtf8 bytes)
    → (text : List ℕ) × (not_text_text ≡ text) × IsRowsReply HasRows bytes s d text s d
rows_bytes HasRows s d bytes not = rw (not_text bytes not) (not_text_text, refl, inl (refl, refl, refl))

-- an allocation fails
pub rows_memory : (HasRows : List ℕ → List ℕ → Type 0) (s : Contents) (d : State) (bytes : List ℕ) (r : Reply) → IsReply r (edit_text (Some edit.OutOfMemory)) → IsRowsAnswer HasRows bytes s d r
rows_memory HasRows s d bytes r shown = by (is_utf8 bytes)
  where
    by : (b : Bool) → (text : List ℕ) × IsReply r text × TellsRows HasRows b bytes s d text s d
    by true = (edit_text (Some edit.OutOfMemory), shown, inr (refl, refl, refl))
    by false = (edit_text (Some edit.OutOfMemory), shown, inr (refl, refl, refl))

pub rows_held : (HasRows : List ℕ → List ℕ → Type 0) (s : Contents) (d : State) (bytes held : List ℕ) (r : Reply) → bytes ≡ held → IsRowsAnswer HasRows bytes s d r → IsRowsAnswer HasRows held s d r
rows_held HasRows s d bytes held r same answer = subst (λ (b : List ℕ). IsRowsAnswer HasRows b s d r) same answer

-- ---- a file

pub file_too_long : (s : Contents) (d : State) (bytes : List ℕ) (r : Reply) → max_script < length bytes → IsReply r (edit_text (Some (edit.Script script.ScriptTooLong))) → IsWorkAnswer s d (TokensOf bytes) r s d
file_too_long s d bytes r long shown =
    let test : nat_lt max_script (length bytes) ≡ true = grind (arith, nat_tests) in
    rw test (edit_text (Some (edit.Script script.ScriptTooLong)), shown, (refl, refl, refl))

pub file_rows : (s : Contents) (d : State) (bytes : List ℕ) (r : Reply) → length bytes ≤ max_script → IsRowsAnswer IsTokensText bytes s d r → IsWorkAnswer s d (TokensOf bytes) r s d
file_rows s d bytes r few answer =
    let test : nat_lt max_script (length bytes) ≡ false = grind (arith, nat_tests) in rw test answer

-- memory for the file is refused
pub file_memory : (s : Contents) (d : State) (r : Reply) → IsReply r (edit_text (Some edit.OutOfMemory)) → (file : Option (List ℕ)) × IsWorkAnswer s d (with_file TokensOf file) r s d
file_memory s d r shown = (Some [], file_rows s d [] r (omega arith) (rows_memory IsTokensText s d [] r shown))
