-- The replies to `uses`, `find` and `stem`.
use Rattle.std.proofs.Common.{◌≡◌, ◌⊎◌, ◌||◌, ◌+◌, inl, inr, ◌==◌, ℕ, Bool, true, false, cond, not, arith, List, [], ◌∷◌, length, Some, None, Result, Ok, Err, codes, refl, sym, subst}
use Rattle.std.specs.List.{position_or_len}
use Rattle.std.specs.Option.{option_map_or}
use Rattle.std.specs.Prelude.{IfOk, OnErr, Vec}
use Rattle.std.specs.declared.alloc.AllocError.{AllocError}
use Rattle.std.specs.declared.alloc.Global.{Global}
use Rattle.std.specs.Str.{chars}
use Rattle.sbl_bench.specs.Contents.{Contents}
use Rattle.sbl_bench.specs.declared.fault.EditFault.TheVariants as edit
use Rattle.sbl_uses.specs.Uses.{IsResult, OfAmong, OfName, OfString}
use Rattle.sbl_uses.specs.declared.uses.UsesFault.{UsesFault}
use Rattle.sbl_uses.specs.declared.uses.UsesFault.TheVariants as fault
use Rattle.sbl_sessions.specs.Answers.{Enough, edit_text, with_line_feed}
use Rattle.sbl_sessions.specs.CommandViews.{IsReply}
use Rattle.sbl_sessions.specs.Commands.{Bad}
use Rattle.sbl_sessions.specs.Numbers.{number_in}
use Rattle.sbl_sessions.specs.Words.{argument, command_word}
use Rattle.sbl_sessions.specs.declared.replies.Reply.{Reply}
use Rattle.sbl_work.proofs.ReplyFacts.{session_reply}
use Rattle.sbl_history.specs.Desks.{State}
use Rattle.sbl_work.specs.Commands.{Find, Session, Uses, WorkCommand, find_command, uses_command}
use Rattle.sbl_work.specs.Questions.{among_question, has_space, named_question}
use Rattle.sbl_work.specs.Replies.{users_or_fault}
use Rattle.sbl_work.specs.ReplyViews.{IsWorkAnswer}

-- why there is no such part, or an allocation failed
pub fault_told : {A : Type 0} (view : A → List ℕ) (wanted : Result (List ℕ) UsesFault) (f : UsesFault) (r : Reply) → IsResult view (Err f) wanted → IsReply r (users_or_fault (Err f))
    → IsReply r (users_or_fault wanted) ⊎ IsReply r (edit_text (Some edit.OutOfMemory))
fault_told view wanted fault.NoRoutine r is shown = inl (subst (λ (w : Result (List ℕ) UsesFault). IsReply r (users_or_fault w)) (sym is) shown)
fault_told view wanted fault.NoAmong r is shown = inl (subst (λ (w : Result (List ℕ) UsesFault). IsReply r (users_or_fault w)) (sym is) shown)
fault_told view wanted fault.NoString r is shown = inl (subst (λ (w : Result (List ℕ) UsesFault). IsReply r (users_or_fault w)) (sym is) shown)
fault_told view wanted fault.OutOfMemory r is shown = inr shown

-- the line is bad
pub bad_told : (s : Contents) (d : State) (command : WorkCommand) (r : Reply) → command ≡ Session Bad → IsReply r (with_line_feed (codes "no 52 BadCommand")) → IsWorkAnswer s d command r s d
bad_told s d command r is shown =
    subst (λ (c : WorkCommand). IsWorkAnswer s d c r s d) (sym is) (with_line_feed (codes "no 52 BadCommand"), shown, (session_reply d.may_break Bad s s (with_line_feed (codes "no 52 BadCommand")) (Enough, (refl, refl)), inl (refl, refl)))

-- a report is made, or an allocation for it fails
pub report_told : (wanted : List ℕ) (text : Result (Vec ℕ Global) AllocError) (r : Reply) → IfOk text (λ made. IsReply r made.items) → OnErr text (IsReply r (edit_text (Some edit.OutOfMemory)))
    → IfOk text (λ t. t.items ≡ wanted) → IsReply r wanted ⊎ IsReply r (edit_text (Some edit.OutOfMemory))
report_told wanted (Ok text) r made refused is = inl (subst (IsReply r) is made)
report_told wanted (Err e) r made refused is = inr refused

-- ---- what `find` looks for

pub no_part : (text : List ℕ) → length text ≡ 0 → find_command text ≡ Session Bad
no_part [] h = refl
no_part (b ∷ text) h = absurd (cc h)

pub some_part : (text : List ℕ) → (length text == 0) ≡ false → Find (chars text) ≡ find_command text
some_part [] h = cc h
some_part (b ∷ text) h = refl

-- ---- what the argument of `uses` asks about

-- no byte of a text is a space
pub no_space : (text : List ℕ) → position_or_len (λ b. b == 32) text ≡ length text → has_space text ≡ false
no_space [] h = refl
no_space (b ∷ text) h = by (b == 32) h (no_space text)
  where
    by : (t : Bool) → cond (not t) (1 + position_or_len (λ x. x == 32) text) 0 ≡ length (b ∷ text) → (position_or_len (λ x. x == 32) text ≡ length text → has_space text ≡ false)
        → (t || has_space text) ≡ false
    by true past rest = absurd (omega (arith, past))
    by false past rest = rest (omega (arith, past))

pub no_number : (name text : List ℕ) → number_in (command_word text) ≡ None → option_map_or Uses (among_question name text) (Session Bad) ≡ Session Bad
no_number name text none = rw none refl

pub one_among : (name text : List ℕ) (k : ℕ) → number_in (command_word text) ≡ Some k → has_space text ≡ false → Uses (OfAmong name k) ≡ option_map_or Uses (among_question name text) (Session Bad)
one_among name text k number alone = rw (number, alone) refl

pub one_string : (name text : List ℕ) (k : ℕ) → number_in (command_word text) ≡ Some k → has_space text ≡ true
    → Uses (OfString name k (chars (argument text))) ≡ option_map_or Uses (among_question name text) (Session Bad)
one_string name text k number more = rw (number, more) refl

pub no_name : (text : List ℕ) → length (command_word text) ≡ 0 → uses_command text ≡ Session Bad
no_name text none = by (command_word text) none
  where
    by : (name : List ℕ) → length name ≡ 0 → option_map_or Uses (named_question name text) (Session Bad) ≡ Session Bad
    by [] h = refl
    by (b ∷ name) h = absurd (cc h)

pub name_alone : (text : List ℕ) → (length (command_word text) == 0) ≡ false → has_space text ≡ false → Uses (OfName (command_word text)) ≡ uses_command text
name_alone text some alone = by (command_word text) some
  where
    by : (name : List ℕ) → (length name == 0) ≡ false → Uses (OfName name) ≡ option_map_or Uses (named_question name text) (Session Bad)
    by [] h = cc h
    by (b ∷ name) h = rw alone refl

pub name_and_more : (text : List ℕ) → (length (command_word text) == 0) ≡ false → has_space text ≡ true
    → option_map_or Uses (among_question (command_word text) (argument text)) (Session Bad) ≡ uses_command text
name_and_more text some more = by (command_word text) some
  where
    by : (name : List ℕ) → (length name == 0) ≡ false → option_map_or Uses (among_question name (argument text)) (Session Bad) ≡ option_map_or Uses (named_question name text) (Session Bad)
    by [] h = cc h
    by (b ∷ name) h = rw more refl
