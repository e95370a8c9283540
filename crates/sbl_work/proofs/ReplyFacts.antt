-- The replies to lines with a block.
use Rattle.std.proofs.Common.{◌≡◌, ◌⊎◌, inl, inr, ◌<◌, ◌≤◌, ◌∙◌, ℕ, Bool, true, false, List, [], ◌∷◌, Option, Some, None, Result, Ok, Err, if◌then◌else◌, length, nat_lt, codes, refl, sym, ap, subst, arith}
use Rattle.std.proofs.lemmas.Bool.Decides.{nat_tests}
use Rattle.std.specs.Option.{is_some}
use Rattle.std.specs.Prelude.{IfErr, IfOk, MatchResult, Vec}
use Rattle.std.specs.declared.alloc.Global.{Global}
use Rattle.std.proofs.lemmas.Str.{is_utf8-from_IsUtf8}
use Rattle.std.specs.Str.{IsUtf8, bytes_eq, is_utf8}
use Rattle.sbl_bench.specs.Contents.{Contents}
use Rattle.sbl_bench.specs.Edits.{Edit, Edits, Whole}
use Rattle.sbl_bench.specs.declared.fault.EditFault.{EditFault}
use Rattle.sbl_bench.specs.declared.fault.EditFault.TheVariants as fault
use Rattle.sbl_ast.specs.NamedParts.{Part'}
use Rattle.sbl_sessions.specs.Answers.{BlockRefused, Enough, edit_text, with_line_feed}
use Rattle.sbl_reports.specs.Block.{made_text, max_script}
use Rattle.sbl_sessions.specs.CommandViews.{IsAnswerOrBreak, IsReply, IsTextAnswer}
use Rattle.sbl_sessions.specs.Commands as session
use Rattle.sbl_sessions.specs.Commands.{Command, target_of, text_of_block}
use Rattle.sbl_sessions.specs.EditFaults.{fault_in}
use Rattle.sbl_sessions.specs.declared.replies.Reply.{Reply}
use Rattle.sbl_text.specs.declared.fault.ScriptFault.{ScriptFault}
use Rattle.sbl_text.specs.declared.fault.ScriptFault.TheVariants as script
use Rattle.sbl_work.specs.Commands as command
use Rattle.sbl_work.specs.Commands.{WorkCommand, alone_command, block_command, families_command, is_replace, part_command, with_file}
use Rattle.sbl_history.specs.Desks.{State}
use Rattle.sbl_history.specs.Refused.{RefusedText, LongText, PartText, WholeText}
use Rattle.sbl_work.specs.FaultReplies.{kept_after, refused_part, refused_whole}
use Rattle.sbl_history.specs.Editing.{IsLimitNoted, Replaces}
use Rattle.sbl_history.specs.History.{OfScript}
use Rattle.sbl_history.specs.MayBreak.{EditsOrBreaksIf}
use Rattle.sbl_work.specs.Replies.{IsSessionReply, IsWorkReply, ReplacesKept, TellsReport, not_text_text, rows_or_fault}
use Rattle.sbl_work.specs.ReplyViews.{IsFamiliesAnswer, IsFileAnswer, IsKeptPart, IsPartResult, IsSessionAnswer, IsTextResult, IsWorkAnswer, NamesText}
use Rattle.sbl_history.proofs.Refusing.{nothing_tried}
use Rattle.sbl_sessions.proofs.CommandFacts.{not_text}

-- ---- any command

-- the reply to one command is that to another name of it
pub same_command : (s t : Contents) (d e : State) (a b : WorkCommand) (r : Reply) → a ≡ b → IsWorkAnswer s d a r t e → IsWorkAnswer s d b r t e
same_command s t d e a b r is answer = subst (λ (x : WorkCommand). IsWorkAnswer s d x r t e) is answer

-- the session's reply to a command, whether or not it may be broken off
pub session_reply : (m : Bool) (k : Command) (s t : Contents) (text : List ℕ) → IsTextAnswer s k text t → IsSessionReply m k s text t
session_reply true k s t text is = inl is
session_reply false k s t text is = is

-- a command of a session that may be broken off
pub session_or_break : (s t : Contents) (k : Command) (r : Reply) (said said_now : Bool) → IsAnswerOrBreak said said_now s k r t → IsSessionAnswer true s k r t
session_or_break s t k r said said_now (inl a) = (a.1.1, a.1.2, inl (a.1.0, a.1.3))
session_or_break s t k r said said_now (inr b) = (b.1.0, b.1.1, inr b.1.2)

-- a command of a session, after which the limit before is noted
pub session_answer : (s t : Contents) (d e : State) (k : Command) (r : Reply) → IsSessionAnswer d.may_break s k r t → IsLimitNoted s t d e → IsWorkAnswer s d (command.Session k) r t e
session_answer s t d e k r (text, shown, is) noted = (text, shown, (is, noted))

-- a report, or memory for it is refused
pub reply_is_told : (s : Contents) (d : State) (report : List ℕ) (r : Reply) → IsReply r report ⊎ IsReply r (edit_text (Some fault.OutOfMemory)) → (text : List ℕ) × IsReply r text × TellsReport report s d text s d
reply_is_told s d report r (inl shown) = (report, shown, inl (refl, refl, refl))
reply_is_told s d report r (inr shown) = (edit_text (Some fault.OutOfMemory), shown, inr (refl, refl, refl))

-- an allocation for the text to be saved fails
pub save_memory : (s : Contents) (d : State) (line : List ℕ) (r : Reply) → alone_command (Some []) line ≡ command.Saved → IsReply r (edit_text (Some fault.OutOfMemory)) → IsFileAnswer s d line r s d
save_memory s d line r is shown = (Some [], same_command s s d d command.Saved (alone_command (Some []) line) r (sym is) (edit_text (Some fault.OutOfMemory), shown, inr (refl, refl, refl)))

-- ---- the rows on a run

-- the reply has the rows, or the fault of the word, or an allocation failed
pub rows_told : (o : Option EditFault) (expected : List ℕ) (rows : Result (Vec ℕ Global) EditFault) (r : Reply) → IfOk rows (λ text. text.items ≡ expected)
    → ((f : EditFault) → o ≡ Some f → rows ≡ Err f) → (o ≡ None → IfErr rows (λ f. f ≡ fault.OutOfMemory)) → MatchResult rows (λ text. IsReply r text.items) (λ f. IsReply r (edit_text (Some f)))
    → IsReply r (rows_or_fault o expected) ⊎ IsReply r (edit_text (Some fault.OutOfMemory))
rows_told None expected (Ok text) r is refused memory shown = inl (subst (IsReply r) is shown)
rows_told None expected (Err f) r is refused memory shown = inr (subst (λ (g : EditFault). IsReply r (edit_text (Some g))) (memory refl) shown)
rows_told (Some f) expected (Ok text) r is refused memory shown = absurd (cc (refused f refl))
rows_told (Some f) expected (Err g) r is refused memory shown =
    let same : g ≡ f = cc (refused f refl) in
    inl (subst (λ (h : EditFault). IsReply r (edit_text (Some h))) same shown)

-- ---- a whole script

-- a text that is too long is refused for that
too_long : (s : Contents) (bytes : List ℕ) → max_script < length bytes → Edits (Err (fault.Script script.ScriptTooLong)) s (Whole bytes) s
too_long s bytes long = (inl (script.ScriptTooLong, inl (inl (long, refl)), refl), refl)

-- an edit that is refused for its text is refused whether or not it may be broken off
plain_script : (m : Bool) (f : ScriptFault) (s t : Contents) (e : Edit) → Edits (Err (fault.Script f)) s e t → EditsOrBreaksIf m (Err (fault.Script f)) s e t
plain_script true f s t e is = is
plain_script false f s t e is = is

-- the same of one that is refused for memory
plain_memory : (m : Bool) (s t : Contents) (e : Edit) → Edits (Err fault.OutOfMemory) s e t → EditsOrBreaksIf m (Err fault.OutOfMemory) s e t
plain_memory true s t e is = is
plain_memory false s t e is = is

-- the block has no text
pub whole_refused : (s : Contents) (d : State) (bytes : List ℕ) (f : EditFault) → ((f ≡ fault.Script script.ScriptTooLong) × (max_script < length bytes)) ⊎ (f ≡ fault.OutOfMemory)
    → Replaces (Err f) OfScript (Whole bytes) (Some bytes) s d s d
whole_refused s d bytes f (inl long) = subst (λ (g : EditFault). Replaces (Err g) OfScript (Whole bytes) (Some bytes) s d s d) (sym long.0)
    (plain_script d.may_break script.ScriptTooLong s s (Whole bytes) (too_long s bytes long.1), refl)
whole_refused s d bytes f (inr memory) = subst (λ (g : EditFault). Replaces (Err g) OfScript (Whole bytes) (Some bytes) s d s d) (sym memory)
    (plain_memory d.may_break s s (Whole bytes) (nothing_tried s bytes), refl)

-- memory for the file of the script is refused
pub reload_memory : (s : Contents) (d : State) (line : List ℕ) (r : Reply) → command.EditWhole [] ≡ alone_command (Some []) line → IsReply r (edit_text (Some fault.OutOfMemory)) → IsFileAnswer s d line r s d
reload_memory s d line r is shown =
    (Some [], same_command s s d d (command.EditWhole []) (alone_command (Some []) line) r is (edit_text (Some fault.OutOfMemory), shown, (Err fault.OutOfMemory, (d, whole_refused s d [] fault.OutOfMemory (inr refl), refl), refl)))

-- memory for a file of families is refused
pub families_memory : (s : Contents) (d : State) (line : List ℕ) (r : Reply) → command.families_in_file [] ≡ alone_command (Some []) line → IsReply r (edit_text (Some fault.OutOfMemory)) → IsFileAnswer s d line r s d
families_memory s d line r is shown =
    (Some [], same_command s s d d (command.families_in_file []) (alone_command (Some []) line) r is (edit_text (Some fault.OutOfMemory), shown, inr (refl, refl, refl)))

-- memory for the words to be appended is refused
pub append_memory : (s : Contents) (d : State) (line : List ℕ) (r : Reply) → command.Saved ≡ alone_command (Some (0 ∷ [])) line → IsReply r (edit_text (Some fault.OutOfMemory)) → IsFileAnswer s d line r s d
append_memory s d line r is shown =
    (Some (0 ∷ []), same_command s s d d command.Saved (alone_command (Some (0 ∷ [])) line) r is (edit_text (Some fault.OutOfMemory), shown, inr (refl, refl, refl)))

-- these bytes replace it
pub whole_answer : (s t : Contents) (d e : State) (bytes : List ℕ) (result : Result (Unit {0}) EditFault) (r : Reply)
    → ReplacesKept result bytes s d t e → IsReply r (edit_text (fault_in result)) → IsWorkAnswer s d (command.EditWhole bytes) r t e
whole_answer s t d e bytes result r so shown = (edit_text (fault_in result), shown, (result, so, refl))

-- memory for a file that replaces it is refused
pub whole_memory : (s : Contents) (d : State) (r : Reply) → IsReply r (edit_text (Some fault.OutOfMemory)) → (file : Option (List ℕ)) × IsWorkAnswer s d (with_file command.EditWhole file) r s d
whole_memory s d r shown = (Some [], whole_answer s s d d [] (Err fault.OutOfMemory) r (d, whole_refused s d [] fault.OutOfMemory (inr refl), refl) shown)

-- ---- the text of a block

text_is : (lines : List (List ℕ)) (b : Bool) → length (made_text lines) ≤ max_script → is_utf8 (made_text lines) ≡ b
    → text_of_block lines ≡ (if b then Ok (made_text lines) else Err script.NotUtf8)
text_is lines b few is = let test : nat_lt max_script (length (made_text lines)) ≡ false = grind (arith, nat_tests) in rw (test, is) refl

text_long : (lines : List (List ℕ)) → max_script < length (made_text lines) → text_of_block lines ≡ Err script.ScriptTooLong
text_long lines long = let test : nat_lt max_script (length (made_text lines)) ≡ true = grind (arith, nat_tests) in rw test refl

-- ---- a part of a script

-- an allocation fails
part_memory : (s : Contents) (d : State) (what : Part') (bytes : List ℕ) (text : Result (List ℕ) ScriptFault) → IsWorkReply s d (part_command (Some what) bytes text) (edit_text (Some fault.OutOfMemory)) s d
part_memory s d what bytes (Ok text) = inr (refl, refl, refl)
part_memory s d what bytes (Err f) = inr (refl, refl, refl)

-- the line is bad
pub part_bad : (s : Contents) (d : State) (line : List ℕ) (lines : List (List ℕ)) (r : Reply) → target_of line ≡ None → IsReply r (with_line_feed (codes "no 52 BadCommand"))
    → IsWorkAnswer s d (part_command (target_of line) (made_text lines) (text_of_block lines)) r s d
part_bad s d line lines r none shown =
    same_command s s d d (part_command None (made_text lines) (text_of_block lines)) (part_command (target_of line) (made_text lines) (text_of_block lines)) r (ap (λ (o : Option Part'). part_command o (made_text lines) (text_of_block lines)) (sym none))
    (with_line_feed (codes "no 52 BadCommand"), shown, (session_reply d.may_break session.Bad s s (with_line_feed (codes "no 52 BadCommand")) (Enough, (refl, refl)), inl (refl, refl)))

-- an allocation for the line failed
pub part_unkept : (s : Contents) (d : State) (line : List ℕ) (lines : List (List ℕ)) (r : Reply) → is_some (target_of line) ≡ true → IsReply r (edit_text (Some fault.OutOfMemory))
    → IsWorkAnswer s d (part_command (target_of line) (made_text lines) (text_of_block lines)) r s d
part_unkept s d line lines r some shown = by (target_of line) some
  where
    by : (o : Option Part') → is_some o ≡ true → IsWorkAnswer s d (part_command o (made_text lines) (text_of_block lines)) r s d
    by None e = let no : false ≡ true = e in absurd (cc no)
    by (Some what) e = (edit_text (Some fault.OutOfMemory), shown, part_memory s d what (made_text lines) (text_of_block lines))

-- what is kept of bytes that are too long, and of others
kept_long : (what : Part') (bytes : List ℕ) (f : ScriptFault) → max_script < length bytes → refused_part what bytes f ≡ LongText
kept_long what bytes f long = let test : nat_lt max_script (length bytes) ≡ true = grind (arith, nat_tests) in rw test refl

kept_short : (what : Part') (bytes : List ℕ) (f : ScriptFault) → length bytes ≤ max_script → refused_part what bytes f ≡ PartText what bytes f
kept_short what bytes f few = let test : nat_lt max_script (length bytes) ≡ false = grind (arith, nat_tests) in rw test refl

-- the block has no text
pub part_refused : (s : Contents) (d e : State) (what : Part') (lines : List (List ℕ)) (f : EditFault) (r : Reply) → NamesText (Err f) (made_text lines)
    → e ≡ kept_after (Err f) (λ g. LongText) d → IsReply r (edit_text (Some f)) → IsWorkAnswer s d (part_command (Some what) (made_text lines) (text_of_block lines)) r s e
part_refused s d e what lines f r (inl long) is shown =
    let text : IsReply r (edit_text (Some (fault.Script script.ScriptTooLong))) = subst (λ (g : EditFault). IsReply r (edit_text (Some g))) long.0 shown in
    let kept : e ≡ record d { refused = Some LongText } = is ∙ ap (λ (g : EditFault). kept_after (Err g) (λ h. LongText) d) long.0 in
    same_command s s d e (part_command (Some what) (made_text lines) (Err script.ScriptTooLong)) (part_command (Some what) (made_text lines) (text_of_block lines)) r
    (ap (part_command (Some what) (made_text lines)) (sym (text_long lines long.1))) (
      edit_text (Some (fault.Script script.ScriptTooLong)),
      text,
      inl (refl, refl, kept ∙ ap (λ (x : RefusedText). record d { refused = Some x }) (sym (kept_long what (made_text lines) script.ScriptTooLong long.1))),
    )
part_refused s d e what lines f r (inr memory) is shown =
    let text : IsReply r (edit_text (Some fault.OutOfMemory)) = subst (λ (g : EditFault). IsReply r (edit_text (Some g))) memory shown in
    let kept : e ≡ d = is ∙ ap (λ (g : EditFault). kept_after (Err g) (λ h. LongText) d) memory in
    subst (λ (x : State). IsWorkAnswer s d (part_command (Some what) (made_text lines) (text_of_block lines)) r s x) (sym kept)
    (edit_text (Some fault.OutOfMemory), text, part_memory s d what (made_text lines) (text_of_block lines))

-- what is kept after an edit by bytes that are short enough
kept_result : (what : Part') (bytes : List ℕ) (d : State) (result : Result (Unit {0}) EditFault) → length bytes ≤ max_script
    → kept_after result (PartText what bytes) d ≡ kept_after result (refused_part what bytes) d
kept_result what bytes d result few =
    let test : nat_lt max_script (length bytes) ≡ false = grind (arith, nat_tests) in
    let P : Bool → Type 0 = λ b. PartText what bytes ≡ (λ (f : ScriptFault). if b then LongText else PartText what bytes f) in
    let base : P false = refl in
    let same : PartText what bytes ≡ refused_part what bytes = subst P (sym test) base in
    ap (λ (m : ScriptFault → RefusedText). kept_after result m d) same

part_text : (s t : Contents) (d m e : State) (what : Part') (bytes : List ℕ) (result : Result (Unit {0}) EditFault) → length bytes ≤ max_script → IsTextResult result what bytes s d t m
    → e ≡ kept_after result (PartText what bytes) m → IsWorkReply s d (part_command (Some what) bytes (Ok bytes)) (edit_text (fault_in result)) t e
part_text s t d m e what bytes result few (inl so) is = inl (so.0, result, m, so.1, so.2, is ∙ kept_result what bytes m result few, refl)
part_text s t d m e what bytes result few (inr memory) is =
    let kept : e ≡ m = is ∙ ap (λ (x : Result (Unit {0}) EditFault). kept_after x (PartText what bytes) m) memory.0 in
    inr (ap (λ (x : Result (Unit {0}) EditFault). edit_text (fault_in x)) memory.0, memory.1, kept ∙ memory.2)

-- the block has a text, or bytes that are none
pub part_held : (s t : Contents) (d m e : State) (what : Part') (bytes : List ℕ) (lines : List (List ℕ)) (result : Result (Unit {0}) EditFault) (r : Reply)
    → bytes ≡ made_text lines → length (made_text lines) ≤ max_script → IsPartResult result what bytes s d t m → e ≡ kept_after result (PartText what bytes) m → IsReply r (edit_text (fault_in result))
    → IsWorkAnswer s d (part_command (Some what) (made_text lines) (text_of_block lines)) r t e
part_held s t d m e what bytes lines result r same few so kept shown =
    by (is_utf8 (made_text lines)) refl (subst (λ (x : List ℕ). IsPartResult result what x s d t m) same so) (kept ∙ ap (λ (x : List ℕ). kept_after result (PartText what x) m) same)
  where
    by : (b : Bool) → is_utf8 (made_text lines) ≡ b → IsPartResult result what (made_text lines) s d t m → e ≡ kept_after result (PartText what (made_text lines)) m
        → IsWorkAnswer s d (part_command (Some what) (made_text lines) (text_of_block lines)) r t e
    by true is part last =
        let text : IsTextResult result what (made_text lines) s d t m = rw is at part in
        same_command s t d e (part_command (Some what) (made_text lines) (Ok (made_text lines))) (part_command (Some what) (made_text lines) (text_of_block lines)) r
        (ap (part_command (Some what) (made_text lines)) (sym (text_is lines true few is)))
        (edit_text (fault_in result), shown, part_text s t d m e what (made_text lines) result few text last)
    by false is part last =
        let bad : (result ≡ Err (fault.Script script.NotUtf8)) × (t ≡ s) × (m ≡ d) = rw is at part in
        let noted : e ≡ record m { refused = Some (PartText what (made_text lines) script.NotUtf8) } =
        last ∙ ap (λ (x : Result (Unit {0}) EditFault). kept_after x (PartText what (made_text lines)) m) bad.0 in
        same_command s t d e (part_command (Some what) (made_text lines) (Err script.NotUtf8)) (part_command (Some what) (made_text lines) (text_of_block lines)) r
        (ap (part_command (Some what) (made_text lines)) (sym (text_is lines false few is))) (
          edit_text (fault_in result),
          shown,
          inl (
            ap (λ (x : Result (Unit {0}) EditFault). edit_text (fault_in x)) bad.0,
            bad.1,
            noted ∙ ap (λ (x : State). record x { refused = Some (PartText what (made_text lines) script.NotUtf8) }) bad.2
                ∙ ap (λ (x : RefusedText). record d { refused = Some x }) (sym (kept_short what (made_text lines) script.NotUtf8 few)),
          ),
        )

-- no memory for what is kept
pub part_kept : (s t : Contents) (d e : State) (what : Part') (bytes : List ℕ) (lines : List (List ℕ)) (result : Result (Unit {0}) EditFault) (r : Reply)
    → bytes ≡ made_text lines → length (made_text lines) ≤ max_script → IsKeptPart result what bytes s d t e → IsReply r (edit_text (fault_in result))
    → IsWorkAnswer s d (part_command (Some what) (made_text lines) (text_of_block lines)) r t e
part_kept s t d e what bytes lines result r same few (inl so) shown = part_held s t d so.0 e what bytes lines result r same few so.1 so.2 shown
part_kept s t d e what bytes lines result r same few (inr memory) shown =
    let text : IsReply r (edit_text (Some fault.OutOfMemory)) = subst (λ (x : Result (Unit {0}) EditFault). IsReply r (edit_text (fault_in x))) memory.0 shown in
    subst (λ (x : Contents). IsWorkAnswer s d (part_command (Some what) (made_text lines) (text_of_block lines)) r x e) (sym memory.1)
    (subst (λ (x : State). IsWorkAnswer s d (part_command (Some what) (made_text lines) (text_of_block lines)) r s x) (sym memory.2)
    (edit_text (Some fault.OutOfMemory), text, part_memory s d what (made_text lines) (text_of_block lines)))

-- ---- a whole script that is kept

abbrev always_long : ScriptFault → RefusedText
always_long f = LongText

abbrev whole_or_long : List ℕ → Bool → ScriptFault → RefusedText
whole_or_long bytes b f = if b then LongText else WholeText bytes

whole_long : (bytes : List ℕ) → max_script < length bytes → always_long ≡ refused_whole bytes
whole_long bytes long =
    let test : nat_lt max_script (length bytes) ≡ true = grind (arith, nat_tests) in
    let base : always_long ≡ whole_or_long bytes true = refl in
    subst (λ (b : Bool). always_long ≡ whole_or_long bytes b) (sym test) base

-- the block has no text
pub whole_kept : (s : Contents) (d e : State) (bytes : List ℕ) (f : EditFault) (result : Result (Unit {0}) EditFault) → NamesText (Err f) bytes → result ≡ Err f
    → e ≡ kept_after (Err f) (λ g. LongText) d → ReplacesKept result bytes s d s e
whole_kept s d e bytes f result names is kept =
    subst (λ (r : Result (Unit {0}) EditFault). ReplacesKept r bytes s d s e) (sym is) (d, whole_refused s d bytes f names, kept ∙ same names)
  where
    same : NamesText (Err f) bytes → kept_after (Err f) (λ g. LongText) d ≡ kept_after (Err f) (refused_whole bytes) d
    same (inl long) = ap (λ (m : ScriptFault → RefusedText). kept_after (Err f) m d) (whole_long bytes long.1)
    same (inr memory) =
        ap (λ (g : EditFault). kept_after (Err g) (λ h. LongText) d) memory ∙ sym (ap (λ (g : EditFault). kept_after (Err g) (refused_whole bytes) d) memory)

-- these bytes replace it, and are kept
pub whole_noted : (s t : Contents) (d m e : State) (bytes : List ℕ) (result noted : Result (Unit {0}) EditFault) (x : RefusedText) → Replaces result OfScript (Whole bytes) (Some bytes) s d t m
    → noted ≡ result → e ≡ kept_after result (λ f. x) m → x ≡ refused_whole bytes script.NotUtf8 → ReplacesKept noted bytes s d t e
whole_noted s t d m e bytes result noted x so same kept is =
    subst (λ (r : Result (Unit {0}) EditFault). ReplacesKept r bytes s d t e) (sym same)
    (m, so, kept ∙ ap (λ (y : RefusedText). kept_after result (λ f. y) m) is)

-- ---- the bytes of a part

pub part_bytes : (s : Contents) (d : State) (what : Part') (bytes : List ℕ) → ¬ (IsUtf8 bytes) → IsPartResult (Err (fault.Script script.NotUtf8)) what bytes s d s d
part_bytes s d what bytes not = rw (not_text bytes not) (refl, refl, refl)

pub part_utf8 : (s t : Contents) (d e : State) (what : Part') (text bytes : List ℕ) (result : Result (Unit {0}) EditFault) → text ≡ bytes → IsUtf8 bytes
    → IsTextResult result what text s d t e → IsPartResult result what bytes s d t e
part_utf8 s t d e what text bytes result same utf8 so = rw (is_utf8-from_IsUtf8 bytes utf8) (subst (λ (b : List ℕ). IsTextResult result what b s d t e) same so)

-- ---- families

pub families_utf8 : (s : Contents) (d : State) (text bytes : List ℕ) (r : Reply) → text ≡ bytes → IsUtf8 bytes → IsFamiliesAnswer s d text r → IsWorkAnswer s d (command.Families bytes) r s d
families_utf8 s d text bytes r same utf8 answer = rw (is_utf8-from_IsUtf8 bytes utf8) (subst (λ (b : List ℕ). IsFamiliesAnswer s d b r) same answer)

pub families_bytes : (s : Contents) (d : State) (bytes : List ℕ) → ¬ (IsUtf8 bytes) → (text : List ℕ) × (not_text_text ≡ text) × IsWorkReply s d (command.Families bytes) text s d
families_bytes s d bytes not = rw (not_text bytes not) (not_text_text, refl, inl (refl, refl, refl))

pub families_held : (s : Contents) (d : State) (bytes : List ℕ) (lines : List (List ℕ)) (r : Reply) → bytes ≡ made_text lines → length (made_text lines) ≤ max_script
    → IsWorkAnswer s d (command.Families bytes) r s d → IsWorkAnswer s d (families_command lines) r s d
families_held s d bytes lines r same few answer =
    let test : nat_lt max_script (length (made_text lines)) ≡ false = grind (arith, nat_tests) in
    rw test (same_command s s d d (command.Families bytes) (command.Families (made_text lines)) r (ap command.Families same) answer)

pub families_refused : (s : Contents) (d : State) (lines : List (List ℕ)) (f : EditFault) (r : Reply) → NamesText (Err f) (made_text lines) → IsReply r (edit_text (Some f))
    → IsWorkAnswer s d (families_command lines) r s d
families_refused s d lines f r (inl long) shown =
    let test : nat_lt max_script (length (made_text lines)) ≡ true = grind (arith, nat_tests) in
    let text : IsReply r (edit_text (Some (fault.Script script.ScriptTooLong))) = subst (λ (g : EditFault). IsReply r (edit_text (Some g))) long.0 shown in
    let long_text = edit_text (Some (fault.Script script.ScriptTooLong)) in
    rw test (long_text, text, (session_reply d.may_break (session.HasNoText script.ScriptTooLong) s s long_text (Enough, (refl, refl)), inl (refl, refl)))
families_refused s d lines f r (inr memory) shown = by (nat_lt max_script (length (made_text lines))) refl
  where
    text : IsReply r (edit_text (Some fault.OutOfMemory))
    text = subst (λ (g : EditFault). IsReply r (edit_text (Some g))) memory shown

    by : (b : Bool) → nat_lt max_script (length (made_text lines)) ≡ b → IsWorkAnswer s d (families_command lines) r s d
    by true is = rw is (
      edit_text (Some fault.OutOfMemory),
      text,
      (session_reply d.may_break (session.HasNoText script.ScriptTooLong) s s (edit_text (Some fault.OutOfMemory)) (BlockRefused, (refl, refl)), inl (refl, refl)),
    )
    by false is = rw is (edit_text (Some fault.OutOfMemory), text, inr (refl, refl, refl))

-- ---- a line with its block

pub part_block : (s t : Contents) (d e : State) (line : List ℕ) (lines : List (List ℕ)) (r : Reply) (asked : Bool) → asked ≡ true
    → IsWorkAnswer s d (part_command (target_of line) (made_text lines) (text_of_block lines)) r t e
    → IsWorkAnswer s d (if asked then part_command (target_of line) (made_text lines) (text_of_block lines) else (if is_replace line then command.EditWhole (made_text lines) else families_command lines)) r t e
part_block s t d e line lines r asked is answer = rw is answer

pub families_block : (s t : Contents) (d e : State) (line : List ℕ) (lines : List (List ℕ)) (r : Reply) (asked replaces : Bool) → asked ≡ false → replaces ≡ false
    → IsWorkAnswer s d (families_command lines) r t e
    → IsWorkAnswer s d (if asked then part_command (target_of line) (made_text lines) (text_of_block lines) else (if replaces then command.EditWhole (made_text lines) else families_command lines)) r t e
families_block s t d e line lines r asked replaces is other answer = rw (is, other) answer

pub replace_block : (s t : Contents) (d e : State) (line : List ℕ) (lines : List (List ℕ)) (r : Reply) (asked replaces : Bool) → asked ≡ false → replaces ≡ true
    → IsWorkAnswer s d (command.EditWhole (made_text lines)) r t e
    → IsWorkAnswer s d (if asked then part_command (target_of line) (made_text lines) (text_of_block lines) else (if replaces then command.EditWhole (made_text lines) else families_command lines)) r t e
replace_block s t d e line lines r asked replaces is same answer = rw (is, same) answer
