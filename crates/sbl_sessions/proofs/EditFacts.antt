-- What an edit answers, as a session answers it.
use Rattle.std.proofs.Common.{codes, if◌then◌else◌, ◌≡◌, ◌⊎◌, inl, inr, ◌∙◌, ◌≤◌, ◌<◌, ◌+◌, ℕ, Bool, Bor, true, false, List, [], ◌∷◌, length, take, Option, Some, None, Result, Ok, Err, refl, sym, ap, subst, arith, nat_lt, length-take}
use Rattle.std.proofs.lemmas.Bool.Decides.{nat_tests}
use Rattle.std.proofs.lemmas.Grind.{common_steps}
use Rattle.std.specs.Option.{is_some, option_map_or}
use Rattle.std.specs.Str.{is_utf8}
use Rattle.sbl_bench.specs.Contents.{Contents}
use Rattle.sbl_bench.specs.Edits.{Edit, Edits, Add, Replace, BeforeEdit, During, IsAccepted, IsMeterFull, IsOutOfMemory, IsRefused, IsVerdict, refusal_of_add}
use Rattle.sbl_bench.specs.declared.fault.EditFault.{EditFault}
use Rattle.sbl_bench.specs.declared.fault.EditFault.TheVariants as fault
use Rattle.sbl_ast.specs.NamedParts.{Part'}
use Rattle.sbl_text.specs.declared.fault.ScriptFault.{ScriptFault}
use Rattle.sbl_text.specs.declared.fault.ScriptFault.TheVariants as script
use Rattle.sbl_sessions.specs.Answers.{BlockRefused, Enough, RefusedAfter, edit_text, with_line_feed}
use Rattle.sbl_reports.specs.Block.{HasText, made_text, max_script}
use Rattle.sbl_sessions.specs.CommandViews.{IsAnswer, IsEditAnswer, IsTextAnswer}
use Rattle.sbl_sessions.specs.Commands.{Bad, Command, block_command, target_of, Makes, HasNoText, text_of_block}
use Rattle.sbl_sessions.specs.EditFaults.{fault_in}
use Rattle.sbl_sessions.specs.declared.replies.Reply.TheVariants as reply

-- where memory was refused
out_of_memory : (s t : Contents) (e : Edit) → IsOutOfMemory s e t → IsEditAnswer s e (edit_text (Some fault.OutOfMemory)) t
out_of_memory s t e (BeforeEdit wanted passes same) =
    let none_more : s.count ≡ s.count + 0 = omega arith in
    (RefusedAfter 0, (Some fault.OutOfMemory, (refl, same ∙ ap (λ (k : ℕ). record s { count = k }) none_more, BeforeEdit wanted passes same), refl))
out_of_memory s t e (During wanted made is n few same) = (RefusedAfter n, (Some fault.OutOfMemory, (refl, same, During wanted made is n few same), refl))

pub answer_of_edit : (r : Result (Unit {0}) EditFault) (s t : Contents) (e : Edit) → Edits r s e t → IsEditAnswer s e (edit_text (fault_in r)) t
answer_of_edit (Ok u) s t e h = (Enough, (None, h, refl))
answer_of_edit (Err fault.OutOfMemory) s t e h = out_of_memory s t e h
answer_of_edit (Err f) s t e h = (Enough, (Some f, h, refl))

-- a command makes an edit, and this text answers it
pub edit_answered : (x : Command) (e : Edit) (s t : Contents) (text : Bor (List ℕ)) → Makes e ≡ x → IsEditAnswer s e text.now t → IsAnswer s x (reply.Fixed text) t
edit_answered x e s t text is h =
    let a : IsAnswer s (Makes e) (reply.Fixed text) t = (h.0, text.now, refl, h.1) in
    subst (λ (y : Command). IsAnswer s y (reply.Fixed text) t) is a

-- a text that replaces something, by what is replaced and its bytes
pub replaced_text : (r : Result (Unit {0}) EditFault) (s t : Contents) (named what : Part') (text bytes answer : List ℕ) → named ≡ what → text ≡ bytes
    → Edits r s (Replace named text) t → answer ≡ edit_text (fault_in r) → IsEditAnswer s (Replace what bytes) answer t
replaced_text r s t named what text bytes answer is same h told =
    let a : IsEditAnswer s (Replace named text) (edit_text (fault_in r)) t = answer_of_edit r s t (Replace named text) h in
    let b : IsEditAnswer s (Replace what text) (edit_text (fault_in r)) t = subst (λ (e : Part'). IsEditAnswer s (Replace e text) (edit_text (fault_in r)) t) is a in
    let d : IsEditAnswer s (Replace what bytes) (edit_text (fault_in r)) t = subst (λ (x : List ℕ). IsEditAnswer s (Replace what x) (edit_text (fault_in r)) t) same b in
    subst (λ (x : List ℕ). IsEditAnswer s (Replace what bytes) x t) (sym told) d

-- ---- a word that is added, by its first characters

-- a word of more than 255 characters is refused for that
too_long : (s : Contents) (word : List ℕ) → 255 < length word → refusal_of_add s word ≡ Some fault.WordTooLong
too_long s [] long = absurd (omega arith)
too_long s (c ∷ word) long = let test : nat_lt 255 (length (c ∷ word)) ≡ true = grind (arith, nat_tests) in rw test refl

not_accepted : (s t : Contents) (word : List ℕ) → refusal_of_add s word ≡ Some fault.WordTooLong → IsAccepted s (Add word) t → ⊥
not_accepted s t word f h = let none : Some fault.WordTooLong ≡ None = sym f ∙ h.after.0 in cc none

-- a refusal for one word that is too long is one for another
verdict_long : (s t : Contents) (word cut : List ℕ) (f : EditFault) → refusal_of_add s word ≡ Some fault.WordTooLong
    → refusal_of_add s cut ≡ Some fault.WordTooLong → IsVerdict s (Add cut) (Some f) t → IsVerdict s (Add word) (Some f) t
verdict_long s t word cut f long short h = by h.0
  where
    by : IsRefused s (Add cut) f ⊎ IsMeterFull s (Add cut) f → IsVerdict s (Add word) (Some f) t
    by (inl is) = (inl (long ∙ sym short ∙ is), h.1)
    by (inr m) = let none : Some fault.WordTooLong ≡ None = sym short ∙ m.1.0 in absurd (cc none)

not_for_memory : (s t : Contents) (cut : List ℕ) → refusal_of_add s cut ≡ Some fault.WordTooLong → IsOutOfMemory s (Add cut) t → ⊥
not_for_memory s t cut short (BeforeEdit wanted passes same) = of_text (passes fault.WordTooLong short)
  where
    of_text : (fault.WordTooLong ≡ fault.AmongCount) ⊎ ((g : ScriptFault) × (fault.WordTooLong ≡ fault.Script g)) → ⊥
    of_text (inl e) = cc e
    of_text (inr e) = let differ : fault.WordTooLong ≡ fault.Script e.0 = e.1 in cc differ
not_for_memory s t cut short (During wanted made is n few same) = not_accepted s made cut short is

refused_long : (r : Result (Unit {0}) EditFault) (s t : Contents) (word cut : List ℕ) → refusal_of_add s word ≡ Some fault.WordTooLong
    → refusal_of_add s cut ≡ Some fault.WordTooLong → Edits r s (Add cut) t → Edits r s (Add word) t
refused_long (Ok u) s t word cut long short h = absurd (not_accepted s t cut short h)
refused_long (Err fault.OutOfMemory) s t word cut long short h = absurd (not_for_memory s t cut short h)
refused_long (Err f) s t word cut long short h = verdict_long s t word cut f long short h

all_of : (n : ℕ) (xs : List ℕ) → length xs ≤ n → take n xs ≡ xs
all_of n xs h = grind (arith, common_steps)

-- the first 256 characters of a word say what becomes of it
by_first : (r : Result (Unit {0}) EditFault) (s t : Contents) (word : List ℕ) → Edits r s (Add (take 256 word)) t → Edits r s (Add word) t
by_first r s t word h = by (nat_lt 256 (length word)) refl
  where
    by : (b : Bool) → nat_lt 256 (length word) ≡ b → Edits r s (Add word) t
    by true e =
        let long : 256 < length word = grind (arith, nat_tests) in
        let cut : 255 < length (take 256 word) = rw length-take (omega arith) in
        refused_long r s t word (take 256 word) (too_long s word (omega arith)) (too_long s (take 256 word) cut) h
    by false e =
        let short : length word ≤ 256 = grind (arith, nat_tests) in
        let whole : take 256 word ≡ word = all_of 256 word short in
        subst (λ (w : List ℕ). Edits r s (Add w) t) whole h

pub add_answered : (r : Result (Unit {0}) EditFault) (s t : Contents) (word cut text : List ℕ) → cut ≡ take 256 word → Edits r s (Add cut) t → text ≡ edit_text (fault_in r)
    → IsEditAnswer s (Add word) text t
add_answered r s t word cut text first adds told =
    let all : Edits r s (Add (take 256 word)) t = subst (λ (w : List ℕ). Edits r s (Add w) t) first adds in
    subst (λ (x : List ℕ). IsEditAnswer s (Add word) x t) (sym told) (answer_of_edit r s t (Add word) (by_first r s t word all))

-- ---- an edit of the script

-- the text of a block that is one
text_is : (lines : List (List ℕ)) → length (made_text lines) ≤ max_script → (b : Bool) → is_utf8 (made_text lines) ≡ b
    → text_of_block lines ≡ (if b then Ok (made_text lines) else Err script.NotUtf8)
text_is lines few b is = let test : nat_lt max_script (length (made_text lines)) ≡ false = grind (arith, nat_tests) in rw (test, is) refl

text_long : (lines : List (List ℕ)) → max_script < length (made_text lines) → text_of_block lines ≡ Err script.ScriptTooLong
text_long lines long = let test : nat_lt max_script (length (made_text lines)) ≡ true = grind (arith, nat_tests) in rw test refl

-- the command of what a line replaces, and the text of its block or why it has none
abbrev with_text : Part' → Result (List ℕ) ScriptFault → Command
with_text what r = elim r [ Ok text ↦ Makes (Replace what text) | Err f ↦ HasNoText f ]

-- the command of what a line replaces and its block
abbrev with_target : Option Part' → List (List ℕ) → Command
with_target what lines = option_map_or (λ (w : Part'). with_text w (text_of_block lines)) what Bad

-- the line is bad, whatever its block is
pub bad_line : (s : Contents) (line : List ℕ) (lines : List (List ℕ)) → None ≡ target_of line → IsTextAnswer s (block_command line lines) (with_line_feed (codes "no 52 BadCommand")) s
bad_line s line lines none = subst (λ (c : Command). IsTextAnswer s c (with_line_feed (codes "no 52 BadCommand")) s) (ap (λ (t : Option Part'). with_target t lines) none) (Enough, (refl, refl))

command_is : (line : List ℕ) (lines : List (List ℕ)) (what : Part') → Some what ≡ target_of line → block_command line lines ≡ with_text what (text_of_block lines)
command_is line lines what is = ap (λ (t : Option Part'). with_target t lines) (sym is)

-- the block is too long
pub block_too_long : (s : Contents) (line : List ℕ) (lines : List (List ℕ)) (what : Part') → Some what ≡ target_of line → max_script < length (made_text lines)
    → IsTextAnswer s (block_command line lines) (edit_text (Some (fault.Script script.ScriptTooLong))) s
block_too_long s line lines what is long =
    subst (λ (c : Command). IsTextAnswer s c (edit_text (Some (fault.Script script.ScriptTooLong))) s)
    (sym (command_is line lines what is ∙ ap (with_text what) (text_long lines long))) (Enough, (refl, refl))

text_refused : (s : Contents) (what : Part') (r : Result (List ℕ) ScriptFault) → IsTextAnswer s (with_text what r) (edit_text (Some fault.OutOfMemory)) s
text_refused s what (Ok text) = (BlockRefused, (Some fault.OutOfMemory, (refl, refl), refl))
text_refused s what (Err f) = (BlockRefused, (refl, refl))

-- the memory of the name that the line has was refused
pub name_refused : (s : Contents) (line : List ℕ) (lines : List (List ℕ)) → is_some (target_of line) ≡ true → IsTextAnswer s (block_command line lines) (edit_text (Some fault.OutOfMemory)) s
name_refused s line lines some = by (target_of line) some
  where
    by : (t : Option Part') → is_some t ≡ true → IsTextAnswer s (with_target t lines) (edit_text (Some fault.OutOfMemory)) s
    by None e = let no : false ≡ true = e in absurd (cc no)
    by (Some what) e = text_refused s what (text_of_block lines)

-- the block is held: it is a text, or it is not UTF-8
pub block_held : (s t : Contents) (line bytes answer : List ℕ) (lines : List (List ℕ)) (what : Part') → Some what ≡ target_of line
    → HasText None bytes lines → (is_utf8 bytes ≡ true → IsEditAnswer s (Replace what bytes) answer t)
    → (is_utf8 bytes ≡ false → (answer ≡ edit_text (Some (fault.Script script.NotUtf8))) × (t ≡ s)) → IsTextAnswer s (block_command line lines) answer t
block_held s t line bytes answer lines what target holds text bad = by (is_utf8 bytes) refl
  where
    same : (b : Bool) → is_utf8 bytes ≡ b → is_utf8 (made_text lines) ≡ b
    same b is = ap is_utf8 (sym holds.0) ∙ is

    by : (b : Bool) → is_utf8 bytes ≡ b → IsTextAnswer s (block_command line lines) answer t
    by true is =
        subst (λ (c : Command). IsTextAnswer s c answer t)
        (sym (command_is line lines what target ∙ ap (with_text what) (text_is lines holds.1 true (same true is) ∙ ap Ok (sym holds.0)))) (text is)
    by false is =
        let refused = bad is in
        subst (λ (c : Command). IsTextAnswer s c answer t)
        (sym (command_is line lines what target ∙ ap (with_text what) (text_is lines holds.1 false (same false is)))) (Enough, (refused.0, refused.1))
