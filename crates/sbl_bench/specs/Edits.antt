-- The edits of a bench: when each is refused, which words it runs, and the bench after it.
use Rattle.std.specs.Prelude.{◌≡◌, ◌≢◌, ◌≤◌, ◌⊎◌, ◌&&◌, ℕ, ◌+◌, ◌-◌, min, nat_le, nat_lt, Bool, true, false, if◌then◌else◌}
use Rattle.std.specs.Prelude.{⊤, not, List, [], ◌∷◌, ◌++◌, length, Option, Some, None, Result, Ok, Err}
use Rattle.std.specs.List.{filter}
use Rattle.std.specs.Option.{option_map_or}
use Rattle.std.specs.Str.{bytes_eq}
use Rattle.sbl_script.specs.declared.edit_fault.EditFault as declared
use Rattle.sbl_script.specs.declared.edit_fault.EditFault.TheVariants as script
use Rattle.sbl_ast.specs.NamedParts.{Part'}
use Rattle.sbl_script.specs.Edits.{IsEdited, IsEditFault}
use Rattle.sbl_script.specs.Reading.{IsScriptOf, IsFaultOf}
use Rattle.sbl_text.specs.declared.fault.ScriptFault.{ScriptFault}
use Rattle.sbl_semantics.specs.Limit.{max_word_length}
use Rattle.sbl_bench.specs.Contents.{Contents, max_runs, max_words, opening_fault}
use Rattle.sbl_rows.specs.Setting.{Setting}
use Rattle.sbl_bench.specs.Vocabulary.{is_word, vocabulary, without}
use Rattle.sbl_machine.specs.BuiltFrom.{meets_one}
use Rattle.sbl_semantics.specs.Differs.{differs}
use Rattle.sbl_semantics.specs.Outcome.{used_of}
use Rattle.sbl_bench.specs.declared.fault.EditFault.{EditFault}
use Rattle.sbl_bench.specs.declared.fault.EditFault.TheVariants as fault

-- A word is added or removed; the vocabulary becomes that of these words; a text replaces a part of the script; these bytes replace
-- the whole script; the limit of steps is set.
pub data Edit : Type 0 where
  Add Remove : List ℕ → Edit
  Words : List (List ℕ) → Edit
  Replace : Part' → List ℕ → Edit
  Whole : List ℕ → Edit
  Limit : ℕ → Edit

-- ---- refusals of an edit

abbrev pub refusal_of_add : Contents → List ℕ → Option EditFault
refusal_of_add s [] = Some fault.EmptyWord
refusal_of_add s word =
    if nat_lt max_word_length (length word) then Some fault.WordTooLong
    else (if is_word word s.words then Some fault.Present else (if nat_le max_words (length s.words) then Some fault.Full else None))

-- the fault of an edit of a script, as a fault of the bench
abbrev pub fault_of_script : declared.EditFault → EditFault
fault_of_script script.NoRoutine = fault.NoRoutine
fault_of_script script.NoGrouping = fault.NoGrouping
fault_of_script script.NoAmong = fault.NoAmong
fault_of_script script.AmongCount = fault.AmongCount
fault_of_script (script.Script f) = fault.Script f
fault_of_script script.OutOfMemory = fault.OutOfMemory

-- whether the limit may be set
abbrev pub is_limit : ℕ → Bool
is_limit n = nat_le 1 n && nat_le n 10000000

-- the edit is refused with this fault, whatever the count of runs is
abbrev pub IsRefused : Contents → Edit → EditFault → Type 0
IsRefused s (Add word) f = refusal_of_add s word ≡ Some f
IsRefused s (Remove word) f = (is_word word s.words ≡ false) × (f ≡ fault.Absent)
IsRefused s (Words ws) f = opening_fault [] ws ≡ Some f
IsRefused s (Replace what text) f = (g : declared.EditFault) × IsEditFault s.setting.script what text g × (f ≡ fault_of_script g)
IsRefused s (Whole bytes) f = (g : ScriptFault) × IsFaultOf bytes s.setting.script.external g × (f ≡ fault.Script g)
IsRefused s (Limit n) f = (is_limit n ≡ false) × (f ≡ fault.BadLimit)

-- the edit is not refused in this way, and this is the setting after it
abbrev pub IsSettingAfter : Contents → Edit → Setting → Type 0
IsSettingAfter s (Add word) t = (refusal_of_add s word ≡ None) × (t ≡ s.setting)
IsSettingAfter s (Remove word) t = (is_word word s.words ≡ true) × (t ≡ s.setting)
IsSettingAfter s (Words ws) t = (opening_fault [] ws ≡ None) × (t ≡ s.setting)
IsSettingAfter s (Replace what text) t = IsEdited s.setting.script what text t.script × (t.limit ≡ s.setting.limit)
IsSettingAfter s (Whole bytes) t = IsScriptOf bytes s.setting.script.external t.script × (t.limit ≡ s.setting.limit)
IsSettingAfter s (Limit n) t = (is_limit n ≡ true) × (t.script ≡ s.setting.script) × (t.limit ≡ n)

-- whether it is an edit of the script
abbrev pub is_of_script : Edit → Bool
is_of_script (Add word) = false
is_of_script (Remove word) = false
is_of_script (Words ws) = false
is_of_script (Limit n) = false
is_of_script _ = true

-- ---- words and runs

-- an added word comes last, and a removal closes the gap; a list of words gives its vocabulary
abbrev pub words_after : Contents → Edit → List (List ℕ)
words_after s (Add word) = s.words ++ word ∷ []
words_after s (Remove word) = without word s.words
words_after s (Words ws) = vocabulary ws
words_after s _ = s.words

-- Whether an edit has to run this word; t is the setting after the edit. An added word: only that word. A list of words: each word
-- that is not in the vocabulary before the edit. A replacement: each word whose run before the edit touches the replaced item or,
-- if that is a grouping, one that is built from it in the script before the edit. A whole script: each word whose run before the
-- edit touches an item in which the two scripts differ or, for a grouping, one that is built from it; all words if the scripts
-- differ in more than such items. A limit: each word whose run used more steps than the smaller of the old limit and the new one.
abbrev pub needs_run : Contents → Edit → Setting → List ℕ → Bool
needs_run s (Add word) t w = bytes_eq word w
needs_run s (Remove word) t w = false
needs_run s (Words ws) t w = not (is_word w s.words)
needs_run s (Replace what text) t w = meets_one (what ∷ []) s.setting.script w s.setting.limit
needs_run s (Limit n) t w = nat_lt (min s.setting.limit n) (used_of s.setting.script w s.setting.limit)
needs_run s e t w = option_map_or (λ items. meets_one items s.setting.script w s.setting.limit) (differs s.setting.script t.script) true

-- how many words of the vocabulary after the edit have to be run
abbrev pub runs_needed : Contents → Edit → Setting → ℕ
runs_needed s e t = length (filter (needs_run s e t) (words_after s e))

-- ---- the verdict

-- the edit is accepted, since enough counts are left for the words that it has to run, and this is the bench after it: each of
-- these words was run once
pub record IsAccepted (s : Contents) (e : Edit) (t : Contents) : Type 0 where
  pub setting : Setting
  pub after : IsSettingAfter s e setting
  pub counts : nat_lt (max_runs - s.count) (runs_needed s e setting) ≡ false
  pub is : t ≡ record { setting = setting; words = words_after s e; count = s.count + runs_needed s e setting }

-- the edit is refused with this fault since too few counts are left for the words that it has to run
abbrev pub IsMeterFull : Contents → Edit → EditFault → Type 0
IsMeterFull s e f = (t : Setting) × IsSettingAfter s e t × (nat_lt (max_runs - s.count) (runs_needed s e t) ≡ true) × (f ≡ fault.MeterFull)

-- The verdict on the edit, none if it is accepted, and the bench after it. A refused edit changes nothing.
abbrev pub IsVerdict : Contents → Edit → Option EditFault → Contents → Type 0
IsVerdict s e None t = IsAccepted s e t
IsVerdict s e (Some f) t = (IsRefused s e f ⊎ IsMeterFull s e f) × (t ≡ s)

-- ---- memory

-- If the edit is refused otherwise than for too few counts, it is refused for its text, or for a word of a list of words. The other
-- refusals need no memory.
abbrev pub PassesTests : Contents → Edit → Type 0
PassesTests s (Words ws) = ⊤
PassesTests s e = (f : EditFault) → IsRefused s e f → (f ≡ fault.AmongCount) ⊎ ((g : ScriptFault) × (f ≡ fault.Script g))

-- An allocation failed, and the edit is no removal, which needs no memory. Before the edit: nothing is changed. During it: it would
-- be accepted, and at most the runs that it needs were counted; nothing else is changed.
pub data IsOutOfMemory (s : Contents) (e : Edit) (t : Contents) : Type 0 where
  BeforeEdit : ((word : List ℕ) → e ≢ Remove word) → PassesTests s e → t ≡ s → IsOutOfMemory s e t
  During : ((word : List ℕ) → e ≢ Remove word) → (made : Contents) (is : IsAccepted s e made) (n : ℕ)
      → n ≤ runs_needed s e is.setting → t ≡ record s { count = s.count + n } → IsOutOfMemory s e t

-- ---- the result of an edit, and the bench after it

abbrev pub Edits : Result (Unit {0}) EditFault → Contents → Edit → Contents → Type 0
Edits (Ok u) s e t = IsVerdict s e None t
Edits (Err fault.OutOfMemory) s e t = IsOutOfMemory s e t
Edits (Err f) s e t = IsVerdict s e (Some f) t
