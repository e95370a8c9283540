-- Edits of the setting of a bench that are remembered.
use Rattle.std.specs.Prelude.{◌≡◌, ◌⊎◌, ℕ, List, Option, Result, Ok, Err}
use Rattle.sbl_bench.specs.Contents.{Contents}
use Rattle.sbl_bench.specs.Edits.{Edit, Edits, Replace}
use Rattle.sbl_bench.specs.declared.fault.EditFault.{EditFault}
use Rattle.sbl_bench.specs.declared.fault.EditFault.TheVariants as fault
use Rattle.sbl_print.specs.Canonical.{canonical}
use Rattle.sbl_ast.specs.NamedParts.{Part'}
use Rattle.sbl_history.specs.Desks.{KeepsRest, State, text_in}
use Rattle.sbl_history.specs.MayBreak.{EditsOrBreaksIf}
use Rattle.sbl_history.specs.History.{EditKind, OfLimit, OfPart, PastEdit, ToLimit, ToText, remember_edit}
use Rattle.sbl_history.specs.Splicing.{IsTextOf}

-- two benches have scripts with the same canonical text
abbrev pub SameText : Contents → Contents → Type 0
SameText s t = canonical s.setting.script.items ≡ canonical t.setting.script.items

-- an edit of this kind is remembered with the text before it; or nothing is, and then this holds
abbrev pub Remembers : EditKind → List ℕ → Type 0 → State → State → Type 0
Remembers kind text unless d e =
    (unless × (e.past ≡ d.past)) ⊎ (e.past ≡ remember_edit d.past (record { kind = kind; turn = ToText text }))

-- After an accepted edit of the script this text is kept, and the edit is remembered. It may be forgotten only if the canonical
-- text is the same after it.
pub record IsNoted (kind : EditKind) (s t : Contents) (d e : State) (text : Option (List ℕ)) : Type 0 where
  pub text_is : e.text ≡ text
  pub rest : KeepsRest d e
  pub past : Remembers kind (text_in s d.text) (SameText s t) d e

-- The bench makes an edit of the script, and the desk notes it with its kind and this text. After a fault, and if the edit is broken
-- off, as the desk may allow, the desk is unchanged.
abbrev pub Replaces : Result (Unit {0}) EditFault → EditKind → Edit → Option (List ℕ) → Contents → State → Contents → State → Type 0
Replaces (Ok u) kind edit text s d t e = Edits (Ok u) s edit t × IsNoted kind s t d e text
Replaces (Err f) kind edit text s d t e = EditsOrBreaksIf d.may_break (Err f) s edit t × (e ≡ d)

-- The same for a part of the script. The text that is kept then is a text of the current script, if any is kept; or an allocation
-- failed before anything was tried.
abbrev pub ReplacesPart : Result (Unit {0}) EditFault → Part' → List ℕ → Contents → State → Contents → State → Type 0
ReplacesPart result what text s d t e =
    ((kept : Option (List ℕ)) × IsTextOf s t kept × Replaces result (OfPart what) (Replace what text) kept s d t e)
    ⊎ ((result ≡ Err fault.OutOfMemory) × (t ≡ s) × (e ≡ d))

-- the edit by which the bench got its limit, which was this one before
abbrev pub limit_edit : ℕ → Contents → PastEdit
limit_edit before t = record { kind = OfLimit t.setting.limit; turn = ToLimit before }

-- The limit was this one before. It is remembered if the bench has another one now.
abbrev pub NotesLimit : ℕ → Contents → State → State → Type 0
NotesLimit before t d e =
    ((t.setting.limit ≡ before) × (e ≡ d))
    ⊎ (¬ (t.setting.limit ≡ before) × (e ≡ record d { past = remember_edit d.past (limit_edit before t) }))

-- After a request that may set the limit, the limit before is remembered if it was another one.
abbrev pub IsLimitNoted : Contents → Contents → State → State → Type 0
IsLimitNoted s t d e = NotesLimit s.setting.limit t d e
