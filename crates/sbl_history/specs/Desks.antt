-- A desk without memory addresses; marking, undoing and redoing.
use Rattle.std.specs.Prelude.{◌≡◌, ℕ, Bool, List, [], ◌∷◌, ◌++◌, Option, Some, None, Result, Ok, Err, map, string_bytes}
use Rattle.std.specs.Option.{option_map}
use Rattle.sbl_bench.specs.Contents.{Contents, rows_now}
use Rattle.sbl_bench.specs.BreakingOff.{BreaksIfTold}
use Rattle.sbl_bench.specs.Edits.{Edits}
use Rattle.sbl_rows.specs.Rows.{Row}
use Rattle.sbl_semantics.specs.Outcome.{outcome_of}
use Rattle.sbl_print.specs.Canonical.{canonical}
use Rattle.sbl_ast.specs.NamedParts.{Among, Routine, Grouping}
use Rattle.sbl_history.specs.History.{EditKind, OfLimit, OfPart, OfScript, Past, PastEdit, ToLimit, ToText, Turn, edit_of}
use Rattle.sbl_history.specs.MayBreak.{EditsOrBreaksIf}
use Rattle.sbl_history.specs.Refused.{RefusedText, view_last}
use Rattle.sbl_history.specs.declared.desk.Desk.{Desk}
use Rattle.sbl_history.specs.declared.history.HistoryFault.{HistoryFault}
use Rattle.sbl_history.specs.declared.history.HistoryFault.TheVariants as fault
use Rattle.sbl_history.specs.declared.steps.HeldEdit.{HeldEdit}
use Rattle.sbl_history.specs.declared.kinds.HeldKind.{HeldKind}
use Rattle.sbl_history.specs.declared.kinds.HeldKind.TheVariants as kind
use Rattle.sbl_history.specs.declared.steps.History.{History}
use Rattle.sbl_history.specs.declared.steps.Step.{Step}
use Rattle.sbl_history.specs.declared.steps.Step.TheVariants as step
use Rattle.sbl_history.specs.declared.marks.MarkedRow.{MarkedRow}
use Rattle.std.specs.declared.vec.Vec.{Vec}
use Rattle.std.specs.declared.alloc.Global.{Global}

-- a text of the current script, if one is kept; the edits that can be undone and redone; the rows at the mark; the text that was
-- refused last, if one is kept; whether edits may be broken off
pub record State : Type 0 where
  pub text : Option (List ℕ)
  pub past : Past
  pub marked : List Row
  pub refused : Option RefusedText
  pub may_break : Bool

abbrev pub view_step : Step → Turn
view_step (step.Text text) = ToText text.items
view_step (step.Limit n) = ToLimit n

abbrev pub view_marked : MarkedRow → Row
view_marked r = record { word = r.word.items; outcome = outcome_of r.outcome }

abbrev pub view_kind : HeldKind → EditKind
view_kind (kind.Routine name) = OfPart (Routine (string_bytes name))
view_kind (kind.Among name k) = OfPart (Among (string_bytes name) k)
view_kind (kind.Grouping name) = OfPart (Grouping (string_bytes name))
view_kind kind.Script = OfScript
view_kind (kind.Limit n) = OfLimit n

abbrev pub view_edit : HeldEdit → PastEdit
view_edit e = record { kind = view_kind e.kind; turn = view_step e.step }

abbrev pub view_edits : Vec HeldEdit Global → List PastEdit
view_edits edits = map view_edit edits.items

abbrev pub past_of : History → Past
past_of h = record { earlier = view_edits h.earlier; later = view_edits h.later }

abbrev pub view_text : Option (Vec ℕ Global) → Option (List ℕ)
view_text text = option_map (λ t. t.items) text

abbrev pub state_of : Desk → State
state_of d = record {
  text = view_text d.text;
  past = past_of d.history;
  marked = map view_marked d.marked.items;
  refused = view_last d.refused;
  may_break = d.may_break;
}

-- The desk at the start: these bytes are its text, nothing can be undone or redone, the mark is set, and no text was refused.
-- Edits may be broken off if `may_break` is true.
abbrev pub first_desk : Bool → Contents → List ℕ → State
first_desk may_break s bytes = record {
  text = Some bytes;
  past = record { earlier = []; later = [] };
  marked = rows_now s;
  refused = None;
  may_break = may_break;
}

-- nothing but the text and the edits that can be undone and redone is changed
abbrev pub KeepsRest : State → State → Type 0
KeepsRest d e = (e.marked ≡ d.marked) × (e.refused ≡ d.refused) × (e.may_break ≡ d.may_break)

-- the text of the current script: the one that is kept, or else its canonical text
abbrev pub text_in : Contents → Option (List ℕ) → List ℕ
text_in s (Some text) = text
text_in s None = canonical s.setting.script.items

-- ---- undoing and redoing

-- what takes a turn back: the current text before it, or the limit before it
abbrev pub back : Contents → Option (List ℕ) → Turn → Turn
back s text (ToText other) = ToText (text_in s text)
back s text (ToLimit n) = ToLimit s.setting.limit

-- the text that is kept after a turn
abbrev pub text_after : Option (List ℕ) → Turn → Option (List ℕ)
text_after text (ToText other) = Some other
text_after text (ToLimit n) = text

-- the same edit, with what takes its turn back
abbrev pub turned_edit : Contents → Option (List ℕ) → PastEdit → PastEdit
turned_edit s text edit = record edit { turn = back s text edit.turn }

-- What undoes or redoes: the turn of the last edit in the first list is made, and this edit becomes the last of the other list,
-- with what takes the turn back. If there is none, or the bench refuses it or, if this may be, is broken off, nothing changes but,
-- maybe, the count of runs.
abbrev pub Turns : Bool → Result (Unit {0}) HistoryFault → Contents → Contents → Option (List ℕ) → Option (List ℕ)
    → List PastEdit → List PastEdit → List PastEdit → List PastEdit → Type 0
Turns may_break (Ok u) s t text new_text from to new_from new_to =
    (edit : PastEdit) × (from ≡ new_from ++ edit ∷ []) × Edits (Ok u) s (edit_of edit.turn) t × (new_to ≡ to ++ turned_edit s text edit ∷ [])
    × (new_text ≡ text_after text edit.turn)
Turns may_break (Err fault.Nothing) s t text new_text from to new_from new_to =
    (from ≡ []) × (t ≡ s) × (new_text ≡ text) × (new_from ≡ from) × (new_to ≡ to)
Turns may_break (Err (fault.Edit f)) s t text new_text from to new_from new_to =
    (rest : List PastEdit) × (edit : PastEdit) × (from ≡ rest ++ edit ∷ []) × EditsOrBreaksIf may_break (Err f) s (edit_of edit.turn) t
    × (new_text ≡ text) × (new_from ≡ from) × (new_to ≡ to)

-- the latest edit is undone
abbrev pub Undoes : Result (Unit {0}) HistoryFault → Contents → State → Contents → State → Type 0
Undoes result s d t e =
    Turns d.may_break result s t d.text e.text d.past.earlier d.past.later e.past.earlier e.past.later × KeepsRest d e

-- the edit that was undone last is redone
abbrev pub Redoes : Result (Unit {0}) HistoryFault → Contents → State → Contents → State → Type 0
Redoes result s d t e =
    Turns d.may_break result s t d.text e.text d.past.later d.past.earlier e.past.later e.past.earlier × KeepsRest d e

-- the fault is that of an edit that was broken off only if the caller said so in the call
abbrev pub TurnBreaksIfTold : Bool → Bool → HistoryFault → Type 0
TurnBreaksIfTold said said_now fault.Nothing = said_now ≡ said
TurnBreaksIfTold said said_now (fault.Edit f) = BreaksIfTold said said_now f
