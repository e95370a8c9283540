-- The replies to `faults`.
use Rattle.std.specs.Prelude.{◌≡◌, ℕ, ◌-◌, Bool, true, false, nat_lt, List, [], ◌∷◌, length, map, if◌then◌else◌}
use Rattle.std.specs.Prelude.{Option, Some, None, MatchOption, Result, Ok, Err}
use Rattle.std.specs.Str.{is_utf8}
use Rattle.sbl_bench.specs.Contents.{Contents}
use Rattle.sbl_bench.specs.Names.{script_name}
use Rattle.sbl_bench.specs.declared.fault.EditFault.{EditFault}
use Rattle.sbl_bench.specs.declared.fault.EditFault.TheVariants as edit
use Rattle.sbl_history.specs.Desks.{State}
use Rattle.sbl_history.specs.Refused.{RefusedText, WholeText, PartText, LongText}
use Rattle.sbl_history.specs.declared.history.HistoryFault.{HistoryFault}
use Rattle.sbl_print.specs.Canonical.{canonical}
use Rattle.sbl_reports.specs.Block.{max_script}
use Rattle.sbl_ast.specs.NamedParts.{Part'}
use Rattle.sbl_source_map.specs.BlockFaults.{AreBlockFaults}
use Rattle.sbl_source_map.specs.FaultLists.{AreFaultsOf}
use Rattle.sbl_source_map.specs.FaultNumbers.{number_of}
use Rattle.sbl_source_map.specs.Heads.{IsWithoutHead}
use Rattle.sbl_source_map.specs.PartTokens.{IsCutAtPart}
use Rattle.sbl_source_map.specs.declared.fault_lists.PlacedFault.{PlacedFault}
use Rattle.sbl_source_map.specs.declared.parts.Excerpt.{Excerpt}
use Rattle.sbl_text.specs.declared.fault.ScriptFault.{ScriptFault}
use Rattle.sbl_text.specs.declared.fault.ScriptFault.TheVariants as fault
use Rattle.sbl_text_rows.specs.FaultRows.{FaultFields, fault_lines}

-- ---- rows

-- what the row of a fault has beside its sentence
abbrev pub fields_of : PlacedFault → FaultFields
fields_of x = record { number = number_of x.fault; name = script_name x.fault; range = x.range; sentence = [] }

abbrev pub unsaid : FaultFields → FaultFields
unsaid r = record r { sentence = [] }

-- the rows of these faults of a text, with any sentences
abbrev pub AreRowsOf : List ℕ → List PlacedFault → List ℕ → Type 0
AreRowsOf text faults report = (rows : List FaultFields) × (map unsaid rows ≡ map fields_of faults) × (report ≡ fault_lines text rows)

-- the rows of all faults of bytes as a script with this external
abbrev pub IsFaultsText : List ℕ → List ℕ → List ℕ → Type 0
IsFaultsText bytes external report = (faults : List PlacedFault) × AreFaultsOf bytes external faults × AreRowsOf bytes faults report

-- ---- what is typed for a part

-- a fault at no place
abbrev pub alone : ScriptFault → List PlacedFault
alone f = record { fault = f; range = None } ∷ []

abbrev pub or_alone : ScriptFault → List PlacedFault → List PlacedFault
or_alone f [] = alone f
or_alone f (x ∷ xs) = x ∷ xs

-- the faults of a block with a head of this length, in the script cut at the part; if it has no such part, the fault of the edit alone
abbrev pub AreCutFaults : Option Excerpt → ℕ → (block external : List ℕ) → ScriptFault → List PlacedFault → Type 0
AreCutFaults None head block external f faults = faults ≡ alone f
AreCutFaults (Some c) head block external f faults =
    (all : List PlacedFault) × AreBlockFaults c.before.now head block c.after.now external f all × (faults ≡ or_alone f all)

-- All faults of a text that is typed for a part of a script: those of the text without the beginning of a definition, put into the
-- canonical text of the script.
abbrev pub AreTypedFaults : Contents → Part' → List ℕ → ScriptFault → List PlacedFault → Type 0
AreTypedFaults s what typed f faults =
    (rest : List ℕ) × (cut : Option Excerpt) × IsWithoutHead what typed rest × IsCutAtPart what (canonical s.setting.script.items) cut
    × AreCutFaults cut (length typed - length rest) rest s.setting.script.external f faults

-- the same for bytes; if they are no text, their one fault
abbrev pub AreBytesFaults : Bool → Contents → Part' → List ℕ → ScriptFault → List PlacedFault → Type 0
AreBytesFaults true s what typed f faults = AreTypedFaults s what typed f faults
AreBytesFaults false s what typed f faults = AreFaultsOf typed s.setting.script.external faults

abbrev pub ArePartFaults : Contents → Part' → List ℕ → ScriptFault → List PlacedFault → Type 0
ArePartFaults s what typed f faults = AreBytesFaults (is_utf8 typed) s what typed f faults

abbrev pub IsPartText : Contents → Part' → List ℕ → ScriptFault → List ℕ → Type 0
IsPartText s what typed f report = (faults : List PlacedFault) × ArePartFaults s what typed f faults × AreRowsOf typed faults report

-- ---- the text that was refused last

-- the rows of all faults of a text that was refused, under the current script
abbrev pub IsRefusedText : Contents → RefusedText → List ℕ → Type 0
IsRefusedText s (WholeText bytes) report = IsFaultsText bytes s.setting.script.external report
IsRefusedText s (PartText what typed f) report = IsPartText s what typed f report
IsRefusedText s LongText report = AreRowsOf [] (alone fault.ScriptTooLong) report

-- The desk after an edit with this result: a text that was accepted ends what is kept, one with a fault is kept.
abbrev pub kept_after : Result (Unit {0}) EditFault → (ScriptFault → RefusedText) → State → State
kept_after (Ok u) refused d = record d { refused = None }
kept_after (Err (edit.Script f)) refused d = record d { refused = Some (refused f) }
kept_after (Err f) refused d = d

abbrev pub kept_after_turn : Result (Unit {0}) HistoryFault → State → State
kept_after_turn (Ok u) d = record d { refused = None }
kept_after_turn (Err f) d = d

-- the bytes of a whole script, or for a part of it, unless there are too many
abbrev pub refused_whole : List ℕ → ScriptFault → RefusedText
refused_whole bytes f = if nat_lt max_script (length bytes) then LongText else WholeText bytes

abbrev pub refused_part : Part' → List ℕ → ScriptFault → RefusedText
refused_part what bytes f = if nat_lt max_script (length bytes) then LongText else PartText what bytes f
