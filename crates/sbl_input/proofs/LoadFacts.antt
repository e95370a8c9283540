-- Lines are taken from an input, up to a point; and what is made of them.
use Rattle.std.proofs.Common.{◌≢◌, false, ◌≡◌, ◌⊎◌, inl, inr, ◌∙◌, ◌++◌, ◌≤◌, ℕ, true, List, [], ◌∷◌, Option, Ok, Err, refl, sym, ap, subst, map, length}
use Rattle.std.proofs.lemmas.List.{map-append}
use Rattle.std.specs.Str.{chars, is_utf8}
use Rattle.std.specs.declared.vec.Vec.{Vec}
use Rattle.std.specs.declared.alloc.Global.{Global}
use Rattle.sbl_text.specs.declared.fault.ScriptFault.{ScriptFault}
use Rattle.sbl_text.specs.declared.fault.ScriptFault.TheVariants as script
use Rattle.sbl_script.specs.ParsedScript.{ParsedScript, source_of}
use Rattle.sbl_ast.specs.Source.{Source}
use Rattle.sbl_script.specs.Reading.{IsFaultOf, IsScriptOf}
use Rattle.sbl_bench.specs.Contents.{IsFaultOrMemory, Contents, Opens, opening_fault}
use Rattle.sbl_bench.specs.declared.fault.EditFault.{EditFault}
use Rattle.sbl_bench.specs.declared.fault.EditFault.TheVariants as edit
use Rattle.sbl_reports.specs.Block.{BlockLines, Breaks, NoPoint, made_text, max_script, point}
use Rattle.sbl_io.specs.HeldInput.{AllFit, Took}
use Rattle.sbl_io.specs.Faults.{serve_fault_of}
use Rattle.sbl_input.specs.Loading.{AllText, IsLoaded, ReadsScript, TookFault, TookSource, TookWords, WordLines}
use Rattle.sbl_input.specs.WordLists.{ReadsWords}
use Rattle.sbl_io.specs.declared.faults.LineFault.{LineFault}
use Rattle.sbl_reports.proofs.BlockFacts.{all_fit-push, no_point-push}
use Rattle.sbl_io.specs.declared.faults.LineFault.TheVariants as line
use Rattle.sbl_input.specs.declared.faults.LoadFault.{LoadFault}
use Rattle.sbl_input.specs.declared.faults.LoadFault.TheVariants.{Input, Open, Script}
use Rattle.sbl_io.specs.declared.faults.ServeFault.{ServeFault}
use Rattle.sbl_io.specs.declared.faults.ServeFault.TheVariants as serve

pub all_text-push : (lines : List (List ℕ)) (line : List ℕ) → AllText lines → is_utf8 line ≡ true → AllText (lines ++ line ∷ [])
all_text-push [] line h text = (text, tt)
all_text-push (l ∷ lines) line h text = (h.0, all_text-push lines line h.1 text)

-- the words of lines, and of one more
pub chars-push : (lines : List (List ℕ)) (line word : List ℕ) → word ≡ chars line → map chars (lines ++ line ∷ []) ≡ map chars lines ++ word ∷ []
chars-push lines line word is = map-append chars lines (line ∷ []) ∙ ap (λ (w : List ℕ). map chars lines ++ w ∷ []) (sym is)

-- a block that was not read to its end
pub script_broken : (a b : Option (List ℕ)) (f : ServeFault) → Breaks BlockLines a b f → ReadsScript a b (Err (Input f))
script_broken a b serve.Read breaks = breaks
script_broken a b serve.Write breaks = breaks
script_broken a b serve.LineTooLong breaks = breaks
script_broken a b serve.Cut breaks = breaks
script_broken a b serve.NotText breaks = breaks
script_broken a b serve.OutOfMemory breaks = absurd breaks
script_broken a b serve.LengthsDiffer breaks = absurd breaks

-- words that were not read to their end
pub words_broken : (a b : Option (List ℕ)) (f : LineFault) → Breaks WordLines a b (serve_fault_of f) → ReadsWords a b (Err (Input (serve_fault_of f)))
words_broken a b line.Read breaks = breaks
words_broken a b line.TooLong breaks = breaks

-- why a line gave no word
abbrev pub IsUnreadWord : List ℕ → LoadFault → Type 0
IsUnreadWord line fault = ((fault ≡ Input serve.NotText) × (is_utf8 line ≡ false)) ⊎ (fault ≡ Input serve.OutOfMemory)

-- the words so far, and a line that is none
pub words_stopped : (a b : Option (List ℕ)) (taken : List (List ℕ)) (line : List ℕ) → NoPoint taken → AllFit taken → line ≢ point → length line ≤ 65536
    → Took a b (taken ++ line ∷ []) → ReadsWords a b (Err (Input serve.OutOfMemory))
words_stopped a b taken line free fit other fits took = (taken ++ line ∷ [], (no_point-push taken line free other, all_fit-push taken line fit fits), took)

pub word_unread : (a b : Option (List ℕ)) (taken : List (List ℕ)) (line : List ℕ) (fault : LoadFault) → NoPoint taken → AllFit taken → AllText taken
    → line ≢ point → length line ≤ 65536 → Took a b (taken ++ line ∷ []) → IsUnreadWord line fault → ReadsWords a b (Err fault)
word_unread a b taken line fault free fit text other fits took (inl bad) =
    subst (λ (f : LoadFault). ReadsWords a b (Err f)) (sym bad.0) (taken, line, ((free, fit), text), other, fits, bad.1, took)
word_unread a b taken line fault free fit text other fits took (inr bad) =
    subst (λ (f : LoadFault). ReadsWords a b (Err f)) (sym bad) (words_stopped a b taken line free fit other fits took)

-- ---- after the block

-- a script that was parsed from a block
pub script_parsed : (old new : Option (List ℕ)) (text : Vec ℕ Global) (bytes external : List ℕ) (p : ParsedScript) → ReadsScript old new (Ok text) → bytes ≡ text.items
    → IsScriptOf bytes external (source_of p) → TookSource old new external (source_of p)
script_parsed old new text bytes external p reads whole is =
    (reads.0, reads.1, subst (λ (t : List ℕ). IsScriptOf t external (source_of p)) (whole ∙ reads.2.0) is)

-- a block that was not parsed
pub script_refused : (old new : Option (List ℕ)) (text : Vec ℕ Global) (bytes external : List ℕ) (f : ScriptFault) → ReadsScript old new (Ok text) → bytes ≡ text.items
    → (f ≡ script.OutOfMemory) ⊎ IsFaultOf bytes external f → TookFault old new external f
script_refused old new text bytes external f reads whole why =
    (reads.0, reads.1, by (subst (λ (t : List ℕ). (f ≡ script.OutOfMemory) ⊎ IsFaultOf t external f) (whole ∙ reads.2.0) why))
  where
    by : (f ≡ script.OutOfMemory) ⊎ IsFaultOf (made_text reads.0) external f
        → ((f ≡ script.OutOfMemory) × (length (made_text reads.0) ≤ max_script)) ⊎ IsFaultOf (made_text reads.0) external f
    by (inl is) = inl (is, reads.2.1)
    by (inr is) = inr is

-- a script block that gave no text
pub script_unread : {B : Type 0} (old new : Option (List ℕ)) (external : List ℕ) (state : B → Contents) (fault : LoadFault)
    → ReadsScript old new (Err fault) → IsLoaded old new external state (Err fault)
script_unread old new external state (Script script.ScriptTooLong) reads = (reads.0, reads.1, inr (inl (inl (reads.2, refl))))
script_unread old new external state (Script f) reads = absurd reads
script_unread old new external state (Open f) reads = absurd reads
script_unread old new external state (Input serve.Read) reads = inl reads
script_unread old new external state (Input serve.Write) reads = absurd reads
script_unread old new external state (Input serve.LineTooLong) reads = inl reads
script_unread old new external state (Input serve.Cut) reads = reads
script_unread old new external state (Input serve.NotText) reads = absurd reads
script_unread old new external state (Input serve.OutOfMemory) reads = inl reads
script_unread old new external state (Input serve.LengthsDiffer) reads = absurd reads

-- words that were not read
pub words_refused : {B : Type 0} (old between new : Option (List ℕ)) (external : List ℕ) (s : Source) (state : B → Contents) (fault : LoadFault)
    → TookSource old between external s → ReadsWords between new (Err fault) → IsLoaded old new external state (Err fault)
words_refused old between new external s state (Script f) begins reads = absurd reads
words_refused old between new external s state (Open f) begins reads = absurd reads
words_refused old between new external s state (Input serve.Read) begins reads = inr (s, between, begins, reads)
words_refused old between new external s state (Input serve.Write) begins reads = absurd reads
words_refused old between new external s state (Input serve.LineTooLong) begins reads = inr (s, between, begins, reads)
words_refused old between new external s state (Input serve.Cut) begins reads = absurd reads
words_refused old between new external s state (Input serve.LengthsDiffer) begins reads = absurd reads
words_refused old between new external s state (Input serve.NotText) begins reads = (s, between, begins, reads)
words_refused old between new external s state (Input serve.OutOfMemory) begins reads = inr (s, between, begins, reads)

-- words that make a vocabulary
pub bench_loaded : {B : Type 0} (old between new : Option (List ℕ)) (external : List ℕ) (s : Source) (lines : List (List ℕ)) (state : B → Contents) (bench : B)
    → TookSource old between external s → TookWords between new lines → Opens s (map chars lines) state (Ok bench) → IsLoaded old new external state (Ok bench)
bench_loaded old between new external s lines state bench begins took opens = (s, lines, (between, begins, took), opens.0, opens.1)

-- words that make no vocabulary
pub bench_refused : {B : Type 0} (old between new : Option (List ℕ)) (external : List ℕ) (s : Source) (lines : List (List ℕ)) (state : B → Contents) (f : EditFault)
    → TookSource old between external s → TookWords between new lines → IsFaultOrMemory (opening_fault [] (map chars lines)) f
    → IsLoaded old new external state (Err (Open f))
bench_refused old between new external s lines state edit.Present begins took fault = (s, lines, (between, begins, took), fault)
bench_refused old between new external s lines state edit.Absent begins took fault = (s, lines, (between, begins, took), fault)
bench_refused old between new external s lines state edit.EmptyWord begins took fault = (s, lines, (between, begins, took), fault)
bench_refused old between new external s lines state edit.WordTooLong begins took fault = (s, lines, (between, begins, took), fault)
bench_refused old between new external s lines state edit.Full begins took fault = (s, lines, (between, begins, took), fault)
bench_refused old between new external s lines state edit.NoRoutine begins took fault = (s, lines, (between, begins, took), fault)
bench_refused old between new external s lines state edit.NoAmong begins took fault = (s, lines, (between, begins, took), fault)
bench_refused old between new external s lines state edit.AmongCount begins took fault = (s, lines, (between, begins, took), fault)
bench_refused old between new external s lines state (edit.Script f) begins took fault = (s, lines, (between, begins, took), fault)
bench_refused old between new external s lines state edit.OutOfMemory begins took fault = (s, lines, (between, begins, took))
bench_refused old between new external s lines state edit.MeterFull begins took fault = (s, lines, (between, begins, took), fault)
bench_refused old between new external s lines state edit.BadLimit begins took fault = (s, lines, (between, begins, took), fault)
bench_refused old between new external s lines state edit.NoGrouping begins took fault = (s, lines, (between, begins, took), fault)
bench_refused old between new external s lines state edit.BrokenOff begins took fault = (s, lines, (between, begins, took), fault)
