-- Why the parts of an answer end with a fault.
use Rattle.std.proofs.Common.{◌≡◌, ◌⊎◌, inl, inr, ◌<◌, ◌≤◌, ◌∙◌, ℕ, Bool, true, false, List, [], ◌∷◌, Option, Some, None, Result, Ok, Err, sym, refl, subst, length}
use Rattle.std.specs.Prelude.{IfErr, if◌then◌else◌, nat_lt}
use Rattle.std.specs.Option.{option_or}
use Rattle.std.specs.Str.{is_utf8}
use Rattle.sbl_bench.specs.Contents.{Contents}
use Rattle.sbl_batch.specs.Differences.{IsChecked, ending, pair_fault}
use Rattle.sbl_input.specs.FileWords.{line_fault}
use Rattle.sbl_ast.specs.Source.{Source}
use Rattle.sbl_input.specs.Loading as load
use Rattle.sbl_input.specs.Loading.{AfterSource, IsLoaded, ReadsScript, WordLines}
use Rattle.sbl_reports.specs.Block.{BlockLines, Breaks}
use Rattle.sbl_sessions.specs.Session.{Ends}
use Rattle.sbl_input.specs.declared.faults.LoadFault.{LoadFault}
use Rattle.sbl_input.specs.declared.faults.LoadFault.TheVariants.{Input}
use Rattle.sbl_io.specs.Devices.{HasStopped, Tally}
use Rattle.sbl_io.specs.HeldInput.{HasCause, HasReason, reads_bound}
use Rattle.sbl_io.specs.LinesOf.{max_line}
use Rattle.sbl_io.specs.declared.lines.Lines.{Lines}
use Rattle.sbl_io.specs.declared.faults.LineFault.{LineFault}
use Rattle.sbl_io.specs.declared.faults.LineFault.TheVariants as line
use Rattle.sbl_io.specs.declared.faults.ServeFault.{ServeFault}
use Rattle.sbl_io.specs.declared.faults.ServeFault.TheVariants as fault
use Rattle.snowbench.specs.Program.{HasReasons}
use Rattle.snowbench.specs.WholeCheck.{ReadsExpected, ReadsWords}

no_fault : {A : Type 0} (k : Option LineFault) (f : LineFault) → k ≡ None → k ≡ Some f → A
no_fault k f none some = let e : None ≡ Some f = sym none ∙ some in cc e

-- ---- what is never returned

loaded_not_write : {B : Type 0} (a b : Option (List ℕ)) (external : List ℕ) (state : B → Contents) (f : LoadFault) → IsLoaded a b external state (Err f) → f ≡ Input fault.Write → ⊥
loaded_not_write {B} a b external state f loaded is = by (subst (λ (f : LoadFault). IsLoaded a b external state (Err f)) is loaded)
  where
    by : Breaks BlockLines a b fault.Write ⊎ AfterSource a external (λ between. Breaks WordLines between b fault.Write) → ⊥
    by (inl never) = never
    by (inr never) = never.3

script_not_write : (a b : Option (List ℕ)) (f : LoadFault) → ReadsScript a b (Err f) → f ≡ Input fault.Write → ⊥
script_not_write a b f reads is = let never : ReadsScript a b (Err (Input fault.Write)) = subst (λ (f : LoadFault). ReadsScript a b (Err f)) is reads in never

words_not_write : (a b : Option (List ℕ)) (f : ServeFault) → ReadsWords a b (Err f) → f ≡ fault.Write → ⊥
words_not_write a b f reads is = let never : ReadsWords a b (Err fault.Write) = subst (λ (f : ServeFault). ReadsWords a b (Err f)) is reads in never

expected_not_write : (a b : Option (List ℕ)) (f : ServeFault) → ReadsExpected a b (Err f) → f ≡ fault.Write → ⊥
expected_not_write a b f reads is = let never : ReadsExpected a b (Err fault.Write) = subst (λ (f : ServeFault). ReadsExpected a b (Err f)) is reads in never

line_not_read : (l : List ℕ) → line_fault l ≡ Some fault.Read → ⊥
line_not_read l = by (nat_lt max_line (length l)) (is_utf8 l)
  where
    by : (long text : Bool) → (if long then Some fault.LineTooLong else (if text then None else Some fault.NotText)) ≡ Some fault.Read → ⊥
    by true text e = cc e
    by false true e = cc e
    by false false e = cc e

or_not_read : (f g : Option ServeFault) → (f ≡ Some fault.Read → ⊥) → (g ≡ Some fault.Read → ⊥) → option_or f g ≡ Some fault.Read → ⊥
or_not_read None g p q e = q e
or_not_read (Some f) g p q e = p e

ending_not_read : (ws es : List (List ℕ)) → ending ws es ≡ Some fault.Read → ⊥
unfolding ending
ending_not_read [] [] e = cc e
ending_not_read [] (x ∷ es) e = cc e
ending_not_read (w ∷ ws) [] e = cc e
ending_not_read (w ∷ ws) (x ∷ es) e =
    or_not_read (pair_fault w x) (ending ws es) (or_not_read (line_fault w) (line_fault x) (line_not_read w) (line_not_read x)) (ending_not_read ws es) e

-- ---- reasons

module _ {R W : Type 0} (reads : R → Tally) (writes : W → Tally) where
  cause_later : (a b c : Lines R) → (reads b.reader).failures ≡ (reads a.reader).failures → reads_bound reads b ≡ reads_bound reads a → HasCause reads b c
      → HasCause reads a c
  cause_later a b c steady bound (inl more) = inl (subst (λ (n : ℕ). n < (reads c.reader).failures) steady more)
  cause_later a b c steady bound (inr (inl most)) = inr (inl (subst (λ (n : ℕ). n ≤ (reads c.reader).reads) bound most))
  cause_later a b c steady bound (inr (inr many)) = inr (inr many)

  -- lines that were read without a fault before give no reason
  pub reasons_later : (a b c : Lines R) (w v : W) (f : LoadFault) → (reads b.reader).failures ≡ (reads a.reader).failures → reads_bound reads b ≡ reads_bound reads a
      → HasReasons reads writes b c w v f → HasReasons reads writes a c w v f
  reasons_later a b c w v f steady bound why = (λ is. cause_later a b c steady bound (why.0 is), why.1)

  -- a fault of reading
  pub read_reasons : (a b : Lines R) (w v : W) (f : ServeFault) → a.fault ≡ None → HasReason reads a b f → (f ≡ fault.Write → ⊥)
      → HasReasons reads writes a b w v (Input f)
  read_reasons a b w v fault.Read none why other = (λ is. by (why refl), λ is. cc is)
    where
      by : HasCause reads a b ⊎ (a.fault ≡ Some line.Read) → HasCause reads a b
      by (inl cause) = cause
      by (inr some) = no_fault a.fault line.Read none some
  read_reasons a b w v fault.Write none why other = absurd (other refl)
  read_reasons a b w v fault.LineTooLong none why other = (λ is. cc is, λ is. cc is)
  read_reasons a b w v fault.Cut none why other = (λ is. cc is, λ is. cc is)
  read_reasons a b w v fault.LengthsDiffer none why other = (λ is. cc is, λ is. cc is)
  read_reasons a b w v fault.NotText none why other = (λ is. cc is, λ is. cc is)
  read_reasons a b w v fault.OutOfMemory none why other = (λ is. cc is, λ is. cc is)

  load_reasons : (a b : Lines R) (w v : W) (f : LoadFault) → a.fault ≡ None → load.HasReason reads a b f → (f ≡ Input fault.Write → ⊥)
      → HasReasons reads writes a b w v f
  load_reasons a b w v f none why other = (λ is. by (why is), λ is. absurd (other is))
    where
      by : HasCause reads a b ⊎ (a.fault ≡ Some line.Read) → HasCause reads a b
      by (inl cause) = cause
      by (inr some) = no_fault a.fault line.Read none some

  -- there is no bench
  pub loaded_reasons : {B : Type 0} (a b : Lines R) (w v : W) (f : LoadFault) (old new : Option (List ℕ)) (external : List ℕ) (state : B → Contents)
      → a.fault ≡ None → load.HasReason reads a b f → IsLoaded old new external state (Err f)
      → HasReasons reads writes a b w v f
  loaded_reasons a b w v f old new external state none why loaded = load_reasons a b w v f none why (loaded_not_write old new external state f loaded)

  -- there is no text of a script
  pub script_reasons : (a b : Lines R) (w v : W) (f : LoadFault) (old new : Option (List ℕ)) → a.fault ≡ None → load.HasReason reads a b f
      → ReadsScript old new (Err f) → HasReasons reads writes a b w v f
  script_reasons a b w v f old new none why read = load_reasons a b w v f none why (script_not_write old new f read)

  -- there are no words, or no expected stems
  pub words_reasons : (a b : Lines R) (w v : W) (f : ServeFault) (old new : Option (List ℕ)) → a.fault ≡ None → HasReason reads a b f
      → ReadsWords old new (Err f) → HasReasons reads writes a b w v (Input f)
  words_reasons a b w v f old new none why read = read_reasons a b w v f none why (words_not_write old new f read)

  pub expected_reasons : (a b : Lines R) (w v : W) (f : ServeFault) (old new : Option (List ℕ)) → a.fault ≡ None → HasReason reads a b f
      → ReadsExpected old new (Err f) → HasReasons reads writes a b w v (Input f)
  expected_reasons a b w v f old new none why read = read_reasons a b w v f none why (expected_not_write old new f read)

  -- a fault of the comparison
  pub check_reasons : (a b : Lines R) (w v : W) (f : ServeFault) (s : Source) (words expected : List ℕ) (old new : Option (List ℕ))
      → IsChecked s words expected old new (Err f) → (f ≡ fault.Write → HasStopped writes w v)
      → HasReasons reads writes a b w v (Input f)
  check_reasons a b w v fault.Read s words expected old new checked stopped = absurd (ending_not_read _ _ checked.0)
  check_reasons a b w v fault.Write s words expected old new checked stopped = (λ is. cc is, λ is. stopped refl)
  check_reasons a b w v fault.LineTooLong s words expected old new checked stopped = (λ is. cc is, λ is. cc is)
  check_reasons a b w v fault.Cut s words expected old new checked stopped = (λ is. cc is, λ is. cc is)
  check_reasons a b w v fault.LengthsDiffer s words expected old new checked stopped = (λ is. cc is, λ is. cc is)
  check_reasons a b w v fault.NotText s words expected old new checked stopped = (λ is. cc is, λ is. cc is)
  check_reasons a b w v fault.OutOfMemory s words expected old new checked stopped = (λ is. cc is, λ is. cc is)

  pub check_result_reasons : (a b : Lines R) (w v : W) (r : Result ℕ ServeFault) (s : Source) (words expected : List ℕ) (old new : Option (List ℕ))
      → IsChecked s words expected old new r → IfErr r (λ f. f ≡ fault.Write → HasStopped writes w v)
      → IfErr r (λ f. HasReasons reads writes a b w v (Input f))
  check_result_reasons a b w v (Ok n) s words expected old new checked stopped = tt
  check_result_reasons a b w v (Err f) s words expected old new checked stopped = check_reasons a b w v f s words expected old new checked stopped

  -- a fault of a session from its bench on
  pub serve_reasons : (a b c : Lines R) (w v : W) (f : ServeFault) → b.fault ≡ None → (reads b.reader).failures ≡ (reads a.reader).failures
      → reads_bound reads b ≡ reads_bound reads a → Ends reads writes b c w v (Err f)
      → HasReasons reads writes a c w v (Input f)
  serve_reasons a b c w v fault.Read none steady bound ends = (λ is. by ends, λ is. cc is)
    where
      by : HasCause reads b c ⊎ (b.fault ≡ Some line.Read) → HasCause reads a c
      by (inl cause) = cause_later a b c steady bound cause
      by (inr some) = no_fault b.fault line.Read none some
  serve_reasons a b c w v fault.Write none steady bound ends = (λ is. cc is, λ is. ends)
  serve_reasons a b c w v fault.LineTooLong none steady bound ends = (λ is. cc is, λ is. cc is)
  serve_reasons a b c w v fault.Cut none steady bound ends = (λ is. cc is, λ is. cc is)
  serve_reasons a b c w v fault.LengthsDiffer none steady bound ends = absurd ends
  serve_reasons a b c w v fault.NotText none steady bound ends = absurd ends
  serve_reasons a b c w v fault.OutOfMemory none steady bound ends = absurd ends

  -- a fault of the words of a filter
  pub filter_reasons : (a b c : Lines R) (w v : W) (f : LoadFault) → b.fault ≡ None → (reads b.reader).failures ≡ (reads a.reader).failures
      → reads_bound reads b ≡ reads_bound reads a → load.HasReason reads b c f → (f ≡ Input fault.Write → HasStopped writes w v)
      → HasReasons reads writes a c w v f
  filter_reasons a b c w v f none steady bound why stopped = (λ is. by (why is), stopped)
    where
      by : HasCause reads b c ⊎ (b.fault ≡ Some line.Read) → HasCause reads a c
      by (inl cause) = cause_later a b c steady bound cause
      by (inr some) = no_fault b.fault line.Read none some
