-- A filter of an input has one result and one text.
use Rattle.std.proofs.Common.{◌≡◌, ◌≢◌, ◌⊎◌, inl, inr, ◌∙◌, ◌++◌, ◌<◌, ◌≤◌, ℕ, Bool, true, false, List, [], ◌∷◌, Option, Some, None, Result, Ok, Err, refl, sym, ap, subst, map, length, nat_lt, if◌then◌else◌, append_assoc, arith}
use Rattle.std.proofs.lemmas.Bool.Decides.{nat_tests}
use Rattle.std.proofs.lemmas.List.{append-nil}
use Rattle.std.proofs.lemmas.Slice.Eq.{bytes_eq-Decides}
use Rattle.std.specs.Io.KnownBytes.{IsAtEnd}
use Rattle.std.specs.Str.{bytes_eq, chars, is_utf8}
use Rattle.sbl_bench.specs.declared.fault.EditFault.{EditFault}
use Rattle.sbl_bench.specs.declared.fault.EditFault.TheVariants as edit
use Rattle.sbl_batch.specs.Filter.{AllShort, Filters, IsFiltered, Rows, Stops, TookLine, filter_output}
use Rattle.sbl_batch.specs.Laws.{FilteringIsOne, IsToldByBytes}
use Rattle.sbl_batch.proofs.RowFacts.{filtered-append, filtered-none}
use Rattle.sbl_io.proofs.Bytes.{none_of, stand_lines}
use Rattle.sbl_io.specs.HeldInput.{Took}
use Rattle.sbl_io.specs.LinesOf.{lines_of, max_line}
use Rattle.sbl_io.specs.declared.faults.ServeFault.TheVariants as fault
use Rattle.sbl_script.specs.OneReading.{FaultIsOne, ScriptIsOne, ScriptOrFault}
use Rattle.sbl_ast.specs.Source.{Source}
use Rattle.sbl_script.specs.Reading.{IsFaultOf, IsScriptOf}
use Rattle.sbl_input.proofs.InputFacts.{AtEnd, AtLong, AtNoText, AtPoint, LinesEnd, lines_end}
use Rattle.sbl_input.proofs.OneLoading.{block_end, cut_end, long_end}
use Rattle.sbl_reports.specs.Block.{made_text, max_script, point}
use Rattle.sbl_input.specs.Loading.{TookFault, TookSource, WordLines}
use Rattle.sbl_input.specs.declared.faults.LoadFault.{LoadFault}
use Rattle.sbl_input.specs.declared.faults.LoadFault.TheVariants.{Input, Open, Script}
use Rattle.sbl_text.specs.declared.fault.ScriptFault.{ScriptFault}
use Rattle.sbl_text.specs.declared.fault.ScriptFault.TheVariants as script

-- ---- the result and the text, as functions of the lines of words

abbrev Ending : Type 0
Ending = Result (Unit {0}) LoadFault

-- the fault of a line
abbrev fault_of_line : List ℕ → Option LoadFault
fault_of_line line =
    if nat_lt max_line (length line) then Some (Input fault.LineTooLong)
    else (if is_utf8 line then (if nat_lt 255 (length (chars line)) then Some (Open edit.WordTooLong) else None)
    else Some (Input fault.NotText))

abbrev goes : Option LoadFault → Ending → Ending
goes None r = r
goes (Some f) r = Err f

abbrev shows : Option LoadFault → List ℕ → List ℕ
shows None t = t
shows (Some f) t = []

abbrev ending : List (List ℕ) → Ending
ending [] = Ok tt
ending (line ∷ lines) = if bytes_eq line point then Ok tt else goes (fault_of_line line) (ending lines)

abbrev text : Source → List (List ℕ) → List ℕ
text s [] = []
text s (line ∷ lines) = if bytes_eq line point then [] else shows (fault_of_line line) (filter_output s (chars line ∷ []) ++ text s lines)

no_point : (line : List ℕ) → line ≢ point → bytes_eq line point ≡ false
no_point line other = by (bytes_eq line point) refl
  where
    by : (b : Bool) → bytes_eq line point ≡ b → bytes_eq line point ≡ false
    by true e = absurd (other ((bytes_eq-Decides line point).0 e))
    by false e = e

long_no_point : (line : List ℕ) → 65536 < length line → line ≢ point
long_no_point line long e = let one : length line ≡ 1 = ap length e in grind (arith, one, long)

judged-word : (line : List ℕ) → length line ≤ 65536 → is_utf8 line ≡ true → length (chars line) ≤ 255 → fault_of_line line ≡ None
judged-word line fits text short =
    let a : nat_lt 65536 (length line) ≡ false = grind (arith, nat_tests) in
    let b : nat_lt 255 (length (chars line)) ≡ false = grind (arith, nat_tests) in
    rw (a, text, b) refl

judged-long : (line : List ℕ) → 65536 < length line → fault_of_line line ≡ Some (Input fault.LineTooLong)
judged-long line long = let a : nat_lt 65536 (length line) ≡ true = grind (arith, nat_tests) in rw a refl

judged-no_text : (line : List ℕ) → length line ≤ 65536 → is_utf8 line ≡ false → fault_of_line line ≡ Some (Input fault.NotText)
judged-no_text line fits bad = let a : nat_lt 65536 (length line) ≡ false = grind (arith, nat_tests) in rw (a, bad) refl

judged-no_word : (line : List ℕ) → length line ≤ 65536 → is_utf8 line ≡ true → 255 < length (chars line) → fault_of_line line ≡ Some (Open edit.WordTooLong)
judged-no_word line fits text long =
    let a : nat_lt 65536 (length line) ≡ false = grind (arith, nat_tests) in
    let b : nat_lt 255 (length (chars line)) ≡ true = grind (arith, nat_tests) in
    rw (a, text, b) refl

-- ---- lines that have rows come first

abbrev Good : List (List ℕ) → Type 0
Good lines = WordLines lines × AllShort lines

good-first : (line : List ℕ) (lines : List (List ℕ)) → Good (line ∷ lines) → (bytes_eq line point ≡ false) × (fault_of_line line ≡ None)
good-first line lines good = (no_point line good.0.0.0.0, judged-word line good.0.0.1.0 good.0.1.0 good.1.0)

good-rest : (line : List ℕ) (lines : List (List ℕ)) → Good (line ∷ lines) → Good lines
good-rest line lines good = (((good.0.0.0.1, good.0.0.1.1), good.0.1.1), good.1.1)

ending-after : (lines rest : List (List ℕ)) → Good lines → ending (lines ++ rest) ≡ ending rest
ending-after [] rest good = refl
ending-after (line ∷ lines) rest good =
    let first = good-first line lines good in
    let step : ending (line ∷ lines ++ rest) ≡ ending (lines ++ rest) = rw (first.0, first.1) refl in
    step ∙ ending-after lines rest (good-rest line lines good)

text-after : (s : Source) (lines rest : List (List ℕ)) → Good lines → text s (lines ++ rest) ≡ filter_output s (map chars lines) ++ text s rest
text-after s [] rest good = ap (λ (t : List ℕ). t ++ text s rest) (sym (filtered-none s))
text-after s (line ∷ lines) rest good =
    let first = good-first line lines good in
    let row = filter_output s (chars line ∷ []) in
    let step : text s (line ∷ lines ++ rest) ≡ row ++ text s (lines ++ rest) = rw (first.0, first.1) refl in
    step ∙ ap (λ (t : List ℕ). row ++ t) (text-after s lines rest (good-rest line lines good)) ∙ sym (append_assoc row (filter_output s (map chars lines)) (text s rest))
    ∙ ap (λ (t : List ℕ). t ++ text s rest) (sym (filtered-append s (chars line ∷ []) (map chars lines)))

-- these lines, and then a line with this fault
module _ (s : Source) (x : List ℕ) (lines rest : List (List ℕ)) (line : List ℕ) (f : LoadFault) (good : Good lines) (are : lines_of x ≡ lines ++ line ∷ rest) (other : line ≢ point)
    (bad : fault_of_line line ≡ Some f) where
  stop-ending : ending (lines_of x) ≡ Err f
  stop-ending =
      let at : ending (line ∷ rest) ≡ Err f = rw (no_point line other, bad) refl in
      ap ending are ∙ ending-after lines (line ∷ rest) good ∙ at

  stop-text : text s (lines_of x) ≡ filter_output s (map chars lines)
  stop-text =
      let at : text s (line ∷ rest) ≡ [] = rw (no_point line other, bad) refl in
      ap (text s) are ∙ text-after s lines (line ∷ rest) good ∙ ap (λ (t : List ℕ). filter_output s (map chars lines) ++ t) at ∙ append-nil (filter_output s (map chars lines))

-- ---- what a filter of the words gives

abbrev Gives : Source → List ℕ → List ℕ → List ℕ → Ending → Type 0
Gives s x h k r = (r ≡ ending (lines_of x)) × (k ≡ h ++ text s (lines_of x))

all-given : (s : Source) (x h k : List ℕ) (new : Option (List ℕ)) → Filters s (Some x) new (Some h) (Some k) (Ok tt) → Gives s x h k (Ok tt)
all-given s x h k None so = by so.1.1
  where
    by : Took (Some x) None (so.0 ++ point ∷ []) ⊎ (Took (Some x) None so.0 × IsAtEnd None) → Gives s x h k (Ok tt)
    by (inl nothing) = absurd nothing
    by (inr nothing) = absurd nothing.0
all-given s x h k (Some y) so = by so.1.1
  where
    rows : List ℕ
    rows = filter_output s (map chars so.0)

    given : (rest : List (List ℕ)) → lines_of x ≡ so.0 ++ rest → ending rest ≡ Ok tt → text s rest ≡ [] → Gives s x h k (Ok tt)
    given rest are ends none = (
      sym (ap ending are ∙ ending-after so.0 rest (so.1.0, so.2) ∙ ends),
      so.3
          ∙ ap (λ (t : List ℕ). h ++ t) (sym (ap (text s) are ∙ text-after s so.0 rest (so.1.0, so.2) ∙ ap (λ (t : List ℕ). rows ++ t) none ∙ append-nil rows)),
    )

    by : Took (Some x) (Some y) (so.0 ++ point ∷ []) ⊎ (Took (Some x) (Some y) so.0 × IsAtEnd (Some y)) → Gives s x h k (Ok tt)
    by (inl stand) = given (point ∷ lines_of y) (stand_lines x y (so.0 ++ point ∷ []) stand ∙ append_assoc so.0 (point ∷ []) (lines_of y)) refl refl
    by (inr p) =
        let all : lines_of x ≡ so.0 ++ [] =
        stand_lines x y so.0 p.0 ∙ ap (λ (z : List ℕ). so.0 ++ lines_of z) p.1 ∙ ap (λ (z : List (List ℕ)). so.0 ++ z) none_of in
        given [] all refl refl

-- the rows before a fault
stopped-given : (s : Source) (x h k : List ℕ) (lines : List (List ℕ)) (next : Option (List ℕ)) (new : Option (List ℕ)) (f : LoadFault) → IsToldByBytes (Err f)
    → Rows s (Some x) next (Some h) (Some k) lines → Stops next new f → Gives s x h k (Err f)
stopped-given s x h k lines None new f told so stops = absurd so.took
stopped-given s x h k lines (Some y) new f told so stops = by f told stops
  where
    given : (rest : List (List ℕ)) (line : List ℕ) (f : LoadFault) → lines_of y ≡ line ∷ rest → line ≢ point → fault_of_line line ≡ Some f → Gives s x h k (Err f)
    given rest line f are other bad =
        let all : lines_of x ≡ lines ++ line ∷ rest = stand_lines x y lines so.took ∙ ap (λ (z : List (List ℕ)). lines ++ z) are in (
          sym (stop-ending s x lines rest line f so.words all other bad),
          so.text ∙ ap (λ (t : List ℕ). h ++ t) (sym (stop-text s x lines rest line f so.words all other bad)),
        )

    -- the next line has this fault
    at_line : (f : LoadFault) (new : Option (List ℕ)) (line : List ℕ) → TookLine (Some y) new line → fault_of_line line ≡ Some f → Gives s x h k (Err f)
    at_line f None line took bad = absurd took.2
    at_line f (Some z) line took bad = given (lines_of z) line f (stand_lines y z (line ∷ []) took.2) took.0 bad

    by : (f : LoadFault) → IsToldByBytes (Err f) → Stops (Some y) new f → Gives s x h k (Err f)
    by (Script f) told stop = absurd stop
    by (Input fault.Read) told stop = absurd told
    by (Input fault.Write) told stop = absurd told
    by (Input fault.OutOfMemory) told stop = absurd told
    by (Input fault.Cut) told stop = absurd stop
    by (Input fault.LengthsDiffer) told stop = absurd stop
    by (Input fault.LineTooLong) told stop = given stop.1 stop.0 (Input fault.LineTooLong) stop.2 (long_no_point stop.0 stop.3) (judged-long stop.0 stop.3)
    by (Input fault.NotText) told stop = at_line (Input fault.NotText) new stop.0 stop.1 (judged-no_text stop.0 stop.1.1 stop.2)
    by (Open f) told stop =
        subst (λ (e : EditFault). Gives s x h k (Err (Open e))) (sym stop.0) (at_line (Open edit.WordTooLong) new stop.1 stop.2 (judged-no_word stop.1 stop.2.1 stop.3.0 stop.3.1))

filters-given : (s : Source) (x h k : List ℕ) (new : Option (List ℕ)) (r : Ending) → IsToldByBytes r → Filters s (Some x) new (Some h) (Some k) r → Gives s x h k r
filters-given s x h k new (Ok u) told so = all-given s x h k new so
filters-given s x h k new (Err (Script f)) told so = stopped-given s x h k so.0 so.1 new (Script f) told so.2 so.3
filters-given s x h k new (Err (Open f)) told so = stopped-given s x h k so.0 so.1 new (Open f) told so.2 so.3
filters-given s x h k new (Err (Input fault.Read)) told so = absurd told
filters-given s x h k new (Err (Input fault.Write)) told so = absurd told
filters-given s x h k new (Err (Input fault.OutOfMemory)) told so = absurd told
filters-given s x h k new (Err (Input fault.Cut)) told so = stopped-given s x h k so.0 so.1 new (Input fault.Cut) told so.2 so.3
filters-given s x h k new (Err (Input fault.LengthsDiffer)) told so = stopped-given s x h k so.0 so.1 new (Input fault.LengthsDiffer) told so.2 so.3
filters-given s x h k new (Err (Input fault.LineTooLong)) told so = stopped-given s x h k so.0 so.1 new (Input fault.LineTooLong) told so.2 so.3
filters-given s x h k new (Err (Input fault.NotText)) told so = stopped-given s x h k so.0 so.1 new (Input fault.NotText) told so.2 so.3

-- ---- the whole input

-- what an input gives, by what ends its script block
abbrev IsEnding : List ℕ → LinesEnd → List ℕ → Ending → Type 0
IsEnding external (AtPoint lines rest) t r =
    ((s : Source) × IsScriptOf (made_text lines) external s × (r ≡ ending rest) × (t ≡ text s rest))
    ⊎ ((f : ScriptFault) × IsFaultOf (made_text lines) external f × (r ≡ Err (Script f)) × (t ≡ []))
IsEnding external (AtEnd lines) t r = (r ≡ Err (Input fault.Cut)) × (t ≡ [])
IsEnding external AtLong t r = (r ≡ Err (Input fault.LineTooLong)) × (t ≡ [])
IsEnding external AtNoText t r = (r ≡ Err (Input fault.NotText)) × (t ≡ [])

abbrev fails : ScriptFault → Ending
fails f = Err (Script f)

ending-one : ScriptIsOne → FaultIsOne → ScriptOrFault → (external : List ℕ) (e : LinesEnd) (t u : List ℕ) (r q : Ending) → IsEnding external e t r → IsEnding external e u q
    → (r ≡ q) × (t ≡ u)
ending-one one fault_one either external (AtPoint lines rest) t u r q (inl p) (inl o) =
    (p.2 ∙ sym o.2, p.3 ∙ ap (λ (s : Source). text s rest) (one (made_text lines) external p.0 o.0 p.1 o.1) ∙ sym o.3)
ending-one one fault_one either external (AtPoint lines rest) t u r q (inl p) (inr o) = absurd (either (made_text lines) external p.0 o.0 p.1 o.1)
ending-one one fault_one either external (AtPoint lines rest) t u r q (inr p) (inl o) = absurd (either (made_text lines) external o.0 p.0 o.1 p.1)
ending-one one fault_one either external (AtPoint lines rest) t u r q (inr p) (inr o) =
    (p.2 ∙ ap fails (fault_one (made_text lines) external p.0 o.0 p.1 o.1) ∙ sym o.2, p.3 ∙ sym o.3)
ending-one one fault_one either external (AtEnd lines) t u r q p o = (p.0 ∙ sym o.0, p.1 ∙ sym o.1)
ending-one one fault_one either external AtLong t u r q p o = (p.0 ∙ sym o.0, p.1 ∙ sym o.1)
ending-one one fault_one either external AtNoText t u r q p o = (p.0 ∙ sym o.0, p.1 ∙ sym o.1)

module _ (bytes external t : List ℕ) (new : Option (List ℕ)) where
  abbrev Is : Ending → Type 0
  Is r = IsEnding external (lines_end false (lines_of bytes)) t r

  after_source : (s : Source) (between : Option (List ℕ)) (r : Ending) → IsToldByBytes r → TookSource (Some bytes) between external s → Filters s between new (Some []) (Some t) r → Is r
  after_source s None r told took so = absurd took.1.1
  after_source s (Some rest) r told took so =
      let given = filters-given s rest [] t new r told so in
      subst (λ (e : LinesEnd). IsEnding external e t r) (sym (block_end bytes rest took.0 took.1.0 took.1.1)) (inl (s, took.2, given.0, given.1))

  script_fault : (next : Option (List ℕ)) (f : ScriptFault) → IsToldByBytes (Err (Script f)) → TookFault (Some bytes) next external f → t ≡ [] → Is (Err (Script f))
  script_fault None f told took none = absurd took.1.1
  script_fault (Some rest) f told took none = by took.2
    where
      by : ((f ≡ script.OutOfMemory) × (length (made_text took.0) ≤ max_script)) ⊎ IsFaultOf (made_text took.0) external f → Is (Err (Script f))
      by (inl is) = let differ : IsToldByBytes (Err (Script script.OutOfMemory)) = subst (λ (x : ScriptFault). IsToldByBytes (Err (Script x))) is.0 told in absurd differ
      by (inr is) = subst (λ (e : LinesEnd). IsEnding external e t (Err (Script f))) (sym (block_end bytes rest took.0 took.1.0 took.1.1)) (inr (f, is, refl, none))

  filtered-ending : (r : Ending) → IsToldByBytes r → IsFiltered (Some bytes) new external (Some []) (Some t) r → Is r
  filtered-ending (Ok u) told so = after_source so.0 so.2.0 (Ok tt) tt so.2.1 (so.1, so.2.2, so.3, so.4)
  filtered-ending (Err (Script f)) told so = script_fault new f told so.0 so.1
  filtered-ending (Err (Open f)) told (inl so) = absurd so.0
  filtered-ending (Err (Open f)) told (inr so) = after_source so.0 so.1 (Err (Open f)) told so.2 so.3
  filtered-ending (Err (Input f)) told (inr so) = after_source so.0 so.1 (Err (Input f)) told so.2 so.3
  filtered-ending (Err (Input fault.Read)) told (inl so) = absurd told
  filtered-ending (Err (Input fault.Write)) told (inl so) = absurd told
  filtered-ending (Err (Input fault.OutOfMemory)) told (inl so) = absurd told
  filtered-ending (Err (Input fault.NotText)) told (inl so) = absurd so.0
  filtered-ending (Err (Input fault.LengthsDiffer)) told (inl so) = absurd so.0
  filtered-ending (Err (Input fault.Cut)) told (inl so) =
      let cut = cut_end bytes new so.0 in
      subst (λ (e : LinesEnd). IsEnding external e t (Err (Input fault.Cut))) (sym cut.1) (refl, so.1)
  filtered-ending (Err (Input fault.LineTooLong)) told (inl so) =
      subst (λ (e : LinesEnd). IsEnding external e t (Err (Input fault.LineTooLong))) (sym (long_end bytes so.0)) (refl, so.1)

pub filtering-one : ScriptIsOne → FaultIsOne → ScriptOrFault → FilteringIsOne
filtering-one one fault_one either bytes external a b t u r q told told' p o =
    ending-one one fault_one either external (lines_end false (lines_of bytes)) t u r q (filtered-ending bytes external t a r told p) (filtered-ending bytes external u b q told' o)
