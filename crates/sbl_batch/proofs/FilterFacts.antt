-- What was written for the lines so far, and how it goes on or ends.
use Rattle.std.proofs.Common.{◌≡◌, ◌≢◌, ◌⊎◌, inl, inr, ◌∙◌, ◌++◌, ◌≤◌, ◌<◌, ◌==◌, ℕ, zero, suc, Bool, true, false, List, [], ◌∷◌, Option, Some, None, Result, Ok, Err, refl, sym, ap, subst, length, take, IfErr, arith}
use Rattle.std.proofs.KnownBytes.{Appends-nil}
use Rattle.std.proofs.lemmas.Bool.{eqb-true}
use Rattle.std.proofs.lemmas.List.{append-nil, nil_from_length}
use Rattle.std.specs.Io.KnownBytes.{Appends, IsAtEnd, Keeps}
use Rattle.std.specs.Str.{chars, is_utf8}
use Rattle.sbl_batch.specs.Filter.{AllShort, Filters, IsFiltered, Rows, Stops, TookAtLeast, TookLine}
use Rattle.sbl_batch.specs.HeldRows.{PushesRow, ReadsWords, WordsHeld, WritesPart}
use Rattle.sbl_batch.proofs.HeldFacts.{holds-all, holds-cut, holds-moved, holds-none, holds-push, holds-stays, holds-written}
use Rattle.sbl_batch.proofs.RowFacts.{filtered-empty, filtered-one}
use Rattle.sbl_io.proofs.Bytes.{took-kept, took-none, took-trans}
use Rattle.sbl_io.specs.Faults.{serve_fault_of}
use Rattle.sbl_io.specs.Devices.{HasStopped, Tally, WritesInTime}
use Rattle.sbl_io.specs.HeldInput.{BeginsLong, BreaksOff, GivesLine, HasCause, Took, reads_bound}
use Rattle.sbl_io.specs.declared.lines.Lines.{Lines}
use Rattle.sbl_io.specs.declared.faults.LineFault.{LineFault}
use Rattle.sbl_io.specs.declared.faults.LineFault.TheVariants as line
use Rattle.sbl_io.specs.declared.faults.ServeFault.TheVariants as fault
use Rattle.sbl_semantics.specs.Limit.{default_limit}
use Rattle.sbl_io.specs.Records.{record_line}
use Rattle.sbl_ast.specs.Source.{Source}
use Rattle.sbl_reports.proofs.BlockFacts.{all_fit-push, no_point-push}
use Rattle.sbl_input.proofs.LoadFacts.{all_text-push, script_unread}
use Rattle.sbl_reports.specs.Block.{point}
use Rattle.sbl_input.specs.Faults.{left_by_load}
use Rattle.sbl_input.specs.Loading.{HasReason, ReadsScript, TookSource}
use Rattle.sbl_input.specs.declared.faults.LoadFault.{LoadFault}
use Rattle.sbl_input.specs.declared.faults.LoadFault.TheVariants.{Input, Open, Script}
use Rattle.sbl_bench.specs.Contents.{Contents}
use Rattle.sbl_rows.specs.Rows.{row_of}
use Rattle.sbl_rows.specs.Setting.{under}
use Rattle.sbl_bench.specs.declared.fault.EditFault.TheVariants as edit
use Rattle.sbl_records.specs.RowRecords.{row_fields}

pub all_short-push : (lines : List (List ℕ)) (l : List ℕ) → AllShort lines → length (chars l) ≤ 255 → AllShort (lines ++ l ∷ [])
all_short-push [] l h short = (short, tt)
all_short-push (x ∷ lines) l h short = (h.0, all_short-push lines l h.1 short)

pub words-none : (s : Source) (a h : Option (List ℕ)) (t : List ℕ) → t ≡ [] → WordsHeld s a a h h t []
words-none s a h t none = record {
  words = (((tt, tt), tt), tt);
  took = took-none a;
  rows = holds-none s h t none;
}

module _ {s : Source} {a b h k : Option (List ℕ)} {t : List ℕ} {lines : List (List ℕ)} (so : WordsHeld s a b h k t lines) where
  -- a part of the rows that are left was written
  pub words-moved : (m : Option (List ℕ)) (u : List ℕ) → WritesPart k m t u → WordsHeld s a b h m u lines
  words-moved m u next = record {
    words = so.words;
    took = so.took;
    rows = holds-moved s h k t lines so.rows m u next;
  }

  pub words-push : (c : Option (List ℕ)) (l u : List ℕ) → TookLine b c l → PushesRow s l t u (Ok tt) → WordsHeld s a c h k u (lines ++ l ∷ [])
  words-push c l u next pushes = record {
    words =
        (((no_point-push lines l so.words.0.0.0 next.0, all_fit-push lines l so.words.0.0.1 next.1), all_text-push lines l so.words.0.1 pushes.0), all_short-push lines l so.words.1 pushes.1);
    took = took-trans a b c lines (l ∷ []) so.took next.2;
    rows = holds-push s h k t lines so.rows l u pushes.2;
  }

  pub reads-end : (c : Option (List ℕ)) → Keeps b c → IsAtEnd c → ReadsWords s a c h k t (Ok tt)
  reads-end c keeps end = (lines, (so.words.0, inr (took-kept a b c lines so.took keeps, end)), so.words.1, so.rows)

  pub reads-point : (c : Option (List ℕ)) → GivesLine b c point → ReadsWords s a c h k t (Ok tt)
  reads-point c gives = (lines, (so.words.0, inl (took-trans a b c lines (point ∷ []) so.took gives)), so.words.1, so.rows)

  -- there is no next line
  pub reads-broken : (c : Option (List ℕ)) (o : Option LineFault) (part : List ℕ) (f : LineFault) → t ≡ [] → o ≡ None
      → (f ≡ line.TooLong → BeginsLong b ⊎ (o ≡ Some f)) → (f ≡ line.Read → o ≡ None → BreaksOff b c part) → ReadsWords s a c h k t (Err (Input (serve_fault_of f)))
  reads-broken c o part f empty none = by f
    where
      written : Rows s a b h k lines
      written = record {
        words = so.words;
        took = so.took;
        text = holds-all s h k t lines so.rows empty;
      }

      long_line : BeginsLong b ⊎ (o ≡ Some line.TooLong) → BeginsLong b
      long_line (inl is) = is
      long_line (inr is) = let e : Some line.TooLong ≡ None = sym is ∙ none in cc e

      by : (f : LineFault) → (f ≡ line.TooLong → BeginsLong b ⊎ (o ≡ Some f)) → (f ≡ line.Read → o ≡ None → BreaksOff b c part)
          → ReadsWords s a c h k t (Err (Input (serve_fault_of f)))
      by line.Read long cut = ((lines, b, written, (part, cut refl none)), empty)
      by line.TooLong long cut = ((lines, b, written, long_line (long refl)), empty)

  -- the next line gives no row
  pub reads-fault : (c : Option (List ℕ)) (l u : List ℕ) (f : LoadFault) → TookLine b c l → PushesRow s l t u (Err f) → ReadsWords s a c h k u (Err f)
  reads-fault c l u f next pushes = by f pushes
    where
      stays : u ≡ t → WordsHeld s a b h k u lines
      stays same = record {
        words = so.words;
        took = so.took;
        rows = holds-stays s h k t lines so.rows u same;
      }

      by : (f : LoadFault) → PushesRow s l t u (Err f) → ReadsWords s a c h k u (Err f)
      by (Script f) p = absurd p
      by (Open f) p = (lines, b, stays p.2, (p.0, l, next, p.1))
      by (Input fault.Read) p = absurd p
      by (Input fault.Write) p = absurd p
      by (Input fault.LineTooLong) p = absurd p
      by (Input fault.Cut) p = absurd p
      by (Input fault.LengthsDiffer) p = absurd p
      by (Input fault.NotText) p = (lines, b, stays p.1, (l, next, p.0))
      by (Input fault.OutOfMemory) p = (lines, b, stays p, inr (l, next))

  -- the rows that are left are not all written
  pub reads-cut : (m : Option (List ℕ)) (u : List ℕ) (n : ℕ) → u ≡ [] → Appends k m (take n t) → ReadsWords s a b h m u (Err (Input fault.Write))
  reads-cut m u n empty cut = ((lines, so.words.0, so.words.1, inl so.took, holds-cut s h k t lines so.rows m n cut), empty)

-- ---- the rows that are left at the end

-- at most one line was taken
took_next : (b c : Option (List ℕ)) (f : LoadFault) → Stops b c f → (f ≡ Input fault.Read → ⊥) → (f ≡ Input fault.LineTooLong → ⊥) → Took b c [] ⊎ ((l : List ℕ) × Took b c (l ∷ []))
took_next b c (Script f) stops read long = absurd stops
took_next b c (Open f) stops read long = inr (stops.1, stops.2.2)
took_next b c (Input fault.Read) stops read long = absurd (read refl)
took_next b c (Input fault.LineTooLong) stops read long = absurd (long refl)
took_next b c (Input fault.Write) stops read long = absurd stops
took_next b c (Input fault.Cut) stops read long = absurd stops
took_next b c (Input fault.LengthsDiffer) stops read long = absurd stops
took_next b c (Input fault.NotText) stops read long = inr (stops.0, stops.1.2)
took_next b c (Input fault.OutOfMemory) (inl none) read long = inl none
took_next b c (Input fault.OutOfMemory) (inr next) read long = inr (next.0, next.1.2)

pub took_at_least : (a b c : Option (List ℕ)) (lines : List (List ℕ)) → Took a b lines → Took b c [] ⊎ ((l : List ℕ) × Took b c (l ∷ [])) → TookAtLeast a c lines
took_at_least a b c lines took (inl none) = inl (subst (λ (x : List (List ℕ)). Took a c x) (append-nil lines) (took-trans a b c lines [] took none))
took_at_least a b c lines took (inr next) = inr (next.0, took-trans a b c lines (next.0 ∷ []) took next.1)

module _ (s : Source) (a c h k m : Option (List ℕ)) (t : List ℕ) where
  abbrev Reads : Result (Unit {0}) LoadFault → Type 0
  Reads r = ReadsWords s a c h k t r

  abbrev Writes : Result (Unit {0}) LoadFault → Type 0
  Writes r = Filters s a c h m r

  -- the lines of words that were taken, and what stopped them
  end-written : (f : LoadFault) (lines : List (List ℕ)) (next : Option (List ℕ)) → WordsHeld s a next h k t lines → Stops next c f → Appends k m t
      → (lines : List (List ℕ)) × (next : Option (List ℕ)) × Rows s a next h m lines × Stops next c f
  end-written f lines next so stops all =
      let text = holds-written s h k t lines so.rows m all in
      (lines, next, record { words = so.words; took = so.took; text = text }, stops)

  end-cut : (f : LoadFault) (lines : List (List ℕ)) (next : Option (List ℕ)) → WordsHeld s a next h k t lines → Stops next c f → (f ≡ Input fault.Read → ⊥) → (f ≡ Input fault.LineTooLong → ⊥)
      → (n : ℕ) → Appends k m (take n t) → Writes (Err (Input fault.Write))
  end-cut f lines next so stops read long n cut =
      (lines, so.words.0, so.words.1, took_at_least a next c lines so.took (took_next next c f stops read long), holds-cut s h k t lines so.rows m n cut)

  -- all of them are written
  pub filters-written : (r : Result (Unit {0}) LoadFault) → Reads r → Appends k m t → (t ≡ [] → k ≡ m) → Writes r
  filters-written (Ok u) so all same = (so.0, so.1, so.2, holds-written s h k t so.0 so.3 m all)
  filters-written (Err (Input fault.Read)) so all same = subst (λ (x : Option (List ℕ)). Filters s a c h x (Err (Input fault.Read))) (same so.1) so.0
  filters-written (Err (Input fault.LineTooLong)) so all same = subst (λ (x : Option (List ℕ)). Filters s a c h x (Err (Input fault.LineTooLong))) (same so.1) so.0
  filters-written (Err (Input fault.Write)) so all same = subst (λ (x : Option (List ℕ)). Filters s a c h x (Err (Input fault.Write))) (same so.1) so.0
  filters-written (Err (Script f)) so all same = absurd so.3
  filters-written (Err (Open f)) so all same = end-written (Open f) so.0 so.1 so.2 so.3 all
  filters-written (Err (Input fault.Cut)) so all same = absurd so.3
  filters-written (Err (Input fault.LengthsDiffer)) so all same = absurd so.3
  filters-written (Err (Input fault.NotText)) so all same = end-written (Input fault.NotText) so.0 so.1 so.2 so.3 all
  filters-written (Err (Input fault.OutOfMemory)) so all same = end-written (Input fault.OutOfMemory) so.0 so.1 so.2 so.3 all

  -- a prefix of them is written
  pub filters-cut : (r : Result (Unit {0}) LoadFault) (n : ℕ) → Reads r → Appends k m (take n t) → (t ≡ [] → ⊥) → Writes (Err (Input fault.Write))
  filters-cut (Ok u) n so cut some = (so.0, so.1.0, so.2, by so.1.1, holds-cut s h k t so.0 so.3 m n cut)
    where
      by : Took a c (so.0 ++ point ∷ []) ⊎ (Took a c so.0 × IsAtEnd c) → TookAtLeast a c so.0
      by (inl with_point) = inr (point, with_point)
      by (inr all) = inl all.0
  filters-cut (Err (Input fault.Read)) n so cut some = absurd (some so.1)
  filters-cut (Err (Input fault.LineTooLong)) n so cut some = absurd (some so.1)
  filters-cut (Err (Input fault.Write)) n so cut some = absurd (some so.1)
  filters-cut (Err (Script f)) n so cut some = absurd so.3
  filters-cut (Err (Open f)) n so cut some = end-cut (Open f) so.0 so.1 so.2 so.3 (λ e. cc e) (λ e. cc e) n cut
  filters-cut (Err (Input fault.Cut)) n so cut some = absurd so.3
  filters-cut (Err (Input fault.LengthsDiffer)) n so cut some = absurd so.3
  filters-cut (Err (Input fault.NotText)) n so cut some = end-cut (Input fault.NotText) so.0 so.1 so.2 so.3 (λ e. cc e) (λ e. cc e) n cut
  filters-cut (Err (Input fault.OutOfMemory)) n so cut some = end-cut (Input fault.OutOfMemory) so.0 so.1 so.2 so.3 (λ e. cc e) (λ e. cc e) n cut

  -- what was left to the lines
  pub left-kept : (r : Result (Unit {0}) LoadFault) (o : Option LineFault) → Reads r → o ≡ left_by_load r → (t ≡ [] → ⊥) → o ≡ None
  left-kept (Ok u) o so left some = left
  left-kept (Err (Script f)) o so left some = left
  left-kept (Err (Open f)) o so left some = left
  left-kept (Err (Input fault.Read)) o so left some = absurd (some so.1)
  left-kept (Err (Input fault.LineTooLong)) o so left some = absurd (some so.1)
  left-kept (Err (Input fault.Write)) o so left some = left
  left-kept (Err (Input fault.Cut)) o so left some = left
  left-kept (Err (Input fault.LengthsDiffer)) o so left some = left
  left-kept (Err (Input fault.NotText)) o so left some = left
  left-kept (Err (Input fault.OutOfMemory)) o so left some = left

-- ---- one line

-- a test for no characters
pub is_none : (xs : List ℕ) (n : ℕ) (b : Bool) → b ≡ (n == 0) → b ≡ true → n ≡ length xs → xs ≡ []
is_none xs n b test holds len = nil_from_length xs (sym len ∙ eqb-true n 0 (sym test ∙ holds))

pub is_some : (xs : List ℕ) (n : ℕ) (b : Bool) → b ≡ (n == 0) → b ≡ false → n ≡ length xs → xs ≢ []
is_some xs zero b test fails len e = let bad : false ≡ true = sym fails ∙ test in cc bad
is_some xs (suc n) b test fails len e = let none : suc n ≡ 0 = len ∙ ap length e in absurd (omega (arith, none))

-- a line of these characters
module _ (s : Source) (l t : List ℕ) {characters : List ℕ} (text : is_utf8 l ≡ true) (items : characters ≡ chars l) where
  pub line-long : 255 < length characters → PushesRow s l t t (Err (Open edit.WordTooLong))
  line-long long = (refl, (text, subst (λ (w : List ℕ). 255 < length w) items long), refl)

  pub line-empty : characters ≡ [] → PushesRow s l t t (Ok tt)
  line-empty none =
      let empty : chars l ≡ [] = sym items ∙ none in
      let short : length (chars l) ≤ 255 = subst (λ (w : List ℕ). length w ≤ 255) (sym empty) (omega arith) in
      (text, short, sym (append-nil t) ∙ ap (λ (x : List ℕ). t ++ x) (sym (filtered-empty s (chars l) empty)))

  pub line-row : (u : List ℕ) → characters ≢ [] → length characters ≤ 255 → u ≡ t ++ record_line (row_fields (row_of (under s default_limit) (chars l)))
      → PushesRow s l t u (Ok tt)
  line-row u some short more = (
    text,
    subst (λ (w : List ℕ). length w ≤ 255) items short,
    more ∙ ap (λ (x : List ℕ). t ++ x) (sym (filtered-one s (chars l) (λ empty. some (items ∙ empty)))),
  )

-- a line without a row leaves no fault to the lines
pub line-leaves : (s : Source) (l t u : List ℕ) (f : LoadFault) → PushesRow s l t u (Err f) → left_by_load {A = Unit {0}} (Err f) ≡ None
line-leaves s l t u (Script f) w = refl
line-leaves s l t u (Open f) w = refl
line-leaves s l t u (Input fault.Read) w = absurd w
line-leaves s l t u (Input fault.Write) w = refl
line-leaves s l t u (Input fault.LineTooLong) w = absurd w
line-leaves s l t u (Input fault.Cut) w = refl
line-leaves s l t u (Input fault.LengthsDiffer) w = refl
line-leaves s l t u (Input fault.NotText) w = refl
line-leaves s l t u (Input fault.OutOfMemory) w = refl

-- nor is it a fault of reading or writing
pub line-no_read : (s : Source) (l t u : List ℕ) (f : LoadFault) → PushesRow s l t u (Err f) → f ≡ Input fault.Read → ⊥
line-no_read s l t u f w e = let no : PushesRow s l t u (Err (Input fault.Read)) = subst (λ (x : LoadFault). PushesRow s l t u (Err x)) e w in no

pub line-no_write : (s : Source) (l t u : List ℕ) (f : LoadFault) → PushesRow s l t u (Err f) → f ≡ Input fault.Write → ⊥
line-no_write s l t u f w e = let no : PushesRow s l t u (Err (Input fault.Write)) = subst (λ (x : LoadFault). PushesRow s l t u (Err x)) e w in no

-- no whole line is held
pub no_line : (b : Bool) → (b ≡ true → ⊥) → b ≡ false
no_line true other = absurd (other refl)
no_line false other = refl

-- reading a line does not fail as a write
pub no_write : (f : LineFault) → Input (serve_fault_of f) ≡ Input fault.Write → ⊥
no_write line.Read e = cc e
no_write line.TooLong e = cc e

-- an allocation failed before the first line
pub filters-none : (s : Source) (a h : Option (List ℕ)) → Filters s a a h h (Err (Input fault.OutOfMemory))
filters-none s a h =
    let text = holds-all s h h [] [] (holds-none s h [] refl) refl in
    ([], a, record { words = (((tt, tt), tt), tt); took = took-none a; text = text }, inl (took-none a))

-- ---- the whole input

abbrev same : Contents → Contents
same c = c

-- reading a script block does not fail as a write
pub script-no_write : (o : Option LineFault) (a b : Option (List ℕ)) (f : LoadFault) → (o ≡ None → ReadsScript a b (Err f)) → ((l : LineFault) → o ≡ Some l → f ≡ Input (serve_fault_of l))
    → f ≡ Input fault.Write → ⊥
script-no_write None a b f reads again e = let no : ReadsScript a b (Err (Input fault.Write)) = subst (λ (x : LoadFault). ReadsScript a b (Err x)) e (reads refl) in no
script-no_write (Some l) a b f reads again e = no_write l (sym (again l refl) ∙ e)

-- a script block that gave no text
pub filtered-unread : (old new : Option (List ℕ)) (external : List ℕ) (h : Option (List ℕ)) (f : LoadFault) → ReadsScript old new (Err f) → IsFiltered old new external h h (Err f)
filtered-unread old new external h (Script f) reads = (script_unread old new external same (Script f) reads, Appends-nil h)
filtered-unread old new external h (Open f) reads = absurd reads
filtered-unread old new external h (Input f) reads = inl (reads, Appends-nil h)

pub filtered-words : (old between new : Option (List ℕ)) (external : List ℕ) (h k : Option (List ℕ)) (s : Source) (r : Result (Unit {0}) LoadFault) → TookSource old between external s
    → Filters s between new h k r → IsFiltered old new external h k r
filtered-words old between new external h k s (Ok u) source so = (s, so.0, (between, source, so.1), so.2, so.3)
filtered-words old between new external h k s (Err (Script f)) source so = absurd so.3
filtered-words old between new external h k s (Err (Open f)) source so = inr (s, between, source, so)
filtered-words old between new external h k s (Err (Input f)) source so = inr (s, between, source, so)

-- ---- why the words end with a fault

-- what is the cause of a fault since some line is its cause since an earlier one, if the reader did not fail in between
pub cause-before : {R : Type 0} (tally : R → Tally) (first last next : Lines R) → (tally last.reader).failures ≡ (tally first.reader).failures
    → reads_bound tally last ≡ reads_bound tally first → HasCause tally last next → HasCause tally first next
cause-before tally first last next read bound (inl less) = inl (subst (λ (n : ℕ). n < (tally next.reader).failures) read less)
cause-before tally first last next read bound (inr (inl most)) = inr (inl (subst (λ (n : ℕ). n ≤ (tally next.reader).reads) bound most))
cause-before tally first last next read bound (inr (inr tries)) = inr (inr tries)

pub reason-before : {R : Type 0} (tally : R → Tally) (first last next : Lines R) (f : LineFault)
    → (f ≡ line.Read → HasCause tally last next ⊎ (last.fault ≡ Some f)) → (tally last.reader).failures ≡ (tally first.reader).failures
    → reads_bound tally last ≡ reads_bound tally first → last.fault ≡ first.fault → HasReason tally first next (Input (serve_fault_of f))
reason-before tally first last next line.Read why read bound same = λ _. by (why refl)
  where
    by : HasCause tally last next ⊎ (last.fault ≡ Some line.Read) → HasCause tally first next ⊎ (first.fault ≡ Some line.Read)
    by (inl cause) = inl (cause-before tally first last next read bound cause)
    by (inr is) = inr (sym same ∙ is)
reason-before tally first last next line.TooLong why read bound same = λ is. cc is

pub stopped-before : {W : Type 0} (tally : W → Tally) (first last next : W) → (tally last).failures ≡ (tally first).failures
    → HasStopped tally last next → HasStopped tally first next
stopped-before tally first last next written (inl less) = inl (subst (λ (n : ℕ). n < (tally next).failures) written less)
stopped-before tally first last next written (inr tries) = inr tries

-- a writer that stopped since some write had not failed less before
pub stopped-later : {W : Type 0} (tally : W → Tally) (first last next : W) → (tally first).failures ≤ (tally last).failures
    → HasStopped tally last next → HasStopped tally first next
stopped-later tally first last next later (inl less) = inl (omega (arith, later, less))
stopped-later tally first last next later (inr tries) = inr tries

-- nothing is written after a write that failed
pub stopped-kept : {W : Type 0} (tally : W → Tally) (first last next : W) (t : List ℕ) (r : Result (Unit {0}) LoadFault)
    → IfErr r (λ f. f ≡ Input fault.Write → HasStopped tally first last × (t ≡ [])) → (t ≡ [] → next ≡ last)
    → IfErr r (λ f. f ≡ Input fault.Write → HasStopped tally first next)
stopped-kept tally first last next t (Ok u) why same = why
stopped-kept tally first last next t (Err f) why same = λ is.
    let both = why is in
    subst (λ w. HasStopped tally first w) (sym (same both.1)) both.0

-- writes after others are in time, if the others were not interrupted or there is nothing to write
pub in_time-after : {W : Type 0} (tally : W → Tally) (first last next : W) (t : List ℕ)
    → (t ≡ []) ⊎ ((tally first).interruptions ≡ 0 → (tally last).interruptions ≡ 0) → (t ≡ [] → next ≡ last)
    → WritesInTime tally first last → WritesInTime tally last next → WritesInTime tally first next
in_time-after tally first last next t (inl none) same before after = λ fair rest. subst (λ w. (tally w).late ≡ false) (sym (same none)) (before fair rest)
in_time-after tally first last next t (inr rested) same before after = λ fair rest. after (before fair rest) (rested rest)
