-- What was written for the lines so far, how it goes on or ends, and that it is what a filter up to a point writes.
use Rattle.std.proofs.Common.{◌≡◌, ◌≢◌, ◌⊎◌, inl, inr, ◌∙◌, ◌++◌, ◌+◌, ◌-◌, ◌^◌, ℕ, List, [], ◌∷◌, Option, Some, None, Result, Ok, Err, refl, sym, ap, subst, min, take, arith, append_assoc, length-append}
use Rattle.std.specs.Io.KnownBytes.{Appends, IsAtEnd, Keeps}
use Rattle.sbl_ast.specs.Source.{Source}
use Rattle.sbl_batch.specs.Filter.{Filters, Rows, Stops, TookAtLeast, TookLine}
use Rattle.sbl_batch.specs.HeldRows.{LinesHeld, PushesRow, ReadsToEnd, WritesPart}
use Rattle.sbl_batch.specs.Laws.{ToEndIsFilter}
use Rattle.sbl_batch.specs.ToEnd.{EndsAfter, FiltersToEnd, StopsAt, TookNext, WordRows, line_after, with_line}
use Rattle.sbl_batch.proofs.FilterFacts.{all_short-push, took_at_least}
use Rattle.sbl_batch.proofs.HeldFacts.{holds-all, holds-cut, holds-moved, holds-none, holds-push, holds-stays, holds-written}
use Rattle.sbl_reports.proofs.BlockFacts.{all_fit-push}
use Rattle.sbl_reports.specs.Block.{NoPoint, point}
use Rattle.sbl_input.proofs.LoadFacts.{all_text-push}
use Rattle.sbl_input.specs.Faults.{left_by_load}
use Rattle.sbl_input.specs.declared.faults.LoadFault.{LoadFault}
use Rattle.sbl_input.specs.declared.faults.LoadFault.TheVariants.{Input, Open, Script}
use Rattle.sbl_io.proofs.Bytes.{stand_lines, took-kept, took-none, took-trans}
use Rattle.sbl_io.specs.Faults.{serve_fault_of}
use Rattle.sbl_io.specs.HeldInput.{BeginsLong, BreaksOff, Took}
use Rattle.sbl_io.specs.LinesOf.{lines_of}
use Rattle.sbl_io.specs.declared.faults.LineFault.{LineFault}
use Rattle.sbl_io.specs.declared.faults.LineFault.TheVariants as line
use Rattle.sbl_io.specs.declared.faults.ServeFault.TheVariants as fault

-- ---- while the lines are read

pub lines-none : (s : Source) (a h : Option (List ℕ)) (t : List ℕ) → t ≡ [] → LinesHeld s a a h h t []
lines-none s a h t none = record {
  words = (tt, tt, tt);
  took = took-none a;
  rows = holds-none s h t none;
}

-- the number of the line after one line more
pub next_line : (lines : List (List ℕ)) (l : List ℕ) (n m : ℕ) → n ≡ line_after lines → m ≡ min (n + 1) (2 ^ 64 - 1) → m ≡ line_after (lines ++ l ∷ [])
next_line lines l n m now next = omega (arith, now, next, length-append lines (l ∷ []))

-- an allocation failed before the first line
pub to_end-none : (s : Source) (a h : Option (List ℕ)) (n : ℕ) → n ≡ 1 → FiltersToEnd s a a h h (with_line n (Err (Input fault.OutOfMemory)))
to_end-none s a h n first =
    let text = holds-all s h h [] [] (holds-none s h [] refl) refl in
    ([], (a, record { words = (tt, tt, tt); took = took-none a; text = text }, inl (took-none a)), first)

module _ {s : Source} {a b h k : Option (List ℕ)} {t : List ℕ} {lines : List (List ℕ)} (so : LinesHeld s a b h k t lines) where
  pub lines-moved : (m : Option (List ℕ)) (u : List ℕ) → WritesPart k m t u → LinesHeld s a b h m u lines
  lines-moved m u next = record {
    words = so.words;
    took = so.took;
    rows = holds-moved s h k t lines so.rows m u next;
  }

  pub lines-push : (c : Option (List ℕ)) (l u : List ℕ) → TookNext b c l → PushesRow s l t u (Ok tt) → LinesHeld s a c h k u (lines ++ l ∷ [])
  lines-push c l u next pushes = record {
    words = (all_fit-push lines l so.words.0 next.0, all_text-push lines l so.words.1 pushes.0, all_short-push lines l so.words.2 pushes.1);
    took = took-trans a b c lines (l ∷ []) so.took next.1;
    rows = holds-push s h k t lines so.rows l u pushes.2;
  }

  pub to_end-all : (c : Option (List ℕ)) (n : ℕ) → t ≡ [] → Keeps b c → IsAtEnd c → ReadsToEnd s a c h k t n (Ok tt)
  to_end-all c n empty keeps end =
      let text = holds-all s h k t lines so.rows empty in
      ((lines, record { words = so.words; took = took-kept a b c lines so.took keeps; text = text }, end), empty)

  -- there is no next line
  pub to_end-broken : (c : Option (List ℕ)) (o : Option LineFault) (part : List ℕ) (f : LineFault) (n : ℕ) → t ≡ [] → o ≡ None → n ≡ line_after lines
      → (f ≡ line.TooLong → BeginsLong b ⊎ (o ≡ Some f)) → (f ≡ line.Read → o ≡ None → BreaksOff b c part)
      → ReadsToEnd s a c h k t n (Err (Input (serve_fault_of f)))
  to_end-broken c o part f n empty none number = by f
    where
      written : WordRows s a b h k lines
      written = record {
        words = so.words;
        took = so.took;
        text = holds-all s h k t lines so.rows empty;
      }

      long_line : BeginsLong b ⊎ (o ≡ Some line.TooLong) → BeginsLong b
      long_line (inl is) = is
      long_line (inr is) = let e : Some line.TooLong ≡ None = sym is ∙ none in cc e

      by : (f : LineFault) → (f ≡ line.TooLong → BeginsLong b ⊎ (o ≡ Some f)) → (f ≡ line.Read → o ≡ None → BreaksOff b c part)
          → ReadsToEnd s a c h k t n (Err (Input (serve_fault_of f)))
      by line.Read long cut = ((lines, (b, written, (part, cut refl none)), number), empty)
      by line.TooLong long cut = ((lines, (b, written, long_line (long refl)), number), empty)

  -- the next line gives no row
  pub to_end-fault : (c : Option (List ℕ)) (l u : List ℕ) (f : LoadFault) (n : ℕ) → n ≡ line_after lines → TookNext b c l → PushesRow s l t u (Err f)
      → ReadsToEnd s a c h k u n (Err f)
  to_end-fault c l u f n number next pushes = by f pushes
    where
      stays : u ≡ t → LinesHeld s a b h k u lines
      stays same = record {
        words = so.words;
        took = so.took;
        rows = holds-stays s h k t lines so.rows u same;
      }

      by : (f : LoadFault) → PushesRow s l t u (Err f) → ReadsToEnd s a c h k u n (Err f)
      by (Script f) p = absurd p
      by (Open f) p = (lines, b, stays p.2, (p.0, l, next, p.1), number)
      by (Input fault.Read) p = absurd p
      by (Input fault.Write) p = absurd p
      by (Input fault.LineTooLong) p = absurd p
      by (Input fault.Cut) p = absurd p
      by (Input fault.LengthsDiffer) p = absurd p
      by (Input fault.NotText) p = (lines, b, stays p.1, (l, next, p.0), number)
      by (Input fault.OutOfMemory) p = (lines, b, stays p, inr (l, next), number)

  -- the rows that are left are not all written
  pub to_end-cut : (m : Option (List ℕ)) (u : List ℕ) (j n : ℕ) → n ≡ line_after lines → u ≡ [] → Appends k m (take j t)
      → ReadsToEnd s a b h m u n (Err (Input fault.Write))
  to_end-cut m u j n number empty cut = ((lines, (so.words, inl so.took, holds-cut s h k t lines so.rows m j cut), number), empty)

-- ---- the rows that are left at the end

-- at most one line was taken
took_next : (b c : Option (List ℕ)) (f : LoadFault) → StopsAt b c f → (f ≡ Input fault.Read → ⊥) → (f ≡ Input fault.LineTooLong → ⊥) → Took b c [] ⊎ ((l : List ℕ) × Took b c (l ∷ []))
took_next b c (Script f) stops read long = absurd stops
took_next b c (Open f) stops read long = inr (stops.1, stops.2.1)
took_next b c (Input fault.Read) stops read long = absurd (read refl)
took_next b c (Input fault.LineTooLong) stops read long = absurd (long refl)
took_next b c (Input fault.Write) stops read long = absurd stops
took_next b c (Input fault.Cut) stops read long = absurd stops
took_next b c (Input fault.LengthsDiffer) stops read long = absurd stops
took_next b c (Input fault.NotText) stops read long = inr (stops.0, stops.1.1)
took_next b c (Input fault.OutOfMemory) (inl none) read long = inl none
took_next b c (Input fault.OutOfMemory) (inr next) read long = inr (next.0, next.1.1)

module _ (s : Source) (a c h k m : Option (List ℕ)) (t : List ℕ) (n : ℕ) where
  abbrev Reads : Result (Unit {0}) LoadFault → Type 0
  Reads r = ReadsToEnd s a c h k t n r

  abbrev Writes : Option (List ℕ) → Result (Unit {0}) LoadFault → Type 0
  Writes x r = FiltersToEnd s a c h x (with_line n r)

  end-written : (f : LoadFault) (lines : List (List ℕ)) (next : Option (List ℕ)) → LinesHeld s a next h k t lines → StopsAt next c f → Appends k m t
      → (next : Option (List ℕ)) × WordRows s a next h m lines × StopsAt next c f
  end-written f lines next so stops all =
      let text = holds-written s h k t lines so.rows m all in
      (next, record { words = so.words; took = so.took; text = text }, stops)

  end-cut : (f : LoadFault) (lines : List (List ℕ)) (next : Option (List ℕ)) → LinesHeld s a next h k t lines → StopsAt next c f → (f ≡ Input fault.Read → ⊥) → (f ≡ Input fault.LineTooLong → ⊥)
      → (j : ℕ) → Appends k m (take j t) → n ≡ line_after lines → Writes m (Err (Input fault.Write))
  end-cut f lines next so stops read long j cut number =
      (lines, (so.words, took_at_least a next c lines so.took (took_next next c f stops read long), holds-cut s h k t lines so.rows m j cut), number)

  -- all of them are written
  pub to_end-written : (r : Result (Unit {0}) LoadFault) → Reads r → Appends k m t → (t ≡ [] → k ≡ m) → Writes m r
  to_end-written (Ok u) so all same = subst (λ (x : Option (List ℕ)). Writes x (Ok tt)) (same so.1) so.0
  to_end-written (Err (Input fault.Read)) so all same = subst (λ (x : Option (List ℕ)). Writes x (Err (Input fault.Read))) (same so.1) so.0
  to_end-written (Err (Input fault.LineTooLong)) so all same = subst (λ (x : Option (List ℕ)). Writes x (Err (Input fault.LineTooLong))) (same so.1) so.0
  to_end-written (Err (Input fault.Write)) so all same = subst (λ (x : Option (List ℕ)). Writes x (Err (Input fault.Write))) (same so.1) so.0
  to_end-written (Err (Script f)) so all same = absurd so.3
  to_end-written (Err (Open f)) so all same = (so.0, end-written (Open f) so.0 so.1 so.2 so.3 all, so.4)
  to_end-written (Err (Input fault.Cut)) so all same = absurd so.3
  to_end-written (Err (Input fault.LengthsDiffer)) so all same = absurd so.3
  to_end-written (Err (Input fault.NotText)) so all same = (so.0, end-written (Input fault.NotText) so.0 so.1 so.2 so.3 all, so.4)
  to_end-written (Err (Input fault.OutOfMemory)) so all same = (so.0, end-written (Input fault.OutOfMemory) so.0 so.1 so.2 so.3 all, so.4)

  -- a prefix of them is written
  pub to_end-left : (r : Result (Unit {0}) LoadFault) (j : ℕ) → Reads r → Appends k m (take j t) → (t ≡ [] → ⊥) → Writes m (Err (Input fault.Write))
  to_end-left (Ok u) j so cut some = absurd (some so.1)
  to_end-left (Err (Input fault.Read)) j so cut some = absurd (some so.1)
  to_end-left (Err (Input fault.LineTooLong)) j so cut some = absurd (some so.1)
  to_end-left (Err (Input fault.Write)) j so cut some = absurd (some so.1)
  to_end-left (Err (Script f)) j so cut some = absurd so.3
  to_end-left (Err (Open f)) j so cut some = end-cut (Open f) so.0 so.1 so.2 so.3 (λ e. cc e) (λ e. cc e) j cut so.4
  to_end-left (Err (Input fault.Cut)) j so cut some = absurd so.3
  to_end-left (Err (Input fault.LengthsDiffer)) j so cut some = absurd so.3
  to_end-left (Err (Input fault.NotText)) j so cut some = end-cut (Input fault.NotText) so.0 so.1 so.2 so.3 (λ e. cc e) (λ e. cc e) j cut so.4
  to_end-left (Err (Input fault.OutOfMemory)) j so cut some = end-cut (Input fault.OutOfMemory) so.0 so.1 so.2 so.3 (λ e. cc e) (λ e. cc e) j cut so.4

  -- what was left to the lines
  pub to_end-kept : (r : Result (Unit {0}) LoadFault) (o : Option LineFault) → Reads r → o ≡ left_by_load r → (t ≡ [] → ⊥) → o ≡ None
  to_end-kept (Ok u) o so left some = left
  to_end-kept (Err (Script f)) o so left some = left
  to_end-kept (Err (Open f)) o so left some = left
  to_end-kept (Err (Input fault.Read)) o so left some = absurd (some so.1)
  to_end-kept (Err (Input fault.LineTooLong)) o so left some = absurd (some so.1)
  to_end-kept (Err (Input fault.Write)) o so left some = left
  to_end-kept (Err (Input fault.Cut)) o so left some = left
  to_end-kept (Err (Input fault.LengthsDiffer)) o so left some = left
  to_end-kept (Err (Input fault.NotText)) o so left some = left
  to_end-kept (Err (Input fault.OutOfMemory)) o so left some = left

-- ---- words without a point

no_point-first : (lines more : List (List ℕ)) → NoPoint (lines ++ more) → NoPoint lines
no_point-first [] more free = tt
no_point-first (l ∷ lines) more free = (free.0, no_point-first lines more free.1)

no_point-next : (lines more : List (List ℕ)) (l : List ℕ) → NoPoint (lines ++ l ∷ more) → l ≢ point
no_point-next [] more l free = free.0
no_point-next (x ∷ lines) more l free = no_point-next lines more l free.1

module _ (s : Source) (x : List ℕ) (h : Option (List ℕ)) (free : NoPoint (lines_of x)) where
  rows_before : (y : List ℕ) (k : Option (List ℕ)) (lines : List (List ℕ)) → WordRows s (Some x) (Some y) h k lines → Rows s (Some x) (Some y) h k lines
  rows_before y k lines so = record {
    words = (((no_point-first lines (lines_of y) (subst NoPoint (stand_lines x y lines so.took) free), so.words.0), so.words.1), so.words.2);
    took = so.took;
    text = so.text;
  }

  all_rows : (new k : Option (List ℕ)) (lines : List (List ℕ)) → WordRows s (Some x) new h k lines → IsAtEnd new → Filters s (Some x) new h k (Ok tt)
  all_rows None k lines so end = absurd so.took
  all_rows (Some y) k lines so end =
      let rows = rows_before y k lines so in
      (lines, (rows.words.0, inr (so.took, end)), rows.words.1, so.text)

  -- the next line is no point
  took_line : (y : List ℕ) (new k : Option (List ℕ)) (lines : List (List ℕ)) (l : List ℕ) → WordRows s (Some x) (Some y) h k lines → TookNext (Some y) new l → TookLine (Some y) new l
  took_line y None k lines l so next = absurd next.1
  took_line y (Some z) k lines l so next =
      let all : lines_of x ≡ lines ++ l ∷ lines_of z = stand_lines x y lines so.took ∙ ap (λ (ls : List (List ℕ)). lines ++ ls) (stand_lines y z (l ∷ []) next.1) in
      (no_point-next lines (lines_of z) l (subst NoPoint all free), next.0, next.1)

  stops : (y : List ℕ) (new k : Option (List ℕ)) (lines : List (List ℕ)) (f : LoadFault) → WordRows s (Some x) (Some y) h k lines → StopsAt (Some y) new f → Stops (Some y) new f
  stops y new k lines (Script f) so at = absurd at
  stops y new k lines (Open f) so at = (at.0, at.1, took_line y new k lines at.1 so at.2, at.3)
  stops y new k lines (Input fault.Read) so at = at
  stops y new k lines (Input fault.LineTooLong) so at = at
  stops y new k lines (Input fault.Write) so at = absurd at
  stops y new k lines (Input fault.Cut) so at = absurd at
  stops y new k lines (Input fault.LengthsDiffer) so at = absurd at
  stops y new k lines (Input fault.NotText) so at = (at.0, took_line y new k lines at.0 so at.1, at.2)
  stops y new k lines (Input fault.OutOfMemory) so at = by at
    where
      by : Took (Some y) new [] ⊎ ((l : List ℕ) × TookNext (Some y) new l) → Took (Some y) new [] ⊎ ((l : List ℕ) × TookLine (Some y) new l)
      by (inl none) = inl none
      by (inr next) = inr (next.0, took_line y new k lines next.0 so next.1)

  abbrev RowsStopped : Option (List ℕ) → Option (List ℕ) → LoadFault → Type 0
  RowsStopped new m f = (lines : List (List ℕ)) × (next : Option (List ℕ)) × Rows s (Some x) next h m lines × Stops next new f

  rows_stopped : (new m next : Option (List ℕ)) (lines : List (List ℕ)) (f : LoadFault) → WordRows s (Some x) next h m lines → StopsAt next new f → RowsStopped new m f
  rows_stopped new m None lines f so at = absurd so.took
  rows_stopped new m (Some y) lines f so at = (lines, Some y, rows_before y m lines so, stops y new m lines f so at)

  -- the lines that were taken have no point
  no_point-taken : (new : Option (List ℕ)) (lines : List (List ℕ)) → TookAtLeast (Some x) new lines → NoPoint lines
  no_point-taken None lines (inl took) = absurd took
  no_point-taken None lines (inr took) = absurd took.1
  no_point-taken (Some y) lines (inl took) = no_point-first lines (lines_of y) (subst NoPoint (stand_lines x y lines took) free)
  no_point-taken (Some y) lines (inr took) =
      let all : lines_of x ≡ lines ++ took.0 ∷ lines_of y = stand_lines x y (lines ++ took.0 ∷ []) took.1 ∙ append_assoc lines (took.0 ∷ []) (lines_of y) in
      no_point-first lines (took.0 ∷ lines_of y) (subst NoPoint all free)

  ends : (new m : Option (List ℕ)) (lines : List (List ℕ)) (f : LoadFault) → EndsAfter s (Some x) new h m lines f → Filters s (Some x) new h m (Err f)
  ends new m lines (Script f) so = rows_stopped new m so.0 lines (Script f) so.1 so.2
  ends new m lines (Open f) so = rows_stopped new m so.0 lines (Open f) so.1 so.2
  ends new m lines (Input fault.Read) so = rows_stopped new m so.0 lines (Input fault.Read) so.1 so.2
  ends new m lines (Input fault.LineTooLong) so = rows_stopped new m so.0 lines (Input fault.LineTooLong) so.1 so.2
  ends new m lines (Input fault.Write) so = (lines, ((no_point-taken new lines so.1, so.0.0), so.0.1), so.0.2, so.1, so.2)
  ends new m lines (Input fault.Cut) so = rows_stopped new m so.0 lines (Input fault.Cut) so.1 so.2
  ends new m lines (Input fault.LengthsDiffer) so = rows_stopped new m so.0 lines (Input fault.LengthsDiffer) so.1 so.2
  ends new m lines (Input fault.NotText) so = rows_stopped new m so.0 lines (Input fault.NotText) so.1 so.2
  ends new m lines (Input fault.OutOfMemory) so = rows_stopped new m so.0 lines (Input fault.OutOfMemory) so.1 so.2

pub to_end-filter : ToEndIsFilter
to_end-filter s bytes new h k (Ok u) free so = all_rows s bytes h free new k so.0 so.1 so.2
to_end-filter s bytes new h k (Err f) free so = ends s bytes h free new k so.0 f.fault so.1
