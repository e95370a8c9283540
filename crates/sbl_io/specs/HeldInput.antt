-- The input that is left of a `Lines`: the bytes in its buffer, and then the bytes left in its reader.
use Rattle.std.specs.Prelude.{◌≡◌, ◌≢◌, ◌⊎◌, ◌<◌, ◌≤◌, ◌+◌, ◌*◌, ◌-◌, ◌==◌, min, ℕ, Bool, true, false, if◌then◌else◌, ⊤, List, [], ◌∷◌, ◌++◌}
use Rattle.std.specs.Prelude.{length, slice_range, Option, Some, None, Result, Err, IfErr, IfSome, OnOk}
use Rattle.std.specs.List.{AllByRecursion, list_any}
use Rattle.std.specs.Option.{option_map}
use Rattle.std.specs.Io.KnownBytes.{Consumes, prepend_known}
use Rattle.sbl_io.specs.Devices.{Tally, max_count, max_tries}
use Rattle.sbl_io.specs.Faults.{left_by}
use Rattle.sbl_io.specs.LinesOf.{AreWhole, lines_of, max_line}
use Rattle.sbl_io.specs.declared.lines.Lines.{Lines}
use Rattle.sbl_io.specs.declared.faults.LineFault.TheVariants as read
use Rattle.sbl_io.specs.declared.faults.ServeFault.{ServeFault}
use Rattle.sbl_io.specs.declared.faults.ServeFault.TheVariants as serve

-- the bytes that were taken are whole lines, if they are known
abbrev pub TookWhole : Option (List ℕ) → Option (List ℕ) → Type 0
TookWhole old new = (prefix : List ℕ) × Consumes old new prefix × AreWhole prefix

-- the greatest number of reads of the lines that `Lines::new` returns
abbrev pub max_reads : ℕ
max_reads = 1099511627776

-- a line feed is among the bytes
abbrev pub has_feed : List ℕ → Bool
has_feed bytes = list_any (λ b. b == 10) bytes

module _ {R : Type 0} where
  -- the bytes that were read but not taken yet
  abbrev pub held_of : Lines R → List ℕ
  held_of l = slice_range l.chunk.items l.at l.end

  -- they have a whole line, up to its line feed
  abbrev pub HoldsLine : Lines R → Type 0
  HoldsLine l = has_feed (held_of l) ≡ true

  abbrev pub line_of : Lines R → List ℕ
  line_of l = l.line.items

  -- all bytes that are left, if they are known: after those that were read, those left in the reader, or none if it has returned
  -- its end, since it is not read again
  abbrev pub input_of : (R → Option (List ℕ)) → Lines R → Option (List ℕ)
  input_of left l = prepend_known (held_of l) (if l.ended then option_map (λ bytes. []) (left l.reader) else left l.reader)

  -- all bytes that were read have been taken, and the reader has not returned its end
  abbrev pub IsDrained : Lines R → Type 0
  IsDrained l = (held_of l ≡ []) × (l.ended ≡ false)

  -- once the reader has returned its end, this stays so
  abbrev pub StaysEnded : Lines R → Lines R → Type 0
  StaysEnded old new = new.ended ≡ false → old.ended ≡ false

  -- if the reader has not returned its end, the last line taken in between ended with a line feed
  abbrev pub TakesFeeds : (R → Option (List ℕ)) → Lines R → Lines R → Type 0
  TakesFeeds left old new = new.ended ≡ false → TookWhole (input_of left old) (input_of left new)

  -- an upper bound on the number of bytes that are left
  abbrev pub fuel_of : Lines R → ℕ
  fuel_of l = l.reads_left * 4096 + (l.end - l.at)

  -- the limit on reads: the count of the reader when these lines stop reading
  abbrev pub reads_bound : (R → Tally) → Lines R → ℕ
  reads_bound tally l = min ((tally l.reader).reads + l.reads_left) max_count

  -- the reader has failed since, or was read up to the limit, or was interrupted more than 1,000 times in a row
  abbrev pub HasCause : (R → Tally) → Lines R → Lines R → Type 0
  HasCause tally old new = ((tally old.reader).failures < (tally new.reader).failures) ⊎ (reads_bound tally old ≤ (tally new.reader).reads)
      ⊎ (max_tries ≤ (tally new.reader).interruptions)

  -- No read was late, and none will be: the lines know if the reader has returned its end, and they stop at the limit
  -- on reads.
  pub record AreAsked (tally : R → Tally) (l : Lines R) : Type 0 where
    pub in_time : (tally l.reader).late ≡ false
    pub known : (tally l.reader).ended ≡ true → l.ended ≡ true
    pub within : (tally l.reader).reads + l.reads_left ≤ max_count

  -- the same; and if the lines have no fault, the last read of the reader was not interrupted
  abbrev pub InTime : (R → Tally) → Lines R → Type 0
  InTime tally l = AreAsked tally l × (l.fault ≡ None → (tally l.reader).interruptions ≡ 0)

  abbrev pub KeepsTime : (R → Tally) → Lines R → Lines R → Type 0
  KeepsTime tally old new = InTime tally old → InTime tally new

  -- a fault `Read` is caused by the reader or a limit, or the lines return an earlier fault again
  abbrev pub HasReason : (R → Tally) → Lines R → Lines R → ServeFault → Type 0
  HasReason tally lines new_lines f = f ≡ serve.Read → HasCause tally lines new_lines ⊎ (lines.fault ≡ Some read.Read)

  -- What a call that reads whole lines does to them, besides what it takes. With a result that is no fault, the reader has not
  -- failed, and the lines that were taken end with line feeds unless the end of input was reached.
  pub record Reading {A : Type 0} (left : R → Option (List ℕ)) (tally : R → Tally) (old new : Lines R) (result : Result A ServeFault) : Type 0 where
    pub remembered : new.fault ≡ left_by result
    pub drained : result ≡ Err serve.Read → old.fault ≡ None → IsDrained new
    pub fuel : OnOk result (fuel_of new ≤ fuel_of old)
    pub later : (tally old.reader).failures ≤ (tally new.reader).failures
    pub stays : StaysEnded old new
    pub feeds : OnOk result (TakesFeeds left old new)
    pub steady : OnOk result ((tally new.reader).failures ≡ (tally old.reader).failures)
    pub bound : reads_bound tally new ≡ reads_bound tally old
    pub why : IfErr result (λ fault. HasReason tally old new fault)
    pub in_time : KeepsTime tally old new

-- reading failed inside a line: a part of it was taken, without a line feed
abbrev pub BreaksOff : Option (List ℕ) → Option (List ℕ) → List ℕ → Type 0
BreaksOff old new part = Consumes old new part × AllByRecursion (λ b. b ≢ 10) part

-- These lines were taken from the start of the input, if it is known: they are the lines of a prefix of the bytes, and the rest
-- follows. Each ends with a line feed, except that the last one may end at the end of input.
abbrev pub Took : Option (List ℕ) → Option (List ℕ) → List (List ℕ) → Type 0
Took None new lines = ⊤
Took (Some bytes) None lines = ⊥
Took (Some bytes) (Some rest) lines = (prefix : List ℕ) × (bytes ≡ prefix ++ rest) × (AreWhole prefix ⊎ (rest ≡ [])) × (lines_of prefix ≡ lines)

-- the first line was taken
abbrev pub GivesLine : Option (List ℕ) → Option (List ℕ) → List ℕ → Type 0
GivesLine old new line = Took old new (line ∷ [])

-- no line has too many bytes
abbrev pub AllFit : List (List ℕ) → Type 0
AllFit lines = AllByRecursion (λ line. length line ≤ max_line) lines

-- the first line has too many bytes, without its line end
abbrev pub BeginsLong : Option (List ℕ) → Type 0
BeginsLong left = IfSome left (λ bytes. (line : List ℕ) × (rest : List (List ℕ)) × (lines_of bytes ≡ line ∷ rest) × (max_line < length line))
