-- What takes the records of a report: a count of the bytes of its text, or the text.
use Rattle.std.specs.Prelude.{◌≡◌, ◌++◌, ◌-◌, ◌^◌, ℕ, List, length, min}
use Rattle.sbl_io.specs.declared.report.ReportLength.{ReportLength}
use Rattle.sbl_io.specs.RecordsWritten.{HasWritten}
use Rattle.sbl_io.specs.declared.report.ReportText.{ReportText}

-- the greatest number that a count of bytes can be
abbrev pub max_count : ℕ
max_count = 2 ^ 64 - 1

-- the length of a text, as far as a count goes
abbrev pub count_of : List ℕ → ℕ
count_of text = min (length text) max_count

-- the count is that of this text
abbrev pub HasCounted : ReportLength → List ℕ → Type 0
HasCounted report text = report.bytes ≡ count_of text

-- the text so far is this
abbrev pub HasText : ReportText → List ℕ → Type 0
HasText report text = HasWritten report.writer text

-- what has taken some text takes this text after it
abbrev pub TakesMore : {T : Type 0} → (T → List ℕ → Type 0) → T → T → List ℕ → Type 0
TakesMore has_taken old new more = (text : List ℕ) → has_taken old text → has_taken new (text ++ more)
