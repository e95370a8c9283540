-- The tokens of a text up to the fault of the lexer.
use Rattle.std.specs.Prelude.{◌≡◌, ◌⊎◌, ℕ, List, Option, Some, None, Ok, MatchOption}
use Rattle.sbl_text.specs.Directives.{Directives}
use Rattle.sbl_text.specs.Tokens.{Advances, ArePlaced, PlacedToken, Reading, Stops}
use Rattle.sbl_source_map.specs.FaultRanges.{StopsIn}
use Rattle.sbl_source_map.specs.declared.fault_ranges.Step.{Step}
use Rattle.sbl_source_map.specs.declared.fault_ranges.Step.TheVariants as step
use Rattle.sbl_source_map.specs.declared.fault_ranges.Stop.{Stop}

-- the next token was taken, the text is at its end, or the lexer stops at a fault
abbrev pub IsStep : Reading → Reading → Step → Type 0
IsStep r t (step.Next token) = Advances r.text r.state r.rest t.state t.rest (Ok (Some token)) × (t.fault ≡ None)
IsStep r t step.End = Advances r.text r.state r.rest t.state t.rest (Ok None)
IsStep r t (step.Fault f) = Stops r.text r.state r.rest f

-- the fault of a text and the insert characters that are set there, or the text has tokens
abbrev pub IsStopOf : List ℕ → Option Stop → Type 0
IsStopOf text o =
    MatchOption o ((ts : List PlacedToken) × ArePlaced text ts)
    (λ stop. (s : Directives) × StopsIn text s stop.fault × (stop.inserts ≡ s.escapes.inserts))
