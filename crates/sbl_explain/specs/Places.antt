-- Where a run is, for the code that writes its rows.
use Rattle.std.specs.Prelude.{ℕ, List}
use Rattle.sbl_bench.specs.KeptRuns.{setting_of}
use Rattle.sbl_explain.specs.WhyRows.{routine_names}
use Rattle.sbl_explain.specs.declared.event_rows.Place.{Place}

-- the names of the routines of the script that runs there
abbrev pub names_at : Place → List (List ℕ)
names_at p = routine_names (setting_of p.bench.now)
