-- What the run of a word depends on besides the word.
use Rattle.std.specs.Prelude.{ℕ}
use Rattle.sbl_ast.specs.Source.{Source}

-- the current script, and the current limit of steps
pub record Setting : Type 0 where
  pub script : Source
  pub limit : ℕ

abbrev pub under : Source → ℕ → Setting
under script limit = record { script = script; limit = limit }
