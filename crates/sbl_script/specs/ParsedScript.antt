-- A script: its items, and the name of the external that is run.
use Rattle.std.specs.Prelude.{ℕ, List, map, Option}
use Rattle.sbl_ast.specs.declared.tree.ScriptItem as declared
use Rattle.sbl_ast.specs.View.{RowView, view_item}
use Rattle.sbl_resolver.specs.Bodies.{body_in}
use Rattle.sbl_ast.specs.Source.{Source}

pub record ParsedScript : Type 0 where
  pub items : List declared.ScriptItem
  pub external : List ℕ

-- the script that the code's value represents
abbrev pub source_of : ParsedScript → Source
source_of p = record { items = map view_item p.items; external = p.external }

-- the body of the external that is run
abbrev pub body_of : Source → Option RowView
body_of s = body_in s.external s.items
