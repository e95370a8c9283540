-- A name for a part of Order.antt.
use Rattle.std.specs.Prelude.{List, map}
use Rattle.sbl_ast.specs.Tree.{Plain, plain}
use Rattle.sbl_ast.specs.declared.mode.Mode.{Mode}
use Rattle.sbl_ast.specs.Order.{ItemInMode}

-- items of this mode; only functions inside the crate use it
abbrev pub in_mode : Mode → List Plain → List ItemInMode
in_mode m xs = map (λ (x : Plain). record { mode = m; plain = x }) xs
