-- The text of a script with a typed part put into it.
use Rattle.std.specs.Prelude.{◌≡◌, ℕ, List, Option, IfSome}
use Rattle.sbl_bench.specs.Contents.{Contents}
use Rattle.sbl_print.specs.Canonical.{canonical}
use Rattle.sbl_ast.specs.Source.{Source}
use Rattle.sbl_script.specs.Reading.{IsScriptOf}

-- for this external, the bytes are a text of a script that has this canonical text
abbrev pub Reads : List ℕ → List ℕ → List ℕ → Type 0
Reads external bytes text = (script : Source) × IsScriptOf bytes external script × (canonical script.items ≡ text)

-- for this external, the bytes are a text of the script of a bench
abbrev pub IsTextIn : Contents → List ℕ → List ℕ → Type 0
IsTextIn s external bytes = Reads external bytes (canonical s.setting.script.items)

-- What may be kept if a part of the script of s was edited, and t is the bench after that: a text of the current script, or
-- none. The external stays.
abbrev pub IsTextOf : Contents → Contents → Option (List ℕ) → Type 0
IsTextOf s t kept = IfSome kept (IsTextIn t s.setting.script.external)
