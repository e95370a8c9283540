-- The canonical text of a script is read as that script, and no other script has it.
use Rattle.std.specs.Prelude.{◌≡◌, ℕ, List, length, ◌≤◌}
use Rattle.sbl_print.specs.Canonical.{canonical}
use Rattle.sbl_ast.specs.Source.{Source}
use Rattle.sbl_script.specs.Reading.{IsScriptOf, max_script}

-- if this text is the canonical text of the script and is not too long, it is read as that script
abbrev pub CanonicalIsRead : Source → List ℕ → Type 0
CanonicalIsRead s text = text ≡ canonical s.items → length text ≤ max_script → IsScriptOf text s.external s

-- two scripts with the same canonical text have the same items
abbrev pub CanonicalIsOne : Source → Source → Type 0
CanonicalIsOne s t = canonical s.items ≡ canonical t.items → s.items ≡ t.items
