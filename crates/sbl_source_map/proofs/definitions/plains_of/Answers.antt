use Rattle.std.proofs.Common.{◌≡◌, ◌∷◌, List, Option, None, Some, map, refl, sym, ap, ◌∙◌}
use Rattle.std.specs.Option.{option_or}
use Rattle.sbl_ast.specs.Tree.{Plain}
use Rattle.sbl_ast.specs.View.{view_item, view_plain}
use Rattle.sbl_ast.specs.declared.tree.Plain.{Plain as TreePlain}
use Rattle.sbl_ast.specs.declared.tree.ScriptItem.{ScriptItem}
use Rattle.sbl_script.specs.Homes.{first_in, first_passing, plain_if}
use Rattle.sbl_source_map.proofs.definitions.plains_of.Goals as goal

-- one item is the first of itself
alone : (o r : Option Plain) → option_or o r ≡ option_or (option_or o None) r
alone None r = refl
alone (Some x) r = refl

pub returns-in-Plain : goal.returns-in-Plain
returns-in-Plain c p rest =
    ap (λ (x : ScriptItem). first_passing p (view_item x ∷ rest)) c.in-Plain.is
    ∙ alone (plain_if p (view_plain c.in-Plain.plain)) (first_passing p rest)
    ∙ sym (ap (λ (ps : List TreePlain). option_or (first_in p (map view_plain ps)) (first_passing p rest)) c.from_ref.ensures.value)
