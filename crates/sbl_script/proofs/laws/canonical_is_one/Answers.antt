use Rattle.sbl_script.specs.ParsedScript.{source_of}
use Rattle.sbl_script.proofs.SameSources.{items_are_one}
use Rattle.sbl_script.proofs.laws.canonical_is_one.Goals as goal

pub returns : goal.returns
returns c =
    items_are_one
    (record { read = c.spaced_are_read.ensures.read; spaced = c.canonical_is_spaced.ensures })
    c.tokens_are_one.ensures.tokens c.one_tree.ensures.script
    (source_of c.args.script.now).items (source_of c.args.other.now).items
    (record { said = c.is_spelled.ensures.spelled; ends = c.is_spelled.ensures.ends })
    (record { said = c.is_spelled-2.ensures.spelled; ends = c.is_spelled-2.ensures.ends })
