use Rattle.sbl_script.specs.ParsedScript.{source_of}
use Rattle.sbl_script.proofs.Printed.{read_back}
use Rattle.sbl_script.proofs.laws.canonical_is_read.Goals as goal

pub returns : goal.returns
returns c =
    read_back
    (record { read = c.spaced_are_read.ensures.read; spaced = c.canonical_is_spaced.ensures })
    c.args.text.now c.utf8.text (source_of c.args.script.now)
    (record {
      declared = c.is_well_declared.ensures;
      shallow = c.is_shallow.ensures;
      spelled = c.is_spelled.ensures.spelled;
      ends = c.is_spelled.ensures.ends;
    })
