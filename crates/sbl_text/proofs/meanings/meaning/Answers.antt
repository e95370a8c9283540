use Rattle.sbl_text.proofs.meanings.meaning.Goals as goal

pub returns-in-MacroName : goal.returns-in-MacroName
returns-in-MacroName c = rw c.in-MacroName.is (c.macro_name.ensures.told c.args.state.now _, c.macro_name.ensures.fits)
