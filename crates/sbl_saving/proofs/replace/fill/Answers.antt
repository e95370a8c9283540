use Rattle.sbl_saving.proofs.Steps.{fill_err, fill_ok}
use Rattle.sbl_saving.proofs.replace.fill.Goals as goal

pub returns-clause-filled : goal.returns-clause-filled
returns-clause-filled g c =
    fill_ok c.flush.result c.args.text.now (g.D.Folder.view c.args.folder.now) (g.D.Folder.view c.write.new.self) (g.D.Folder.view c.flush.new.self)
    c.in_ok-write.ensures.written c.flush.ensures.flushed

pub returns-clause-part : goal.returns-clause-part
returns-clause-part g c =
    fill_err c.flush.result c.args.text.now (g.D.Folder.view c.args.folder.now) (g.D.Folder.view c.write.new.self) (g.D.Folder.view c.flush.new.self)
    c.in_ok-write.ensures.written c.flush.ensures.not_flushed
