use Rattle.std.proofs.Common.{rules}
use Rattle.sbl_saving.proofs.Steps.{keeps_part, keeps_text, on_err, on_ok, steps_to_end, steps_to_name}
use Rattle.sbl_saving.proofs.replace.replace_file.Goals as goal

pub returns-then-is_err : goal.returns-then-is_err
returns-then-is_err g c =
    on_err c.create.result _ (search rules) c.create.ensures.not_made

pub returns-then-is_err-2 : goal.returns-then-is_err-2
returns-then-is_err-2 g c =
    let made = on_ok c.create.result _ (search rules) c.create.ensures.made in
    let part = on_err c.fill.result _ (search rules) c.fill.ensures.part in
    keeps_part c.remove.result (g.D.Folder.view c.args.folder.now) (g.D.Folder.view c.create.new.self) (g.D.Folder.view c.fill.new.folder) (g.D.Folder.view c.remove.new.self)
    made part c.remove.ensures.removed c.remove.ensures.not_removed

pub returns-then-is_err-3 : goal.returns-then-is_err-3
returns-then-is_err-3 g c =
    let made = on_ok c.create.result _ (search rules) c.create.ensures.made in
    let text = on_ok c.fill.result _ (search rules) c.fill.ensures.filled in
    let kept = on_err c.rename.result _ (search rules) c.rename.ensures.not_renamed in
    keeps_text c.args.text.now c.remove-then-is_err-3.result (g.D.Folder.view c.args.folder.now) (g.D.Folder.view c.create.new.self) (g.D.Folder.view c.fill.new.folder) (g.D.Folder.view c.rename.new.self) (g.D.Folder.view c.remove-then-is_err-3.new.self)
    made text kept c.remove-then-is_err-3.ensures.removed c.remove-then-is_err-3.ensures.not_removed

pub returns-then-is_err-4 : goal.returns-then-is_err-4
returns-then-is_err-4 g c =
    let made = on_ok c.create.result _ (search rules) c.create.ensures.made in
    let text = on_ok c.fill.result _ (search rules) c.fill.ensures.filled in
    let named = on_ok c.rename.result _ (search rules) c.rename.ensures.renamed in
    let last = on_err c.flush_names.result _ (search rules) c.flush_names.ensures.not_settled in
    steps_to_name c.args.text.now (g.D.Folder.view c.args.folder.now) (g.D.Folder.view c.create.new.self) (g.D.Folder.view c.fill.new.folder) (g.D.Folder.view c.rename.new.self) (g.D.Folder.view c.flush_names.new.self) made text named last

pub returns : goal.returns
returns g c =
    let made = on_ok c.create.result _ (search rules) c.create.ensures.made in
    let text = on_ok c.fill.result _ (search rules) c.fill.ensures.filled in
    let named = on_ok c.rename.result _ (search rules) c.rename.ensures.renamed in
    let last = on_ok c.flush_names.result _ (search rules) c.flush_names.ensures.settled in
    steps_to_end c.args.text.now (g.D.Folder.view c.args.folder.now) (g.D.Folder.view c.create.new.self) (g.D.Folder.view c.fill.new.folder) (g.D.Folder.view c.rename.new.self) (g.D.Folder.view c.flush_names.new.self) made text named last
