use Rattle.std.proofs.Common.{◌≡◌, ◌∙◌, ◌||◌, Bool, length, ap, arith}
use Rattle.std.specs.Str.{bytes_eq}
use Rattle.sbl_rows.specs.Changes.{is_one}
use Rattle.sbl_rows.specs.Classes.{texts_of}
use Rattle.sbl_rows.specs.KnownOutcomes.{has_text}
use Rattle.sbl_rows.proofs.SetFacts.{and_one, one_text, text_inserted}
use Rattle.sbl_rows.proofs.class_changes.insert_if_one.Goals as goal

pub returns-in_ok-insert : goal.returns-in_ok-insert
returns-in_ok-insert c = λ q.
    let members = c.args.class.now.members in
    let one : length members.items ≡ 1 = let a = members.ok.0 in let b = c.len.ensures in omega arith in
    text_inserted c.args.stems.now c.insert.new.self c.args.class.now.stem q c.in_ok-insert.ensures.updates
    ∙ ap (λ (b : Bool). b || has_text c.args.stems.now q) (and_one (bytes_eq c.args.class.now.stem.now q) (is_one (texts_of members.items)) (one_text members.items one))
