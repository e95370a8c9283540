use Rattle.std.proofs.Common.{◌∙◌, List, ℕ, ap}
use Rattle.std.specs.Borrow.{Bor}
use Rattle.std.specs.List.{list_any}
use Rattle.std.specs.Str.{bytes_eq}
use Rattle.sbl_uses.specs.UnusedViews.{texts_of}
use Rattle.sbl_explain.proofs.KeptSets.{word_added}
use Rattle.sbl_explain.proofs.kept_takes.add_word.Goals as goal

pub returns : goal.returns
returns c = λ w. ap (λ (ks : List (Bor (List ℕ))). list_any (bytes_eq w) (texts_of ks)) c.in_ok-insert.ensures.keys ∙ word_added c.args.words.now.keys c.args.word w
