use Rattle.std.proofs.Common.{◌≡◌, ◌∙◌, ℕ, List, length, ap, sym}
use Rattle.std.proofs.Math.ListN.{drop_of_length-le}
use Rattle.std.proofs.lemmas.List.{length-map}
use Rattle.std.specs.List.{flat_map}
use Rattle.std.specs.Borrow.{Bor}
use Rattle.std.specs.declared.vec.Vec.{Vec}
use Rattle.std.specs.declared.alloc.Global.{Global}
use Rattle.sbl_rows.specs.Classes.{in_order, texts_of}
use Rattle.sbl_rows.specs.Counting.{put_texts, unknown_in}
use Rattle.sbl_rows.specs.Families.{view_words}
use Rattle.sbl_rows.specs.KnownOutcomes.{Text, known_outcome}
use Rattle.sbl_rows.proofs.OrderFacts.{put_texts-all}
use Rattle.sbl_rows.proofs.unknown_words.count_unknown.Goals as goal

pub returns : goal.returns
returns c =
    let o = known_outcome c.args.outcomes.now in
    let keys = c.loop-words.unknown.keys in
    let all : List (List ℕ) = unknown_in o (flat_map (λ l. l) (view_words c.args.lists.now)) in
    let texts : texts_of keys ≡ in_order all =
    ap (λ (l : List (Vec (Bor (List ℕ)) Global)). put_texts (texts_of keys) (unknown_in o (flat_map (λ l. l) (view_words l)))) (sym (drop_of_length-le c.args.lists.now c.loop-words-test.false))
    ∙ c.loop-words.invariant ∙ put_texts-all all in
    c.len.ensures.len ∙ sym (length-map keys (λ (t : Text). t.now)) ∙ ap length texts
