use Rattle.std.proofs.Common.{◌≡◌, ℕ, ◌+◌, ◌++◌, ◌∷◌, [], length, map, take, get_or, refl, sym, ap, ◌∙◌, Vec, Global}
use Rattle.std.proofs.lemmas.List.{map-append, take_more, length-map, length-append}
use Rattle.sbl_semantics.specs.Fitting.{read_all, read_as}
use Rattle.sbl_program.specs.Linked.{Row, AreOwn, numbers_of, texts_of}
use Rattle.sbl_program.proofs.Next.{next_string}
use Rattle.sbl_program.proofs.Sorted.{own_more}
use Rattle.sbl_program.proofs.linked.rows.rows_by_number.Goals as goal

pub loop-i-preserved : goal.loop-i-preserved
loop-i-preserved c =
    let inv = c.loop-i.invariant in
    let d = c.args.direction in
    let i = c.loop-i.i in
    let old = c.loop-i.rows.items in
    let strings = c.args.strings.now in
    let v = c.index-strings-i.result in
    let text = c.in_ok-text.text in
    let xs = read_all d (map (λ (v : Vec ℕ Global). v.items) strings) in
    let n = next_string d strings strings v i refl c.loop-i-test.true c.index-strings-i.is in
    let read : text.items ≡ get_or xs i [] = c.in_ok-text.ensures ∙ ap (read_as d) c.deref.ensures.value ∙ sym n.1 in
    let more = c.in_ok-push.ensures.items in
    let numbers : numbers_of c.push.new.self.items ≡ numbers_of old ++ (i ∷ []) = ap numbers_of more ∙ map-append (λ (r : Row). r.1.0) old _ in
    let long : length (numbers_of old) ≡ i = length-map old (λ r. r.1.0) ∙ inv.2 in
    let own : AreOwn (numbers_of old ++ (i ∷ [])) = own_more (numbers_of old) i inv.1 long in
    let whole : length c.push.new.self.items ≡ length old + 1 = ap length more ∙ length-append old _ in (
      ap texts_of more ∙ map-append (λ (r : Row). r.0.items) old _ ∙ ap (λ t. t ++ (text.items ∷ [])) inv.0 ∙ ap (λ y. take i xs ++ (y ∷ [])) read ∙ sym (take_more xs i [] n.0),
      rw numbers own,
      whole ∙ ap (λ k. k + 1) inv.2,
    )
