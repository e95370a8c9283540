use Rattle.std.proofs.Common.{◌≡◌, ◌<◌, ◌+◌, ℕ, Bool, true, false, List, Option, Some, length, refl, sym, ap, ◌∙◌, arith}
use Rattle.std.specs.Prelude.{nat_lt, slice_get}
use Rattle.std.specs.Option.{unwrap_or}
use Rattle.std.proofs.lemmas.Bool.{ltb-true, ltb-false}
use Rattle.std.proofs.lemmas.Option.{slice_get_read, slice_get_within}
use Rattle.std.proofs.lemmas.List.{length-map}
use Rattle.sbl_program.specs.Linked.{Row, texts_of}
use Rattle.sbl_program.specs.Beginnings.{has_remainder, may_begin}
use Rattle.sbl_program.proofs.Sorted.{part_at}
use Rattle.sbl_program.proofs.linked.beginnings.beginnings_of.Goals as goal

pub loop-row-preserved : goal.loop-row-preserved
loop-row-preserved c k v less at =
    let i = c.loop-row.row-index in
    let rows = c.args.rows.now in
    let text = c.row-item.result.0.items in
    let there : slice_get (texts_of rows) i ≡ Some text = part_at (λ (r : Row). r.0.items) rows i c.row-item.result (slice_get_read rows (length rows) i c.row-item.result refl c.loop-row-test.true c.row-item.is) in
    let told = may_begin (has_remainder c.add.new.self.remainders) c.add.new.self.everywhere in
    let own : told text ≡ true = ap told (sym c.deref.ensures.value) ∙ c.add.ensures.own in
    by told i k v text (λ l. c.add.ensures.others v (c.loop-row.invariant k v l at))
    (λ here. ap told (same_text (sym at ∙ ap (slice_get (texts_of rows)) here ∙ there)) ∙ own) less (nat_lt k i) refl
  where
    same_text : {u w : List ℕ} → Some u ≡ Some w → u ≡ w
    same_text {u} e = ap (λ (o : Option (List ℕ)). unwrap_or o u) e

    by : (told : List ℕ → Bool) (i k : ℕ) (v text : List ℕ) → (k < i → told v ≡ true) → (k ≡ i → told v ≡ true) → k < i + 1 → (t : Bool) → nat_lt k i ≡ t → told v ≡ true
    by told i k v text old new less true t = old (ltb-true k i t)
    by told i k v text old new less false t = new (omega (arith, less, ltb-false k i t))

pub returns : goal.returns
returns c k v at =
    let rows = c.args.rows.now in
    let within : k < length (texts_of rows) = slice_get_within (texts_of rows) k v at in
    let long : length (texts_of rows) ≡ length rows = length-map rows (λ (r : Row). r.0.items) in
    c.loop-row.invariant k v (omega (arith, within, long, c.loop-row-test.false)) at
