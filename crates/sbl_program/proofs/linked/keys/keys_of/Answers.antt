use Rattle.std.proofs.Common.{◌≡◌, ℕ, ◌+◌, List, Some, length, refl, sym, ap, ◌∙◌, arith}
use mathlib.Core.Path.{subst}
use Rattle.std.specs.Prelude.{slice_get}
use Rattle.std.proofs.lemmas.List.{length-append}
use Rattle.std.proofs.lemmas.Option.{slice_get_read}
use Rattle.sbl_program.specs.Keys.{IsKey}
use Rattle.sbl_program.specs.Linked.{Row, texts_of}
use Rattle.sbl_program.proofs.Keys.{keys_more}
use Rattle.sbl_program.proofs.Sorted.{part_at}
use Rattle.sbl_program.proofs.linked.keys.keys_of.Goals as goal

pub loop-row-preserved : goal.loop-row-preserved
loop-row-preserved c =
    let inv = c.loop-row.invariant in
    let i = c.loop-row.row-index in
    let rows = c.args.rows.now in
    let old = c.loop-row.keys.items in
    let row = c.row-item.result in
    let key = c.key_of.result in
    let at : slice_get (texts_of rows) i ≡ Some row.0.items = part_at (λ (r : Row). r.0.items) rows i row (slice_get_read rows (length rows) i row refl c.loop-row-test.true c.row-item.is) in
    let is : IsKey row.0.items key = subst (λ text. IsKey text key) c.deref.ensures.value c.key_of.ensures in
    let more = c.in_ok-push.ensures.items in (
      ap length more ∙ length-append old _ ∙ ap (λ n. n + 1) inv.0,
      omega (arith, c.loop-row-test.true),
      subst (λ (keys : List ℕ). (k : ℕ) (text : List ℕ) (l : ℕ) → slice_get (texts_of rows) k ≡ Some text → slice_get keys k ≡ Some l → IsKey text l) (sym more) (keys_more (texts_of rows) old i key row.0.items inv.0 at is inv.2),
    )
