use Rattle.std.proofs.Common.{◌≡◌, ◌∙◌, ◌+◌, Bool, List, ℕ, [], ap, drop, subst, sym, true}
use Rattle.std.proofs.Math.ListN.{drop_of_length-le}
use Rattle.std.specs.Borrow.{Bor}
use Rattle.std.specs.List.{flat_map}
use Rattle.std.specs.Prelude.{if◌then◌else◌}
use Rattle.sbl_machine.specs.ItemRefs.{item_of_ref}
use Rattle.sbl_io.specs.Records.{records_text}
use Rattle.sbl_io.specs.Reports.{TakesMore}
use Rattle.sbl_io.proofs.Taking.{leaves-all, leaves-less, leaves-none}
use Rattle.sbl_uses.specs.Unused as spec
use Rattle.sbl_uses.specs.UnusedViews.{texts_of}
use Rattle.sbl_uses.proofs.UnusedLines.{text_of_more}
use Rattle.sbl_uses.proofs.Loops.{at_index}
use Rattle.sbl_uses.proofs.unused.Used.push_part.Goals as goal

pub loop-string-init : goal.loop-string-init
loop-string-init g c = λ s words is. leaves-all g.T.Report.has_taken c.args.out.now _

pub loop-string-preserved : goal.loop-string-preserved
loop-string-preserved g c = λ s words is.
    let strings = c.args.strings.now in
    let i = c.loop-string.string-index in
    let rows = λ (q : List ℕ). spec.string_rows s words (item_of_ref c.args.item.now, q) in
    leaves-less g.T.Report.has_taken c.args.out.now c.loop-string.out c.push_untaken.new.out _
    (records_text (flat_map rows (texts_of (drop (i + 1) strings)))) (records_text (flat_map rows (texts_of (drop i strings)))) _
    (text_of_more rows _ (texts_of (drop i strings)) (texts_of (drop (i + 1) strings)) (at_index (λ (t : Bor (List ℕ)). t.now) strings i _ c.loop-string-test.true))
    (c.loop-string.invariant s words is) (c.in_ok-push_untaken.ensures s words is)

pub returns : goal.returns
returns g c = λ s words is.
    let x = item_of_ref c.args.item.now in
    let is_met : spec.is_met s words x ≡ true = sym (is.0 x) ∙ sym c.has_item.ensures ∙ c.if-not-has_item.false in
    let rows = λ (q : List ℕ). spec.string_rows s words (x, q) in
    subst (λ (b : Bool). TakesMore g.T.Report.has_taken c.args.out.now c.loop-string.out (records_text (if b then flat_map rows (texts_of c.args.strings.now) else []))) (sym is_met)
    (leaves-none g.T.Report.has_taken c.args.out.now c.loop-string.out _ _
    (ap (λ (l : List (Bor (List ℕ))). records_text (flat_map rows (texts_of l))) (drop_of_length-le c.args.strings.now c.loop-string-test.false))
    (c.loop-string.invariant s words is))
