use Rattle.std.proofs.Common.{rules, ap, sym, arith, length, vec_len, true, false, ◌≡◌, ◌≢◌, [], ◌∙◌}
use Rattle.std.specs.Str.Lines.{strip_carriage_return}
use Rattle.sbl_io.specs.HeldInput.{input_of, line_of, GivesLine}
use Rattle.sbl_io.specs.declared.lines.LineEnd.TheVariants.{Input, Beyond}
use Rattle.sbl_io.proofs.Bytes.{begins_long, gives_line, gives_long, takes_whole}
use Rattle.sbl_io.proofs.lines.Lines.take_whole.Goals as goal
use Rattle.sbl_io.proofs.lines.Lines.take_whole.Goals.{else-eq-via-then-eq+else-is_empty, else-eq-via-else-eq}

pub returns-clause-more : goal.returns-clause-more
returns-clause-more g c = λ _.
    let within : c.in_ok-end.end ≢ Beyond = search rules in
    let some : c.in_ok-end.end ≡ Input → line_of c.take_line.new.self ≢ [] = elim c.else-eq.branch [
      | else-eq-via-then-eq+else-is_empty w ↦ λ _ empty. let none : vec_len c.take_line.new.self.line ≡ 0 = (search rules) ∙ ap length empty in grind (arith, none, w.is_empty.ensures, w.if-is_empty.false)
      | else-eq-via-else-eq w ↦ let other : c.in_ok-end.end ≢ Input = search rules in λ is _. absurd (other is)
    ] in
    rw c.chomp.ensures.items (gives_line _ _ (line_of c.take_line.new.self) c.in_ok-end.end c.in_ok-end.ensures.takes c.in_ok-end.ensures.no_feed within some)

pub returns-then-eq-2-clause-long : goal.returns-then-eq-2-clause-long
returns-then-eq-2-clause-long g c = λ _.
    let beyond : c.in_ok-end.end ≡ Beyond = search rules in
    begins_long _ _ (line_of c.take_line.new.self) (rw beyond at c.in_ok-end.ensures.takes) c.in_ok-end.ensures.no_feed

pub returns-then-len-gt-MAX_LINE-clause-long : goal.returns-then-len-gt-MAX_LINE-clause-long
returns-then-len-gt-MAX_LINE-clause-long g c = λ _.
    let within : c.in_ok-end.end ≢ Beyond = search rules in
    let some : c.in_ok-end.end ≡ Input → line_of c.take_line.new.self ≢ [] = elim c.else-eq.branch [
      | else-eq-via-then-eq+else-is_empty w ↦ λ _ empty. let none : vec_len c.take_line.new.self.line ≡ 0 = (search rules) ∙ ap length empty in grind (arith, none, w.is_empty.ensures, w.if-is_empty.false)
      | else-eq-via-else-eq w ↦ let other : c.in_ok-end.end ≢ Input = search rules in λ is _. absurd (other is)
    ] in
    let gives : GivesLine (input_of g.R.Source.left c.args.self.now) (input_of g.R.Source.left c.take_line.new.self) (strip_carriage_return (line_of c.take_line.new.self)) =
    gives_line _ _ (line_of c.take_line.new.self) c.in_ok-end.end c.in_ok-end.ensures.takes c.in_ok-end.ensures.no_feed within some in
    gives_long _ _ _ gives (rw (← c.chomp.ensures.items) (search rules))

pub returns-clause-feeds : goal.returns-clause-feeds
returns-clause-feeds g c = λ _ untold.
    let within : c.in_ok-end.end ≢ Beyond = search rules in
    let fed : c.in_ok-end.end ≢ Input = λ is. let told : true ≡ false = sym (c.in_ok-end.ensures.told is) ∙ untold in cc told in
    takes_whole _ _ (line_of c.take_line.new.self) c.in_ok-end.end c.in_ok-end.ensures.takes within fed
