use Rattle.std.proofs.Common.{rules, arith, ◌≡◌, ◌∙◌, ◌<◌, ◌+◌, ◌∷◌, ℕ, List, length, take, drop, sym, ap, subst}
use Rattle.std.proofs.lemmas.List.{take_all}
use Rattle.std.specs.Str.Lines.{strip_carriage_return}
use Rattle.sbl_io.specs.inside.LineSteps.{NoFeed}
use Rattle.sbl_io.specs.LinesOf.{lines_of}
use Rattle.sbl_io.proofs.TextFacts.{empty_text, lines_at_end, lines_at_feed, no_rest, no_text, rest_of}
use Rattle.sbl_io.proofs.text_lines.first_line.Goals as goal

pub returns-then-is_empty-clause-lines : goal.returns-then-is_empty-clause-lines
returns-then-is_empty-clause-lines c = let none : length c.args.text.now ≡ 0 = search rules in empty_text c.args.text.now none

pub returns-then-end-text-clause-lines : goal.returns-then-end-text-clause-lines
returns-then-end-text-clause-lines c =
    let text = c.args.text.now in
    let end = c.first_feed-end.result in
    let all : take end text ≡ text = take_all end text (omega arith) in
    let some : 0 < length text = search rules in
    let line : c.without_return-line.result.now ≡ strip_carriage_return text = c.without_return-line.ensures ∙ ap strip_carriage_return all in
    rw (no_rest end text c.if-end-text.true, no_text, line) (lines_at_end text some (subst NoFeed all c.first_feed-end.ensures.free))

pub returns-clause-lines : goal.returns-clause-lines
returns-clause-lines c =
    let text = c.args.text.now in
    let end = c.first_feed-end.result in
    let inside : end < length text = omega arith in
    rw (rest_of (end + 1) text) (lines_at_feed text end inside c.first_feed-end.ensures.free (c.first_feed-end.ensures.feed inside)
    ∙ ap (λ (l : List ℕ). l ∷ lines_of (drop (end + 1) text)) (sym c.without_return-line.ensures))
