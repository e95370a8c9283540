use Rattle.std.proofs.Common.{refl, ap, ◌≡◌, ◌≢◌, ◌∙◌, ◌++◌, [], ◌∷◌, arith, rules, inl, inr, map, sym, subst, List, ℕ, true}
use Rattle.std.specs.Str.{chars, is_utf8}
use Rattle.std.proofs.lemmas.Result.{err_from_is_err_and}
use Rattle.sbl_reports.specs.Block.{point}
use Rattle.sbl_input.specs.WordLists.{HoldsWords}
use Rattle.sbl_io.specs.HeldInput.{input_of, line_of, GivesLine}
use Rattle.sbl_reports.proofs.BlockFacts.{all_fit-push, no_point-push}
use Rattle.sbl_io.proofs.Bytes.{took-kept, took-none, took-trans}
use Rattle.sbl_input.proofs.LoadFacts.{IsUnreadWord, all_text-push, chars-push, word_unread, words_stopped}
use Rattle.sbl_input.proofs.loading.read_words.Goals as goal

pub loop-words-init : goal.loop-words-init
loop-words-init g c =
    ([], tt, tt, took-none _, c.new-words.ensures, refl, omega arith, tt, refl, (λ timely. timely), refl)

pub returns-in_err-word-clause-reads : goal.returns-in_err-word-clause-reads
returns-in_err-word-clause-reads g c = λ _.
    let left = g.R.Source.left in
    let so = c.loop-words.invariant in
    let line = line_of c.next_line.new.self in
    let other : line ≢ point = search rules in
    let same : c.line-in-loop-words.result.now ≡ line = c.line-in-loop-words.ensures in
    let took = took-trans _ (input_of left c.loop-words.lines) _ so.0 (line ∷ []) so.3 (c.in_ok-next_line.ensures.more c.if-branch.true) in
    let none = subst (λ (x : List ℕ). IsUnreadWord x c.in_err-word.field-0.0) same c.in_err-word.ensures.none in
    let p = err_from_is_err_and c.from_residual-in_err-word.result c.from_residual-in_err-word.ensures.1 in
    rw (p.1, p.2) (word_unread (input_of left c.args.lines.now) _ so.0 line c.in_err-word.field-0.0 so.1 so.7 so.2 other (c.in_ok-next_line.ensures.fits c.if-branch.true) took none)

pub returns-in_err-push-clause-reads : goal.returns-in_err-push-clause-reads
returns-in_err-push-clause-reads g c = λ _.
    let so = c.loop-words.invariant in
    let line = line_of c.next_line.new.self in
    let other : line ≢ point = search rules in
    let took = took-trans _ (input_of g.R.Source.left c.loop-words.lines) _ so.0 (line ∷ []) so.3 (c.in_ok-next_line.ensures.more c.if-branch.true) in
    let p = err_from_is_err_and c.from_residual-in_err-push.result c.from_residual-in_err-push.ensures.1 in
    rw (p.1, p.2) (words_stopped (input_of g.R.Source.left c.args.lines.now) _ so.0 line so.1 so.7 other (c.in_ok-next_line.ensures.fits c.if-branch.true) took)

pub returns-then-eq-clause-reads : goal.returns-then-eq-clause-reads
returns-then-eq-clause-reads g c = λ _.
    let left = g.R.Source.left in
    let so = c.loop-words.invariant in
    let line : line_of c.next_line.new.self ≡ point = search rules in
    let gives : GivesLine (input_of left c.loop-words.lines) (input_of left c.next_line.new.self) point =
    subst (λ (x : List ℕ). GivesLine (input_of left c.loop-words.lines) (input_of left c.next_line.new.self) x) line (c.in_ok-next_line.ensures.more c.if-branch.true) in
    (so.0, (((so.1, so.7), so.2), inl (took-trans _ (input_of left c.loop-words.lines) _ so.0 (point ∷ []) so.3 gives)), so.4)

pub loop-words-preserved : goal.loop-words-preserved
loop-words-preserved g c =
    let left = g.R.Source.left in
    let so = c.loop-words.invariant in
    let line = line_of c.next_line.new.self in
    let other : line ≢ point = search rules in
    let same : c.line-in-loop-words.result.now ≡ line = c.line-in-loop-words.ensures in
    let text : is_utf8 line ≡ true = subst (λ (x : List ℕ). is_utf8 x ≡ true) same c.in_ok-word.ensures.text.0 in
    let words : HoldsWords c.push.new.self (map chars (so.0 ++ line ∷ [])) =
    subst (λ (ws : List (List ℕ)). HoldsWords c.push.new.self ws) (sym (chars-push so.0 line c.in_ok-word.word.items (c.in_ok-word.ensures.text.1 ∙ ap chars same)))
    (c.in_ok-push.ensures (map chars so.0) so.4) in (
      so.0 ++ line ∷ [],
      no_point-push so.0 line so.1 other,
      all_text-push so.0 line so.2 text,
      took-trans _ (input_of left c.loop-words.lines) _ so.0 (line ∷ []) so.3 (c.in_ok-next_line.ensures.more c.if-branch.true),
      words,
      c.in_ok-next_line.ensures.ready.1 ∙ sym c.in_ok-next_line.ensures.ready.0 ∙ so.5,
      omega (arith, so.6, c.next_line.ensures.later),
      all_fit-push so.0 line so.7 (c.in_ok-next_line.ensures.fits c.if-branch.true),
      c.next_line.ensures.bound ∙ so.8,
      (λ timely. c.next_line.ensures.in_time (so.9 timely)),
      c.in_ok-next_line.ensures.steady ∙ so.10,
    )

pub returns-clause-reads : goal.returns-clause-reads
returns-clause-reads g c = λ _.
    let so = c.loop-words.invariant in
    let end = c.in_ok-next_line.ensures.end c.if-branch.false in
    (so.0, (((so.1, so.7), so.2), inr (took-kept _ (input_of g.R.Source.left c.loop-words.lines) _ so.0 so.3 end.2, end.1)), so.4)

pub returns-then-eq-clause-steady : goal.returns-then-eq-clause-steady
returns-then-eq-clause-steady g c = c.in_ok-next_line.ensures.steady ∙ c.loop-words.invariant.10

pub returns-clause-steady : goal.returns-clause-steady
returns-clause-steady g c = c.in_ok-next_line.ensures.steady ∙ c.loop-words.invariant.10

pub returns-then-eq-clause-held : goal.returns-then-eq-clause-held
returns-then-eq-clause-held g c = (map chars c.loop-words.invariant.0, c.loop-words.invariant.4)

pub returns-clause-held : goal.returns-clause-held
returns-clause-held g c = (map chars c.loop-words.invariant.0, c.loop-words.invariant.4)
