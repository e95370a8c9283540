use Rattle.std.proofs.Common.{rules, ◌≡◌, ◌∷◌, Bool, Some, None, codes, subst, sym}
use Rattle.sbl_source_map.specs.HeadReader.{IsAfterWord, IsEndOf, as_words, head_words}
use Rattle.std.specs.Str.{chars}
use Rattle.sbl_source_map.proofs.HeadFacts.{if_ok, one_none, three, two, two_none}
use Rattle.sbl_source_map.proofs.definitions.end_of_head.Goals as goal

pub returns-in_default : goal.returns-in_default
returns-in_default c =
    let none : c.in_ok-after_word.field-0 ≡ None = search rules in
    one_none (chars c.args.text.now) c.new-lexer.result c.after_word.new.lexer (codes "define") (c.args.name.now ∷ as_words c.args.is_routine) c.new-lexer.ensures
    (subst (IsAfterWord c.new-lexer.result c.after_word.new.lexer (codes "define")) none c.in_ok-after_word.ensures)

pub returns-in_default-2 : goal.returns-in_default-2
returns-in_default-2 c =
    let first : c.in_ok-after_word.field-0 ≡ Some c.in-Some.field-0 = search rules in
    let none : c.in_ok-end.field-0 ≡ None = search rules in
    two_none (chars c.args.text.now) c.new-lexer.result c.after_word.new.lexer c.after_word-2.new.lexer (codes "define") c.args.name.now c.in-Some.field-0 (as_words c.args.is_routine) c.new-lexer.ensures
    (subst (IsAfterWord c.new-lexer.result c.after_word.new.lexer (codes "define")) first c.in_ok-after_word.ensures)
    (subst (IsAfterWord c.after_word.new.lexer c.after_word-2.new.lexer c.args.name.now) none c.in_ok-end.ensures)

pub returns-then-is_routine : goal.returns-then-is_routine
returns-then-is_routine c =
    let first : c.in_ok-after_word.field-0 ≡ Some c.in-Some.field-0 = search rules in
    let second : c.in_ok-end.field-0 ≡ Some c.in-Some-2.end = search rules in
    if_ok {P = IsAfterWord c.after_word-2.new.lexer c.after_word-then-is_routine.new.lexer (codes "as")} {Q = IsEndOf (head_words c.args.name.now c.args.is_routine) c.args.text.now}
    c.after_word-then-is_routine.result c.after_word-then-is_routine.ensures
    (λ o so. subst (λ (b : Bool). IsEndOf (head_words c.args.name.now b) c.args.text.now o) (sym c.if-is_routine.true)
    (three c.args.text.now c.new-lexer.result c.after_word.new.lexer c.after_word-2.new.lexer c.after_word-then-is_routine.new.lexer (codes "define") c.args.name.now (codes "as")
    c.in-Some.field-0 c.in-Some-2.end o c.new-lexer.ensures
    (subst (IsAfterWord c.new-lexer.result c.after_word.new.lexer (codes "define")) first c.in_ok-after_word.ensures)
    (subst (IsAfterWord c.after_word.new.lexer c.after_word-2.new.lexer c.args.name.now) second c.in_ok-end.ensures) so))

pub returns : goal.returns
returns c =
    let first : c.in_ok-after_word.field-0 ≡ Some c.in-Some.field-0 = search rules in
    let second : c.in_ok-end.field-0 ≡ Some c.in-Some-2.end = search rules in
    subst (λ (b : Bool). IsEndOf (head_words c.args.name.now b) c.args.text.now (Some c.in-Some-2.end)) (sym c.if-is_routine.false)
    (two c.args.text.now c.new-lexer.result c.after_word.new.lexer c.after_word-2.new.lexer (codes "define") c.args.name.now c.in-Some.field-0 (Some c.in-Some-2.end) c.new-lexer.ensures
    (subst (IsAfterWord c.new-lexer.result c.after_word.new.lexer (codes "define")) first c.in_ok-after_word.ensures)
    (subst (IsAfterWord c.after_word.new.lexer c.after_word-2.new.lexer c.args.name.now) second c.in_ok-end.ensures))
