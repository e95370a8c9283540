use Rattle.std.proofs.Common.{rules, arith, ◌≡◌, ◌<◌, ◌≤◌, Some, get_or, refl, map, length, true, false, sym, ap, ◌∙◌}
use Rattle.std.specs.Prelude.{slice_get}
use Rattle.std.specs.Option.{unwrap_or}
use Rattle.std.proofs.lemmas.Option.{slice_get_read, slice_get_past}
use Rattle.sbl_program.specs.CharacterClasses.{members}
use Rattle.sbl_program.specs.Terms.{class_at, no_character}
use Rattle.sbl_semantics.specs.Fitting.{read_as}
use Rattle.sbl_run_state.specs.Seeking.{count_before}
use Rattle.sbl_run_state.proofs.Seeking.{class_of, no_class, none_met, first_met, place_or_length, read_length}
use Rattle.sbl_run_state.proofs.state.seeking.count_before.Goals as goal

pub returns-in-Some : goal.returns-in-Some
returns-in-Some c =
    let m = c.args.mode in
    let part = c.args.part.now in
    let class = c.in-Some.class.now in
    let classes = c.args.classes.now in
    let l : c.args.number < length classes = search rules in
    let r : class ≡ get_or classes c.args.number class = search rules in
    let is : slice_get classes c.args.number ≡ Some class = slice_get_read classes (length classes) c.args.number class refl l r in
    c.unwrap_or.ensures
    ∙ ap (λ o. unwrap_or o (length part)) c.first_met.ensures
    ∙ place_or_length m c.args.wanted (members class) part
    ∙ ap (λ class. count_before c.args.wanted class (read_as m part)) (class_of members c.args.classes.now c.args.number class is)

pub returns-then-wanted : goal.returns-then-wanted
returns-then-wanted c =
    let past : length c.args.classes.now ≤ c.args.number = first_of (search rules, omega (arith, c.in-None.ensures.lookup)) in
    let m = c.args.mode in
    let part = c.args.part.now in
    sym (read_length m part)
    ∙ sym (none_met (read_as m part))
    ∙ ap (λ class. count_before true class (read_as m part)) (sym (no_class members c.args.classes.now c.args.number (slice_get_past c.args.classes.now c.args.number past)))
    ∙ ap (λ b. count_before b (class_at (map members c.args.classes.now) c.args.number) (read_as m part)) (sym c.if-wanted.true)

pub returns-else-wanted : goal.returns-else-wanted
returns-else-wanted c =
    let past : length c.args.classes.now ≤ c.args.number = first_of (search rules, omega (arith, c.in-None.ensures.lookup)) in
    let m = c.args.mode in
    let part = c.args.part.now in
    sym (first_met (read_as m part))
    ∙ ap (λ class. count_before false class (read_as m part)) (sym (no_class members c.args.classes.now c.args.number (slice_get_past c.args.classes.now c.args.number past)))
    ∙ ap (λ b. count_before b (class_at (map members c.args.classes.now) c.args.number) (read_as m part)) (sym c.if-wanted.false)
