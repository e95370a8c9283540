use Rattle.std.proofs.Common.{◌≡◌, ◌∙◌, ◌∷◌, ◌+◌, ◌-◌, ◌<◌, arith, drop, take, map, ℕ, Bool, List, length, suc, true, sym, ap}
use Rattle.std.proofs.Math.Seq.{drop-cons}
use Rattle.std.specs.Prelude.{slice_index_or}
use Rattle.std.proofs.lemmas.List.{length-drop, take_all}
use Rattle.sbl_ast.specs.View.{view_argument, view_term}
use Rattle.sbl_ast.specs.declared.tree.Term.{Term}
use Rattle.sbl_program.specs.CharacterClasses.{members}
use Rattle.sbl_program.specs.declared.character_class.CharacterClass.{CharacterClass}
use Rattle.sbl_compiler.specs.NamedAgain.{is_named_again}
use Rattle.sbl_compiler.specs.NumberedClasses.{with_terms}
use Rattle.sbl_compiler.specs.NumberedView.{view_names}
use Rattle.sbl_compiler.proofs.Again.{passed_over}
use Rattle.sbl_compiler.proofs.classes.class_of.Goals as goal
use Rattle.sbl_compiler.proofs.classes.class_of.Goals.{then-not-is_named_again+in_ok-class-2, else-not-is_named_again}

pub loop-place-preserved : goal.loop-place-preserved
loop-place-preserved c =
    let ns = view_names c.args.names.now in
    let ks = map members c.args.classes.now in
    let ts = c.args.others.now.items in
    let i = c.loop-place.place in
    let t = c.term-item.result in
    let seen = c.deref-term-items.ensures.value in
    let below : i < length ts = omega (arith, c.loop-place-test.true, ap length seen) in
    let here : t ≡ slice_index_or ts i t = c.term-item.is ∙ ap (λ (xs : List Term). slice_index_or xs i t) seen in
    let next : suc i ≡ i + 1 = omega arith in
    let prefix : drop i ts ≡ t ∷ drop (i + 1) ts =
    drop-cons ts i t below ∙ ap (λ (x : Term). x ∷ drop (suc i) ts) (sym here) ∙ ap (λ (k : ℕ). t ∷ drop k ts) next in
    let before : with_terms ns ks (map view_term (t ∷ drop (i + 1) ts)) (members c.loop-place.class) ≡ with_terms ns ks (map view_term ts) (members c.in_ok-class.class) =
    ap (λ (xs : List Term). with_terms ns ks (map view_term xs) (members c.loop-place.class)) (sym prefix) ∙ c.loop-place.invariant in
    elim c.if-not-is_named_again.branch [
      | then-not-is_named_again+in_ok-class-2 w ↦
          ap (λ (class : ℕ → Bool). with_terms ns ks (map view_term (drop (i + 1) ts)) class) (ap members w.class-is ∙ w.in_ok-class-2.ensures) ∙ before
      | else-not-is_named_again w ↦
          let rest = drop (i + 1) ts in
          let all : take (length c.deref.result.now - (i + 1)) (drop (i + 1) c.deref.result.now) ≡ rest =
          take_all (length c.deref.result.now - (i + 1)) (drop (i + 1) c.deref.result.now) (omega (arith, length-drop (i + 1) c.deref.result.now))
          ∙ ap (λ (xs : List Term). drop (i + 1) xs) c.deref.ensures.value in
          let again : is_named_again ns (view_argument t.argument) (map view_term rest) ≡ true =
          ap (λ (xs : List Term). is_named_again ns (view_argument t.argument) (map view_term xs)) (sym all) ∙ c.is_named_again.ensures w.if-not-is_named_again.false in
          ap (λ (class : CharacterClass). with_terms ns ks (map view_term rest) (members class)) w.class-is
          ∙ passed_over ns ks t.operator (view_argument t.argument) (map view_term rest) (members c.loop-place.class) again
          ∙ before
    ]
