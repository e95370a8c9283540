-- What each edit of the setting brings: which words it has to run, and that each other word runs as before.
use Rattle.std.proofs.Common.{◌≡◌, ◌∙◌, ◌||◌, ◌&&◌, ◌≤◌, inr, min, ℕ, Bool, true, false, nat_le, nat_lt, List, [], ◌∷◌, map, Option, Some, None, refl, sym, ap, subst, arith}
use Rattle.std.specs.Prelude.{if◌then◌else◌}
use Rattle.std.specs.List.{list_all, list_any}
use Rattle.std.proofs.Math.Path.{fun_ext}
use Rattle.std.proofs.lemmas.Bool.{true≢false}
use Rattle.std.proofs.lemmas.Bool.Decides.{nat_tests}
use Rattle.sbl_resolver.specs.Checks.{WellDeclared}
use Rattle.sbl_ast.specs.Source.{Source}
use Rattle.sbl_script.specs.Reading.{IsScriptOf}
use Rattle.sbl_semantics.specs.declared.touch.Touch.{Touch}
use Rattle.sbl_machine.specs.BuiltFrom.{affected_by, meets_one}
use Rattle.sbl_semantics.specs.Differs.{differs}
use Rattle.sbl_machine.specs.EnoughSteps.{UsedStepsSuffice, UsedStepsTouch}
use Rattle.sbl_machine.specs.DifferLaws.{DifferingStay, OneMeets}
use Rattle.sbl_machine.specs.Frame.{StaysAsItWas, UntouchedStay}
use Rattle.sbl_machine.specs.Marks.{AreMarksOf, EditedAreThere, has_item}
use Rattle.sbl_semantics.specs.Outcome.{touches_of, used_of}
use Rattle.sbl_semantics.specs.TouchedItems.{item_of_touch, names_of}
use Rattle.sbl_ast.specs.NamedParts.{Part'}
use Rattle.sbl_bench.specs.inside.AffectedWords.{AffectedWords, AreMet, Touching, Above, smaller}
use Rattle.sbl_bench.specs.inside.Changes.{Brings, IsExchange, IsTaken}
use Rattle.sbl_bench.specs.Contents.{Contents}
use Rattle.sbl_bench.specs.Edits.{Edit, Replace, Limit, Whole, is_limit}
use Rattle.sbl_bench.specs.inside.ProofNames.{meets_listed}
use Rattle.sbl_rows.specs.Setting.{under}
use Rattle.sbl_rows.specs.inside.SameRuns.{RunsSame}

-- ---- items

any_mapped : {A B : Type 0} (f : A → B) (test : B → Bool) (xs : List A) → list_any test (map f xs) ≡ list_any (λ x. test (f x)) xs
any_mapped f test [] = refl
any_mapped f test (x ∷ xs) = ap (λ (b : Bool). test (f x) || b) (any_mapped f test xs)

-- a run meets one of these items if it touches one of their marks
pub met_by_marks : (s : Source) (xs : List Part') (marks : List Touch) → AreMarksOf s xs marks → AreMet s (Some xs) (Touching marks)
unfolding meets_one
met_by_marks s xs marks are limit w =
    any_mapped (item_of_touch (names_of s)) (affected_by s xs) (touches_of s w limit)
    ∙ ap (λ (test : Touch → Bool). list_any test (touches_of s w limit)) (fun_ext (λ t. sym (are t)))

stays_same : (s t : Source) (w : List ℕ) (limit : ℕ) → StaysAsItWas s t w limit → RunsSame (under s limit) (under t limit) w
stays_same s t w limit h = record { outcome = h.alike.outcome; touches = h.touches; used = h.alike.used }

pub taken_brings : UntouchedStay → OneMeets → (s : Contents) (e : Part') (text : List ℕ) (t : Source) (x : Part') → IsTaken s e text t x → WellDeclared s.setting.script.items s.setting.script.external
    → (a : AffectedWords) → AreMet s.setting.script (Some (e ∷ [])) a → Brings s (Replace e text) (under t s.setting.limit) a
taken_brings law alone s e text t x is well a met =
    let p = s.setting.script in
    let l = s.setting.limit in
    record {
      after = (is.edited, refl);
      passes = is.passes;
      wants = λ word same. cc same;
      words = refl;
      met_is = λ w. met l w;
      stays = λ w h. stays_same p t w l (law p t e text well is.edited w l (sym (alone e p w l) ∙ met l w ∙ h));
    }

-- the same by the words that are affected by a list of this item alone
pub edited_brings : UntouchedStay → OneMeets → EditedAreThere → (s : Contents) (e : Part') (text : List ℕ) (t : Source) (x : Part') → IsTaken s e text t x → WellDeclared s.setting.script.items s.setting.script.external
    → (xs : List Part') → xs ≡ x ∷ [] → (a : AffectedWords) → (list_all (has_item (names_of s.setting.script)) xs ≡ true → AreMet s.setting.script (Some xs) a)
    → Brings s (Replace e text) (under t s.setting.limit) a
edited_brings law one there s e text t x is well xs alone a met =
    let p = s.setting.script in
    let same : xs ≡ e ∷ [] = alone ∙ ap (λ (y : Part'). y ∷ []) is.replaces in
    let all : list_all (has_item (names_of p)) (e ∷ []) ≡ true = ap (λ (b : Bool). b && true) (there p t e text is.edited) in
    let known : list_all (has_item (names_of p)) xs ≡ true = subst (λ (ys : List Part'). list_all (has_item (names_of p)) ys ≡ true) (sym same) all in
    taken_brings law one s e text t x is well a (subst (λ (ys : List Part'). AreMet p (Some ys) a) same (met known))

-- ---- whole scripts

exchanged_stay : DifferingStay → (s t : Source) (limit : ℕ) → WellDeclared s.items s.external → (xs : Option (List Part')) → differs s t ≡ xs → (w : List ℕ)
    → meets_listed xs s w limit ≡ false → RunsSame (under s limit) (under t limit) w
exchanged_stay law s t limit well None is w h = absurd (true≢false h)
exchanged_stay law s t limit well (Some xs) is w h = stays_same s t w limit (law s t xs well is w limit h)

pub exchange_brings : DifferingStay → (s : Contents) (e : Edit) (t : Source) → IsExchange s e t → WellDeclared s.setting.script.items s.setting.script.external
    → (a : AffectedWords) → AreMet s.setting.script (differs s.setting.script t) a → Brings s e (under t s.setting.limit) a
exchange_brings law s e t is well a met =
    let p = s.setting.script in
    let l = s.setting.limit in
    record {
      after = is.after;
      passes = is.passes;
      wants = is.wants;
      words = is.words;
      met_is = λ w. is.met_is w ∙ met l w;
      stays = λ w h. exchanged_stay law p t l well (differs p t) refl w (met l w ∙ h);
    }

pub whole_exchange : (s : Contents) (bytes : List ℕ) (t : Source) → IsScriptOf bytes s.setting.script.external t → IsExchange s (Whole bytes) t
whole_exchange s bytes t read = record { after = (read, refl); passes = λ f refused. inr (refused.0, refused.2); wants = λ word same. cc same; words = refl; met_is = λ w. refl }

-- ---- limits

min_is : (m n : ℕ) → min m n ≡ smaller m n
min_is m n = by (nat_le m n) refl
  where
    by : (b : Bool) → nat_le m n ≡ b → min m n ≡ (if b then m else n)
    by true k = let below : m ≤ n = grind (arith, nat_tests, k) in omega (arith, below)
    by false k = let above : n ≤ m = grind (arith, nat_tests, k) in omega (arith, above)

least : (m n u : ℕ) → nat_lt (smaller m n) u ≡ false → (u ≤ m) × (u ≤ n)
least m n u h = by (nat_le m n) refl h
  where
    by : (b : Bool) → nat_le m n ≡ b → nat_lt (if b then m else n) u ≡ false → (u ≤ m) × (u ≤ n)
    by true k g = (grind (arith, nat_tests, g), grind (arith, nat_tests, g, k))
    by false k g = (grind (arith, nat_tests, g, k), grind (arith, nat_tests, g))

pub limit_brings : UsedStepsSuffice → UsedStepsTouch → (s : Contents) (n : ℕ) → is_limit n ≡ true
    → Brings s (Limit n) (under s.setting.script n) (Above (smaller s.setting.limit n))
limit_brings suffice touch s n ok = record {
  after = (ok, refl, refl);
  passes = λ f refused. absurd (true≢false (sym ok ∙ refused.0));
  wants = λ word same. cc same;
  words = refl;
  met_is = λ w. ap (λ (k : ℕ). nat_lt k (used_of s.setting.script w s.setting.limit)) (min_is s.setting.limit n);
  stays = λ w h.
      let enough = least s.setting.limit n (used_of s.setting.script w s.setting.limit) h in
      let same = suffice s.setting.script w s.setting.limit n enough.0 enough.1 in
      record { outcome = same.0; touches = touch s.setting.script w s.setting.limit n enough.0 enough.1; used = same.1 };
}
