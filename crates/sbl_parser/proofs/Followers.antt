-- Steps over tokens from one stack to an end, and what may follow an expression or a row.
use Rattle.std.proofs.Common.{◌≡◌, ℕ, Bool, true, List, [], ◌∷◌, refl, ap, ◌∙◌}
use Rattle.std.specs.Prelude.{if◌then◌else◌, ◌&&◌, not}
use Rattle.sbl_ast.specs.Terminal.{Terminal}
use Rattle.sbl_ast.specs.Terminal as t
use Rattle.sbl_ast.specs.TerminalPlaces.{AtDepth}
use Rattle.sbl_parser.specs.Roles.{role_as}
use Rattle.sbl_parser.specs.Steps.{Symbol, Stack, Step, goes, stuck, unassigned, is_optional, is_done, following, after_sums, after_scales, after_others, after_terms, after_plain, after_item, or_else, step}
use Rattle.sbl_parser.specs.Steps as s
use Rattle.sbl_parser.proofs.TokenStarts.{is_adds, is_joins, is_multiplies}

-- over tokens at their depths, from one stack to an end
abbrev pub Runs : List AtDepth → Stack → (Stack → Type 0) → Type 0
Runs [] k End = End k
Runs (p ∷ ps) k End = (next : Stack) × (step k p.0 ≡ goes p.1 next) × Runs ps next End

abbrev pub IsDone : Stack → Type 0
IsDone k = is_done k ≡ true

abbrev pub Passes : List AtDepth → Stack → Type 0
Passes ps k = Runs ps k IsDone

-- ---- what may follow an expression or a row

abbrev pub no_plus : Terminal → Bool
no_plus x = not (is_adds (role_as x))

abbrev pub no_times : Terminal → Bool
no_times x = not (is_multiplies (role_as x))

abbrev pub no_or : Terminal → Bool
no_or x = not (is_joins (role_as x))

abbrev pub first_is : (Terminal → Bool) → List AtDepth → Bool
first_is f [] = true
first_is f (p ∷ ps) = f p.0

pub record Calm (ps : List AtDepth) : Type 0 where
  pub plus : first_is no_plus ps ≡ true
  pub times : first_is no_times ps ≡ true

-- the first token is no part of what the symbol stands for
abbrev pub Refuses : Symbol → List AtDepth → Stack → Type 0
Refuses s [] k = Unit {0}
Refuses s (p ∷ ps) k = following s p.0 k ≡ stuck

pub skip : (s : Symbol) (ps : List AtDepth) (k : Stack) → is_optional s ≡ true → Refuses s ps k → Passes ps k → Passes ps (s ∷ k)
skip s [] k o r h = ap (λ (b : Bool). b && is_done k) o ∙ h
skip s (p ∷ ps) k o r h = (h.0, ap (λ (b : Step). or_else b (if is_optional s then step k p.0 else stuck)) r ∙ ap (λ (b : Bool). if b then step k p.0 else stuck) o ∙ h.1, h.2)

-- one symbol begins as another that is optional
pub or_other : (b other : Step) (e : ℕ) (n : Stack) → or_else b stuck ≡ goes e n → or_else b other ≡ goes e n
or_other (goes d k) other e n h = h
or_other stuck other e n h = absurd cc
or_other unassigned other e n h = h

pub as_row : (d : ℕ) (ps : List AtDepth) (k : Stack) → Passes ps (s.command d ∷ s.others d ∷ s.rows d ∷ k) → Passes ps (s.rows d ∷ k)
as_row d [] k h = absurd cc
as_row d (p ∷ ps) k h = (h.0, or_other (following (s.command d) p.0 (s.others d ∷ s.rows d ∷ k)) (step k p.0) p.1 h.0 h.1, h.2)

pub as_plains : (ps : List AtDepth) (k : Stack) → Passes ps (s.plain ∷ s.plains ∷ k) → Passes ps (s.plains ∷ k)
as_plains [] k h = absurd cc
as_plains (p ∷ ps) k h = (h.0, or_other (following s.plain p.0 (s.plains ∷ k)) (step k p.0) p.1 h.0 h.1, h.2)

pub as_items : (ps : List AtDepth) (k : Stack) → Passes ps (s.item ∷ s.items ∷ k) → Passes ps (s.items ∷ k)
as_items [] k h = absurd cc
as_items (p ∷ ps) k h = (h.0, or_other (following s.item p.0 (s.items ∷ k)) (step k p.0) p.1 h.0 h.1, h.2)

pub as_item : (ps : List AtDepth) (k : Stack) → Passes ps (s.plain ∷ k) → Passes ps (s.item ∷ k)
as_item [] k h = absurd cc
as_item (p ∷ ps) k h = (h.0, same p.0 p.1 h.0 h.1, h.2) where
  same : (x : Terminal) (e : ℕ) (n : Stack) → or_else (after_plain x k) stuck ≡ goes e n → or_else (after_item x k) stuck ≡ goes e n
  same t.define e z h = h
  same t.string_def e z h = h
  same t.string_escapes e z h = h
  same (t.declares o) e z h = h
  same _ e z h = absurd cc

pub sums_stuck : (d : ℕ) (x : Terminal) (k : Stack) → no_plus x ≡ true → after_sums d x k ≡ stuck
sums_stuck d (t.additive o) k e = absurd cc
sums_stuck d _ k e = refl

pub scales_stuck : (d : ℕ) (x : Terminal) (k : Stack) → no_times x ≡ true → after_scales d x k ≡ stuck
scales_stuck d (t.multiplicative o) k e = absurd cc
scales_stuck d _ k e = refl

pub others_stuck : (d : ℕ) (x : Terminal) (k : Stack) → no_or x ≡ true → after_others d x k ≡ stuck
others_stuck d (t.joiner o) k e = absurd cc
others_stuck d _ k e = refl

pub terms_stuck : (x : Terminal) (k : Stack) → no_plus x ≡ true → after_terms x k ≡ stuck
terms_stuck (t.additive o) k e = absurd cc
terms_stuck _ k e = refl

pub skip_sums : (d : ℕ) (ps : List AtDepth) (k : Stack) → first_is no_plus ps ≡ true → Passes ps k → Passes ps (s.sums d ∷ k)
skip_sums d [] k e h = skip (s.sums d) [] k refl tt h
skip_sums d (p ∷ ps) k e h = skip (s.sums d) (p ∷ ps) k refl (sums_stuck d p.0 k e) h

pub skip_scales : (d : ℕ) (ps : List AtDepth) (k : Stack) → first_is no_times ps ≡ true → Passes ps k → Passes ps (s.scales d ∷ k)
skip_scales d [] k e h = skip (s.scales d) [] k refl tt h
skip_scales d (p ∷ ps) k e h = skip (s.scales d) (p ∷ ps) k refl (scales_stuck d p.0 k e) h

pub skip_others : (d : ℕ) (ps : List AtDepth) (k : Stack) → first_is no_or ps ≡ true → Passes ps k → Passes ps (s.others d ∷ k)
skip_others d [] k e h = skip (s.others d) [] k refl tt h
skip_others d (p ∷ ps) k e h = skip (s.others d) (p ∷ ps) k refl (others_stuck d p.0 k e) h

pub skip_terms : (ps : List AtDepth) (k : Stack) → first_is no_plus ps ≡ true → Passes ps k → Passes ps (s.terms ∷ k)
skip_terms [] k e h = skip s.terms [] k refl tt h
skip_terms (p ∷ ps) k e h = skip s.terms (p ∷ ps) k refl (terms_stuck p.0 k e) h
