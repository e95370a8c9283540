-- Where an operator is wanted, and only there, the tokens end with `$` and a name.
use Rattle.std.proofs.Common.{◌≡◌, ℕ, Bool, true, false, List, [], ◌∷◌, ◌++◌, refl, sym, ap, subst, ◌∙◌, ◌⊎◌, inl, inr}
use Rattle.std.specs.Prelude.{if◌then◌else◌, ◌&&◌}
use Rattle.sbl_ast.specs.declared.tree.Additive.TheVariants as additives
use Rattle.sbl_ast.specs.Terminal.{Terminal}
use Rattle.sbl_ast.specs.Terminal as t
use Rattle.sbl_ast.specs.TerminalPlaces.{AtDepth, tokens}
use Rattle.sbl_parser.specs.Steps.{Symbol, Stack, Step, goes, stuck, unassigned, is_optional, following, after_opening, after_closing, after_name, after_argument, after_for, after_excluded, after_comparison, after_factor, after_scales, after_sums, after_command, after_among, after_others, after_starter, after_groups, after_entries, after_inserts, after_macro, after_base, after_literal, after_definition, after_terms, after_names, after_plain, after_item, or_else, step}
use Rattle.sbl_parser.specs.Steps as s
use Rattle.sbl_ast.specs.Texts.{Text}
use Rattle.sbl_parser.specs.FirstStack.{first_stack}
use Rattle.sbl_ast.specs.Texts as texts
use Rattle.sbl_parser.proofs.Followers.{Runs}

-- what stands at the top alone
abbrev is_clear : Symbol → Bool
is_clear (s.subject d) = false
is_clear (s.operator d) = false
is_clear _ = true

abbrev clear : Stack → Bool
clear [] = true
clear (y ∷ k) = is_clear y && clear k

-- a step from a stack that is clear
abbrev Kept : Terminal → Step → Type 0
Kept x (goes d next) = (clear next ≡ true) ⊎ ((e : ℕ) × (rest : Stack) × (x ≡ t.dollar) × (next ≡ s.subject e ∷ rest) × (clear rest ≡ true))
Kept x stuck = Unit {0}
Kept x unassigned = ⊥

opening_kept : (d : ℕ) (x : Terminal) (k : Stack) → clear k ≡ true → Kept x (after_opening d x k)
opening_kept d t.open_ k h = inl h
opening_kept d _ k h = tt

closing_kept : (d : ℕ) (x : Terminal) (k : Stack) → clear k ≡ true → Kept x (after_closing d x k)
closing_kept d t.close_ k h = inl h
closing_kept d _ k h = tt

name_kept : (d : ℕ) (x : Terminal) (k : Stack) → clear k ≡ true → Kept x (after_name d x k)
name_kept d (t.name n) k h = inl h
name_kept d _ k h = tt

argument_kept : (d : ℕ) (x : Terminal) (k : Stack) → clear k ≡ true → Kept x (after_argument d x k)
argument_kept d (t.literal q) k h = inl h
argument_kept d (t.name n) k h = inl h
argument_kept d _ k h = tt

for_kept : (d : ℕ) (x : Terminal) (k : Stack) → clear k ≡ true → Kept x (after_for d x k)
for_kept d t.for_ k h = inl h
for_kept d _ k h = tt

excluded_kept : (d : ℕ) (x : Terminal) (k : Stack) → clear k ≡ true → Kept x (after_excluded d x k)
excluded_kept d (t.additive additives.Minus) k h = inl h
excluded_kept d (t.name n) k h = inl h
excluded_kept d _ k h = tt

comparison_kept : (d : ℕ) (x : Terminal) (k : Stack) → clear k ≡ true → Kept x (after_comparison d x k)
comparison_kept d (t.compares o) k h = inl h
comparison_kept d _ k h = tt

factor_kept : (d : ℕ) (x : Terminal) (k : Stack) → clear k ≡ true → Kept x (after_factor d x k)
factor_kept d (t.additive additives.Minus) k h = inl h
factor_kept d t.open_ k h = inl h
factor_kept d (t.number n) k h = inl h
factor_kept d (t.name n) k h = inl h
factor_kept d (t.constant c) k h = inl h
factor_kept d t.len_of k h = inl h
factor_kept d _ k h = tt

scales_kept : (d : ℕ) (x : Terminal) (k : Stack) → clear k ≡ true → Kept x (after_scales d x k)
scales_kept d (t.multiplicative o) k h = inl h
scales_kept d _ k h = tt

sums_kept : (d : ℕ) (x : Terminal) (k : Stack) → clear k ≡ true → Kept x (after_sums d x k)
sums_kept d (t.additive o) k h = inl h
sums_kept d _ k h = tt

command_kept : (d : ℕ) (x : Terminal) (k : Stack) → clear k ≡ true → Kept x (after_command d x k)
command_kept d t.open_ k h = inl h
command_kept d (t.simple x) k h = inl h
command_kept d (t.literal q) k h = inl h
command_kept d (t.name n) k h = inl h
command_kept d t.non k h = inl h
command_kept d (t.prefix p) k h = inl h
command_kept d (t.count n) k h = inl h
command_kept d (t.move o) k h = inl h
command_kept d (t.naming x) k h = inl h
command_kept d (t.edit x) k h = inl h
command_kept d t.set_limit k h = inl h
command_kept d t.dollar k h = inr (d, k, refl, refl, h)
command_kept d t.among k h = inl h
command_kept d _ k h = tt

others_kept : (d : ℕ) (x : Terminal) (k : Stack) → clear k ≡ true → Kept x (after_others d x k)
others_kept d (t.joiner j) k h = inl h
others_kept d _ k h = tt

starter_kept : (d : ℕ) (x : Terminal) (k : Stack) → clear k ≡ true → Kept x (after_starter d x k)
starter_kept d t.open_ k h = inl h
starter_kept d _ k h = tt

groups_kept : (d : ℕ) (x : Terminal) (k : Stack) → clear k ≡ true → Kept x (after_groups d x k)
groups_kept d (t.literal q) k h = inl h
groups_kept d _ k h = tt

entries_kept : (d : ℕ) (x : Terminal) (k : Stack) → clear k ≡ true → Kept x (after_entries d x k)
entries_kept d (t.literal q) k h = inl h
entries_kept d t.open_ k h = inl h
entries_kept d _ k h = tt

inserts_kept : (x : Terminal) (k : Stack) → clear k ≡ true → Kept x (after_inserts x k)
inserts_kept (t.inserts a b) k h = inl h
inserts_kept _ k h = tt

macro_kept : (x : Terminal) (k : Stack) → clear k ≡ true → Kept x (after_macro x k)
macro_kept (t.macro_name n) k h = inl h
macro_kept _ k h = tt

base_kept : (x : Terminal) (k : Stack) → clear k ≡ true → Kept x (after_base x k)
base_kept (t.base b) k h = inl h
base_kept _ k h = tt

literal_kept : (x : Terminal) (k : Stack) → clear k ≡ true → Kept x (after_literal x k)
literal_kept (t.literal q) k h = inl h
literal_kept _ k h = tt

definition_kept : (x : Terminal) (k : Stack) → clear k ≡ true → Kept x (after_definition x k)
definition_kept t.as_ k h = inl h
definition_kept (t.literal q) k h = inl h
definition_kept (t.name n) k h = inl h
definition_kept _ k h = tt

terms_kept : (x : Terminal) (k : Stack) → clear k ≡ true → Kept x (after_terms x k)
terms_kept (t.additive o) k h = inl h
terms_kept _ k h = tt

names_kept : (x : Terminal) (k : Stack) → clear k ≡ true → Kept x (after_names x k)
names_kept (t.name n) k h = inl h
names_kept _ k h = tt

plain_kept : (x : Terminal) (k : Stack) → clear k ≡ true → Kept x (after_plain x k)
plain_kept (t.declares x) k h = inl h
plain_kept t.string_escapes k h = inl h
plain_kept t.string_def k h = inl h
plain_kept t.define k h = inl h
plain_kept _ k h = tt

item_kept : (x : Terminal) (k : Stack) → clear k ≡ true → Kept x (after_item x k)
item_kept (t.declares x) k h = inl h
item_kept t.string_escapes k h = inl h
item_kept t.string_def k h = inl h
item_kept t.define k h = inl h
item_kept t.backward_mode k h = inl h
item_kept _ k h = tt

among_kept : (d : ℕ) (x : Terminal) (k : Stack) → clear k ≡ true → Kept x (after_among d x k)
among_kept d t.among k h = inl h
among_kept d _ k h = tt

after_kept : (y : Symbol) (x : Terminal) (k : Stack) → is_clear y ≡ true → clear k ≡ true → Kept x (following y x k)
after_kept (s.opening d) x k c h = opening_kept d x k h
after_kept (s.closing d) x k c h = closing_kept d x k h
after_kept (s.name d) x k c h = name_kept d x k h
after_kept (s.argument d) x k c h = argument_kept d x k h
after_kept (s.command d) x k c h = command_kept d x k h
after_kept (s.others d) x k c h = others_kept d x k h
after_kept (s.rows d) x k c h = command_kept d x (s.others d ∷ s.rows d ∷ k) h
after_kept (s.for_ d) x k c h = for_kept d x k h
after_kept (s.excluded d) x k c h = excluded_kept d x k h
after_kept (s.subject d) x k c h = absurd cc
after_kept (s.operator d) x k c h = absurd cc
after_kept (s.comparison d) x k c h = comparison_kept d x k h
after_kept (s.factor d) x k c h = factor_kept d x k h
after_kept (s.scales d) x k c h = scales_kept d x k h
after_kept (s.sums d) x k c h = sums_kept d x k h
after_kept (s.starter d) x k c h = starter_kept d x k h
after_kept (s.groups d) x k c h = groups_kept d x k h
after_kept (s.entries d) x k c h = entries_kept d x k h
after_kept (s.condition d) x k c h = name_kept d x k h
after_kept (s.among d) x k c h = among_kept d x k h
after_kept s.inserts x k c h = inserts_kept x k h
after_kept s.macro x k c h = macro_kept x k h
after_kept s.base x k c h = base_kept x k h
after_kept s.literal x k c h = literal_kept x k h
after_kept s.definition x k c h = definition_kept x k h
after_kept s.terms x k c h = terms_kept x k h
after_kept s.names x k c h = names_kept x k h
after_kept s.plain x k c h = plain_kept x k h
after_kept s.plains x k c h = plain_kept x (s.plains ∷ k) h
after_kept s.item x k c h = item_kept x k h
after_kept s.items x k c h = item_kept x (s.items ∷ k) h

both_true : (a b : Bool) → (a && b) ≡ true → (a ≡ true) × (b ≡ true)
both_true true b e = (refl, e)
both_true false b e = absurd cc

step_kept : (k : Stack) (x : Terminal) → clear k ≡ true → Kept x (step k x)
step_kept [] x h = tt
step_kept (y ∷ k) x h = let c = both_true (is_clear y) (clear k) h in go (following y x k) (after_kept y x k c.0 c.1) (is_optional y) (step_kept k x c.1) where
  go : (b : Step) → Kept x b → (o : Bool) → Kept x (step k x) → Kept x (or_else b (if o then step k x else stuck))
  go (goes d next) g o below = g
  go stuck g true below = below
  go stuck g false below = tt
  go unassigned g o below = absurd g

-- ---- after `$`

subject_step : (e d : ℕ) (x : Terminal) (k next : Stack) → clear k ≡ true → step (s.subject e ∷ k) x ≡ goes d next
    → ((n : List ℕ) × (x ≡ t.name n) × (next ≡ s.operator e ∷ k)) ⊎ (clear next ≡ true)
subject_step e d (t.name n) k next h i = inl (n, refl, cc)
subject_step e d t.open_ k next h i = let same : s.expression e (s.comparison e ∷ s.expression e (s.closing e ∷ k)) ≡ next = cc in inr (subst (λ (m : Stack). clear m ≡ true) same h)
subject_step e d _ k next h i = absurd cc

subject_assigned : (e : ℕ) (x : Terminal) (k : Stack) → step (s.subject e ∷ k) x ≡ unassigned → ⊥
subject_assigned e (t.name n) k i = cc
subject_assigned e t.open_ k i = cc
subject_assigned e _ k i = cc

operator_step : (e d : ℕ) (x : Terminal) (k next : Stack) → clear k ≡ true → step (s.operator e ∷ k) x ≡ goes d next → clear next ≡ true
operator_step e d (t.assigns o) k next h i = let same : s.expression e k ≡ next = cc in subst (λ (m : Stack). clear m ≡ true) same h
operator_step e d (t.compares o) k next h i = let same : s.expression e k ≡ next = cc in subst (λ (m : Stack). clear m ≡ true) same h
operator_step e d _ k next h i = absurd cc

operator_stuck : (e : ℕ) (x : Terminal) (k : Stack) → step (s.operator e ∷ k) x ≡ stuck → ⊥
operator_stuck e (t.assigns o) k i = cc
operator_stuck e (t.compares o) k i = cc
operator_stuck e _ k i = cc

-- the tokens end with `$` and a name
abbrev pub EndsSo : List AtDepth → Type 0
EndsSo ps = (qs : List AtDepth) × (d : ℕ) × (n : List ℕ) × (e : ℕ) × (ps ≡ qs ++ (t.dollar, d) ∷ (t.name n, e) ∷ [])

abbrev Unassigned : Terminal → Stack → Type 0
Unassigned x end = step end x ≡ unassigned

further : (p : AtDepth) (ps : List AtDepth) → EndsSo ps → EndsSo (p ∷ ps)
further p ps h = (p ∷ h.0, h.1, h.2, h.3, ap (λ (r : List AtDepth). p ∷ r) h.4)

two : (p q : AtDepth) (n : List ℕ) → p.0 ≡ t.dollar → q.0 ≡ t.name n → EndsSo (p ∷ q ∷ [])
two p q n a b = ([], p.1, n, q.1, ap (λ (x : Terminal). (x, p.1) ∷ q ∷ []) a ∙ ap (λ (x : Terminal). (t.dollar, p.1) ∷ (x, q.1) ∷ []) b)

mutual
  from_clear : (ps : List AtDepth) (k : Stack) (x : Terminal) → clear k ≡ true → Runs ps k (Unassigned x) → EndsSo ps
  from_clear [] k x c h = absurd (never (step k x) (step_kept k x c) h) where
    never : (b : Step) → Kept x b → b ≡ unassigned → ⊥
    never (goes d n) g e = cc
    never stuck g e = cc
    never unassigned g e = g
  from_clear (p ∷ ps) k x c h = go (subst (λ (b : Step). Kept p.0 b) h.1 (step_kept k p.0 c)) (λ e. further p ps (from_clear ps h.0 x e h.2)) (λ e rest is so d. from_subject p ps e rest x is d (subst (λ (m : Stack). Runs ps m (Unassigned x)) so h.2)) where
    go : Kept p.0 (goes p.1 h.0) → (clear h.0 ≡ true → EndsSo (p ∷ ps)) → ((e : ℕ) (rest : Stack) → p.0 ≡ t.dollar → h.0 ≡ s.subject e ∷ rest → clear rest ≡ true → EndsSo (p ∷ ps)) → EndsSo (p ∷ ps)
    go (inl e) f g = f e
    go (inr e) f g = g e.0 e.1 e.2 e.3 e.4

  from_subject : (p : AtDepth) (ps : List AtDepth) (e : ℕ) (k : Stack) (x : Terminal) → p.0 ≡ t.dollar → clear k ≡ true → Runs ps (s.subject e ∷ k) (Unassigned x) → EndsSo (p ∷ ps)
  from_subject p [] e k x is c h = absurd (subject_assigned e x k h)
  from_subject p (q ∷ ps) e k x is c h = go (subject_step e q.1 q.0 k h.0 c h.1) (λ n named so. from_operator p q ps n e k x is named c (subst (λ (m : Stack). Runs ps m (Unassigned x)) so h.2)) (λ d. further p (q ∷ ps) (further q ps (from_clear ps h.0 x d h.2))) where
    go : ((n : List ℕ) × (q.0 ≡ t.name n) × (h.0 ≡ s.operator e ∷ k)) ⊎ (clear h.0 ≡ true) → ((n : List ℕ) → q.0 ≡ t.name n → h.0 ≡ s.operator e ∷ k → EndsSo (p ∷ q ∷ ps)) → (clear h.0 ≡ true → EndsSo (p ∷ q ∷ ps)) → EndsSo (p ∷ q ∷ ps)
    go (inl d) f g = f d.0 d.1 d.2
    go (inr d) f g = g d

  from_operator : (p q : AtDepth) (ps : List AtDepth) (n : List ℕ) (e : ℕ) (k : Stack) (x : Terminal) → p.0 ≡ t.dollar → q.0 ≡ t.name n → clear k ≡ true → Runs ps (s.operator e ∷ k) (Unassigned x) → EndsSo (p ∷ q ∷ ps)
  from_operator p q [] n e k x is named c h = two p q n is named
  from_operator p q (r ∷ ps) n e k x is named c h =
      further p (q ∷ r ∷ ps) (further q (r ∷ ps) (further r ps (from_clear ps h.0 x (operator_step e r.1 r.0 k h.0 c h.1) h.2)))

-- an operator is wanted: `$` and a name came last
first_clear : (w : Text) → clear (first_stack w) ≡ true
first_clear texts.script = refl
first_clear _ = refl

pub came : (w : Text) (ps : List AtDepth) (x : Terminal) → Runs ps (first_stack w) (λ end. step end x ≡ unassigned) → EndsSo ps
came w ps x h = from_clear ps (first_stack w) x (first_clear w) h

-- ---- and the other way round

dollar_step : (k : Stack) (d : ℕ) (next : Stack) → step k t.dollar ≡ goes d next → (e : ℕ) × (rest : Stack) × (next ≡ s.subject e ∷ rest)
dollar_step (s.command e ∷ k) d next h = (e, k, cc)
dollar_step (s.others e ∷ k) d next h = dollar_step k d next h
dollar_step (s.rows e ∷ k) d next h = (e, s.others e ∷ s.rows e ∷ k, cc)
dollar_step (s.scales e ∷ k) d next h = dollar_step k d next h
dollar_step (s.sums e ∷ k) d next h = dollar_step k d next h
dollar_step (s.starter e ∷ k) d next h = dollar_step k d next h
dollar_step (s.groups e ∷ k) d next h = dollar_step k d next h
dollar_step (s.entries e ∷ k) d next h = dollar_step k d next h
dollar_step (s.condition e ∷ k) d next h = dollar_step k d next h
dollar_step (s.base ∷ k) d next h = dollar_step k d next h
dollar_step (s.terms ∷ k) d next h = dollar_step k d next h
dollar_step (s.names ∷ k) d next h = dollar_step k d next h
dollar_step (s.plains ∷ k) d next h = dollar_step k d next h
dollar_step (s.items ∷ k) d next h = dollar_step k d next h
dollar_step _ d next h = absurd cc

last_two : (k : Stack) (p q : AtDepth) (n : List ℕ) (x : Terminal) → p.0 ≡ t.dollar → q.0 ≡ t.name n → Runs (p ∷ q ∷ []) k (λ end. step end x ≡ stuck) → ⊥
last_two k p q n x is named h =
    let first : step k t.dollar ≡ goes p.1 h.0 = subst (λ (y : Terminal). step k y ≡ goes p.1 h.0) is h.1 in
    let at = dollar_step k p.1 h.0 first in
    let second : step (s.subject at.0 ∷ at.1) (t.name n) ≡ goes q.1 h.2.0 = subst (λ (y : Terminal). step (s.subject at.0 ∷ at.1) y ≡ goes q.1 h.2.0) named (subst (λ (m : Stack). step m q.0 ≡ goes q.1 h.2.0) at.2 h.2.1) in
    let last : s.operator at.0 ∷ at.1 ≡ h.2.0 = cc in
    operator_stuck at.0 x at.1 (subst (λ (m : Stack). step m x ≡ stuck) (sym last) h.2.2)

-- nothing is stuck there
pub wants : (prefix : List Terminal) (n : List ℕ) (ps : List AtDepth) (k : Stack) (x : Terminal) → tokens ps ≡ prefix ++ t.dollar ∷ t.name n ∷ [] → Runs ps k (λ end. step end x ≡ stuck) → ⊥
wants [] n [] k x e h = cc
wants [] n (p ∷ []) k x e h = cc
wants [] n (p ∷ q ∷ []) k x e h =
    let one : p.0 ≡ t.dollar = cc in
    let other : q.0 ≡ t.name n = cc in
    last_two k p q n x one other h
wants [] n (p ∷ q ∷ r ∷ ps) k x e h = cc
wants (y ∷ prefix) n [] k x e h = cc
wants (y ∷ prefix) n (p ∷ ps) k x e h =
    let tail : tokens ps ≡ prefix ++ t.dollar ∷ t.name n ∷ [] = cc in
    wants prefix n ps h.0 x tail h.2
