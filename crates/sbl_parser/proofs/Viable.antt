-- What is wanted can always come: the tokens passed so far are a prefix of some tree's.
use Rattle.std.proofs.Common.{◌≡◌, ℕ, ◌+◌, Bool, true, false, List, [], ◌∷◌, ◌++◌, Option, Some, None, refl, sym, ap, subst, ◌∙◌}
use Rattle.std.specs.Prelude.{if◌then◌else◌}
use Rattle.sbl_ast.specs.declared.tree.Base.{Base}
use Rattle.sbl_ast.specs.declared.tree.Comparison.{Comparison}
use Rattle.sbl_ast.specs.declared.tree.Comparison.TheVariants as comparisons
use Rattle.sbl_ast.specs.declared.tree.Assignment.TheVariants as assignments
use Rattle.sbl_ast.specs.declared.tree.Additive.TheVariants as additives
use Rattle.sbl_ast.specs.Terminal.{Terminal}
use Rattle.sbl_ast.specs.Tree.{QuotedText, Argument, written_out, by_name, Expression, expression, Sums, no_sums, sum, product, Scales, no_scales, scale, Factor, negated, bracketed, numeral, variable, fixed, length_of, Entry, entry, Command, bracket, simple_, literal_, name_, non_, prefixed, counted, move_, named, splice_, setlimit_, assign_, compare_, compare_values_, among_, Rows, no_rows, row, Others, no_others, joined, Starter, no_starter, starter, Groups, bare, group, Term, term, Plain, declaration, escapes, macro, routine, grouping, Item, plain, backward}
use Rattle.sbl_ast.specs.Terminal as t
use Rattle.sbl_ast.specs.Spelled.{argument_terminal, spelled_expression, spelled_sums, spelled_scales, spelled_factor, spelled_entry, spelled_command, spelled_rows, spelled_others, spelled_starter, spelled_groups, spelled_names, spelled_base, spelled_terms, spelled_plain, spelled_plains, spelled_item, spelled_items}
use Rattle.sbl_ast.specs.TerminalPlaces.{AtDepth, tokens}
use Rattle.sbl_parser.specs.Steps.{Symbol, Stack, Step, goes, stuck, unassigned, is_optional, following, after_opening, after_closing, after_name, after_argument, after_for, after_excluded, after_subject, after_operator, after_comparison, after_factor, after_scales, after_sums, after_command, after_among, after_others, after_starter, after_groups, after_entries, after_inserts, after_macro, after_base, after_literal, after_definition, after_terms, after_names, after_plain, after_item, or_else, step}
use Rattle.sbl_parser.specs.Steps as s
use Rattle.sbl_parser.proofs.Followers.{Runs}

abbrev Ts : Type 0
Ts = List Terminal

-- the tokens of something in the symbol's place, and then those of what is after it
abbrev pub MakesOne : Symbol → (List Terminal → Type 0) → List Terminal → Type 0
MakesOne (s.opening d) More ts = (rest : List Terminal) × (ts ≡ t.open_ ∷ rest) × More rest
MakesOne (s.closing d) More ts = (rest : List Terminal) × (ts ≡ t.close_ ∷ rest) × More rest
MakesOne (s.name d) More ts = (n : List ℕ) × (rest : List Terminal) × (ts ≡ t.name n ∷ rest) × More rest
MakesOne (s.argument d) More ts = (a : Argument) × (rest : List Terminal) × (ts ≡ argument_terminal a ∷ rest) × More rest
MakesOne (s.command d) More ts = (c : Command) × (rest : List Terminal) × (ts ≡ spelled_command c rest) × More rest
MakesOne (s.others d) More ts = (os : Others) × (rest : List Terminal) × (ts ≡ spelled_others os rest) × More rest
MakesOne (s.rows d) More ts = (rs : Rows) × (rest : List Terminal) × (ts ≡ spelled_rows rs rest) × More rest
MakesOne (s.for_ d) More ts = (rest : List Terminal) × (ts ≡ t.for_ ∷ rest) × More rest
MakesOne (s.excluded d) More ts = (b : Bool) × (n : List ℕ) × (rest : List Terminal) × (t.non ∷ ts ≡ spelled_command (non_ b n) rest) × More rest
MakesOne (s.subject d) More ts = (c : Command) × (rest : List Terminal) × (t.dollar ∷ ts ≡ spelled_command c rest) × More rest
MakesOne (s.operator d) More ts = (f : List ℕ → Command) × (rest : List Terminal) × ((n : List ℕ) → t.dollar ∷ t.name n ∷ ts ≡ spelled_command (f n) rest) × More rest
MakesOne (s.comparison d) More ts = (o : Comparison) × (rest : List Terminal) × (ts ≡ t.compares o ∷ rest) × More rest
MakesOne (s.factor d) More ts = (f : Factor) × (rest : List Terminal) × (ts ≡ spelled_factor f rest) × More rest
MakesOne (s.scales d) More ts = (ss : Scales) × (rest : List Terminal) × (ts ≡ spelled_scales ss rest) × More rest
MakesOne (s.sums d) More ts = (ss : Sums) × (rest : List Terminal) × (ts ≡ spelled_sums ss rest) × More rest
MakesOne (s.starter d) More ts = (x : Starter) × (rest : List Terminal) × (ts ≡ spelled_starter x rest) × More rest
MakesOne (s.groups d) More ts = (gs : Groups) × (rest : List Terminal) × (ts ≡ spelled_groups gs rest) × More rest
MakesOne (s.entries d) More ts = (f : Entry → Groups) × (rest : List Terminal) × ((x : Entry) → spelled_entry x ts ≡ spelled_groups (f x) rest) × More rest
MakesOne (s.condition d) More ts = (c : Option (List ℕ)) × (rest : List Terminal) × ((q : QuotedText) → t.literal q ∷ ts ≡ spelled_entry (entry q c) rest) × More rest
MakesOne (s.among d) More ts = (x : Starter) × (gs : Groups) × (rest : List Terminal) × (ts ≡ spelled_command (among_ x gs) rest) × More rest
MakesOne s.inserts More ts = (a : ℕ) × (b : ℕ) × (rest : List Terminal) × (ts ≡ t.inserts a b ∷ rest) × More rest
MakesOne s.macro More ts = (n : List ℕ) × (rest : List Terminal) × (ts ≡ t.macro_name n ∷ rest) × More rest
MakesOne s.base More ts = (b : Option Base) × (rest : List Terminal) × (ts ≡ spelled_base b rest) × More rest
MakesOne s.literal More ts = (q : QuotedText) × (rest : List Terminal) × (ts ≡ t.literal q ∷ rest) × More rest
MakesOne s.definition More ts = (f : List ℕ → Plain) × (rest : List Terminal) × ((n : List ℕ) → t.define ∷ t.name n ∷ ts ≡ spelled_plain (f n) rest) × More rest
MakesOne s.terms More ts = (xs : List Term) × (rest : List Terminal) × (ts ≡ spelled_terms xs rest) × More rest
MakesOne s.names More ts = (ns : List (List ℕ)) × (rest : List Terminal) × (ts ≡ spelled_names ns rest) × More rest
MakesOne s.plain More ts = (p : Plain) × (rest : List Terminal) × (ts ≡ spelled_plain p rest) × More rest
MakesOne s.plains More ts = (xs : List Plain) × (rest : List Terminal) × (ts ≡ spelled_plains xs rest) × More rest
MakesOne s.item More ts = (x : Item) × (rest : List Terminal) × (ts ≡ spelled_item x rest) × More rest
MakesOne s.items More ts = (xs : List Item) × (rest : List Terminal) × (ts ≡ spelled_items xs rest) × More rest

abbrev pub Makes : Stack → List Terminal → Type 0
Makes [] ts = ts ≡ []
Makes (x ∷ k) ts = MakesOne x (Makes k) ts

-- a token before what is wanted after it makes what was wanted
abbrev Assembles : Stack → Terminal → Step → Type 0
Assembles k x (goes d next) = (ts : List Terminal) → Makes next ts → Makes k (x ∷ ts)
Assembles k x stuck = Unit {0}
Assembles k x unassigned = Unit {0}

cons : {a b : List Terminal} (x : Terminal) → a ≡ b → x ∷ a ≡ x ∷ b
cons x e = ap (λ (r : List Terminal). x ∷ r) e

expression_made : (d : ℕ) (k : Stack) (ts : List Terminal) → Makes (s.expression d k) ts → (x : Expression) × (rest : List Terminal) × (ts ≡ spelled_expression x rest) × Makes k rest
expression_made d k ts m = (
  expression (product m.0 m.3.0) m.3.3.0,
  m.3.3.1,
  m.2 ∙ ap (λ (r : Ts). spelled_factor m.0 r) (m.3.2 ∙ ap (λ (r : Ts). spelled_scales m.3.0 r) m.3.3.2),
  m.3.3.3,
)

-- an entry before some groups is the first of their first
prepend : Entry → Groups → Groups
prepend x (bare es) = bare (x ∷ es)
prepend x (group e es rs gs) = group x (e ∷ es) rs gs

spelled_prepend : (x : Entry) (gs : Groups) (rest : List Terminal) → spelled_groups (prepend x gs) rest ≡ spelled_entry x (spelled_groups gs rest)
unfolding prepend
spelled_prepend x (bare es) rest = refl
spelled_prepend x (group e es rs gs) rest = refl

-- what the rest of one stack makes, that of another one makes
made_of : (k n : Stack) (x : Terminal) (b : Step) → ((ts : Ts) → Makes k (x ∷ ts) → Makes n (x ∷ ts)) → Assembles k x b → Assembles n x b
made_of k n x (goes d next) f h = λ ts m. f ts (h ts m)
made_of k n x _ f h = tt

-- ---- one lemma for each symbol

opening_made : (d : ℕ) (x : Terminal) (k : Stack) → Assembles (s.opening d ∷ k) x (after_opening d x k)
opening_made d t.open_ k = λ ts m. (ts, refl, m)
opening_made d _ k = tt

closing_made : (d : ℕ) (x : Terminal) (k : Stack) → Assembles (s.closing d ∷ k) x (after_closing d x k)
closing_made d t.close_ k = λ ts m. (ts, refl, m)
closing_made d _ k = tt

name_made : (d : ℕ) (x : Terminal) (k : Stack) → Assembles (s.name d ∷ k) x (after_name d x k)
name_made d (t.name n) k = λ ts m. (n, ts, refl, m)
name_made d _ k = tt

argument_made : (d : ℕ) (x : Terminal) (k : Stack) → Assembles (s.argument d ∷ k) x (after_argument d x k)
argument_made d (t.literal q) k = λ ts m. (written_out q, ts, refl, m)
argument_made d (t.name n) k = λ ts m. (by_name n, ts, refl, m)
argument_made d _ k = tt

for_made : (d : ℕ) (x : Terminal) (k : Stack) → Assembles (s.for_ d ∷ k) x (after_for d x k)
for_made d t.for_ k = λ ts m. (ts, refl, m)
for_made d _ k = tt

excluded_made : (d : ℕ) (x : Terminal) (k : Stack) → Assembles (s.excluded d ∷ k) x (after_excluded d x k)
excluded_made d (t.additive additives.Minus) k = λ ts m. (true, m.0, m.1, cons t.non (cons (t.additive additives.Minus) m.2), m.3)
excluded_made d (t.name n) k = λ ts m. (false, n, ts, refl, m)
excluded_made d _ k = tt

subject_made : (d : ℕ) (x : Terminal) (k : Stack) → Assembles (s.subject d ∷ k) x (after_subject d x k)
subject_made d (t.name n) k = λ ts m. (m.0 n, m.1, m.2 n, m.3)
subject_made d t.open_ k = λ ts m.
    let e = expression_made d (s.comparison d ∷ s.expression d (s.closing d ∷ k)) ts m in
    let g = expression_made d (s.closing d ∷ k) e.3.1 e.3.3 in (
      compare_values_ e.0 e.3.0 g.0,
      g.3.0,
      cons t.dollar (cons t.open_ (e.2 ∙ ap (λ (r : Ts). spelled_expression e.0 r) (e.3.2 ∙ cons (t.compares e.3.0) (g.2 ∙ ap (λ (r : Ts). spelled_expression g.0 r) g.3.1)))),
      g.3.2,
    )
subject_made d _ k = tt

operator_made : (d : ℕ) (x : Terminal) (k : Stack) → Assembles (s.operator d ∷ k) x (after_operator d x k)
operator_made d (t.assigns o) k = λ ts m. let e = expression_made d k ts m in
    (λ n. assign_ n o e.0, e.1, λ n. cons t.dollar (cons (t.name n) (cons (t.assigns o) e.2)), e.3)
operator_made d (t.compares o) k = λ ts m. let e = expression_made d k ts m in
    (λ n. compare_ n o e.0, e.1, λ n. cons t.dollar (cons (t.name n) (cons (t.compares o) e.2)), e.3)
operator_made d _ k = tt

comparison_made : (d : ℕ) (x : Terminal) (k : Stack) → Assembles (s.comparison d ∷ k) x (after_comparison d x k)
comparison_made d (t.compares o) k = λ ts m. (o, ts, refl, m)
comparison_made d _ k = tt

factor_made : (d : ℕ) (x : Terminal) (k : Stack) → Assembles (s.factor d ∷ k) x (after_factor d x k)
factor_made d (t.additive additives.Minus) k = λ ts m. (negated m.0, m.1, cons (t.additive additives.Minus) m.2, m.3)
factor_made d t.open_ k = λ ts m. let e = expression_made (d + 1) (s.closing (d + 1) ∷ k) ts m in
    (bracketed e.0, e.3.0, cons t.open_ (e.2 ∙ ap (λ (r : Ts). spelled_expression e.0 r) e.3.1), e.3.2)
factor_made d (t.number n) k = λ ts m. (numeral n, ts, refl, m)
factor_made d (t.name n) k = λ ts m. (variable n, ts, refl, m)
factor_made d (t.constant c) k = λ ts m. (fixed c, ts, refl, m)
factor_made d t.len_of k = λ ts m. (length_of m.0, m.1, cons t.len_of m.2, m.3)
factor_made d _ k = tt

scales_made : (d : ℕ) (x : Terminal) (k : Stack) → Assembles (s.scales d ∷ k) x (after_scales d x k)
scales_made d (t.multiplicative o) k = λ ts m. (scale o m.0 m.3.0, m.3.1, cons (t.multiplicative o) (m.2 ∙ ap (λ (r : Ts). spelled_factor m.0 r) m.3.2), m.3.3)
scales_made d _ k = tt

sums_made : (d : ℕ) (x : Terminal) (k : Stack) → Assembles (s.sums d ∷ k) x (after_sums d x k)
sums_made d (t.additive o) k = λ ts m. (
  sum o (product m.0 m.3.0) m.3.3.0,
  m.3.3.1,
  cons (t.additive o) (m.2 ∙ ap (λ (r : Ts). spelled_factor m.0 r) (m.3.2 ∙ ap (λ (r : Ts). spelled_scales m.3.0 r) m.3.3.2)),
  m.3.3.3,
)
sums_made d _ k = tt

command_made : (d : ℕ) (x : Terminal) (k : Stack) → Assembles (s.command d ∷ k) x (after_command d x k)
command_made d t.open_ k = λ ts m. (bracket m.0, m.3.0, cons t.open_ (m.2 ∙ ap (λ (r : Ts). spelled_rows m.0 r) m.3.1), m.3.2)
command_made d (t.simple x) k = λ ts m. (simple_ x, ts, refl, m)
command_made d (t.literal q) k = λ ts m. (literal_ q, ts, refl, m)
command_made d (t.name n) k = λ ts m. (name_ n, ts, refl, m)
command_made d t.non k = λ ts m. (non_ m.0 m.1, m.2, m.3, m.4)
command_made d (t.prefix p) k = λ ts m. (prefixed p m.0, m.1, cons (t.prefix p) m.2, m.3)
command_made d (t.count n) k = λ ts m. let e = expression_made d (s.command (d + 1) ∷ k) ts m in
    (counted n e.0 e.3.0, e.3.1, cons (t.count n) (e.2 ∙ ap (λ (r : Ts). spelled_expression e.0 r) e.3.2), e.3.3)
command_made d (t.move o) k = λ ts m. let e = expression_made d k ts m in (move_ o e.0, e.1, cons (t.move o) e.2, e.3)
command_made d (t.naming x) k = λ ts m. (named x m.0, m.1, cons (t.naming x) m.2, m.3)
command_made d (t.edit x) k = λ ts m. (splice_ x m.0, m.1, cons (t.edit x) m.2, m.3)
command_made d t.set_limit k = λ ts m. (setlimit_ m.0 m.3.2.0, m.3.2.1, cons t.set_limit (m.2 ∙ ap (λ (r : Ts). spelled_command m.0 r) (m.3.1 ∙ cons t.for_ m.3.2.2)), m.3.2.3)
command_made d t.dollar k = λ ts m. (m.0, m.1, m.2, m.3)
command_made d t.among k = λ ts m. (
  among_ m.2.0 m.2.3.0,
  m.2.3.3.0,
  cons t.among (m.1 ∙ cons t.open_ (m.2.2 ∙ ap (λ (r : Ts). spelled_starter m.2.0 r) (m.2.3.2 ∙ ap (λ (r : Ts). spelled_groups m.2.3.0 r) m.2.3.3.1))),
  m.2.3.3.2,
)
command_made d _ k = tt

among_made : (d : ℕ) (x : Terminal) (k : Stack) → Assembles (s.among d ∷ k) x (after_among d x k)
among_made d t.among k = λ ts m. (
  m.2.0,
  m.2.3.0,
  m.2.3.3.0,
  cons t.among (m.1 ∙ cons t.open_ (m.2.2 ∙ ap (λ (r : Ts). spelled_starter m.2.0 r) (m.2.3.2 ∙ ap (λ (r : Ts). spelled_groups m.2.3.0 r) m.2.3.3.1))),
  m.2.3.3.2,
)
among_made d _ k = tt

others_made : (d : ℕ) (x : Terminal) (k : Stack) → Assembles (s.others d ∷ k) x (after_others d x k)
others_made d (t.joiner j) k = λ ts m. (joined j m.0 m.3.0, m.3.1, cons (t.joiner j) (m.2 ∙ ap (λ (r : Ts). spelled_command m.0 r) m.3.2), m.3.3)
others_made d _ k = tt

rows_made : (d : ℕ) (x : Terminal) (k : Stack) → Assembles (s.rows d ∷ k) x (following (s.rows d) x k)
rows_made d x k =
    made_of (s.command d ∷ s.others d ∷ s.rows d ∷ k) (s.rows d ∷ k) x (after_command d x (s.others d ∷ s.rows d ∷ k))
    (λ ts c. (row c.0 c.3.0 c.3.3.0, c.3.3.1, c.2 ∙ ap (λ (r : Ts). spelled_command c.0 r) (c.3.2 ∙ ap (λ (r : Ts). spelled_others c.3.0 r) c.3.3.2), c.3.3.3))
    (command_made d x (s.others d ∷ s.rows d ∷ k))

starter_made : (d : ℕ) (x : Terminal) (k : Stack) → Assembles (s.starter d ∷ k) x (after_starter d x k)
starter_made d t.open_ k = λ ts m. (starter m.0, m.3.0, cons t.open_ (m.2 ∙ ap (λ (r : Ts). spelled_rows m.0 r) m.3.1), m.3.2)
starter_made d _ k = tt

groups_made : (d : ℕ) (x : Terminal) (k : Stack) → Assembles (s.groups d ∷ k) x (after_groups d x k)
groups_made d (t.literal q) k = λ ts m. (m.3.0 (entry q m.0), m.3.1, m.2 q ∙ m.3.2 (entry q m.0), m.3.3)
groups_made d _ k = tt

entries_made : (d : ℕ) (x : Terminal) (k : Stack) → Assembles (s.entries d ∷ k) x (after_entries d x k)
entries_made d (t.literal q) k = λ ts m.
    let gs = m.3.0 (entry q m.0) in
    (λ x. prepend x gs, m.3.1, λ x. ap (λ (r : Ts). spelled_entry x r) (m.2 q ∙ m.3.2 (entry q m.0)) ∙ sym (spelled_prepend x gs m.3.1), m.3.3)
entries_made d t.open_ k = λ ts m. (
  λ x. group x [] m.0 m.3.2.0,
  m.3.2.1,
  λ x. ap (λ (r : Ts). spelled_entry x r) (cons t.open_ (m.2 ∙ ap (λ (r : Ts). spelled_rows m.0 r) (m.3.1 ∙ cons t.close_ m.3.2.2))),
  m.3.2.3,
)
entries_made d _ k = tt

condition_made : (d : ℕ) (x : Terminal) (k : Stack) → Assembles (s.condition d ∷ k) x (after_name d x k)
condition_made d (t.name n) k = λ ts m. (Some n, ts, λ q. refl, m)
condition_made d _ k = tt

inserts_made : (x : Terminal) (k : Stack) → Assembles (s.inserts ∷ k) x (after_inserts x k)
inserts_made (t.inserts a b) k = λ ts m. (a, b, ts, refl, m)
inserts_made _ k = tt

macro_made : (x : Terminal) (k : Stack) → Assembles (s.macro ∷ k) x (after_macro x k)
macro_made (t.macro_name n) k = λ ts m. (n, ts, refl, m)
macro_made _ k = tt

base_made : (x : Terminal) (k : Stack) → Assembles (s.base ∷ k) x (after_base x k)
base_made (t.base b) k = λ ts m. (Some b, ts, refl, m)
base_made _ k = tt

literal_made : (x : Terminal) (k : Stack) → Assembles (s.literal ∷ k) x (after_literal x k)
literal_made (t.literal q) k = λ ts m. (q, ts, refl, m)
literal_made _ k = tt

definition_made : (x : Terminal) (k : Stack) → Assembles (s.definition ∷ k) x (after_definition x k)
definition_made t.as_ k = λ ts m. (
  λ n. routine n m.0 m.3.0,
  m.3.1,
  λ n. cons t.define (cons (t.name n) (cons t.as_ (m.2 ∙ ap (λ (r : Ts). spelled_command m.0 r) m.3.2))),
  m.3.3,
)
definition_made (t.literal q) k = λ ts m. (λ n. grouping n (written_out q) m.0, m.1, λ n. cons t.define (cons (t.name n) (cons (t.literal q) m.2)), m.3)
definition_made (t.name x) k = λ ts m. (λ n. grouping n (by_name x) m.0, m.1, λ n. cons t.define (cons (t.name n) (cons (t.name x) m.2)), m.3)
definition_made _ k = tt

terms_made : (x : Terminal) (k : Stack) → Assembles (s.terms ∷ k) x (after_terms x k)
terms_made (t.additive o) k = λ ts m. (term o m.0 ∷ m.3.0, m.3.1, cons (t.additive o) (m.2 ∙ cons (argument_terminal m.0) m.3.2), m.3.3)
terms_made _ k = tt

names_made : (x : Terminal) (k : Stack) → Assembles (s.names ∷ k) x (after_names x k)
names_made (t.name n) k = λ ts m. (n ∷ m.0, m.1, cons (t.name n) m.2, m.3)
names_made _ k = tt

plain_made : (x : Terminal) (k : Stack) → Assembles (s.plain ∷ k) x (after_plain x k)
plain_made (t.declares x) k = λ ts m. (declaration x m.2.0, m.2.3.0, cons (t.declares x) (m.1 ∙ cons t.open_ (m.2.2 ∙ ap (λ (r : Ts). spelled_names m.2.0 r) m.2.3.1)), m.2.3.2)
plain_made t.string_escapes k = λ ts m. (escapes m.0 m.1, m.2, cons t.string_escapes m.3, m.4)
plain_made t.string_def k = λ ts m. (
  macro m.0 m.3.0 m.3.3.0,
  m.3.3.1,
  cons t.string_def (m.2 ∙ cons (t.macro_name m.0) (m.3.2 ∙ ap (λ (r : Ts). spelled_base m.3.0 r) m.3.3.2)),
  m.3.3.3,
)
plain_made t.define k = λ ts m. (m.3.0 m.0, m.3.1, cons t.define m.2 ∙ m.3.2 m.0, m.3.3)
plain_made _ k = tt

plains_made : (x : Terminal) (k : Stack) → Assembles (s.plains ∷ k) x (after_plain x (s.plains ∷ k))
plains_made x k =
    made_of (s.plain ∷ s.plains ∷ k) (s.plains ∷ k) x (after_plain x (s.plains ∷ k))
    (λ ts c. (c.0 ∷ c.3.0, c.3.1, c.2 ∙ ap (λ (r : Ts). spelled_plain c.0 r) c.3.2, c.3.3)) (plain_made x (s.plains ∷ k))

item_made : (x : Terminal) (k : Stack) → Assembles (s.item ∷ k) x (after_item x k)
item_made (t.declares x) k = λ ts m. let c = plain_made (t.declares x) k ts m in (plain c.0, c.1, c.2, c.3)
item_made t.string_escapes k = λ ts m. let c = plain_made t.string_escapes k ts m in (plain c.0, c.1, c.2, c.3)
item_made t.string_def k = λ ts m. let c = plain_made t.string_def k ts m in (plain c.0, c.1, c.2, c.3)
item_made t.define k = λ ts m. let c = plain_made t.define k ts m in (plain c.0, c.1, c.2, c.3)
item_made t.backward_mode k = λ ts m. (backward m.2.0, m.2.3.0, cons t.backward_mode (m.1 ∙ cons t.open_ (m.2.2 ∙ ap (λ (r : Ts). spelled_plains m.2.0 r) m.2.3.1)), m.2.3.2)
item_made _ k = tt

items_made : (x : Terminal) (k : Stack) → Assembles (s.items ∷ k) x (after_item x (s.items ∷ k))
items_made x k =
    made_of (s.item ∷ s.items ∷ k) (s.items ∷ k) x (after_item x (s.items ∷ k))
    (λ ts c. (c.0 ∷ c.3.0, c.3.1, c.2 ∙ ap (λ (r : Ts). spelled_item c.0 r) c.3.2, c.3.3)) (item_made x (s.items ∷ k))

after_made : (y : Symbol) (x : Terminal) (k : Stack) → Assembles (y ∷ k) x (following y x k)
after_made (s.opening d) x k = opening_made d x k
after_made (s.closing d) x k = closing_made d x k
after_made (s.name d) x k = name_made d x k
after_made (s.argument d) x k = argument_made d x k
after_made (s.command d) x k = command_made d x k
after_made (s.others d) x k = others_made d x k
after_made (s.rows d) x k = rows_made d x k
after_made (s.for_ d) x k = for_made d x k
after_made (s.excluded d) x k = excluded_made d x k
after_made (s.subject d) x k = subject_made d x k
after_made (s.operator d) x k = operator_made d x k
after_made (s.comparison d) x k = comparison_made d x k
after_made (s.factor d) x k = factor_made d x k
after_made (s.scales d) x k = scales_made d x k
after_made (s.sums d) x k = sums_made d x k
after_made (s.starter d) x k = starter_made d x k
after_made (s.groups d) x k = groups_made d x k
after_made (s.entries d) x k = entries_made d x k
after_made (s.condition d) x k = condition_made d x k
after_made (s.among d) x k = among_made d x k
after_made s.inserts x k = inserts_made x k
after_made s.macro x k = macro_made x k
after_made s.base x k = base_made x k
after_made s.literal x k = literal_made x k
after_made s.definition x k = definition_made x k
after_made s.terms x k = terms_made x k
after_made s.names x k = names_made x k
after_made s.plain x k = plain_made x k
after_made s.plains x k = plains_made x k
after_made s.item x k = item_made x k
after_made s.items x k = items_made x k

nothing_made : (y : Symbol) (k : Stack) (ts : List Terminal) → is_optional y ≡ true → Makes k ts → Makes (y ∷ k) ts
nothing_made (s.others d) k ts e m = (no_others, ts, refl, m)
nothing_made (s.rows d) k ts e m = (no_rows, ts, refl, m)
nothing_made (s.scales d) k ts e m = (no_scales, ts, refl, m)
nothing_made (s.sums d) k ts e m = (no_sums, ts, refl, m)
nothing_made (s.starter d) k ts e m = (no_starter, ts, refl, m)
nothing_made (s.groups d) k ts e m = (bare [], ts, refl, m)
nothing_made (s.entries d) k ts e m = (λ x. bare (x ∷ []), ts, λ x. refl, m)
nothing_made (s.condition d) k ts e m = (None, ts, λ q. refl, m)
nothing_made s.base k ts e m = (None, ts, refl, m)
nothing_made s.terms k ts e m = ([], ts, refl, m)
nothing_made s.names k ts e m = ([], ts, refl, m)
nothing_made s.plains k ts e m = ([], ts, refl, m)
nothing_made s.items k ts e m = ([], ts, refl, m)
nothing_made _ k ts e m = absurd cc

step_made : (k next : Stack) (x : Terminal) (d : ℕ) (ts : List Terminal) → step k x ≡ goes d next → Makes next ts → Makes k (x ∷ ts)
step_made [] next x d ts e m = absurd cc
step_made (y ∷ k) next x d ts e m = go (following y x k) (after_made y x k) (is_optional y) refl e (λ f. step_made k next x d ts f m) where
  go : (b : Step) → Assembles (y ∷ k) x b → (o : Bool) → is_optional y ≡ o → or_else b (if o then step k x else stuck) ≡ goes d next → (step k x ≡ goes d next → Makes k (x ∷ ts)) → Makes (y ∷ k) (x ∷ ts)
  go (goes f after) h o is e below = let same : after ≡ next = cc in h ts (subst (λ (n : Stack). Makes n ts) (sym same) m)
  go stuck h true is e below = nothing_made y k (x ∷ ts) is (below e)
  go stuck h false is e below = absurd cc
  go unassigned h o is e below = absurd cc

zero : Expression
zero = expression (product (numeral 0) no_scales) no_sums

-- something can always stand in the place of what is wanted
complete : (k : Stack) → (ts : List Terminal) × Makes k ts
unfolding zero
complete [] = ([], refl)
complete (s.opening d ∷ k) = let m = complete k in (t.open_ ∷ m.0, (m.0, refl, m.1))
complete (s.closing d ∷ k) = let m = complete k in (t.close_ ∷ m.0, (m.0, refl, m.1))
complete (s.name d ∷ k) = let m = complete k in (t.name [] ∷ m.0, ([], m.0, refl, m.1))
complete (s.argument d ∷ k) = let m = complete k in (t.name [] ∷ m.0, (by_name [], m.0, refl, m.1))
complete (s.command d ∷ k) = let m = complete k in (t.name [] ∷ m.0, (name_ [], m.0, refl, m.1))
complete (s.others d ∷ k) = let m = complete k in (m.0, (no_others, m.0, refl, m.1))
complete (s.rows d ∷ k) = let m = complete k in (m.0, (no_rows, m.0, refl, m.1))
complete (s.for_ d ∷ k) = let m = complete k in (t.for_ ∷ m.0, (m.0, refl, m.1))
complete (s.excluded d ∷ k) = let m = complete k in (t.name [] ∷ m.0, (false, [], m.0, refl, m.1))
complete (s.subject d ∷ k) = let m = complete k in
    (t.name [] ∷ t.assigns assignments.Equals ∷ t.number 0 ∷ m.0, (assign_ [] assignments.Equals zero, m.0, refl, m.1))
complete (s.operator d ∷ k) = let m = complete k in
    (t.assigns assignments.Equals ∷ t.number 0 ∷ m.0, (λ n. assign_ n assignments.Equals zero, m.0, λ n. refl, m.1))
complete (s.comparison d ∷ k) = let m = complete k in (t.compares comparisons.Same ∷ m.0, (comparisons.Same, m.0, refl, m.1))
complete (s.factor d ∷ k) = let m = complete k in (t.number 0 ∷ m.0, (numeral 0, m.0, refl, m.1))
complete (s.scales d ∷ k) = let m = complete k in (m.0, (no_scales, m.0, refl, m.1))
complete (s.sums d ∷ k) = let m = complete k in (m.0, (no_sums, m.0, refl, m.1))
complete (s.starter d ∷ k) = let m = complete k in (m.0, (no_starter, m.0, refl, m.1))
complete (s.groups d ∷ k) = let m = complete k in (m.0, (bare [], m.0, refl, m.1))
complete (s.entries d ∷ k) = let m = complete k in (m.0, (λ x. bare (x ∷ []), m.0, λ x. refl, m.1))
complete (s.condition d ∷ k) = let m = complete k in (m.0, (None, m.0, λ q. refl, m.1))
complete (s.among d ∷ k) = let m = complete k in (t.among ∷ t.open_ ∷ t.close_ ∷ m.0, (no_starter, bare [], m.0, refl, m.1))
complete (s.inserts ∷ k) = let m = complete k in (t.inserts 0 0 ∷ m.0, (0, 0, m.0, refl, m.1))
complete (s.macro ∷ k) = let m = complete k in (t.macro_name [] ∷ m.0, ([], m.0, refl, m.1))
complete (s.base ∷ k) = let m = complete k in (m.0, (None, m.0, refl, m.1))
complete (s.literal ∷ k) = let m = complete k in (t.literal (record { spelling = []; value = [] }) ∷ m.0, (record { spelling = []; value = [] }, m.0, refl, m.1))
complete (s.definition ∷ k) = let m = complete k in (t.name [] ∷ m.0, (λ n. grouping n (by_name []) [], m.0, λ n. refl, m.1))
complete (s.terms ∷ k) = let m = complete k in (m.0, ([], m.0, refl, m.1))
complete (s.names ∷ k) = let m = complete k in (m.0, ([], m.0, refl, m.1))
complete (s.plain ∷ k) = let m = complete k in (t.string_escapes ∷ t.inserts 0 0 ∷ m.0, (escapes 0 0, m.0, refl, m.1))
complete (s.plains ∷ k) = let m = complete k in (m.0, ([], m.0, refl, m.1))
complete (s.item ∷ k) = let m = complete k in (t.string_escapes ∷ t.inserts 0 0 ∷ m.0, (plain (escapes 0 0), m.0, refl, m.1))
complete (s.items ∷ k) = let m = complete k in (m.0, ([], m.0, refl, m.1))

pub runs_made : (ps : List AtDepth) (k : Stack) (End : Stack → Type 0) → Runs ps k End → (rest : List Terminal) × Makes k (tokens ps ++ rest)
runs_made [] k End h = complete k
runs_made (p ∷ ps) k End h = let m = runs_made ps h.0 End h.2 in (m.0, step_made k h.0 p.0 p.1 (tokens ps ++ m.0) h.1 m.1)
