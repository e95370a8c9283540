-- One step of the reading, from what comes first.
use Rattle.std.proofs.Common.{◌≡◌, ℕ, ◌+◌, ◌<◌, ◌≤◌, Bool, true, false, List, [], ◌∷◌, drop, length, Option, Some, refl, sym, ap, subst, ◌∙◌, cond, arith}
use Rattle.std.specs.Prelude.{nat_lt}
use Rattle.std.proofs.lemmas.Bool.{lt-ltb, le-ltb}
use Rattle.sbl_parser.specs.declared.role.Role.TheVariants as roles
use Rattle.sbl_parser.specs.declared.error.ReadError.{ReadError}
use Rattle.sbl_ast.specs.declared.tree.Additive.TheVariants as additives
use Rattle.sbl_ast.specs.declared.tree.DeclarationKind.{DeclarationKind}
use Rattle.sbl_ast.specs.declared.tree.Base.{Base}
use Rattle.sbl_ast.specs.declared.tree.Joiner.{Joiner}
use Rattle.sbl_ast.specs.declared.tree.Simple.{Simple}
use Rattle.sbl_ast.specs.declared.tree.Prefix.{Prefix}
use Rattle.sbl_ast.specs.declared.tree.Count.{Count}
use Rattle.sbl_ast.specs.declared.tree.Move.{Move}
use Rattle.sbl_ast.specs.declared.tree.Naming.{Naming}
use Rattle.sbl_ast.specs.declared.tree.Splice.{Splice}
use Rattle.sbl_ast.specs.declared.tree.Additive.{Additive}
use Rattle.sbl_ast.specs.declared.tree.Multiplicative.{Multiplicative}
use Rattle.sbl_ast.specs.declared.tree.Assignment.{Assignment}
use Rattle.sbl_ast.specs.declared.tree.Comparison.{Comparison}
use Rattle.sbl_ast.specs.declared.tree.Constant.{Constant}
use Rattle.sbl_ast.specs.Terminal.{Terminal, terminal_of, terminals_of, word_terminal, sign_terminal}
use Rattle.sbl_parser.specs.Roles.{role_of}
use Rattle.sbl_ast.specs.Terminal as t
use Rattle.sbl_parser.specs.Starts.{begins_command, begins_plain, begins_item}
use Rattle.sbl_ast.specs.Places.{max_depth}
use Rattle.sbl_parser.specs.Steps.{Stack, Step, goes, stuck, step, Fault, syntax, too_deep, no_operator, fault, after_step}
use Rattle.sbl_parser.specs.Steps as s
use Rattle.sbl_parser.specs.Gives.{Fails, error_for}
use Rattle.sbl_parser.specs.declared.error.ReadError.TheVariants as errors
use Rattle.sbl_parser.proofs.RoleTokens.{as_terminal}

abbrev Ts : Type 0
Ts = List Terminal

-- ---- a token is taken

pub goes_on : (ts : Ts) (x : Terminal) (rest : Ts) (k next : Stack) (d : ℕ) → ts ≡ x ∷ rest → step k x ≡ goes d next → d ≤ max_depth → fault ts k ≡ fault rest next
goes_on ts x rest k next d e i low =
    let shallow : nat_lt max_depth d ≡ false = le-ltb max_depth d low in
    let one : fault (x ∷ rest) k ≡ after_step (goes d next) (fault rest) (x ∷ rest) = ap (λ (r : Step). after_step r (fault rest) (x ∷ rest)) i in
    ap (λ (r : Ts). fault r k) e ∙ one ∙ ap (λ (b : Bool). cond b (Some (too_deep (x ∷ rest))) (fault rest next)) shallow

-- the token stands too deep
pub sinks : (ts : Ts) (x : Terminal) (rest : Ts) (k next : Stack) (d : ℕ) → ts ≡ x ∷ rest → step k x ≡ goes d next → max_depth < d → fault ts k ≡ Some (too_deep ts)
sinks ts x rest k next d e i high =
    let deep : nat_lt max_depth d ≡ true = lt-ltb max_depth d high in
    let one : fault (x ∷ rest) k ≡ after_step (goes d next) (fault rest) (x ∷ rest) = ap (λ (r : Step). after_step r (fault rest) (x ∷ rest)) i in
    ap (λ (r : Ts). fault r k) e ∙ one ∙ ap (λ (b : Bool). cond b (Some (too_deep (x ∷ rest))) (fault rest next)) deep ∙ ap (λ (r : Ts). Some (too_deep r)) (sym e)

-- the first token, and what comes of those after it
pub took : (ts next : Ts) (x : Terminal) (k n : Stack) (d : ℕ) → ts ≡ x ∷ drop 1 ts → next ≡ drop 1 ts → step k x ≡ goes d n → d ≤ max_depth → fault ts k ≡ fault next n
took ts next x k n d e is i low = goes_on ts x (drop 1 ts) k n d e i low ∙ ap (λ (r : Ts). fault r n) (sym is)

pub head_of_drop : (ts next : Ts) (x : Terminal) → ts ≡ x ∷ drop 1 ts → next ≡ drop 1 ts → ts ≡ x ∷ next
head_of_drop ts next x e is = e ∙ ap (λ (r : Ts). x ∷ r) (sym is)

-- ---- the code's fault is the one found

pub fails_along : (e : ReadError) (f h : Option Fault) → f ≡ h → Fails e h → Fails e f
fails_along e f h same g = subst (λ (x : Option Fault). Fails e x) (sym same) g

pub fails : (e : ReadError) (f : Option Fault) → error_for f ≡ Some e → Fails e f
fails errors.Memory f is = tt
fails _ f is = is

pub refuses : (e : ReadError) (ts : Ts) (f : Option Fault) → e ≡ errors.Syntax (length ts) → f ≡ Some (syntax ts) → Fails e f
refuses e ts f is found = fails e f (ap (λ (x : Option Fault). error_for x) found ∙ ap (λ (x : ReadError). Some x) (sym is))

pub drowns : (e : ReadError) (ts : Ts) (f : Option Fault) → e ≡ errors.TooDeep (length ts) → f ≡ Some (too_deep ts) → Fails e f
drowns e ts f is found = fails e f (ap (λ (x : Option Fault). error_for x) found ∙ ap (λ (x : ReadError). Some x) (sym is))

-- a token is left at the end
pub ends : (ts : Ts) (n : ℕ) → n ≡ length ts → 0 < n → error_for (fault ts []) ≡ Some (errors.Syntax n)
ends [] n e some = absurd (omega (arith, e))
ends (x ∷ ts) n e some = ap (λ (m : ℕ). Some (errors.Syntax m)) (sym e)

-- ---- what cannot come, and what is skipped

pub refused_opening : (ts : Ts) (d : ℕ) (k : Stack) → (role_of ts ≡ roles.Open → ⊥) → fault ts (s.opening d ∷ k) ≡ Some (syntax ts)
refused_opening [] d k n0 = refl
refused_opening (t.open_ ∷ ts) d k n0 = absurd (n0 refl)
refused_opening (_ ∷ ts) d k n0 = refl

pub refused_closing : (ts : Ts) (d : ℕ) (k : Stack) → (role_of ts ≡ roles.Close → ⊥) → fault ts (s.closing d ∷ k) ≡ Some (syntax ts)
refused_closing [] d k n0 = refl
refused_closing (t.close_ ∷ ts) d k n0 = absurd (n0 refl)
refused_closing (_ ∷ ts) d k n0 = refl

pub refused_name : (ts : Ts) (d : ℕ) (k : Stack) → (role_of ts ≡ roles.Name → ⊥) → fault ts (s.name d ∷ k) ≡ Some (syntax ts)
refused_name [] d k n0 = refl
refused_name ((t.name n) ∷ ts) d k n0 = absurd (n0 refl)
refused_name (_ ∷ ts) d k n0 = refl

pub refused_argument : (ts : Ts) (d : ℕ) (k : Stack) → (role_of ts ≡ roles.Literal → ⊥) → (role_of ts ≡ roles.Name → ⊥) → fault ts (s.argument d ∷ k) ≡ Some (syntax ts)
refused_argument [] d k n0 n1 = refl
refused_argument ((t.literal q) ∷ ts) d k n0 n1 = absurd (n0 refl)
refused_argument ((t.name n) ∷ ts) d k n0 n1 = absurd (n1 refl)
refused_argument (_ ∷ ts) d k n0 n1 = refl

pub refused_for : (ts : Ts) (d : ℕ) (k : Stack) → (role_of ts ≡ roles.For → ⊥) → fault ts (s.for_ d ∷ k) ≡ Some (syntax ts)
refused_for [] d k n0 = refl
refused_for (t.for_ ∷ ts) d k n0 = absurd (n0 refl)
refused_for (_ ∷ ts) d k n0 = refl

pub refused_among : (ts : Ts) (d : ℕ) (k : Stack) → (role_of ts ≡ roles.Among → ⊥) → fault ts (s.among d ∷ k) ≡ Some (syntax ts)
refused_among [] d k n0 = refl
refused_among (t.among ∷ ts) d k n0 = absurd (n0 refl)
refused_among (_ ∷ ts) d k n0 = refl

-- where an among comes, it may stand for any command
pub among_first : (ts : Ts) (d : ℕ) (k : Stack) → role_of ts ≡ roles.Among → fault ts (s.command d ∷ k) ≡ fault ts (s.among d ∷ k)
among_first ts d k e = let f = as_terminal ts t.among refl e in ap (λ (r : Ts). fault r (s.command d ∷ k)) f ∙ ap (λ (r : Ts). fault r (s.among d ∷ k)) (sym f)

pub refused_excluded : (ts : Ts) (d : ℕ) (k : Stack) → ((o : Additive) → role_of ts ≡ roles.Additive o → ⊥) → (role_of ts ≡ roles.Name → ⊥) → fault ts (s.excluded d ∷ k) ≡ Some (syntax ts)
refused_excluded [] d k n0 n1 = refl
refused_excluded ((t.additive o) ∷ ts) d k n0 n1 = absurd (n0 o refl)
refused_excluded ((t.name n) ∷ ts) d k n0 n1 = absurd (n1 refl)
refused_excluded (_ ∷ ts) d k n0 n1 = refl

pub refused_subject : (ts : Ts) (d : ℕ) (k : Stack) → (role_of ts ≡ roles.Name → ⊥) → (role_of ts ≡ roles.Open → ⊥) → fault ts (s.subject d ∷ k) ≡ Some (syntax ts)
refused_subject [] d k n0 n1 = refl
refused_subject ((t.name n) ∷ ts) d k n0 n1 = absurd (n0 refl)
refused_subject (t.open_ ∷ ts) d k n0 n1 = absurd (n1 refl)
refused_subject (_ ∷ ts) d k n0 n1 = refl

pub refused_comparison : (ts : Ts) (d : ℕ) (k : Stack) → ((o : Comparison) → role_of ts ≡ roles.Comparison o → ⊥) → fault ts (s.comparison d ∷ k) ≡ Some (syntax ts)
refused_comparison [] d k n0 = refl
refused_comparison ((t.compares o) ∷ ts) d k n0 = absurd (n0 o refl)
refused_comparison (_ ∷ ts) d k n0 = refl

pub refused_factor : (ts : Ts) (d : ℕ) (k : Stack) → ((o : Additive) → role_of ts ≡ roles.Additive o → ⊥) → (role_of ts ≡ roles.Open → ⊥) → (role_of ts ≡ roles.Number → ⊥) → (role_of ts ≡ roles.Name → ⊥) → ((o : Constant) → role_of ts ≡ roles.Constant o → ⊥) → (role_of ts ≡ roles.LenOf → ⊥) → fault ts (s.factor d ∷ k) ≡ Some (syntax ts)
refused_factor [] d k n0 n1 n2 n3 n4 n5 = refl
refused_factor ((t.additive o) ∷ ts) d k n0 n1 n2 n3 n4 n5 = absurd (n0 o refl)
refused_factor (t.open_ ∷ ts) d k n0 n1 n2 n3 n4 n5 = absurd (n1 refl)
refused_factor ((t.number n) ∷ ts) d k n0 n1 n2 n3 n4 n5 = absurd (n2 refl)
refused_factor ((t.name n) ∷ ts) d k n0 n1 n2 n3 n4 n5 = absurd (n3 refl)
refused_factor ((t.constant o) ∷ ts) d k n0 n1 n2 n3 n4 n5 = absurd (n4 o refl)
refused_factor (t.len_of ∷ ts) d k n0 n1 n2 n3 n4 n5 = absurd (n5 refl)
refused_factor (_ ∷ ts) d k n0 n1 n2 n3 n4 n5 = refl

pub refused_inserts : (ts : Ts) (k : Stack) → (role_of ts ≡ roles.Inserts → ⊥) → fault ts (s.inserts ∷ k) ≡ Some (syntax ts)
refused_inserts [] k n0 = refl
refused_inserts ((t.inserts a b) ∷ ts) k n0 = absurd (n0 refl)
refused_inserts (_ ∷ ts) k n0 = refl

pub refused_macro : (ts : Ts) (k : Stack) → (role_of ts ≡ roles.MacroName → ⊥) → fault ts (s.macro ∷ k) ≡ Some (syntax ts)
refused_macro [] k n0 = refl
refused_macro ((t.macro_name n) ∷ ts) k n0 = absurd (n0 refl)
refused_macro (_ ∷ ts) k n0 = refl

pub refused_literal : (ts : Ts) (k : Stack) → (role_of ts ≡ roles.Literal → ⊥) → fault ts (s.literal ∷ k) ≡ Some (syntax ts)
refused_literal [] k n0 = refl
refused_literal ((t.literal q) ∷ ts) k n0 = absurd (n0 refl)
refused_literal (_ ∷ ts) k n0 = refl

pub refused_definition : (ts : Ts) (k : Stack) → (role_of ts ≡ roles.As → ⊥) → (role_of ts ≡ roles.Literal → ⊥) → (role_of ts ≡ roles.Name → ⊥) → fault ts (s.definition ∷ k) ≡ Some (syntax ts)
refused_definition [] k n0 n1 n2 = refl
refused_definition (t.as_ ∷ ts) k n0 n1 n2 = absurd (n0 refl)
refused_definition ((t.literal q) ∷ ts) k n0 n1 n2 = absurd (n1 refl)
refused_definition ((t.name n) ∷ ts) k n0 n1 n2 = absurd (n2 refl)
refused_definition (_ ∷ ts) k n0 n1 n2 = refl

pub skips_scales : (ts : Ts) (d : ℕ) (k : Stack) → ((o : Multiplicative) → role_of ts ≡ roles.Multiplicative o → ⊥) → fault ts (s.scales d ∷ k) ≡ fault ts k
skips_scales [] d k n0 = refl
skips_scales ((t.multiplicative o) ∷ ts) d k n0 = absurd (n0 o refl)
skips_scales (_ ∷ ts) d k n0 = refl

pub skips_sums : (ts : Ts) (d : ℕ) (k : Stack) → ((o : Additive) → role_of ts ≡ roles.Additive o → ⊥) → fault ts (s.sums d ∷ k) ≡ fault ts k
skips_sums [] d k n0 = refl
skips_sums ((t.additive o) ∷ ts) d k n0 = absurd (n0 o refl)
skips_sums (_ ∷ ts) d k n0 = refl

pub skips_others : (ts : Ts) (d : ℕ) (k : Stack) → ((o : Joiner) → role_of ts ≡ roles.Joiner o → ⊥) → fault ts (s.others d ∷ k) ≡ fault ts k
skips_others [] d k n0 = refl
skips_others ((t.joiner o) ∷ ts) d k n0 = absurd (n0 o refl)
skips_others (_ ∷ ts) d k n0 = refl

pub skips_starter : (ts : Ts) (d : ℕ) (k : Stack) → (role_of ts ≡ roles.Open → ⊥) → fault ts (s.starter d ∷ k) ≡ fault ts k
skips_starter [] d k n0 = refl
skips_starter (t.open_ ∷ ts) d k n0 = absurd (n0 refl)
skips_starter (_ ∷ ts) d k n0 = refl

pub skips_groups : (ts : Ts) (d : ℕ) (k : Stack) → (role_of ts ≡ roles.Literal → ⊥) → fault ts (s.groups d ∷ k) ≡ fault ts k
skips_groups [] d k n0 = refl
skips_groups ((t.literal q) ∷ ts) d k n0 = absurd (n0 refl)
skips_groups (_ ∷ ts) d k n0 = refl

pub skips_entries : (ts : Ts) (d : ℕ) (k : Stack) → (role_of ts ≡ roles.Literal → ⊥) → (role_of ts ≡ roles.Open → ⊥) → fault ts (s.entries d ∷ k) ≡ fault ts k
skips_entries [] d k n0 n1 = refl
skips_entries ((t.literal q) ∷ ts) d k n0 n1 = absurd (n0 refl)
skips_entries (t.open_ ∷ ts) d k n0 n1 = absurd (n1 refl)
skips_entries (_ ∷ ts) d k n0 n1 = refl

pub skips_condition : (ts : Ts) (d : ℕ) (k : Stack) → (role_of ts ≡ roles.Name → ⊥) → fault ts (s.condition d ∷ k) ≡ fault ts k
skips_condition [] d k n0 = refl
skips_condition ((t.name n) ∷ ts) d k n0 = absurd (n0 refl)
skips_condition (_ ∷ ts) d k n0 = refl

pub skips_base : (ts : Ts) (k : Stack) → ((o : Base) → role_of ts ≡ roles.Base o → ⊥) → fault ts (s.base ∷ k) ≡ fault ts k
skips_base [] k n0 = refl
skips_base ((t.base o) ∷ ts) k n0 = absurd (n0 o refl)
skips_base (_ ∷ ts) k n0 = refl

pub skips_terms : (ts : Ts) (k : Stack) → ((o : Additive) → role_of ts ≡ roles.Additive o → ⊥) → fault ts (s.terms ∷ k) ≡ fault ts k
skips_terms [] k n0 = refl
skips_terms ((t.additive o) ∷ ts) k n0 = absurd (n0 o refl)
skips_terms (_ ∷ ts) k n0 = refl

pub skips_names : (ts : Ts) (k : Stack) → (role_of ts ≡ roles.Name → ⊥) → fault ts (s.names ∷ k) ≡ fault ts k
skips_names [] k n0 = refl
skips_names ((t.name n) ∷ ts) k n0 = absurd (n0 refl)
skips_names (_ ∷ ts) k n0 = refl

pub refused_command : (ts : Ts) (d : ℕ) (k : Stack) → begins_command (role_of ts) ≡ false → fault ts (s.command d ∷ k) ≡ Some (syntax ts)
refused_command [] d k e = refl
refused_command (t.open_ ∷ ts) d k e = absurd cc
refused_command ((t.simple o) ∷ ts) d k e = absurd cc
refused_command ((t.literal q) ∷ ts) d k e = absurd cc
refused_command ((t.name n) ∷ ts) d k e = absurd cc
refused_command (t.non ∷ ts) d k e = absurd cc
refused_command ((t.prefix o) ∷ ts) d k e = absurd cc
refused_command ((t.count o) ∷ ts) d k e = absurd cc
refused_command ((t.move o) ∷ ts) d k e = absurd cc
refused_command ((t.naming o) ∷ ts) d k e = absurd cc
refused_command ((t.edit o) ∷ ts) d k e = absurd cc
refused_command (t.set_limit ∷ ts) d k e = absurd cc
refused_command (t.dollar ∷ ts) d k e = absurd cc
refused_command (t.among ∷ ts) d k e = absurd cc
refused_command (_ ∷ ts) d k e = refl

pub skips_rows : (ts : Ts) (d : ℕ) (k : Stack) → begins_command (role_of ts) ≡ false → fault ts (s.rows d ∷ k) ≡ fault ts k
skips_rows [] d k e = refl
skips_rows (t.open_ ∷ ts) d k e = absurd cc
skips_rows ((t.simple o) ∷ ts) d k e = absurd cc
skips_rows ((t.literal q) ∷ ts) d k e = absurd cc
skips_rows ((t.name n) ∷ ts) d k e = absurd cc
skips_rows (t.non ∷ ts) d k e = absurd cc
skips_rows ((t.prefix o) ∷ ts) d k e = absurd cc
skips_rows ((t.count o) ∷ ts) d k e = absurd cc
skips_rows ((t.move o) ∷ ts) d k e = absurd cc
skips_rows ((t.naming o) ∷ ts) d k e = absurd cc
skips_rows ((t.edit o) ∷ ts) d k e = absurd cc
skips_rows (t.set_limit ∷ ts) d k e = absurd cc
skips_rows (t.dollar ∷ ts) d k e = absurd cc
skips_rows (t.among ∷ ts) d k e = absurd cc
skips_rows (_ ∷ ts) d k e = refl

pub refused_plain : (ts : Ts) (k : Stack) → begins_plain (role_of ts) ≡ false → fault ts (s.plain ∷ k) ≡ Some (syntax ts)
refused_plain [] k e = refl
refused_plain ((t.declares o) ∷ ts) k e = absurd cc
refused_plain (t.string_escapes ∷ ts) k e = absurd cc
refused_plain (t.string_def ∷ ts) k e = absurd cc
refused_plain (t.define ∷ ts) k e = absurd cc
refused_plain (_ ∷ ts) k e = refl

pub skips_plains : (ts : Ts) (k : Stack) → begins_plain (role_of ts) ≡ false → fault ts (s.plains ∷ k) ≡ fault ts k
skips_plains [] k e = refl
skips_plains ((t.declares o) ∷ ts) k e = absurd cc
skips_plains (t.string_escapes ∷ ts) k e = absurd cc
skips_plains (t.string_def ∷ ts) k e = absurd cc
skips_plains (t.define ∷ ts) k e = absurd cc
skips_plains (_ ∷ ts) k e = refl

pub refused_item : (ts : Ts) (k : Stack) → begins_item (role_of ts) ≡ false → fault ts (s.item ∷ k) ≡ Some (syntax ts)
refused_item [] k e = refl
refused_item ((t.declares o) ∷ ts) k e = absurd cc
refused_item (t.string_escapes ∷ ts) k e = absurd cc
refused_item (t.string_def ∷ ts) k e = absurd cc
refused_item (t.define ∷ ts) k e = absurd cc
refused_item (t.backward_mode ∷ ts) k e = absurd cc
refused_item (_ ∷ ts) k e = refl

pub skips_items : (ts : Ts) (k : Stack) → begins_item (role_of ts) ≡ false → fault ts (s.items ∷ k) ≡ fault ts k
skips_items [] k e = refl
skips_items ((t.declares o) ∷ ts) k e = absurd cc
skips_items (t.string_escapes ∷ ts) k e = absurd cc
skips_items (t.string_def ∷ ts) k e = absurd cc
skips_items (t.define ∷ ts) k e = absurd cc
skips_items (t.backward_mode ∷ ts) k e = absurd cc
skips_items (_ ∷ ts) k e = refl

pub row_first : (ts : Ts) (d : ℕ) (k : Stack) → begins_command (role_of ts) ≡ true → fault ts (s.rows d ∷ k) ≡ fault ts (s.command d ∷ s.others d ∷ s.rows d ∷ k)
row_first [] d k e = absurd cc
row_first (t.open_ ∷ ts) d k e = refl
row_first ((t.simple o) ∷ ts) d k e = refl
row_first ((t.literal q) ∷ ts) d k e = refl
row_first ((t.name n) ∷ ts) d k e = refl
row_first (t.non ∷ ts) d k e = refl
row_first ((t.prefix o) ∷ ts) d k e = refl
row_first ((t.count o) ∷ ts) d k e = refl
row_first ((t.move o) ∷ ts) d k e = refl
row_first ((t.naming o) ∷ ts) d k e = refl
row_first ((t.edit o) ∷ ts) d k e = refl
row_first (t.set_limit ∷ ts) d k e = refl
row_first (t.dollar ∷ ts) d k e = refl
row_first (t.among ∷ ts) d k e = refl
row_first (_ ∷ ts) d k e = absurd cc

pub plain_first : (ts : Ts) (k : Stack) → begins_plain (role_of ts) ≡ true → fault ts (s.plains ∷ k) ≡ fault ts (s.plain ∷ s.plains ∷ k)
plain_first [] k e = absurd cc
plain_first ((t.declares o) ∷ ts) k e = refl
plain_first (t.string_escapes ∷ ts) k e = refl
plain_first (t.string_def ∷ ts) k e = refl
plain_first (t.define ∷ ts) k e = refl
plain_first (_ ∷ ts) k e = absurd cc

pub item_first : (ts : Ts) (k : Stack) → begins_item (role_of ts) ≡ true → fault ts (s.items ∷ k) ≡ fault ts (s.item ∷ s.items ∷ k)
item_first [] k e = absurd cc
item_first ((t.declares o) ∷ ts) k e = refl
item_first (t.string_escapes ∷ ts) k e = refl
item_first (t.string_def ∷ ts) k e = refl
item_first (t.define ∷ ts) k e = refl
item_first (t.backward_mode ∷ ts) k e = refl
item_first (_ ∷ ts) k e = absurd cc

pub item_plain : (ts : Ts) (k : Stack) → begins_plain (role_of ts) ≡ true → fault ts (s.item ∷ k) ≡ fault ts (s.plain ∷ k)
item_plain [] k e = absurd cc
item_plain ((t.declares o) ∷ ts) k e = refl
item_plain (t.string_escapes ∷ ts) k e = refl
item_plain (t.string_def ∷ ts) k e = refl
item_plain (t.define ∷ ts) k e = refl
item_plain (_ ∷ ts) k e = absurd cc

pub excluded_plus : (ts : Ts) (d : ℕ) (k : Stack) → role_of ts ≡ roles.Additive additives.Plus → fault ts (s.excluded d ∷ k) ≡ Some (syntax ts)
excluded_plus ts d k e = let f = as_terminal ts (t.additive additives.Plus) refl e in ap (λ (r : Ts). fault r (s.excluded d ∷ k)) f ∙ ap (λ (r : Ts). Some (syntax r)) (sym f)

pub factor_plus : (ts : Ts) (d : ℕ) (k : Stack) → role_of ts ≡ roles.Additive additives.Plus → fault ts (s.factor d ∷ k) ≡ Some (syntax ts)
factor_plus ts d k e = let f = as_terminal ts (t.additive additives.Plus) refl e in ap (λ (r : Ts). fault r (s.factor d ∷ k)) f ∙ ap (λ (r : Ts). Some (syntax r)) (sym f)

-- after `$` and a name
pub refused_operator : (ts : Ts) (d : ℕ) (k : Stack) → (role_of ts ≡ roles.End → ⊥) → ((o : Assignment) → role_of ts ≡ roles.Assignment o → ⊥) → ((o : Comparison) → role_of ts ≡ roles.Comparison o → ⊥)
    → fault ts (s.operator d ∷ k) ≡ Some (no_operator ts)
refused_operator [] d k n0 n1 n2 = absurd (n0 refl)
refused_operator (t.assigns o ∷ ts) d k n0 n1 n2 = absurd (n1 o refl)
refused_operator (t.compares o ∷ ts) d k n0 n1 n2 = absurd (n2 o refl)
refused_operator (_ ∷ ts) d k n0 n1 n2 = refl

pub ended_operator : (ts : Ts) (d : ℕ) (k : Stack) → role_of ts ≡ roles.End → fault ts (s.operator d ∷ k) ≡ Some (syntax ts)
ended_operator [] d k e = refl
ended_operator (t.open_ ∷ ts) d k e = absurd cc
ended_operator (_ ∷ ts) d k e = absurd cc

-- a command too deep
pub deep_command : (ts : Ts) (d : ℕ) (k : Stack) → begins_command (role_of ts) ≡ true → max_depth < d → fault ts (s.command d ∷ k) ≡ Some (too_deep ts)
deep_command [] d k e lt = absurd cc
deep_command (t.open_ ∷ ts) d k e lt = sinks (t.open_ ∷ ts) t.open_ ts (s.command d ∷ k) (s.rows (d + 1) ∷ s.closing d ∷ k) d refl refl lt
deep_command ((t.simple o) ∷ ts) d k e lt = sinks ((t.simple o) ∷ ts) (t.simple o) ts (s.command d ∷ k) (k) d refl refl lt
deep_command ((t.literal q) ∷ ts) d k e lt = sinks ((t.literal q) ∷ ts) (t.literal q) ts (s.command d ∷ k) (k) d refl refl lt
deep_command ((t.name n) ∷ ts) d k e lt = sinks ((t.name n) ∷ ts) (t.name n) ts (s.command d ∷ k) (k) d refl refl lt
deep_command (t.non ∷ ts) d k e lt = sinks (t.non ∷ ts) t.non ts (s.command d ∷ k) (s.excluded d ∷ k) d refl refl lt
deep_command ((t.prefix o) ∷ ts) d k e lt = sinks ((t.prefix o) ∷ ts) (t.prefix o) ts (s.command d ∷ k) (s.command (d + 1) ∷ k) d refl refl lt
deep_command ((t.count o) ∷ ts) d k e lt = sinks ((t.count o) ∷ ts) (t.count o) ts (s.command d ∷ k) (s.expression d (s.command (d + 1) ∷ k)) d refl refl lt
deep_command ((t.move o) ∷ ts) d k e lt = sinks ((t.move o) ∷ ts) (t.move o) ts (s.command d ∷ k) (s.expression d k) d refl refl lt
deep_command ((t.naming o) ∷ ts) d k e lt = sinks ((t.naming o) ∷ ts) (t.naming o) ts (s.command d ∷ k) (s.name d ∷ k) d refl refl lt
deep_command ((t.edit o) ∷ ts) d k e lt = sinks ((t.edit o) ∷ ts) (t.edit o) ts (s.command d ∷ k) (s.argument d ∷ k) d refl refl lt
deep_command (t.set_limit ∷ ts) d k e lt = sinks (t.set_limit ∷ ts) t.set_limit ts (s.command d ∷ k) (s.command (d + 1) ∷ s.for_ d ∷ s.command (d + 1) ∷ k) d refl refl lt
deep_command (t.dollar ∷ ts) d k e lt = sinks (t.dollar ∷ ts) t.dollar ts (s.command d ∷ k) (s.subject d ∷ k) d refl refl lt
deep_command (t.among ∷ ts) d k e lt = sinks (t.among ∷ ts) t.among ts (s.command d ∷ k) (s.opening d ∷ s.starter d ∷ s.groups d ∷ s.closing d ∷ k) d refl refl lt
deep_command (_ ∷ ts) d k e lt = absurd cc

pub refused_all : (ts : Ts) (d : ℕ) (k : Stack) → (role_of ts ≡ roles.Open → ⊥) → ((o : Simple) → role_of ts ≡ roles.Simple o → ⊥) → (role_of ts ≡ roles.Literal → ⊥) → (role_of ts ≡ roles.Name → ⊥) → (role_of ts ≡ roles.Non → ⊥) → ((o : Prefix) → role_of ts ≡ roles.Prefix o → ⊥) → ((o : Count) → role_of ts ≡ roles.Count o → ⊥) → ((o : Move) → role_of ts ≡ roles.Move o → ⊥) → ((o : Naming) → role_of ts ≡ roles.Naming o → ⊥) → ((o : Splice) → role_of ts ≡ roles.Splice o → ⊥) → (role_of ts ≡ roles.SetLimit → ⊥) → (role_of ts ≡ roles.Dollar → ⊥) → (role_of ts ≡ roles.Among → ⊥) → fault ts (s.command d ∷ k) ≡ Some (syntax ts)
refused_all [] d k n0 n1 n2 n3 n4 n5 n6 n7 n8 n9 n10 n11 n12 = refl
refused_all (t.open_ ∷ ts) d k n0 n1 n2 n3 n4 n5 n6 n7 n8 n9 n10 n11 n12 = absurd (n0 refl)
refused_all ((t.simple o) ∷ ts) d k n0 n1 n2 n3 n4 n5 n6 n7 n8 n9 n10 n11 n12 = absurd (n1 o refl)
refused_all ((t.literal q) ∷ ts) d k n0 n1 n2 n3 n4 n5 n6 n7 n8 n9 n10 n11 n12 = absurd (n2 refl)
refused_all ((t.name n) ∷ ts) d k n0 n1 n2 n3 n4 n5 n6 n7 n8 n9 n10 n11 n12 = absurd (n3 refl)
refused_all (t.non ∷ ts) d k n0 n1 n2 n3 n4 n5 n6 n7 n8 n9 n10 n11 n12 = absurd (n4 refl)
refused_all ((t.prefix o) ∷ ts) d k n0 n1 n2 n3 n4 n5 n6 n7 n8 n9 n10 n11 n12 = absurd (n5 o refl)
refused_all ((t.count o) ∷ ts) d k n0 n1 n2 n3 n4 n5 n6 n7 n8 n9 n10 n11 n12 = absurd (n6 o refl)
refused_all ((t.move o) ∷ ts) d k n0 n1 n2 n3 n4 n5 n6 n7 n8 n9 n10 n11 n12 = absurd (n7 o refl)
refused_all ((t.naming o) ∷ ts) d k n0 n1 n2 n3 n4 n5 n6 n7 n8 n9 n10 n11 n12 = absurd (n8 o refl)
refused_all ((t.edit o) ∷ ts) d k n0 n1 n2 n3 n4 n5 n6 n7 n8 n9 n10 n11 n12 = absurd (n9 o refl)
refused_all (t.set_limit ∷ ts) d k n0 n1 n2 n3 n4 n5 n6 n7 n8 n9 n10 n11 n12 = absurd (n10 refl)
refused_all (t.dollar ∷ ts) d k n0 n1 n2 n3 n4 n5 n6 n7 n8 n9 n10 n11 n12 = absurd (n11 refl)
refused_all (t.among ∷ ts) d k n0 n1 n2 n3 n4 n5 n6 n7 n8 n9 n10 n11 n12 = absurd (n12 refl)
refused_all (_ ∷ ts) d k n0 n1 n2 n3 n4 n5 n6 n7 n8 n9 n10 n11 n12 = refl

pub definition_terms : (ts : Ts) (k : Stack) → (role_of ts ≡ roles.As → ⊥) → fault ts (s.definition ∷ k) ≡ fault ts (s.argument 0 ∷ s.terms ∷ k)
definition_terms [] k n = refl
definition_terms (t.as_ ∷ ts) k n = absurd (n refl)
definition_terms (t.literal q ∷ ts) k n = refl
definition_terms (t.name m ∷ ts) k n = refl
definition_terms (_ ∷ ts) k n = refl

pub item_other : (ts : Ts) (k : Stack) → (role_of ts ≡ roles.BackwardMode → ⊥) → fault ts (s.item ∷ k) ≡ fault ts (s.plain ∷ k)
item_other [] k n = refl
item_other (t.backward_mode ∷ ts) k n = absurd (n refl)
item_other (_ ∷ ts) k n = refl

pub refused_plain_all : (ts : Ts) (k : Stack) → ((o : DeclarationKind) → role_of ts ≡ roles.Declares o → ⊥) → (role_of ts ≡ roles.StringEscapes → ⊥) → (role_of ts ≡ roles.StringDef → ⊥) → (role_of ts ≡ roles.Define → ⊥)
    → fault ts (s.plain ∷ k) ≡ Some (syntax ts)
refused_plain_all [] k n0 n1 n2 n3 = refl
refused_plain_all (t.declares o ∷ ts) k n0 n1 n2 n3 = absurd (n0 o refl)
refused_plain_all (t.string_escapes ∷ ts) k n0 n1 n2 n3 = absurd (n1 refl)
refused_plain_all (t.string_def ∷ ts) k n0 n1 n2 n3 = absurd (n2 refl)
refused_plain_all (t.define ∷ ts) k n0 n1 n2 n3 = absurd (n3 refl)
refused_plain_all (_ ∷ ts) k n0 n1 n2 n3 = refl
