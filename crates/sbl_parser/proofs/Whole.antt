-- The whole reading, from its first stack.
use Rattle.std.proofs.Common.{◌≡◌, ◌⊎◌, inl, inr, ℕ, zero, suc, ◌+◌, ◌-◌, List, [], ◌∷◌, ◌++◌, length, drop, Option, Some, refl, sym, ap, subst, ◌∙◌, arith, length-append, length-drop}
use Rattle.std.proofs.lemmas.List.{length-map}
use Rattle.sbl_token.specs.declared.token.Token.{Token}
use Rattle.sbl_text.specs.declared.fault.ScriptFault.TheVariants as script
use Rattle.sbl_parser.specs.declared.error.ReadError.{ReadError}
use Rattle.sbl_parser.specs.declared.error.ReadError.TheVariants as errors
use Rattle.sbl_ast.specs.Terminal.{Terminal, terminal_of, terminals_of, tokens_left}
use Rattle.sbl_ast.specs.Terminal as t
use Rattle.sbl_token.specs.Lexemes.{lexeme_of}
use Rattle.sbl_ast.specs.Tree.{Item, Command, Others, Starter, Groups, among_, Argument, Term}
use Rattle.sbl_ast.specs.Spelled.{argument_terminal, spelled_command, spelled_terms, spelled_others, spelled_items}
use Rattle.sbl_ast.specs.Texts.{Text, TreeOf}
use Rattle.sbl_parser.specs.FirstStack.{first_stack}
use Rattle.sbl_ast.specs.Texts as texts
use Rattle.sbl_parser.specs.Steps.{Stack, Fault, items, fault, syntax, too_deep, no_operator}
use Rattle.sbl_parser.specs.Steps as s
use Rattle.sbl_parser.specs.TerminalReading.{IsReadAs, IsSyntaxAt, IsTooDeepAt, IsOutOfProfileAt}
use Rattle.sbl_parser.specs.Gives.{Fails, error_for}
use Rattle.sbl_parser.specs.FaultOffsets.{IsFaultOf, fault_at_offset}
use Rattle.sbl_parser.specs.Reading as reading
use Rattle.sbl_parser.proofs.Lexed.{left_lexed, syntax_to, too_deep_to, out_of_profile_to}
use Rattle.sbl_ast.proofs.PlacedTokens.{places_tokens, body_tokens, tree_tokens, terms_tokens}
use Rattle.sbl_parser.proofs.Faults.{is_read, is_syntax, is_too_deep, is_out_of_profile}

abbrev Ts : Type 0
Ts = List Terminal

left_length : (ts : List Token) (at : ℕ) → length (tokens_left ts at) + at ≡ length (drop at ts) + at
left_length ts at = ap (λ (n : ℕ). n + at) (length-map (drop at ts) _)

pub read_whole : (ts : List Token) (rest : Ts) (tree : List Item) → rest ≡ [] → terminals_of ts ≡ spelled_items tree rest → ((k : Stack) → fault (terminals_of ts) (items ∷ k) ≡ fault rest k) → IsReadAs texts.script (terminals_of ts) tree
read_whole ts rest tree none h g =
    is_read texts.script (terminals_of ts) tree (h ∙ ap (λ (r : Ts). spelled_items tree r) none ∙ sym (places_tokens tree)) (g [] ∙ ap (λ (r : Ts). fault r []) none)

-- ---- the place of an error

prefix_left : (ts : List Token) (at : ℕ) → (p : Ts) × (terminals_of ts ≡ p ++ tokens_left ts at)
prefix_left ts zero = ([], refl)
prefix_left [] (suc n) = ([], refl)
prefix_left (x ∷ ts) (suc n) = let m = prefix_left ts n in (terminal_of (lexeme_of x) ∷ m.0, ap (λ (r : Ts). terminal_of (lexeme_of x) ∷ r) m.1)

same_end : (p q s r : Ts) → p ++ s ≡ q ++ r → length s ≡ length r → s ≡ r
same_end [] [] s r e l = e
same_end [] (y ∷ q) s r e l = absurd (omega (arith, ap length e, length-append q r, l))
same_end (x ∷ p) [] s r e l = absurd (omega (arith, ap length e, length-append p s, l))
same_end (x ∷ p) (y ∷ q) s r e l = let below : p ++ s ≡ q ++ r = cc in same_end p q s r below l

-- the index of some of the last tokens
left_of : (ts : List Token) (before rest : Ts) (n : ℕ) → terminals_of ts ≡ before ++ rest → length rest ≡ n → tokens_left ts (length ts - n) ≡ rest
left_of ts before rest n parts is =
    let at = length ts - n in
    let prefix = prefix_left ts at in
    let all : length ts ≡ length before + length rest = omega (arith, length-map ts (λ x. terminal_of (lexeme_of x)), ap length parts, length-append before rest) in
    let same : length (tokens_left ts at) ≡ length rest = omega (arith, left_length ts at, length-drop at ts, all, is) in
    same_end prefix.0 before (tokens_left ts at) rest (sym prefix.1 ∙ parts) same

-- the fault of an error
syntax_for : (f : Option Fault) (n : ℕ) → error_for f ≡ Some (errors.Syntax n) → (rest : Ts) × (f ≡ Some (syntax rest)) × (length rest ≡ n)
syntax_for (Some (syntax rest)) n e = let is : length rest ≡ n = cc in (rest, refl, is)
syntax_for _ n e = absurd cc

too_deep_for : (f : Option Fault) (n : ℕ) → error_for f ≡ Some (errors.TooDeep n) → (rest : Ts) × (f ≡ Some (too_deep rest)) × (length rest ≡ n)
too_deep_for (Some (too_deep rest)) n e = let is : length rest ≡ n = cc in (rest, refl, is)
too_deep_for _ n e = absurd cc

no_operator_for : (f : Option Fault) (n : ℕ) → error_for f ≡ Some (errors.OutOfProfile n) → (rest : Ts) × (f ≡ Some (no_operator rest)) × (length rest ≡ n)
no_operator_for (Some (no_operator rest)) n e = let is : length rest ≡ n = cc in (rest, refl, is)
no_operator_for _ n e = absurd cc

pub fault_of : (w : Text) (ts : List Token) (end : ℕ) (e : ReadError) → Fails e (fault (terminals_of ts) (first_stack w)) → (fault_at_offset ts end e ≡ script.OutOfMemory) ⊎ IsFaultOf w ts end (fault_at_offset ts end e)
fault_of w ts end errors.Memory h = inl refl
fault_of w ts end (errors.Syntax n) h =
    let f = syntax_for (fault (terminals_of ts) (first_stack w)) n h in
    let stands = is_syntax w (terminals_of ts) f.0 f.1 in
    inr (length ts - n, refl, left_lexed (IsSyntaxAt w) (reading.IsSyntaxAt w) (syntax_to w) ts (length ts - n) (subst (λ (r : Ts). IsSyntaxAt w (terminals_of ts) r) (sym (left_of ts stands.before f.0 n stands.parts f.2)) stands))
fault_of w ts end (errors.TooDeep n) h =
    let f = too_deep_for (fault (terminals_of ts) (first_stack w)) n h in
    let stands = is_too_deep w (terminals_of ts) f.0 f.1 in
    inr (length ts - n, refl, left_lexed (IsTooDeepAt w) (reading.IsTooDeepAt w) (too_deep_to w) ts (length ts - n) (subst (λ (r : Ts). IsTooDeepAt w (terminals_of ts) r) (sym (left_of ts stands.before f.0 n stands.parts f.2)) stands))
fault_of w ts end (errors.OutOfProfile n) h =
    let f = no_operator_for (fault (terminals_of ts) (first_stack w)) n h in
    let found = is_out_of_profile w (terminals_of ts) f.0 f.1 in
    let stands = found.1 in
    let all : Ts = t.dollar ∷ t.name found.0 ∷ f.0 in
    let more : length all ≡ n + 2 = omega (arith, f.2) in
    let at : length ts - (n + 2) ≡ length ts - n - 2 = omega arith in
    inr (length ts - n - 2, refl, left_lexed (IsOutOfProfileAt w) (reading.IsOutOfProfileAt w) (out_of_profile_to w) ts (length ts - n - 2) (subst (λ (r : Ts). IsOutOfProfileAt w (terminals_of ts) r) (sym (left_of ts stands.before all (n + 2) stands.parts more) ∙ ap (λ (m : ℕ). tokens_left ts m) at) stands))

pub read_body : (ts : List Token) (rest : Ts) (b : Command × Others) → rest ≡ [] → terminals_of ts ≡ spelled_command b.0 (spelled_others b.1 rest) → ((k : Stack) → fault (terminals_of ts) (s.command 1 ∷ s.others 1 ∷ k) ≡ fault rest k) → IsReadAs texts.body (terminals_of ts) b
read_body ts rest b none h g =
    is_read texts.body (terminals_of ts) b (h ∙ ap (λ (r : Ts). spelled_command b.0 (spelled_others b.1 r)) none ∙ sym (body_tokens b.0 b.1)) (g [] ∙ ap (λ (r : Ts). fault r []) none)

pub read_among : (ts : List Token) (rest : Ts) (d : ℕ) (a : Starter × Groups) → rest ≡ [] → terminals_of ts ≡ spelled_command (among_ a.0 a.1) rest → ((k : Stack) → fault (terminals_of ts) (s.among d ∷ k) ≡ fault rest k) → IsReadAs (texts.among d) (terminals_of ts) a
read_among ts rest d a none h g =
    is_read (texts.among d) (terminals_of ts) a (h ∙ ap (λ (r : Ts). spelled_command (among_ a.0 a.1) r) none ∙ sym (tree_tokens (among_ a.0 a.1) d [])) (g [] ∙ ap (λ (r : Ts). fault r []) none)

pub read_terms : (ts : List Token) (rest : Ts) (x : Argument × List Term) → rest ≡ [] → terminals_of ts ≡ argument_terminal x.0 ∷ spelled_terms x.1 rest → ((k : Stack) → fault (terminals_of ts) (s.argument 0 ∷ s.terms ∷ k) ≡ fault rest k) → IsReadAs texts.terms (terminals_of ts) x
read_terms ts rest x none h g =
    is_read texts.terms (terminals_of ts) x (h ∙ ap (λ (r : Ts). argument_terminal x.0 ∷ spelled_terms x.1 r) none ∙ sym (ap (λ (r : Ts). argument_terminal x.0 ∷ r) (terms_tokens x.1 []))) (g [] ∙ ap (λ (r : Ts). fault r []) none)
