-- The fault of the steps is the fault that the trees define.
use Rattle.std.proofs.Common.{◌≡◌, ℕ, ◌+◌, ◌<◌, ◌≤◌, Bool, true, false, List, [], ◌∷◌, ◌++◌, Some, None, refl, sym, ap, subst, ◌∙◌, append_assoc, arith}
use Rattle.std.specs.Prelude.{if◌then◌else◌, nat_lt}
use Rattle.std.specs.List.{AllByRecursion}
use Rattle.std.proofs.lemmas.List.{append-nil, map-append}
use Rattle.std.proofs.lemmas.Bool.{ltb-true, ltb-false}
use Rattle.sbl_ast.specs.Terminal.{Terminal}
use Rattle.sbl_ast.specs.Terminal as t
use Rattle.sbl_ast.specs.Tree.{among_}
use Rattle.sbl_ast.specs.Spelled.{argument_terminal, spelled_command, spelled_others, spelled_terms, spelled_items}
use Rattle.sbl_ast.specs.TerminalPlaces.{AtDepth, tokens, places_in, tokens_of}
use Rattle.sbl_ast.specs.Places.{max_depth}
use Rattle.sbl_parser.specs.Steps.{Stack, Step, goes, stuck, unassigned, is_done, step, Fault, syntax, too_deep, no_operator, fault, after_step}
use Rattle.sbl_parser.specs.TerminalReading.{IsPrefix, IsTooDeep, HasNoneTooDeep, IsReadAs, CannotFollow, StopsAt, IsSyntaxAt, IsTooDeepAt, IsOutOfProfileAt}
use Rattle.sbl_ast.specs.Texts.{Text, TreeOf}
use Rattle.sbl_parser.specs.FirstStack.{first_stack}
use Rattle.sbl_ast.specs.Texts as texts
use Rattle.sbl_parser.proofs.Runs.{text_runs}
use Rattle.sbl_parser.proofs.Followers.{Runs, IsDone}
use Rattle.sbl_parser.proofs.Viable.{runs_made}
use Rattle.sbl_parser.proofs.Operators.{came, wants}
use Rattle.sbl_ast.proofs.PlacedTokens.{cons, tree_tokens, terms_tokens, places_tokens, body_tokens}

abbrev Ts : Type 0
Ts = List Terminal

-- what was passed is a prefix of a tree's tokens
prefix_of : (w : Text) (ps : List AtDepth) (End : Stack → Type 0) → Runs ps (first_stack w) End → IsPrefix w (tokens ps)
prefix_of texts.script ps End h = let m = runs_made ps _ End h in (m.1.0, m.0, places_tokens m.1.0 ∙ sym (m.1.2 ∙ ap (λ (r : Ts). spelled_items m.1.0 r) m.1.3))
prefix_of texts.body ps End h =
    let m = runs_made ps _ End h in
    ((m.1.0, m.1.3.0), m.0, body_tokens m.1.0 m.1.3.0 ∙ sym (m.1.2 ∙ ap (λ (r : Ts). spelled_command m.1.0 r) (m.1.3.2 ∙ ap (λ (r : Ts). spelled_others m.1.3.0 r) m.1.3.3)))
prefix_of texts.terms ps End h =
    let m = runs_made ps _ End h in
    ((m.1.0, m.1.3.0), m.0, cons (argument_terminal m.1.0) (terms_tokens m.1.3.0 []) ∙ sym (m.1.2 ∙ cons (argument_terminal m.1.0) (m.1.3.2 ∙ ap (λ (r : Ts). spelled_terms m.1.3.0 r) m.1.3.3)))
prefix_of (texts.among d) ps End h =
    let m = runs_made ps _ End h in
    ((m.1.0, m.1.1), m.0, tree_tokens (among_ m.1.0 m.1.1) d [] ∙ sym (m.1.3 ∙ ap (λ (r : Ts). spelled_command (among_ m.1.0 m.1.1) r) m.1.4))

-- ---- steps are determined by the tokens

abbrev Meets : List AtDepth → List AtDepth → List Terminal → (Stack → Type 0) → (Stack → Type 0) → Type 0
Meets ps qs more P Q = (end : Stack) × (rest : List AtDepth) × P end × Runs rest end Q × (tokens rest ≡ more) × (qs ≡ ps ++ rest)

same_goes : (d e : ℕ) (k n : Stack) → goes d k ≡ goes e n → (d ≡ e) × (k ≡ n)
same_goes d e k n h = (cc, cc)

same_placed : (a b : AtDepth) → a.1 ≡ b.1 → a.0 ≡ b.0 → a ≡ b
same_placed a b e x = ap (λ (z : Terminal). (z, a.1)) x ∙ ap (λ (n : ℕ). (b.0, n)) e

joined_up : (a b : AtDepth) (xs ys : List AtDepth) → a ≡ b → xs ≡ ys → a ∷ xs ≡ b ∷ ys
joined_up a b xs ys x y = cc

meets : (ps qs : List AtDepth) (more : List Terminal) (k : Stack) (P Q : Stack → Type 0) → tokens qs ≡ tokens ps ++ more → Runs ps k P → Runs qs k Q → Meets ps qs more P Q
meets [] qs more k P Q e h g = (k, qs, h, g, e, refl)
meets (p ∷ ps) [] more k P Q e h g = absurd cc
meets (p ∷ ps) (q ∷ qs) more k P Q e h g =
    let same : q.0 ≡ p.0 = cc in
    let tail : tokens qs ≡ tokens ps ++ more = cc in
    let step_q : step k p.0 ≡ goes q.1 g.0 = subst (λ (x : Terminal). step k x ≡ goes q.1 g.0) same g.1 in
    let both = same_goes q.1 p.1 g.0 h.0 (sym step_q ∙ h.1) in
    let m = meets ps qs more h.0 P Q tail h.2 (subst (λ (n : Stack). Runs qs n Q) both.1 g.2) in
    (m.0, m.1, m.2, m.3, m.4, joined_up q p qs (ps ++ m.1) (same_placed q p both.0 same) m.5)

splits : (ps qs : List AtDepth) (k : Stack) (End : Stack → Type 0) → Runs (ps ++ qs) k End → Runs ps k (λ end. Runs qs end End)
splits [] qs k End h = h
splits (p ∷ ps) qs k End h = (h.0, h.1, splits ps qs h.0 End h.2)

joins : (ps qs : List AtDepth) (k : Stack) (P Q : Stack → Type 0) → ((end : Stack) → P end → Runs qs end Q) → Runs ps k P → Runs (ps ++ qs) k Q
joins [] qs k P Q f h = f k h
joins (p ∷ ps) qs k P Q f h = (h.0, h.1, joins ps qs h.0 P Q f h.2)

-- ---- where the steps halt

abbrev Shallow : List AtDepth → Type 0
Shallow ps = AllByRecursion (λ p. p.1 ≤ max_depth) ps

abbrev Stuck : Stack → List Terminal → Type 0
Stuck end [] = is_done end ≡ false
Stuck end (x ∷ more) = step end x ≡ stuck

abbrev Sinks : Stack → List Terminal → Type 0
Sinks end [] = ⊥
Sinks end (x ∷ more) = (d : ℕ) × (next : Stack) × (step end x ≡ goes d next) × (max_depth < d)

abbrev Lacks : Stack → List Terminal → Type 0
Lacks end [] = ⊥
Lacks end (x ∷ more) = step end x ≡ unassigned

abbrev Stops : Stack → List Terminal → Fault → Type 0
Stops end rest (syntax place) = Stuck end rest
Stops end rest (too_deep place) = Sinks end rest
Stops end rest (no_operator place) = Lacks end rest

abbrev place_of : Fault → List Terminal
place_of (syntax place) = place
place_of (too_deep place) = place
place_of (no_operator place) = place

abbrev Halts : List Terminal → Stack → Fault → Type 0
Halts ts k f = (ps : List AtDepth) × (rest : List Terminal) × (ts ≡ tokens ps ++ rest) × (place_of f ≡ rest) × Shallow ps × Runs ps k (λ end. Stops end rest f)

some_fault : (a b : Fault) → Some a ≡ Some b → a ≡ b
some_fault a b e = cc

halts : (ts : List Terminal) (k : Stack) (f : Fault) → fault ts k ≡ Some f → Halts ts k f
halts [] k f e = go (is_done k) refl e where
  go : (b : Bool) → is_done k ≡ b → (if b then None else Some (syntax [])) ≡ Some f → Halts [] k f
  go true is e = absurd cc
  go false is e = subst (λ (g : Fault). Halts [] k g) (some_fault (syntax []) f e) ([], [], refl, refl, tt, is)
halts (x ∷ ts) k f e = go (step k x) refl e (λ next. halts ts next f) where
  deeper : (d : ℕ) (n : Stack) (b : Bool) → step k x ≡ goes d n → nat_lt max_depth d ≡ b → (if b then Some (too_deep (x ∷ ts)) else fault ts n) ≡ Some f → (fault ts n ≡ Some f → Halts ts n f) → Halts (x ∷ ts) k f
  deeper d n true is lt e below = subst (λ (g : Fault). Halts (x ∷ ts) k g) (some_fault (too_deep (x ∷ ts)) f e) ([], x ∷ ts, refl, refl, tt, (d, n, is, ltb-true max_depth d lt))
  deeper d n false is lt e below = let h = below e in ((x, d) ∷ h.0, h.1, cons x h.2, h.3, (ltb-false max_depth d lt, h.4), (n, is, h.5))

  go : (b : Step) → step k x ≡ b → after_step b (fault ts) (x ∷ ts) ≡ Some f → ((next : Stack) → fault ts next ≡ Some f → Halts ts next f) → Halts (x ∷ ts) k f
  go stuck is e below = subst (λ (g : Fault). Halts (x ∷ ts) k g) (some_fault (syntax (x ∷ ts)) f e) ([], x ∷ ts, refl, refl, tt, is)
  go unassigned is e below = subst (λ (g : Fault). Halts (x ∷ ts) k g) (some_fault (no_operator (x ∷ ts)) f e) ([], x ∷ ts, refl, refl, tt, is)
  go (goes d n) is e below = deeper d n (nat_lt max_depth d) is refl e (below n)

abbrev PassedTo : List Terminal → Stack → Type 0
PassedTo ts k = (ps : List AtDepth) × (ts ≡ tokens ps) × Shallow ps × Runs ps k IsDone

passes : (ts : List Terminal) (k : Stack) → fault ts k ≡ None → PassedTo ts k
passes [] k e = go (is_done k) refl e where
  go : (b : Bool) → is_done k ≡ b → (if b then None else Some (syntax [])) ≡ None → PassedTo [] k
  go true is e = ([], refl, tt, is)
  go false is e = absurd cc
passes (x ∷ ts) k e = go (step k x) refl e (λ next. passes ts next) where
  deeper : (d : ℕ) (n : Stack) (b : Bool) → step k x ≡ goes d n → nat_lt max_depth d ≡ b → (if b then Some (too_deep (x ∷ ts)) else fault ts n) ≡ None → (fault ts n ≡ None → PassedTo ts n) → PassedTo (x ∷ ts) k
  deeper d n true is lt e below = absurd cc
  deeper d n false is lt e below = let h = below e in ((x, d) ∷ h.0, cons x h.1, (ltb-false max_depth d lt, h.2), (n, is, h.3))

  go : (b : Step) → step k x ≡ b → after_step b (fault ts) (x ∷ ts) ≡ None → ((next : Stack) → fault ts next ≡ None → PassedTo ts next) → PassedTo (x ∷ ts) k
  go stuck is e below = absurd cc
  go unassigned is e below = absurd cc
  go (goes d n) is e below = deeper d n (nat_lt max_depth d) is refl e (below n)

-- ---- the laws

shallow_at : (prefix : List AtDepth) (q : AtDepth) (qs : List AtDepth) → Shallow (prefix ++ q ∷ qs) → q.1 ≤ max_depth
shallow_at [] q qs h = h.0
shallow_at (p ∷ prefix) q qs h = shallow_at prefix q qs h.1

no_tokens : (ps : List AtDepth) → tokens ps ≡ [] → ps ≡ []
no_tokens [] e = refl
no_tokens (p ∷ ps) e = absurd cc

-- the same token at the same place has the same depth
same_depth : (end : Stack) (x : Terminal) (d : ℕ) (next : Stack) (q : AtDepth) (after : Stack) → step end x ≡ goes d next → q.0 ≡ x → step end q.0 ≡ goes q.1 after → d ≡ q.1
same_depth end x d next q after e same f =
    let g : step end x ≡ goes q.1 after = subst (λ (y : Terminal). step end y ≡ goes q.1 after) same f in
    (same_goes d q.1 next after (sym e ∙ g)).0

pub none_too_deep : (w : Text) (ps : List AtDepth) (End : Stack → Type 0) → Shallow ps → Runs ps (first_stack w) End → HasNoneTooDeep w (tokens ps)
none_too_deep w ps End shallow h b c x parts deep =
    let prefix = deep.1 in
    let steps = splits prefix ((x, deep.2) ∷ deep.3) (first_stack w) IsDone (subst (λ (qs : List AtDepth). Runs qs (first_stack w) IsDone) deep.4 (text_runs w deep.0)) in
    let m = meets prefix ps (x ∷ c) (first_stack w) (λ end. Runs ((x, deep.2) ∷ deep.3) end IsDone) End (parts ∙ ap (λ (r : List Terminal). r ++ x ∷ c) (sym deep.5)) steps h in
    go m.0 m.1 m.2 m.3 m.4 m.5 where
      go : (end : Stack) (rest : List AtDepth) → Runs ((x, deep.2) ∷ deep.3) end IsDone → Runs rest end End → tokens rest ≡ x ∷ c → ps ≡ deep.1 ++ rest → ⊥
      go end [] first other is whole = absurd cc
      go end (q ∷ qs) first other is whole =
          let same : q.0 ≡ x = cc in
          let depth = same_depth end x deep.2 first.0 q other.0 first.1 same other.1 in
          let low = shallow_at deep.1 q qs (subst (λ (r : List AtDepth). Shallow r) whole shallow) in
          let high = deep.6 in
          omega (arith, depth, low, high)

no_end : (w : Text) (ps : List AtDepth) → Runs ps (first_stack w) (λ end. Stuck end []) → (tree : TreeOf w) → tokens_of w tree ≡ tokens ps → ⊥
no_end w ps h tree is =
    let m = meets ps (places_in w tree) [] (first_stack w) (λ end. Stuck end []) IsDone (is ∙ sym (append-nil (tokens ps))) h (text_runs w tree) in
    go m.0 m.1 m.2 m.3 m.4 where
      go : (end : Stack) (rest : List AtDepth) → is_done end ≡ false → Runs rest end IsDone → tokens rest ≡ [] → ⊥
      go end [] stuck_so goes_so same = cc
      go end (q ∷ qs) stuck_so goes_so same = cc

-- a token that takes no step cannot follow
no_next : (w : Text) (ps : List AtDepth) (x : Terminal) (b : Step) → ((d : ℕ) (n : Stack) → goes d n ≡ b → ⊥) → Runs ps (first_stack w) (λ end. step end x ≡ b) → IsPrefix w (tokens ps ++ x ∷ []) → ⊥
no_next w ps x b never h prefix =
    let m = meets ps (places_in w prefix.0) (x ∷ prefix.1) (first_stack w) (λ end. step end x ≡ b) IsDone (prefix.2 ∙ append_assoc (tokens ps) (x ∷ []) prefix.1) h (text_runs w prefix.0) in
    go m.0 m.1 m.2 m.3 m.4 where
      go : (end : Stack) (rest : List AtDepth) → step end x ≡ b → Runs rest end IsDone → tokens rest ≡ x ∷ prefix.1 → ⊥
      go end [] at goes_so is = cc
      go end (q ∷ qs) at goes_so is =
          let same : q.0 ≡ x = cc in
          let other : step end x ≡ goes q.1 goes_so.0 = subst (λ (y : Terminal). step end y ≡ goes q.1 goes_so.0) same goes_so.1 in
          never q.1 goes_so.0 (sym other ∙ at)

cannot_follow : (w : Text) (ps : List AtDepth) (place : List Terminal) → Runs ps (first_stack w) (λ end. Stuck end place) → CannotFollow w (tokens ps) place
cannot_follow w ps [] h = no_end w ps h
cannot_follow w ps (x ∷ more) h = no_next w ps x stuck (λ d n e. cc) h

pub is_read : (w : Text) (all : List Terminal) (tree : TreeOf w) → all ≡ tokens_of w tree → fault all (first_stack w) ≡ None → IsReadAs w all tree
is_read w all tree e h =
    let p = passes all (first_stack w) h in
    let m = meets p.0 (places_in w tree) [] (first_stack w) IsDone IsDone (sym e ∙ p.1 ∙ sym (append-nil (tokens p.0))) p.3 (text_runs w tree) in
    let same : places_in w tree ≡ p.0 = m.5 ∙ ap (λ (r : List AtDepth). p.0 ++ r) (no_tokens m.1 m.4) ∙ append-nil p.0 in
    (sym e, subst (λ (r : List AtDepth). Shallow r) (sym same) p.2)

lacks_none : (w : Text) (ps : List AtDepth) (place : List Terminal) → Runs ps (first_stack w) (λ end. Stuck end place)
    → (f : List Terminal) (n : List ℕ) → tokens ps ≡ f ++ t.dollar ∷ t.name n ∷ [] → place ≡ []
lacks_none w ps [] h f n e = refl
lacks_none w ps (x ∷ more) h f n e = absurd (wants f n ps (first_stack w) x e h)

pub is_syntax : (w : Text) (all place : List Terminal) → fault all (first_stack w) ≡ Some (syntax place) → IsSyntaxAt w all place
is_syntax w all place e =
    let h = halts all (first_stack w) (syntax place) e in
    let steps : Runs h.0 (first_stack w) (λ end. Stuck end place) = subst (λ (r : List Terminal). Runs h.0 (first_stack w) (λ end. Stuck end r)) (sym h.3) h.5 in
    record {
      before = tokens h.0;
      parts = h.2 ∙ ap (λ (r : List Terminal). tokens h.0 ++ r) (sym h.3);
      stops = record { prefix = prefix_of w h.0 _ steps; shallow = none_too_deep w h.0 _ h.4 steps; stops = cannot_follow w h.0 place steps };
      other = lacks_none w h.0 place steps;
    }

-- where the steps end
ends : (ps : List AtDepth) (k : Stack) (End : Stack → Type 0) → Runs ps k End → (end : Stack) × End end × Runs ps k (λ e. e ≡ end)
ends [] k End h = (k, h, refl)
ends (p ∷ ps) k End h = let m = ends ps h.0 End h.2 in (m.0, m.1, (h.0, h.1, m.2))

too_deep_next : (w : Text) (ps : List AtDepth) (x : Terminal) (more : List Terminal) → Runs ps (first_stack w) (λ end. Sinks end (x ∷ more)) → IsTooDeep w (tokens ps) x
too_deep_next w ps x more h =
    let at = ends ps (first_stack w) _ h in
    let sinks = at.1 in
    let d = sinks.0 in
    let next = sinks.1 in
    let any : Stack → Type 0 = λ _. Unit {0} in
    let on = joins ps ((x, d) ∷ []) (first_stack w) (λ e. e ≡ at.0) any (λ e is. (next, subst (λ (k : Stack). step k x ≡ goes d next) (sym is) sinks.2, tt)) at.2 in
    let prefix = prefix_of w (ps ++ (x, d) ∷ []) any on in
    let m = meets (ps ++ (x, d) ∷ []) (places_in w prefix.0) prefix.1 (first_stack w) any IsDone (prefix.2) on (text_runs w prefix.0) in
    (prefix.0, ps, d, m.1, m.5 ∙ append_assoc ps ((x, d) ∷ []) m.1, refl, sinks.3)

no_runs : (ps : List AtDepth) (k : Stack) → Runs ps k (λ _. ⊥) → ⊥
no_runs [] k h = h
no_runs (p ∷ ps) k h = no_runs ps h.0 h.2

pub is_too_deep : (w : Text) (all place : List Terminal) → fault all (first_stack w) ≡ Some (too_deep place) → IsTooDeepAt w all place
is_too_deep w all place e =
    let h = halts all (first_stack w) (too_deep place) e in
    go place h.0 (h.2 ∙ ap (λ (r : List Terminal). tokens h.0 ++ r) (sym h.3)) h.4 (subst (λ (r : List Terminal). Runs h.0 (first_stack w) (λ end. Sinks end r)) (sym h.3) h.5) where
      go : (rest : List Terminal) (ps : List AtDepth) → all ≡ tokens ps ++ rest → Shallow ps → Runs ps (first_stack w) (λ end. Sinks end rest) → IsTooDeepAt w all rest
      go [] ps parts low steps = absurd (no_runs ps (first_stack w) steps)
      go (x ∷ more) ps parts low steps = record {
        before = tokens ps;
        first = x;
        more = more;
        is = refl;
        parts = parts;
        shallow = none_too_deep w ps _ low steps;
        deep = too_deep_next w ps x more steps;
      }

-- the place is that of the `$`, two tokens before
pub is_out_of_profile : (w : Text) (all place : List Terminal) → fault all (first_stack w) ≡ Some (no_operator place) → (n : List ℕ) × IsOutOfProfileAt w all (t.dollar ∷ t.name n ∷ place)
is_out_of_profile w all place e =
    let h = halts all (first_stack w) (no_operator place) e in
    go place h.0 (h.2 ∙ ap (λ (r : List Terminal). tokens h.0 ++ r) (sym h.3)) h.4 (subst (λ (r : List Terminal). Runs h.0 (first_stack w) (λ end. Lacks end r)) (sym h.3) h.5) where
      go : (rest : List Terminal) (ps : List AtDepth) → all ≡ tokens ps ++ rest → Shallow ps → Runs ps (first_stack w) (λ end. Lacks end rest) → (n : List ℕ) × IsOutOfProfileAt w all (t.dollar ∷ t.name n ∷ rest)
      go [] ps parts low steps = absurd (no_runs ps (first_stack w) steps)
      go (x ∷ more) ps parts low steps =
          let at = came w ps x steps in
          let qs = at.0 in
          let n = at.2 in
          let two : List Terminal = t.dollar ∷ t.name n ∷ [] in
          let same : tokens ps ≡ tokens qs ++ two = ap (λ (r : List AtDepth). tokens r) at.4 ∙ map-append (λ p. p.0) qs ((t.dollar, at.1) ∷ (t.name n, at.3) ∷ []) in
          let stops : StopsAt w (tokens ps) (x ∷ more) = record { prefix = prefix_of w ps _ steps; shallow = none_too_deep w ps _ low steps; stops = no_next w ps x unassigned (λ d m e. cc) steps } in (
            n,
            record {
              before = tokens qs;
              subject = n;
              bad = x;
              more = more;
              is = refl;
              parts = parts ∙ ap (λ (r : List Terminal). r ++ x ∷ more) same ∙ append_assoc (tokens qs) two (x ∷ more);
              stops = subst (λ (r : List Terminal). StopsAt w r (x ∷ more)) same stops;
            },
          )
