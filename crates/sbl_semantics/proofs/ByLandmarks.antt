-- A run by the landmarks of its routines is the run that works out command by command which among comes next.
use Rattle.std.proofs.Common.{◌≡◌, ◌∙◌, ◌+◌, ◌++◌, ℕ, zero, suc, Bool, true, false, if◌then◌else◌, List, [], ◌∷◌, length, take, drop, Option, Some, None, refl, sym, ap, subst, slice_index_or, append_assoc, append-nil, length-append, arith}
use Rattle.std.proofs.Math.Path.{fun_ext}
use Rattle.std.proofs.Math.Seq.{take-append_seam, drop-append_seam}
use Rattle.std.specs.Option.{option_map_or}
use Rattle.sbl_ast.specs.Source.{Source}
use Rattle.sbl_ast.specs.Order.{in_order}
use Rattle.sbl_ast.specs.declared.mode.Mode.{Mode}
use Rattle.sbl_ast.specs.declared.mode.Mode.TheVariants.{Forward}
use Rattle.sbl_ast.specs.declared.tree.DeclarationKind.TheVariants as kinds
use Rattle.sbl_ast.specs.declared.tree.Simple.{Simple}
use Rattle.sbl_ast.specs.declared.tree.Simple.TheVariants as simples
use Rattle.sbl_ast.specs.Tree.{Command, Rows, Others, Starter, Groups, bracket, simple_, literal_, name_, non_, prefixed, counted, move_, named, splice_, setlimit_, assign_, compare_, compare_values_, among_, no_rows, row, no_others, joined, no_starter, starter, bare, group}
use Rattle.sbl_semantics.specs.Control.{at_end, back_in, enter, pay_first}
use Rattle.sbl_semantics.specs.Items.{Body, DeclaredNames, body_named, char_class_of, classes_after, known_in, place_of}
use Rattle.sbl_semantics.specs.Landmarks.{Among, Landmark, substring, region_end, among, mode_under, amongs_in, ends_in_substring, next_among, landmarks, landmarks_in_rows, landmarks_in_others, landmarks_in_starter, landmarks_in_groups}
use Rattle.sbl_semantics.specs.Meaning.{prefixed_does, counted_does, joined_does, limited_does, simple_does, worth, search}
use Rattle.sbl_semantics.specs.Meaning as new
use Rattle.sbl_semantics.specs.inside.RegionRuns as old
use Rattle.sbl_semantics.specs.Regions.{among_at, first, first_others, first_rows, number_after, number_after_others, number_after_rows, number_after_starter, waits, waits_others, waits_rows}
use Rattle.sbl_semantics.specs.Limit.{max_levels}
use Rattle.sbl_semantics.specs.State.{Doing, Ending, Signals, State, after}
use Rattle.sbl_semantics.proofs.LandmarkFacts.{amongs_append, ends_append, first_is, first_others_is, first_rows_is, none_after_starter, none_more, number_is, number_others, number_rows, number_starter, waits_is, waits_others_is, waits_rows_is, waits_through}

-- the among that is searched at the landmark with number i
abbrev among_for : List Landmark → ℕ → Option Among
among_for ls i = next_among (amongs_in (take i ls)) (drop i ls)

-- the landmarks of a part in those of its routine, and what the other form says of its place
record At (ls own : List Landmark) (i k : ℕ) (w : Bool) (n : Option Among) : Type 0 where
  before : List Landmark
  rest : List Landmark
  parts : ls ≡ before ++ (own ++ rest)
  place : i ≡ length before
  number : k ≡ amongs_in before
  wait : w ≡ ends_in_substring before
  next : n ≡ next_among (k + amongs_in own) rest

module _ {ls : List Landmark} {i k : ℕ} {w : Bool} {n : Option Among} where
  abbrev first_part : (a b : List Landmark) (x : Option Among) (h : At ls (a ++ b) i k w n) → x ≡ next_among (k + amongs_in a) (b ++ h.rest) → At ls a i k w x
  first_part a b x h e = record {
    before = h.before;
    rest = b ++ h.rest;
    parts = h.parts ∙ ap (λ (y : List Landmark). h.before ++ y) (append_assoc a b h.rest);
    place = h.place;
    number = h.number;
    wait = h.wait;
    next = e;
  }

  abbrev second_part : (a b : List Landmark) (j : ℕ) (v : Bool) → At ls (a ++ b) i k w n → j ≡ k + amongs_in a → v ≡ waits_through a w → At ls b (i + length a) j v n
  second_part a b j v h e f =
      let p = h.place in
      let q = h.number in
      let l = length-append h.before a in
      let m = amongs_append h.before a in
      let both = amongs_append a b in
      let same : k + amongs_in (a ++ b) ≡ j + amongs_in b = omega (arith, both, e) in
      record {
        before = h.before ++ a;
        rest = h.rest;
        parts = h.parts ∙ ap (λ (y : List Landmark). h.before ++ y) (append_assoc a b h.rest) ∙ sym (append_assoc h.before a (b ++ h.rest));
        place = omega (arith, l, p);
        number = omega (arith, m, q, e);
        wait = f ∙ ap (waits_through a) h.wait ∙ sym (ends_append h.before a);
        next = h.next ∙ ap (λ (y : ℕ). next_among y h.rest) same;
      }

  module _ (own : List Landmark) (h : At ls own i k w n) where
    before_is : take i ls ≡ h.before
    before_is =
        let p : take i ls ≡ take (length h.before) (h.before ++ (own ++ h.rest)) = (λ x. take (h.place x) (h.parts x)) in
        p ∙ take-append_seam h.before (own ++ h.rest)

    rest_is : drop i ls ≡ own ++ h.rest
    rest_is =
        let p : drop i ls ≡ drop (length h.before) (h.before ++ (own ++ h.rest)) = (λ x. drop (h.place x) (h.parts x)) in
        p ∙ drop-append_seam h.before (own ++ h.rest)

    number_here : amongs_in (take i ls) ≡ k
    number_here = ap amongs_in before_is ∙ sym h.number

    waits_here : ends_in_substring (take i ls) ≡ w
    waits_here = ap ends_in_substring before_is ∙ sym h.wait

    among_here : among_for ls i ≡ next_among k (own ++ h.rest)
    among_here = (λ x. next_among (number_here x) (rest_is x))

module _ (ns : DeclaredNames) (class : List ℕ → ℕ → Bool) (call : List ℕ → Doing) where
  -- a search of the among that comes next, if there is one
  abbrev ahead : Option Among → Doing
  ahead o m s = option_map_or (λ a. search call a m s) o (Signals false s)

  simples_do : (x : Simple) (ls : List Landmark) (r : Mode) (i k : ℕ) (w : Bool) (n : Option Among) → At ls (landmarks r (simple_ x)) i k w n → (m : Mode) (s : State)
      → simple_does (new.search_at ns class call ls i) x m s ≡ simple_does (ahead n) x m s
  simples_do simples.Substring ls r i k w n h m s =
      let is : among_for ls i ≡ n = among_here (substring ∷ []) h ∙ ap (λ (y : ℕ). next_among y h.rest) (none_more k) ∙ sym h.next in
      ap (λ (o : Option Among). ahead o m s) is
  simples_do _ ls r i k w n h m s = refl

  -- what an among does, given whether its search was made, its search, its starter, its groups and its number
  abbrev among_does : Bool → Doing → (State → Ending) → (ℕ → State → Ending) → ℕ → Mode → State → Ending
  among_does w search_ begun groups_ k m s =
      after (if w then Signals true s else after (pay_first search_ m s) begun (Signals false))
      (λ t. option_map_or (λ g. groups_ g t) (slice_index_or t.choices k None) (Signals false t)) (Signals false)

  mutual
    acts : (c : Command) (ls : List Landmark) (r : Mode) (i k : ℕ) (w : Bool) (n : Option Among) → At ls (landmarks r c) i k w n → (m : Mode) (s : State)
        → new.act ns class call ls r i c m s ≡ old.act ns class call r k w n c m s
    acts (bracket rs) ls r i k w n h m s = rows_act rs ls r i k w n h m s
    acts (simple_ x) ls r i k w n h m s = simples_do x ls r i k w n h m s
    acts (literal_ q) ls r i k w n h m s = refl
    acts (name_ x) ls r i k w n h m s = refl
    acts (non_ b x) ls r i k w n h m s = refl
    acts (prefixed x c) ls r i k w n h m s =
        ap (λ (d : Doing). prefixed_does x (pay_first d) m s) (fun_ext (λ m. fun_ext (λ s. acts c ls (mode_under x r) i k w n h m s)))
    acts (counted x e c) ls r i k w n h m s =
        ap (λ (d : Doing). counted_does x (worth ns e m s) (pay_first d) m s) (fun_ext (λ m. fun_ext (λ s. acts c ls r i k w n h m s)))
    acts (move_ x e) ls r i k w n h m s = refl
    acts (named x y) ls r i k w n h m s = refl
    acts (splice_ x a) ls r i k w n h m s = refl
    acts (setlimit_ b c) ls r i k w n h m s =
        let j = number_after b k in
        let following : n ≡ next_among (number_after c j) h.rest = h.next ∙ ap (λ (y : ℕ). next_among y h.rest) (sym (number_is (setlimit_ b c) r k)) in
        let next : first r c j n ≡ next_among (k + amongs_in (landmarks r b)) (landmarks r c ++ h.rest) =
        first_is c r j n h.rest following ∙ ap (λ (y : ℕ). next_among y (landmarks r c ++ h.rest)) (number_is b r k) in
        let at_b = first_part (landmarks r b) (landmarks r c) (first r c j n) h next in
        let at_c = second_part (landmarks r b) (landmarks r c) j (waits b w) h (number_is b r k) (waits_is b r w) in
        let path_b : new.act ns class call ls r i b ≡ old.act ns class call r k w (first r c j n) b = fun_ext (λ m. fun_ext (λ s. acts b ls r i k w (first r c j n) at_b m s)) in
        let path_c : new.act ns class call ls r (i + length (landmarks r b)) c ≡ old.act ns class call r j (waits b w) n c =
        fun_ext (λ m. fun_ext (λ s. acts c ls r (i + length (landmarks r b)) j (waits b w) n at_c m s)) in
        (λ x. limited_does (pay_first (path_b x)) (pay_first (path_c x)) m s)
    acts (assign_ x o e) ls r i k w n h m s = refl
    acts (compare_ x o e) ls r i k w n h m s = refl
    acts (compare_values_ e o f) ls r i k w n h m s = refl
    acts (among_ st gs) ls r i k w n h m s =
        let own = landmarks r (among_ st gs) in
        let one : suc k ≡ k + 1 = omega arith in
        let inside = second_part (among r gs ∷ []) (landmarks_in_starter r st ++ landmarks_in_groups r gs) (suc k) false h one refl in
        let at_starter = first_part (landmarks_in_starter r st) (landmarks_in_groups r gs) (next_among (suc k + amongs_in (landmarks_in_starter r st)) (landmarks_in_groups r gs ++ h.rest)) inside refl in
        let at_groups = second_part (landmarks_in_starter r st) (landmarks_in_groups r gs) (number_after_starter st (suc k)) false inside (number_starter st r (suc k)) (sym (none_after_starter st r)) in
        let path_search : new.search_at ns class call ls i ≡ search call (among_at r k gs) =
        fun_ext (λ m. fun_ext (λ s. ap (λ (o : Option Among). ahead o m s) (among_here own h))) in
        let path_starter : new.starter_does ns class call ls r (i + 1) st m ≡ old.starter_does ns class call r (suc k) st m =
        fun_ext (λ t. starter_acts st ls r (i + 1) (suc k) _ at_starter m t) in
        let path_groups : (λ (g : ℕ) (t : State). new.group_does ns class call ls r (i + 1 + length (landmarks_in_starter r st)) gs g m t) ≡ (λ (g : ℕ) (t : State). old.group_does ns class call r (number_after_starter st (suc k)) gs g m t) =
        fun_ext (λ g. fun_ext (λ t. groups_act gs ls r (i + 1 + length (landmarks_in_starter r st)) (number_after_starter st (suc k)) n at_groups g m t)) in
        (λ x. among_does (waits_here own h x) (path_search x) (path_starter x) (path_groups x) (number_here own h x) m s)

    rows_act : (rs : Rows) (ls : List Landmark) (r : Mode) (i k : ℕ) (w : Bool) (n : Option Among) → At ls (landmarks_in_rows r rs) i k w n → (m : Mode) (s : State)
        → new.rows_do ns class call ls r i rs m s ≡ old.rows_do ns class call r k w n rs m s
    rows_act no_rows ls r i k w n h m s = refl
    rows_act (row c os rs) ls r i k w n h m s =
        let own_c = landmarks r c in
        let own_os = landmarks_in_others r os in
        let own_rs = landmarks_in_rows r rs in
        let k1 = number_after c k in
        let k2 = number_after_others os k1 in
        let n2 = first_rows r rs k2 n in
        let n1 = first_others r os k1 n2 in
        let following : n ≡ next_among (number_after_rows rs k2) h.rest = h.next ∙ ap (λ (y : ℕ). next_among y h.rest) (sym (number_rows (row c os rs) r k)) in
        let next2 : n2 ≡ next_among k2 (own_rs ++ h.rest) = first_rows_is rs r k2 n h.rest following in
        let next1 : n1 ≡ next_among (k + amongs_in own_c) ((own_os ++ own_rs) ++ h.rest) =
        first_others_is os r k1 n2 (own_rs ++ h.rest) next2 ∙ ap (next_among k1) (sym (append_assoc own_os own_rs h.rest))
        ∙ ap (λ (y : ℕ). next_among y ((own_os ++ own_rs) ++ h.rest)) (number_is c r k) in
        let at_c = first_part own_c (own_os ++ own_rs) n1 h next1 in
        let at_more = second_part own_c (own_os ++ own_rs) k1 (waits c w) h (number_is c r k) (waits_is c r w) in
        let at_os = first_part own_os own_rs n2 at_more (next2 ∙ ap (λ (y : ℕ). next_among y (own_rs ++ h.rest)) (number_others os r k1)) in
        let at_rs = second_part own_os own_rs k2 (waits_others os (waits c w)) at_more (number_others os r k1) (waits_others_is os r (waits c w)) in
        let path_c : new.act ns class call ls r i c ≡ old.act ns class call r k w n1 c = fun_ext (λ m. fun_ext (λ s. acts c ls r i k w n1 at_c m s)) in
        let path_os = others_act os ls r (i + length own_c) k1 (waits c w) n2 (new.act ns class call ls r i c) (old.act ns class call r k w n1 c) at_os path_c in
        let path_rs : new.rows_do ns class call ls r (i + length own_c + length own_os) rs m ≡ old.rows_do ns class call r k2 (waits_others os (waits c w)) n rs m =
        fun_ext (λ t. rows_act rs ls r (i + length own_c + length own_os) k2 (waits_others os (waits c w)) n at_rs m t) in
        (λ x. after (pay_first (path_os x) m s) (path_rs x) (Signals false))

    others_act : (os : Others) (ls : List Landmark) (r : Mode) (i k : ℕ) (w : Bool) (n : Option Among) (d e : Doing) → At ls (landmarks_in_others r os) i k w n → d ≡ e
        → new.others_do ns class call ls r i os d ≡ old.others_do ns class call r k w n os e
    others_act no_others ls r i k w n d e h p = p
    others_act (joined j c os) ls r i k w n d e h p =
        let own_c = landmarks r c in
        let own_os = landmarks_in_others r os in
        let k1 = number_after c k in
        let n1 = first_others r os k1 n in
        let following : n ≡ next_among (number_after_others os k1) h.rest = h.next ∙ ap (λ (y : ℕ). next_among y h.rest) (sym (number_others (joined j c os) r k)) in
        let next1 : n1 ≡ next_among (k + amongs_in own_c) (own_os ++ h.rest) =
        first_others_is os r k1 n h.rest following ∙ ap (λ (y : ℕ). next_among y (own_os ++ h.rest)) (number_is c r k) in
        let at_c = first_part own_c own_os n1 h next1 in
        let at_os = second_part own_c own_os k1 (waits c w) h (number_is c r k) (waits_is c r w) in
        let path_c : new.act ns class call ls r i c ≡ old.act ns class call r k w n1 c = fun_ext (λ m. fun_ext (λ s. acts c ls r i k w n1 at_c m s)) in
        let path_join : joined_does j (pay_first d) (pay_first (new.act ns class call ls r i c)) ≡ joined_does j (pay_first e) (pay_first (old.act ns class call r k w n1 c)) =
        (λ x. joined_does j (pay_first (p x)) (pay_first (path_c x))) in
        others_act os ls r (i + length own_c) k1 (waits c w) n _ _ at_os path_join

    starter_acts : (st : Starter) (ls : List Landmark) (r : Mode) (i k : ℕ) (n : Option Among) → At ls (landmarks_in_starter r st) i k false n → (m : Mode) (s : State)
        → new.starter_does ns class call ls r i st m s ≡ old.starter_does ns class call r k st m s
    starter_acts no_starter ls r i k n h m s = refl
    starter_acts (starter rs) ls r i k n h m s =
        let at_rs = first_part (landmarks_in_rows r rs) (region_end ∷ []) None h refl in
        ap (λ (d : Doing). pay_first d m s) (fun_ext (λ m. fun_ext (λ s. rows_act rs ls r i k false None at_rs m s)))

    groups_act : (gs : Groups) (ls : List Landmark) (r : Mode) (i k : ℕ) (n : Option Among) → At ls (landmarks_in_groups r gs) i k false n → (g : ℕ) (m : Mode) (s : State)
        → new.group_does ns class call ls r i gs g m s ≡ old.group_does ns class call r k gs g m s
    groups_act (bare es) ls r i k n h g m s = refl
    groups_act (group e es rs gs) ls r i k n h zero m s =
        let at_rs = first_part (landmarks_in_rows r rs) (region_end ∷ landmarks_in_groups r gs) None h refl in
        ap (λ (d : Doing). pay_first d m s) (fun_ext (λ m. fun_ext (λ s. rows_act rs ls r i k false None at_rs m s)))
    groups_act (group e es rs gs) ls r i k n h (suc g) m s =
        let own_rs = landmarks_in_rows r rs in
        let j = number_after_rows rs k in
        let at_end_ = second_part own_rs (region_end ∷ landmarks_in_groups r gs) j (waits_rows rs false) h (number_rows rs r k) (waits_rows_is rs r false) in
        let at_gs = second_part (region_end ∷ []) (landmarks_in_groups r gs) j false at_end_ (none_more j) refl in
        groups_act gs ls r (i + length own_rs + 1) j n at_gs g m s

  -- ---- a routine

  body_acts : (x : List ℕ) (o : Option Body) (m : Mode) (s : State) → new.body_does ns class call x o m s ≡ old.body_does ns class call x o m s
  body_acts x None m s = refl
  body_acts x (Some b) m s =
      let r = b.mode in
      let own_c = landmarks r b.first in
      let own_os = landmarks_in_others r b.others in
      let ls = own_c ++ own_os in
      let k1 = number_after b.first 0 in
      let n1 = first_others r b.others k1 None in
      let whole : At ls (own_c ++ own_os) 0 0 false None = record {
        before = [];
        rest = [];
        parts = sym (append-nil ls);
        place = refl;
        number = refl;
        wait = refl;
        next = refl;
      } in
      let next1 : n1 ≡ next_among (0 + amongs_in own_c) (own_os ++ []) =
      first_others_is b.others r k1 None [] refl ∙ ap (λ (y : ℕ). next_among y (own_os ++ [])) (number_is b.first r 0) in
      let at_c = first_part own_c own_os n1 whole next1 in
      let start : 0 + length own_c ≡ length own_c = omega arith in
      let at_os = subst (λ (i : ℕ). At ls own_os i k1 (waits b.first false) None) start (second_part own_c own_os k1 (waits b.first false) whole (number_is b.first r 0) (waits_is b.first r false)) in
      let path_c : new.act ns class call ls r 0 b.first ≡ old.act ns class call r 0 false n1 b.first = fun_ext (λ m. fun_ext (λ s. acts b.first ls r 0 0 false n1 at_c m s)) in
      let path_os = others_act b.others ls r (length own_c) k1 (waits b.first false) None _ _ at_os path_c in
      let f = number_is b.first r 0 in
      let g = number_others b.others r k1 in
      let a = amongs_append own_c own_os in
      let many : amongs_in ls ≡ number_after_others b.others k1 = omega (arith, f, g, a) in
      (λ y. at_end (back_in s.routine s.choices) (pay_first (path_os y) m (enter (place_of (ns kinds.Routines) x) (many y) s)))

-- ---- runs

pub calls_same : (ns : DeclaredNames) (class : List ℕ → ℕ → Bool) (bodies : List ℕ → Option Body) (levels : ℕ) → new.calls ns class bodies levels ≡ old.calls ns class bodies levels
calls_same ns class bodies zero = refl
calls_same ns class bodies (suc l) =
    let by_body : new.calls ns class bodies (suc l) ≡ (λ (n : List ℕ) (m : Mode) (s : State). old.body_does ns class (new.calls ns class bodies l) n (bodies n) m s) =
    fun_ext (λ n. fun_ext (λ m. fun_ext (λ s. body_acts ns class (new.calls ns class bodies l) n (bodies n) m s))) in
    let by_call : (λ (n : List ℕ) (m : Mode) (s : State). old.body_does ns class (new.calls ns class bodies l) n (bodies n) m s) ≡ old.calls ns class bodies (suc l) =
    (λ x n m s. old.body_does ns class (calls_same ns class bodies l x) n (bodies n) m s) in
    by_body ∙ by_call

pub ending_is : (script : Source) (word : List ℕ) (limit : ℕ) → new.ending script word limit ≡ old.ending script word limit
unfolding new.ending old.ending
ending_is script word limit =
    let items = in_order script.items in
    ap (λ (calls : List ℕ → Doing). calls script.external Forward (new.start (known_in items) word limit)) (calls_same (known_in items) (char_class_of (classes_after items [])) (body_named items) max_levels)

pub telling_is : (script : Source) (word : List ℕ) (limit : ℕ) → new.ending_with_events script word limit ≡ old.ending_with_events script word limit
unfolding new.ending_with_events old.ending_with_events
telling_is script word limit =
    let items = in_order script.items in
    ap (λ (calls : List ℕ → Doing). calls script.external Forward (record (new.start (known_in items) word limit) { events = Some [] })) (calls_same (known_in items) (char_class_of (classes_after items [])) (body_named items) max_levels)
