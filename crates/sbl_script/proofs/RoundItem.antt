-- The occurrences of a script, cut round one item: each part depends on its own items, and no substring waits past its item.
use Rattle.std.proofs.Common.{◌≡◌, ℕ, ◌+◌, ◌≤◌, Bool, true, false, ◌||◌, List, [], ◌∷◌, ◌++◌, length, refl, sym, ap, subst, ◌∙◌, append_assoc, append-nil, arith}
use Rattle.std.specs.Prelude.{⊤}
use Rattle.sbl_ast.specs.Order.{ItemInMode}
use Rattle.sbl_ast.specs.declared.mode.Mode.{Mode}
use Rattle.sbl_ast.specs.Tree.{Plain, declaration, escapes, macro, routine, grouping}
use Rattle.sbl_resolver.specs.declared.occurrences.Site.{Site}
use Rattle.sbl_resolver.specs.Occurrences.{Occurrence, Notice, declares, defines_routine, defines_grouping, uses, substring, among, string, backwards, region_end, noted_plain, noted_items}
use Rattle.sbl_resolver.specs.Checks.{is_followed}
use Rattle.sbl_script.proofs.Own.{Each, each_both, each_as, IsOfCommand, IsOfList, RoutineParts, routine_parts, plain_alone, names_are, grouping_are}

-- ---- a substring's among stands in its own item

-- what follows a substring is told by the first of these
abbrev decides : Notice → Bool
decides substring = true
decides (among has_starter is_empty) = true
decides region_end = true
decides _ = false

abbrev pub is_decided : List Occurrence → Bool
is_decided [] = false
is_decided (m ∷ ms) = decides m.notice || is_decided ms

-- what follows each substring is told
abbrev pub Closed : List Occurrence → Type 0
Closed [] = ⊤
Closed (m ∷ ms) = (m.notice ≡ substring → is_decided ms ≡ true) × Closed ms

decided_more : (xs ys : List Occurrence) → is_decided xs ≡ true → is_decided (xs ++ ys) ≡ true
decided_more [] ys h = absurd cc
decided_more (x ∷ xs) ys h = at (decides x.notice) h (λ g. decided_more xs ys g) where
  at : (b : Bool) → (b || is_decided xs) ≡ true → (is_decided xs ≡ true → is_decided (xs ++ ys) ≡ true) → (b || is_decided (xs ++ ys)) ≡ true
  at true g more = refl
  at false g more = more g

closed_both : (xs ys : List Occurrence) → Closed xs → Closed ys → Closed (xs ++ ys)
closed_both [] ys h g = g
closed_both (x ∷ xs) ys h g = (λ e. decided_more xs ys (h.0 e), closed_both xs ys h.1 g)

decided_end : (xs : List Occurrence) (p : Site) → is_decided (xs ++ (record { site = p; notice = region_end }) ∷ []) ≡ true
decided_end [] p = refl
decided_end (x ∷ xs) p = at (decides x.notice) (decided_end xs p) where
  at : (b : Bool) {c : Bool} → c ≡ true → (b || c) ≡ true
  at true h = refl
  at false h = h

closed_end : (xs : List Occurrence) (p : Site) → Closed (xs ++ (record { site = p; notice = region_end }) ∷ [])
closed_end [] p = (last, tt) where
  last : region_end ≡ substring → is_decided [] ≡ true
  last e = absurd cc
closed_end (x ∷ xs) p = (λ e. decided_end xs p, closed_end xs p)

closed_list : (i : ℕ) (xs : List Occurrence) → Each (IsOfList i) xs → Closed xs
closed_list i [] h = tt
closed_list i (x ∷ xs) h = (λ e. absurd (h.0.1 e), closed_list i xs h.1)

pub followed_same : (mode : Mode) (xs ys zs : List Occurrence) → is_decided xs ≡ true → is_followed mode (xs ++ ys) ≡ is_followed mode (xs ++ zs)
followed_same mode [] ys zs h = absurd cc
followed_same mode (x ∷ xs) ys zs h = at x.notice h (λ g. followed_same mode xs ys zs g) where
  at : (n : Notice) → (decides n || is_decided xs) ≡ true → (is_decided xs ≡ true → is_followed mode (xs ++ ys) ≡ is_followed mode (xs ++ zs))
      → is_followed mode ((record { site = x.site; notice = n }) ∷ (xs ++ ys)) ≡ is_followed mode ((record { site = x.site; notice = n }) ∷ (xs ++ zs))
  at (declares k n) g more = more g
  at (defines_routine n) g more = more g
  at (defines_grouping n) g more = more g
  at (uses u n) g more = more g
  at substring g more = refl
  at (among a b) g more = refl
  at (string k t) g more = more g
  at backwards g more = more g
  at region_end g more = refl

pub decided_at : (xs : List Occurrence) (m : Occurrence) (ys : List Occurrence) → Closed (xs ++ m ∷ ys) → m.notice ≡ substring → is_decided ys ≡ true
decided_at [] m ys h = h.0
decided_at (x ∷ xs) m ys h = decided_at xs m ys h.1

-- ---- occurrences of items

abbrev pub own : Plain → Site → List Occurrence
own x p = noted_plain x p []

-- it stands in this item
abbrev pub InItem : ℕ → Occurrence → Type 0
InItem i m = m.site.item ≡ i

-- it stands in this item or in a later one
abbrev pub NotBefore : ℕ → Occurrence → Type 0
NotBefore i m = i ≤ m.site.item

pub routine_sites : (n : List ℕ) (p : Site) (xs : List Occurrence) → RoutineParts n p xs → Each (InItem p.item) xs
routine_sites n p xs r =
    subst (Each (InItem p.item)) (sym r.are)
    (refl, each_both (InItem p.item) r.commands ((record { site = p; notice = region_end }) ∷ []) (each_as (IsOfCommand p.item) (InItem p.item) (λ m h. h.0) r.commands r.each) (refl, tt))

pub plain_sites : (x : Plain) (p : Site) → Each (InItem p.item) (own x p)
plain_sites (declaration k ns) p = each_as (IsOfList p.item) (InItem p.item) (λ m h. h.0) (own (declaration k ns) p) (names_are k ns p)
plain_sites (escapes a b) p = tt
plain_sites (macro n b q) p = tt
plain_sites (routine n c os) p = routine_sites n p (own (routine n c os) p) (routine_parts n c os p)
plain_sites (grouping n a ts) p = each_as (IsOfList p.item) (InItem p.item) (λ m h. h.0) (own (grouping n a ts) p) (grouping_are n a ts p)

plain_closed : (x : Plain) (p : Site) → Closed (own x p)
plain_closed (declaration k ns) p = closed_list p.item (own (declaration k ns) p) (names_are k ns p)
plain_closed (escapes a b) p = tt
plain_closed (macro n b q) p = tt
plain_closed (routine n c os) p =
    let r = routine_parts n c os p in
    subst Closed (sym r.are) (closed_end ((record { site = p; notice = defines_routine n }) ∷ r.commands) p)
plain_closed (grouping n a ts) p = closed_list p.item (own (grouping n a ts) p) (grouping_are n a ts p)

abbrev pub site_of : ℕ → ItemInMode → Site
site_of i x = record { item = i; mode = x.mode }

-- so it is for items
items_alone : (xs : List ItemInMode) (n : ℕ) (s : List Occurrence) → noted_items xs n s ≡ s ++ noted_items xs n []
items_alone [] n s = sym (append-nil s)
items_alone (x ∷ xs) n s =
    let mine = own x.plain (site_of n x) in
    ap (λ l. noted_items xs (n + 1) (noted_plain x.plain (site_of n x) l)) (sym (append-nil s))
    ∙ ap (noted_items xs (n + 1)) (plain_alone x.plain (site_of n x) s [])
    ∙ items_alone xs (n + 1) (s ++ mine)
    ∙ append_assoc s mine (noted_items xs (n + 1) [])
    ∙ ap (λ l. s ++ l) (sym (items_alone xs (n + 1) mine))

pub items_closed : (xs : List ItemInMode) (n : ℕ) → Closed (noted_items xs n [])
items_closed [] n = tt
items_closed (x ∷ xs) n =
    let mine = own x.plain (site_of n x) in
    subst Closed (sym (items_alone xs (n + 1) mine)) (closed_both mine (noted_items xs (n + 1) []) (plain_closed x.plain (site_of n x)) (items_closed xs (n + 1)))

pub items_sites : (xs : List ItemInMode) (n : ℕ) → Each (NotBefore n) (noted_items xs n [])
items_sites [] n = tt
items_sites (x ∷ xs) n =
    let mine = own x.plain (site_of n x) in
    subst (Each (NotBefore n)) (sym (items_alone xs (n + 1) mine))
    (each_both (NotBefore n) mine (noted_items xs (n + 1) [])
    (each_as (InItem n) (NotBefore n) (λ m h. first_one m.site.item h) mine (plain_sites x.plain (site_of n x)))
    (each_as (NotBefore (n + 1)) (NotBefore n) (λ m h. later_one m.site.item h) (noted_items xs (n + 1) []) (items_sites xs (n + 1)))) where
      first_one : (i : ℕ) → i ≡ n → n ≤ i
      first_one i h = omega arith

      later_one : (i : ℕ) → n + 1 ≤ i → n ≤ i
      later_one i h = omega arith

noted_split : (xs ys : List ItemInMode) (i : ℕ) (s : List Occurrence) → noted_items (xs ++ ys) i s ≡ noted_items ys (i + length xs) (noted_items xs i s)
noted_split [] ys i s = ap (λ k. noted_items ys k s) (omega arith)
noted_split (x ∷ xs) ys i s =
    noted_split xs ys (i + 1) (noted_plain x.plain (site_of i x) s) ∙ ap (λ k. noted_items ys k (noted_items xs (i + 1) (noted_plain x.plain (site_of i x) s))) (omega arith)

-- before, in and after an item
pub round_item : (xs : List ItemInMode) (y : ItemInMode) (ys : List ItemInMode) → noted_items (xs ++ y ∷ ys) 1 [] ≡ noted_items xs 1 [] ++ (own y.plain (site_of (1 + length xs) y) ++ noted_items ys (1 + length xs + 1) [])
round_item xs y ys =
    let i = 1 + length xs in
    noted_split xs (y ∷ ys) 1 [] ∙ items_alone (y ∷ ys) i (noted_items xs 1 []) ∙ ap (λ l. noted_items xs 1 [] ++ l) (items_alone ys (i + 1) (own y.plain (site_of i y)))
