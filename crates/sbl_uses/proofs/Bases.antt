-- The groupings that touched ones are built from, by one walk from the last definition to the first.
use Rattle.std.proofs.Common.{◌≡◌, ◌∙◌, ◌&&◌, ◌||◌, ℕ, Bool, true, false, List, [], ◌∷◌, ◌++◌, refl, sym, ap, ap₂}
use Rattle.std.specs.Prelude.{if◌then◌else◌}
use Rattle.std.specs.List.{list_any}
use Rattle.std.specs.Str.{bytes_eq}
use Rattle.sbl_machine.specs.BuiltFrom.{is_affected_by, and_built, any_names, built_from}
use Rattle.sbl_machine.specs.inside.BuiltFromParts.{names}
use Rattle.sbl_machine.specs.inside.BuiltFromParts.{built_after, built_on}
use Rattle.sbl_semantics.specs.TouchedItems.{same_item}
use Rattle.sbl_ast.specs.NamedParts.{Part', Routine, Among, Grouping}
use Rattle.sbl_semantics.specs.Items.{is_member}
use Rattle.sbl_ast.specs.Source.{Source}
use Rattle.sbl_ast.specs.Order.{ItemInMode, in_order}
use Rattle.sbl_ast.specs.Tree.{Argument, written_out, by_name, Term, term, Plain, declaration, escapes, macro, routine, grouping}
use Rattle.sbl_uses.specs.AddedBases.{and_terms}

-- ---- words of Bool

or_four : (a b c d : Bool) → ((a || b) || (c || d)) ≡ ((a || c) || (b || d))
or_four true b true d = refl
or_four true b false d = refl
or_four false true true d = refl
or_four false true false d = refl
or_four false false c d = refl

and_false : (a : Bool) → (a && false) ≡ false
and_false true = refl
and_false false = refl

none_of : {A : Type 0} (xs : List A) → list_any (λ x. false) xs ≡ false
none_of [] = refl
none_of (x ∷ xs) = none_of xs

any_or : {A : Type 0} (f g : A → Bool) (xs : List A) → list_any (λ x. f x || g x) xs ≡ (list_any f xs || list_any g xs)
any_or f g [] = refl
any_or f g (x ∷ xs) = ap (λ (b : Bool). (f x || g x) || b) (any_or f g xs) ∙ or_four (f x) (g x) (list_any f xs) (list_any g xs)

any_and : {A : Type 0} (c : Bool) (f g : A → Bool) (xs : List A) → list_any (λ x. (c && f x) || g x) xs ≡ ((c && list_any f xs) || list_any g xs)
any_and true f g xs = any_or f g xs
any_and false f g xs = refl

any_last : {A : Type 0} (f : A → Bool) (xs : List A) (x : A) → list_any f (xs ++ x ∷ []) ≡ (f x || list_any f xs)
any_last f [] x = refl
any_last f (y ∷ ys) x = ap (λ (b : Bool). f y || b) (any_last f ys x) ∙ swap (f y) (f x) (list_any f ys)
  where
    swap : (a b c : Bool) → (a || (b || c)) ≡ (b || (a || c))
    swap true true c = refl
    swap true false c = refl
    swap false b c = refl

any_if : {A : Type 0} (f : A → Bool) (xs : List A) (x : A) (b : Bool) → list_any f (if b then xs ++ x ∷ [] else xs) ≡ ((f x && b) || list_any f xs)
any_if f xs x true = any_last f xs x ∙ ap (λ (b : Bool). b || list_any f xs) (sym (and_true (f x)))
  where
    and_true : (a : Bool) → (a && true) ≡ a
    and_true true = refl
    and_true false = refl
any_if f xs x false = sym (ap (λ (b : Bool). b || list_any f xs) (and_false (f x)))

-- ---- terms that name one of some groupings

if_or : (a b : Bool) → (if a then true else b) ≡ (a || b)
if_or true b = refl
if_or false b = refl

no_name : (a : Argument) → names (λ k. false) a ≡ false
no_name (written_out q) = refl
no_name (by_name n) = refl

no_names : (ts : List Term) → any_names (λ k. false) ts ≡ false
no_names [] = refl
no_names (term o a ∷ ts) = ap₂ (λ (b c : Bool). b || c) (no_name a) (no_names ts)

not_built : (a : Argument) (ts : List Term) → built_on (λ k. false) a ts ≡ false
not_built a ts = ap₂ (λ (b c : Bool). b || c) (no_name a) (no_names ts)

name_more : (m : List ℕ) (ns : List (List ℕ)) (a : Argument) → names (is_member (m ∷ ns)) a ≡ (names (bytes_eq m) a || names (is_member ns) a)
name_more m ns (written_out q) = refl
name_more m ns (by_name n) = if_or (bytes_eq m n) (is_member ns n)

names_more : (m : List ℕ) (ns : List (List ℕ)) (ts : List Term) → any_names (is_member (m ∷ ns)) ts ≡ (any_names (bytes_eq m) ts || any_names (is_member ns) ts)
names_more m ns [] = refl
names_more m ns (term o a ∷ ts) =
    ap₂ (λ (b c : Bool). b || c) (name_more m ns a) (names_more m ns ts)
    ∙ or_four (names (bytes_eq m) a) (names (is_member ns) a) (any_names (bytes_eq m) ts) (any_names (is_member ns) ts)

built_more : (m : List ℕ) (ns : List (List ℕ)) (a : Argument) (ts : List Term) → built_on (is_member (m ∷ ns)) a ts ≡ (built_on (bytes_eq m) a ts || built_on (is_member ns) a ts)
built_more m ns a ts =
    ap₂ (λ (b c : Bool). b || c) (name_more m ns a) (names_more m ns ts)
    ∙ or_four (names (bytes_eq m) a) (names (is_member ns) a) (any_names (bytes_eq m) ts) (any_names (is_member ns) ts)

built_any : (ns : List (List ℕ)) (a : Argument) (ts : List Term) → built_on (is_member ns) a ts ≡ list_any (λ m. built_on (bytes_eq m) a ts) ns
built_any [] a ts = not_built a ts
built_any (m ∷ ns) a ts = built_more m ns a ts ∙ ap (λ (b : Bool). built_on (bytes_eq m) a ts || b) (built_any ns a ts)

-- ---- what is reached from touched items by a walk from the last definition to the first

abbrev pub is_reached : List Part' → List ItemInMode → Part' → Bool
is_reached us [] x = list_any (same_item x) us
is_reached us (p ∷ ps) x = and_terms p.plain (is_reached us ps) x

pub same_terms : (p : Plain) (f g : Part' → Bool) → ((y : Part') → f y ≡ g y) → (x : Part') → and_terms p f x ≡ and_terms p g x
same_terms (grouping r a ts) f g e x = ap₂ (λ (b c : Bool). (b && built_on (λ k. same_item x (Grouping k)) a ts) || c) (e (Grouping r)) (e x)
same_terms (declaration k ns) f g e x = e x
same_terms (escapes a b) f g e x = e x
same_terms (macro n b q) f g e x = e x
same_terms (routine n c os) f g e x = e x

module _ (us : List Part') where
  nothing : (f : Part' → Bool) (r : List ℕ) (a : Argument) (ts : List Term) (c : Bool) → ((f (Grouping r) && built_on (λ k. false) a ts) || c) ≡ c
  nothing f r a ts c = ap (λ (b : Bool). (f (Grouping r) && b) || c) (not_built a ts) ∙ ap (λ (b : Bool). b || c) (and_false (f (Grouping r)))

  routine_at : (p : Plain) (f : Part' → Bool) (n : List ℕ) → and_terms p f (Routine n) ≡ f (Routine n)
  routine_at (grouping r a ts) f n = nothing f r a ts (f (Routine n))
  routine_at (declaration k ns) f n = refl
  routine_at (escapes a b) f n = refl
  routine_at (macro m b q) f n = refl
  routine_at (routine m c os) f n = refl

  routine_is : (ps : List ItemInMode) (n : List ℕ) → is_reached us ps (Routine n) ≡ list_any (same_item (Routine n)) us
  routine_is [] n = refl
  routine_is (p ∷ ps) n = routine_at p.plain (is_reached us ps) n ∙ routine_is ps n

  among_at : (p : Plain) (f : Part' → Bool) (n : List ℕ) (k : ℕ) → and_terms p f (Among n k) ≡ f (Among n k)
  among_at (grouping r a ts) f n k = nothing f r a ts (f (Among n k))
  among_at (declaration x ns) f n k = refl
  among_at (escapes a b) f n k = refl
  among_at (macro m b q) f n k = refl
  among_at (routine m c os) f n k = refl

  among_is : (ps : List ItemInMode) (n : List ℕ) (k : ℕ) → is_reached us ps (Among n k) ≡ list_any (same_item (Among n k)) us
  among_is [] n k = refl
  among_is (p ∷ ps) n k = among_at p.plain (is_reached us ps) n k ∙ among_is ps n k

  abbrev is_touched : List ℕ → Bool
  is_touched m = list_any (same_item (Grouping m)) us

  -- the names that are built from some, and the names that are reached
  built_is : (ps : List ItemInMode) (ns : List (List ℕ)) → list_any is_touched (built_after ps ns) ≡ list_any (λ m. is_reached us ps (Grouping m)) ns
  built_is [] ns = refl
  built_is (p ∷ ps) ns = at p.plain (built_is ps)
    where
      at : (x : Plain) → ((ms : List (List ℕ)) → list_any is_touched (built_after ps ms) ≡ list_any (λ m. is_reached us ps (Grouping m)) ms) →
          list_any is_touched (built_after ps (and_built x ns)) ≡ list_any (λ m. and_terms x (is_reached us ps) (Grouping m)) ns
      at (grouping r a ts) rest =
          rest (if built_on (is_member ns) a ts then ns ++ r ∷ [] else ns)
          ∙ any_if (λ m. is_reached us ps (Grouping m)) ns r (built_on (is_member ns) a ts)
          ∙ ap (λ (b : Bool). (is_reached us ps (Grouping r) && b) || list_any (λ m. is_reached us ps (Grouping m)) ns) (built_any ns a ts)
          ∙ sym (any_and (is_reached us ps (Grouping r)) (λ m. built_on (bytes_eq m) a ts) (λ m. is_reached us ps (Grouping m)) ns)
      at (declaration k xs) rest = rest ns
      at (escapes a b) rest = rest ns
      at (macro n b q) rest = rest ns
      at (routine n c os) rest = rest ns

among_any : (ns : List (List ℕ)) (n : List ℕ) → is_member ns n ≡ list_any (λ k. bytes_eq k n) ns
among_any [] n = refl
among_any (k ∷ ns) n = if_or (bytes_eq k n) (is_member ns n) ∙ ap (λ (b : Bool). bytes_eq k n || b) (among_any ns n)

affects_one : (s : Source) (m : List ℕ) (u : Part') → is_affected_by s (Grouping m) u ≡ list_any (λ k. same_item (Grouping k) u) (built_from m s)
affects_one s m (Routine n) = sym (none_of (built_from m s))
affects_one s m (Among n k) = sym (none_of (built_from m s))
affects_one s m (Grouping n) = among_any (built_from m s) n

affects_is : (s : Source) (m : List ℕ) (us : List Part') → list_any (is_affected_by s (Grouping m)) us ≡ list_any (λ k. list_any (same_item (Grouping k)) us) (built_from m s)
affects_is s m [] = sym (none_of (built_from m s))
affects_is s m (u ∷ us) =
    ap₂ (λ (b c : Bool). b || c) (affects_one s m u) (affects_is s m us)
    ∙ sym (any_or (λ k. same_item (Grouping k) u) (λ k. list_any (same_item (Grouping k)) us) (built_from m s))

or_false : (b : Bool) → (b || false) ≡ b
or_false true = refl
or_false false = refl

pub reached_is : (us : List Part') (s : Source) (x : Part') → is_reached us (in_order s.items) x ≡ list_any (is_affected_by s x) us
reached_is us s (Routine n) = routine_is us (in_order s.items) n
reached_is us s (Among n k) = among_is us (in_order s.items) n k
reached_is us s (Grouping m) =
    sym (or_false (is_reached us (in_order s.items) (Grouping m)))
    ∙ sym (built_is us (in_order s.items) (m ∷ []))
    ∙ sym (affects_is s m us)
