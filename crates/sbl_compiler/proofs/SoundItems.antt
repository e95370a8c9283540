-- What the items say, with numbers and by name.
use Rattle.std.proofs.Common.{◌≡◌, ℕ, zero, suc, ◌+◌, Bool, true, false, List, [], ◌∷◌, ◌++◌, length, map, Option, Some, option_map, refl, sym, ap, ◌∙◌, append_assoc, append-nil, arith}
use Rattle.std.specs.Prelude.{⊤, not, ◌&&◌, ◌||◌, nat_lt, if◌then◌else◌, slice_get}
use Rattle.std.specs.Str.{bytes_eq}
use Rattle.std.proofs.lemmas.Bool.{lt-ltb, ltb-true, true≢false}
use Rattle.sbl_ast.specs.Order.{ItemInMode}
use Rattle.sbl_ast.specs.declared.tree.Additive.TheVariants.{Plus, Minus}
use Rattle.sbl_ast.specs.declared.tree.DeclarationKind.{DeclarationKind}
use Rattle.sbl_ast.specs.declared.tree.DeclarationKind.TheVariants as kinds
use Rattle.sbl_ast.specs.Tree.{Argument, written_out, by_name, Term, term, Plain, declaration, routine, grouping}
use Rattle.sbl_compiler.specs.Ahead.{routine_made, routine_in, routines_in}
use Rattle.sbl_semantics.specs.Items.{is_member, place_of, names_by, known_in, Grouping, char_class_of, term_has, terms_have, and_grouping, classes_after, Body, body_or, body_named}
use Rattle.sbl_compiler.specs.NumberedNames.{Names, naming, names_after, number_from, number_of, is_one_of}
use Rattle.sbl_compiler.specs.NumberedClasses.{numbered_classes, term_class, with_class, with_terms}
use Rattle.sbl_program.specs.Program as programs
use Rattle.sbl_program.specs.Terms.{class_after, class_at, no_character}
use Rattle.sbl_ast.specs.declared.mode.Mode.{Mode}

-- ---- names

-- the names of a kind
abbrev names_in : DeclarationKind → Names → List (List ℕ)
names_in kinds.Strings all = all.strings
names_in kinds.Integers all = all.integers
names_in kinds.Booleans all = all.booleans
names_in kinds.Routines all = all.routines
names_in kinds.Groupings all = all.groupings
names_in kinds.Externals all = []

one_more : (k : DeclarationKind) (x : Plain) (all : Names) (more : List (List ℕ)) → names_in k (naming x all) ++ more ≡ names_in k all ++ (names_by k x ++ more)
one_more kinds.Strings (declaration kinds.Strings ns) all more = append_assoc all.strings ns more
one_more kinds.Integers (declaration kinds.Integers ns) all more = append_assoc all.integers ns more
one_more kinds.Booleans (declaration kinds.Booleans ns) all more = append_assoc all.booleans ns more
one_more kinds.Routines (declaration kinds.Strings ns) all more = refl
one_more kinds.Routines (routine n c os) all more = append_assoc all.routines (n ∷ []) more
one_more kinds.Groupings (declaration kinds.Strings ns) all more = refl
one_more kinds.Groupings (grouping n a ts) all more = append_assoc all.groupings (n ∷ []) more
one_more _ _ all more = refl

names_are : (k : DeclarationKind) (xs : List ItemInMode) (all : Names) → names_in k (names_after xs all) ≡ names_in k all ++ known_in xs k
names_are k [] all = sym (append-nil (names_in k all))
names_are k (x ∷ xs) all = names_are k xs (naming x.plain all) ∙ one_more k x.plain all (known_in xs k)

pub strings_are : (xs : List ItemInMode) (all : Names) → (names_after xs all).strings ≡ all.strings ++ known_in xs kinds.Strings
strings_are = names_are kinds.Strings

pub integers_are : (xs : List ItemInMode) (all : Names) → (names_after xs all).integers ≡ all.integers ++ known_in xs kinds.Integers
integers_are = names_are kinds.Integers

pub booleans_are : (xs : List ItemInMode) (all : Names) → (names_after xs all).booleans ≡ all.booleans ++ known_in xs kinds.Booleans
booleans_are = names_are kinds.Booleans

pub groupings_are : (xs : List ItemInMode) (all : Names) → (names_after xs all).groupings ≡ all.groupings ++ known_in xs kinds.Groupings
groupings_are = names_are kinds.Groupings

pub routines_are : (xs : List ItemInMode) (all : Names) → (names_after xs all).routines ≡ all.routines ++ known_in xs kinds.Routines
routines_are = names_are kinds.Routines

number_step : (b : Bool) (i r p : ℕ) → r ≡ (i + 1) + p → (if b then i else r) ≡ i + (if b then 0 else suc p)
number_step true i r p h = omega arith
number_step false i r p h = omega (arith, h)

number_from_is : (i : ℕ) (xs : List (List ℕ)) (n : List ℕ) → number_from i xs n ≡ i + place_of xs n
number_from_is i [] n = omega arith
number_from_is i (x ∷ xs) n = number_step (bytes_eq x n) i _ (place_of xs n) (number_from_is (i + 1) xs n)

pub number_is : (xs : List (List ℕ)) (n : List ℕ) → number_of xs n ≡ place_of xs n
number_is xs n = omega (arith, number_from_is 0 xs n)

pub placed_by : (xs ys : List (List ℕ)) (n : List ℕ) → xs ≡ ys → number_of xs n ≡ place_of ys n
placed_by xs ys n e = number_is xs n ∙ ap (λ zs. place_of zs n) e

less_false : (p l : ℕ) (b : Bool) → nat_lt p l ≡ false → nat_lt (suc p) (suc l) ≡ b → nat_lt (suc p) (suc l) ≡ false
less_false p l false h e = e
less_false p l true h e = absurd (true≢false (sym (lt-ltb p l (omega (arith, ltb-true (suc p) (suc l) e))) ∙ h))

pub less_suc : (p l : ℕ) (t : Bool) → nat_lt p l ≡ t → nat_lt (suc p) (suc l) ≡ t
less_suc p l true h = lt-ltb (suc p) (suc l) (omega (arith, ltb-true p l h))
less_suc p l false h = less_false p l (nat_lt (suc p) (suc l)) h refl

among_step : (b t : Bool) (p l : ℕ) → nat_lt p l ≡ t → nat_lt (if b then 0 else suc p) (suc l) ≡ (if b then true else t)
among_step true t p l h = lt-ltb 0 (suc l) (omega arith)
among_step false t p l h = less_suc p l t h

place_below : (xs : List (List ℕ)) (n : List ℕ) → nat_lt (place_of xs n) (length xs) ≡ is_member xs n
place_below [] n = refl
place_below (x ∷ xs) n = among_step (bytes_eq x n) _ (place_of xs n) (length xs) (place_below xs n)

pub among_is : (xs : List (List ℕ)) (n : List ℕ) → is_one_of xs n ≡ is_member xs n
among_is xs n = ap (λ k. nat_lt k (length xs)) (number_is xs n) ∙ place_below xs n

-- ---- a term

added_is : (t b : Bool) → (if t then true else b) ≡ (b || t)
added_is true true = refl
added_is true false = refl
added_is false true = refl
added_is false false = refl

lessened_is : (t b : Bool) → (if t then false else b) ≡ (b && not t)
lessened_is true true = refl
lessened_is true false = refl
lessened_is false true = refl
lessened_is false false = refl

alone_is : (t : Bool) → (if t then true else false) ≡ t
alone_is true = refl
alone_is false = refl

-- ---- groupings

-- the classes so far are those of the groupings so far
abbrev Same : List (ℕ → Bool) → List Grouping → Type 0
Same [] [] = ⊤
Same [] (g ∷ gs) = ⊥
Same (k ∷ ks) [] = ⊥
Same (k ∷ ks) (g ∷ gs) = ((c : ℕ) → k c ≡ g.has c) × Same ks gs

abbrev names_of : List Grouping → List (List ℕ)
names_of gs = map (λ g. g.name) gs

nothing_at : (i : ℕ) (c : ℕ) → class_at [] i c ≡ false
nothing_at zero c = refl
nothing_at (suc i) c = refl

class_step : (b : Bool) (k : ℕ → Bool) (ks : List (ℕ → Bool)) (p c : ℕ) (x y : Bool) → k c ≡ x → class_at ks p c ≡ y → class_at (k ∷ ks) (if b then 0 else suc p) c ≡ (if b then x else y)
class_step true k ks p c x y h i = h
class_step false k ks p c x y h i = i

named_at : (ks : List (ℕ → Bool)) (gs : List Grouping) (rest : List (List ℕ)) → Same ks gs → (n : List ℕ) (c : ℕ) → class_at ks (place_of (names_of gs ++ rest) n) c ≡ char_class_of gs n c
named_at [] [] rest h n c = nothing_at (place_of rest n) c
named_at [] (g ∷ gs) rest h n c = absurd h
named_at (k ∷ ks) [] rest h n c = absurd h
named_at (k ∷ ks) (g ∷ gs) rest h n c =
    class_step (bytes_eq g.name n) k ks (place_of (names_of gs ++ rest) n) c (g.has c) _ (h.0 c) (named_at ks gs rest h.1 n c)

module _ (ns : Names) where
  pub class_is : (ks : List (ℕ → Bool)) (gs : List Grouping) (rest : List (List ℕ)) → ns.groupings ≡ names_of gs ++ rest → Same ks gs → (n : List ℕ) (c : ℕ) → class_at ks (number_of ns.groupings n) c ≡ char_class_of gs n c
  class_is ks gs rest e h n c =
      ap (λ i. class_at ks i c) (number_is ns.groupings n ∙ ap (λ xs. place_of xs n) e) ∙ named_at ks gs rest h n c

  term_is : (ks : List (ℕ → Bool)) (gs : List Grouping) (rest : List (List ℕ)) → ns.groupings ≡ names_of gs ++ rest → Same ks gs → (a : Argument) (c : ℕ) → term_class ns ks a c ≡ term_has gs a c
  term_is ks gs rest e h (written_out q) c = refl
  term_is ks gs rest e h (by_name n) c = class_is ks gs rest e h n c

  terms_are : (ks : List (ℕ → Bool)) (gs : List Grouping) (rest : List (List ℕ)) → ns.groupings ≡ names_of gs ++ rest → Same ks gs → (ts : List Term) (class : ℕ → Bool) (before : Bool) (c : ℕ) → class c ≡ before → with_terms ns ks ts class c ≡ terms_have gs ts before c
  terms_are ks gs rest e h [] class before c l = l
  terms_are ks gs rest e h (term Plus a ∷ ts) class before c l =
      let k = term_class ns ks a in
      terms_are ks gs rest e h ts (class_after Plus k class) _ c
      (added_is (k c) (class c) ∙ ap (λ b. b || k c) l ∙ ap (λ b. before || b) (term_is ks gs rest e h a c))
  terms_are ks gs rest e h (term Minus a ∷ ts) class before c l =
      let k = term_class ns ks a in
      terms_are ks gs rest e h ts (class_after Minus k class) _ c
      (lessened_is (k c) (class c) ∙ ap (λ b. b && not (k c)) l ∙ ap (λ b. before && not b) (term_is ks gs rest e h a c))

  same_more : (ks : List (ℕ → Bool)) (gs : List Grouping) (k : ℕ → Bool) (g : Grouping) → Same ks gs → ((c : ℕ) → k c ≡ g.has c) → Same (ks ++ (k ∷ [])) (gs ++ (g ∷ []))
  same_more [] [] k g h i = (i, tt)
  same_more [] (x ∷ gs) k g h i = absurd h
  same_more (x ∷ ks) [] k g h i = absurd h
  same_more (x ∷ ks) (y ∷ gs) k g h i = (h.0, same_more ks gs k g h.1 i)

  names_more : (gs : List Grouping) (g : Grouping) (rest : List (List ℕ)) → names_of (gs ++ (g ∷ [])) ++ rest ≡ names_of gs ++ (g.name ∷ rest)
  names_more [] g rest = refl
  names_more (x ∷ gs) g rest = ap (λ xs. x.name ∷ xs) (names_more gs g rest)

  -- the classes and groupings so far, and the names of those to come
  pub record Far (ks : List (ℕ → Bool)) (gs : List Grouping) (rest : List (List ℕ)) : Type 0 where
    pub same : Same ks gs
    pub names : ns.groupings ≡ names_of gs ++ rest

  far_more : (x : Plain) (ks : List (ℕ → Bool)) (gs : List Grouping) (rest : List (List ℕ)) → Far ks gs (names_by kinds.Groupings x ++ rest) → Far (with_class ns x ks) (and_grouping x gs) rest
  far_more (grouping n a ts) ks gs rest f =
      let e = f.names in
      let h = f.same in
      let first = class_after Plus (term_class ns ks a) no_character in
      let g : Grouping = record { name = n; has = λ c. terms_have gs ts (term_has gs a c) c } in
      record {
        same = same_more ks gs (with_terms ns ks ts first) g h
            (λ c. terms_are ks gs (n ∷ rest) e h ts first _ c (alone_is (term_class ns ks a c) ∙ term_is ks gs (n ∷ rest) e h a c));
        names = e ∙ sym (names_more gs g rest);
      }
  far_more _ ks gs rest f = f

  pub far_all : (xs : List ItemInMode) (ks : List (ℕ → Bool)) (gs : List Grouping) → Far ks gs (known_in xs kinds.Groupings) → Far (numbered_classes ns xs ks) (classes_after xs gs) []
  far_all [] ks gs f = f
  far_all (x ∷ xs) ks gs f = far_all xs (with_class ns x.plain ks) (and_grouping x.plain gs) (far_more x.plain ks gs (known_in xs kinds.Groupings) f)

  -- a grouping's class has what its terms say
  pub classes_are : (xs : List ItemInMode) → ns.groupings ≡ known_in xs kinds.Groupings → (n : List ℕ) (c : ℕ) → class_at (numbered_classes ns xs []) (number_of ns.groupings n) c ≡ char_class_of (classes_after xs []) n c
  classes_are xs e n c =
      let f = far_all xs [] [] (record { same = tt; names = e }) in
      class_is (numbered_classes ns xs []) (classes_after xs []) [] f.names f.same n c

  -- ---- routines

  abbrev pub as_made : Body → programs.Routine
  as_made b = routine_made ns b.mode b.first b.others

  body_step : (b : Bool) (r : programs.Routine) (rs : List programs.Routine) (p : ℕ) (x : Body) (o : Option Body) → r ≡ as_made x → slice_get rs p ≡ option_map as_made o → slice_get (r ∷ rs) (if b then 0 else suc p) ≡ option_map as_made (if b then Some x else o)
  body_step true r rs p x o h k = ap Some h
  body_step false r rs p x o h k = k

  body_more : (m : Mode) (x : Plain) (n : List ℕ) (rs : List programs.Routine) (rest : List (List ℕ)) (o : Option Body) → slice_get rs (place_of rest n) ≡ option_map as_made o → slice_get (routine_in ns m x rs) (place_of (names_by kinds.Routines x ++ rest) n) ≡ option_map as_made (body_or m x n o)
  body_more m (routine r c os) n rs rest o h = body_step (bytes_eq r n) _ rs (place_of rest n) (record { mode = m; first = c; others = os }) o refl h
  body_more m _ n rs rest o h = h

  pub body_at : (xs : List ItemInMode) (n : List ℕ) → slice_get (routines_in ns xs) (place_of (known_in xs kinds.Routines) n) ≡ option_map as_made (body_named xs n)
  body_at [] n = refl
  body_at (x ∷ xs) n = body_more x.mode x.plain n (routines_in ns xs) (known_in xs kinds.Routines) (body_named xs n) (body_at xs n)
