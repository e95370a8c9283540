-- A script defines what its runs can use, and what somebody asks about.
use Rattle.std.proofs.Common.{◌≡◌, ◌∙◌, ◌||◌, ◌&&◌, ℕ, zero, suc, Bool, true, false, cond, List, [], ◌∷◌, ◌++◌, map, Option, Some, None, Result, Ok, Err, append_assoc, refl, sym, ap, subst}
use Rattle.std.proofs.lemmas.Slice.Eq.{bytes_eq-Decides}
use Rattle.std.specs.List.{find, flat_map, list_all, list_any, slice_get}
use Rattle.std.specs.Option.{ok_or, option_map}
use Rattle.std.specs.Prelude.{if◌then◌else◌}
use Rattle.std.specs.Str.{bytes_eq}
use Rattle.sbl_ast.specs.Order.{ItemInMode, in_order}
use Rattle.sbl_ast.specs.Source.{Source}
use Rattle.sbl_ast.specs.Tree.{Command, Groups, Others, Plain, routine, grouping, declaration, escapes, macro}
use Rattle.sbl_ast.specs.declared.tree.DeclarationKind.{DeclarationKind}
use Rattle.sbl_ast.specs.declared.tree.DeclarationKind.TheVariants as kinds
use Rattle.sbl_machine.specs.Marks.{has_item}
use Rattle.sbl_semantics.specs.Items.{is_member, known_in, names_by}
use Rattle.sbl_semantics.specs.TouchedItems.{Names'}
use Rattle.sbl_ast.specs.NamedParts.{Part', Routine, Among, Grouping}
use Rattle.sbl_source_map.specs.Definitions.{defines_name}
use Rattle.sbl_tree_amongs.specs.Amongs.{amongs_of_body}
use Rattle.sbl_uses.specs.Counts.{usables_in, usables_of}
use Rattle.sbl_uses.specs.Parts.{Part, amongs_from, groups_held, parts_by, strings_of}
use Rattle.sbl_uses.specs.Used.{Entry, Usable, Whole}
use Rattle.sbl_uses.specs.UsableViews.{is_defined}
use Rattle.sbl_uses.specs.Uses.{Question, OfName, OfAmong, OfString, entry_in, name_in, strings_at, usable_for, usable_in, usable_in_body, usable_of_terms}
use Rattle.sbl_uses.specs.declared.uses.UsesFault.{UsesFault}
use Rattle.sbl_uses.specs.declared.uses.UsesFault.TheVariants as fault
use Rattle.sbl_uses.proofs.Unions.{or_last}

-- ---- names

member_later : (xs ys : List (List ℕ)) (n : List ℕ) → is_member ys n ≡ true → is_member (xs ++ ys) n ≡ true
member_later [] ys n h = h
member_later (x ∷ xs) ys n h = by (bytes_eq x n) (member_later xs ys n h)
  where
    by : (b : Bool) → is_member (xs ++ ys) n ≡ true → (if b then true else is_member (xs ++ ys) n) ≡ true
    by true rest = refl
    by false rest = rest

member_first : (n : List ℕ) (ns : List (List ℕ)) → is_member (n ∷ ns) n ≡ true
member_first n ns = rw ((bytes_eq-Decides n n).1 refl) refl

-- the names that items define
abbrev names_in : List ItemInMode → Names'
names_in xs = record { routines = known_in xs kinds.Routines; groupings = known_in xs kinds.Groupings }

-- an item of the others is one of all
has_later : (x : ItemInMode) (xs : List ItemInMode) (y : Part') → has_item (names_in xs) y ≡ true → has_item (names_in (x ∷ xs)) y ≡ true
has_later x xs (Routine n) h = member_later (names_by kinds.Routines x.plain) (known_in xs kinds.Routines) n h
has_later x xs (Among n k) h = member_later (names_by kinds.Routines x.plain) (known_in xs kinds.Routines) n h
has_later x xs (Grouping n) h = member_later (names_by kinds.Groupings x.plain) (known_in xs kinds.Groupings) n h

-- ---- what runs can use

abbrev has_usable : Names' → Usable → Bool
has_usable names (Whole x) = has_item names x
has_usable names (Entry t) = true

all_append : (test : Usable → Bool) (us vs : List Usable) → list_all test us ≡ true → list_all test vs ≡ true → list_all test (us ++ vs) ≡ true
all_append test [] vs h g = g
all_append test (u ∷ us) vs h g = by (test u) (list_all test us) h (all_append test us vs)
  where
    by : (a b : Bool) → (a && b) ≡ true → (b ≡ true → list_all test vs ≡ true → list_all test (us ++ vs) ≡ true) → (a && list_all test (us ++ vs)) ≡ true
    by true b h rest = rest h g
    by false b h rest = cc h

entries_defined : (names : Names') (x : Part') (strings : List (List ℕ)) → list_all (has_usable names) (map (λ q. Entry (x, q)) strings) ≡ true
entries_defined names x [] = refl
entries_defined names x (q ∷ strings) = entries_defined names x strings

part_defined : (names : Names') (p : Part) → has_item names p.0 ≡ true → list_all (has_usable names) (usables_in p) ≡ true
part_defined names p h = rw h (entries_defined names p.0 p.1)

amongs_defined : (names : Names') (n : List ℕ) → is_member names.routines n ≡ true → (k : ℕ) (gs : List Groups) → list_all (has_usable names) (flat_map usables_in (amongs_from k n gs)) ≡ true
amongs_defined names n h k [] = refl
amongs_defined names n h k (g ∷ gs) =
    all_append (has_usable names) (usables_in (Among n k, strings_of g)) (flat_map usables_in (amongs_from (suc k) n gs)) (part_defined names (Among n k, strings_of g) h)
    (amongs_defined names n h (suc k) gs)

-- a definition, if the names have what it defines
plain_defined : (names : Names') (x : Plain) → ((n : List ℕ) → is_member (names_by kinds.Routines x) n ≡ true → is_member names.routines n ≡ true)
    → ((n : List ℕ) → is_member (names_by kinds.Groupings x) n ≡ true → is_member names.groupings n ≡ true) → list_all (has_usable names) (flat_map usables_in (parts_by x)) ≡ true
plain_defined names (routine n c os) routines groupings =
    let there = routines n (member_first n []) in
    all_append (has_usable names) (usables_in (Routine n, [])) (flat_map usables_in (amongs_from 1 n (groups_held (amongs_of_body (c, os)))))
    (part_defined names (Routine n, []) there) (amongs_defined names n there 1 (groups_held (amongs_of_body (c, os))))
plain_defined names (grouping n a ts) routines groupings =
    all_append (has_usable names) (usables_in (Grouping n, [])) [] (part_defined names (Grouping n, []) (groupings n (member_first n []))) refl
plain_defined names (declaration k ns) routines groupings = refl
plain_defined names (escapes a b) routines groupings = refl
plain_defined names (macro n b q) routines groupings = refl

member_sooner : (xs ys : List (List ℕ)) (n : List ℕ) → is_member xs n ≡ true → is_member (xs ++ ys) n ≡ true
member_sooner [] ys n h = cc h
member_sooner (x ∷ xs) ys n h = by (bytes_eq x n) h (member_sooner xs ys n)
  where
    by : (b : Bool) → (if b then true else is_member xs n) ≡ true → (is_member xs n ≡ true → is_member (xs ++ ys) n ≡ true) → (if b then true else is_member (xs ++ ys) n) ≡ true
    by true h rest = refl
    by false h rest = rest h

flat_append : {X Y : Type 0} (f : X → List Y) (xs ys : List X) → flat_map f (xs ++ ys) ≡ flat_map f xs ++ flat_map f ys
flat_append f [] ys = refl
flat_append f (x ∷ xs) ys = ap (λ l. f x ++ l) (flat_append f xs ys) ∙ sym (append_assoc (f x) (flat_map f xs) (flat_map f ys))

-- the last of some items, if all of them are among the names
all_defined : (names : Names') (xs : List ItemInMode) → ((y : Part') → has_item (names_in xs) y ≡ true → has_item names y ≡ true)
    → list_all (has_usable names) (flat_map usables_in (flat_map (λ (x : ItemInMode). parts_by x.plain) xs)) ≡ true
all_defined names [] has = refl
all_defined names (x ∷ xs) has =
    subst (λ (us : List Usable). list_all (has_usable names) us ≡ true) (sym (flat_append usables_in (parts_by x.plain) (flat_map (λ (y : ItemInMode). parts_by y.plain) xs)))
    (all_append (has_usable names) (flat_map usables_in (parts_by x.plain)) (flat_map usables_in (flat_map (λ (y : ItemInMode). parts_by y.plain) xs))
    (plain_defined names x.plain (λ n h. has (Routine n) (member_sooner (names_by kinds.Routines x.plain) (known_in xs kinds.Routines) n h))
    (λ n h. has (Grouping n) (member_sooner (names_by kinds.Groupings x.plain) (known_in xs kinds.Groupings) n h)))
    (all_defined names xs (λ y h. has y (has_later x xs y h))))

same_test : (script : Source) (us : List Usable) → list_all (is_defined script) us ≡ list_all (has_usable (names_in (in_order script.items))) us
same_test script [] = refl
same_test script (Whole x ∷ us) = ap (λ (b : Bool). has_item (names_in (in_order script.items)) x && b) (same_test script us)
same_test script (Entry t ∷ us) = same_test script us

-- what runs of a script can use is defined by it
pub usables_defined : (script : Source) → list_all (is_defined script) (usables_of script) ≡ true
usables_defined script = same_test script (usables_of script) ∙ all_defined (names_in (in_order script.items)) (in_order script.items) (λ y h. h)

-- ---- what somebody asks about

some_is : (x y : Plain) → Some x ≡ Some y → x ≡ y
some_is x y e = cc e

eq_back : (m n : List ℕ) → bytes_eq n m ≡ true → bytes_eq m n ≡ true
eq_back m n h = (bytes_eq-Decides m n).1 (sym ((bytes_eq-Decides n m).0 h))

abbrev plains : List ItemInMode → List Plain
plains xs = map (λ (x : ItemInMode). x.plain) xs

-- the first definition of a name, if it adds the name to those of a kind
named_there : (k : DeclarationKind) (n : List ℕ) (p : Plain) → (defines_name n p ≡ true → is_member (names_by k p) n ≡ true)
    → (xs : List ItemInMode) → find (defines_name n) (plains xs) ≡ Some p → is_member (known_in xs k) n ≡ true
named_there k n p adds [] h = cc h
named_there k n p adds (x ∷ xs) h = by (defines_name n x.plain) refl h (named_there k n p adds xs)
  where
    by : (b : Bool) → defines_name n x.plain ≡ b → cond b (Some x.plain) (find (defines_name n) (plains xs)) ≡ Some p
        → (find (defines_name n) (plains xs) ≡ Some p → is_member (known_in xs k) n ≡ true) → is_member (known_in (x ∷ xs) k) n ≡ true
    by true passes is rest =
        let same : x.plain ≡ p = some_is x.plain p is in
        let there : is_member (names_by k x.plain) n ≡ true =
        subst (λ (y : Plain). is_member (names_by k y) n ≡ true) (sym same) (adds (subst (λ (y : Plain). defines_name n y ≡ true) same passes)) in
        member_sooner (names_by k x.plain) (known_in xs k) n there
    by false passes is rest = member_later (names_by k x.plain) (known_in xs k) n (rest is)

only_member : (m n : List ℕ) → bytes_eq n m ≡ true → is_member (m ∷ []) n ≡ true
only_member m n h = rw (eq_back m n h) refl

abbrev usable_result : Usable → Result Usable UsesFault
usable_result u = Ok u

ok_is : (u v : Usable) → usable_result u ≡ usable_result v → u ≡ v
ok_is u v e = cc e

-- what somebody asks about of a routine
in_body : (names : Names') (b : Command × Others) (q : Question) (u : Usable) → is_member names.routines (name_in q) ≡ true → usable_in_body b q ≡ Ok u → has_usable names u ≡ true
in_body names b (OfName n) u there h = subst (λ (v : Usable). has_usable names v ≡ true) (ok_is (Whole (Routine n)) u h) there
in_body names b (OfAmong n k) u there h = by (strings_at b k) h
  where
    by : (o : Option (List (List ℕ))) → ok_or (option_map (λ strings. Whole (Among n k)) o) fault.NoAmong ≡ Ok u → has_usable names u ≡ true
    by None e = cc e
    by (Some strings) e = subst (λ (v : Usable). has_usable names v ≡ true) (ok_is (Whole (Among n k)) u e) there
in_body names b (OfString n k q) u there h = by (strings_at b k) h
  where
    which : (strings : List (List ℕ)) (d : Bool) → (if d then Ok (Entry (Among n k, q)) else Err fault.NoString) ≡ Ok u → has_usable names u ≡ true
    which strings true e = subst (λ (v : Usable). has_usable names v ≡ true) (ok_is (Entry (Among n k, q)) u e) refl
    which strings false e = cc e

    by : (o : Option (List (List ℕ))) → entry_in (Among n k) q o ≡ Ok u → has_usable names u ≡ true
    by None e = cc e
    by (Some strings) e = which strings (list_any (bytes_eq q) strings) e

-- the same of a grouping
of_terms : (names : Names') (q : Question) (u : Usable) → is_member names.groupings (name_in q) ≡ true → usable_of_terms q ≡ Ok u → has_usable names u ≡ true
of_terms names (OfName n) u there h = subst (λ (v : Usable). has_usable names v ≡ true) (ok_is (Whole (Grouping n)) u h) there
of_terms names (OfAmong n k) u there h = cc h
of_terms names (OfString n k q) u there h = cc h

defined_is : (script : Source) (u : Usable) → is_defined script u ≡ has_usable (names_in (in_order script.items)) u
defined_is script (Whole x) = refl
defined_is script (Entry t) = refl

-- a script defines what somebody asks about, if it has such a part
pub asked_defined : (script : Source) (q : Question) (u : Usable) → usable_for script q ≡ Ok u → is_defined script u ≡ true
asked_defined script q u h = defined_is script u ∙ by (find (defines_name n) (plains xs)) refl h
  where
    n : List ℕ
    n = name_in q

    xs : List ItemInMode
    xs = in_order script.items

    names : Names'
    names = names_in xs

    by : (o : Option Plain) → find (defines_name n) (plains xs) ≡ o → usable_in o q ≡ Ok u → has_usable names u ≡ true
    by None is e = cc e
    by (Some (routine m c os)) is e = in_body names (c, os) q u (named_there kinds.Routines n (routine m c os) (λ h. only_member m n (sym (or_last (bytes_eq n m)) ∙ h)) xs is) e
    by (Some (grouping m a ts)) is e = of_terms names q u (named_there kinds.Groupings n (grouping m a ts) (only_member m n) xs is) e
    by (Some (declaration k ns)) is e = cc e
    by (Some (escapes a b)) is e = cc e
    by (Some (macro k b p)) is e = cc e
