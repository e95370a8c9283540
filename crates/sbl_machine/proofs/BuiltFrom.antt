-- What is changed with an item holds with a grouping what is built from it.
use Rattle.std.proofs.Common.{◌≡◌, ◌∙◌, ◌||◌, ℕ, Bool, true, false, List, [], ◌∷◌, ◌++◌, refl, sym, ap, append_assoc}
use Rattle.std.specs.Prelude.{if◌then◌else◌}
use Rattle.std.specs.List.{AllByRecursion}
use Rattle.std.specs.Str.{bytes_eq}
use Rattle.std.proofs.lemmas.Bool.{true≢false, or_cases, or_left, or_right}
use Rattle.std.proofs.Common.{⊎_elim}
use Rattle.std.proofs.lemmas.Slice.Eq.{bytes_eq-Decides}
use Rattle.sbl_ast.specs.Order.{ItemInMode, in_order}
use Rattle.sbl_ast.specs.declared.mode.Mode.{Mode}
use Rattle.sbl_ast.specs.declared.tree.DeclarationKind.TheVariants as kinds
use Rattle.sbl_ast.specs.Tree.{Argument, written_out, by_name, Term, term, Plain, grouping, Item}
use Rattle.sbl_resolver.specs.Laws.{WellDeclaredPasses}
use Rattle.sbl_resolver.specs.Occurrences.{occurrences_of}
use Rattle.sbl_semantics.specs.Items.{known_in, names_by, is_member}
use Rattle.sbl_machine.specs.BuiltFrom.{any_names, IsClosed, IsClosedAt, and_built, is_affected_by, AffectedIsClosed}
use Rattle.sbl_machine.specs.inside.BuiltFromParts.{names}
use Rattle.sbl_machine.specs.inside.BuiltFromParts.{built_on, built_after}
use Rattle.sbl_ast.specs.NamedParts.{Part', Routine, Among, Grouping}
use Rattle.sbl_machine.proofs.GroupingNames.{IsKnown, AreKnown, names_are}
use Rattle.sbl_machine.proofs.NamesStand.{Passing}
use Rattle.sbl_ast.specs.Source.{Source}

-- ---- where no grouping is picked

module _ (chosen : List ℕ → Bool) (none : (n : List ℕ) → chosen n ≡ false) where
  no_name : (a : Argument) → names chosen a ≡ false
  no_name (written_out q) = refl
  no_name (by_name n) = none n

  no_names : (ts : List Term) → any_names chosen ts ≡ false
  no_names [] = refl
  no_names (term o a ∷ ts) = ap (λ (b : Bool). b || any_names chosen ts) (no_name a) ∙ no_names ts

  not_built : (a : Argument) (ts : List Term) → built_on chosen a ts ≡ false
  not_built a ts = ap (λ (b : Bool). b || any_names chosen ts) (no_name a) ∙ no_names ts

module _ (picked : Part' → Bool) (none : (n : List ℕ) → picked (Grouping n) ≡ false) where
  none_at : (x : Plain) → IsClosedAt picked x
  none_at (grouping n a ts) = λ h. absurd (true≢false (sym h ∙ not_built (λ m. picked (Grouping m)) none a ts))
  none_at _ = tt

  none_in : (xs : List ItemInMode) → AllByRecursion (λ x. IsClosedAt picked x.plain) xs
  none_in [] = tt
  none_in (x ∷ xs) = (none_at x.plain, none_in xs)

  pub none_closed : (s : Source) → IsClosed picked s
  none_closed s = none_in (in_order s.items)

-- ---- names

left_among : (xs ys : List (List ℕ)) (n : List ℕ) → is_member xs n ≡ true → is_member (xs ++ ys) n ≡ true
left_among [] ys n h = absurd (true≢false (sym h))
left_among (x ∷ xs) ys n h = at (bytes_eq x n) h (left_among xs ys n)
  where
    at : (b : Bool) → (if b then true else is_member xs n) ≡ true → (is_member xs n ≡ true → is_member (xs ++ ys) n ≡ true) → (if b then true else is_member (xs ++ ys) n) ≡ true
    at true k rest = refl
    at false k rest = rest k

last_among : (xs : List (List ℕ)) (n : List ℕ) → is_member (xs ++ n ∷ []) n ≡ true
last_among [] n = ap (λ (b : Bool). if b then true else false) ((bytes_eq-Decides n n).1 refl)
last_among (x ∷ xs) n = at (bytes_eq x n) (last_among xs n)
  where
    at : (b : Bool) → is_member (xs ++ n ∷ []) n ≡ true → (if b then true else is_member (xs ++ n ∷ []) n) ≡ true
    at true k = refl
    at false k = k

not_last : (xs : List (List ℕ)) (r n : List ℕ) → bytes_eq r n ≡ false → is_member (xs ++ r ∷ []) n ≡ true → is_member xs n ≡ true
not_last [] r n e h = absurd (true≢false (sym h ∙ ap (λ (b : Bool). if b then true else false) e))
not_last (x ∷ xs) r n e h = at (bytes_eq x n) h (not_last xs r n e)
  where
    at : (b : Bool) → (if b then true else is_member (xs ++ r ∷ []) n) ≡ true → (is_member (xs ++ r ∷ []) n ≡ true → is_member xs n ≡ true) → (if b then true else is_member xs n) ≡ true
    at true k rest = refl
    at false k rest = rest k

known_split : (xs ys : List ItemInMode) → known_in (xs ++ ys) kinds.Groupings ≡ known_in xs kinds.Groupings ++ known_in ys kinds.Groupings
known_split [] ys = refl
known_split (x ∷ xs) ys =
    ap (λ (l : List (List ℕ)). names_by kinds.Groupings x.plain ++ l) (known_split xs ys)
    ∙ sym (append_assoc (names_by kinds.Groupings x.plain) (known_in xs kinds.Groupings) (known_in ys kinds.Groupings))

-- ---- what is built after some items

built_split : (xs ys : List ItemInMode) (ns : List (List ℕ)) → built_after (xs ++ ys) ns ≡ built_after ys (built_after xs ns)
built_split [] ys ns = refl
built_split (x ∷ xs) ys ns = built_split xs ys (and_built x.plain ns)

either_more : (b : Bool) (r n : List ℕ) (ns : List (List ℕ)) → is_member ns n ≡ true → is_member (if b then ns ++ r ∷ [] else ns) n ≡ true
either_more true r n ns h = left_among ns (r ∷ []) n h
either_more false r n ns h = h

and_more : (x : Plain) (n : List ℕ) (ns : List (List ℕ)) → is_member ns n ≡ true → is_member (and_built x ns) n ≡ true
and_more (grouping r a ts) n ns h = either_more (built_on (is_member ns) a ts) r n ns h
and_more _ n ns h = h

-- names stay
pub built_more : (xs : List ItemInMode) (ns : List (List ℕ)) (n : List ℕ) → is_member ns n ≡ true → is_member (built_after xs ns) n ≡ true
built_more [] ns n h = h
built_more (x ∷ xs) ns n h = built_more xs (and_built x.plain ns) n (and_more x.plain n ns h)

either_back : (b : Bool) (r n : List ℕ) (ns : List (List ℕ)) → bytes_eq r n ≡ false → is_member (if b then ns ++ r ∷ [] else ns) n ≡ true → is_member ns n ≡ true
either_back true r n ns e h = not_last ns r n e h
either_back false r n ns e h = h

-- an item that does not define a name, and the names after it
apart : (r n : List ℕ) (rest : List (List ℕ)) → is_member (r ∷ rest) n ≡ false → (bytes_eq r n ≡ false) × (is_member rest n ≡ false)
apart r n rest h = at (bytes_eq r n) h
  where
    at : (b : Bool) → (if b then true else is_member rest n) ≡ false → (b ≡ false) × (is_member rest n ≡ false)
    at true k = absurd (true≢false k)
    at false k = (refl, k)

item_back : (x : Plain) (n : List ℕ) (rest ns : List (List ℕ)) → is_member (names_by kinds.Groupings x ++ rest) n ≡ false → (is_member rest n ≡ false) × (is_member (and_built x ns) n ≡ true → is_member ns n ≡ true)
item_back (grouping r a ts) n rest ns h =
    let d = apart r n rest h in
    (d.1, either_back (built_on (is_member ns) a ts) r n ns d.0)
item_back _ n rest ns h = (h, λ e. e)

-- none comes that is not defined there
pub built_back : (xs : List ItemInMode) (ns : List (List ℕ)) (n : List ℕ) → is_member (known_in xs kinds.Groupings) n ≡ false → is_member (built_after xs ns) n ≡ true → is_member ns n ≡ true
built_back [] ns n h e = e
built_back (x ∷ xs) ns n h e =
    let d = item_back x.plain n (known_in xs kinds.Groupings) ns h in
    d.1 (built_back xs (and_built x.plain ns) n d.0 e)

-- ---- terms whose names are known

module _ (known : List (List ℕ)) (more fewer : List ℕ → Bool) (back : (n : List ℕ) → is_member known n ≡ true → more n ≡ true → fewer n ≡ true) where
  name_back : (a : Argument) → IsKnown known a → names more a ≡ true → names fewer a ≡ true
  name_back (written_out q) k h = h
  name_back (by_name n) k h = back n k h

  names_back : (ts : List Term) → AreKnown known ts → any_names more ts ≡ true → any_names fewer ts ≡ true
  names_back [] k h = h
  names_back (term o a ∷ ts) k h =
      ⊎_elim (λ e. or_left (names fewer a) _ (name_back a k.0 e)) (λ e. or_right (names fewer a) _ (names_back ts k.1 e)) (or_cases (names more a) _ h)

  built_on_back : (a : Argument) (ts : List Term) → IsKnown known a → AreKnown known ts → built_on more a ts ≡ true → built_on fewer a ts ≡ true
  built_on_back a ts k l h =
      ⊎_elim (λ e. or_left (names fewer a) _ (name_back a k e)) (λ e. or_right (names fewer a) _ (names_back ts l e)) (or_cases (names more a) _ h)

-- ---- a script that passes

module _ (items : List Item) (passing : Passing (occurrences_of items)) (g : List ℕ) where
  abbrev Parts : List ItemInMode → List ItemInMode → Type 0
  Parts bs rest = in_order items ≡ bs ++ rest

  further : (bs : List ItemInMode) (x : ItemInMode) (rest : List ItemInMode) → Parts bs (x ∷ rest) → Parts (bs ++ x ∷ []) rest
  further bs x rest p = p ∙ sym (append_assoc bs (x ∷ []) rest)

  known_further : (bs : List ItemInMode) (x : ItemInMode) (n : List ℕ) → is_member (known_in bs kinds.Groupings) n ≡ true → is_member (known_in (bs ++ x ∷ []) kinds.Groupings) n ≡ true
  known_further bs x n h =
      ap (λ l. is_member l n) (known_split bs (x ∷ [])) ∙ left_among (known_in bs kinds.Groupings) (known_in (x ∷ []) kinds.Groupings) n h

  other_name : (bs rest : List ItemInMode) (m : Mode) (r : List ℕ) (a : Argument) (ts : List Term) → Parts bs ((record { mode = m; plain = grouping r a ts }) ∷ rest) → (n : List ℕ) → is_member (known_in bs kinds.Groupings) n ≡ true
      → (b : Bool) → bytes_eq r n ≡ b → is_member (known_in rest kinds.Groupings) n ≡ false → (if b then true else is_member (known_in rest kinds.Groupings) n) ≡ false
  other_name bs rest m r a ts p n h true e k =
      absurd (true≢false (sym h ∙ sym (ap (is_member (known_in bs kinds.Groupings)) ((bytes_eq-Decides r n).0 e)) ∙ (names_are items passing bs rest m r a ts p).once))
  other_name bs rest m r a ts p n h false e k = k

  one_fresh : (bs rest : List ItemInMode) (m : Mode) (x : Plain) → Parts bs ((record { mode = m; plain = x }) ∷ rest) → (n : List ℕ) → is_member (known_in bs kinds.Groupings) n ≡ true
      → is_member (known_in rest kinds.Groupings) n ≡ false → is_member (names_by kinds.Groupings x ++ known_in rest kinds.Groupings) n ≡ false
  one_fresh bs rest m (grouping r a ts) p n h k = other_name bs rest m r a ts p n h (bytes_eq r n) refl k
  one_fresh bs rest m _ p n h k = k

  -- a grouping of some items is not defined again after them
  fresh : (rest bs : List ItemInMode) → Parts bs rest → (n : List ℕ) → is_member (known_in bs kinds.Groupings) n ≡ true → is_member (known_in rest kinds.Groupings) n ≡ false
  fresh [] bs p n h = refl
  fresh (x ∷ rest) bs p n h = one_fresh bs rest x.mode x.plain p n h (fresh rest (bs ++ x ∷ []) (further bs x rest p) n (known_further bs x n h))

  abbrev whole : List (List ℕ)
  whole = built_after (in_order items) (g ∷ [])

  built_item : (bs rest : List ItemInMode) (m : Mode) (n : List ℕ) (a : Argument) (ts : List Term) → Parts bs ((record { mode = m; plain = grouping n a ts }) ∷ rest) → built_on (is_member whole) a ts ≡ true → is_member whole n ≡ true
  built_item bs rest m n a ts p h =
      let x : ItemInMode = record { mode = m; plain = grouping n a ts } in
      let ns = built_after bs (g ∷ []) in
      let are = names_are items passing bs rest m n a ts p in
      let is : whole ≡ built_after (x ∷ rest) ns = ap (λ l. built_after l (g ∷ [])) p ∙ built_split bs (x ∷ rest) (g ∷ []) in
      let back : (k : List ℕ) → is_member (known_in bs kinds.Groupings) k ≡ true → is_member whole k ≡ true → is_member ns k ≡ true = λ k e there. built_back (x ∷ rest) ns k (fresh (x ∷ rest) bs p k e) (sym (ap (λ l. is_member l k) is) ∙ there) in
      let here : built_on (is_member ns) a ts ≡ true = built_on_back (known_in bs kinds.Groupings) (is_member whole) (is_member ns) back a ts are.first are.others h in
      let added : is_member (and_built (grouping n a ts) ns) n ≡ true = ap (λ (b : Bool). is_member (if b then ns ++ n ∷ [] else ns) n) here ∙ last_among ns n in
      ap (λ l. is_member l n) is ∙ built_more rest (and_built (grouping n a ts) ns) n added

  built_at : (s : Source) → (λ m. is_affected_by s (Grouping g) (Grouping m)) ≡ is_member whole → (bs rest : List ItemInMode) (m : Mode) (x : Plain) → Parts bs ((record { mode = m; plain = x }) ∷ rest) → IsClosedAt (is_affected_by s (Grouping g)) x
  built_at s e bs rest m (grouping n a ts) p =
      λ h. ap (λ f. f n) e ∙ built_item bs rest m n a ts p (sym (ap (λ f. built_on f a ts) e) ∙ h)
  built_at s e bs rest m _ p = tt

  built_closed : (s : Source) → (λ m. is_affected_by s (Grouping g) (Grouping m)) ≡ is_member whole → (rest bs : List ItemInMode) → Parts bs rest → AllByRecursion (λ x. IsClosedAt (is_affected_by s (Grouping g)) x.plain) rest
  built_closed s e [] bs p = tt
  built_closed s e (x ∷ rest) bs p = (built_at s e bs rest x.mode x.plain p, built_closed s e rest (bs ++ x ∷ []) (further bs x rest p))

pub affected_closed : WellDeclaredPasses → AffectedIsClosed
affected_closed passes s well (Routine n) = none_closed (is_affected_by s (Routine n)) (λ m. refl) s
affected_closed passes s well (Among n k) = none_closed (is_affected_by s (Among n k)) (λ m. refl) s
affected_closed passes s well (Grouping g) =
    built_closed s.items (record { each = (passes s.items s.external well).0 }) g s refl (in_order s.items) [] refl
