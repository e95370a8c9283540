-- Two trees with the same tokens are one.
use Rattle.std.proofs.Common.{◌≡◌, ℕ, true, false, List, [], ◌∷◌, Option, Some, None, refl, sym, ap}
use Rattle.sbl_ast.specs.declared.tree.Base.{Base}
use Rattle.sbl_ast.specs.Tree.{QuotedText, Argument, written_out, by_name, Entry, Command, bracket, simple_, literal_, name_, non_, prefixed, counted, move_, named, splice_, setlimit_, assign_, compare_, compare_values_, among_, Rows, no_rows, row, Others, no_others, joined, Starter, no_starter, starter, Groups, bare, group, Term, term, Plain, declaration, escapes, macro, routine, grouping, Item, plain, backward}
use Rattle.sbl_ast.specs.Terminal as t
use Rattle.sbl_ast.specs.Spelled.{argument_terminal, spelled_expression, spelled_entries, spelled_command, spelled_rows, spelled_others, spelled_starter, spelled_groups, spelled_names, spelled_base, spelled_terms, spelled_plain, spelled_plains, spelled_item, spelled_items, script_tokens}
use Rattle.sbl_parser.proofs.TokenStarts.{Ts, is_adds, is_joins, is_name, is_string, is_open, Never, Ends, EndsRow, differ, same_argument, tail, calm, same_expression, entry_string, entry_no_open, EndsEntries, same_entries}
use Rattle.sbl_parser.specs.Roles.{role_of}
use Rattle.sbl_parser.specs.Starts.{begins_command, begins_item}

-- ---- commands

close_ends_row : (ts : Ts) → EndsRow (t.close_ ∷ ts)
close_ends_row ts = record { ends = calm t.close_ ts refl refl; joins_not = refl }

tree_begins : (c : Command) (rest : Ts) → begins_command (role_of (spelled_command c rest)) ≡ true
tree_begins (bracket rs) rest = refl
tree_begins (non_ true n) rest = refl
tree_begins _ rest = refl

tree_ends : (c : Command) (rest : Ts) → EndsRow (spelled_command c rest)
tree_ends (bracket rs) rest = record { ends = record { adds_not = refl; multiplies_not = refl }; joins_not = refl }
tree_ends (non_ true n) rest = record { ends = record { adds_not = refl; multiplies_not = refl }; joins_not = refl }
tree_ends _ rest = record { ends = record { adds_not = refl; multiplies_not = refl }; joins_not = refl }

rows_end : (rs : Rows) (rest : Ts) → EndsRow rest → EndsRow (spelled_rows rs rest)
rows_end no_rows rest h = h
rows_end (row c os rs) rest h = tree_ends c _

others_end : (os : Others) (rest : Ts) → Ends rest → Ends (spelled_others os rest)
others_end no_others rest h = h
others_end (joined j c os) rest h = record { adds_not = refl; multiplies_not = refl }

groups_no_open : (gs : Groups) (rest : Ts) → Never is_open rest → Never is_open (spelled_groups gs rest)
groups_no_open (bare []) rest h = h
groups_no_open (bare (x ∷ xs)) rest h = entry_no_open x _
groups_no_open (group x xs rs gs) rest h = entry_no_open x _

groups_string : (x : Entry) (xs : List Entry) (rest : Ts) → is_string (role_of (spelled_entries (x ∷ xs) rest)) ≡ true
groups_string x xs rest = entry_string x _

after_block : (ts : Ts) → EndsEntries (t.open_ ∷ ts)
after_block ts = record { name_not = refl; string_not = refl }

bare_block : (xs ys : List Entry) (a ts : Ts) → EndsEntries (t.close_ ∷ a) → spelled_entries xs (t.close_ ∷ a) ≡ spelled_entries ys (t.open_ ∷ ts) → ⊥
bare_block xs ys a ts h e = let m = same_entries xs ys (t.close_ ∷ a) (t.open_ ∷ ts) h (after_block ts) e in let f = m.1 in cc

mutual
  same_tree : (c u : Command) (a b : Ts) → Ends a → Ends b → spelled_command c a ≡ spelled_command u b → (c ≡ u) × (a ≡ b)
  same_tree (bracket rs) (bracket qs) a b ha hb e =
      let m = same_rows rs qs (t.close_ ∷ a) (t.close_ ∷ b) (close_ends_row a) (close_ends_row b) refl refl (tail _ _ _ _ e) in (ap (λ (r : Rows). bracket r) m.0, tail _ _ _ _ m.1)
  same_tree (simple_ x) (simple_ y) a b ha hb e = (cc, cc)
  same_tree (literal_ p) (literal_ q) a b ha hb e = (cc, cc)
  same_tree (name_ n) (name_ m) a b ha hb e = (cc, cc)
  same_tree (non_ true n) (non_ true m) a b ha hb e = (cc, cc)
  same_tree (non_ false n) (non_ false m) a b ha hb e = (cc, cc)
  same_tree (prefixed p c) (prefixed q u) a b ha hb e = let m = same_tree c u a b ha hb (tail _ _ _ _ e) in let heads : p ≡ q = cc in (cc, m.1)
  same_tree (counted n x c) (counted l y u) a b ha hb e =
      let m = same_expression x y (spelled_command c a) (spelled_command u b) (tree_ends c a).ends (tree_ends u b).ends (tail _ _ _ _ e) in
      let r = same_tree c u a b ha hb m.1 in
      let heads : n ≡ l = cc in
      (cc, r.1)
  same_tree (move_ n x) (move_ l y) a b ha hb e = let m = same_expression x y a b ha hb (tail _ _ _ _ e) in let heads : n ≡ l = cc in (cc, m.1)
  same_tree (named x n) (named y m) a b ha hb e = (cc, cc)
  same_tree (splice_ x p) (splice_ y q) a b ha hb e =
      let heads : argument_terminal p ≡ argument_terminal q = cc in
      let same = same_argument p q heads in
      let words : x ≡ y = cc in
      (cc, cc)
  same_tree (setlimit_ c x) (setlimit_ u y) a b ha hb e =
      let m = same_tree c u (t.for_ ∷ spelled_command x a) (t.for_ ∷ spelled_command y b) (calm t.for_ _ refl refl) (calm t.for_ _ refl refl) (tail _ _ _ _ e) in
      let r = same_tree x y a b ha hb (tail _ _ _ _ m.1) in
      (cc, r.1)
  same_tree (assign_ n o x) (assign_ l u y) a b ha hb e =
      let m = same_expression x y a b ha hb (tail _ _ _ _ (tail _ _ _ _ (tail _ _ _ _ e))) in
      let heads : n ≡ l = cc in
      let words : o ≡ u = cc in
      (cc, m.1)
  same_tree (compare_ n o x) (compare_ l u y) a b ha hb e =
      let m = same_expression x y a b ha hb (tail _ _ _ _ (tail _ _ _ _ (tail _ _ _ _ e))) in
      let heads : n ≡ l = cc in
      let words : o ≡ u = cc in
      (cc, m.1)
  same_tree (compare_values_ x o y) (compare_values_ z u w) a b ha hb e =
      let m = same_expression x z (t.compares o ∷ spelled_expression y (t.close_ ∷ a)) (t.compares u ∷ spelled_expression w (t.close_ ∷ b)) (calm (t.compares o) _ refl refl) (calm (t.compares u) _ refl refl) (tail _ _ _ _ (tail _ _ _ _ e)) in
      let both = m.1 in
      let words : o ≡ u = cc in
      let r = same_expression y w (t.close_ ∷ a) (t.close_ ∷ b) (calm t.close_ a refl refl) (calm t.close_ b refl refl) (tail _ _ _ _ both) in
      (cc, tail _ _ _ _ r.1)
  same_tree (among_ x gs) (among_ y hs) a b ha hb e =
      let m = same_starter x y (spelled_groups gs (t.close_ ∷ a)) (spelled_groups hs (t.close_ ∷ b)) (groups_no_open gs (t.close_ ∷ a) refl) (groups_no_open hs (t.close_ ∷ b) refl) (tail _ _ _ _ (tail _ _ _ _ e)) in
      let r = same_groups gs hs a b m.1 in
      (cc, r.1)
  same_tree (non_ true n) (non_ false m) a b ha hb e = absurd cc
  same_tree (non_ false n) (non_ true m) a b ha hb e = absurd cc
  same_tree (bracket x0) (non_ true m) a b ha hb e = absurd cc
  same_tree (bracket x0) (non_ false m) a b ha hb e = absurd cc
  same_tree (simple_ x0) (non_ true m) a b ha hb e = absurd cc
  same_tree (simple_ x0) (non_ false m) a b ha hb e = absurd cc
  same_tree (literal_ x0) (non_ true m) a b ha hb e = absurd cc
  same_tree (literal_ x0) (non_ false m) a b ha hb e = absurd cc
  same_tree (name_ x0) (non_ true m) a b ha hb e = absurd cc
  same_tree (name_ x0) (non_ false m) a b ha hb e = absurd cc
  same_tree (prefixed x0 x1) (non_ true m) a b ha hb e = absurd cc
  same_tree (prefixed x0 x1) (non_ false m) a b ha hb e = absurd cc
  same_tree (counted x0 x1 x2) (non_ true m) a b ha hb e = absurd cc
  same_tree (counted x0 x1 x2) (non_ false m) a b ha hb e = absurd cc
  same_tree (move_ x0 x1) (non_ true m) a b ha hb e = absurd cc
  same_tree (move_ x0 x1) (non_ false m) a b ha hb e = absurd cc
  same_tree (named x0 x1) (non_ true m) a b ha hb e = absurd cc
  same_tree (named x0 x1) (non_ false m) a b ha hb e = absurd cc
  same_tree (splice_ x0 x1) (non_ true m) a b ha hb e = absurd cc
  same_tree (splice_ x0 x1) (non_ false m) a b ha hb e = absurd cc
  same_tree (setlimit_ x0 x1) (non_ true m) a b ha hb e = absurd cc
  same_tree (setlimit_ x0 x1) (non_ false m) a b ha hb e = absurd cc
  same_tree (assign_ x0 x1 x2) (non_ true m) a b ha hb e = absurd cc
  same_tree (assign_ x0 x1 x2) (non_ false m) a b ha hb e = absurd cc
  same_tree (compare_ x0 x1 x2) (non_ true m) a b ha hb e = absurd cc
  same_tree (compare_ x0 x1 x2) (non_ false m) a b ha hb e = absurd cc
  same_tree (compare_values_ x0 x1 x2) (non_ true m) a b ha hb e = absurd cc
  same_tree (compare_values_ x0 x1 x2) (non_ false m) a b ha hb e = absurd cc
  same_tree (among_ x0 x1) (non_ true m) a b ha hb e = absurd cc
  same_tree (among_ x0 x1) (non_ false m) a b ha hb e = absurd cc
  same_tree (non_ true n) _ a b ha hb e = absurd cc
  same_tree (non_ false n) _ a b ha hb e = absurd cc
  same_tree _ _ a b ha hb e = absurd cc

  same_rows : (rs qs : Rows) (a b : Ts) → EndsRow a → EndsRow b → Never begins_command a → Never begins_command b → spelled_rows rs a ≡ spelled_rows qs b → (rs ≡ qs) × (a ≡ b)
  same_rows no_rows no_rows a b ha hb na nb e = (refl, e)
  same_rows no_rows (row u ps qs) a b ha hb na nb e = absurd (differ begins_command a (spelled_command u (spelled_others ps (spelled_rows qs b))) na (tree_begins u _) e)
  same_rows (row c os rs) no_rows a b ha hb na nb e = absurd (differ begins_command b (spelled_command c (spelled_others os (spelled_rows rs a))) nb (tree_begins c _) (sym e))
  same_rows (row c os rs) (row u ps qs) a b ha hb na nb e =
      let ra = rows_end rs a ha in
      let rb = rows_end qs b hb in
      let m = same_tree c u (spelled_others os (spelled_rows rs a)) (spelled_others ps (spelled_rows qs b)) (others_end os _ ra.ends) (others_end ps _ rb.ends) e in
      let n = same_others os ps (spelled_rows rs a) (spelled_rows qs b) ra rb m.1 in
      let l = same_rows rs qs a b ha hb na nb n.1 in
      (cc, l.1)

  same_others : (os ps : Others) (a b : Ts) → EndsRow a → EndsRow b → spelled_others os a ≡ spelled_others ps b → (os ≡ ps) × (a ≡ b)
  same_others no_others no_others a b ha hb e = (refl, e)
  same_others no_others (joined j u ps) a b ha hb e = absurd (differ is_joins a (t.joiner j ∷ spelled_command u (spelled_others ps b)) ha.joins_not refl e)
  same_others (joined j c os) no_others a b ha hb e = absurd (differ is_joins b (t.joiner j ∷ spelled_command c (spelled_others os a)) hb.joins_not refl (sym e))
  same_others (joined j c os) (joined i u ps) a b ha hb e =
      let m = same_tree c u (spelled_others os a) (spelled_others ps b) (others_end os a ha.ends) (others_end ps b hb.ends) (tail _ _ _ _ e) in
      let n = same_others os ps a b ha hb m.1 in
      let heads : j ≡ i = cc in
      (cc, n.1)

  same_starter : (x y : Starter) (a b : Ts) → Never is_open a → Never is_open b → spelled_starter x a ≡ spelled_starter y b → (x ≡ y) × (a ≡ b)
  same_starter no_starter no_starter a b ha hb e = (refl, e)
  same_starter no_starter (starter qs) a b ha hb e = absurd (differ is_open a (t.open_ ∷ spelled_rows qs (t.close_ ∷ b)) ha refl e)
  same_starter (starter rs) no_starter a b ha hb e = absurd (differ is_open b (t.open_ ∷ spelled_rows rs (t.close_ ∷ a)) hb refl (sym e))
  same_starter (starter rs) (starter qs) a b ha hb e =
      let m = same_rows rs qs (t.close_ ∷ a) (t.close_ ∷ b) (close_ends_row a) (close_ends_row b) refl refl (tail _ _ _ _ e) in (ap (λ (r : Rows). starter r) m.0, tail _ _ _ _ m.1)

  same_groups : (gs hs : Groups) (a b : Ts) → spelled_groups gs (t.close_ ∷ a) ≡ spelled_groups hs (t.close_ ∷ b) → (gs ≡ hs) × (a ≡ b)
  same_groups (bare xs) (bare ys) a b e =
      let m = same_entries xs ys (t.close_ ∷ a) (t.close_ ∷ b) (record { name_not = refl; string_not = refl }) (record { name_not = refl; string_not = refl }) e in
      (ap (λ (r : List Entry). bare r) m.0, tail _ _ _ _ m.1)
  same_groups (bare xs) (group y ys qs hs) a b e = absurd (bare_block xs (y ∷ ys) a (spelled_rows qs (t.close_ ∷ spelled_groups hs (t.close_ ∷ b))) (record { name_not = refl; string_not = refl }) e)
  same_groups (group x xs rs gs) (bare ys) a b e = absurd (bare_block ys (x ∷ xs) b (spelled_rows rs (t.close_ ∷ spelled_groups gs (t.close_ ∷ a))) (record { name_not = refl; string_not = refl }) (sym e))
  same_groups (group x xs rs gs) (group y ys qs hs) a b e =
      let ra = t.open_ ∷ spelled_rows rs (t.close_ ∷ spelled_groups gs (t.close_ ∷ a)) in
      let rb = t.open_ ∷ spelled_rows qs (t.close_ ∷ spelled_groups hs (t.close_ ∷ b)) in
      let m = same_entries (x ∷ xs) (y ∷ ys) ra rb (after_block _) (after_block _) e in
      let n = same_rows rs qs (t.close_ ∷ spelled_groups gs (t.close_ ∷ a)) (t.close_ ∷ spelled_groups hs (t.close_ ∷ b)) (close_ends_row _) (close_ends_row _) refl refl (tail _ _ _ _ m.1) in
      let l = same_groups gs hs a b (tail _ _ _ _ n.1) in
      let firsts : x ∷ xs ≡ y ∷ ys = m.0 in
      let rows_ : rs ≡ qs = n.0 in
      let groups_ : gs ≡ hs = l.0 in
      (cc, l.1)

-- ---- items

same_names : (ns ms : List (List ℕ)) (a b : Ts) → Never is_name a → Never is_name b → spelled_names ns a ≡ spelled_names ms b → (ns ≡ ms) × (a ≡ b)
same_names [] [] a b ha hb e = (refl, e)
same_names [] (m ∷ ms) a b ha hb e = absurd (differ is_name a (t.name m ∷ spelled_names ms b) ha refl e)
same_names (n ∷ ns) [] a b ha hb e = absurd (differ is_name b (t.name n ∷ spelled_names ns a) hb refl (sym e))
same_names (n ∷ ns) (m ∷ ms) a b ha hb e = let r = same_names ns ms a b ha hb (tail _ _ _ _ e) in let heads : n ≡ m = cc in (cc, r.1)

same_terms : (xs ys : List Term) (a b : Ts) → Never is_adds a → Never is_adds b → spelled_terms xs a ≡ spelled_terms ys b → (xs ≡ ys) × (a ≡ b)
same_terms [] [] a b ha hb e = (refl, e)
same_terms [] (term o q ∷ ys) a b ha hb e = absurd (differ is_adds a (t.additive o ∷ argument_terminal q ∷ spelled_terms ys b) ha refl e)
same_terms (term o p ∷ xs) [] a b ha hb e = absurd (differ is_adds b (t.additive o ∷ argument_terminal p ∷ spelled_terms xs a) hb refl (sym e))
same_terms (term o p ∷ xs) (term u q ∷ ys) a b ha hb e =
    let r = same_terms xs ys a b ha hb (tail _ _ _ _ (tail _ _ _ _ e)) in
    let heads : o ≡ u = cc in
    let both : argument_terminal p ≡ argument_terminal q = cc in
    let same = same_argument p q both in
    (cc, r.1)

same_base : (x y : Option Base) (p q : QuotedText) (a b : Ts) → spelled_base x (t.literal p ∷ a) ≡ spelled_base y (t.literal q ∷ b) → (x ≡ y) × (p ≡ q) × (a ≡ b)
same_base None None p q a b e = (refl, cc, cc)
same_base None (Some y) p q a b e = absurd cc
same_base (Some x) None p q a b e = absurd cc
same_base (Some x) (Some y) p q a b e = (cc, cc, cc)

-- what may follow an item
record EndsItem (ts : Ts) : Type 0 where
  pub row : EndsRow ts
  pub item_not : Never begins_item ts

as_argument : (p : Argument) (r : Ts) (c : Ts) → argument_terminal p ∷ r ≡ t.as_ ∷ c → ⊥
as_argument (written_out q) r c e = cc
as_argument (by_name n) r c e = cc

same_plain : (x y : Plain) (a b : Ts) → EndsRow a → EndsRow b → spelled_plain x a ≡ spelled_plain y b → (x ≡ y) × (a ≡ b)
same_plain (declaration k ns) (declaration l ms) a b ha hb e =
    let r = same_names ns ms (t.close_ ∷ a) (t.close_ ∷ b) refl refl (tail _ _ _ _ (tail _ _ _ _ e)) in
    let heads : k ≡ l = cc in
    (cc, tail _ _ _ _ r.1)
same_plain (escapes p q) (escapes r v) a b ha hb e = (cc, cc)
same_plain (macro n x p) (macro m y q) a b ha hb e =
    let r = same_base x y p q a b (tail _ _ _ _ (tail _ _ _ _ e)) in
    let heads : n ≡ m = cc in
    let quotes : p ≡ q = r.1 in
    let bases_ : x ≡ y = r.0 in
    (cc, r.2)
same_plain (routine n c os) (routine m u ps) a b ha hb e =
    let r = same_tree c u (spelled_others os a) (spelled_others ps b) (others_end os a ha.ends) (others_end ps b hb.ends) (tail _ _ _ _ (tail _ _ _ _ (tail _ _ _ _ e))) in
    let v = same_others os ps a b ha hb r.1 in
    let heads : n ≡ m = cc in
    (cc, v.1)
same_plain (routine n c os) (grouping m q ys) a b ha hb e = absurd (as_argument q _ _ (sym (tail _ _ _ _ (tail _ _ _ _ e))))
same_plain (grouping n p xs) (routine m u ps) a b ha hb e = absurd (as_argument p _ _ (tail _ _ _ _ (tail _ _ _ _ e)))
same_plain (grouping n p xs) (grouping m q ys) a b ha hb e =
    let r = same_terms xs ys a b ha.ends.adds_not hb.ends.adds_not (tail _ _ _ _ (tail _ _ _ _ (tail _ _ _ _ e))) in
    let heads : n ≡ m = cc in
    let both : argument_terminal p ≡ argument_terminal q = cc in
    let same = same_argument p q both in
    (cc, r.1)
same_plain _ _ a b ha hb e = absurd cc

plain_item : (x : Plain) (rest : Ts) → begins_item (role_of (spelled_plain x rest)) ≡ true
plain_item (declaration k ns) rest = refl
plain_item _ rest = refl

plain_ends : (x : Plain) (rest : Ts) → EndsRow (spelled_plain x rest)
plain_ends (declaration k ns) rest = record { ends = record { adds_not = refl; multiplies_not = refl }; joins_not = refl }
plain_ends _ rest = record { ends = record { adds_not = refl; multiplies_not = refl }; joins_not = refl }

plains_end : (xs : List Plain) (rest : Ts) → EndsRow rest → EndsRow (spelled_plains xs rest)
plains_end [] rest h = h
plains_end (x ∷ xs) rest h = plain_ends x _

same_plains : (xs ys : List Plain) (a b : Ts) → EndsItem a → EndsItem b → spelled_plains xs a ≡ spelled_plains ys b → (xs ≡ ys) × (a ≡ b)
same_plains [] [] a b ha hb e = (refl, e)
same_plains [] (y ∷ ys) a b ha hb e = absurd (differ begins_item a (spelled_plain y (spelled_plains ys b)) ha.item_not (plain_item y _) e)
same_plains (x ∷ xs) [] a b ha hb e = absurd (differ begins_item b (spelled_plain x (spelled_plains xs a)) hb.item_not (plain_item x _) (sym e))
same_plains (x ∷ xs) (y ∷ ys) a b ha hb e =
    let m = same_plain x y (spelled_plains xs a) (spelled_plains ys b) (plains_end xs a ha.row) (plains_end ys b hb.row) e in
    let n = same_plains xs ys a b ha hb m.1 in
    (cc, n.1)

after_plains : (ts : Ts) → EndsItem (t.close_ ∷ ts)
after_plains ts = record { row = close_ends_row ts; item_not = refl }

plain_backward : (x : Plain) (a b : Ts) → spelled_plain x a ≡ t.backward_mode ∷ b → ⊥
plain_backward (declaration k ns) a b e = cc
plain_backward _ a b e = cc

same_item : (x y : Item) (a b : Ts) → EndsRow a → EndsRow b → spelled_item x a ≡ spelled_item y b → (x ≡ y) × (a ≡ b)
same_item (plain x) (plain y) a b ha hb e = let m = same_plain x y a b ha hb e in (ap (λ (z : Plain). plain z) m.0, m.1)
same_item (plain x) (backward ys) a b ha hb e = absurd (plain_backward x a _ e)
same_item (backward xs) (plain y) a b ha hb e = absurd (plain_backward y b _ (sym e))
same_item (backward xs) (backward ys) a b ha hb e =
    let m = same_plains xs ys (t.close_ ∷ a) (t.close_ ∷ b) (after_plains a) (after_plains b) (tail _ _ _ _ (tail _ _ _ _ e)) in
    (ap (λ (z : List Plain). backward z) m.0, tail _ _ _ _ m.1)

item_ends : (x : Item) (rest : Ts) → EndsRow (spelled_item x rest)
item_ends (plain x) rest = plain_ends x rest
item_ends (backward xs) rest = record { ends = record { adds_not = refl; multiplies_not = refl }; joins_not = refl }

items_end : (xs : List Item) → EndsRow (spelled_items xs [])
items_end [] = record { ends = record { adds_not = refl; multiplies_not = refl }; joins_not = refl }
items_end (x ∷ xs) = item_ends x _

some_item : (x : Item) (rest : Ts) → spelled_item x rest ≡ [] → ⊥
some_item (plain (declaration k ns)) rest e = cc
some_item _ rest e = cc

-- two trees with the same tokens are one
pub one_tree : (xs ys : List Item) → script_tokens xs ≡ script_tokens ys → xs ≡ ys
one_tree [] [] e = refl
one_tree [] (y ∷ ys) e = absurd (some_item y _ (sym e))
one_tree (x ∷ xs) [] e = absurd (some_item x _ e)
one_tree (x ∷ xs) (y ∷ ys) e =
    let m = same_item x y (spelled_items xs []) (spelled_items ys []) (items_end xs) (items_end ys) e in
    let n = one_tree xs ys m.1 in
    let heads : x ≡ y = m.0 in
    cc

-- so it is for the other texts
none_ends : EndsRow []
none_ends = record { ends = record { adds_not = refl; multiplies_not = refl }; joins_not = refl }

pub one_body : (c u : Command) (os ps : Others) → spelled_command c (spelled_others os []) ≡ spelled_command u (spelled_others ps []) → (c ≡ u) × (os ≡ ps)
one_body c u os ps e =
    let m = same_tree c u (spelled_others os []) (spelled_others ps []) (others_end os [] none_ends.ends) (others_end ps [] none_ends.ends) e in
    (m.0, (same_others os ps [] [] none_ends none_ends m.1).0)

pub one_row_of_terms : (p q : Argument) (xs ys : List Term) → argument_terminal p ∷ spelled_terms xs [] ≡ argument_terminal q ∷ spelled_terms ys [] → (p ≡ q) × (xs ≡ ys)
one_row_of_terms p q xs ys e =
    let heads : argument_terminal p ≡ argument_terminal q = cc in
    (same_argument p q heads, (same_terms xs ys [] [] refl refl (tail _ _ _ _ e)).0)

pub one_among : (x y : Starter) (gs hs : Groups) → spelled_command (among_ x gs) [] ≡ spelled_command (among_ y hs) [] → (x ≡ y) × (gs ≡ hs)
one_among x y gs hs e = go (same_tree (among_ x gs) (among_ y hs) [] [] none_ends.ends none_ends.ends e).0 where
  go : among_ x gs ≡ among_ y hs → (x ≡ y) × (gs ≡ hs)
  go f = let a : x ≡ y = cc in let b : gs ≡ hs = cc in (a, b)

-- two texts that begin with an among: the same tokens follow it
pub after_among : (x y : Starter) (gs hs : Groups) (a b : Ts) → spelled_command (among_ x gs) a ≡ spelled_command (among_ y hs) b → a ≡ b
after_among x y gs hs a b e =
    let m = same_starter x y (spelled_groups gs (t.close_ ∷ a)) (spelled_groups hs (t.close_ ∷ b)) (groups_no_open gs (t.close_ ∷ a) refl) (groups_no_open hs (t.close_ ∷ b) refl) (tail _ _ _ _ (tail _ _ _ _ e)) in
    (same_groups gs hs a b m.1).1
