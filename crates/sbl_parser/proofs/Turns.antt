-- One more at the end of each list.
use Rattle.std.proofs.Common.{◌≡◌, ℕ, suc, ◌<◌, ◌≤◌, List, [], ◌∷◌, ◌++◌, length, drop, Option, Some, None, refl, sym, ap, ◌∙◌, arith, length-drop}
use Rattle.sbl_ast.specs.declared.tree.Additive.{Additive}
use Rattle.sbl_ast.specs.Terminal.{Terminal}
use Rattle.sbl_ast.specs.Terminal as t
use Rattle.sbl_ast.specs.Tree.{QuotedText, Argument, Entry, entry, Term, term, Plain, Item}
use Rattle.sbl_ast.specs.Spelled.{argument_terminal, spelled_sums, spelled_product, spelled_scales, spelled_factor, spelled_condition, spelled_entry, spelled_entries, spelled_command, spelled_rows, spelled_others, spelled_groups, spelled_names, spelled_terms, spelled_plain, spelled_plains, spelled_item, spelled_items}
use Rattle.sbl_ast.specs.View.{RowView, GroupView, rows_of}
use Rattle.sbl_ast.specs.inside.ViewParts.{NextProductView, NextFactorView, NextCommandView, sums_of, scales_of, others_of, groups_of}

abbrev Ts : Type 0
Ts = List Terminal

pub sums_push : (xs : List NextProductView) (x : NextProductView) (rest : Ts) → spelled_sums (sums_of (xs ++ x ∷ [])) rest ≡ spelled_sums (sums_of xs) (t.additive x.0 ∷ spelled_product x.1 rest)
sums_push [] x rest = refl
sums_push (y ∷ xs) x rest = ap (λ (r : Ts). t.additive y.0 ∷ spelled_product y.1 r) (sums_push xs x rest)

pub scales_push : (xs : List NextFactorView) (x : NextFactorView) (rest : Ts) → spelled_scales (scales_of (xs ++ x ∷ [])) rest ≡ spelled_scales (scales_of xs) (t.multiplicative x.0 ∷ spelled_factor x.1 rest)
scales_push [] x rest = refl
scales_push (y ∷ xs) x rest = ap (λ (r : Ts). t.multiplicative y.0 ∷ spelled_factor y.1 r) (scales_push xs x rest)

pub rows_push : (xs : List RowView) (x : RowView) (rest : Ts) → spelled_rows (rows_of (xs ++ x ∷ [])) rest ≡ spelled_rows (rows_of xs) (spelled_command x.0 (spelled_others x.1 rest))
rows_push [] x rest = refl
rows_push (y ∷ xs) x rest = ap (λ (r : Ts). spelled_command y.0 (spelled_others y.1 r)) (rows_push xs x rest)

pub others_push : (xs : List NextCommandView) (x : NextCommandView) (rest : Ts) → spelled_others (others_of (xs ++ x ∷ [])) rest ≡ spelled_others (others_of xs) (t.joiner x.0 ∷ spelled_command x.1 rest)
others_push [] x rest = refl
others_push (y ∷ xs) x rest = ap (λ (r : Ts). t.joiner y.0 ∷ spelled_command y.1 r) (others_push xs x rest)

-- a group, and then the rest
abbrev pub spelled_group : GroupView → Ts → Ts
spelled_group g rest = spelled_entry g.first (spelled_entries g.others (t.open_ ∷ spelled_rows g.rows (t.close_ ∷ rest)))

pub groups_push : (xs : List GroupView) (x : GroupView) (rest : Ts) → spelled_groups (groups_of (xs ++ x ∷ []) []) rest ≡ spelled_groups (groups_of xs []) (spelled_group x rest)
groups_push [] x rest = refl
groups_push (y ∷ xs) x rest = ap (λ (r : Ts). spelled_group y r) (groups_push xs x rest)

pub groups_bare : (xs : List GroupView) (es : List Entry) (rest : Ts) → spelled_groups (groups_of xs es) rest ≡ spelled_groups (groups_of xs []) (spelled_entries es rest)
groups_bare [] es rest = refl
groups_bare (y ∷ xs) es rest = ap (λ (r : Ts). spelled_group y r) (groups_bare xs es rest)

pub entries_push : (xs : List Entry) (x : Entry) (rest : Ts) → spelled_entries (xs ++ x ∷ []) rest ≡ spelled_entries xs (spelled_entry x rest)
entries_push [] x rest = refl
entries_push (y ∷ xs) x rest = ap (λ (r : Ts). spelled_entry y r) (entries_push xs x rest)

pub entry_spelled : (q : QuotedText) (c : Option (List ℕ)) (rest : Ts) → spelled_entry (entry q c) rest ≡ t.literal q ∷ spelled_condition c rest
entry_spelled q None rest = refl
entry_spelled q (Some n) rest = refl

pub names_push : (xs : List (List ℕ)) (x : List ℕ) (rest : Ts) → spelled_names (xs ++ x ∷ []) rest ≡ spelled_names xs (t.name x ∷ rest)
names_push [] x rest = refl
names_push (y ∷ xs) x rest = ap (λ (r : Ts). t.name y ∷ r) (names_push xs x rest)

pub terms_push : (xs : List Term) (o : Additive) (a : Argument) (rest : Ts) → spelled_terms (xs ++ term o a ∷ []) rest ≡ spelled_terms xs (t.additive o ∷ argument_terminal a ∷ rest)
terms_push [] o a rest = refl
terms_push (term p b ∷ xs) o a rest = ap (λ (r : Ts). t.additive p ∷ argument_terminal b ∷ r) (terms_push xs o a rest)

pub plains_push : (xs : List Plain) (x : Plain) (rest : Ts) → spelled_plains (xs ++ x ∷ []) rest ≡ spelled_plains xs (spelled_plain x rest)
plains_push [] x rest = refl
plains_push (y ∷ xs) x rest = ap (λ (r : Ts). spelled_plain y r) (plains_push xs x rest)

pub items_push : (xs : List Item) (x : Item) (rest : Ts) → spelled_items (xs ++ x ∷ []) rest ≡ spelled_items xs (spelled_item x rest)
items_push [] x rest = refl
items_push (y ∷ xs) x rest = ap (λ (r : Ts). spelled_item y r) (items_push xs x rest)

-- what is left after a token and something more
pub shorter : (rest after next : Ts) → next ≡ drop 1 rest → length after < length next → length after < length rest
shorter rest after next e lt = omega (arith, ap length e, length-drop 1 rest)

pub drop_two : (ts : Ts) → drop 1 (drop 1 ts) ≡ drop 2 ts
drop_two [] = refl
drop_two (x ∷ []) = refl
drop_two (x ∷ y ∷ ts) = refl

pub through : (a b c : Ts) → length b < length a → length c ≤ length b → length c < length a
through a b c h g = omega arith

pub less : (a b : Ts) → 0 < length a → b ≡ drop 1 a → length b < length a
less a b some e = omega (arith, ap length e, length-drop 1 a)

pub far : (a b next c : Ts) → length b ≤ length a → next ≡ drop 1 b → suc (length c) ≤ length next → length c ≤ length a
far a b next c h e g = omega (arith, ap length e, length-drop 1 b)

-- ---- one more turn, after what precedes the list

pub next_sum : (prefix : Ts → Ts) (xs ys : List NextProductView) (x : NextProductView) (start now next : Ts) → start ≡ prefix (spelled_sums (sums_of xs) now) → now ≡ t.additive x.0 ∷ spelled_product x.1 next → ys ≡ xs ++ x ∷ [] → start ≡ prefix (spelled_sums (sums_of ys) next)
next_sum prefix xs ys x start now next h e m = h ∙ ap (λ (r : Ts). prefix r) (ap (λ (r : Ts). spelled_sums (sums_of xs) r) e ∙ sym (sums_push xs x next) ∙ ap (λ (zs : List NextProductView). spelled_sums (sums_of zs) next) (sym m))

pub next_scale : (prefix : Ts → Ts) (xs ys : List NextFactorView) (x : NextFactorView) (start now next : Ts) → start ≡ prefix (spelled_scales (scales_of xs) now) → now ≡ t.multiplicative x.0 ∷ spelled_factor x.1 next → ys ≡ xs ++ x ∷ [] → start ≡ prefix (spelled_scales (scales_of ys) next)
next_scale prefix xs ys x start now next h e m = h ∙ ap (λ (r : Ts). prefix r) (ap (λ (r : Ts). spelled_scales (scales_of xs) r) e ∙ sym (scales_push xs x next) ∙ ap (λ (zs : List NextFactorView). spelled_scales (scales_of zs) next) (sym m))

pub next_joined : (prefix : Ts → Ts) (xs ys : List NextCommandView) (x : NextCommandView) (start now next : Ts) → start ≡ prefix (spelled_others (others_of xs) now) → now ≡ t.joiner x.0 ∷ spelled_command x.1 next → ys ≡ xs ++ x ∷ [] → start ≡ prefix (spelled_others (others_of ys) next)
next_joined prefix xs ys x start now next h e m = h ∙ ap (λ (r : Ts). prefix r) (ap (λ (r : Ts). spelled_others (others_of xs) r) e ∙ sym (others_push xs x next) ∙ ap (λ (zs : List NextCommandView). spelled_others (others_of zs) next) (sym m))

pub next_term : (head : Terminal) (xs ys : List Term) (o : Additive) (a : Argument) (start now next : Ts) → start ≡ head ∷ spelled_terms xs now → now ≡ t.additive o ∷ argument_terminal a ∷ next → ys ≡ xs ++ term o a ∷ [] → start ≡ head ∷ spelled_terms ys next
next_term head xs ys o a start now next h e m = h ∙ ap (λ (r : Ts). head ∷ r) (ap (λ (r : Ts). spelled_terms xs r) e ∙ sym (terms_push xs o a next) ∙ ap (λ (zs : List Term). spelled_terms zs next) (sym m))
