-- A check that fails for an edit tells the item that the edit changes.
use Rattle.std.proofs.Common.{◌≡◌, ◌⊎◌, inl, inr, ℕ, ◌+◌, ◌≤◌, Bool, true, false, ◌&&◌, ◌||◌, nat_eq, List, [], ◌∷◌, ◌++◌, length, Option, Some, None, Result, Ok, is_some, refl, sym, ap, subst, ◌∙◌, append_assoc, append-nil, arith}
use Rattle.std.specs.Option.{option_or}
use Rattle.std.proofs.lemmas.Bool.Decides.{nat_tests}
use Rattle.std.proofs.lemmas.List.Folds.{list_any-append}
use Rattle.sbl_text.specs.declared.fault.ScriptFault.{ScriptFault}
use Rattle.sbl_text.specs.declared.fault.ScriptFault.TheVariants as fault
use Rattle.sbl_text.specs.Tokens.{PlacedToken}
use Rattle.sbl_ast.specs.Order.{in_order}
use Rattle.sbl_ast.specs.Tree.{Plain, routine, grouping, Item}
use Rattle.sbl_ast.specs.Texts.{TreeOf}
use Rattle.sbl_parser.specs.Reading.{IsReadAs}
use Rattle.sbl_ast.specs.declared.tree.DeclarationKind.TheVariants as declared_kinds
use Rattle.sbl_tree_amongs.specs.Amongs.{AmongContents, amongs_of_body, nth_held, put_in_body}
use Rattle.sbl_resolver.specs.declared.occurrences.Site.{Site}
use Rattle.sbl_resolver.specs.Occurrences.{Occurrence, Notice, declares, defines_routine, defines_grouping, uses, substring, among, string, backwards, region_end, noted_items, occurrences_of}
use Rattle.sbl_script.specs.declared.edit_fault.EditFault.{EditFault}
use Rattle.sbl_script.specs.declared.edit_fault.EditFault.TheVariants as edits
use Rattle.sbl_ast.specs.Source.{Source}
use Rattle.sbl_script.specs.Reading.{lexemes}
use Rattle.sbl_resolver.specs.Bodies.{body_in}
use Rattle.sbl_resolver.specs.Checks.{kind_of, defined_at, definition_of, is_awaited, is_text_of, is_kind, has_external, fault_at, fault_of, WellDeclared}
use Rattle.sbl_resolver.specs.inside.CheckParts.{declared_as, waits_after}
use Rattle.sbl_resolver.specs.inside.CheckParts.{is_text, has_text, is_some_and}
use Rattle.sbl_resolver.specs.Laws.{EachPasses, IsFirst}
use Rattle.sbl_ast.specs.NamedParts.{Part', Routine as body, Grouping as terms}
use Rattle.sbl_script.specs.Edits.{changes, is_routine_named, is_grouping_named, items_with}
use Rattle.sbl_script.specs.Homes.{Home, first_passing, home, home_in, home_of_among, home_of_body, home_of_held, home_of_terms, IsEditFaultAt, IsFaultAt}
use Rattle.sbl_ast.specs.NamedParts as named
use Rattle.sbl_script.specs.OnlyTheItem.{item_of, number_of, OnlyTheItem, ExternalStays}
use Rattle.sbl_resolver.proofs.FirstFault as first
use Rattle.sbl_script.proofs.Agreement.{fault_in}
use Rattle.sbl_script.proofs.Found.{grouping_is, routine_is, same_name}
use Rattle.sbl_script.proofs.Own.{Each, each_as, is_quiet, IsOfCommand, RoutineParts, routine_parts, is_use, IsUse, GroupingParts, grouping_parts}
use Rattle.sbl_script.proofs.RoundItem.{Closed, followed_same, decided_at, own, InItem, NotBefore, plain_sites, routine_sites, items_closed, items_sites, round_item}
use Rattle.sbl_script.proofs.TextFaults.{is_checked, text_fault, unread}
use Rattle.sbl_script.proofs.SameFaults.{Same, same_fault, item_told}
use Rattle.sbl_script.proofs.ItemParts.{Parts, at_mode, parts_of, still_defined}

-- ---- some occurrences after others

or_assoc : {X : Type 0} (a b c : Option X) → option_or a (option_or b c) ≡ option_or (option_or a b) c
or_assoc (Some x) b c = refl
or_assoc None b c = refl

kinds_both : (n : List ℕ) (xs ys : List Occurrence) → kind_of n (xs ++ ys) ≡ option_or (kind_of n xs) (kind_of n ys)
kinds_both n [] ys = refl
kinds_both n (x ∷ xs) ys = ap (option_or (declared_as n x.notice)) (kinds_both n xs ys) ∙ or_assoc (declared_as n x.notice) (kind_of n xs) (kind_of n ys)

definitions_both : (n : List ℕ) (xs ys : List Occurrence) → definition_of n (xs ++ ys) ≡ option_or (definition_of n xs) (definition_of n ys)
definitions_both n [] ys = refl
definitions_both n (x ∷ xs) ys = ap (option_or (defined_at n x)) (definitions_both n xs ys) ∙ or_assoc (defined_at n x) (definition_of n xs) (definition_of n ys)

awaited_both : (xs ys : List Occurrence) (w : Bool) → is_awaited (xs ++ ys) w ≡ is_awaited ys (is_awaited xs w)
awaited_both [] ys w = refl
awaited_both (x ∷ xs) ys w = awaited_both xs ys (waits_after x.notice w)

texts_both : (i k : ℕ) (t : List ℕ) (xs ys : List Occurrence) → has_text i k t (xs ++ ys) ≡ (has_text i k t xs || has_text i k t ys)
texts_both i k t xs ys = list_any-append (is_text_of i k t) xs ys

-- ---- what two bodies of a routine have in common

record Alike (i : ℕ) (old new : List Occurrence) : Type 0 where
  kinds : (n : List ℕ) → kind_of n old ≡ kind_of n new
  definitions : (n : List ℕ) → definition_of n old ≡ definition_of n new
  awaited : (w : Bool) → is_awaited old w ≡ is_awaited new w
  old_sites : Each (InItem i) old
  new_sites : Each (InItem i) new

quiet_kind : (n : List ℕ) (x : Notice) → is_quiet x ≡ true → declared_as n x ≡ None
quiet_kind n (declares k x) e = absurd cc
quiet_kind n (defines_routine x) e = absurd cc
quiet_kind n (defines_grouping x) e = absurd cc
quiet_kind n (uses u x) e = refl
quiet_kind n substring e = refl
quiet_kind n (among a b) e = refl
quiet_kind n (string k t) e = refl
quiet_kind n backwards e = refl
quiet_kind n region_end e = refl

quiet_definition : (n : List ℕ) (p : Site) (x : Notice) → is_quiet x ≡ true → defined_at n (record { site = p; notice = x }) ≡ None
quiet_definition n p (declares k x) e = absurd cc
quiet_definition n p (defines_routine x) e = absurd cc
quiet_definition n p (defines_grouping x) e = absurd cc
quiet_definition n p (uses u x) e = refl
quiet_definition n p substring e = refl
quiet_definition n p (among a b) e = refl
quiet_definition n p (string k t) e = refl
quiet_definition n p backwards e = refl
quiet_definition n p region_end e = refl

quiet_kinds : (i : ℕ) (n : List ℕ) (xs ys : List Occurrence) → Each (IsOfCommand i) xs → kind_of n (xs ++ ys) ≡ kind_of n ys
quiet_kinds i n [] ys h = refl
quiet_kinds i n (x ∷ xs) ys h = ap (λ o. option_or o (kind_of n (xs ++ ys))) (quiet_kind n x.notice h.0.1) ∙ quiet_kinds i n xs ys h.1

quiet_definitions : (i : ℕ) (n : List ℕ) (xs ys : List Occurrence) → Each (IsOfCommand i) xs → definition_of n (xs ++ ys) ≡ definition_of n ys
quiet_definitions i n [] ys h = refl
quiet_definitions i n (x ∷ xs) ys h = ap (λ o. option_or o (definition_of n (xs ++ ys))) (quiet_definition n x.site x.notice h.0.1) ∙ quiet_definitions i n xs ys h.1

abbrev end_at : Site → List Occurrence
end_at p = (record { site = p; notice = region_end }) ∷ []

abbrev start_at : List ℕ → Site → Occurrence
start_at n p = record { site = p; notice = defines_routine n }

routine_kinds : (n : List ℕ) (p : Site) (xs : List Occurrence) → RoutineParts n p xs → (x : List ℕ) → kind_of x xs ≡ None
routine_kinds n p xs r x = ap (kind_of x) r.are ∙ quiet_kinds p.item x r.commands (end_at p) r.each

routine_definitions : (n : List ℕ) (p : Site) (xs : List Occurrence) → RoutineParts n p xs → (x : List ℕ) → definition_of x xs ≡ option_or (defined_at x (start_at n p)) None
routine_definitions n p xs r x = ap (definition_of x) r.are ∙ ap (option_or (defined_at x (start_at n p))) (quiet_definitions p.item x r.commands (end_at p) r.each)

routine_awaits : (n : List ℕ) (p : Site) (xs : List Occurrence) → RoutineParts n p xs → (w : Bool) → is_awaited xs w ≡ false
routine_awaits n p xs r w = ap (λ l. is_awaited l w) r.are ∙ awaited_both r.commands (end_at p) w

routines_alike : (n : List ℕ) (p : Site) (xs ys : List Occurrence) → RoutineParts n p xs → RoutineParts n p ys → Alike p.item xs ys
routines_alike n p xs ys h g = record {
  kinds = λ x. routine_kinds n p xs h x ∙ sym (routine_kinds n p ys g x);
  definitions = λ x. routine_definitions n p xs h x ∙ sym (routine_definitions n p ys g x);
  awaited = λ w. routine_awaits n p xs h w ∙ sym (routine_awaits n p ys g w);
  old_sites = routine_sites n p xs h;
  new_sites = routine_sites n p ys g;
}

-- ---- what two groupings of a name have in common

use_is_quiet : (x : Notice) → is_use x ≡ true → is_quiet x ≡ true
use_is_quiet (declares k x) e = absurd cc
use_is_quiet (defines_routine x) e = absurd cc
use_is_quiet (defines_grouping x) e = absurd cc
use_is_quiet (uses u x) e = refl
use_is_quiet substring e = refl
use_is_quiet (among a b) e = refl
use_is_quiet (string k t) e = refl
use_is_quiet backwards e = refl
use_is_quiet region_end e = refl

use_waits : (x : Notice) → is_use x ≡ true → (w : Bool) → waits_after x w ≡ w
use_waits (declares k x) e w = refl
use_waits (defines_routine x) e w = refl
use_waits (defines_grouping x) e w = refl
use_waits (uses u x) e w = refl
use_waits substring e w = absurd cc
use_waits (among a b) e w = absurd cc
use_waits (string k t) e w = refl
use_waits backwards e w = refl
use_waits region_end e w = absurd cc

uses_wait : (i : ℕ) (xs : List Occurrence) → Each (IsUse i) xs → (w : Bool) → is_awaited xs w ≡ w
uses_wait i [] h w = refl
uses_wait i (x ∷ xs) h w = ap (is_awaited xs) (use_waits x.notice h.0.1 w) ∙ uses_wait i xs h.1 w

module _ (n : List ℕ) (p : Site) (xs : List Occurrence) (r : GroupingParts n p xs) where
  quiet : Each (IsOfCommand p.item) r.names
  quiet = each_as (IsUse p.item) (IsOfCommand p.item) (λ m h. (h.0, use_is_quiet m.notice h.1)) r.names r.each

  grouping_kinds : (x : List ℕ) → kind_of x xs ≡ None
  grouping_kinds x = ap (kind_of x) r.are ∙ ap (kind_of x) (sym (append-nil r.names)) ∙ quiet_kinds p.item x r.names [] quiet

  grouping_definitions : (x : List ℕ) → definition_of x xs ≡ option_or (defined_at x (record { site = p; notice = defines_grouping n })) None
  grouping_definitions x =
      let first = option_or (defined_at x (record { site = p; notice = defines_grouping n })) in
      ap (definition_of x) r.are ∙ ap (λ l. first (definition_of x l)) (sym (append-nil r.names)) ∙ ap first (quiet_definitions p.item x r.names [] quiet)

  grouping_awaits : (w : Bool) → is_awaited xs w ≡ w
  grouping_awaits w = ap (λ l. is_awaited l w) r.are ∙ uses_wait p.item r.names r.each w

groupings_alike : (n : List ℕ) (p : Site) (xs ys : List Occurrence) → GroupingParts n p xs → GroupingParts n p ys → Each (InItem p.item) xs → Each (InItem p.item) ys → Alike p.item xs ys
groupings_alike n p xs ys h g old new = record {
  kinds = λ x. grouping_kinds n p xs h x ∙ sym (grouping_kinds n p ys g x);
  definitions = λ x. grouping_definitions n p xs h x ∙ sym (grouping_definitions n p ys g x);
  awaited = λ w. grouping_awaits n p xs h w ∙ sym (grouping_awaits n p ys g w);
  old_sites = old;
  new_sites = new;
}

-- two definitions of a routine, or of a grouping
two_routines : (n : List ℕ) (x y : Plain) (p : Site) → is_routine_named n x ≡ true → is_routine_named n y ≡ true → Alike p.item (own x p) (own y p)
two_routines n x y p e f =
    let a = routine_is n x e in
    let b = routine_is n y f in
    subst (λ (z : Plain). Alike p.item (own z p) (own y p)) (sym a.2) (subst (λ (z : Plain). Alike p.item (own (routine n a.0 a.1) p) (own z p)) (sym b.2)
    (routines_alike n p (own (routine n a.0 a.1) p) (own (routine n b.0 b.1) p) (routine_parts n a.0 a.1 p) (routine_parts n b.0 b.1 p)))

two_groupings : (n : List ℕ) (x y : Plain) (p : Site) → is_grouping_named n x ≡ true → is_grouping_named n y ≡ true → Alike p.item (own x p) (own y p)
two_groupings n x y p e f =
    let a = grouping_is n x e in
    let b = grouping_is n y f in
    subst (λ (z : Plain). Alike p.item (own z p) (own y p)) (sym a.2) (subst (λ (z : Plain). Alike p.item (own (grouping n a.0 a.1) p) (own z p)) (sym b.2)
    (groupings_alike n p (own (grouping n a.0 a.1) p) (own (grouping n b.0 b.1) p) (grouping_parts n a.0 a.1 p) (grouping_parts n b.0 b.1 p) (plain_sites (grouping n a.0 a.1) p) (plain_sites (grouping n b.0 b.1) p)))

-- two definitions that the same edit changes
alike : (e : Part') (x y : Plain) (p : Site) → changes e x ≡ true → changes e y ≡ true → Alike p.item (own x p) (own y p)
alike (body n) = two_routines n
alike (named.Among n k) = two_routines n
alike (terms n) = two_groupings n

-- ---- where an occurrence stands

split_around : (xs ys b c : List Occurrence) (m : Occurrence) → xs ++ ys ≡ b ++ m ∷ c
    → ((d : List Occurrence) × (xs ≡ b ++ m ∷ d) × (c ≡ d ++ ys)) ⊎ ((d : List Occurrence) × (b ≡ xs ++ d) × (ys ≡ d ++ m ∷ c))
split_around [] ys b c m e = inr (b, refl, e)
split_around (x ∷ xs) ys [] c m e =
    let same : x ≡ m = cc in
    let rest : xs ++ ys ≡ c = cc in
    inl (xs, ap (λ z. z ∷ xs) same, sym rest)
split_around (x ∷ xs) ys (y ∷ b) c m e =
    let same : x ≡ y = cc in
    let rest : xs ++ ys ≡ b ++ m ∷ c = cc in
    at same (split_around xs ys b c m rest) where
      at : x ≡ y → ((d : List Occurrence) × (xs ≡ b ++ m ∷ d) × (c ≡ d ++ ys)) ⊎ ((d : List Occurrence) × (b ≡ xs ++ d) × (ys ≡ d ++ m ∷ c))
          → ((d : List Occurrence) × (x ∷ xs ≡ y ∷ (b ++ m ∷ d)) × (c ≡ d ++ ys)) ⊎ ((d : List Occurrence) × (y ∷ b ≡ x ∷ (xs ++ d)) × (ys ≡ d ++ m ∷ c))
      at same (inl h) = inl (h.0, ap (λ z. z ∷ xs) same ∙ ap (λ l. y ∷ l) h.1, h.2)
      at same (inr h) = inr (h.0, ap (λ z. z ∷ b) (sym same) ∙ ap (λ l. x ∷ l) h.1, h.2)

each_at : (Q : Occurrence → Type 0) (xs : List Occurrence) (m : Occurrence) (ys : List Occurrence) → Each Q (xs ++ m ∷ ys) → Q m
each_at Q [] m ys h = h.0
each_at Q (x ∷ xs) m ys h = each_at Q xs m ys h.1

text_is : (j k : ℕ) (t : List ℕ) (p : Site) (n : Notice) → is_text_of j k t (record { site = p; notice = n }) ≡ (is_text k t n && nat_eq j p.item)
text_is j k t p (declares d x) = refl
text_is j k t p (defines_routine x) = refl
text_is j k t p (defines_grouping x) = refl
text_is j k t p (uses u x) = refl
text_is j k t p substring = refl
text_is j k t p (among a b) = refl
text_is j k t p (string o x) = refl
text_is j k t p backwards = refl
text_is j k t p region_end = refl

no_text : (i j k : ℕ) (t : List ℕ) (xs : List Occurrence) → Each (InItem i) xs → i + 1 ≤ j → has_text j k t xs ≡ false
no_text i j k t [] h later = refl
no_text i j k t (x ∷ xs) h later =
    ap (λ (b : Bool). b || has_text j k t xs) (text_is j k t x.site x.notice)
    ∙ or_is (is_text k t x.notice) (nat_eq j x.site.item) (has_text j k t xs) (another j x.site.item (ap (λ z. z + 1) h.0)) (no_text i j k t xs h.1 later) where
      another : (a c : ℕ) → c + 1 ≡ i + 1 → nat_eq j x.site.item ≡ false
      another a c e = let is : x.site.item ≡ i = h.0 in grind (arith, nat_tests)

      or_is : (a b c : Bool) → b ≡ false → c ≡ false → ((a && b) || c) ≡ false
      or_is true true c e f = absurd cc
      or_is true false c e f = f
      or_is false b c e f = f

-- ---- the first fault stands in the item

module _ (prefix mine other rest : List Occurrence) (i : ℕ) (closed : Closed prefix) (two : Alike i mine other) (later : Each (NotBefore (i + 1)) rest) where
  abbrev old : List Occurrence
  old = prefix ++ (mine ++ rest)

  abbrev new : List Occurrence
  new = prefix ++ (other ++ rest)

  three : (n : List ℕ) (xs cs : List Occurrence) → definition_of n (prefix ++ (xs ++ cs)) ≡ option_or (definition_of n prefix) (option_or (definition_of n xs) (definition_of n cs))
  three n xs cs = definitions_both n prefix (xs ++ cs) ∙ ap (option_or (definition_of n prefix)) (definitions_both n xs cs)

  three_kinds : (n : List ℕ) (xs cs : List Occurrence) → kind_of n (prefix ++ (xs ++ cs)) ≡ option_or (kind_of n prefix) (option_or (kind_of n xs) (kind_of n cs))
  three_kinds n xs cs = kinds_both n prefix (xs ++ cs) ∙ ap (option_or (kind_of n prefix)) (kinds_both n xs cs)

  three_texts : (j k : ℕ) (t : List ℕ) (xs cs : List Occurrence) → has_text j k t (prefix ++ (xs ++ cs)) ≡ (has_text j k t prefix || (has_text j k t xs || has_text j k t cs))
  three_texts j k t xs cs = texts_both j k t prefix (xs ++ cs) ∙ ap (λ b. has_text j k t prefix || b) (texts_both j k t xs cs)

  three_awaited : (xs cs : List Occurrence) → is_awaited (prefix ++ (xs ++ cs)) false ≡ is_awaited cs (is_awaited xs (is_awaited prefix false))
  three_awaited xs cs = awaited_both prefix (xs ++ cs) false ∙ awaited_both xs cs (is_awaited prefix false)

  definitions_same : (n : List ℕ) → definition_of n new ≡ definition_of n old
  definitions_same n = three n other rest ∙ ap (λ o. option_or (definition_of n prefix) (option_or o (definition_of n rest))) (sym (two.definitions n)) ∙ sym (three n mine rest)

  kinds_same : (n : List ℕ) (cs : List Occurrence) → kind_of n (prefix ++ (other ++ cs)) ≡ kind_of n (prefix ++ (mine ++ cs))
  kinds_same n cs = three_kinds n other cs ∙ ap (λ o. option_or (kind_of n prefix) (option_or o (kind_of n cs))) (sym (two.kinds n)) ∙ sym (three_kinds n mine cs)

  -- an occurrence before the item
  in_prefix : (b d : List Occurrence) (m : Occurrence) → prefix ≡ b ++ m ∷ d → Same new (d ++ (other ++ rest)) b old (d ++ (mine ++ rest)) b m
  in_prefix b d m e = record {
    kinds = λ n. refl;
    definitions = definitions_same;
    followed = λ s. followed_same m.site.mode d (other ++ rest) (mine ++ rest) (decided_at b m d (subst Closed e closed) s);
    awaited = refl;
    texts = λ k t. refl;
  }

  -- an occurrence after it
  following : (d c : List Occurrence) (m : Occurrence) → rest ≡ d ++ m ∷ c → Same new c (prefix ++ (other ++ d)) old c (prefix ++ (mine ++ d)) m
  following d c m e =
      let low : i + 1 ≤ m.site.item = each_at (NotBefore (i + 1)) d m c (subst (Each (NotBefore (i + 1))) e later) in
      record {
        kinds = λ n. kinds_same n d;
        definitions = definitions_same;
        followed = λ s. refl;
        awaited = three_awaited other d ∙ ap (is_awaited d) (sym (two.awaited (is_awaited prefix false))) ∙ sym (three_awaited mine d);
        texts = λ k t.
            three_texts m.site.item k t other d
            ∙ ap (λ x. has_text m.site.item k t prefix || (x || has_text m.site.item k t d)) (no_text i m.site.item k t other two.new_sites low ∙ sym (no_text i m.site.item k t mine two.old_sites low))
            ∙ sym (three_texts m.site.item k t mine d);
      }

  not_both : (o : Option ScriptFault) (f : ScriptFault) → o ≡ None → o ≡ Some f → ⊥
  not_both (Some x) f h g = cc
  not_both None f h g = cc

  module _ (passes : EachPasses old) (f : ScriptFault) where
    prefix_passes : (b c d : List Occurrence) (m : Occurrence) → prefix ≡ b ++ m ∷ d → c ≡ d ++ (other ++ rest) → fault_at new b m c ≡ None
    prefix_passes b c d m e r =
        ap (fault_at new b m) r ∙ same_fault new (d ++ (other ++ rest)) b old (d ++ (mine ++ rest)) b m (in_prefix b d m e)
        ∙ passes b (d ++ (mine ++ rest)) m (ap (λ l. l ++ (mine ++ rest)) e ∙ append_assoc b (m ∷ d) (mine ++ rest))

    after_passes : (b c d : List Occurrence) (m : Occurrence) → b ≡ prefix ++ (other ++ d) → rest ≡ d ++ m ∷ c → fault_at new b m c ≡ None
    after_passes b c d m e r =
        ap (λ l. fault_at new l m c) e ∙ same_fault new c (prefix ++ (other ++ d)) old c (prefix ++ (mine ++ d)) m (following d c m r)
        ∙ passes (prefix ++ (mine ++ d)) c m (ap (λ l. prefix ++ (mine ++ l)) r ∙ ap (λ l. prefix ++ l) (sym (append_assoc mine d (m ∷ c))) ∙ sym (append_assoc prefix (mine ++ d) (m ∷ c)))

    inside : (b c d : List Occurrence) (m : Occurrence) → other ++ rest ≡ d ++ m ∷ c → b ≡ prefix ++ d → fault_at new b m c ≡ Some f → item_of f ≡ Some i
    inside b c d m e r bad = at (split_around other rest d c m e) where
      at : ((x : List Occurrence) × (other ≡ d ++ m ∷ x) × (c ≡ x ++ rest)) ⊎ ((x : List Occurrence) × (d ≡ other ++ x) × (rest ≡ x ++ m ∷ c)) → item_of f ≡ Some i
      at (inl h) = item_told new b c m f bad ∙ ap Some (each_at (InItem i) d m h.0 (subst (Each (InItem i)) h.1 two.new_sites))
      at (inr h) = absurd (not_both (fault_at new b m c) f (after_passes b c h.0 m (r ∙ ap (λ l. prefix ++ l) h.1) h.2) bad)

    in_item : IsFirst new f → item_of f ≡ Some i
    in_item r = at (split_around prefix (other ++ rest) r.before r.after r.occurrence r.parts) where
      at : ((d : List Occurrence) × (prefix ≡ r.before ++ r.occurrence ∷ d) × (r.after ≡ d ++ (other ++ rest))) ⊎ ((d : List Occurrence) × (r.before ≡ prefix ++ d) × (other ++ rest ≡ d ++ r.occurrence ∷ r.after)) → item_of f ≡ Some i
      at (inl h) = absurd (not_both (fault_at new r.before r.occurrence r.after) f (prefix_passes r.before r.after h.0 r.occurrence h.1 h.2) r.fault)
      at (inr h) = inside r.before r.after h.0 r.occurrence h.2 h.1 r.fault

-- ---- a script

module _ (items : List Item) (external : List ℕ) (d : Part') (y : Plain) (same : changes d y ≡ true) (well : WellDeclared items external) where
  abbrev edited_items : List Item
  edited_items = items_with (changes d) y items

  fault_item : (q : Parts (changes d) y (in_order items) (in_order edited_items)) (f : ScriptFault) → fault_of edited_items external ≡ Some f → (i : ℕ) × (item_of f ≡ Some i) × (number_of (changes d) items ≡ Some i)
  fault_item q f bad = (i, at (first.fault_is_first edited_items external f bad), q.number 1)
    where
      i : ℕ
      i = 1 + length q.before

      p : Site
      p = record { item = 1 + length q.before; mode = q.mode }

      prefix : List Occurrence
      prefix = noted_items q.before 1 []

      mine : List Occurrence
      mine = own q.item p

      other : List Occurrence
      other = own y p

      rest : List Occurrence
      rest = noted_items q.after (1 + length q.before + 1) []

      old_is : occurrences_of items ≡ prefix ++ (mine ++ rest)
      old_is = ap (λ l. noted_items l 1 []) q.old ∙ round_item q.before (at_mode q.mode q.item) q.after

      new_is : occurrences_of edited_items ≡ prefix ++ (other ++ rest)
      new_is = ap (λ l. noted_items l 1 []) q.new ∙ round_item q.before (at_mode q.mode y) q.after

      two : Alike (1 + length q.before) mine other
      two = alike d q.item y p q.passes same

      closed : Closed prefix
      closed = items_closed q.before 1

      later : Each (NotBefore (1 + length q.before + 1)) rest
      later = items_sites q.after (1 + length q.before + 1)

      fine : EachPasses (occurrences_of items) × (has_external items external (occurrences_of items) ≡ true)
      fine = first.well_declared_passes items external well

      kept : has_external edited_items external (occurrences_of edited_items) ≡ true
      kept =
          ap (λ o. is_some_and (is_kind declared_kinds.Externals) o && is_some (body_in external edited_items)) (ap (kind_of external) new_is ∙ kinds_same prefix mine other rest (1 + length q.before) closed two later external rest ∙ sym (ap (kind_of external) old_is))
          ∙ ap (λ c. is_some_and (is_kind declared_kinds.Externals) (kind_of external (occurrences_of items)) && c) (still_defined d y same items external) ∙ fine.1

      at : IsFirst (occurrences_of edited_items) f ⊎ (EachPasses (occurrences_of edited_items) × (has_external edited_items external (occurrences_of edited_items) ≡ false) × (f ≡ fault.NoExternal)) → item_of f ≡ Some (1 + length q.before)
      at (inl h) = in_item prefix mine other rest (1 + length q.before) closed two later (subst EachPasses old_is fine.0) f (subst (λ l. IsFirst l f) new_is h)
      at (inr h) = let no : ⊥ = true_false (has_external edited_items external (occurrences_of edited_items)) kept h.1 in absurd no where
        true_false : (c : Bool) → c ≡ true → c ≡ false → ⊥
        true_false true h g = cc
        true_false false h g = cc

-- an edit with a place puts another definition that it may change in the place of the first such
pub record Replaces (items : List Item) (e : Part') (h : Home) (x : TreeOf h.text) : Type 0 where
  pub item : Plain
  pub there : is_some (first_passing (changes e) items) ≡ true
  pub same : changes e item ≡ true
  pub is : h.around x ≡ items_with (changes e) item items

abbrev IsPlaced : List Item → Part' → Home → Type 0
IsPlaced items e h = (x : TreeOf h.text) → Replaces items e h x

is_there : (o : Option Plain) (x : Plain) → o ≡ Some x → is_some o ≡ true
is_there o x e = ap is_some e

home_one : (r : Result Home EditFault) (h g : Home) → r ≡ Ok h → r ≡ Ok g → h ≡ g
home_one r h g a b = cc

place_of : (items : List Item) (e : Part') (h : Home) (o : Option Plain) → first_passing (changes e) items ≡ o → home_in items o e ≡ Ok h → IsPlaced items e h
place_of items (body n) h (Some (routine m c os)) at is =
    subst (IsPlaced items (body n)) (home_one (home_in items (Some (routine m c os)) (body n)) (home_of_body items n) h refl is)
    (λ b. record { item = routine n b.0 b.1; there = is_there (first_passing (is_routine_named n) items) (routine m c os) at; same = same_name n; is = refl })
place_of items (named.Among n k) h (Some (routine m c os)) at is = held (nth_held k (amongs_of_body (c, os))) is where
  held : (o : Option AmongContents) → home_of_held items n (c, os) k o ≡ Ok h → IsPlaced items (named.Among n k) h
  held None e = absurd cc
  held (Some g) e =
      subst (IsPlaced items (named.Among n k)) (home_one (home_of_held items n (c, os) k (Some g)) (home_of_among items n (c, os) k g) h refl e)
      (λ a. record { item = routine n (put_in_body (c, os) k a).0 (put_in_body (c, os) k a).1; there = is_there (first_passing (is_routine_named n) items) (routine m c os) at; same = same_name n; is = refl })
place_of items (terms n) h (Some (grouping m a ts)) at is =
    subst (IsPlaced items (terms n)) (home_one (home_in items (Some (grouping m a ts)) (terms n)) (home_of_terms items n) h refl is)
    (λ x. record { item = grouping n x.0 x.1; there = is_there (first_passing (is_grouping_named n) items) (grouping m a ts) at; same = same_name n; is = refl })
place_of items (body n) h None at is = absurd cc
place_of items _ h _ at is = absurd cc

-- a check that fails tells the item
check_tells : (s : Source) (e : Part') (h : Home) (ts : List PlacedToken) (f : ScriptFault) → WellDeclared s.items s.external → home s.items e ≡ Ok h → ((tree : TreeOf h.text) × IsReadAs h.text (lexemes ts) tree × (fault_of (h.around tree) s.external ≡ Some f)) →
    (i : ℕ) × (item_of f ≡ Some i) × (number_of (changes e) s.items ≡ Some i)
check_tells s e h ts f well there bad =
    let r = place_of s.items e h (first_passing (changes e) s.items) refl there bad.0 in
    let parts = parts_of (changes e) r.item s.items r.there in
    fault_item s.items s.external e r.item r.same well parts f (ap (λ (is : List Item). fault_of is s.external) (sym r.is) ∙ bad.2)

-- a fault of a text tells none
not_told : (f : ScriptFault) (i : ℕ) → is_checked f ≡ false → item_of f ≡ Some i → ⊥
not_told f i unchecked tells = at _ (item_of f) unchecked tells where
  at : (b : Bool) (o : Option ℕ) → (is_some o || b) ≡ false → o ≡ Some i → ⊥
  at b (Some x) g h = cc
  at b None g h = cc

same_number : (i j : ℕ) → Some i ≡ Some j → i ≡ j
same_number i j e = cc

pub only_the_item : OnlyTheItem
only_the_item s e text f i well fails tells = at bad.2 where
  bad : IsEditFaultAt s e text (edits.Script f)
  bad = fault_in s e text (edits.Script f) fails

  at : IsFaultAt s bad.0 text f → number_of (changes e) s.items ≡ Some i
  at (inl h) = absurd (not_told f i (text_fault bad.0.state text f h) tells)
  at (inr (inl h)) = absurd (not_told f i (unread bad.0.text h.0 (length text) f h.2) tells)
  at (inr (inr h)) = let r = check_tells s e bad.0 h.0 f well bad.1 h.3 in r.2 ∙ ap Some (same_number r.0 i (sym r.1 ∙ tells))

pub external_stays : ExternalStays
external_stays s e text well fails = at bad.2 where
  bad : IsEditFaultAt s e text (edits.Script fault.NoExternal)
  bad = fault_in s e text (edits.Script fault.NoExternal) fails

  not_text : is_checked fault.NoExternal ≡ false → ⊥
  not_text h = cc

  no_item : (i : ℕ) → item_of fault.NoExternal ≡ Some i → ⊥
  no_item i h = cc

  at : IsFaultAt s bad.0 text fault.NoExternal → ⊥
  at (inl h) = not_text (text_fault bad.0.state text fault.NoExternal h)
  at (inr (inl h)) = not_text (unread bad.0.text h.0 (length text) fault.NoExternal h.2)
  at (inr (inr h)) = let r = check_tells s e bad.0 h.0 fault.NoExternal well bad.1 h.3 in no_item r.0 r.1
