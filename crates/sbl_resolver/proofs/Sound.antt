-- The strings of each among of a script that is well declared differ.
use Rattle.std.proofs.Common.{◌≡◌, ℕ, ◌+◌, Bool, true, false, cond, ◌||◌, ◌&&◌, nat_eq, List, [], ◌∷◌, ◌++◌, Some, None, map, refl, sym, subst, ◌∙◌, append_assoc, append-nil}
use Rattle.std.specs.List.{list_any, IsDistinct}
use Rattle.std.specs.Str.{bytes_eq}
use Rattle.std.specs.Cmp.{IsEquivalence}
use Rattle.std.proofs.lemmas.Cmp.{nat_list_eq_equiv, nat_eq_equiv}
use Rattle.std.proofs.lemmas.List.Folds.{list_any-append}
use Rattle.std.proofs.lemmas.Map.Keys.{IsDistinct-push}
use Rattle.sbl_text.specs.declared.fault.ScriptFault.TheVariants as fault
use Rattle.sbl_ast.specs.Tree.{Entry, entry, Command, bracket, simple_, literal_, name_, non_, prefixed, counted, move_, named, splice_, setlimit_, assign_, compare_, compare_values_, among_, Rows, no_rows, row, Others, no_others, joined, Starter, no_starter, starter, Groups, bare, group, Plain, declaration, escapes, macro, routine, grouping, Item, plain, backward}
use Rattle.sbl_ast.specs.Order.{ItemInMode, in_order}
use Rattle.sbl_ast.specs.inside.OrderParts.{in_mode}
use Rattle.sbl_ast.specs.declared.mode.Mode.{Mode}
use Rattle.sbl_ast.specs.declared.mode.Mode.TheVariants.{Backward}
use Rattle.sbl_resolver.specs.declared.occurrences.Site.{Site}
use Rattle.sbl_resolver.specs.Occurrences.{Occurrence, put, among, string, region_end, defines_routine, amongs_in, noted_expression, noted_entry, noted_entries, is_empty, noted_command, noted_rows, noted_others, noted_groups, noted_plain, noted_items, occurrences_of}
use Rattle.sbl_resolver.specs.OccurrenceView.{noted_prefix, site_after, noted_condition, has_starter, noted_starter, noted_among}
use Rattle.sbl_resolver.proofs.Walked.{prefixed_is, among_is}
use Rattle.sbl_resolver.specs.Checks.{fault_at, is_text_of, is_awaited}
use Rattle.sbl_resolver.specs.inside.CheckParts.{has_text}
use Rattle.sbl_resolver.specs.Laws.{EachPasses}
use Rattle.sbl_resolver.specs.Amongs.{text_of, texts_of, IsSound, EachAmong, EachAmongOfRows, EachAmongOfOthers, EachAmongOfStarter, EachAmongOfGroups, EachAmongOfPlain, EachAmongOfPlains, EachAmongOfItems, AmongsAreSound}
use Rattle.sbl_resolver.proofs.FirstFault as first
use Rattle.sbl_resolver.proofs.FirstFault.{rest_fails, test_fails}
use Rattle.sbl_resolver.proofs.Extends.{Extends, same, then_, put_more, condition_more, entries_more, command_more, rows_more, others_more, starter_more, groups_more, items_more}

-- a list of occurrences at which no check fails
pub record Passing (all : List Occurrence) : Type 0 where
  pub each : EachPasses all

-- no check fails at an occurrence after which the list goes on
at_mark : (all s : List Occurrence) (m : Occurrence) → Passing all → Extends (s ++ m ∷ []) all → (more : List Occurrence) × (fault_at all s m more ≡ None)
at_mark all s m passing e = (e.more, passing.each s e.more m (e.is ∙ append_assoc s (m ∷ []) e.more))

string_new : (all s more : List Occurrence) (p : Site) (o : ℕ) (t : List ℕ) → fault_at all s (record { site = p; notice = string o t }) more ≡ None → has_text p.item o t s ≡ false
string_new all s more p o t e = test_fails (has_text p.item o t s) (fault.RepeatedString p.item) None e

among_full : (all s more : List Occurrence) (p : Site) (b empty : Bool) → fault_at all s (record { site = p; notice = among b empty }) more ≡ None → empty ≡ false
among_full all s more p b empty e =
    test_fails empty (fault.EmptyAmong p.item) None (rest_fails (b && is_awaited s false) (fault.Starter p.item) (cond empty (Some (fault.EmptyAmong p.item)) None) e)

-- ---- the strings so far

-- they differ, and each has its occurrence among these
record Kept (i o : ℕ) (s : List Occurrence) (texts : List (List ℕ)) : Type 0 where
  differ : IsDistinct bytes_eq texts
  occurrences : (q : List ℕ) → list_any (bytes_eq q) texts ≡ true → has_text i o q s ≡ true

or_true : (a b : Bool) → a ≡ true → (a || b) ≡ true
or_true true b e = refl
or_true false b e = absurd cc

kept_more : (i o : ℕ) (s t : List Occurrence) (texts : List (List ℕ)) → Extends s t → Kept i o s texts → Kept i o t texts
kept_more i o s t texts e k = record {
  differ = k.differ;
  occurrences = λ q h.
      subst (λ (x : List Occurrence). has_text i o q x ≡ true) (sym e.is)
      (list_any-append (is_text_of i o q) s e.more ∙ or_true (has_text i o q s) (has_text i o q e.more) (k.occurrences q h));
}

is_false : (b : Bool) → (b ≡ true → true ≡ false) → b ≡ false
is_false true f = f refl
is_false false f = refl

split_or : (a b : Bool) → (a || (b || false)) ≡ true → (a || (b || false)) ≡ (a || b)
split_or true b e = refl
split_or false true e = refl
split_or false false e = refl

or_moves : (a b c d : Bool) → (a || (b || false)) ≡ true → (a ≡ true → c ≡ true) → (b ≡ d) → (c || (d || false)) ≡ true
or_moves a true c d e f g = last c d g where
  last : (c d : Bool) → true ≡ d → (c || (d || false)) ≡ true
  last true d g = refl
  last false true g = refl
  last false false g = absurd cc
or_moves true false c d e f g = first_one c (d || false) (f refl) where
  first_one : (c r : Bool) → c ≡ true → (c || r) ≡ true
  first_one true r h = refl
  first_one false r h = absurd cc
or_moves false false c d e f g = absurd cc

own : (i o : ℕ) (b : Bool) → b ≡ ((nat_eq o o && b) && nat_eq i i)
own i o b = at b (nat_eq o o) (nat_eq i i) (IsEquivalence.refl nat_eq_equiv o) (IsEquivalence.refl nat_eq_equiv i) where
  at : (b x y : Bool) → x ≡ true → y ≡ true → b ≡ ((x && b) && y)
  at true true true e f = refl
  at false true true e f = refl
  at b false y e f = absurd cc
  at b true false e f = absurd cc

kept_string : (o : ℕ) (s : List Occurrence) (texts : List (List ℕ)) (t : List ℕ) (p : Site) → has_text p.item o t s ≡ false → Kept p.item o s texts → Kept p.item o (put (string o t) p s) (texts ++ t ∷ [])
kept_string o s texts t p new k = record {
  differ = IsDistinct-push nat_list_eq_equiv texts t k.differ (is_false (list_any (bytes_eq t) texts) (λ h. sym (k.occurrences t h) ∙ new));
  occurrences = λ q h.
      list_any-append (is_text_of p.item o q) s ((record { site = p; notice = string o t }) ∷ [])
      ∙ or_moves (list_any (bytes_eq q) texts) (bytes_eq q t) (has_text p.item o q s) ((nat_eq o o && bytes_eq q t) && nat_eq p.item p.item) (sym (list_any-append (bytes_eq q) texts (t ∷ [])) ∙ h) (k.occurrences q) (own p.item o (bytes_eq q t));
}

kept_entry : (all : List Occurrence) (e : Entry) (o : ℕ) (p : Site) (s : List Occurrence) (texts : List (List ℕ)) → Passing all → Extends (noted_entry e o p s) all → Kept p.item o s texts
    → Kept p.item o (noted_entry e o p s) (texts ++ text_of e ∷ [])
kept_entry all (entry q c) o p s texts passing e k =
    let here = at_mark all s (record { site = p; notice = string o q.value }) passing (then_ (condition_more c p (put (string o q.value) p s)) e) in
    kept_more p.item o (put (string o q.value) p s) (noted_condition c p (put (string o q.value) p s)) (texts ++ q.value ∷ []) (condition_more c p (put (string o q.value) p s))
    (kept_string o s texts q.value p (string_new all s here.0 p o q.value here.1) k)

kept_entries : (all : List Occurrence) (es : List Entry) (o : ℕ) (p : Site) (s : List Occurrence) (texts : List (List ℕ)) → Passing all → Extends (noted_entries es o p s) all → Kept p.item o s texts
    → Kept p.item o (noted_entries es o p s) (texts ++ map text_of es)
kept_entries all [] o p s texts passing e k = subst (λ (ts : List (List ℕ)). Kept p.item o s ts) (sym (append-nil texts)) k
kept_entries all (x ∷ es) o p s texts passing e k =
    subst (λ (ts : List (List ℕ)). Kept p.item o (noted_entries es o p (noted_entry x o p s)) ts) (append_assoc texts (text_of x ∷ []) (map text_of es))
    (kept_entries all es o p (noted_entry x o p s) (texts ++ text_of x ∷ []) passing e (kept_entry all x o p s texts passing (then_ (entries_more es o p (noted_entry x o p s)) e) k))

kept_groups : (all : List Occurrence) (gs : Groups) (o : ℕ) (p : Site) (s : List Occurrence) (texts : List (List ℕ)) → Passing all → Extends (noted_groups gs o p s) all → Kept p.item o s texts
    → IsDistinct bytes_eq (texts ++ texts_of gs)
kept_groups all (bare es) o p s texts passing e k = (kept_entries all es o p s texts passing e k).differ
kept_groups all (group x es rs gs) o p s texts passing e k =
    let a = noted_entry x o p s in
    let b = noted_entries es o p a in
    let c = noted_rows rs p b in
    let d = put region_end p c in
    let after_d : Extends d all = then_ (groups_more gs o p d) e in
    let after_b : Extends b all = then_ (rows_more rs p b) (then_ (put_more region_end p c) after_d) in
    let kb : Kept p.item o b ((texts ++ text_of x ∷ []) ++ map text_of es) = kept_entries all es o p a (texts ++ text_of x ∷ []) passing after_b (kept_entry all x o p s texts passing (then_ (entries_more es o p a) after_b) k) in
    let kd : Kept p.item o d ((texts ++ text_of x ∷ []) ++ map text_of es) = kept_more p.item o b d ((texts ++ text_of x ∷ []) ++ map text_of es) (then_ (rows_more rs p b) (put_more region_end p c)) kb in
    subst (λ (ts : List (List ℕ)). IsDistinct bytes_eq ts)
    (append_assoc (texts ++ text_of x ∷ []) (map text_of es) (texts_of gs) ∙ append_assoc texts (text_of x ∷ []) (map text_of es ++ texts_of gs))
    (kept_groups all gs o p d ((texts ++ text_of x ∷ []) ++ map text_of es) passing e kd)

none_differ : IsDistinct bytes_eq []
unfolding IsDistinct
none_differ = tt

sound : (all : List Occurrence) (x : Starter) (gs : Groups) (p : Site) (s : List Occurrence) → Passing all → Extends (noted_among x gs p s) all → IsSound gs
sound all x gs p s passing e =
    let occurrence = among (has_starter x) (is_empty gs) in
    let a = put occurrence p s in
    let b = noted_starter x p a in
    let after_a : Extends a all = then_ (starter_more x p a) (then_ (groups_more gs (amongs_in s 0 + 1) p b) e) in
    let here = at_mark all s (record { site = p; notice = occurrence }) passing after_a in
    record {
      strings_differ = kept_groups all gs (amongs_in s 0 + 1) p b [] passing e (record { differ = none_differ; occurrences = λ q h. absurd (none q h) });
      has_strings = among_full all s here.0 p (has_starter x) (is_empty gs) here.1;
    } where
      none : (q : List ℕ) → false ≡ true → ⊥
      none q h = cc

-- ---- each among

mutual
  each_command : (all : List Occurrence) (t : Command) (p : Site) (s : List Occurrence) → Passing all → Extends (noted_command t p s) all → EachAmong IsSound t
  each_command all (bracket rs) p s passing e = each_rows all rs p s passing e
  each_command all (simple_ x) p s passing e = tt
  each_command all (literal_ q) p s passing e = tt
  each_command all (name_ n) p s passing e = tt
  each_command all (non_ m n) p s passing e = tt
  each_command all (prefixed x c) p s passing e = each_command all c (site_after x p) (noted_prefix x p s) passing (subst (λ (r : List Occurrence). Extends r all) (prefixed_is x c p s) e)
  each_command all (counted n k c) p s passing e = each_command all c p (noted_expression k p s) passing e
  each_command all (move_ m k) p s passing e = tt
  each_command all (named x n) p s passing e = tt
  each_command all (splice_ x a) p s passing e = tt
  each_command all (setlimit_ b c) p s passing e = (each_command all b p s passing (then_ (command_more c p (noted_command b p s)) e), each_command all c p (noted_command b p s) passing e)
  each_command all (assign_ n o k) p s passing e = tt
  each_command all (compare_ n o k) p s passing e = tt
  each_command all (compare_values_ k o f) p s passing e = tt
  each_command all (among_ x gs) p s passing e =
      let a = put (among (has_starter x) (is_empty gs)) p s in
      let b = noted_starter x p a in
      let h = subst (λ (r : List Occurrence). Extends r all) (among_is x gs p s) e in
      (sound all x gs p s passing h, each_starter all x p a passing (then_ (groups_more gs (amongs_in s 0 + 1) p b) h), each_group all gs (amongs_in s 0 + 1) p b passing h)

  each_rows : (all : List Occurrence) (rs : Rows) (p : Site) (s : List Occurrence) → Passing all → Extends (noted_rows rs p s) all → EachAmongOfRows IsSound rs
  each_rows all no_rows p s passing e = tt
  each_rows all (row c os rs) p s passing e =
      let a = noted_command c p s in
      let b = noted_others os p a in
      let after_b : Extends b all = then_ (rows_more rs p b) e in
      (each_command all c p s passing (then_ (others_more os p a) after_b), each_others all os p a passing after_b, each_rows all rs p b passing e)

  each_others : (all : List Occurrence) (os : Others) (p : Site) (s : List Occurrence) → Passing all → Extends (noted_others os p s) all → EachAmongOfOthers IsSound os
  each_others all no_others p s passing e = tt
  each_others all (joined j c os) p s passing e =
      (each_command all c p s passing (then_ (others_more os p (noted_command c p s)) e), each_others all os p (noted_command c p s) passing e)

  each_starter : (all : List Occurrence) (x : Starter) (p : Site) (s : List Occurrence) → Passing all → Extends (noted_starter x p s) all → EachAmongOfStarter IsSound x
  each_starter all no_starter p s passing e = tt
  each_starter all (starter rs) p s passing e = each_rows all rs p s passing (then_ (put_more region_end p (noted_rows rs p s)) e)

  each_group : (all : List Occurrence) (gs : Groups) (o : ℕ) (p : Site) (s : List Occurrence) → Passing all → Extends (noted_groups gs o p s) all → EachAmongOfGroups IsSound gs
  each_group all (bare es) o p s passing e = tt
  each_group all (group x es rs gs) o p s passing e =
      let b = noted_entries es o p (noted_entry x o p s) in
      let c = noted_rows rs p b in
      let d = put region_end p c in
      (each_rows all rs p b passing (then_ (put_more region_end p c) (then_ (groups_more gs o p d) e)), each_group all gs o p d passing e)

each_plain : (all : List Occurrence) (x : Plain) (p : Site) (s : List Occurrence) → Passing all → Extends (noted_plain x p s) all → EachAmongOfPlain IsSound x
each_plain all (declaration k ns) p s passing e = tt
each_plain all (escapes a b) p s passing e = tt
each_plain all (macro n b q) p s passing e = tt
each_plain all (routine n c os) p s passing e =
    let a = put (defines_routine n) p s in
    let b = noted_command c p a in
    let after_os : Extends (noted_others os p b) all = then_ (put_more region_end p (noted_others os p b)) e in
    (each_command all c p a passing (then_ (others_more os p b) after_os), each_others all os p b passing after_os)
each_plain all (grouping n a ts) p s passing e = tt

-- ---- of a script

abbrev EachInMode : List ItemInMode → Type 0
EachInMode [] = Unit {0}
EachInMode (x ∷ xs) = EachAmongOfPlain IsSound x.plain × EachInMode xs

each_in_mode : (all : List Occurrence) (xs : List ItemInMode) (n : ℕ) (s : List Occurrence) → Passing all → Extends (noted_items xs n s) all → EachInMode xs
each_in_mode all [] n s passing e = tt
each_in_mode all (x ∷ xs) n s passing e =
    let p : Site = record { item = n; mode = x.mode } in
    (each_plain all x.plain p s passing (then_ (items_more xs (n + 1) (noted_plain x.plain p s)) e), each_in_mode all xs (n + 1) (noted_plain x.plain p s) passing e)

plains_of : (m : Mode) (xs : List Plain) (rest : List ItemInMode) → EachInMode (in_mode m xs ++ rest) → EachAmongOfPlains IsSound xs × EachInMode rest
plains_of m [] rest h = (tt, h)
plains_of m (x ∷ xs) rest h =
    let r = plains_of m xs rest h.1 in
    ((h.0, r.0), r.1)

items_of : (is : List Item) → EachInMode (in_order is) → EachAmongOfItems IsSound is
items_of [] h = tt
items_of (plain x ∷ is) h = (h.0, items_of is h.1)
items_of (backward xs ∷ is) h =
    let r = plains_of Backward xs (in_order is) h in
    (r.0, items_of is r.1)

pub amongs_are_sound : AmongsAreSound
amongs_are_sound items external e =
    let passing : Passing (occurrences_of items) = record { each = (first.well_declared_passes items external e).0 } in
    items_of items (each_in_mode (occurrences_of items) (in_order items) 1 [] passing (same (occurrences_of items)))
