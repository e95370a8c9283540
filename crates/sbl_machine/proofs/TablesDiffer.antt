-- The strings of each table of a well declared script differ.
use Rattle.std.proofs.Common.{◌≡◌, ◌↔◌, ℕ, zero, suc, List, [], ◌∷◌, ◌++◌, length, map, reverse, false, Some, refl, sym, ap, subst, ◌∙◌, append_assoc, append-nil}
use Rattle.std.specs.Prelude.{slice_get}
use Rattle.std.specs.List.{AllByRecursion, IsDistinct}
use Rattle.std.specs.Str.{bytes_eq}
use Rattle.std.proofs.lemmas.Bool.{true≢false}
use Rattle.std.proofs.lemmas.List.{map-id, reverse-reverse}
use Rattle.std.proofs.lemmas.Option.{same_Some}
use Rattle.std.proofs.lemmas.Slice.Eq.{bytes_eq-Decides}
use Rattle.sbl_machine.specs.Searches.{strings_read, amongs_of, TablesDiffer, SearchesAreExact}
use Rattle.sbl_compiler.specs.Laws.{names_in}
use Rattle.sbl_compiler.specs.NumberedAmongs.{AmongStrings, strings_in, strings_after, found_of, found_command, found_rows, found_others, found_starter, found_groups, found_plain, found_after}
use Rattle.sbl_compiler.specs.NumberedNames.{Names}
use Rattle.sbl_semantics.specs.Landmarks.{mode_under}
use Rattle.sbl_resolver.specs.Amongs.{text_of, texts_of, IsSound, EachAmong, EachAmongOfRows, EachAmongOfOthers, EachAmongOfStarter, EachAmongOfGroups, EachAmongOfPlain, EachAmongOfPlains, EachAmongOfItems, AmongsAreSound}
use Rattle.sbl_semantics.specs.Fitting.{fitting, read_all}
use Rattle.sbl_program.specs.Laws.{AllDiffer, FittingAreMatches, Matches, StandsIn}
use Rattle.sbl_ast.specs.Order.{ItemInMode, in_order}
use Rattle.sbl_ast.specs.inside.OrderParts.{in_mode}
use Rattle.sbl_ast.specs.Tree as trees
use Rattle.sbl_ast.specs.Tree.{bracket, simple_, literal_, name_, non_, prefixed, counted, move_, named, splice_, setlimit_, assign_, compare_, compare_values_, among_, no_rows, row, no_others, joined, no_starter, starter, bare, group, routine, plain, backward}
use Rattle.sbl_ast.specs.declared.mode.Mode.{Mode}
use Rattle.sbl_ast.specs.declared.mode.Mode.TheVariants.{Forward, Backward}

-- ---- the strings of a table are those of its among

in_is : (es : List trees.Entry) (sofar : List (List ℕ)) → strings_in es sofar ≡ sofar ++ map text_of es
in_is [] sofar = sym (append-nil sofar)
in_is (trees.entry q c ∷ es) sofar = in_is es (sofar ++ (q.value ∷ [])) ∙ append_assoc sofar (q.value ∷ []) (map text_of es)

after_is : (gs : trees.Groups) (sofar : List (List ℕ)) → strings_after gs sofar ≡ sofar ++ texts_of gs
after_is (bare es) sofar = in_is es sofar
after_is (group (trees.entry q c) es rs gs) sofar =
    after_is gs (strings_in es (sofar ++ (q.value ∷ [])))
    ∙ ap (λ xs. xs ++ texts_of gs) (in_is es (sofar ++ (q.value ∷ [])))
    ∙ append_assoc (sofar ++ (q.value ∷ [])) (map text_of es) (texts_of gs)
    ∙ append_assoc sofar (q.value ∷ []) (map text_of es ++ texts_of gs)

-- ---- strings that differ

not_there : (w : List ℕ) (ss : List (List ℕ)) (j : ℕ) → AllByRecursion (λ y. bytes_eq w y ≡ false) ss → slice_get ss j ≡ Some w → ⊥
not_there w [] j a e = cc
not_there w (s ∷ ss) zero a e = true≢false (sym ((bytes_eq-Decides w s).1 (sym (same_Some s w e))) ∙ a.0)
not_there w (s ∷ ss) (suc j) a e = not_there w ss j a.1 e

differ : (ss : List (List ℕ)) → IsDistinct bytes_eq ss → AllDiffer ss
unfolding IsDistinct
differ [] d i j w e f = let no : ⊥ = cc in absurd no
differ (s ∷ ss) d zero zero w e f = refl
differ (s ∷ ss) d zero (suc j) w e f = absurd (not_there w ss j (subst (λ v. AllByRecursion (λ y. bytes_eq v y ≡ false) ss) (same_Some s w e) d.0) f)
differ (s ∷ ss) d (suc i) zero w e f = absurd (not_there w ss i (subst (λ v. AllByRecursion (λ y. bytes_eq v y ≡ false) ss) (same_Some s w f) d.0) e)
differ (s ∷ ss) d (suc i) (suc j) w e f = ap suc (differ ss d.1 i j w e f)

reversed_entry : (ss : List (List ℕ)) (i : ℕ) (w : List ℕ) → slice_get (read_all Backward ss) i ≡ Some w → slice_get ss i ≡ Some (reverse w)
reversed_entry [] i w e = let no : ⊥ = cc in absurd no
reversed_entry (s ∷ ss) zero w e = ap Some (sym (reverse-reverse s) ∙ ap reverse (same_Some (reverse s) w e))
reversed_entry (s ∷ ss) (suc i) w e = reversed_entry ss i w e

read_differ : (m : Mode) (ss : List (List ℕ)) → AllDiffer ss → AllDiffer (read_all m ss)
read_differ Forward ss d = subst AllDiffer (sym (map-id ss)) d
read_differ Backward ss d = λ i j w e f. d i j (reverse w) (reversed_entry ss i w e) (reversed_entry ss j w f)

-- ---- each among of a script

abbrev Differs : AmongStrings → Type 0
Differs f = AllDiffer (strings_read f)

abbrev AllDo : List AmongStrings → Type 0
AllDo fs = AllByRecursion Differs fs

one_more : (fs : List AmongStrings) (f : AmongStrings) → AllDo fs → Differs f → AllDo (fs ++ (f ∷ []))
one_more [] f a d = (d, tt)
one_more (g ∷ fs) f a d = (a.0, one_more fs f a.1 d)

among_differs : (gs : trees.Groups) (m : Mode) → IsSound gs → AllDiffer (read_all m (strings_after gs []))
among_differs gs m s = read_differ m (strings_after gs []) (subst AllDiffer (sym (after_is gs [])) (differ (texts_of gs) s.strings_differ))

module _ (ns : Names) (first : ℕ) where
  mutual
    all_in : (t : trees.Command) (m : Mode) (fs : List AmongStrings) → EachAmong IsSound t → AllDo fs → AllDo (found_command ns first m t fs)
    all_in (bracket rs) m fs s a = all_in_rows rs m fs s a
    all_in (simple_ x) m fs s a = a
    all_in (literal_ q) m fs s a = a
    all_in (name_ n) m fs s a = a
    all_in (non_ b n) m fs s a = a
    all_in (prefixed x c) m fs s a = all_in c (mode_under x m) fs s a
    all_in (counted x e c) m fs s a = all_in c m fs s a
    all_in (move_ x e) m fs s a = a
    all_in (named x n) m fs s a = a
    all_in (splice_ x y) m fs s a = a
    all_in (setlimit_ b c) m fs s a = all_in c m (found_command ns first m b fs) s.1 (all_in b m fs s.0 a)
    all_in (assign_ n o e) m fs s a = a
    all_in (compare_ n o e) m fs s a = a
    all_in (compare_values_ e o f) m fs s a = a
    all_in (among_ st gs) m fs s a =
        let gs' = fs ++ (found_of ns first m gs fs ∷ []) in
        all_in_groups gs m (found_starter ns first m st gs') s.2 (all_in_starter st m gs' s.1 (one_more fs (found_of ns first m gs fs) a (among_differs gs m s.0)))

    all_in_rows : (rs : trees.Rows) (m : Mode) (fs : List AmongStrings) → EachAmongOfRows IsSound rs → AllDo fs → AllDo (found_rows ns first m rs fs)
    all_in_rows no_rows m fs s a = a
    all_in_rows (row c os rs) m fs s a = all_in_rows rs m (found_others ns first m os (found_command ns first m c fs)) s.2 (all_in_others os m (found_command ns first m c fs) s.1 (all_in c m fs s.0 a))

    all_in_others : (os : trees.Others) (m : Mode) (fs : List AmongStrings) → EachAmongOfOthers IsSound os → AllDo fs → AllDo (found_others ns first m os fs)
    all_in_others no_others m fs s a = a
    all_in_others (joined j c os) m fs s a = all_in_others os m (found_command ns first m c fs) s.1 (all_in c m fs s.0 a)

    all_in_starter : (st : trees.Starter) (m : Mode) (fs : List AmongStrings) → EachAmongOfStarter IsSound st → AllDo fs → AllDo (found_starter ns first m st fs)
    all_in_starter no_starter m fs s a = a
    all_in_starter (starter rs) m fs s a = all_in_rows rs m fs s a

    all_in_groups : (gs : trees.Groups) (m : Mode) (fs : List AmongStrings) → EachAmongOfGroups IsSound gs → AllDo fs → AllDo (found_groups ns first m gs fs)
    all_in_groups (bare es) m fs s a = a
    all_in_groups (group e es rs gs) m fs s a = all_in_groups gs m (found_rows ns first m rs fs) s.1 (all_in_rows rs m fs s.0 a)

all_in_plain : (ns : Names) (x : trees.Plain) (m : Mode) (fs : List AmongStrings) → EachAmongOfPlain IsSound x → AllDo fs → AllDo (found_plain ns m x fs)
all_in_plain ns (routine n c os) m fs s a =
    all_in_others ns (length fs) os m (found_command ns (length fs) m c fs) s.1 (all_in ns (length fs) c m fs s.0 a)
all_in_plain ns _ m fs s a = a

all_after : (ns : Names) (xs : List ItemInMode) (fs : List AmongStrings) → AllByRecursion (λ x. EachAmongOfPlain IsSound x.plain) xs → AllDo fs → AllDo (found_after ns xs fs)
all_after ns [] fs s a = a
all_after ns (x ∷ xs) fs s a = all_after ns xs (found_plain ns x.mode x.plain fs) s.1 (all_in_plain ns x.plain x.mode fs s.0 a)

in_mode_sound : (m : Mode) (xs : List trees.Plain) (rest : List ItemInMode) → EachAmongOfPlains IsSound xs → AllByRecursion (λ x. EachAmongOfPlain IsSound x.plain) rest → AllByRecursion (λ x. EachAmongOfPlain IsSound x.plain) (in_mode m xs ++ rest)
in_mode_sound m [] rest s r = r
in_mode_sound m (x ∷ xs) rest s r = (s.0, in_mode_sound m xs rest s.1 r)

in_order_sound : (is : List trees.Item) → EachAmongOfItems IsSound is → AllByRecursion (λ x. EachAmongOfPlain IsSound x.plain) (in_order is)
in_order_sound [] s = tt
in_order_sound (plain x ∷ is) s = (s.0, in_order_sound is s.1)
in_order_sound (backward xs ∷ is) s = in_mode_sound Backward xs (in_order is) s.0 (in_order_sound is s.1)

pub tables_differ : AmongsAreSound → TablesDiffer
tables_differ sound script well = all_after (names_in script.items) (in_order script.items) [] (in_order_sound script.items (sound script.items script.external well)) tt

exact_in : FittingAreMatches → (fs : List AmongStrings) → AllDo fs → AllByRecursion (λ f. (x : List ℕ) (i : ℕ) → StandsIn i (fitting (strings_read f) x) ↔ Matches (strings_read f) x i) fs
exact_in fits [] a = tt
exact_in fits (f ∷ fs) a = (λ x i. fits (strings_read f) x a.0 i, exact_in fits fs a.1)

pub searches_are_exact : AmongsAreSound → FittingAreMatches → SearchesAreExact
searches_are_exact sound fits script well = exact_in fits (amongs_of script) (tables_differ sound script well)
