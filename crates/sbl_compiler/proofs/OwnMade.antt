-- The program of each routine is that of its own tree: the list of the amongs of a script, and its routines.
use Rattle.sbl_compiler.specs.Laws.{OwnIsMade}
use Rattle.std.proofs.Common.{◌≡◌, ℕ, suc, false, List, [], ◌∷◌, ◌++◌, refl, sym, ap, ◌∙◌, length, ◌+◌, append_assoc, append-nil, arith}
use Rattle.sbl_ast.specs.Order.{ItemInMode}
use Rattle.sbl_ast.specs.declared.mode.Mode.{Mode}
use Rattle.std.specs.Prelude.{◌-◌, None}
use Rattle.sbl_compiler.specs.Ahead.{found_as, routine_made, routine_in, routines_in}
use Rattle.sbl_compiler.specs.NumberedAmongs.{AmongStrings, found_of, found_command, found_rows, found_others, found_starter, found_groups, found_plain, found_after}
use Rattle.sbl_compiler.specs.NumberedNames.{Names}
use Rattle.sbl_semantics.specs.Regions.{among_at, number_after, number_after_rows, number_after_others, number_after_starter, number_after_groups, waits}
use Rattle.sbl_semantics.specs.Landmarks.{mode_under}
use Rattle.sbl_compiler.specs.NumberedItems.{Position, end_waiting, past, past_body, past_plain, begin_body, routine_of, with_routine, routines_after}
use Rattle.sbl_program.specs.Program as programs
use Rattle.sbl_ast.specs.Tree.{Command, Rows, Others, Starter, Groups, Plain, routine, bracket, prefixed, counted, setlimit_, among_, no_rows, row, no_others, joined, no_starter, starter, bare, group}
use Rattle.sbl_compiler.proofs.Coming.{founds, founds_rows, founds_others, founds_starter, founds_groups, coming_is, coming_others, begun_at, nearer_others, further, made_is, others_is}

module _ (ns : Names) where
  abbrev routine_by : programs.Node → ℕ → programs.Routine
  routine_by c n = record { body = c; amongs = n }

  -- ---- today's list of amongs

  last_len : (xs : List AmongStrings) (x : AmongStrings) → length (xs ++ (x ∷ [])) ≡ suc (length xs)
  last_len [] x = refl
  last_len (y ∷ xs) x = ap suc (last_len xs x)

  more : (a k n : ℕ) → n ≡ a + k → suc n ≡ a + suc k
  more a k n e = omega (arith, e)

  mutual
    len_is : (t : Command) (m : Mode) (a k : ℕ) (xs : List AmongStrings) → length xs ≡ a + k → length (found_command ns a m t xs) ≡ a + number_after t k
    len_is (bracket rs) m a k xs l = len_rows rs m a k xs l
    len_is (prefixed x c) m a k xs l = len_is c (mode_under x m) a k xs l
    len_is (counted x e c) m a k xs l = len_is c m a k xs l
    len_is (setlimit_ b c) m a k xs l = len_is c m a (number_after b k) (found_command ns a m b xs) (len_is b m a k xs l)
    len_is (among_ s gs) m a k xs l =
        len_groups gs m a (number_after_starter s (suc k)) _ (len_starter s m a (suc k) (xs ++ (found_of ns a m gs xs ∷ [])) (last_len xs (found_of ns a m gs xs) ∙ more a k (length xs) l))
    len_is _ m a k xs l = l

    len_rows : (rs : Rows) (m : Mode) (a k : ℕ) (xs : List AmongStrings) → length xs ≡ a + k → length (found_rows ns a m rs xs) ≡ a + number_after_rows rs k
    len_rows no_rows m a k xs l = l
    len_rows (row c os rs) m a k xs l = len_rows rs m a (number_after_others os (number_after c k)) _ (len_others os m a (number_after c k) _ (len_is c m a k xs l))

    len_others : (os : Others) (m : Mode) (a k : ℕ) (xs : List AmongStrings) → length xs ≡ a + k → length (found_others ns a m os xs) ≡ a + number_after_others os k
    len_others no_others m a k xs l = l
    len_others (joined j c os) m a k xs l = len_others os m a (number_after c k) _ (len_is c m a k xs l)

    len_starter : (s : Starter) (m : Mode) (a k : ℕ) (xs : List AmongStrings) → length xs ≡ a + k → length (found_starter ns a m s xs) ≡ a + number_after_starter s k
    len_starter no_starter m a k xs l = l
    len_starter (starter rs) m a k xs l = len_rows rs m a k xs l

    len_groups : (gs : Groups) (m : Mode) (a k : ℕ) (xs : List AmongStrings) → length xs ≡ a + k → length (found_groups ns a m gs xs) ≡ a + number_after_groups gs k
    len_groups (bare es) m a k xs l = l
    len_groups (group e es rs gs) m a k xs l = len_groups gs m a (number_after_rows rs k) _ (len_rows rs m a k xs l)

  number_is : (m : Mode) (a k : ℕ) (gs : Groups) (xs : List AmongStrings) → length xs ≡ a + k → found_of ns a m gs xs ≡ found_as ns (among_at m k gs)
  number_is m a k gs xs l =
      let e : length xs - a ≡ k = omega (arith, l) in
      ap (λ j. found_as ns (among_at m j gs)) e

  mutual
    found_is : (t : Command) (m : Mode) (a k : ℕ) (xs rest : List AmongStrings) → length xs ≡ a + k → found_command ns a m t xs ++ rest ≡ xs ++ founds ns m t k rest
    found_is (bracket rs) m a k xs rest l = found_rows_is rs m a k xs rest l
    found_is (prefixed x c) m a k xs rest l = found_is c (mode_under x m) a k xs rest l
    found_is (counted x e c) m a k xs rest l = found_is c m a k xs rest l
    found_is (setlimit_ b c) m a k xs rest l =
        found_is c m a (number_after b k) (found_command ns a m b xs) rest (len_is b m a k xs l) ∙ found_is b m a k xs (founds ns m c (number_after b k) rest) l
    found_is (among_ s gs) m a k xs rest l =
        let f = found_of ns a m gs xs in
        let ys = xs ++ (f ∷ []) in
        let l1 = last_len xs f ∙ more a k (length xs) l in
        let inner = founds_starter ns m s (suc k) (founds_groups ns m gs (number_after_starter s (suc k)) rest) in
        found_groups_is gs m a (number_after_starter s (suc k)) (found_starter ns a m s ys) rest (len_starter s m a (suc k) ys l1)
        ∙ found_starter_is s m a (suc k) ys _ l1
        ∙ append_assoc xs (f ∷ []) inner
        ∙ ap (λ g. xs ++ (g ∷ inner)) (number_is m a k gs xs l)
    found_is _ m a k xs rest l = refl

    found_rows_is : (rs : Rows) (m : Mode) (a k : ℕ) (xs rest : List AmongStrings) → length xs ≡ a + k → found_rows ns a m rs xs ++ rest ≡ xs ++ founds_rows ns m rs k rest
    found_rows_is no_rows m a k xs rest l = refl
    found_rows_is (row c os rs) m a k xs rest l =
        let l1 = len_is c m a k xs l in
        let l2 = len_others os m a (number_after c k) (found_command ns a m c xs) l1 in
        found_rows_is rs m a (number_after_others os (number_after c k)) (found_others ns a m os (found_command ns a m c xs)) rest l2
        ∙ found_others_is os m a (number_after c k) (found_command ns a m c xs) _ l1 ∙ found_is c m a k xs _ l

    found_others_is : (os : Others) (m : Mode) (a k : ℕ) (xs rest : List AmongStrings) → length xs ≡ a + k → found_others ns a m os xs ++ rest ≡ xs ++ founds_others ns m os k rest
    found_others_is no_others m a k xs rest l = refl
    found_others_is (joined j c os) m a k xs rest l =
        found_others_is os m a (number_after c k) (found_command ns a m c xs) rest (len_is c m a k xs l) ∙ found_is c m a k xs _ l

    found_starter_is : (s : Starter) (m : Mode) (a k : ℕ) (xs rest : List AmongStrings) → length xs ≡ a + k → found_starter ns a m s xs ++ rest ≡ xs ++ founds_starter ns m s k rest
    found_starter_is no_starter m a k xs rest l = refl
    found_starter_is (starter rs) m a k xs rest l = found_rows_is rs m a k xs rest l

    found_groups_is : (gs : Groups) (m : Mode) (a k : ℕ) (xs rest : List AmongStrings) → length xs ≡ a + k → found_groups ns a m gs xs ++ rest ≡ xs ++ founds_groups ns m gs k rest
    found_groups_is (bare es) m a k xs rest l = refl
    found_groups_is (group e es rs gs) m a k xs rest l =
        found_groups_is gs m a (number_after_rows rs k) (found_rows ns a m rs xs) rest (len_rows rs m a k xs l) ∙ found_rows_is rs m a k xs _ l

  -- ---- a routine, and all

  routine_are : (c c' : programs.Node) (n n' : ℕ) → c ≡ c' → n ≡ n' → routine_by c n ≡ routine_by c' n'
  routine_are c c' n n' p q = ap (λ x. routine_by x n) p ∙ ap (routine_by c') q

  abbrev body_founds : Mode → Command → Others → List AmongStrings → List AmongStrings
  body_founds m c os rest = founds ns m c 0 (founds_others ns m os (number_after c 0) rest)

  after_body : (m : Mode) (c : Command) (os : Others) (p : Position) (rest : List AmongStrings) → p.coming ≡ body_founds m c os rest → (past_body c os p).coming ≡ rest
  after_body m c os p rest e = coming_others ns os m (number_after c 0) (past c (end_waiting p)) rest (coming_is ns c m 0 (end_waiting p) _ e)

  one_in_prefix : (l k r : ℕ) → l + suc k ≡ r → suc l + k ≡ r
  one_in_prefix l k r e = omega (arith, e)

  mutual
    count_is : (t : Command) (m : Mode) (k : ℕ) (rest : List AmongStrings) → length (founds ns m t k rest) + k ≡ length rest + number_after t k
    count_is (bracket rs) m k rest = count_rows rs m k rest
    count_is (prefixed x c) m k rest = count_is c (mode_under x m) k rest
    count_is (counted x e c) m k rest = count_is c m k rest
    count_is (setlimit_ b c) m k rest = count_is b m k _ ∙ count_is c m (number_after b k) rest
    count_is (among_ s gs) m k rest = one_in_prefix _ k _ (count_starter s m (suc k) _ ∙ count_groups gs m (number_after_starter s (suc k)) rest)
    count_is _ m k rest = refl

    count_rows : (rs : Rows) (m : Mode) (k : ℕ) (rest : List AmongStrings) → length (founds_rows ns m rs k rest) + k ≡ length rest + number_after_rows rs k
    count_rows no_rows m k rest = refl
    count_rows (row c os rs) m k rest = count_is c m k _ ∙ count_others os m (number_after c k) _ ∙ count_rows rs m (number_after_others os (number_after c k)) rest

    count_others : (os : Others) (m : Mode) (k : ℕ) (rest : List AmongStrings) → length (founds_others ns m os k rest) + k ≡ length rest + number_after_others os k
    count_others no_others m k rest = refl
    count_others (joined j c os) m k rest = count_is c m k _ ∙ count_others os m (number_after c k) rest

    count_starter : (s : Starter) (m : Mode) (k : ℕ) (rest : List AmongStrings) → length (founds_starter ns m s k rest) + k ≡ length rest + number_after_starter s k
    count_starter no_starter m k rest = refl
    count_starter (starter rs) m k rest = count_rows rs m k rest

    count_groups : (gs : Groups) (m : Mode) (k : ℕ) (rest : List AmongStrings) → length (founds_groups ns m gs k rest) + k ≡ length rest + number_after_groups gs k
    count_groups (bare es) m k rest = refl
    count_groups (group e es rs gs) m k rest = count_rows rs m k _ ∙ count_groups gs m (number_after_rows rs k) rest

  so_many : (l r n : ℕ) → l + 0 ≡ r + n → l - r ≡ n
  so_many l r n e = omega (arith, e)

  pub routine_is : (m : Mode) (c : Command) (os : Others) (p : Position) (rest : List AmongStrings) → p.coming ≡ body_founds m c os rest → routine_of ns c os p ≡ routine_made ns m c os
  routine_is m c os p rest e =
      let k = number_after c 0 in
      let b = after_body m c os p rest e in
      let q = begin_body c os p in
      let a = begun_at ns p (past_body c os p) _ rest e b in
      let body = others_is ns os m k (waits c false) None (past c q) rest _ _ (further ns c q m 0 _ rest false None a) (made_is ns c m 0 false _ q _ (nearer_others ns os q m k rest false None _ a)) in
      let counted = count_is c m 0 (founds_others ns m os k rest) ∙ count_others os m k rest in
      routine_are _ _ _ _ body (so_many (length p.coming) _ _ (ap (λ xs. length xs + 0) e ∙ counted ∙ ap (λ xs. length xs + number_after_others os k) (sym b)))

  abbrev plain_founds : Mode → Plain → List AmongStrings → List AmongStrings
  plain_founds m (routine n c os) rest = body_founds m c os rest
  plain_founds m _ rest = rest

  abbrev all_founds : List ItemInMode → List AmongStrings
  all_founds [] = []
  all_founds (x ∷ xs) = plain_founds x.mode x.plain (all_founds xs)

  none_more : (n : ℕ) → n ≡ n + 0
  none_more n = omega arith

  plain_is : (m : Mode) (x : Plain) (sofar rest : List AmongStrings) → found_plain ns m x sofar ++ rest ≡ sofar ++ plain_founds m x rest
  plain_is m (routine n c os) sofar rest =
      let a = length sofar in
      let l = none_more (length sofar) in
      found_others_is os m a (number_after c 0) (found_command ns a m c sofar) rest (len_is c m a 0 sofar l) ∙ found_is c m a 0 sofar _ l
  plain_is m _ sofar rest = refl

  all_is : (xs : List ItemInMode) (sofar : List AmongStrings) → found_after ns xs sofar ≡ sofar ++ all_founds xs
  all_is [] sofar = sym (append-nil sofar)
  all_is (x ∷ xs) sofar = all_is xs (found_plain ns x.mode x.plain sofar) ∙ plain_is x.mode x.plain sofar (all_founds xs)

  after_plain : (m : Mode) (x : Plain) (p : Position) (rest : List AmongStrings) → p.coming ≡ plain_founds m x rest → (past_plain x p).coming ≡ rest
  after_plain m (routine n c os) p rest e = after_body m c os p rest e
  after_plain m _ p rest e = e

  with_is : (m : Mode) (x : Plain) (p : Position) (rest : List AmongStrings) (sofar more : List programs.Routine) → p.coming ≡ plain_founds m x rest → with_routine ns x p sofar ++ more ≡ sofar ++ routine_in ns m x more
  with_is m (routine n c os) p rest sofar more e =
      append_assoc sofar (routine_of ns c os p ∷ []) more ∙ ap (λ r. sofar ++ (r ∷ more)) (routine_is m c os p rest e)
  with_is m _ p rest sofar more e = refl

  routines_are : (xs : List ItemInMode) (p : Position) (sofar : List programs.Routine) → p.coming ≡ all_founds xs → routines_after ns xs p sofar ≡ sofar ++ routines_in ns xs
  routines_are [] p sofar e = sym (append-nil sofar)
  routines_are (x ∷ xs) p sofar e =
      routines_are xs (past_plain x.plain p) (with_routine ns x.plain p sofar) (after_plain x.mode x.plain p (all_founds xs) e)
      ∙ with_is x.mode x.plain p (all_founds xs) sofar (routines_in ns xs) e

pub own_is_made : OwnIsMade
own_is_made ns xs = routines_are ns xs (record { coming = found_after ns xs []; following = 0; waits = false }) [] (all_is ns xs [])
