-- Numbering by the list of the amongs that are still to come is the one that looks ahead.
use Rattle.std.proofs.lemmas.Bool.{lt-ltb, ltb-true}
use Rattle.std.proofs.lemmas.Option.{none-some}
use Rattle.std.proofs.Common.{◌≡◌, ◌≤◌, lt_irrefl, ℕ, suc, Bool, true, false, List, [], ◌∷◌, refl, sym, ap, ◌∙◌, drop, length, arith}
use Rattle.sbl_ast.specs.declared.mode.Mode.{Mode}
use Rattle.sbl_ast.specs.declared.tree.Joiner.{Joiner}
use Rattle.std.specs.Prelude.{if◌then◌else◌, nat_lt, Option, Some, None, option_map}
use Rattle.sbl_ast.specs.declared.tree.Simple.{Simple}
use Rattle.sbl_ast.specs.declared.tree.Simple.TheVariants as simples
use Rattle.sbl_compiler.specs.Ahead.{found_as, search_of, search_then, search_next as search_by, simple_by, made_command, made_rows, made_others, made_starter, made_groups}
use Rattle.sbl_compiler.specs.NumberedAmongs.{AmongStrings}
use Rattle.sbl_compiler.specs.NumberedNames.{Names}
use Rattle.sbl_semantics.specs.Regions.{among_at, number_after, number_after_rows, number_after_others, number_after_starter, first, first_rows, first_others, waits, waits_rows, waits_others}
use Rattle.sbl_semantics.specs.Landmarks.{Among, mode_under}
use Rattle.sbl_compiler.specs.NumberedNumbers.{expression}
use Rattle.sbl_program.specs.Chains.{join}
use Rattle.sbl_compiler.specs.NumberedItems.{Position, next_of, inside, end_waiting, past, past_simple, past_rows, past_others, past_starter, past_groups, begin_region, region, search_next, simple, after_prefix, after_count, numbered_command, numbered_rows, numbered_others, numbered_starter, numbered_groups}
use Rattle.sbl_program.specs.ProgramOf.{commands_of}
use Rattle.sbl_program.specs.Program as programs
use Rattle.sbl_ast.specs.Tree.{Command, Rows, Others, Starter, Groups, bracket, simple_, prefixed, counted, setlimit_, among_, no_rows, row, no_others, joined, no_starter, starter, bare, group}

module _ (ns : Names) where
  abbrev mutual
    -- the amongs of a command with k before it, before others
    pub founds : Mode → Command → ℕ → List AmongStrings → List AmongStrings
    founds m (bracket rs) k rest = founds_rows m rs k rest
    founds m (prefixed x c) k rest = founds (mode_under x m) c k rest
    founds m (counted x e c) k rest = founds m c k rest
    founds m (setlimit_ b c) k rest = founds m b k (founds m c (number_after b k) rest)
    founds m (among_ s gs) k rest = found_as ns (among_at m k gs) ∷ founds_starter m s (suc k) (founds_groups m gs (number_after_starter s (suc k)) rest)
    founds m _ k rest = rest

    pub founds_rows : Mode → Rows → ℕ → List AmongStrings → List AmongStrings
    founds_rows m no_rows k rest = rest
    founds_rows m (row c os rs) k rest = founds m c k (founds_others m os (number_after c k) (founds_rows m rs (number_after_others os (number_after c k)) rest))

    pub founds_others : Mode → Others → ℕ → List AmongStrings → List AmongStrings
    founds_others m no_others k rest = rest
    founds_others m (joined j c os) k rest = founds m c k (founds_others m os (number_after c k) rest)

    pub founds_starter : Mode → Starter → ℕ → List AmongStrings → List AmongStrings
    founds_starter m no_starter k rest = rest
    founds_starter m (starter rs) k rest = founds_rows m rs k rest

    pub founds_groups : Mode → Groups → ℕ → List AmongStrings → List AmongStrings
    founds_groups m (bare es) k rest = rest
    founds_groups m (group e es rs gs) k rest = founds_rows m rs k (founds_groups m gs (number_after_rows rs k) rest)

  -- ---- they are no fewer with a command before them

  mutual
    longer : (t : Command) (m : Mode) (k b : ℕ) (rest : List AmongStrings) → b ≤ length rest → b ≤ length (founds m t k rest)
    longer (bracket rs) m k b rest l = longer_rows rs m k b rest l
    longer (prefixed x c) m k b rest l = longer c (mode_under x m) k b rest l
    longer (counted x e c) m k b rest l = longer c m k b rest l
    longer (setlimit_ c d) m k b rest l = longer c m k b _ (longer d m (number_after c k) b rest l)
    longer (among_ s gs) m k b rest l =
        let h = longer_starter s m (suc k) b _ (longer_groups gs m (number_after_starter s (suc k)) b rest l) in
        omega (arith, h)
    longer _ m k b rest l = l

    longer_rows : (rs : Rows) (m : Mode) (k b : ℕ) (rest : List AmongStrings) → b ≤ length rest → b ≤ length (founds_rows m rs k rest)
    longer_rows no_rows m k b rest l = l
    longer_rows (row c os rs) m k b rest l = longer c m k b _ (longer_others os m (number_after c k) b _ (longer_rows rs m (number_after_others os (number_after c k)) b rest l))

    longer_others : (os : Others) (m : Mode) (k b : ℕ) (rest : List AmongStrings) → b ≤ length rest → b ≤ length (founds_others m os k rest)
    longer_others no_others m k b rest l = l
    longer_others (joined j c os) m k b rest l = longer c m k b _ (longer_others os m (number_after c k) b rest l)

    longer_starter : (s : Starter) (m : Mode) (k b : ℕ) (rest : List AmongStrings) → b ≤ length rest → b ≤ length (founds_starter m s k rest)
    longer_starter no_starter m k b rest l = l
    longer_starter (starter rs) m k b rest l = longer_rows rs m k b rest l

    longer_groups : (gs : Groups) (m : Mode) (k b : ℕ) (rest : List AmongStrings) → b ≤ length rest → b ≤ length (founds_groups m gs k rest)
    longer_groups (bare es) m k b rest l = l
    longer_groups (group e es rs gs) m k b rest l = longer_rows rs m k b _ (longer_groups gs m (number_after_rows rs k) b rest l)

  -- ---- the next of them, if it stands in the region, is the first ahead

  -- the next of some, if so many follow the region
  abbrev ahead_in : ℕ → List AmongStrings → Option AmongStrings
  ahead_in b xs = if nat_lt b (length xs) then Some (next_of xs) else None

  less_is : (b n : ℕ) → b ≤ n → nat_lt b (suc n) ≡ true
  less_is b n l = lt-ltb b (suc n) (omega (arith, l))

  not_less : (n : ℕ) (b : Bool) → nat_lt n n ≡ b → nat_lt n n ≡ false
  not_less n true e = absurd (lt_irrefl n (ltb-true n n e))
  not_less n false e = e

  same_is : (n : ℕ) → nat_lt n n ≡ false
  same_is n = not_less n (nat_lt n n) refl

  none_ahead : (rest : List AmongStrings) → ahead_in (length rest) rest ≡ None
  none_ahead rest = ap (λ b. if b then Some (next_of rest) else None) (same_is (length rest))

  one_ahead : (b : ℕ) (f : AmongStrings) (fs : List AmongStrings) → b ≤ length fs → ahead_in b (f ∷ fs) ≡ Some f
  one_ahead b f fs l = ap (λ t. if t then Some f else None) (less_is b (length fs) l)

  mutual
    head_is : (t : Command) (m : Mode) (k b : ℕ) (rest : List AmongStrings) (n : Option Among) → b ≤ length rest → ahead_in b rest ≡ option_map (found_as ns) n → ahead_in b (founds m t k rest) ≡ option_map (found_as ns) (first m t k n)
    head_is (bracket rs) m k b rest n l h = head_rows rs m k b rest n l h
    head_is (prefixed x c) m k b rest n l h = head_is c (mode_under x m) k b rest n l h
    head_is (counted x e c) m k b rest n l h = head_is c m k b rest n l h
    head_is (setlimit_ c d) m k b rest n l h = head_is c m k b _ _ (longer d m (number_after c k) b rest l) (head_is d m (number_after c k) b rest n l h)
    head_is (among_ s gs) m k b rest n l h =
        one_ahead b (found_as ns (among_at m k gs)) _ (longer_starter s m (suc k) b _ (longer_groups gs m (number_after_starter s (suc k)) b rest l))
    head_is _ m k b rest n l h = h

    head_rows : (rs : Rows) (m : Mode) (k b : ℕ) (rest : List AmongStrings) (n : Option Among) → b ≤ length rest → ahead_in b rest ≡ option_map (found_as ns) n → ahead_in b (founds_rows m rs k rest) ≡ option_map (found_as ns) (first_rows m rs k n)
    head_rows no_rows m k b rest n l h = h
    head_rows (row c os rs) m k b rest n l h =
        let k1 = number_after c k in
        let k2 = number_after_others os k1 in
        let l2 = longer_rows rs m k2 b rest l in
        head_is c m k b _ _ (longer_others os m k1 b _ l2) (head_others os m k1 b _ _ l2 (head_rows rs m k2 b rest n l h))

    head_others : (os : Others) (m : Mode) (k b : ℕ) (rest : List AmongStrings) (n : Option Among) → b ≤ length rest → ahead_in b rest ≡ option_map (found_as ns) n → ahead_in b (founds_others m os k rest) ≡ option_map (found_as ns) (first_others m os k n)
    head_others no_others m k b rest n l h = h
    head_others (joined j c os) m k b rest n l h = head_is c m k b _ _ (longer_others os m (number_after c k) b rest l) (head_others os m (number_after c k) b rest n l h)

  -- ---- what is still to come after a command

  past_simple_coming : (s : Simple) (p : Position) → (past_simple s p).coming ≡ p.coming
  past_simple_coming simples.Substring p = refl
  past_simple_coming _ p = refl

  mutual
    pub coming_is : (t : Command) (m : Mode) (k : ℕ) (p : Position) (rest : List AmongStrings) → p.coming ≡ founds m t k rest → (past t p).coming ≡ rest
    coming_is (bracket rs) m k p rest e = coming_rows rs m k p rest e
    coming_is (simple_ s) m k p rest e = past_simple_coming s p ∙ e
    coming_is (prefixed x c) m k p rest e = coming_is c (mode_under x m) k p rest e
    coming_is (counted x n c) m k p rest e = coming_is c m k p rest e
    coming_is (setlimit_ b c) m k p rest e = coming_is c m (number_after b k) (past b p) rest (coming_is b m k p (founds m c (number_after b k) rest) e)
    coming_is (among_ s gs) m k p rest e =
        coming_groups gs m (number_after_starter s (suc k)) (past_starter s (inside p)) rest (coming_starter s m (suc k) (inside p) _ (ap (drop 1) e))
    coming_is _ m k p rest h = h

    coming_rows : (rs : Rows) (m : Mode) (k : ℕ) (p : Position) (rest : List AmongStrings) → p.coming ≡ founds_rows m rs k rest → (past_rows rs p).coming ≡ rest
    coming_rows no_rows m k p rest e = e
    coming_rows (row c os rs) m k p rest e =
        coming_rows rs m (number_after_others os (number_after c k)) (past_others os (past c p)) rest (coming_others os m (number_after c k) (past c p) _ (coming_is c m k p _ e))

    pub coming_others : (os : Others) (m : Mode) (k : ℕ) (p : Position) (rest : List AmongStrings) → p.coming ≡ founds_others m os k rest → (past_others os p).coming ≡ rest
    coming_others no_others m k p rest e = e
    coming_others (joined j c os) m k p rest e = coming_others os m (number_after c k) (past c p) rest (coming_is c m k p _ e)

    coming_starter : (s : Starter) (m : Mode) (k : ℕ) (p : Position) (rest : List AmongStrings) → p.coming ≡ founds_starter m s k rest → (past_starter s p).coming ≡ rest
    coming_starter no_starter m k p rest e = e
    coming_starter (starter rs) m k p rest e = coming_rows rs m k p rest e

    coming_groups : (gs : Groups) (m : Mode) (k : ℕ) (p : Position) (rest : List AmongStrings) → p.coming ≡ founds_groups m gs k rest → (past_groups gs p).coming ≡ rest
    coming_groups (bare es) m k p rest e = e
    coming_groups (group e es rs gs) m k p rest h = coming_groups gs m (number_after_rows rs k) (past_rows rs (end_waiting p)) rest (coming_rows rs m k (end_waiting p) _ h)

  -- ---- and whether a `substring` waits there

  past_simple_waits : (s : Simple) (p : Position) → (past_simple s p).waits ≡ waits (simple_ s) p.waits
  past_simple_waits simples.Substring p = refl
  past_simple_waits _ p = refl

  mutual
    waits_is : (t : Command) (p : Position) → (past t p).waits ≡ waits t p.waits
    waits_is (bracket rs) p = waits_rows_is rs p
    waits_is (simple_ s) p = past_simple_waits s p
    waits_is (prefixed x c) p = waits_is c p
    waits_is (counted x n c) p = waits_is c p
    waits_is (setlimit_ b c) p = waits_is c (past b p) ∙ ap (waits c) (waits_is b p)
    waits_is _ p = refl

    waits_rows_is : (rs : Rows) (p : Position) → (past_rows rs p).waits ≡ waits_rows rs p.waits
    waits_rows_is no_rows p = refl
    waits_rows_is (row c os rs) p = waits_rows_is rs (past_others os (past c p)) ∙ ap (waits_rows rs) (waits_others_is os (past c p) ∙ ap (waits_others os) (waits_is c p))

    waits_others_is : (os : Others) (p : Position) → (past_others os p).waits ≡ waits_others os p.waits
    waits_others_is no_others p = refl
    waits_others_is (joined j c os) p = waits_others_is os (past c p) ∙ ap (waits_others os) (waits_is c p)

  -- ---- and how many follow the region

  past_simple_after : (s : Simple) (p : Position) → (past_simple s p).following ≡ p.following
  past_simple_after simples.Substring p = refl
  past_simple_after _ p = refl

  mutual
    after_is : (t : Command) (p : Position) → (past t p).following ≡ p.following
    after_is (bracket rs) p = after_rows_is rs p
    after_is (simple_ s) p = past_simple_after s p
    after_is (prefixed x c) p = after_is c p
    after_is (counted x n c) p = after_is c p
    after_is (setlimit_ b c) p = after_is c (past b p) ∙ after_is b p
    after_is (among_ s gs) p = after_groups_is gs (past_starter s (inside p)) ∙ after_starter_is s (inside p)
    after_is _ p = refl

    after_rows_is : (rs : Rows) (p : Position) → (past_rows rs p).following ≡ p.following
    after_rows_is no_rows p = refl
    after_rows_is (row c os rs) p = after_rows_is rs (past_others os (past c p)) ∙ after_others_is os (past c p) ∙ after_is c p

    after_others_is : (os : Others) (p : Position) → (past_others os p).following ≡ p.following
    after_others_is no_others p = refl
    after_others_is (joined j c os) p = after_others_is os (past c p) ∙ after_is c p

    after_starter_is : (s : Starter) (p : Position) → (past_starter s p).following ≡ p.following
    after_starter_is no_starter p = refl
    after_starter_is (starter rs) p = after_rows_is rs p

    after_groups_is : (gs : Groups) (p : Position) → (past_groups gs p).following ≡ p.following
    after_groups_is (bare es) p = refl
    after_groups_is (group e es rs gs) p = after_groups_is gs (past_rows rs (end_waiting p)) ∙ after_rows_is rs (end_waiting p)

  -- ---- commands

  abbrev found_next : Option AmongStrings → programs.Node
  found_next None = programs.act programs.f
  found_next (Some f) = search_of f

  searched_if : (t : Bool) (p : Position) (n : Option Among) → (if t then Some (next_of p.coming) else None) ≡ option_map (found_as ns) n → (if t then search_next p else programs.act programs.f) ≡ search_by ns n
  searched_if true p None h = absurd (none-some _ (sym h))
  searched_if true p (Some a) h = ap (found_next) h
  searched_if false p None h = refl
  searched_if false p (Some a) h = ap (found_next) h

  simple_is : (s : Simple) (p : Position) (n : Option Among) → ahead_in p.following p.coming ≡ option_map (found_as ns) n → simple s p ≡ simple_by ns s n
  simple_is simples.Substring p n e = searched_if (nat_lt p.following (length p.coming)) p n e
  simple_is _ p n e = refl

  first_is : (w : Bool) (p : Position) (a : Among) (xs : List programs.Node) → next_of p.coming ≡ found_as ns a → commands_of (if w then [] else search_next p ∷ xs) ≡ search_then ns w a (commands_of xs)
  first_is true p a xs e = refl
  first_is false p a xs e = ap (λ g. programs.command (search_of g) (commands_of xs)) e

  among_are : (k k' : ℕ) (cs cs' ds ds' : programs.Nodes) → k ≡ k' → cs ≡ cs' → ds ≡ ds' → programs.among k cs ds ≡ programs.among k' cs' ds'
  among_are k k' cs cs' ds ds' p q r = ap (λ x. programs.among x cs ds) p ∙ ap (λ x. programs.among k' x ds) q ∙ ap (programs.among k' cs') r

  commands_are : (c c' : programs.Node) (cs cs' : programs.Nodes) → c ≡ c' → cs ≡ cs' → programs.command c cs ≡ programs.command c' cs'
  commands_are c c' cs cs' p q = ap (λ x. programs.command x cs) p ∙ ap (programs.command c') q

  setlimit_are : (c c' d d' : programs.Node) → c ≡ c' → d ≡ d' → programs.setlimit c d ≡ programs.setlimit c' d'
  setlimit_are c c' d d' p q = ap (λ x. programs.setlimit x d) p ∙ ap (programs.setlimit c') q

  join_are : (j : Joiner) (c c' d d' : programs.Node) → c ≡ c' → d ≡ d' → join j c d ≡ join j c' d'
  join_are j c c' d d' p q = ap (λ x. join j x d) p ∙ ap (join j c') q

  -- A place before which there are k: after it come these and then the rest, so many of which follow the region,
  -- in which n is what comes next.
  pub record At (p : Position) (xs rest : List AmongStrings) (w : Bool) (n : Option Among) : Type 0 where
    pub coming : p.coming ≡ xs
    pub waiting : p.waits ≡ w
    pub few : p.following ≤ length rest
    pub next : ahead_in p.following rest ≡ option_map (found_as ns) n

  -- the beginning of a region
  pub begun_at : (p q : Position) (xs rest : List AmongStrings) → p.coming ≡ xs → q.coming ≡ rest → At (begin_region p q) xs rest false None
  begun_at p q xs rest e h = record {
    coming = e;
    waiting = refl;
    few = omega (arith, ap length h);
    next = ap (λ r. ahead_in (length r) rest) h ∙ none_ahead rest;
  }

  -- the same for another rest
  along : (p : Position) (xs rest more : List AmongStrings) (w : Bool) (n o : Option Among) → At p xs more w o → p.following ≤ length rest → ahead_in p.following rest ≡ option_map (found_as ns) n → At p xs rest w n
  along p xs rest more w n o a few next = record { coming = a.coming; waiting = a.waiting; few = few; next = next }

  -- with less of the rest
  nearer : (t : Command) (p : Position) (m : Mode) (k : ℕ) (rest : List AmongStrings) (w : Bool) (n : Option Among) (xs : List AmongStrings) → At p xs rest w n → At p xs (founds m t k rest) w (first m t k n)
  nearer t p m k rest w n xs a = along p xs _ rest w _ n a (longer t m k p.following rest a.few) (head_is t m k p.following rest n a.few a.next)

  pub nearer_others : (os : Others) (p : Position) (m : Mode) (k : ℕ) (rest : List AmongStrings) (w : Bool) (n : Option Among) (xs : List AmongStrings) → At p xs rest w n → At p xs (founds_others m os k rest) w (first_others m os k n)
  nearer_others os p m k rest w n xs a = along p xs _ rest w _ n a (longer_others os m k p.following rest a.few) (head_others os m k p.following rest n a.few a.next)

  nearer_rows : (rs : Rows) (p : Position) (m : Mode) (k : ℕ) (rest : List AmongStrings) (w : Bool) (n : Option Among) (xs : List AmongStrings) → At p xs rest w n → At p xs (founds_rows m rs k rest) w (first_rows m rs k n)
  nearer_rows rs p m k rest w n xs a = along p xs _ rest w _ n a (longer_rows rs m k p.following rest a.few) (head_rows rs m k p.following rest n a.few a.next)

  -- after a command
  pub further : (t : Command) (p : Position) (m : Mode) (k : ℕ) (xs rest : List AmongStrings) (w : Bool) (n : Option Among) → At p (founds m t k xs) rest w n → At (past t p) xs rest (waits t w) n
  further t p m k xs rest w n a = record {
    coming = coming_is t m k p xs a.coming;
    waiting = waits_is t p ∙ ap (waits t) a.waiting;
    few = rw (after_is t p) a.few;
    next = ap (λ b. ahead_in b rest) (after_is t p) ∙ a.next;
  }

  further_others : (os : Others) (p : Position) (m : Mode) (k : ℕ) (xs rest : List AmongStrings) (w : Bool) (n : Option Among) → At p (founds_others m os k xs) rest w n → At (past_others os p) xs rest (waits_others os w) n
  further_others os p m k xs rest w n a = record {
    coming = coming_others os m k p xs a.coming;
    waiting = waits_others_is os p ∙ ap (waits_others os) a.waiting;
    few = rw (after_others_is os p) a.few;
    next = ap (λ b. ahead_in b rest) (after_others_is os p) ∙ a.next;
  }

  region_at : (rs : Rows) (m : Mode) (k : ℕ) (p : Position) (rest : List AmongStrings) → p.coming ≡ founds_rows m rs k rest → At (region rs p) (founds_rows m rs k rest) rest false None
  region_at rs m k p rest e = begun_at p (past_rows rs (end_waiting p)) _ rest e (coming_rows rs m k (end_waiting p) rest e)

  mutual
    pub made_is : (t : Command) (m : Mode) (k : ℕ) (w : Bool) (n : Option Among) (p : Position) (rest : List AmongStrings) → At p (founds m t k rest) rest w n → numbered_command ns t p ≡ made_command ns m k w n t
    made_is (bracket rs) m k w n p rest a = ap programs.sequence (rows_is rs m k w n p rest a)
    made_is (simple_ s) m k w n p rest a = simple_is s p n (ap (ahead_in p.following) a.coming ∙ a.next)
    made_is (prefixed x c) m k w n p rest a = ap (after_prefix x) (made_is c (mode_under x m) k w n p rest a)
    made_is (counted x e c) m k w n p rest a = ap (after_count x (expression ns e)) (made_is c m k w n p rest a)
    made_is (setlimit_ b c) m k w n p rest a =
        setlimit_are _ _ _ _ (made_is b m k w _ p _ (nearer c p m (number_after b k) rest w n _ a))
        (made_is c m (number_after b k) (waits b w) n (past b p) rest (further b p m k _ rest w n a))
    made_is (among_ s gs) m k w n p rest a =
        let e = a.coming in
        let inner = ap (drop 1) e in
        let begun' = coming_starter s m (suc k) (inside p) (founds_groups m gs (number_after_starter s (suc k)) rest) inner in
        among_are _ _ _ _ _ _ (ap (λ xs. (next_of xs).number) e)
        (ap (λ b. commands_of (if b then [] else search_next p ∷ numbered_starter ns s (inside p))) a.waiting
        ∙ first_is w p (among_at m k gs) (numbered_starter ns s (inside p)) (ap next_of e)
        ∙ ap (search_then ns w (among_at m k gs)) (starter_is s m (suc k) (inside p) _ inner))
        (groups_is gs m (number_after_starter s (suc k)) (past_starter s (inside p)) rest begun')
    made_is _ m k w n p rest a = refl

    rows_is : (rs : Rows) (m : Mode) (k : ℕ) (w : Bool) (n : Option Among) (p : Position) (rest : List AmongStrings) → At p (founds_rows m rs k rest) rest w n → commands_of (numbered_rows ns rs p) ≡ made_rows ns m k w n rs
    rows_is no_rows m k w n p rest a = refl
    rows_is (row c os rs) m k w n p rest a =
        let k1 = number_after c k in
        let k2 = number_after_others os k1 in
        let a2 = nearer_rows rs p m k2 rest w n _ a in
        let a1 = nearer_others os p m k1 _ w _ _ a2 in
        let b1 = further c p m k _ rest w n a in
        let b2 = further_others os (past c p) m k1 _ rest (waits c w) n b1 in
        let one = others_is os m k1 (waits c w) _ (past c p) _ _ _ (nearer_rows rs (past c p) m k2 rest (waits c w) n _ b1) (made_is c m k w _ p _ a1) in
        commands_are _ _ _ _ one (rows_is rs m k2 (waits_others os (waits c w)) n (past_others os (past c p)) rest b2)

    pub others_is : (os : Others) (m : Mode) (k : ℕ) (w : Bool) (n : Option Among) (p : Position) (rest : List AmongStrings) (c c' : programs.Node) → At p (founds_others m os k rest) rest w n → c ≡ c' → numbered_others ns os p c ≡ made_others ns m k w n os c'
    others_is no_others m k w n p rest c c' a g = g
    others_is (joined j t os) m k w n p rest c c' a g =
        let one = made_is t m k w _ p _ (nearer_others os p m (number_after t k) rest w n _ a) in
        others_is os m (number_after t k) (waits t w) n (past t p) rest _ _ (further t p m k _ rest w n a) (join_are j _ _ _ _ g one)

    starter_is : (s : Starter) (m : Mode) (k : ℕ) (p : Position) (rest : List AmongStrings) → p.coming ≡ founds_starter m s k rest → commands_of (numbered_starter ns s p) ≡ made_starter ns m k s
    starter_is no_starter m k p rest e = refl
    starter_is (starter rs) m k p rest e = ap (λ cs. programs.command (programs.sequence cs) programs.no_commands) (rows_is rs m k false None (region rs p) rest (region_at rs m k p rest e))

    groups_is : (gs : Groups) (m : Mode) (k : ℕ) (p : Position) (rest : List AmongStrings) → p.coming ≡ founds_groups m gs k rest → commands_of (numbered_groups ns gs p) ≡ made_groups ns m k gs
    groups_is (bare es) m k p rest e = refl
    groups_is (group x es rs gs) m k p rest e =
        commands_are _ _ _ _ (ap programs.sequence (rows_is rs m k false None (region rs p) _ (region_at rs m k p _ e))) (groups_is gs m (number_after_rows rs k) (past_rows rs (end_waiting p)) rest (coming_rows rs m k (end_waiting p) _ e))
