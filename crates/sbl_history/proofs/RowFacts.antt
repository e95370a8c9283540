-- The changes between two lists of rows are those between the rows of noted words.
use Rattle.std.proofs.Common.{◌≡◌, ◌∙◌, ◌++◌, ◌⊎◌, ◌||◌, Bool, true, false, ℕ, zero, suc, List, [], ◌∷◌, Option, Some, None, cond, if◌then◌else◌, inl, inr, refl, sym, ap, subst, true≢false}
use Rattle.std.specs.List.{AllByRecursion, cons_option, filter, filter_map, find, list_any}
use Rattle.std.specs.Option.{option_map}
use Rattle.std.specs.Str.{bytes_eq}
use Rattle.std.proofs.lemmas.Slice.Eq.{bytes_eq-Decides}
use denote.Enum.Bare.{true_same}
use Rattle.sbl_semantics.specs.contracts.fault.RunFault as fault
use Rattle.sbl_semantics.specs.Outcome.{Outcome', Stem, Refused}
use Rattle.sbl_rows.specs.ChangedRows.{outcome_in, same_outcome}
use Rattle.sbl_rows.specs.Changes.{Changed, changes_by, changes_of, outcome_change, word_addition, word_removal}
use Rattle.sbl_rows.specs.Classes.{Pair}
use Rattle.sbl_rows.specs.Moves.{move_of, moves_of}
use Rattle.sbl_rows.specs.Rows.{Row}
use Rattle.sbl_history.specs.inside.Noted.{IsCovered, IsNoted, IsOneOf, IsShown, IsStemIn, Test}
use Rattle.sbl_history.proofs.RowSteps.{shown_row}
use Rattle.sbl_history.proofs.ClassFacts.{IsMarked, changes_by_marked, changes_by_same, marked_moves}

same_self : (o : Outcome') → same_outcome o o ≡ true
same_self (Stem s) = (bytes_eq-Decides s s).1 refl
same_self (Refused f) = true_same fault.the_type f f refl

-- what is so of each row is so of one of them
pub of_one : (P : Row → Type 0) (rows : List Row) (r : Row) → AllByRecursion P rows → IsOneOf rows r → P r
of_one P [] r a one = cc one.1
of_one P (x ∷ rows) r a (zero, at) = let same : x ≡ r = cc at in subst P same a.0
of_one P (x ∷ rows) r a (suc n, at) = of_one P rows r a.1 (n, at)

-- ---- the rows of some words

-- the rows of the words that are kept
abbrev pub kept_rows : Test → List Row → List Row
kept_rows kept rows = filter (λ r. kept r.word) rows

module _ (kept : Test) where
  same_find : (rows : List Row) (w : List ℕ) → kept w ≡ true → find (λ r. bytes_eq w r.word) (kept_rows kept rows) ≡ find (λ r. bytes_eq w r.word) rows
  same_find [] w h = refl
  same_find (r ∷ rows) w h = by (kept r.word) (bytes_eq w r.word) refl refl (same_find rows w h)
    where
      by : (k b : Bool) → kept r.word ≡ k → bytes_eq w r.word ≡ b → find (λ r. bytes_eq w r.word) (kept_rows kept rows) ≡ find (λ r. bytes_eq w r.word) rows
          → find (λ r. bytes_eq w r.word) (cond k (r ∷ kept_rows kept rows) (kept_rows kept rows)) ≡ cond b (Some r) (find (λ r. bytes_eq w r.word) rows)
      by true b ek eb rest = (λ i. cond (bytes_eq w r.word) (Some r) (rest i)) ∙ ap (λ (t : Bool). cond t (Some r) (find (λ r. bytes_eq w r.word) rows)) eb
      by false true ek eb rest = absurd (true≢false (sym h ∙ ap kept ((bytes_eq-Decides w r.word).0 eb) ∙ ek))
      by false false ek eb rest = rest

  pub same_outcomes : (rows : List Row) (w : List ℕ) → kept w ≡ true → outcome_in (kept_rows kept rows) w ≡ outcome_in rows w
  same_outcomes rows w h = ap (option_map (λ (r : Row). r.outcome)) (same_find rows w h)

  -- what is made of the rows, if the words that are left out make nothing
  made_of_kept : {C : Type 0} (f g : Row → Option C) → ((r : Row) → kept r.word ≡ true → f r ≡ g r) → (rows : List Row) → AllByRecursion (λ r. kept r.word ≡ false → f r ≡ None) rows
      → filter_map f rows ≡ filter_map g (kept_rows kept rows)
  made_of_kept f g same [] a = refl
  made_of_kept {C} f g same (r ∷ rows) a = by (kept r.word) refl (made_of_kept f g same rows a.1)
    where
      by : (b : Bool) → kept r.word ≡ b → filter_map f rows ≡ filter_map g (kept_rows kept rows)
          → cons_option (f r) (filter_map f rows) ≡ filter_map g (cond b (r ∷ kept_rows kept rows) (kept_rows kept rows))
      by true e rest = λ i. cons_option (same r e i) (rest i)
      by false e rest = (λ i. cons_option (a.0 e i) (filter_map f rows)) ∙ rest

-- ---- the outcome of a word

-- it is that of one of the rows of the word
first_row : (P : Row → Type 0) (rows : List Row) (w : List ℕ) (o : Outcome') → AllByRecursion P rows → outcome_in rows w ≡ Some o → (r : Row) × (r.word ≡ w) × (r.outcome ≡ o) × P r
first_row P [] w o a e = cc e
first_row P (r ∷ rows) w o a e = by (bytes_eq w r.word) refl e (first_row P rows w o a.1)
  where
    by : (b : Bool) → bytes_eq w r.word ≡ b → option_map (λ (q : Row). q.outcome) (cond b (Some r) (find (λ q. bytes_eq w q.word) rows)) ≡ Some o
        → (outcome_in rows w ≡ Some o → (q : Row) × (q.word ≡ w) × (q.outcome ≡ o) × P q) → (q : Row) × (q.word ≡ w) × (q.outcome ≡ o) × P q
    by true eb e rest = (r, sym ((bytes_eq-Decides w r.word).0 eb), cc e, a.0)
    by false eb e rest = rest e

-- it is that of the function, if that gives the outcome of each row of this word
known_outcome : (f : List ℕ → Outcome') (words : Test) (rows : List Row) (r : Row) → AllByRecursion (λ x. words x.word ≡ false → x.outcome ≡ f x.word) rows → words r.word ≡ false
    → IsOneOf rows r → outcome_in rows r.word ≡ Some (f r.word)
known_outcome f words [] r a h one = cc one.1
known_outcome f words (x ∷ rows) r a h one = by (bytes_eq r.word x.word) refl one (λ later. known_outcome f words rows r a.1 h later)
  where
    by : (b : Bool) → bytes_eq r.word x.word ≡ b → IsOneOf (x ∷ rows) r → (IsOneOf rows r → outcome_in rows r.word ≡ Some (f r.word))
        → option_map (λ (q : Row). q.outcome) (cond b (Some x) (find (λ q. bytes_eq r.word q.word) rows)) ≡ Some (f r.word)
    by true e one rest =
        let same : r.word ≡ x.word = (bytes_eq-Decides r.word x.word).0 e in
        ap Some (a.0 (ap words (sym same) ∙ h) ∙ ap f (sym same))
    by false e (zero, at) rest =
        let same : x ≡ r = cc at in
        absurd (true≢false (sym ((bytes_eq-Decides r.word x.word).1 (ap (λ (q : Row). q.word) (sym same))) ∙ e))
    by false e (suc n, at) rest = rest (n, at)

-- ---- the law

module _ (f : List ℕ → Outcome') (before after : List Row) (words stems kept : Test)
    (is_by : AllByRecursion (λ y. y.outcome ≡ f y.word) after)
    (noted_before : AllByRecursion (IsNoted words after) before)
    (noted_after : AllByRecursion (IsNoted words before) after)
    (stems_before : AllByRecursion (λ r. words r.word ≡ true → IsStemIn stems r.outcome) before)
    (stems_after : AllByRecursion (λ r. words r.word ≡ true → IsStemIn stems r.outcome) after)
    (more : (w : List ℕ) → words w ≡ true → kept w ≡ true)
    (covers : AllByRecursion (IsCovered words stems kept after) after) where
  -- a word that is left out is not noted
  not_noted : (w : List ℕ) → kept w ≡ false → words w ≡ false
  not_noted w h = by (words w) refl
    where
      by : (b : Bool) → words w ≡ b → b ≡ false
      by true e = absurd (true≢false (sym (more w e) ∙ h))
      by false e = refl

  all_one : (P : Row → Type 0) (rows : List Row) → ((r : Row) → IsOneOf rows r → P r) → AllByRecursion P rows
  all_one P [] each = tt
  all_one P (r ∷ rows) each = (each r (0, refl), all_one P rows (λ q one. each q (suc one.0, one.1)))

  is_other : (others : List Row) (r : Row) → words r.word ≡ false → IsNoted words others r → IsOneOf others r
  is_other others r h (inl e) = absurd (true≢false (sym e ∙ h))
  is_other others r h (inr one) = one

  by_before : AllByRecursion (λ x. words x.word ≡ false → x.outcome ≡ f x.word) before
  by_before = all_one (λ x. words x.word ≡ false → x.outcome ≡ f x.word) before
      (λ x one h. of_one (λ y. y.outcome ≡ f y.word) after x is_by (is_other after x h (of_one (IsNoted words after) before x noted_before one)))

  by_after : AllByRecursion (λ y. words y.word ≡ false → y.outcome ≡ f y.word) after
  by_after = all_one (λ y. words y.word ≡ false → y.outcome ≡ f y.word) after (λ y one h. of_one (λ y. y.outcome ≡ f y.word) after y is_by one)

  -- a word that is not noted has one outcome in both lists
  was : (y : Row) → IsOneOf after y → words y.word ≡ false → outcome_in before y.word ≡ Some (f y.word)
  was y one h = known_outcome f words before y by_before h (is_other before y h (of_one (IsNoted words before) after y noted_after one))

  is : (x : Row) → IsOneOf before x → words x.word ≡ false → outcome_in after x.word ≡ Some (f x.word)
  is x one h = known_outcome f words after x by_after h (is_other after x h (of_one (IsNoted words after) before x noted_before one))

  -- ---- words

  no_addition : AllByRecursion (λ y. kept y.word ≡ false → word_addition (outcome_in before y.word) y ≡ None) after
  no_addition = all_one (λ y. kept y.word ≡ false → word_addition (outcome_in before y.word) y ≡ None) after (λ y one h. ap (λ o. word_addition o y) (was y one (not_noted y.word h)))

  no_removal : AllByRecursion (λ x. kept x.word ≡ false → word_removal (outcome_in after x.word) x ≡ None) before
  no_removal = all_one (λ x. kept x.word ≡ false → word_removal (outcome_in after x.word) x ≡ None) before (λ x one h. ap (λ o. word_removal o x) (is x one (not_noted x.word h)))

  no_change : AllByRecursion (λ y. kept y.word ≡ false → outcome_change (outcome_in before y.word) y ≡ None) after
  no_change = all_one (λ y. kept y.word ≡ false → outcome_change (outcome_in before y.word) y ≡ None) after
      (λ y one h. ap (λ o. outcome_change o y) (was y one (not_noted y.word h) ∙ ap Some (sym (of_one (λ y. y.outcome ≡ f y.word) after y is_by one))) ∙ unchanged y)
    where
      unchanged : (y : Row) → outcome_change (Some y.outcome) y ≡ None
      unchanged y = λ i. if same_self y.outcome i then None else Some (Changed y.word y.outcome y.outcome)

  -- ---- classes

  -- each move is marked
  each_marked : AllByRecursion (λ y. (o : Outcome') → outcome_in before y.word ≡ Some o → (s t : List ℕ) → o ≡ Stem s → y.outcome ≡ Stem t → IsMarked stems (s, t)) after
  each_marked = all_one (λ y. (o : Outcome') → outcome_in before y.word ≡ Some o → (s t : List ℕ) → o ≡ Stem s → y.outcome ≡ Stem t → IsMarked stems (s, t)) after
      (λ y one o e s t es et. by y one o e s t es et (words y.word) refl)
    where
      stem_in : (o : Outcome') (s : List ℕ) → o ≡ Stem s → IsStemIn stems o → stems s ≡ true
      stem_in o s e h = subst (IsStemIn stems) e h

      by : (y : Row) → IsOneOf after y → (o : Outcome') → outcome_in before y.word ≡ Some o → (s t : List ℕ) → o ≡ Stem s → y.outcome ≡ Stem t → (b : Bool) → words y.word ≡ b → IsMarked stems (s, t)
      by y one o e s t es et true h =
          let first = first_row (λ r. words r.word ≡ true → IsStemIn stems r.outcome) before y.word o stems_before e in
          inr (
            stem_in first.0.outcome s (first.2 ∙ es) (first.3 (ap words first.1 ∙ h)),
            stem_in y.outcome t et (of_one (λ r. words r.word ≡ true → IsStemIn stems r.outcome) after y stems_after one h),
          )
      by y one o e s t es et false h =
          let outcome : Some o ≡ Some (f y.word) = sym e ∙ was y one h in
          let same : o ≡ f y.word = cc outcome in
          let stem : Stem s ≡ Stem t = sym es ∙ same ∙ sym (of_one (λ y. y.outcome ≡ f y.word) after y is_by one) ∙ et in
          inl (cc stem)

  abbrev MarkedBy : Option Outcome' → Row → Type 0
  MarkedBy x y = (o : Outcome') → x ≡ Some o → (s t : List ℕ) → o ≡ Stem s → y.outcome ≡ Stem t → IsMarked stems (s, t)

  moves_marked : (rows : List Row) → AllByRecursion (λ y. MarkedBy (outcome_in before y.word) y) rows → AllByRecursion (IsMarked stems) (moves_of (outcome_in before) rows)
  moves_marked [] a = tt
  moves_marked (y ∷ rows) a = at (outcome_in before y.word) y.outcome refl refl (moves_marked rows a.1)
    where
      at : (x : Option Outcome') (o : Outcome') → outcome_in before y.word ≡ x → y.outcome ≡ o → AllByRecursion (IsMarked stems) (moves_of (outcome_in before) rows)
          → AllByRecursion (IsMarked stems) (cons_option (move_of x o) (moves_of (outcome_in before) rows))
      at (Some (Stem s)) (Stem t) ex eo rest = (a.0 (Stem s) ex s t refl eo, rest)
      at (Some (Stem s)) (Refused n) ex eo rest = rest
      at (Some (Refused m)) o ex eo rest = rest
      at None o ex eo rest = rest

  all_kept : (P : Row → Type 0) (rows : List Row) → AllByRecursion P rows → AllByRecursion P (kept_rows kept rows)
  all_kept P [] a = tt
  all_kept P (r ∷ rows) a = by (kept r.word) (all_kept P rows a.1)
    where
      by : (b : Bool) → AllByRecursion P (kept_rows kept rows) → AllByRecursion P (cond b (r ∷ kept_rows kept rows) (kept_rows kept rows))
      by true rest = (a.0, rest)
      by false rest = rest

  -- ---- the marked moves

  abbrev Moves : List Row → List Pair
  Moves rows = marked_moves stems (moves_of (outcome_in before) rows)

  abbrev MoveOf : Row → Option Pair
  MoveOf y = move_of (outcome_in before y.word) y.outcome

  -- a word that is not noted moves to its own stem
  own_move : (y : Row) → IsOneOf after y → words y.word ≡ false → outcome_in before y.word ≡ Some y.outcome
  own_move y one h = was y one h ∙ ap Some (sym (of_one (λ y. y.outcome ≡ f y.word) after y is_by one))

  -- a move is there if a kept row makes it
  some_move : (test : Pair → Bool) (rows : List Row) (y : Row) (m : Pair) → IsOneOf rows y → kept y.word ≡ true → MoveOf y ≡ Some m → stems m.0 ≡ true → test m ≡ true
      → list_any test (Moves (kept_rows kept rows)) ≡ true
  some_move test [] y m one hk hm hs ht = cc one.1
  some_move test (r ∷ rows) y m one hk hm hs ht = by (kept r.word) refl one (λ later. some_move test rows y m later hk hm hs ht)
    where
      others : List Pair
      others = moves_of (outcome_in before) (kept_rows kept rows)

      or_true : (b : Bool) → (b || true) ≡ true
      or_true true = refl
      or_true false = refl

      here : (o : Option Pair) → o ≡ Some m → list_any test (marked_moves stems (cons_option o others)) ≡ true
      here None e = cc e
      here (Some n) e =
          let same : n ≡ m = cc e in
          ap (λ (k : Pair). list_any test (cond (stems k.0) (k ∷ marked_moves stems others) (marked_moves stems others))) same
          ∙ ap (λ (b : Bool). list_any test (cond b (m ∷ marked_moves stems others) (marked_moves stems others))) hs
          ∙ ap (λ (b : Bool). b || list_any test (marked_moves stems others)) ht

      there : (o : Option Pair) → list_any test (marked_moves stems others) ≡ true → list_any test (marked_moves stems (cons_option o others)) ≡ true
      there None e = e
      there (Some n) e = by_mark (stems n.0)
        where
          by_mark : (b : Bool) → list_any test (cond b (n ∷ marked_moves stems others) (marked_moves stems others)) ≡ true
          by_mark true = ap (λ (b : Bool). test n || b) e ∙ or_true (test n)
          by_mark false = e

      by : (b : Bool) → kept r.word ≡ b → IsOneOf (r ∷ rows) y → (IsOneOf rows y → list_any test (marked_moves stems others) ≡ true)
          → list_any test (Moves (cond b (r ∷ kept_rows kept rows) (kept_rows kept rows))) ≡ true
      by true e (zero, at) rest = let same : r ≡ y = cc at in here (MoveOf r) (ap MoveOf same ∙ hm)
      by true e (suc n, at) rest = there (MoveOf r) (rest (n, at))
      by false e (zero, at) rest = let same : r ≡ y = cc at in absurd (true≢false (sym hk ∙ sym (ap (λ (q : Row). kept q.word) same) ∙ e))
      by false e (suc n, at) rest = rest (n, at)

  -- what a word that is left out moves by is there without it
  module _ (test : Pair → Bool) where
    abbrev Total : Bool
    Total = list_any test (Moves (kept_rows kept after))

    abbrev IsAbsorbed : Row → Type 0
    IsAbsorbed y = kept y.word ≡ false → (m : Pair) → MoveOf y ≡ Some m → stems m.0 ≡ true → test m ≡ true → Total ≡ true

    each_absorption : AllByRecursion IsAbsorbed after
    each_absorption = all_one IsAbsorbed after (λ y one h m hm hs ht. by y one h m hs ht y.outcome refl (sym (ap (λ o. move_of o y.outcome) (own_move y one (not_noted y.word h))) ∙ hm))
      where
        by : (y : Row) → IsOneOf after y → kept y.word ≡ false → (m : Pair) → stems m.0 ≡ true → test m ≡ true → (o : Outcome') → y.outcome ≡ o → move_of (Some y.outcome) y.outcome ≡ Some m → Total ≡ true
        by y one h m hs ht (Refused n) e hm =
            let none : move_of (Some (Refused n)) (Refused n) ≡ Some m = sym (ap (λ (o : Outcome'). move_of (Some o) o) e) ∙ hm in
            cc none
        by y one h m hs ht (Stem x) e hm =
            let move : Some (x, x) ≡ Some m = sym (ap (λ (o : Outcome'). move_of (Some o) o) e) ∙ hm in
            let same : (x, x) ≡ m = cc move in
            shows (of_one (IsCovered words stems kept after) after y covers one x e (ap (λ (p : Pair). stems p.0) same ∙ hs))
          where
            shows : (words y.word ≡ true) ⊎ ((kept y.word ≡ true) ⊎ IsShown words kept after x) → Total ≡ true
            shows (inl noted) = absurd (true≢false (sym (more y.word noted) ∙ h))
            shows (inr (inl is_kept)) = absurd (true≢false (sym is_kept ∙ h))
            shows (inr (inr is)) =
                let shown = shown_row words kept after x is in
                let r : Row = shown.0 in
                let own : outcome_in before r.word ≡ Some (Stem x) = own_move r shown.1 shown.3 ∙ ap Some shown.2 in
                let moves : MoveOf r ≡ Some (x, x) = (λ i. move_of (own i) (shown.2 i)) in
                let one_move : (x, x) ≡ m = cc (sym (ap (λ (o : Outcome'). move_of (Some o) o) e) ∙ hm) in
                some_move test after r (x, x) shown.1 shown.4 moves (ap (λ (p : Pair). stems p.0) one_move ∙ hs) (ap test one_move ∙ ht)

    absorption : (rows : List Row) → AllByRecursion IsAbsorbed rows → (list_any test (Moves rows) || Total) ≡ (list_any test (Moves (kept_rows kept rows)) || Total)
    absorption [] a = refl
    absorption (y ∷ rows) a = by (kept y.word) refl (absorption rows a.1)
      where
        all_moves : List Pair
        all_moves = moves_of (outcome_in before) rows

        few_moves : List Pair
        few_moves = moves_of (outcome_in before) (kept_rows kept rows)

        or_same : (b c d e : Bool) → (c || e) ≡ (d || e) → ((b || c) || e) ≡ ((b || d) || e)
        or_same true c d e h = refl
        or_same false c d e h = h

        both : (o : Option Pair) → (list_any test (marked_moves stems all_moves) || Total) ≡ (list_any test (marked_moves stems few_moves) || Total)
            → (list_any test (marked_moves stems (cons_option o all_moves)) || Total) ≡ (list_any test (marked_moves stems (cons_option o few_moves)) || Total)
        both None rest = rest
        both (Some m) rest = by_mark (stems m.0)
          where
            by_mark : (b : Bool) → (list_any test (cond b (m ∷ marked_moves stems all_moves) (marked_moves stems all_moves)) || Total)
                ≡ (list_any test (cond b (m ∷ marked_moves stems few_moves) (marked_moves stems few_moves)) || Total)
            by_mark true = or_same (test m) (list_any test (marked_moves stems all_moves)) (list_any test (marked_moves stems few_moves)) Total rest
            by_mark false = rest

        without : (o : Option Pair) → ((m : Pair) → o ≡ Some m → stems m.0 ≡ true → test m ≡ true → Total ≡ true)
            → (list_any test (marked_moves stems (cons_option o all_moves)) || Total) ≡ (list_any test (marked_moves stems all_moves) || Total)
        without None h = refl
        without (Some m) h = by_mark (stems m.0) (test m) refl refl
          where
            or_total : (b : Bool) → Total ≡ true → (true || b) ≡ (b || Total)
            or_total true e = refl
            or_total false e = sym e

            by_mark : (b t : Bool) → stems m.0 ≡ b → test m ≡ t → (list_any test (cond b (m ∷ marked_moves stems all_moves) (marked_moves stems all_moves)) || Total) ≡ (list_any test (marked_moves stems all_moves) || Total)
            by_mark true true es et = ap (λ (t : Bool). (t || list_any test (marked_moves stems all_moves)) || Total) et ∙ or_total (list_any test (marked_moves stems all_moves)) (h m refl es et)
            by_mark true false es et = ap (λ (t : Bool). (t || list_any test (marked_moves stems all_moves)) || Total) et
            by_mark false t es et = refl

        by : (b : Bool) → kept y.word ≡ b → (list_any test (Moves rows) || Total) ≡ (list_any test (Moves (kept_rows kept rows)) || Total)
            → (list_any test (marked_moves stems (cons_option (MoveOf y) all_moves)) || Total) ≡ (list_any test (Moves (cond b (y ∷ kept_rows kept rows) (kept_rows kept rows))) || Total)
        by true e rest = both (MoveOf y) rest
        by false e rest = without (MoveOf y) (a.0 e) ∙ rest

    -- and the kept rows make no other moves
    no_more : (rows : List Row) → list_any test (Moves (kept_rows kept rows)) ≡ true → list_any test (Moves rows) ≡ true
    no_more [] h = h
    no_more (y ∷ rows) h = by (kept y.word) h (no_more rows)
      where
        all_moves : List Pair
        all_moves = moves_of (outcome_in before) rows

        few_moves : List Pair
        few_moves = moves_of (outcome_in before) (kept_rows kept rows)

        there : (o : Option Pair) → list_any test (marked_moves stems all_moves) ≡ true → list_any test (marked_moves stems (cons_option o all_moves)) ≡ true
        there None e = e
        there (Some n) e = by_mark (stems n.0) (test n)
          where
            by_mark : (b t : Bool) → list_any test (cond b (n ∷ marked_moves stems all_moves) (marked_moves stems all_moves)) ≡ true
            by_mark true t = ap (λ (b : Bool). test n || b) e ∙ or_true (test n)
              where
                or_true : (b : Bool) → (b || true) ≡ true
                or_true true = refl
                or_true false = refl
            by_mark false t = e

        both : (o : Option Pair) → (list_any test (marked_moves stems few_moves) ≡ true → list_any test (marked_moves stems all_moves) ≡ true)
            → list_any test (marked_moves stems (cons_option o few_moves)) ≡ true → list_any test (marked_moves stems (cons_option o all_moves)) ≡ true
        both None rest e = rest e
        both (Some n) rest e = by_mark (stems n.0) (test n) refl e
          where
            by_mark : (b t : Bool) → test n ≡ t → list_any test (cond b (n ∷ marked_moves stems few_moves) (marked_moves stems few_moves)) ≡ true
                → list_any test (cond b (n ∷ marked_moves stems all_moves) (marked_moves stems all_moves)) ≡ true
            by_mark true true et e = ap (λ (t : Bool). t || list_any test (marked_moves stems all_moves)) et
            by_mark true false et e =
                let later : list_any test (marked_moves stems few_moves) ≡ true = sym (ap (λ (t : Bool). t || list_any test (marked_moves stems few_moves)) et) ∙ e in
                ap (λ (t : Bool). t || list_any test (marked_moves stems all_moves)) et ∙ rest later
            by_mark false t et e = rest e

        by : (b : Bool) → list_any test (Moves (cond b (y ∷ kept_rows kept rows) (kept_rows kept rows))) ≡ true
            → (list_any test (Moves (kept_rows kept rows)) ≡ true → list_any test (Moves rows) ≡ true) → list_any test (marked_moves stems (cons_option (MoveOf y) all_moves)) ≡ true
        by true e rest = both (MoveOf y) rest e
        by false e rest = there (MoveOf y) (rest e)

    same_moves : list_any test (Moves after) ≡ list_any test (Moves (kept_rows kept after))
    same_moves = by (list_any test (Moves after)) Total (absorption after each_absorption) (no_more after)
      where
        by : (x t : Bool) → (x || t) ≡ (t || t) → (t ≡ true → x ≡ true) → x ≡ t
        by true true e h = refl
        by true false e h = e
        by false true e h = h refl
        by false false e h = refl

  -- the moves of the kept rows, by the outcomes of these rows
  kept_moves : (rows : List Row) → moves_of (outcome_in before) (kept_rows kept rows) ≡ moves_of (outcome_in (kept_rows kept before)) (kept_rows kept rows)
  kept_moves [] = refl
  kept_moves (y ∷ rows) = by (kept y.word) refl (kept_moves rows)
    where
      by : (b : Bool) → kept y.word ≡ b → moves_of (outcome_in before) (kept_rows kept rows) ≡ moves_of (outcome_in (kept_rows kept before)) (kept_rows kept rows)
          → moves_of (outcome_in before) (cond b (y ∷ kept_rows kept rows) (kept_rows kept rows)) ≡ moves_of (outcome_in (kept_rows kept before)) (cond b (y ∷ kept_rows kept rows) (kept_rows kept rows))
      by true e rest = λ i. cons_option (move_of (sym (same_outcomes kept before y.word e) i) y.outcome) (rest i)
      by false e rest = rest

  same_classes : changes_by (moves_of (outcome_in before) after) ≡ changes_by (moves_of (outcome_in (kept_rows kept before)) (kept_rows kept after))
  same_classes =
      changes_by_marked stems (moves_of (outcome_in before) after) (moves_marked after each_marked)
      ∙ changes_by_same (Moves after) (Moves (kept_rows kept after)) same_moves
      ∙ sym (changes_by_marked stems (moves_of (outcome_in before) (kept_rows kept after)) (moves_marked (kept_rows kept after) (all_kept (λ y. MarkedBy (outcome_in before y.word) y) after each_marked)))
      ∙ ap changes_by (kept_moves after)

  pub same_changes : changes_of before after ≡ changes_of (kept_rows kept before) (kept_rows kept after)
  same_changes =
      let few_before = kept_rows kept before in
      let few_after = kept_rows kept after in
      let added = made_of_kept kept (λ r. word_addition (outcome_in before r.word) r) (λ r. word_addition (outcome_in few_before r.word) r)
      (λ r h. ap (λ o. word_addition o r) (sym (same_outcomes kept before r.word h))) after no_addition in
      let removed = made_of_kept kept (λ r. word_removal (outcome_in after r.word) r) (λ r. word_removal (outcome_in few_after r.word) r)
      (λ r h. ap (λ o. word_removal o r) (sym (same_outcomes kept after r.word h))) before no_removal in
      let changed = made_of_kept kept (λ r. outcome_change (outcome_in before r.word) r) (λ r. outcome_change (outcome_in few_before r.word) r)
      (λ r h. ap (λ o. outcome_change o r) (sym (same_outcomes kept before r.word h))) after no_change in
      λ i. ((added i ++ removed i) ++ changed i) ++ same_classes i
