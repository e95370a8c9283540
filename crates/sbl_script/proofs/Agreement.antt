-- What an edit makes of a script, as its tokens say it, is what the tree in its place makes of it.
use Rattle.std.proofs.Common.{◌≡◌, ℕ, ◌+◌, Bool, true, false, cond, not, ◌||◌, nat_eq, suc, List, [], ◌∷◌, ◌++◌, append_assoc, length, map, take, Option, Some, None, option_map, is_some, Result, Ok, Err, if◌then◌else◌, refl, sym, ap, subst, ◌∙◌, arith}
use Rattle.std.specs.List.{before_first, filter, find, fold, list_any, prefix_len}
use Rattle.std.specs.Option.{ok_or, option_or}
use Rattle.sbl_token.specs.Lexemes as lex
use Rattle.sbl_token.specs.declared.signs.Sign.TheVariants as signs
use Rattle.sbl_token.specs.declared.words.Word.TheVariants as words
use Rattle.sbl_text.specs.declared.fault.ScriptFault.{ScriptFault}
use Rattle.sbl_text.specs.Escapes.{InForce, nothing_set}
use Rattle.sbl_text.specs.Directives.{Directives, start_under}
use Rattle.sbl_ast.specs.declared.mode.Mode.TheVariants.{Backward}
use Rattle.sbl_ast.specs.Counts.{count_in_among}
use Rattle.sbl_ast.specs.Order.{ItemInMode, in_order}
use Rattle.sbl_ast.specs.inside.OrderParts.{in_mode}
use Rattle.sbl_ast.specs.Tree.{Argument, Term, Command, Others, Starter, Groups, Plain, routine, grouping, Item, plain, backward, among_}
use Rattle.sbl_ast.specs.Places.{AtDepth, places, placed_plain, tokens}
use Rattle.sbl_ast.specs.inside.PlaceParts.{placed_plains}
use Rattle.sbl_ast.specs.Source.{Source}
use Rattle.sbl_ast.specs.Texts.{Text, TreeOf, places_in}
use Rattle.sbl_ast.specs.Texts as texts
use Rattle.sbl_ast.specs.View.{RowView}
use Rattle.sbl_ast.proofs.After.{plain_before, tree_before}
use Rattle.sbl_tree_amongs.specs.Amongs.{AmongContents, amongs_of_body, nth_held, put_in_body}
use Rattle.sbl_tree_amongs.specs.Replacement.{count_words, is_among}
use Rattle.sbl_tree_amongs.proofs.Swapped.{body_one}
use Rattle.sbl_parser.proofs.OneTree.{trees_are_one}
use Rattle.sbl_script.specs.declared.edit_fault.EditFault.{EditFault}
use Rattle.sbl_script.specs.declared.edit_fault.EditFault.TheVariants as edits
use Rattle.sbl_script.specs.Reading.{HasTokens, IsFaultIn}
use Rattle.sbl_ast.specs.NamedParts.{Part', Routine as body, Among as among, Grouping as terms}
use Rattle.sbl_script.specs.Edits.{changes, is_routine_named, is_grouping_named, escapes_after, first_of, keeps_count, items_with, plains_of, plains_with, state_before, text_for, text_in, IsChanged, IsEdited, IsEditFault, IsMade, IsSubstituted}
use Rattle.sbl_script.specs.Homes.{Home, Walk, first_in, first_passing, home, home_in, home_of_among, home_of_body, home_of_held, home_of_terms, plain_if, state_reached, walk_in, walk_to, IsEditedAt, IsEditFaultAt, IsFaultAt, IsSubstitutedAt}
use Rattle.sbl_script.proofs.AmongEnds.{after_same, inside}
use Rattle.sbl_script.proofs.AmongDepths.{N, both_n, same_test, text_same, words_with}
use Rattle.sbl_script.proofs.Found.{routine_found, some_plain}
use Rattle.sbl_script.proofs.Shallow.{plains_before}

abbrev Ps : Type 0
Ps = List AtDepth

-- ---- items in text order

back_plains : (xs : List Plain) (l : List ItemInMode) → map (λ (x : ItemInMode). x.plain) (in_mode Backward xs ++ l) ≡ xs ++ map (λ (x : ItemInMode). x.plain) l
back_plains [] l = refl
back_plains (x ∷ xs) l = ap (λ (z : List Plain). x ∷ z) (back_plains xs l)

or_both : {X : Type 0} (a b c : Option X) → option_or a (option_or b c) ≡ option_or (option_or a b) c
or_both (Some x) b c = refl
or_both None b c = refl

module _ (p : Plain → Bool) where
  first_both : (xs ys : List Plain) → first_in p (xs ++ ys) ≡ option_or (first_in p xs) (first_in p ys)
  first_both [] ys = refl
  first_both (x ∷ xs) ys = ap (λ (o : Option Plain). option_or (plain_if p x) o) (first_both xs ys) ∙ or_both (plain_if p x) (first_in p xs) (first_in p ys)

  first_plain : (xs : List Plain) → find p xs ≡ first_in p xs
  first_plain [] = refl
  first_plain (x ∷ xs) = go (p x) (first_plain xs) where
    go : (b : Bool) → find p xs ≡ first_in p xs → cond b (Some x) (find p xs) ≡ option_or (if b then Some x else None) (first_in p xs)
    go true e = refl
    go false e = e

  first_items : (is : List Item) → first_in p (plains_of is) ≡ first_passing p is
  first_items [] = refl
  first_items (plain x ∷ is) = ap (λ (o : Option Plain). option_or (plain_if p x) o) (first_items is)
  first_items (backward xs ∷ is) =
      ap (λ (l : List Plain). first_in p l) (back_plains xs (in_order is)) ∙ first_both xs (plains_of is) ∙ ap (λ (o : Option Plain). option_or (first_in p xs) o) (first_items is)

  pub first_same : (is : List Item) → first_of p is ≡ first_passing p is
  first_same is = first_plain (plains_of is) ∙ first_items is

  -- ---- what is in force

  walk_both : (xs ys : List Plain) (e : InForce) → walk_in p (xs ++ ys) e ≡ (if (walk_in p xs e).1 then walk_in p xs e else walk_in p ys (walk_in p xs e).0)
  walk_both [] ys e = refl
  walk_both (x ∷ xs) ys e = go (p x) (walk_both xs ys (escapes_after e x)) where
    f : InForce
    f = escapes_after e x

    go : (b : Bool) → walk_in p (xs ++ ys) f ≡ (if (walk_in p xs f).1 then walk_in p xs f else walk_in p ys (walk_in p xs f).0)
        → (if b then (e, true) else walk_in p (xs ++ ys) f) ≡ (if (if b then (e, true) else walk_in p xs f).1 then (if b then (e, true) else walk_in p xs f) else walk_in p ys (if b then (e, true) else walk_in p xs f).0)
    go true h = refl
    go false h = h

  walk_items : (is : List Item) (e : InForce) → walk_in p (plains_of is) e ≡ walk_to p is e
  walk_items [] e = refl
  walk_items (plain x ∷ is) e = ap (λ (r : Walk). if p x then (e, true) else r) (walk_items is (escapes_after e x))
  walk_items (backward xs ∷ is) e =
      ap (λ (l : List Plain). walk_in p l e) (back_plains xs (in_order is)) ∙ walk_both xs (plains_of is) e
      ∙ ap (λ (r : Walk). if (walk_in p xs e).1 then walk_in p xs e else r) (walk_items is (walk_in p xs e).0)

  more : (n : ℕ) (x : Plain) (xs : List Plain) → take (1 + n) (x ∷ xs) ≡ x ∷ take n xs
  more n x xs = let is : 1 + n ≡ suc n = omega arith in ap (λ (k : ℕ). take k (x ∷ xs)) is

  walk_before : (xs : List Plain) (e : InForce) → fold escapes_after e (before_first p xs) ≡ (walk_in p xs e).0
  walk_before [] e = refl
  walk_before (x ∷ xs) e = go (p x) (walk_before xs (escapes_after e x)) where
    go : (b : Bool) → fold escapes_after (escapes_after e x) (before_first p xs) ≡ (walk_in p xs (escapes_after e x)).0
        → fold escapes_after e (take (cond (not b) (1 + prefix_len (λ y. not (p y)) xs) 0) (x ∷ xs)) ≡ (if b then (e, true) else walk_in p xs (escapes_after e x)).0
    go true h = refl
    go false h = ap (λ (l : List Plain). fold escapes_after e l) (more (prefix_len (λ y. not (p y)) xs) x xs) ∙ h

  pub state_same : (is : List Item) → state_before p is ≡ state_reached p is
  state_same is = ap start_under (walk_before (plains_of is) nothing_set ∙ ap (λ (r : Walk). r.0) (walk_items is nothing_set))

-- ---- the text that is read

abbrev text_at : Result Home EditFault → Result Text EditFault
text_at (Ok h) = Ok h.text
text_at (Err f) = Err f

text_by : (items : List Item) (o : Option Plain) (e : Part') → text_in o e ≡ text_at (home_in items o e)
text_by items (Some (routine m c os)) (body n) = refl
text_by items (Some (routine m c os)) (among n k) = ap (λ (o : Option Text). ok_or o edits.NoAmong) (text_same (c, os) k) ∙ go (nth_held k (amongs_of_body (c, os))) where
  go : (o : Option AmongContents) → ok_or (option_map (λ (h : AmongContents). texts.among h.0) o) edits.NoAmong ≡ text_at (home_of_held items n (c, os) k o)
  go None = refl
  go (Some h) = refl
text_by items (Some (grouping m a ts)) (terms n) = refl
text_by items None (body n) = refl
text_by items _ (body n) = refl
text_by items _ (among n k) = refl
text_by items _ (terms n) = refl

texts_same : (items : List Item) (e : Part') → text_for items e ≡ text_at (home items e)
texts_same items e = ap (λ (o : Option Plain). text_in o e) (first_same (changes e) items) ∙ text_by items (first_passing (changes e) items) e

home_there : (r : Result Home EditFault) (w : Text) → text_at r ≡ Ok w → (h : Home) × (r ≡ Ok h) × (h.text ≡ w)
home_there (Ok h) w e = (h, refl, cc)
home_there (Err f) w e = absurd cc

err_there : (r : Result Home EditFault) (f : EditFault) → text_at r ≡ Err f → r ≡ Err f
err_there (Ok h) f e = absurd cc
err_there (Err g) f e = cc

pub missing_out : (items : List Item) (e : Part') (f : EditFault) → home items e ≡ Err f → text_for items e ≡ Err f
missing_out items e f is = texts_same items e ∙ ap text_at is

pub missing_in : (items : List Item) (e : Part') (f : EditFault) → text_for items e ≡ Err f → home items e ≡ Err f
missing_in items e f is = err_there (home items e) f (sym (texts_same items e) ∙ is)

-- ---- tokens with those of another among

count_same : (ps : Ps) → count_words ps ≡ N ps
count_same [] = refl
count_same (p ∷ ps) = go (is_among p.0) (count_same ps) where
  go : (b : Bool) → count_words ps ≡ N ps → (if b then count_words ps + 1 else count_words ps) ≡ length (map (λ (x : AtDepth). x.1) (cond b (p ∷ filter (λ (x : AtDepth). is_among x.0) ps) (filter (λ (x : AtDepth). is_among x.0) ps)))
  go true e = omega (arith, e)
  go false e = e

one_word : (p : AtDepth) → is_among p.0 ≡ true → N (p ∷ []) ≡ 1
one_word p e = ap (λ (b : Bool). length (map (λ (x : AtDepth). x.1) (cond b (p ∷ []) []))) e

-- two cuts before a word `among` that have as many words before them
same_cut : (f g a b : Ps) (x y : AtDepth) → is_among x.0 ≡ true → is_among y.0 ≡ true → f ++ x ∷ a ≡ g ++ y ∷ b → N f ≡ N g → (f ≡ g) × (a ≡ b)
same_cut [] [] a b x y u v e n = (refl, cc)
same_cut [] (q ∷ g) a b x y u v e n =
    let same : x ≡ q = cc in
    let word = one_word q (subst (λ (z : AtDepth). is_among z.0 ≡ true) same u) in
    absurd (omega (arith, n, both_n (q ∷ []) g, word))
same_cut (p ∷ f) [] a b x y u v e n =
    let same : p ≡ y = cc in
    let word = one_word p (subst (λ (z : AtDepth). is_among z.0 ≡ true) (sym same) v) in
    absurd (omega (arith, n, both_n (p ∷ []) f, word))
same_cut (p ∷ f) (q ∷ g) a b x y u v e n =
    let same : p ≡ q = cc in
    let rest : f ++ x ∷ a ≡ g ++ y ∷ b = cc in
    let more = same_cut f g a b x y u v rest (omega (arith, n, both_n (p ∷ []) f, both_n (q ∷ []) g, ap (λ (z : AtDepth). N (z ∷ [])) same)) in
    (ap (λ (z : AtDepth). z ∷ f) same ∙ ap (λ (l : Ps). q ∷ l) more.0, more.1)

plain_one : (x y : Plain) → tokens (placed_plain x []) ≡ tokens (placed_plain y []) → x ≡ y
plain_one x y e = go (trees_are_one texts.script (plain x ∷ []) (plain y ∷ []) e) where
  go : plain x ∷ [] ≡ plain y ∷ [] → x ≡ y
  go h = cc

parts : (a : Starter × Groups) (d : ℕ) (prefix following ps : Ps) → ps ≡ prefix ++ places_in (texts.among d) a ++ following → ps ≡ prefix ++ (lex.word words.Among, d) ∷ inside a d following
parts a d prefix following ps e = e ∙ append_assoc prefix (places_in (texts.among d) a) following ∙ ap (λ (l : Ps). prefix ++ l) (sym (tree_before (among_ a.0 a.1) d [] following))

-- the definition x has the among a in place of the one with number k of the definition old, at depth d
abbrev IsAmongReplaced : ℕ → ℕ → Starter × Groups → Plain → Plain → Type 0
IsAmongReplaced k d a old x = IsChanged (among [] k) (texts.among d) a old x

-- one definition has the among in that place
replaced_one : (k d : ℕ) (a : Starter × Groups) (old x y : Plain) → IsAmongReplaced k d a old x → IsAmongReplaced k d a old y → x ≡ y
replaced_one k d a old x y g h =
    let one = parts g.1 d g.0 g.2 (placed_plain old []) g.4 in
    let two = parts h.1 d h.0 h.2 (placed_plain old []) h.4 in
    let count : N g.0 ≡ N h.0 = omega (arith, g.3, h.3) in
    let c = same_cut g.0 h.0 (inside g.1 d g.2) (inside h.1 d h.2) (lex.word words.Among, d) (lex.word words.Among, d) refl refl (sym one ∙ two) count in
    let following = after_same d g.1 h.1 g.2 h.2 c.1 in
    let new = places_in (texts.among d) a in
    plain_one x y (ap tokens (g.5 ∙ ap (λ (f : Ps). f ++ new ++ g.2) c.0 ∙ ap (λ (l : Ps). h.0 ++ new ++ l) following ∙ sym h.5))

-- the definition with the among put in its place has it there
replaced_there : (n : List ℕ) (b : RowView) (k : ℕ) (a : Starter × Groups) (h : AmongContents) → nth_held k (amongs_of_body b) ≡ Some h
    → IsAmongReplaced k h.0 a (routine n b.0 b.1) (routine n (put_in_body b k a).0 (put_in_body b k a).1)
replaced_there n b k a h e =
    let two = body_one b k a h e in
    let prefix : Ps = (lex.word words.Define, 0) ∷ (lex.name n, 0) ∷ (lex.word words.As, 0) ∷ two.prefix in (
      prefix,
      (h.1, h.2),
      two.following,
      two.number ∙ ap (λ (z : ℕ). z + 1) (count_same two.prefix),
      ap (λ (l : Ps). (lex.word words.Define, 0) ∷ (lex.name n, 0) ∷ (lex.word words.As, 0) ∷ l) (two.was ∙ ap (λ (l : Ps). two.prefix ++ l) (tree_before (among_ h.1 h.2) h.0 [] two.following)) ∙ sym (append_assoc prefix (places_in (texts.among h.0) (h.1, h.2)) two.following),
      ap (λ (l : Ps). (lex.word words.Define, 0) ∷ (lex.name n, 0) ∷ (lex.word words.As, 0) ∷ l) (two.is ∙ ap (λ (l : Ps). two.prefix ++ l) (tree_before (among_ a.0 a.1) h.0 [] two.following)) ∙ sym (append_assoc prefix (places_in (texts.among h.0) a) two.following),
    )

-- ---- how many words `among` items have with another definition

plain_n : (x : Plain) (r : Ps) → N (placed_plain x r) ≡ N (placed_plain x []) + N r
plain_n x r = ap N (plain_before x [] r) ∙ both_n (placed_plain x []) r

plains_n : (xs : List Plain) (r : Ps) → N (placed_plains xs r) ≡ N (placed_plains xs []) + N r
plains_n xs r = ap N (plains_before xs [] r) ∙ both_n (placed_plains xs []) r

module _ (p : Plain → Bool) (y old : Plain) where
  any_first : (xs : List Plain) → list_any p xs ≡ is_some (first_in p xs)
  any_first [] = refl
  any_first (x ∷ xs) = go (p x) (any_first xs) where
    go : (b : Bool) → list_any p xs ≡ is_some (first_in p xs) → (b || list_any p xs) ≡ is_some (option_or (if b then Some x else None) (first_in p xs))
    go true e = refl
    go false e = e

  plains_words : (xs : List Plain) (r : Ps) → first_in p xs ≡ Some old → N (placed_plains (plains_with p y xs) r) + N (placed_plain old []) ≡ N (placed_plains xs r) + N (placed_plain y [])
  plains_words [] r e = absurd cc
  plains_words (x ∷ xs) r e = go (p x) e (λ g. plains_words xs r g) where
    go : (b : Bool) → option_or (if b then Some x else None) (first_in p xs) ≡ Some old
        → (first_in p xs ≡ Some old → N (placed_plains (plains_with p y xs) r) + N (placed_plain old []) ≡ N (placed_plains xs r) + N (placed_plain y []))
        → N (placed_plains (if b then y ∷ xs else x ∷ plains_with p y xs) r) + N (placed_plain old []) ≡ N (placed_plain x (placed_plains xs r)) + N (placed_plain y [])
    go true h more =
        let same = ap (λ (z : Plain). N (placed_plain z [])) (some_plain x old h) in
        let one = plain_n y (placed_plains xs r) in
        let two = plain_n x (placed_plains xs r) in
        omega (arith, same, one, two)
    go false h more =
        let rest = more h in
        let one = plain_n x (placed_plains (plains_with p y xs) r) in
        let two = plain_n x (placed_plains xs r) in
        omega (arith, rest, one, two)

  words_of : (is : List Item) → first_passing p is ≡ Some old → N (places (items_with p y is)) + N (placed_plain old []) ≡ N (places is) + N (placed_plain y [])
  words_of [] e = absurd cc
  words_of (plain x ∷ is) e = go (p x) e (λ g. words_of is g) where
    go : (b : Bool) → option_or (if b then Some x else None) (first_passing p is) ≡ Some old
        → (first_passing p is ≡ Some old → N (places (items_with p y is)) + N (placed_plain old []) ≡ N (places is) + N (placed_plain y []))
        → N (places (if b then plain y ∷ is else plain x ∷ items_with p y is)) + N (placed_plain old []) ≡ N (placed_plain x (places is)) + N (placed_plain y [])
    go true h more =
        let same = ap (λ (z : Plain). N (placed_plain z [])) (some_plain x old h) in
        let one = plain_n y (places is) in
        let two = plain_n x (places is) in
        omega (arith, same, one, two)
    go false h more =
        let rest = more h in
        let one = plain_n x (places (items_with p y is)) in
        let two = plain_n x (places is) in
        omega (arith, rest, one, two)
  words_of (backward xs ∷ is) e =
      ap (λ (b : Bool). N (places (if b then backward (plains_with p y xs) ∷ is else backward xs ∷ items_with p y is)) + N (placed_plain old [])) (any_first xs) ∙ go (first_in p xs) refl e (λ g. words_of is g) where
        go : (o : Option Plain) → first_in p xs ≡ o → option_or o (first_passing p is) ≡ Some old
            → (first_passing p is ≡ Some old → N (places (items_with p y is)) + N (placed_plain old []) ≡ N (places is) + N (placed_plain y []))
            → N (places (if is_some o then backward (plains_with p y xs) ∷ is else backward xs ∷ items_with p y is)) + N (placed_plain old []) ≡ N (places (backward xs ∷ is)) + N (placed_plain y [])
        go (Some z) at h more = plains_words xs ((lex.sign signs.Close, 0) ∷ places is) (at ∙ h)
        go None at h more =
            let rest = more h in
            let one = plains_n xs ((lex.sign signs.Close, 0) ∷ places (items_with p y is)) in
            let two = plains_n xs ((lex.sign signs.Close, 0) ∷ places is) in
            omega (arith, rest, one, two)

-- ---- the place of an edit

record Agrees (items : List Item) (e : Part') (h : Home) : Type 0 where
  state : state_before (changes e) items ≡ h.state
  made : (x : TreeOf h.text) → IsMade items e h.text x (h.around x)
  one : (x : TreeOf h.text) (js : List Item) → IsMade items e h.text x js → js ≡ h.around x
  counted : (x : TreeOf h.text) → keeps_count e items (h.around x) ≡ h.keeps_count x

module _ (items : List Item) (n : List ℕ) where
  abbrev r : Plain → Bool
  r = is_routine_named n

  abbrev g : Plain → Bool
  g = is_grouping_named n

  body_agrees : (m : List ℕ) (c : Command) (os : Others) → first_passing r items ≡ Some (routine m c os) → Agrees items (body n) (home_of_body items n)
  body_agrees m c os at = record {
    state = state_same r items;
    made = λ x. (routine m c os, routine n x.0 x.1, first_same r items ∙ at, refl, refl);
    one = λ x js z. z.4 ∙ ap (λ (y : Plain). items_with r y items) z.3;
    counted = λ x. refl;
  }

  terms_agrees : (m : List ℕ) (a : Argument) (ts : List Term) → first_passing g items ≡ Some (grouping m a ts) → Agrees items (terms n) (home_of_terms items n)
  terms_agrees m a ts at = record {
    state = state_same g items;
    made = λ x. (grouping m a ts, grouping n x.0 x.1, first_same g items ∙ at, refl, refl);
    one = λ x js z. z.4 ∙ ap (λ (y : Plain). items_with g y items) z.3;
    counted = λ x. refl;
  }

  among_agrees : (k : ℕ) (b : RowView) (h : AmongContents) → first_passing r items ≡ Some (routine n b.0 b.1) → nth_held k (amongs_of_body b) ≡ Some h → Agrees items (among n k) (home_of_among items n b k h)
  among_agrees k b h at held = record {
    state = state_same r items;
    made = λ a. (routine n b.0 b.1, new a, first_same r items ∙ at, replaced_there n b k a h held, refl);
    one = λ a js z. z.4 ∙ ap (λ (y : Plain). items_with r y items) (same a z.0 z.1 z.2 z.3);
    counted = counted;
  } where
    new : Starter × Groups → Plain
    new a = routine n (put_in_body b k a).0 (put_in_body b k a).1

    same : (a : Starter × Groups) (x y : Plain) → first_of r items ≡ Some x → IsAmongReplaced k h.0 a x y → y ≡ new a
    same a x y there is =
        let old : x ≡ routine n b.0 b.1 = some_plain x (routine n b.0 b.1) (sym there ∙ first_same r items ∙ at) in
        replaced_one k h.0 a (routine n b.0 b.1) y (new a) (subst (λ (z : Plain). IsAmongReplaced k h.0 a z y) old is) (replaced_there n b k a h held)

    counted : (a : Starter × Groups) → nat_eq (N (places (items_with r (new a) items))) (N (places items)) ≡ nat_eq (count_in_among a) (count_in_among (h.1, h.2))
    counted a =
        let i = words_of r (new a) (routine n b.0 b.1) items at in
        let w = words_with b k h a held in
        same_test (N (places (items_with r (new a) items))) (N (places items)) (count_in_among a) (count_in_among (h.1, h.2)) (λ e. omega (arith, e, i, w)) (λ e. omega (arith, e, i, w))

agrees : (items : List Item) (e : Part') (h : Home) (o : Option Plain) → first_passing (changes e) items ≡ o → home_in items o e ≡ Ok h → Agrees items e h
agrees items (body n) h (Some (routine m c os)) at is =
    let same : home_of_body items n ≡ h = cc in
    subst (Agrees items (body n)) same (body_agrees items n m c os at)
agrees items (among n k) h (Some (routine m c os)) at is = held (nth_held k (amongs_of_body (c, os))) refl is where
  held : (o : Option AmongContents) → nth_held k (amongs_of_body (c, os)) ≡ o → home_of_held items n (c, os) k o ≡ Ok h → Agrees items (among n k) h
  held None there e = absurd cc
  held (Some g) there e =
      let same : home_of_among items n (c, os) k g ≡ h = cc in
      subst (Agrees items (among n k)) same (among_agrees items n k (c, os) g (routine_found n items m c os at) there)
agrees items (terms n) h (Some (grouping m a ts)) at is =
    let same : home_of_terms items n ≡ h = cc in
    subst (Agrees items (terms n)) same (terms_agrees items n m a ts at)
agrees items (body n) h _ at is = absurd cc
agrees items (among n k) h _ at is = absurd cc
agrees items (terms n) h _ at is = absurd cc

-- ---- edits and their faults

module _ (s : Source) (e : Part') (text : List ℕ) where
  agree : (h : Home) → home s.items e ≡ Ok h → Agrees s.items e h
  agree h there = agrees s.items e h (first_passing (changes e) s.items) refl there

  text_there : (h : Home) → home s.items e ≡ Ok h → text_for s.items e ≡ Ok h.text
  text_there h there = texts_same s.items e ∙ ap text_at there

  home_of : (w : Text) → text_for s.items e ≡ Ok w → (h : Home) × (home s.items e ≡ Ok h) × (h.text ≡ w)
  home_of w there = home_there (home s.items e) w (sym (texts_same s.items e) ∙ there)

  substituted_out : (h : Home) (m : Bool) (t : Source) → home s.items e ≡ Ok h → IsSubstitutedAt s h text m t → IsSubstituted s e h.text text m t
  substituted_out h m t there z =
      let g = agree h there in
      record {
        placed = z.placed;
        tree = z.tree;
        tokens = subst (λ (d : Directives). HasTokens d text z.placed) (sym g.state) z.tokens;
        offered = z.offered;
        read = z.read;
        items_are = subst (λ (js : List Item). IsMade s.items e h.text z.tree js) (sym z.items_are) (g.made z.tree);
        external_is = z.external_is;
        well_declared = z.well_declared;
        counted = ap (λ (js : List Item). keeps_count e s.items js) z.items_are ∙ g.counted z.tree ∙ z.counted;
      }

  substituted_in : (h : Home) (m : Bool) (t : Source) → home s.items e ≡ Ok h → IsSubstituted s e h.text text m t → IsSubstitutedAt s h text m t
  substituted_in h m t there z =
      let g = agree h there in
      let items = g.one z.tree t.items z.items_are in
      record {
        placed = z.placed;
        tree = z.tree;
        tokens = subst (λ (d : Directives). HasTokens d text z.placed) g.state z.tokens;
        offered = z.offered;
        read = z.read;
        items_are = items;
        external_is = z.external_is;
        well_declared = z.well_declared;
        counted = sym (ap (λ (js : List Item). keeps_count e s.items js) items ∙ g.counted z.tree) ∙ z.counted;
      }

  pub edited_out : (t : Source) → IsEditedAt s e text t → IsEdited s e text t
  edited_out t z = (z.0.text, text_there z.0 z.1, substituted_out z.0 true t z.1 z.2)

  pub edited_in : (t : Source) → IsEdited s e text t → IsEditedAt s e text t
  edited_in t z =
      let h = home_of z.0 z.1 in
      (h.0, h.1, substituted_in h.0 true t h.1 (subst (λ (w : Text). IsSubstituted s e w text true t) (sym h.2) z.2))

  module _ (h : Home) (there : home s.items e ≡ Ok h) (f : ScriptFault) where
    fault_there : (around : TreeOf h.text → List Item) → ((x : TreeOf h.text) → IsMade s.items e h.text x (around x)) → IsFaultIn h.text (state_before (changes e) s.items) around s.external text f → IsFaultAt s h text f
    fault_there around made z =
        let g = agree h there in
        let same : around ≡ h.around = (λ i x. g.one x (around x) (made x) i) in
        subst (λ (d : Directives). IsFaultIn h.text d h.around s.external text f) g.state (subst (λ (a : TreeOf h.text → List Item). IsFaultIn h.text (state_before (changes e) s.items) a s.external text f) same z)

    fault_moved : (w : Text) → h.text ≡ w → (around : TreeOf w → List Item) → ((x : TreeOf w) → IsMade s.items e w x (around x)) → IsFaultIn w (state_before (changes e) s.items) around s.external text f → IsFaultAt s h text f
    fault_moved w is = subst (λ (w : Text). (around : TreeOf w → List Item) → ((x : TreeOf w) → IsMade s.items e w x (around x)) → IsFaultIn w (state_before (changes e) s.items) around s.external text f → IsFaultAt s h text f) is fault_there

  pub fault_out : (f : EditFault) → IsEditFaultAt s e text f → IsEditFault s e text f
  fault_out edits.AmongCount z = (z.0.text, text_there z.0 z.1, z.2, substituted_out z.0 false z.2 z.1 z.3)
  fault_out (edits.Script f) z =
      let g = agree z.0 z.1 in
      (z.0.text, text_there z.0 z.1, z.0.around, g.made, subst (λ (d : Directives). IsFaultIn z.0.text d z.0.around s.external text f) (sym g.state) z.2)
  fault_out edits.OutOfMemory z = absurd z
  fault_out edits.NoRoutine z = missing_out s.items e edits.NoRoutine z
  fault_out edits.NoGrouping z = missing_out s.items e edits.NoGrouping z
  fault_out edits.NoAmong z = missing_out s.items e edits.NoAmong z

  pub fault_in : (f : EditFault) → IsEditFault s e text f → IsEditFaultAt s e text f
  fault_in edits.AmongCount z =
      let h = home_of z.0 z.1 in
      (h.0, h.1, z.2, substituted_in h.0 false z.2 h.1 (subst (λ (w : Text). IsSubstituted s e w text false z.2) (sym h.2) z.3))
  fault_in (edits.Script f) z =
      let h = home_of z.0 z.1 in
      (h.0, h.1, fault_moved h.0 h.1 f z.0 h.2 z.2 z.3 z.4)
  fault_in edits.OutOfMemory z = absurd z
  fault_in edits.NoRoutine z = missing_in s.items e edits.NoRoutine z
  fault_in edits.NoGrouping z = missing_in s.items e edits.NoGrouping z
  fault_in edits.NoAmong z = missing_in s.items e edits.NoAmong z
