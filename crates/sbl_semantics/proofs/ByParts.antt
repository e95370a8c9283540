-- Two scripts differ by their tokens as they do part by part.
use Rattle.std.proofs.Common.{◌≡◌, ◌∙◌, ◌&&◌, ◌++◌, ◌+◌, ℕ, suc, Bool, true, false, nat_eq, if◌then◌else◌, List, [], ◌∷◌, length, map, zip, Option, Some, None, refl, sym, ap, subst, arith}
use Rattle.std.specs.Bool.{then_some}
use Rattle.std.specs.List.{list_any}
use Rattle.std.specs.Cmp.Lexicographic.{pointwise}
use Rattle.std.specs.Option.{option_map_or, option_or}
use Rattle.std.specs.Str.{bytes_eq}
use Rattle.std.proofs.lemmas.Bool.{eqb-true, eq-eqb, ne_eqb, true≢false}
use denote.Enum.Bare.{same_true, sameb, true_same}
use Rattle.sbl_token.specs.Lexemes.{Lexeme, same_lexeme}
use Rattle.sbl_token.specs.Lexemes as lexemes
use Rattle.sbl_token.specs.contracts.signs.Sign as written
use Rattle.sbl_token.specs.contracts.words.Word as reserved
use Rattle.sbl_token.specs.declared.signs.Sign.TheVariants as signs
use Rattle.sbl_token.specs.declared.words.Word.TheVariants as words
use Rattle.sbl_ast.specs.contracts.tree.Simple as simple
use Rattle.sbl_ast.specs.contracts.tree.Prefix as prefix
use Rattle.sbl_ast.specs.contracts.tree.Count as times
use Rattle.sbl_ast.specs.contracts.tree.Move as move
use Rattle.sbl_ast.specs.contracts.tree.Naming as naming
use Rattle.sbl_ast.specs.contracts.tree.Splice as splicing
use Rattle.sbl_ast.specs.contracts.tree.Assignment as assignment
use Rattle.sbl_ast.specs.contracts.tree.Comparison as comparison
use Rattle.sbl_ast.specs.contracts.tree.Joiner as joiner
use Rattle.sbl_ast.specs.contracts.tree.DeclarationKind as kind
use Rattle.sbl_ast.specs.contracts.tree.Base as base
use Rattle.sbl_ast.specs.declared.tree.Move.TheVariants as moves
use Rattle.sbl_ast.specs.Counts.{count_in_among}
use Rattle.sbl_ast.specs.Folds.{foldr}
use Rattle.sbl_ast.specs.Places.{AtDepth, placed_command, placed_entries, placed_expression, placed_groups, placed_plain, tokens}
use Rattle.sbl_ast.specs.Source.{Source}
use Rattle.sbl_ast.specs.Texts.{Text, TreeOf, tokens_of}
use Rattle.sbl_ast.specs.Texts as texts
use Rattle.sbl_ast.specs.Tree.{Argument, Term, Expression, Entry, entry, Command, Rows, Others, Starter, Groups, bracket, simple_, literal_, name_, non_, prefixed, counted, move_, named, splice_, setlimit_, assign_, compare_, compare_values_, among_, no_rows, row, no_others, joined, no_starter, starter, bare, group, Plain, declaration, escapes, macro, routine, grouping, Item, plain, backward}
use Rattle.std.specs.Option.{option_eq}
use Rattle.std.specs.Bool.{beq}
use Rattle.sbl_semantics.specs.Differs as new
use Rattle.sbl_semantics.specs.DiffersByParts as old
use Rattle.sbl_semantics.specs.Regions.{number_after, number_after_rows, number_after_others, number_after_starter}
use Rattle.sbl_semantics.specs.Same.{same_argument, same_entry, same_expression, same_quoted, same_term}
use Rattle.sbl_ast.specs.NamedParts.{Part', Routine, Among, Grouping}
use Rattle.sbl_semantics.proofs.DiffersSelf.{self, plain_self}
use Rattle.sbl_ast.specs.declared.mode.Mode.TheVariants.{Forward}
use Rattle.sbl_semantics.specs.Landmarks.{amongs_in, landmarks, landmarks_in_others, landmarks_in_rows}
use Rattle.sbl_semantics.proofs.LandmarkFacts.{number_is, number_others, number_rows, number_starter}
use Rattle.sbl_semantics.proofs.NumberAfter.{after_is}
use Rattle.sbl_semantics.proofs.SameParts.{all_are, both, never, pair_is, name_is, simple_is, move_is, naming_is, splicing_is, assignment_is, comparison_is, kind_is, flag_is, quoted_is, argument_is, expression_is, entries_are, names_are, base_is, terms_are}
use Rattle.sbl_semantics.proofs.SameSelf.{also, name_self, expression_self, entries_self}

-- ---- tokens

abbrev alike : List AtDepth → List AtDepth → Bool
alike ps qs = pointwise same_lexeme (tokens ps) (tokens qs)

lexeme_self : (x : Lexeme) → same_lexeme x x ≡ true
lexeme_self (lexemes.word v) = true_same reserved.the_type v v refl
lexeme_self (lexemes.sign r) = true_same written.the_type r r refl
lexeme_self (lexemes.name n) = name_self n
lexeme_self (lexemes.number n) = eq-eqb n n refl
lexeme_self (lexemes.literal p v) = also _ _ (name_self p) (name_self v)
lexeme_self (lexemes.inserts a b) = also _ _ (eq-eqb a a refl) (eq-eqb b b refl)
lexeme_self (lexemes.macro_name n) = name_self n

lexeme_is : (x y : Lexeme) → same_lexeme x y ≡ true → x ≡ y
lexeme_is (lexemes.word v) (lexemes.word w) e = ap lexemes.word (same_true reserved.the_type tt v w e)
lexeme_is (lexemes.sign r) (lexemes.sign s) e = ap lexemes.sign (same_true written.the_type tt r s e)
lexeme_is (lexemes.name m) (lexemes.name n) e = ap lexemes.name (name_is m n e)
lexeme_is (lexemes.number m) (lexemes.number n) e = ap lexemes.number (eqb-true m n e)
lexeme_is (lexemes.literal p v) (lexemes.literal q w) e = pair_is lexemes.literal (bytes_eq p q) (bytes_eq v w) e (name_is p q) (name_is v w)
lexeme_is (lexemes.inserts a b) (lexemes.inserts c d) e = pair_is lexemes.inserts (nat_eq a c) (nat_eq b d) e (eqb-true a c) (eqb-true b d)
lexeme_is (lexemes.macro_name m) (lexemes.macro_name n) e = ap lexemes.macro_name (name_is m n e)
lexeme_is _ _ e = never e

lexemes_self : (xs : List Lexeme) → pointwise same_lexeme xs xs ≡ true
lexemes_self [] = refl
lexemes_self (x ∷ xs) = also _ _ (lexeme_self x) (lexemes_self xs)

lexemes_are : (xs ys : List Lexeme) → pointwise same_lexeme xs ys ≡ true → xs ≡ ys
lexemes_are = all_are Lexeme same_lexeme lexeme_is

alike_self : (ps : List AtDepth) → alike ps ps ≡ true
alike_self ps = lexemes_self (tokens ps)

alike_are : (ps qs : List AtDepth) → alike ps qs ≡ true → tokens ps ≡ tokens qs
alike_are ps qs e = lexemes_are (tokens ps) (tokens qs) e

-- ---- flags and parts one after another

is_false : (b : Bool) → (b ≡ true → ⊥) → b ≡ false
is_false true no_more = absurd (no_more refl)
is_false false no_more = refl

agree : (a b : Bool) → (a ≡ true → b ≡ true) → (b ≡ true → a ≡ true) → a ≡ b
agree true b f g = sym (f refl)
agree false true f g = g refl
agree false false f g = refl

nothing_last : {X : Type 0} (ks : List X) → ks ++ [] ≡ ks
nothing_last {X} [] = refl
nothing_last {X} (k ∷ ks) = ap (λ (ls : List X). k ∷ ls) (nothing_last ks)

join_none : {X : Type 0} (x y : Option (List X)) → new.join x (new.join y (Some [])) ≡ new.join x y
join_none {X} (Some ks) (Some ls) = ap (λ (zs : List X). Some (ks ++ zs)) (nothing_last ls)
join_none {X} (Some ks) None = refl
join_none {X} None y = refl

joins : {X : Type 0} (w x y z : Option (List X)) → w ≡ y → x ≡ z → new.join w x ≡ old.join y z
joins w x (Some ks) (Some ls) p q = (λ i. new.join (p i) (q i))
joins w x (Some ks) None p q = (λ i. new.join (p i) (q i))
joins w x None z p q = (λ i. new.join (p i) (q i))

nothing_first : {X : Type 0} (x : Option (List X)) → new.join (Some []) x ≡ x
nothing_first (Some ks) = refl
nothing_first None = refl

join_if : {X : Type 0} (b : Bool) (x y : Option (List X)) → (if b then new.join x y else None) ≡ new.join x (if b then y else None)
join_if true x y = refl
join_if false (Some ks) y = refl
join_if false None y = refl

one_longer : (m n : ℕ) → nat_eq (suc m) (suc n) ≡ nat_eq m n
one_longer m n =
    agree (nat_eq (suc m) (suc n)) (nat_eq m n)
    (λ h. let e = eqb-true (suc m) (suc n) h in eq-eqb m n (omega (arith, e)))
    (λ h. let e = eqb-true m n h in eq-eqb (suc m) (suc n) (omega (arith, e)))

zero_longer : (n : ℕ) → 0 ≡ suc n → ⊥
zero_longer n e = omega (arith, e)

-- a flag before a part
join_then_some : {X : Type 0} (b : Bool) (x y : Option (List X)) → x ≡ y → new.join (then_some b []) x ≡ (if b then y else None)
join_then_some true x y e = ap (new.join (Some [])) e ∙ nothing_first y
join_then_some false x y e = refl

two_flags : {X : Type 0} (a b c : Bool) (x y : Option (List X)) → b ≡ c → x ≡ y → (if a then new.join (then_some b []) x else None) ≡ (if a && c then y else None)
two_flags true b c x y p q = join_then_some b x y q ∙ ap (λ (f : Bool). if f then y else None) p
two_flags false b c x y p q = refl

some_if : {X : Type 0} (a b : Bool) (x : X) → a ≡ b → then_some a x ≡ (if b then Some x else None)
some_if true b x e = ap (λ (f : Bool). if f then Some x else None) e
some_if false b x e = ap (λ (f : Bool). if f then Some x else None) e

-- ---- a tree has no other tree's tokens

module _ (one_tree : (w : Text) (t u : TreeOf w) → tokens_of w t ≡ tokens_of w u → t ≡ u) where
  command_is : (c d : Command) → alike (placed_command c 1 []) (placed_command d 1 []) ≡ true → c ≡ d
  command_is c d e = ap (λ (b : Command × Others). b.0) (one_tree texts.body (c, no_others) (d, no_others) (alike_are _ _ e))

  abbrev operand_of : Expression → Command → Expression
  operand_of d (move_ m e) = e
  operand_of d _ = d

  expressions : (e f : Expression) → alike (placed_expression e 1 []) (placed_expression f 1 []) ≡ same_expression e f
  expressions e f =
      agree (alike (placed_expression e 1 []) (placed_expression f 1 [])) (same_expression e f)
      (λ h. subst (λ (x : Expression). same_expression e x ≡ true) (ap (operand_of e) (command_is (move_ moves.Hop e) (move_ moves.Hop f) h)) (expression_self e))
      (λ h. subst (λ (x : Expression). alike (placed_expression e 1 []) (placed_expression x 1 []) ≡ true) (expression_is e f h) (alike_self (placed_expression e 1 [])))

  closing : (es : List Entry) (rest : List AtDepth) → tokens (placed_entries es 1 rest) ≡ tokens (placed_entries es 1 []) ++ tokens rest
  closing [] rest = refl
  closing (entry q None ∷ es) rest = ap (λ (r : List Lexeme). lexemes.literal q.spelling q.value ∷ r) (closing es rest)
  closing (entry q (Some n) ∷ es) rest = ap (λ (r : List Lexeme). lexemes.literal q.spelling q.value ∷ lexemes.name n ∷ r) (closing es rest)

  abbrev in_among : List Lexeme → List Lexeme
  in_among r = lexemes.word words.Among ∷ lexemes.sign signs.Open ∷ r

  bare_text : (es : List Entry) → tokens_of (texts.among 1) (no_starter, bare es) ≡ in_among (tokens (placed_entries es 1 []) ++ lexemes.sign signs.Close ∷ [])
  bare_text es = ap in_among (closing es _)

  abbrev bare_in : List Entry → Groups → List Entry
  bare_in ds (bare es) = es
  bare_in ds _ = ds

  entries_same : (es fs : List Entry) → alike (placed_entries es 1 []) (placed_entries fs 1 []) ≡ pointwise same_entry es fs
  entries_same es fs =
      agree (alike (placed_entries es 1 []) (placed_entries fs 1 [])) (pointwise same_entry es fs)
      (λ h. subst (λ (xs : List Entry). pointwise same_entry es xs ≡ true) (is h) (entries_self es))
      (λ h. subst (λ (xs : List Entry). alike (placed_entries es 1 []) (placed_entries xs 1 []) ≡ true) (entries_are es fs h) (alike_self (placed_entries es 1 []))) where
        is : alike (placed_entries es 1 []) (placed_entries fs 1 []) ≡ true → es ≡ fs
        is h =
            let tokens_ = ap (λ (r : List Lexeme). in_among (r ++ lexemes.sign signs.Close ∷ [])) (alike_are (placed_entries es 1 []) (placed_entries fs 1 []) h) in
            ap (λ (a : Starter × Groups). bare_in es a.1) (one_tree (texts.among 1) (no_starter, bare es) (no_starter, bare fs) (bare_text es ∙ tokens_ ∙ sym (bare_text fs)))

  -- ---- what has no token, or no open sign, is no row and no group

  none_row : (c : Command) (rest : List AtDepth) → alike [] (placed_command c 1 rest) ≡ false
  none_row (non_ true n) rest = refl
  none_row (non_ false n) rest = refl
  none_row _ rest = refl

  row_none : (c : Command) (rest : List AtDepth) → alike (placed_command c 1 rest) [] ≡ false
  row_none (non_ true n) rest = refl
  row_none (non_ false n) rest = refl
  row_none _ rest = refl

  abbrev opens : List Lexeme → Bool
  opens xs = list_any (same_lexeme (lexemes.sign signs.Open)) xs

  entries_open : (es : List Entry) (rest : List AtDepth) → opens (tokens (placed_entries es 1 rest)) ≡ opens (tokens rest)
  entries_open [] rest = refl
  entries_open (entry q None ∷ es) rest = entries_open es rest
  entries_open (entry q (Some n) ∷ es) rest = entries_open es rest

  bare_group : (es fs : List Entry) (f : Entry) (ss : Rows) (hs : Groups) → tokens (placed_groups (bare es) 1 []) ≡ tokens (placed_groups (group f fs ss hs) 1 []) → ⊥
  bare_group es fs f ss hs e = true≢false (sym (entries_open (f ∷ fs) _) ∙ sym (ap opens e) ∙ entries_open es [])

  -- ---- commands

  leaf : (k : ℕ) (c d : Command) (parts : Bool) → (parts ≡ true → c ≡ d) → old.differ k c d ≡ then_some parts []
      → new.differ_tokens (placed_command c 1 []) (placed_command d 1 []) ≡ old.differ k c d
  leaf k c d parts is e = go (alike (placed_command c 1 []) (placed_command d 1 [])) refl where
    back : parts ≡ true → alike (placed_command c 1 []) (placed_command d 1 []) ≡ true
    back p = subst (λ (u : Command). alike (placed_command c 1 []) (placed_command u 1 []) ≡ true) (is p) (alike_self (placed_command c 1 []))

    go : (b : Bool) → alike (placed_command c 1 []) (placed_command d 1 []) ≡ b → then_some b [] ≡ old.differ k c d
    go true h = sym (subst (λ (u : Command). old.differ k c u ≡ Some []) (command_is c d h) (self c k))
    go false h = sym (e ∙ ap (λ (b : Bool). then_some b []) (is_false parts (λ p. true≢false (sym (back p) ∙ h))))

  many : (s : Starter) (gs : Groups) → amongs_in (landmarks Forward (among_ s gs)) ≡ count_in_among (s, gs)
  many s gs = let x = after_is (among_ s gs) 0 in let y = number_is (among_ s gs) Forward 0 in omega (arith, x, y)

  as_many : (s t : Starter) (gs hs : Groups)
      → nat_eq (amongs_in (landmarks Forward (among_ s gs))) (amongs_in (landmarks Forward (among_ t hs))) ≡ nat_eq (count_in_among (s, gs)) (count_in_among (t, hs))
  as_many s t gs hs = (λ i. nat_eq (many s gs i) (many t hs i))

  mutual
    commands : (k : ℕ) (c d : Command) → new.differ k c d ≡ old.differ k c d
    commands k (bracket rs) (bracket ss) = rows k rs ss
    commands k (prefixed x c) (prefixed y d) = ap (λ (r : Option (List ℕ)). if sameb prefix.the_type x y then r else None) (commands k c d)
    commands k (counted x e c) (counted y f d) = two_flags (sameb times.the_type x y) _ _ _ _ (expressions e f) (commands k c d)
    commands k (setlimit_ b c) (setlimit_ d e) =
        joins _ _ _ _ (commands k b d) (ap (λ (j : ℕ). new.differ j c e) (sym (number_is b Forward k)) ∙ commands (number_after b k) c e)
    commands k (among_ s gs) (among_ t hs) =
        let later = ap (λ (j : ℕ). new.differ_groups j gs hs) (sym (number_starter s Forward (suc k))) ∙ groups (number_after_starter s (suc k)) gs hs in
        let inside = joins _ _ _ _ (starters (suc k) s t) later in
        let whole = some_if _ _ (suc k ∷ []) (as_many s t gs hs) in
        (λ i. option_or (inside i) (whole i))
    commands k (simple_ x) (simple_ y) = leaf k (simple_ x) (simple_ y) (sameb simple.the_type x y) (λ h. ap simple_ (simple_is x y h)) refl
    commands k (literal_ x) (literal_ y) = leaf k (literal_ x) (literal_ y) (same_quoted x y) (λ h. ap literal_ (quoted_is x y h)) refl
    commands k (name_ x) (name_ y) = leaf k (name_ x) (name_ y) (bytes_eq x y) (λ h. ap name_ (name_is x y h)) refl
    commands k (non_ a m) (non_ b n) =
        leaf k (non_ a m) (non_ b n) (beq a b && bytes_eq m n)
        (λ h. let g = both (beq a b) (bytes_eq m n) h in let x = flag_is a b g.0 in let y = name_is m n g.1 in (λ i. non_ (x i) (y i))) refl
    commands k (move_ x e) (move_ y f) =
        leaf k (move_ x e) (move_ y f) (sameb move.the_type x y && same_expression e f)
        (λ h. let g = both (sameb move.the_type x y) (same_expression e f) h in let a = move_is x y g.0 in let b = expression_is e f g.1 in (λ i. move_ (a i) (b i))) refl
    commands k (named x m) (named y n) =
        leaf k (named x m) (named y n) (sameb naming.the_type x y && bytes_eq m n)
        (λ h. let g = both (sameb naming.the_type x y) (bytes_eq m n) h in let a = naming_is x y g.0 in let b = name_is m n g.1 in (λ i. named (a i) (b i))) refl
    commands k (splice_ x a) (splice_ y b) =
        leaf k (splice_ x a) (splice_ y b) (sameb splicing.the_type x y && same_argument a b)
        (λ h. let g = both (sameb splicing.the_type x y) (same_argument a b) h in let p = splicing_is x y g.0 in let q = argument_is a b g.1 in (λ i. splice_ (p i) (q i))) refl
    commands k (assign_ m o e) (assign_ n u f) =
        leaf k (assign_ m o e) (assign_ n u f) (bytes_eq m n && (sameb assignment.the_type o u && same_expression e f))
        (λ h. let g = both (bytes_eq m n) (sameb assignment.the_type o u && same_expression e f) h in let j = both (sameb assignment.the_type o u) (same_expression e f) g.1 in
        let a = name_is m n g.0 in let b = assignment_is o u j.0 in let c = expression_is e f j.1 in (λ i. assign_ (a i) (b i) (c i))) refl
    commands k (compare_ m o e) (compare_ n u f) =
        leaf k (compare_ m o e) (compare_ n u f) (bytes_eq m n && (sameb comparison.the_type o u && same_expression e f))
        (λ h. let g = both (bytes_eq m n) (sameb comparison.the_type o u && same_expression e f) h in let j = both (sameb comparison.the_type o u) (same_expression e f) g.1 in
        let a = name_is m n g.0 in let b = comparison_is o u j.0 in let c = expression_is e f j.1 in (λ i. compare_ (a i) (b i) (c i))) refl
    commands k (compare_values_ m o e) (compare_values_ n u f) =
        leaf k (compare_values_ m o e) (compare_values_ n u f) (same_expression m n && (sameb comparison.the_type o u && same_expression e f))
        (λ h. let g = both (same_expression m n) (sameb comparison.the_type o u && same_expression e f) h in let j = both (sameb comparison.the_type o u) (same_expression e f) g.1 in
        let a = expression_is m n g.0 in let b = comparison_is o u j.0 in let c = expression_is e f j.1 in (λ i. compare_values_ (a i) (b i) (c i))) refl
    commands k c d = leaf k c d false never refl

    rows : (k : ℕ) (rs ss : Rows) → new.differ_rows k rs ss ≡ old.differ_rows k rs ss
    rows k no_rows no_rows = refl
    rows k (row c os rs) (row d ps ss) =
        let j = number_after c k in
        let l = number_after_others os j in
        let in_others = ap (λ (j : ℕ). new.differ_others j os ps) (sym (number_is c Forward k)) ∙ others j os ps in
        let from : k + amongs_in (landmarks Forward c) + amongs_in (landmarks_in_others Forward os) ≡ l =
        let x = number_is c Forward k in let y = number_others os Forward j in omega (arith, x, y) in
        let in_rows = ap (λ (j : ℕ). new.differ_rows j rs ss) from ∙ rows l rs ss in
        joins _ _ _ _ (commands k c d) (joins _ _ _ _ in_others in_rows)
    rows k no_rows (row d ps ss) = ap (λ (b : Bool). then_some b []) (none_row d _)
    rows k (row c os rs) no_rows = ap (λ (b : Bool). then_some b []) (row_none c _)

    others : (k : ℕ) (os ps : Others) → new.differ_others k os ps ≡ old.differ_others k os ps
    others k no_others no_others = refl
    others k (joined x c os) (joined y d ps) =
        let in_others = ap (λ (j : ℕ). new.differ_others j os ps) (sym (number_is c Forward k)) ∙ others (number_after c k) os ps in
        let both_parts = joins _ _ _ _ (commands k c d) in_others in
        ap (λ (r : Option (List ℕ)). if sameb joiner.the_type x y then r else None) both_parts
    others k no_others (joined y d ps) = refl
    others k (joined x c os) no_others = refl

    starters : (k : ℕ) (s t : Starter) → new.differ_starter k s t ≡ old.differ_starter k s t
    starters k no_starter no_starter = refl
    starters k (starter rs) (starter ss) = rows k rs ss
    starters k no_starter (starter ss) = refl
    starters k (starter rs) no_starter = refl

    groups : (k : ℕ) (gs hs : Groups) → new.differ_groups k gs hs ≡ old.differ_groups k gs hs
    groups k (bare es) (bare fs) = ap (λ (b : Bool). then_some b []) (entries_same es fs)
    groups k (group e es rs gs) (group f fs ss hs) =
        let in_groups = ap (λ (j : ℕ). new.differ_groups j gs hs) (sym (number_rows rs Forward k)) ∙ groups (number_after_rows rs k) gs hs in
        let rest = joins _ _ _ _ (rows k rs ss) in_groups in
        ap (λ (b : Bool). new.join (then_some b []) (new.join (new.differ_rows k rs ss) (new.differ_groups (k + amongs_in (landmarks_in_rows Forward rs)) gs hs))) (entries_same (e ∷ es) (f ∷ fs))
        ∙ join_then_some (pointwise same_entry (e ∷ es) (f ∷ fs)) _ _ rest
    groups k (bare es) (group f fs ss hs) =
        ap (λ (b : Bool). then_some b []) (is_false (alike (placed_groups (bare es) 1 []) (placed_groups (group f fs ss hs) 1 [])) (λ h. bare_group es fs f ss hs (alike_are _ _ h)))
    groups k (group e es rs gs) (bare fs) =
        ap (λ (b : Bool). then_some b []) (is_false (alike (placed_groups (group e es rs gs) 1 []) (placed_groups (bare fs) 1 [])) (λ h. bare_group fs es e rs gs (sym (alike_are _ _ h))))

  -- ---- items

  abbrev first_plain : Plain → List Item → Plain
  first_plain d (plain x ∷ xs) = x
  first_plain d _ = d

  plain_is : (x y : Plain) → alike (placed_plain x []) (placed_plain y []) ≡ true → x ≡ y
  plain_is x y e = ap (first_plain x) (one_tree texts.script (plain x ∷ []) (plain y ∷ []) (alike_are (placed_plain x []) (placed_plain y []) e))

  alike_plain : (x y : Plain) → x ≡ y → alike (placed_plain x []) (placed_plain y []) ≡ true
  alike_plain x y e = subst (λ (z : Plain). alike (placed_plain x []) (placed_plain z []) ≡ true) e (alike_self (placed_plain x []))

  plain_leaf : (x y : Plain) (parts : Bool) → (parts ≡ true → x ≡ y) → old.differ_plain x y ≡ then_some parts []
      → new.differ_tokens (placed_plain x []) (placed_plain y []) ≡ old.differ_plain x y
  plain_leaf x y parts is e = go (alike (placed_plain x []) (placed_plain y [])) refl where
    go : (b : Bool) → alike (placed_plain x []) (placed_plain y []) ≡ b → then_some b [] ≡ old.differ_plain x y
    go true h = sym (subst (λ (z : Plain). old.differ_plain x z ≡ Some []) (plain_is x y h) (plain_self x))
    go false h = sym (e ∙ ap (λ (b : Bool). then_some b []) (is_false parts (λ p. true≢false (sym (alike_plain x y (is p)) ∙ h))))

  bodies : (c d : Command) (os ps : Others) → new.differ_rows 0 (row c os no_rows) (row d ps no_rows) ≡ old.join (old.differ 0 c d) (old.differ_others (number_after c 0) os ps)
  bodies c d os ps =
      let in_others = ap (λ (j : ℕ). new.differ_others j os ps) (sym (number_is c Forward 0)) ∙ others (number_after c 0) os ps in
      join_none (new.differ 0 c d) (new.differ_others (0 + amongs_in (landmarks Forward c)) os ps)
      ∙ joins _ _ _ _ (commands 0 c d) in_others

  groupings : (m n : List ℕ) (a b : Argument) (xs ys : List Term) → new.differ_plain (grouping m a xs) (grouping n b ys) ≡ old.differ_plain (grouping m a xs) (grouping n b ys)
  groupings m n a b xs ys = go (alike (placed_plain (grouping m a xs) []) (placed_plain (grouping n b ys) [])) refl where
    equal : bytes_eq m n ≡ true → (same_argument a b && pointwise same_term xs ys) ≡ true → grouping m a xs ≡ grouping n b ys
    equal p q =
        let g = both (same_argument a b) (pointwise same_term xs ys) q in
        let e = name_is m n p in
        let f = argument_is a b g.0 in
        let h = terms_are xs ys g.1 in
        (λ i. grouping (e i) (f i) (h i))

    terms_differ : alike (placed_plain (grouping m a xs) []) (placed_plain (grouping n b ys) []) ≡ false → (t : Bool) → bytes_eq m n ≡ t
        → then_some t (Grouping m ∷ []) ≡ (if t then Some (if same_argument a b && pointwise same_term xs ys then [] else Grouping m ∷ []) else None)
    terms_differ h true p =
        ap (λ (b : Bool). Some (if b then [] else Grouping m ∷ [])) (sym (is_false (same_argument a b && pointwise same_term xs ys) (λ q. true≢false (sym (alike_plain (grouping m a xs) (grouping n b ys) (equal p q)) ∙ h))))
    terms_differ h false p = refl

    go : (s : Bool) → alike (placed_plain (grouping m a xs) []) (placed_plain (grouping n b ys) []) ≡ s → option_or (then_some s []) (then_some (bytes_eq m n) (Grouping m ∷ [])) ≡ old.differ_plain (grouping m a xs) (grouping n b ys)
    go true h = sym (subst (λ (z : Plain). old.differ_plain (grouping m a xs) z ≡ Some []) (plain_is (grouping m a xs) (grouping n b ys) h) (plain_self (grouping m a xs)))
    go false h = terms_differ h (bytes_eq m n) refl

  plains : (x y : Plain) → new.differ_plain x y ≡ old.differ_plain x y
  plains (routine m c os) (routine n d ps) =
      ap (λ (r : Option (List ℕ)). if bytes_eq m n then Some (option_map_or (map (Among m)) r (Routine m ∷ [])) else None) (bodies c d os ps)
  plains (grouping m a xs) (grouping n b ys) = groupings m n a b xs ys
  plains (declaration k ms) (declaration l ns) =
      plain_leaf (declaration k ms) (declaration l ns) (sameb kind.the_type k l && pointwise bytes_eq ms ns)
      (λ h. let g = both (sameb kind.the_type k l) (pointwise bytes_eq ms ns) h in let a = kind_is k l g.0 in let b = names_are ms ns g.1 in (λ i. declaration (a i) (b i))) refl
  plains (escapes a b) (escapes c d) =
      plain_leaf (escapes a b) (escapes c d) (nat_eq a c && nat_eq b d)
      (λ h. let g = both (nat_eq a c) (nat_eq b d) h in let x = eqb-true a c g.0 in let y = eqb-true b d g.1 in (λ i. escapes (x i) (y i))) refl
  plains (macro m b q) (macro n c r) =
      plain_leaf (macro m b q) (macro n c r) (bytes_eq m n && (option_eq (sameb base.the_type) b c && same_quoted q r))
      (λ h. let g = both (bytes_eq m n) (option_eq (sameb base.the_type) b c && same_quoted q r) h in let j = both (option_eq (sameb base.the_type) b c) (same_quoted q r) g.1 in
      let x = name_is m n g.0 in let y = base_is b c j.0 in let z = quoted_is q r j.1 in (λ i. macro (x i) (y i) (z i))) refl
  plains x y = plain_leaf x y false never refl

  each : {X : Type 0} (one other : X → X → Option (List Part')) → ((x y : X) → one x y ≡ other x y) → (xs ys : List X) → new.differ_each one xs ys ≡ old.differ_each other xs ys
  each one other same [] [] = refl
  each one other same (x ∷ xs) (y ∷ ys) =
      let pairs = foldr new.join (Some []) (map (λ p. one p.0 p.1) (zip xs ys)) in
      ap (λ (b : Bool). if b then new.join (one x y) pairs else None) (one_longer (length xs) (length ys))
      ∙ join_if (nat_eq (length xs) (length ys)) (one x y) pairs
      ∙ joins _ _ _ _ (same x y) (each one other same xs ys)
  each one other same [] (y ∷ ys) =
      let pairs = foldr new.join (Some []) (map (λ p. one p.0 p.1) (zip [] (y ∷ ys))) in
      ap (λ (b : Bool). if b then pairs else None) (ne_eqb 0 (suc (length ys)) (λ e. zero_longer (length ys) e))
  each one other same (x ∷ xs) [] =
      let pairs = foldr new.join (Some []) (map (λ p. one p.0 p.1) (zip (x ∷ xs) [])) in
      ap (λ (b : Bool). if b then pairs else None) (ne_eqb (suc (length xs)) 0 (λ e. zero_longer (length xs) (sym e)))

  items : (x y : Item) → new.differ_item x y ≡ old.differ_item x y
  items (plain x) (plain y) = plains x y
  items (backward xs) (backward ys) = each new.differ_plain old.differ_plain plains xs ys
  items (plain x) (backward ys) = refl
  items (backward xs) (plain y) = refl

  pub items_by_parts : (xs ys : List Item) → new.differ_each new.differ_item xs ys ≡ old.differ_each old.differ_item xs ys
  items_by_parts xs ys = each new.differ_item old.differ_item items xs ys

  pub by_parts : (s t : Source) → new.differs s t ≡ old.differs_by_parts s t
  by_parts s t = ap (λ (r : Option (List Part')). if bytes_eq s.external t.external then r else None) (items_by_parts s.items t.items)
