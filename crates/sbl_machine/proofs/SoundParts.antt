-- Strings, numbers and searches, with numbers for names and by name.
use Rattle.std.proofs.Common.{◌≡◌, ℕ, zero, suc, ◌+◌, List, [], ◌∷◌, ◌++◌, length, map, Option, Some, None, option_map, refl, sym, arith, ap, ◌∙◌, append_assoc, append-nil}
use Rattle.std.specs.Cmp.Lexicographic.{pointwise}
use Rattle.std.specs.List.{position_or_len}
use Rattle.std.proofs.lemmas.Bool.{lt-ltb, ltb-false, true≢false}
use Rattle.std.proofs.lemmas.List.Recursion.{is_position_or_len}
use Rattle.std.specs.Prelude.{Bool, true, false, cond, if◌then◌else◌, ◌-◌, take, drop, reverse, nat_eq, nat_lt, pos, neg_ℤ, Ok, slice_get, slice_index_or}
use Rattle.std.proofs.Math.Path.{fun_ext}
use Rattle.std.proofs.lemmas.List.{map-append, length-drop, take_all, take_rest}
use Rattle.std.proofs.Math.ListN.{drop_of_length-le}
use Rattle.std.proofs.Math.Seq.{drop-length, take-nil}
use Rattle.std.proofs.lemmas.Option.{slice_get-map}
use Rattle.sbl_ast.specs.declared.tree.Additive.{Additive}
use Rattle.sbl_ast.specs.declared.tree.Additive.TheVariants as additives
use Rattle.sbl_ast.specs.declared.tree.Assignment.{Assignment}
use Rattle.sbl_ast.specs.declared.tree.Assignment.TheVariants as assignments
use Rattle.sbl_ast.specs.declared.tree.Comparison.{Comparison}
use Rattle.sbl_ast.specs.declared.tree.Comparison.TheVariants as comparisons
use Rattle.sbl_ast.specs.declared.tree.Multiplicative.{Multiplicative}
use Rattle.sbl_ast.specs.declared.tree.Multiplicative.TheVariants as multiplicatives
use Rattle.sbl_ast.specs.declared.tree.Constant.{Constant}
use Rattle.sbl_ast.specs.declared.tree.Constant.TheVariants as constants
use Rattle.sbl_ast.specs.declared.tree.DeclarationKind.TheVariants as kinds
use Rattle.sbl_ast.specs.Tree as trees
use Rattle.sbl_ast.specs.Tree.{bare, group}
use Rattle.sbl_program.specs.declared.node.Candidate as code
use Rattle.sbl_compiler.specs.Ahead.{found_as}
use Rattle.sbl_semantics.specs.Fitting.{below, fitting, onto, read_as, read_all, ahead_at}
use Rattle.sbl_semantics.specs.Items.{DeclaredNames}
use Rattle.sbl_semantics.specs.Meaning as meaning
use Rattle.sbl_semantics.specs.inside.MeaningParts as parts
use Rattle.sbl_semantics.specs.Meaning.{Offer, offer, offers}
use Rattle.sbl_program.specs.Arithmetic.{characters, value, changed_value, holds}
use Rattle.sbl_compiler.specs.NumberedItems.{change_of, relation_of}
use Rattle.sbl_compiler.specs.NumberedAmongs.{strings_in, strings_after, condition_of, entries_in, entries_after}
use Rattle.sbl_program.specs.Chains.{sum_or_difference, all_sums, product_or_quotient, all_products}
use Rattle.sbl_compiler.specs.NumberedNames.{Names, number_of}
use Rattle.sbl_compiler.specs.NumberedNumbers.{text, constant, expression, sums_in, product, scales_in, factor}
use Rattle.sbl_semantics.specs.Numbers.{Value, value_in_range, with_value, integer_at}
use Rattle.sbl_program.specs.Program as programs
use Rattle.sbl_semantics.specs.Landmarks.{Among}
use Rattle.sbl_program.specs.Search.{bound_in, condition_does, try_one, tries, search_strings, search_all}
use Rattle.sbl_semantics.specs.Choices.{take_string, touch_among}
use Rattle.sbl_semantics.specs.State.{State, bound_of, Ending, Signals, Doing, after, saved_cursor, place_after, then_on, pay}
use Rattle.sbl_compiler.proofs.SoundItems.{less_suc, placed_by}
use Rattle.sbl_ast.specs.declared.mode.Mode.{Mode}
use Rattle.sbl_ast.specs.declared.mode.Mode.TheVariants.{Forward, Backward}

pub changed_same : (o : Assignment) → changed_value (change_of o) ≡ meaning.assigned_value o
changed_same assignments.Equals = refl
changed_same _ = refl

pub holds_same : (o : Comparison) → holds (relation_of o) ≡ meaning.is_so o
holds_same comparisons.Same = refl
holds_same _ = refl

-- the names of a script, in both
pub record Agree (ns : Names) (known : DeclaredNames) : Type 0 where
  pub strings : ns.strings ≡ known kinds.Strings
  pub integers : ns.integers ≡ known kinds.Integers
  pub booleans : ns.booleans ≡ known kinds.Booleans
  pub groupings : ns.groupings ≡ known kinds.Groupings
  pub routines : ns.routines ≡ known kinds.Routines

module _ (ns : Names) (known : DeclaredNames) (agree : Agree ns known) where
  pub text_same : (a : trees.Argument) (s : State) → characters (text ns a) s ≡ meaning.text known a s
  text_same (trees.written_out q) s = refl
  text_same (trees.by_name n) s = ap (λ i. slice_index_or s.strings i []) (placed_by _ _ n agree.strings)

  constant_same : (c : Constant) (m : Mode) (s : State) → value (constant c) m s ≡ meaning.constant_worth known c m s
  constant_same constants.MaxInt m s = refl
  constant_same _ m s = refl

  added_same : (o : Additive) (a b : programs.Arithmetic) (m : Mode) (s : State) (v w : Value) → value a m s ≡ v → value b m s ≡ w → value (sum_or_difference o a b) m s ≡ meaning.value_of_sum known o v w
  added_same additives.Plus a b m s v w h k = ap (λ v. meaning.value_of_sum known additives.Plus v (value b m s)) h ∙ ap (λ w. meaning.value_of_sum known additives.Plus v w) k
  added_same additives.Minus a b m s v w h k = ap (λ v. meaning.value_of_sum known additives.Minus v (value b m s)) h ∙ ap (λ w. meaning.value_of_sum known additives.Minus v w) k

  scaled_same : (o : Multiplicative) (a b : programs.Arithmetic) (m : Mode) (s : State) (v w : Value) → value a m s ≡ v → value b m s ≡ w → value (product_or_quotient o a b) m s ≡ meaning.value_of_product known o v w
  scaled_same multiplicatives.Times a b m s v w h k = ap (λ v. meaning.value_of_product known multiplicatives.Times v (value b m s)) h ∙ ap (λ w. meaning.value_of_product known multiplicatives.Times v w) k
  scaled_same multiplicatives.Over a b m s v w h k = ap (λ v. meaning.value_of_product known multiplicatives.Over v (value b m s)) h ∙ ap (λ w. meaning.value_of_product known multiplicatives.Over v w) k

  mutual
    pub worth_same : (e : trees.Expression) (m : Mode) (s : State) → value (expression ns e) m s ≡ meaning.worth known e m s
    worth_same (trees.expression p ss) m s = sums_same ss (product ns p) _ m s (product_same p m s)

    sums_same : (ss : trees.Sums) (a : programs.Arithmetic) (v : Value) (m : Mode) (s : State) → value a m s ≡ v → value (all_sums (sums_in ns ss) a) m s ≡ meaning.value_of_sums known ss v m s
    sums_same trees.no_sums a v m s h = h
    sums_same (trees.sum o p ss) a v m s h = sums_same ss (sum_or_difference o a (product ns p)) _ m s (added_same o a (product ns p) m s v _ h (product_same p m s))

    product_same : (p : trees.Product) (m : Mode) (s : State) → value (product ns p) m s ≡ meaning.product_worth known p m s
    product_same (trees.product f ss) m s = scales_same ss (factor ns f) _ m s (factor_same f m s)

    scales_same : (ss : trees.Scales) (a : programs.Arithmetic) (v : Value) (m : Mode) (s : State) → value a m s ≡ v → value (all_products (scales_in ns ss) a) m s ≡ meaning.value_of_products known ss v m s
    scales_same trees.no_scales a v m s h = h
    scales_same (trees.scale o f ss) a v m s h = scales_same ss (product_or_quotient o a (factor ns f)) _ m s (scaled_same o a (factor ns f) m s v _ h (factor_same f m s))

    factor_same : (f : trees.Factor) (m : Mode) (s : State) → value (factor ns f) m s ≡ meaning.factor_worth known f m s
    factor_same (trees.negated f) m s = ap (λ v. with_value v (λ x. value_in_range (neg_ℤ x))) (factor_same f m s)
    factor_same (trees.bracketed e) m s = worth_same e m s
    factor_same (trees.numeral n) m s = refl
    factor_same (trees.variable n) m s = ap (λ i. Ok (integer_at i s)) (placed_by _ _ n agree.integers)
    factor_same (trees.fixed c) m s = constant_same c m s
    factor_same (trees.length_of a) m s = ap (λ cs. value_in_range (pos (length cs))) (text_same a s)

  -- ---- searches

  -- after the end of the text nothing is ahead, so that a bound there is as good as the end
  cut_same : (r : Mode) (text : List ℕ) (at left : ℕ) (b : Bool) → nat_lt left (length text) ≡ b → ahead_at r text at (if b then left else length text) ≡ ahead_at r text at left
  cut_same r text at left true h = refl
  cut_same Forward text at left false h =
      let end = ltb-false left (length text) h in
      take_rest text at ∙ sym (take_all (left - at) (drop at text) (omega (arith, length-drop at text)))
  cut_same Backward text at left false h =
      let end = ltb-false left (length text) h in
      ap (λ xs. reverse (take (at - length text) xs)) (drop-length text)
      ∙ ap reverse (take-nil (at - length text) ∙ sym (take-nil (at - left)))
      ∙ sym (ap (λ xs. reverse (take (at - left) xs)) (drop_of_length-le text end))

  bound_same : (r m : Mode) (s : State) → ahead_at r s.text s.cursor (bound_in m s) ≡ ahead_at r s.text s.cursor (bound_of m s)
  bound_same r Forward s = refl
  bound_same r Backward s = cut_same r s.text s.cursor s.left (nat_lt s.left (length s.text)) refl

  entry_by : Offer → code.Candidate
  entry_by o = record { condition = condition_of ns o.condition; group = o.group; length = length o.string }

  entries_in_are : (g : ℕ) (es : List trees.Entry) (sofar : List code.Candidate) → entries_in ns g es sofar ≡ sofar ++ map entry_by (map (offer g) es)
  unfolding entry_by
  entries_in_are g [] sofar = sym (append-nil sofar)
  entries_in_are g (trees.entry q c ∷ es) sofar =
      let e = entry_by (offer g (trees.entry q c)) in
      entries_in_are g es (sofar ++ (e ∷ [])) ∙ append_assoc sofar (e ∷ []) (map entry_by (map (offer g) es))

  entries_are : (g : ℕ) (gs : trees.Groups) (sofar : List code.Candidate) → entries_after ns g gs sofar ≡ sofar ++ map entry_by (offers g gs)
  unfolding entry_by
  entries_are g (bare es) sofar = entries_in_are g es sofar
  entries_are g (group (trees.entry q c) es rs gs) sofar =
      let e = entry_by (offer g (trees.entry q c)) in
      entries_are (g + 1) gs (entries_in ns g es (sofar ++ (e ∷ [])))
      ∙ ap (λ xs. xs ++ map entry_by (offers (g + 1) gs)) (entries_in_are g es (sofar ++ (e ∷ [])))
      ∙ append_assoc (sofar ++ (e ∷ [])) (map entry_by (map (offer g) es)) (map entry_by (offers (g + 1) gs))
      ∙ append_assoc sofar (e ∷ []) _
      ∙ ap (λ xs. sofar ++ (e ∷ xs)) (sym (map-append entry_by (map (offer g) es) (offers (g + 1) gs)))

  abbrev string_by : Offer → List ℕ
  string_by o = o.string

  strings_in_are : (g : ℕ) (es : List trees.Entry) (sofar : List (List ℕ)) → strings_in es sofar ≡ sofar ++ map string_by (map (offer g) es)
  strings_in_are g [] sofar = sym (append-nil sofar)
  strings_in_are g (trees.entry q c ∷ es) sofar = strings_in_are g es (sofar ++ (q.value ∷ [])) ∙ append_assoc sofar (q.value ∷ []) (map string_by (map (offer g) es))

  strings_are : (g : ℕ) (gs : trees.Groups) (sofar : List (List ℕ)) → strings_after gs sofar ≡ sofar ++ map string_by (offers g gs)
  strings_are g (bare es) sofar = strings_in_are g es sofar
  strings_are g (group (trees.entry q c) es rs gs) sofar =
      strings_are (g + 1) gs (strings_in es (sofar ++ (q.value ∷ [])))
      ∙ ap (λ xs. xs ++ map string_by (offers (g + 1) gs)) (strings_in_are g es (sofar ++ (q.value ∷ [])))
      ∙ append_assoc (sofar ++ (q.value ∷ [])) (map string_by (map (offer g) es)) (map string_by (offers (g + 1) gs))
      ∙ append_assoc sofar (q.value ∷ []) _
      ∙ ap (λ xs. sofar ++ (q.value ∷ xs)) (sym (map-append string_by (map (offer g) es) (offers (g + 1) gs)))

  -- the place of the first that passes
  first_place : (List ℕ → Bool) → List (List ℕ) → ℕ
  first_place p [] = 0
  first_place p (x ∷ xs) = cond (p x) 0 (suc (first_place p xs))

  one_further : (b : Bool) (n : ℕ) → cond b 0 (suc n) ≡ cond b 0 (1 + n)
  one_further true n = refl
  one_further false n = omega arith

  first_is : (p : List ℕ → Bool) (xs : List (List ℕ)) → first_place p xs ≡ position_or_len p xs
  unfolding first_place
  first_is p xs = is_position_or_len (first_place p) p refl (λ x xs. one_further (p x) (first_place p xs)) xs

  abbrev as_read : Mode → List Offer → List (List ℕ)
  as_read r os = read_all r (map string_by os)

  abbrev there : Option Offer → Bool
  there None = false
  there (Some o) = true

  offer_step : (b : Bool) (o : Offer) (os : List Offer) (n : ℕ) (x : Option Offer) → slice_get os n ≡ x → slice_get (o ∷ os) (cond b 0 (suc n)) ≡ (if b then Some o else x)
  offer_step true o os n x h = refl
  offer_step false o os n x h = h

  offer_at : (r : Mode) (w : List ℕ) (os : List Offer) → slice_get os (first_place (pointwise nat_eq w) (as_read r os)) ≡ parts.offering r w os
  unfolding first_place
  offer_at r w [] = refl
  offer_at r w (o ∷ os) = offer_step (pointwise nat_eq w (read_as r o.string)) o os _ _ (offer_at r w os)

  there_step : (b : Bool) (o : Offer) (n l : ℕ) (x : Option Offer) → nat_lt n l ≡ there x → nat_lt (cond b 0 (suc n)) (suc l) ≡ there (if b then Some o else x)
  there_step true o n l x h = lt-ltb 0 (suc l) (omega arith)
  there_step false o n l x h = less_suc n l (there x) h

  offer_there : (r : Mode) (w : List ℕ) (os : List Offer) → nat_lt (first_place (pointwise nat_eq w) (as_read r os)) (length (as_read r os)) ≡ there (parts.offering r w os)
  unfolding first_place
  offer_there r w [] = refl
  offer_there r w (o ∷ os) = there_step (pointwise nat_eq w (read_as r o.string)) o _ (length (as_read r os)) _ (offer_there r w os)

  module _ (call : ℕ → Doing) (call' : List ℕ → Doing) (same : (n : List ℕ) → call (number_of ns.routines n) ≡ call' n) where
    condition_same : (c : Option (List ℕ)) → condition_does call (condition_of ns c) ≡ parts.condition_does call' c
    condition_same None = refl
    condition_same (Some n) = ap (λ d m s. then_on (pay s.steps s) (d m)) (same n)

    take_same : (k : ℕ) (o : Offer) (m : Mode) (from s : State) (next next' : State → Ending) → next ≡ next' → try_one call k (Some (entry_by o)) m from s next ≡ meaning.takes call' k (Some o) m from s next'
    unfolding entry_by
    take_same k o m from s next next' h =
        ap (λ (c : Doing). then_on (place_after m (saved_cursor from) (length o.string) s) (λ a. after (c m a) (λ b. then_on (place_after m (saved_cursor from) (length o.string) b) (λ d. Signals true (take_string k (length o.string) o.group d))) next)) (condition_same o.condition)
        ∙ ap (meaning.takes call' k (Some o) m from s) h

    onto_same : (t : Bool) (i : ℕ) (o : Option Offer) (is : List ℕ) (k : ℕ) (os : List Offer) (m : Mode) (from s : State) (next : State → Ending) → slice_get os i ≡ o → t ≡ there o → tries call k (map entry_by os) m from is ≡ next → tries call k (map entry_by os) m from (onto (cond t (Some i) None) is) s ≡ meaning.takes call' k o m from s next
    onto_same true i None is k os m from s next h e l = absurd (true≢false e)
    onto_same true i (Some o) is k os m from s next h e l =
        ap (λ o. try_one call k o m from s (tries call k (map entry_by os) m from is)) (slice_get-map entry_by os i ∙ ap (option_map entry_by) h)
        ∙ take_same k o m from s _ next l
    onto_same false i None is k os m from s next h e l = ap (λ f. f s) l
    onto_same false i (Some o) is k os m from s next h e l = absurd (true≢false (sym e))

    tries_same : (k : ℕ) (os : List Offer) (r m : Mode) (from : State) (x : List ℕ) (b : ℕ) (s : State) → tries call k (map entry_by os) m from (below (as_read r os) x b) s ≡ meaning.try_each call' k os r m from x b s
    tries_same k os r m from x zero s = refl
    tries_same k os r m from x (suc l) s =
        let w = take l x in
        let p = pointwise nat_eq w in
        let e = first_is p (as_read r os) in
        onto_same (nat_lt (position_or_len p (as_read r os)) (length (as_read r os))) (position_or_len p (as_read r os)) (parts.offering r w os) (below (as_read r os) x l) k os m from s _
        (ap (slice_get os) (sym e) ∙ offer_at r w os)
        (ap (λ i. nat_lt i (length (as_read r os))) (sym e) ∙ offer_there r w os)
        (fun_ext (tries_same k os r m from x l))

    searched_same : (a : Among) (m : Mode) (s : State) → search_strings call (found_as ns a).number (found_as ns a).entries (found_as ns a).strings m s ≡ parts.search_among call' a m s
    unfolding fitting
    searched_same a m s =
        let os = offers 0 a.groups in
        let x = ahead_at a.mode s.text s.cursor (bound_of m s) in
        let fits = λ (strings : List (List ℕ)). below (read_all a.mode strings) x (suc (length x)) in
        ap (λ x. tries call a.number (found_as ns a).entries m s (below (read_all a.mode (found_as ns a).strings.entries) x (suc (length x))) s) (bound_same a.mode m s)
        ∙ ap (λ es. tries call a.number es m s (fits (strings_after a.groups [])) s) (entries_are 0 a.groups [])
        ∙ ap (λ xs. tries call a.number (map entry_by os) m s (fits xs) s) (strings_are 0 a.groups [])
        ∙ tries_same a.number os a.mode m s x (suc (length x)) s

    pub search_same : (a : Among) (m : Mode) (s : State) → search_all call (found_as ns a).number (found_as ns a).entries (found_as ns a).strings m s ≡ meaning.search call' a m s
    search_same a m s = searched_same a m (touch_among a.number m s)
