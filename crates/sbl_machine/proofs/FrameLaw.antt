-- Two scripts that agree outside some items run a word alike where its run touches none of these.
use Rattle.std.proofs.Common.{◌≡◌, ◌∙◌, ℕ, zero, suc, Bool, true, false, List, [], map, refl, sym, ap, subst, ◌⊎◌, inl, inr, ⊎_elim, Option, Some, None, option_map}
use Rattle.std.specs.Prelude.{slice_index_or}
use Rattle.std.specs.List.{AllByRecursion, list_any}
use Rattle.std.proofs.lemmas.Bool.{true≢false}
use Rattle.std.proofs.Math.Path.{fun_ext}
use Rattle.sbl_ast.specs.Order.{ItemInMode, in_order}
use Rattle.sbl_ast.specs.declared.tree.DeclarationKind.TheVariants as kinds
use Rattle.sbl_ast.specs.Tree.{bracket, no_rows, no_others}
use Rattle.sbl_ast.specs.declared.mode.Mode.{Mode}
use Rattle.sbl_ast.specs.declared.mode.Mode.TheVariants.{Forward}
use Rattle.sbl_semantics.specs.Items.{DeclaredNames, known_in, char_class_of, classes_after, is_member, place_of, Body, body_named}
use Rattle.sbl_semantics.specs.Regions.{number_after, number_after_others}
use Rattle.sbl_semantics.specs.declared.fault.RunFault.TheVariants.{Depth}
use Rattle.sbl_semantics.specs.declared.touch.Touch.{Touch}
use Rattle.sbl_semantics.specs.declared.touch.Touch.TheVariants.{Entered, Tested}
use Rattle.sbl_machine.specs.BuiltFrom.{IsClosed, IsClosedAt}
use Rattle.sbl_machine.specs.Frame.{AgreeOutside, RunsAlike, Frame}
use Rattle.sbl_machine.specs.Holes.{with_holes, others_with_holes, holed_script}
use Rattle.sbl_semantics.specs.Meaning.{start, ending}
use Rattle.sbl_semantics.specs.inside.RegionRuns.{body_does, calls}
use Rattle.sbl_semantics.specs.inside.RegionRuns as regions
use Rattle.sbl_semantics.proofs.ByLandmarks.{ending_is}
use Rattle.sbl_semantics.specs.inside.MeaningParts.{row_does}
use Rattle.sbl_semantics.specs.Outcome.{outcome_at, used_at, touched_at, run_of, used_of, touches_of}
use Rattle.sbl_semantics.specs.Control.{pay_first, enter, leave}
use Rattle.sbl_semantics.specs.State.{State, Ending, Signals, Stops, Doing, pay}
use Rattle.sbl_semantics.specs.TouchedItems.{Names', item_of_touch, names_of, items_of, touched_items}
use Rattle.sbl_ast.specs.NamedParts.{Part', Routine, Among, Grouping}
use Rattle.sbl_machine.proofs.TouchedOrder.{any_ordered, any-mapped}
use Rattle.sbl_machine.proofs.Touching.{with_chosen, with_grows, not_then, replicate_index}
use Rattle.sbl_machine.proofs.Stays.{end_state, pay_same}
use Rattle.sbl_machine.proofs.FramePairs.{dirty, dirty_at, Grown, Within, WithinAt, Pair, Alike, grown_after, same_grown, same_pair, signals_pair, spoiled_pair, paid_alike}
use Rattle.sbl_machine.proofs.FrameRuns.{row_alike}
use Rattle.sbl_machine.proofs.HoledTrees.{after_same, after_others_same}
use Rattle.sbl_machine.proofs.HoledScripts.{holed_items, order_holed, known_same, names_same, closed_holed, closed_of_holed, hole_of, holed_body, bodies_holed, name_stands, place_names}
use Rattle.sbl_machine.proofs.HoledClasses.{classes_same, no_class}
use Rattle.sbl_ast.specs.Source.{Source}

-- ---- calls

-- what a call of the j-th routine with n amongs does, by what its row does
abbrev call_of : ℕ → ℕ → Doing → Doing
call_of j n d m s = leave s.routine s.choices (d m (enter j n s))

module _ (is_marked : Touch → Bool) where
  enter_up : (j n : ℕ) (s : State) → dirty is_marked s ≡ true → dirty is_marked (enter j n s) ≡ true
  enter_up j n s d = with_grows is_marked (Entered j) s.touched d

  leave_grown : (j n : ℕ) (s : State) (e : Ending) → Grown is_marked (enter j n s) e → Grown is_marked s (leave s.routine s.choices e)
  leave_grown j n s (Signals true t) h = record { up = λ d. h.up (enter_up j n s d); here = refl }
  leave_grown j n s (Signals false t) h = record { up = λ d. h.up (enter_up j n s d); here = refl }
  leave_grown j n s (Stops fault t) h = record { up = λ d. h.up (enter_up j n s d); here = tt }

  leave_dirty : (r : ℕ) (cs : List (Option ℕ)) (e : Ending) → dirty_at is_marked e ≡ true → dirty_at is_marked (leave r cs e) ≡ true
  leave_dirty r cs (Signals true t) d = d
  leave_dirty r cs (Signals false t) d = d
  leave_dirty r cs (Stops fault t) d = d

  leave_within : (i j n : ℕ) (s : State) (e : Ending) → Within is_marked i s → Grown is_marked (enter j n s) e → WithinAt is_marked i (leave s.routine s.choices e)
  leave_within i j n s (Signals true t) w h =
      record { here = w.here; quiet = λ k c clear. w.quiet k c (not_then _ _ (λ d. h.up (enter_up j n s d)) clear) }
  leave_within i j n s (Signals false t) w h =
      record { here = w.here; quiet = λ k c clear. w.quiet k c (not_then _ _ (λ d. h.up (enter_up j n s d)) clear) }
  leave_within i j n s (Stops fault t) w h = tt

  enter_within : (j n : ℕ) (s : State) → Within is_marked j (enter j n s)
  enter_within j n s = record { here = refl; quiet = λ k c clear. replicate_index n k None }

  called_pair : (i j n : ℕ) (d d' : Doing) (m : Mode) → Alike is_marked j d d' → Pair is_marked i (call_of j n d m) (call_of j n d' m)
  called_pair i j n d d' m h =
      let a = h.in_mode m in
      record {
        grown = λ s. leave_grown j n s _ (a.grown (enter j n s));
        grown' = λ s. leave_grown j n s _ (a.grown' (enter j n s));
        at = λ s w. record {
          kin =
              ⊎_elim (λ p. inl (ap (leave s.routine s.choices) p))
              (λ x. inr (leave_dirty s.routine s.choices (d m (enter j n s)) x.0, leave_dirty s.routine s.choices (d' m (enter j n s)) x.1))
              (a.at (enter j n s) (enter_within j n s)).kin;
          within = leave_within i j n s _ w (a.grown (enter j n s));
        };
      }

  -- a routine that is picked
  entered_pair : (i j n n' : ℕ) (d d' : Doing) (m : Mode) → is_marked (Entered j) ≡ true → ((s : State) → Grown is_marked s (d m s)) → ((s : State) → Grown is_marked s (d' m s)) → Pair is_marked i (call_of j n d m) (call_of j n' d' m)
  entered_pair i j n n' d d' m c h h' =
      spoiled_pair is_marked i _ _
      (λ s. leave_grown j n s _ (h (enter j n s)))
      (λ s. leave_grown j n' s _ (h' (enter j n' s)))
      (λ s w. leave_dirty s.routine s.choices (d m (enter j n s)) ((h (enter j n s)).up (with_chosen is_marked (Entered j) s.touched c)))
      (λ s w. leave_dirty s.routine s.choices (d' m (enter j n' s)) ((h' (enter j n' s)).up (with_chosen is_marked (Entered j) s.touched c)))

-- what is picked, by number
abbrev pub marked_by : (Part' → Bool) → Names' → Touch → Bool
marked_by picked names x = picked (item_of_touch names x)

module _ (picked : Part' → Bool) (items : List ItemInMode) (closed : AllByRecursion (λ x. IsClosedAt picked x.plain) items) where
  abbrev ns : DeclaredNames
  ns = known_in items

  abbrev class : List ℕ → ℕ → Bool
  class = char_class_of (classes_after items [])

  -- the same with holes
  abbrev class' : List ℕ → ℕ → Bool
  class' = char_class_of (classes_after (holed_items picked items) [])

  abbrev is_marked : Touch → Bool
  is_marked = marked_by picked (record { routines = known_in items kinds.Routines; groupings = known_in items kinds.Groupings })

  -- a grouping that is not marked has the same; so has a name of none, which has nothing
  classes_alike : (n : List ℕ) → is_marked (Tested (place_of (ns kinds.Groupings) n)) ≡ false → class' n ≡ class n
  classes_alike n clear = at (is_member (known_in items kinds.Groupings) n) refl
    where
      at : (b : Bool) → is_member (known_in items kinds.Groupings) n ≡ b → class' n ≡ class n
      at true e = classes_same picked items closed n (ap (λ x. picked (Grouping x)) (sym (place_names (known_in items kinds.Groupings) n e)) ∙ clear)
      at false e = fun_ext (λ c. no_class (holed_items picked items) n c (ap (λ l. is_member l n) (ap (λ known. known kinds.Groupings) (known_same picked items)) ∙ e) ∙ sym (no_class items n c e))

  routine_by : (i : ℕ) (n : List ℕ) (body : Body) (call call' : List ℕ → Doing) (m : Mode) (b : Bool) → picked (Routine n) ≡ b → slice_index_or (known_in items kinds.Routines) (place_of (known_in items kinds.Routines) n) [] ≡ n
      → Alike is_marked (place_of (known_in items kinds.Routines) n) (pay_first (row_does ns class call body.mode body.first body.others))
      (pay_first (row_does ns class' call' body.mode (with_holes (λ k. picked (Among n k)) 0 body.first) (others_with_holes (λ k. picked (Among n k)) (number_after body.first 0) body.others)))
      → Pair is_marked i (body_does ns class call n (Some body) m) (body_does ns class' call' n (Some (hole_of picked b n body)) m)
  routine_by i n body call call' m true c name a =
      let j = place_of (known_in items kinds.Routines) n in
      entered_pair is_marked i j (number_after_others body.others (number_after body.first 0)) 0 (pay_first (row_does ns class call body.mode body.first body.others))
      (pay_first (row_does ns class' call' body.mode (bracket no_rows) no_others)) m (ap (λ x. picked (Routine x)) name ∙ c) (a.in_mode m).grown
      (λ s. grown_after is_marked s (pay s.steps s) (Signals true) (Signals false) (same_grown is_marked s _ (pay_same s.steps s)) (λ t. same_grown is_marked t _ refl) (λ t. same_grown is_marked t _ refl))
  routine_by i n body call call' m false c name a =
      let j = place_of (known_in items kinds.Routines) n in
      let holes = λ (k : ℕ). picked (Among n k) in
      let d = pay_first (row_does ns class call body.mode body.first body.others) in
      let d' = pay_first (row_does ns class' call' body.mode (with_holes holes 0 body.first) (others_with_holes holes (number_after body.first 0) body.others)) in
      let amongs = number_after_others body.others (number_after body.first 0) in
      subst (λ l. Pair is_marked i (call_of j amongs d m) (call_of j l d' m)) (sym (after_others_same holes body.others (number_after body.first 0) _ (after_same holes body.first 0 0 refl)))
      (called_pair is_marked i j amongs d d' m a)

  body_pair : (i : ℕ) (n : List ℕ) (call call' : List ℕ → Doing) (m : Mode) → ((j : ℕ) (x : List ℕ) → Alike is_marked j (call x) (call' x)) → (o : Option Body) → body_named items n ≡ o
      → Pair is_marked i (body_does ns class call n o m) (body_does ns class' call' n (option_map (holed_body picked n) o) m)
  body_pair i n call call' m h None is = signals_pair is_marked i false
  body_pair i n call call' m h (Some body) is =
      let j = place_of (known_in items kinds.Routines) n in
      let name : slice_index_or (known_in items kinds.Routines) j [] ≡ n = name_stands items n body is in
      routine_by i n body call call' m (picked (Routine n)) refl name
      (paid_alike is_marked j _ _ (row_alike is_marked ns class class' classes_alike call call' j (h j) (λ k. picked (Among n k)) (λ k. ap (λ (x : List ℕ). picked (Among x (suc k))) name) body.mode body.first body.others))

  calls_alike : (l i : ℕ) (n : List ℕ) → Alike is_marked i (calls ns class (body_named items) l n) (calls ns class' (body_named (holed_items picked items)) l n)
  calls_alike zero i n = record { in_mode = λ m. same_pair is_marked i (Stops Depth) (λ s. refl) }
  calls_alike (suc l) i n =
      let call = calls ns class (body_named items) l in
      let call' = calls ns class' (body_named (holed_items picked items)) l in
      record {
        in_mode = λ m.
            subst (λ o. Pair is_marked i (body_does ns class call n (body_named items n) m) (body_does ns class' call' n o m)) (sym (bodies_holed picked items n))
            (body_pair i n call call' m (λ j x. calls_alike l j x) (body_named items n) refl);
      }

-- ---- runs

-- a run on so many levels, from a state that the names of a script make
abbrev pub run_from : (DeclaredNames → State) → ℕ → List ItemInMode → List ℕ → Ending
run_from first l items external = calls (known_in items) (char_class_of (classes_after items [])) (body_named items) l external Forward (first (known_in items))

holed_run : (first : DeclaredNames → State) (picked : Part' → Bool) (l : ℕ) (items : List ItemInMode) (external : List ℕ) →
    run_from first l (holed_items picked items) external
    ≡ calls (known_in items) (char_class_of (classes_after (holed_items picked items) [])) (body_named (holed_items picked items)) l external Forward (first (known_in items))
holed_run first picked l items external =
    let bodies = body_named (holed_items picked items) in
    ap (λ ns. calls ns (char_class_of (classes_after (holed_items picked items) [])) bodies l external Forward (first ns)) (known_same picked items)

-- two endings are the same, or something that is picked was touched in both
abbrev pub Kin : (Touch → Bool) → Ending → Ending → Type 0
Kin is_marked e e' = (e' ≡ e) ⊎ ((dirty_at is_marked e ≡ true) × (dirty_at is_marked e' ≡ true))

pub levels_kin : (first : DeclaredNames → State) → ((is_marked : Touch → Bool) (ns : DeclaredNames) → Within is_marked 0 (first ns)) → (picked : Part' → Bool) (l : ℕ) (s : Source) → IsClosed picked s →
    Kin (marked_by picked (names_of s)) (run_from first l (in_order s.items) s.external) (run_from first l (in_order (holed_script picked s).items) s.external)
levels_kin first within picked l s closed =
    let is_marked = marked_by picked (names_of s) in
    let ns = known_in (in_order s.items) in
    subst (Kin is_marked (run_from first l (in_order s.items) s.external))
    (sym (ap (λ xs. run_from first l xs s.external) (order_holed picked s.items) ∙ holed_run first picked l (in_order s.items) s.external))
    (((calls_alike picked (in_order s.items) closed l 0 s.external).in_mode Forward).at (first ns) (within is_marked ns)).kin

regions_kin : (picked : Part' → Bool) (s : Source) → IsClosed picked s → (word : List ℕ) (limit : ℕ) → Kin (marked_by picked (names_of s)) (regions.ending s word limit) (regions.ending (holed_script picked s) word limit)
unfolding regions.ending
regions_kin picked s closed word limit = levels_kin (λ ns. start ns word limit) (λ m ns. record { here = refl; quiet = λ k c clear. refl }) picked 32 s closed

ending_kin : (picked : Part' → Bool) (s : Source) → IsClosed picked s → (word : List ℕ) (limit : ℕ) → Kin (marked_by picked (names_of s)) (ending s word limit) (ending (holed_script picked s) word limit)
ending_kin picked s closed word limit =
    let is_marked = marked_by picked (names_of s) in
    let same = ending_is s word limit in
    let same_hole = ending_is (holed_script picked s) word limit in
    subst (λ (e : Ending). Kin is_marked e (ending (holed_script picked s) word limit)) (sym same)
    (subst (Kin is_marked (regions.ending s word limit)) (sym same_hole) (regions_kin picked s closed word limit))

pub agree_names : (picked : Part' → Bool) (s t : Source) → AgreeOutside picked s t → names_of t ≡ names_of s
agree_names picked s t agree = sym (names_same picked t) ∙ ap names_of (sym agree) ∙ names_same picked s

clear_kin : (is_marked : Touch → Bool) (e e' : Ending) → Kin is_marked e e' → dirty_at is_marked e ≡ false → e' ≡ e
clear_kin is_marked e e' h clear = ⊎_elim (λ p. p) (λ d. absurd (true≢false (sym d.0 ∙ clear))) h

clear_back : (is_marked : Touch → Bool) (e e' : Ending) → Kin is_marked e e' → dirty_at is_marked e' ≡ false → e ≡ e'
clear_back is_marked e e' h clear = ⊎_elim (λ p. sym p) (λ d. absurd (true≢false (sym d.1 ∙ clear))) h

-- runs whose endings are kin to those of the scripts with holes are the same of two scripts that agree outside what is picked
pub agree_on : (picked : Part' → Bool) (run : Source → Ending) → ((s : Source) → IsClosed picked s → Kin (marked_by picked (names_of s)) (run s) (run (holed_script picked s)))
    → (s t : Source) → IsClosed picked s → AgreeOutside picked s t → dirty_at (marked_by picked (names_of s)) (run s) ≡ false → run t ≡ run s
agree_on picked run kin s t closed agree clear =
    let is_marked = marked_by picked (names_of s) in
    let hole = holed_script picked in
    let later : IsClosed picked t = closed_of_holed picked t (subst (IsClosed picked) agree (closed_holed picked s closed)) in
    let same : run (hole t) ≡ run s = ap run (sym agree) ∙ clear_kin is_marked _ _ (kin s closed) clear in
    let other : Kin is_marked (run t) (run (hole t)) = subst (λ ns. Kin (marked_by picked ns) (run t) (run (hole t))) (agree_names picked s t agree) (kin t later) in
    clear_back is_marked _ _ other (ap (dirty_at is_marked) same ∙ clear) ∙ same

pub frame_on : (picked : Part' → Bool) (s t : Source) → IsClosed picked s → AgreeOutside picked s t → (word : List ℕ) (limit : ℕ) → dirty_at (marked_by picked (names_of s)) (ending s word limit) ≡ false → ending t word limit ≡ ending s word limit
frame_on picked s t closed agree word limit clear = agree_on picked (λ x. ending x word limit) (λ x c. ending_kin picked x c word limit) s t closed agree clear

-- ---- what is said of it

pub touched_ended : (e : Ending) → touched_at e ≡ (end_state e).touched
touched_ended (Signals b s) = refl
touched_ended (Stops fault s) = refl

pub clear_by_names : (picked : Part' → Bool) (names : Names') (e : Ending) → list_any (marked_by picked names) (touched_at e) ≡ dirty_at (marked_by picked names) e
clear_by_names picked names e = ap (list_any (marked_by picked names)) (touched_ended e)

pub alike_by : (s t : Source) (word : List ℕ) (limit : ℕ) → names_of t ≡ names_of s → ending t word limit ≡ ending s word limit → RunsAlike s t word limit
unfolding run_of used_of touched_items touches_of
alike_by s t word limit names same =
    record {
      outcome = ap outcome_at same;
      touched = ap (λ ns. items_of ns (touched_at (ending t word limit))) names ∙ ap (λ e. items_of (names_of s) (touched_at e)) same;
      used = ap (used_at limit) same;
    }

pub frame_holds : Frame
unfolding touched_items touches_of
frame_holds picked s t closed agree word limit clear =
    let e = ending s word limit in
    let names = names_of s in
    let untouched : dirty_at (marked_by picked names) e ≡ false =
    sym (clear_by_names picked names e) ∙ sym (any-mapped (item_of_touch names) picked (touched_at e)) ∙ sym (any_ordered picked (map (item_of_touch names) (touched_at e))) ∙ clear in
    alike_by s t word limit (agree_names picked s t agree) (frame_on picked s t closed agree word limit untouched)
