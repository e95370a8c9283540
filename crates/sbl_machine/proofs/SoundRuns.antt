-- A run of the numbered script is a run of the script.
use Rattle.std.proofs.Common.{◌≡◌, ℕ, zero, suc, Bool, List, [], Option, Some, None, option_map, refl, sym, ap, ◌∙◌}
use Rattle.std.proofs.Math.Path.{fun_ext}
use Rattle.sbl_ast.specs.Order.{ItemInMode, in_order}
use Rattle.sbl_ast.specs.declared.tree.DeclarationKind.TheVariants as kinds
use Rattle.sbl_semantics.specs.Items.{DeclaredNames, Body, known_in, char_class_of, classes_after, body_named}
use Rattle.sbl_semantics.specs.Meaning as meaning
use Rattle.sbl_semantics.specs.inside.RegionRuns as regions
use Rattle.sbl_semantics.specs.inside.MeaningParts as parts
use Rattle.sbl_machine.specs.NumberedScript.{numbered_script}
use Rattle.sbl_compiler.specs.NumberedItems.{numbered_items, plan_with}
use Rattle.sbl_compiler.specs.NumberedNames.{Names, names_after, no_names, number_of}
use Rattle.sbl_program.specs.Start.{ending_of, start}
use Rattle.sbl_program.specs.Program as programs
use Rattle.sbl_semantics.specs.Regions.{number_after, number_after_others}
use Rattle.sbl_program.specs.Run as run
use Rattle.sbl_semantics.specs.Control.{enter, leave, pay_first}
use Rattle.sbl_program.specs.Run.{does}
use Rattle.sbl_semantics.specs.State.{State, Ending, Doing}
use Rattle.sbl_machine.proofs.SoundActs.{row_sound}
use Rattle.sbl_compiler.proofs.SoundItems.{strings_are, integers_are, booleans_are, groupings_are, routines_are, placed_by, as_made}
use Rattle.sbl_machine.proofs.SoundParts.{Agree}
use Rattle.sbl_compiler.proofs.Own.{class_same, routine_same}
use Rattle.sbl_ast.specs.Source.{Source}
use Rattle.sbl_semantics.proofs.ByLandmarks.{ending_is, telling_is}
use Rattle.sbl_ast.specs.declared.mode.Mode.{Mode}
use Rattle.sbl_ast.specs.declared.mode.Mode.TheVariants.{Forward}

-- a run of a program that tells what it does
abbrev pub telling_of : programs.Program → List ℕ → ℕ → Ending
telling_of p word limit = run.calls p 32 p.external Forward (record (start p word limit) { events = Some [] })

module _ (items : List ItemInMode) (external : List ℕ) where
  abbrev ns : Names
  ns = names_after items no_names

  abbrev names_known : DeclaredNames
  names_known = known_in items

  abbrev class : List ℕ → ℕ → Bool
  class = char_class_of (classes_after items [])

  abbrev program : programs.Program
  program = plan_with ns items external

  abbrev variables : List (List ℕ) → List (List ℕ) → List (List ℕ) → DeclaredNames
  variables integers booleans strings kinds.Integers = integers
  variables integers booleans strings kinds.Booleans = booleans
  variables integers booleans strings kinds.Strings = strings
  variables integers booleans strings k = []

  agree : Agree ns names_known
  agree = record {
    strings = strings_are items no_names;
    integers = integers_are items no_names;
    booleans = booleans_are items no_names;
    groupings = groupings_are items no_names;
    routines = routines_are items no_names;
  }

  body_same : (call : ℕ → Doing) (call' : List ℕ → Doing) (n : List ℕ) (o : Option Body) (m : Mode) (s : State) → ((n : List ℕ) → call (number_of ns.routines n) ≡ call' n) → run.body_does (does program.groupings call) (number_of ns.routines n) (option_map (as_made ns) o) m s ≡ regions.body_does names_known class call' n o m s
  body_same call call' n None m s h = refl
  body_same call call' n (Some b) m s h =
      let i = number_of ns.routines n in
      let amongs = number_after_others b.others (number_after b.first 0) in
      ap (λ d. leave s.routine s.choices (pay_first d m (enter i amongs s))) (row_sound ns names_known agree program.groupings class call call' (class_same items external) h b.mode b.first b.others)
      ∙ ap (λ i. leave s.routine s.choices (pay_first (parts.row_does names_known class call' b.mode b.first b.others) m (enter i amongs s))) (placed_by _ _ n agree.routines)

  calls_same : (l : ℕ) (n : List ℕ) (m : Mode) (s : State) → run.calls program l (number_of ns.routines n) m s ≡ regions.calls names_known class (body_named items) l n m s
  calls_same zero n m s = refl
  calls_same (suc l) n m s =
      ap (λ o. run.body_does (does program.groupings (run.calls program l)) (number_of ns.routines n) o m s) (routine_same items external n)
      ∙ body_same (run.calls program l) (regions.calls names_known class (body_named items) l) n (body_named items n) m s (λ n. fun_ext (λ m. fun_ext (λ s. calls_same l n m s)))

  -- where a run begins, by the names of its variables
  abbrev start_state : List (List ℕ) → List (List ℕ) → List (List ℕ) → List ℕ → ℕ → State
  start_state integers booleans strings word limit = meaning.start (variables integers booleans strings) word limit

  start_same : (word : List ℕ) (limit : ℕ) → start program word limit ≡ meaning.start names_known word limit
  start_same word limit =
      ap (λ l. start_state l ns.booleans ns.strings word limit) agree.integers
      ∙ ap (λ l. start_state (names_known kinds.Integers) l ns.strings word limit) agree.booleans
      ∙ ap (λ l. start_state (names_known kinds.Integers) (names_known kinds.Booleans) l word limit) agree.strings

  told_by_items : (word : List ℕ) (limit : ℕ) → telling_of program word limit ≡ regions.calls names_known class (body_named items) 32 external Forward (record (meaning.start names_known word limit) { events = Some [] })
  told_by_items word limit =
      let begun : State = record (start program word limit) { events = Some [] } in
      calls_same 32 external Forward begun
      ∙ ap (λ (s : State). regions.calls names_known class (body_named items) 32 external Forward (record s { events = Some [] })) (start_same word limit)

  by_items : (word : List ℕ) (limit : ℕ) → ending_of program word limit ≡ regions.calls names_known class (body_named items) 32 external Forward (meaning.start names_known word limit)
  by_items word limit = calls_same 32 external Forward (start program word limit) ∙ ap (regions.calls names_known class (body_named items) 32 external Forward) (start_same word limit)

sound_by_regions : (script : Source) (word : List ℕ) (limit : ℕ) → ending_of (numbered_script script) word limit ≡ regions.ending script word limit
unfolding numbered_items regions.ending
sound_by_regions script word limit = by_items (in_order script.items) script.external word limit

told_by_regions : (script : Source) (word : List ℕ) (limit : ℕ) → telling_of (numbered_script script) word limit ≡ regions.ending_with_events script word limit
unfolding numbered_items regions.ending_with_events
told_by_regions script word limit = told_by_items (in_order script.items) script.external word limit

pub ending_same : (script : Source) (word : List ℕ) (limit : ℕ) → ending_of (numbered_script script) word limit ≡ meaning.ending script word limit
ending_same script word limit = sound_by_regions script word limit ∙ sym (ending_is script word limit)

pub telling_same : (script : Source) (word : List ℕ) (limit : ℕ) → telling_of (numbered_script script) word limit ≡ meaning.ending_with_events script word limit
telling_same script word limit = told_by_regions script word limit ∙ sym (telling_is script word limit)

-- the same for a run that begins in a state
pub same_run : (p : programs.Program) (script : Source) (word : List ℕ) (limit : ℕ) (state : State) → p ≡ numbered_script script → state ≡ start p word limit
    → run.calls p 32 p.external Forward state ≡ meaning.ending script word limit
same_run p script word limit state is begun =
    ap (run.calls p 32 p.external Forward) begun ∙ ap (λ (q : programs.Program). ending_of q word limit) is ∙ ending_same script word limit

pub same_telling : (p : programs.Program) (script : Source) (word : List ℕ) (limit : ℕ) (state told : State) → p ≡ numbered_script script → state ≡ start p word limit
    → told ≡ record state { events = Some [] } → run.calls p 32 p.external Forward told ≡ meaning.ending_with_events script word limit
same_telling p script word limit state told is begun tells =
    ap (run.calls p 32 p.external Forward) (tells ∙ ap (λ (s : State). record s { events = Some [] }) begun)
    ∙ ap (λ (q : programs.Program). telling_of q word limit) is ∙ telling_same script word limit
