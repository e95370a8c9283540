-- Names for parts of the definitions of Meaning.antt and RegionRuns.antt, which only proofs use.
use Rattle.std.specs.Prelude.{ℕ, suc, Bool, true, false, List, length, nat_eq, if◌then◌else◌, Option, None}
use Rattle.std.specs.List.{find}
use Rattle.std.specs.Option.{option_map_or}
use Rattle.std.specs.Cmp.Lexicographic.{pointwise}
use Rattle.sbl_ast.specs.Tree as trees
use Rattle.sbl_ast.specs.declared.mode.Mode.{Mode}
use Rattle.sbl_semantics.specs.Control.{pay_first}
use Rattle.sbl_semantics.specs.Fitting.{read_as, ahead_at}
use Rattle.sbl_semantics.specs.Items.{DeclaredNames}
use Rattle.sbl_semantics.specs.Meaning.{Offer, offers, try_each, search}
use Rattle.sbl_semantics.specs.inside.RegionRuns.{act, others_do}
use Rattle.sbl_semantics.specs.Landmarks.{Among}
use Rattle.sbl_semantics.specs.Regions.{number_after, first_others, waits}
use Rattle.sbl_semantics.specs.State.{Doing, Signals, after, bound_of}

abbrev pub begins : Bool → Doing → Doing → Doing
begins w search begun m s = if w then Signals true s else after (pay_first search m s) (begun m) (Signals false)

abbrev pub offering : Mode → List ℕ → List Offer → Option Offer
offering r w os = find (λ o. pointwise nat_eq w (read_as r o.string)) os

module _ (call : List ℕ → Doing) where
  abbrev pub condition_does : Option (List ℕ) → Doing
  condition_does c m s = option_map_or (λ n. pay_first (call n) m s) c (Signals true s)

  abbrev pub search_among : Among → Doing
  search_among a m s =
      let x = ahead_at a.mode s.text s.cursor (bound_of m s) in
      try_each call a.number (offers 0 a.groups) a.mode m s x (suc (length x)) s

module _ (ns : DeclaredNames) (class : List ℕ → ℕ → Bool) (call : List ℕ → Doing) where
  abbrev pub search_ahead : Option Among → Doing
  search_ahead n m s = option_map_or (λ a. search call a m s) n (Signals false s)

  abbrev pub row_does : Mode → trees.Command → trees.Others → Doing
  row_does r c os =
      others_do ns class call r (number_after c 0) (waits c false) None os (act ns class call r 0 false (first_others r os (number_after c 0) None) c)
