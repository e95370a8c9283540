-- A run whose word touches nothing that is picked has the same events under two scripts that agree outside what is picked.
use Rattle.std.proofs.Common.{◌≡◌, ℕ, Bool, false, List, [], refl, Some}
use Rattle.sbl_ast.specs.NamedParts.{Part'}
use Rattle.sbl_ast.specs.Source.{Source}
use Rattle.sbl_semantics.specs.Items.{DeclaredNames}
use Rattle.sbl_semantics.specs.Meaning.{start, ending_with_events}
use Rattle.sbl_semantics.specs.State.{State}
use Rattle.sbl_semantics.specs.TouchedItems.{names_of}
use Rattle.sbl_semantics.specs.inside.RegionRuns as regions
use Rattle.sbl_semantics.proofs.ByLandmarks.{telling_is}
use Rattle.sbl_machine.specs.BuiltFrom.{IsClosed}
use Rattle.sbl_machine.specs.Frame.{AgreeOutside}
use Rattle.sbl_machine.specs.Holes.{holed_script}
use Rattle.sbl_machine.proofs.FrameLaw.{Kin, agree_on, levels_kin, marked_by}
use Rattle.sbl_machine.proofs.FramePairs.{dirty_at}

abbrev start_with_events : DeclaredNames → List ℕ → ℕ → State
start_with_events ns word limit = record (start ns word limit) { events = Some [] }

regions_kin : (picked : Part' → Bool) (s : Source) → IsClosed picked s → (word : List ℕ) (limit : ℕ) → Kin (marked_by picked (names_of s)) (regions.ending_with_events s word limit) (regions.ending_with_events (holed_script picked s) word limit)
unfolding regions.ending_with_events
regions_kin picked s closed word limit = levels_kin (λ ns. start_with_events ns word limit) (λ m ns. record { here = refl; quiet = λ k c clear. refl }) picked 32 s closed

events_kin : (picked : Part' → Bool) (s : Source) → IsClosed picked s → (word : List ℕ) (limit : ℕ) → Kin (marked_by picked (names_of s)) (ending_with_events s word limit) (ending_with_events (holed_script picked s) word limit)
events_kin picked s closed word limit =
    rw (telling_is s word limit, telling_is (holed_script picked s) word limit) (regions_kin picked s closed word limit)

pub events_on : (picked : Part' → Bool) (s t : Source) → IsClosed picked s → AgreeOutside picked s t → (word : List ℕ) (limit : ℕ) → dirty_at (marked_by picked (names_of s)) (ending_with_events s word limit) ≡ false
    → ending_with_events t word limit ≡ ending_with_events s word limit
events_on picked s t closed agree word limit clear = agree_on picked (λ x. ending_with_events x word limit) (λ x c. events_kin picked x c word limit) s t closed agree clear
