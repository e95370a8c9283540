-- The rows of the words whose runs meet an item.
use Rattle.std.proofs.Common.{◌≡◌, ◌∙◌, ◌++◌, ◌∷◌, [], List, Bool, true, false, cond, map, Some, append_assoc, refl, sym, ap}
use Rattle.std.specs.List.{filter, list_all}
use Rattle.sbl_rows.specs.Rows.{Row}
use Rattle.sbl_rows.specs.Setting.{Setting}
use Rattle.sbl_machine.specs.BuiltFrom.{meets}
use Rattle.sbl_machine.specs.DifferLaws.{OneMeets}
use Rattle.sbl_machine.specs.Marks.{has_item}
use Rattle.sbl_semantics.specs.TouchedItems.{Names'}
use Rattle.sbl_ast.specs.NamedParts.{Part'}
use Rattle.sbl_last_runs.specs.KeptEntries.{AreFresh, KeptWord, words_in}
use Rattle.sbl_bench.specs.Traces.{rows_meeting}
use Rattle.sbl_bench.specs.inside.AffectedWords.{AffectedWords, AreMet}
use Rattle.sbl_bench.specs.inside.Changes.{is_met}
use Rattle.sbl_last_runs.specs.ShownRows.{row_shown}
use Rattle.sbl_bench.proofs.Meeting.{met_fresh}

-- the rows that entries show whose runs are affected
abbrev pub shown_rows : AffectedWords → List KeptWord → List Row
shown_rows a es = map row_shown (filter (is_met a) es)

-- one more entry is looked at, and its run is not affected
pub not_shown : (a : AffectedWords) (before : List Row) (es rest all : List KeptWord) (e : KeptWord) → before ++ shown_rows a es ≡ shown_rows a all
    → es ≡ e ∷ rest → is_met a e ≡ false → before ++ shown_rows a rest ≡ shown_rows a all
not_shown a before es rest all e so split off =
    ap (λ (b : Bool). before ++ map row_shown (cond b (e ∷ filter (is_met a) rest) (filter (is_met a) rest))) (sym off)
    ∙ ap (λ (l : List KeptWord). before ++ shown_rows a l) (sym split) ∙ so

-- one more entry is looked at, and its run is affected
pub one_shown : (a : AffectedWords) (before more : List Row) (es rest all : List KeptWord) (e : KeptWord) → before ++ shown_rows a es ≡ shown_rows a all
    → es ≡ e ∷ rest → is_met a e ≡ true → more ≡ before ++ row_shown e ∷ [] → more ++ shown_rows a rest ≡ shown_rows a all
one_shown a before more es rest all e so split on next =
    ap (λ (l : List Row). l ++ shown_rows a rest) next
    ∙ append_assoc before (row_shown e ∷ []) (shown_rows a rest)
    ∙ ap (λ (b : Bool). before ++ map row_shown (cond b (e ∷ filter (is_met a) rest) (filter (is_met a) rest))) (sym on)
    ∙ ap (λ (l : List KeptWord). before ++ shown_rows a l) (sym split) ∙ so

-- a script that defines an item defines each of a list of this item alone
pub one_there : (names : Names') (x : Part') → has_item names x ≡ true → list_all (has_item names) (x ∷ []) ≡ true
one_there names x h = rw h refl

-- a run that is kept is affected exactly if a fresh one meets the item
meets_fresh : OneMeets → (s : Setting) (e : KeptWord) (x : Part') (a : AffectedWords) → AreMet s.script (Some (x ∷ [])) a → AreFresh s (e ∷ [])
    → is_met a e ≡ meets x s.script e.0.items s.limit
meets_fresh alone s e x a met fresh = met_fresh s a e fresh.0 ∙ sym (met s.limit e.0.items) ∙ alone x s.script e.0.items s.limit

-- the rows that are shown_rows are those of the words whose runs meet the item
pub shown_meeting : OneMeets → (s : Setting) (es : List KeptWord) (x : Part') (a : AffectedWords) → AreFresh s es → AreMet s.script (Some (x ∷ [])) a
    → shown_rows a es ≡ rows_meeting s (words_in es) x
shown_meeting alone s [] x a fresh met = refl
shown_meeting alone s (e ∷ es) x a fresh met = by (is_met a e) refl (shown_meeting alone s es x a fresh.1 met)
  where
    same : is_met a e ≡ meets x s.script e.0.items s.limit
    same = meets_fresh alone s e x a met (fresh.0, tt)

    by : (b : Bool) → is_met a e ≡ b → shown_rows a es ≡ rows_meeting s (words_in es) x → shown_rows a (e ∷ es) ≡ rows_meeting s (words_in (e ∷ es)) x
    by true h rest = rw (h, sym same ∙ h) (λ i. record { word = e.0.items; outcome = fresh.0.outcome i } ∷ rest i)
    by false h rest = rw (h, sym same ∙ h) rest
