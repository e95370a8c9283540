-- A search without conditions takes the longest string that fits.
use Rattle.std.proofs.Common.{◌≡◌, ◌∙◌, Bool, true, false, List, [], ◌∷◌, ◌++◌, length, Some, None, ap, refl, sym}
use Rattle.std.specs.Prelude.{◌&&◌, ◌||◌}
use Rattle.std.specs.List.{list_all, list_any}
use Rattle.std.proofs.lemmas.Bool.{true≢false}
use Rattle.sbl_semantics.specs.Meaning.{Offer}
use Rattle.sbl_uses.specs.Searches.{PlainTakesLongest, PlainTakesOne, first_length, is_conditional}

abbrev conditional : Offer → Bool
conditional o = is_conditional o.condition

both : (b c d : Bool) → (b && c) ≡ true → (b || d) ≡ false → ⊥
both true c d h e = true≢false e
both false c d h e = true≢false (sym h)

taken_first : (passed : List Offer) (o : Offer) (others os : List Offer) → list_all conditional passed ≡ true → list_any conditional (passed ++ (o ∷ others)) ≡ false → os ≡ passed ++ (o ∷ others) → first_length os ≡ Some (length o.string)
taken_first [] o others os h e same = ap first_length same
taken_first (p ∷ passed) o others os h e same = absurd (both (conditional p) (list_all conditional passed) (list_any conditional (passed ++ (o ∷ others))) h e)

pub plain_takes_longest : PlainTakesLongest
plain_takes_longest ns bodies os cs n e h =
    taken_first h.before h.entry h.rest os h.conditional (ap (list_any conditional) (sym h.split) ∙ e) h.split ∙ ap Some (sym h.length_is)

none_first : (os : List Offer) → list_all conditional os ≡ true → list_any conditional os ≡ false → first_length os ≡ None
none_first [] h e = refl
none_first (o ∷ os) h e = absurd (both (conditional o) (list_all conditional os) (list_any conditional os) h e)

pub plain_takes_one : PlainTakesOne
plain_takes_one ns bodies os cs e h = none_first os h.conditional e
