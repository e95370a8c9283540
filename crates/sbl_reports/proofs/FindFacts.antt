-- A text in another one.
use Rattle.std.proofs.Common.{◌≡◌, ◌∙◌, ◌||◌, ◌+◌, ◌<◌, ℕ, Bool, false, List, ◌∷◌, length, drop, get_or, nat_eq, sym, ap}
use Rattle.std.proofs.lemmas.List.{drop_more}
use Rattle.std.specs.List.{starts_with}
use Rattle.sbl_reports.specs.Lookups.{contains_text}

-- a text that begins at a place, or later
pub contains_at : (text part : List ℕ) (i : ℕ) → i < length text → contains_text (drop i text) part ≡ (starts_with nat_eq (drop i text) part || contains_text (drop (i + 1) text) part)
contains_at text part i lt =
    let split : drop i text ≡ get_or text i 0 ∷ drop (i + 1) text = drop_more text i 0 lt in
    ap (λ (l : List ℕ). contains_text l part) split ∙ ap (λ (l : List ℕ). starts_with nat_eq l part || contains_text (drop (i + 1) text) part) (sym split)

-- a text that does not begin at a place begins later
pub contains_later : (text part : List ℕ) (i : ℕ) → i < length text → starts_with nat_eq (drop i text) part ≡ false → contains_text (drop (i + 1) text) part ≡ contains_text (drop i text) part
contains_later text part i lt not_here = sym (contains_at text part i lt ∙ ap (λ (b : Bool). b || contains_text (drop (i + 1) text) part) not_here)
