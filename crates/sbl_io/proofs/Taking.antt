-- What a report takes, part by part.
use Rattle.std.proofs.Common.{◌≡◌, ◌∙◌, ◌++◌, [], ℕ, List, ap, refl, subst, sym, append_assoc}
use Rattle.std.proofs.lemmas.List.{append-nil}
use Rattle.sbl_io.specs.Reports.{TakesMore}

module _ {T : Type 0} (has_taken : T → List ℕ → Type 0) where
  pub takes-none : (x : T) → TakesMore has_taken x x []
  takes-none x text has = subst (has_taken x) (sym (append-nil text)) has

  pub takes-same : (x y : T) (a b : List ℕ) → a ≡ b → TakesMore has_taken x y a → TakesMore has_taken x y b
  takes-same x y a b same takes = subst (λ (t : List ℕ). TakesMore has_taken x y t) same takes

  pub takes-then : (x y z : T) (a b : List ℕ) → TakesMore has_taken x y a → TakesMore has_taken y z b → TakesMore has_taken x z (a ++ b)
  takes-then x y z a b first next text has = subst (has_taken z) (append_assoc text a b) (next (text ++ a) (first text has))

  -- What was taken so far, and the rest after it, are the whole.
  abbrev pub Leaves : T → T → List ℕ → List ℕ → Type 0
  Leaves old new rest whole = (text : List ℕ) → has_taken old text → (now : List ℕ) × has_taken new now × (now ++ rest ≡ text ++ whole)

  pub leaves-all : (x : T) (whole : List ℕ) → Leaves x x whole whole
  leaves-all x whole text has = (text, has, refl)

  pub leaves-less : (x y z : T) (a rest part whole : List ℕ) → part ≡ a ++ rest → Leaves x y part whole → TakesMore has_taken y z a → Leaves x z rest whole
  leaves-less x y z a rest part whole parts leaves takes text has =
      let p = leaves text has in
      (p.0 ++ a, takes p.0 p.1, append_assoc p.0 a rest ∙ ap (λ (l : List ℕ). p.0 ++ l) (sym parts) ∙ p.2)

  pub leaves-none : (x y : T) (rest whole : List ℕ) → rest ≡ [] → Leaves x y rest whole → TakesMore has_taken x y whole
  leaves-none x y rest whole none leaves text has =
      let p = leaves text has in
      subst (has_taken y) (sym (append-nil p.0) ∙ ap (λ (l : List ℕ). p.0 ++ l) (sym none) ∙ p.2) p.1
