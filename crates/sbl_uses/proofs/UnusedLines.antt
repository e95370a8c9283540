-- The lines of some rows, and of others after them, as a report takes them.
use Rattle.std.proofs.Common.{◌≡◌, ◌∙◌, ◌++◌, ◌∷◌, ℕ, Bool, true, false, List, [], sym, ap, subst}
use Rattle.std.proofs.lemmas.Grind.{flat_map-append}
use Rattle.std.proofs.lemmas.List.{append-nil}
use Rattle.std.specs.List.{flat_map}
use Rattle.std.specs.Prelude.{OnOk, Result, Ok, Err, if◌then◌else◌}
use Rattle.std.specs.declared.alloc.AllocError.{AllocError}
use Rattle.sbl_io.specs.Records.{record_line, records_text}
use Rattle.sbl_io.specs.Reports.{TakesMore}
use Rattle.sbl_io.proofs.Taking.{Leaves, leaves-less, takes-none, takes-same, takes-then}

pub both_texts : (a b : List (List (List ℕ))) → records_text (a ++ b) ≡ records_text a ++ records_text b
both_texts a b = flat_map-append record_line a b

pub one_text : (a : List (List ℕ)) → records_text (a ∷ []) ≡ record_line a
one_text a = append-nil (record_line a)

-- the lines for a list that begins with a value
pub text_of_more : {X : Type 0} (f : X → List (List (List ℕ))) (x : X) (xs rest : List X) → xs ≡ x ∷ rest
    → records_text (flat_map f xs) ≡ records_text (f x) ++ records_text (flat_map f rest)
text_of_more {X = X} f x xs rest are = ap (λ (l : List X). records_text (flat_map f l)) are ∙ both_texts (f x) (flat_map f rest)

module _ {T : Type 0} (has_taken : T → List ℕ → Type 0) where
  -- a report takes the lines for one value more
  pub more_taken : {X : Type 0} (f : X → List (List (List ℕ))) (x : X) (xs : List X) (a y z : T) (whole : List ℕ)
      → TakesMore has_taken y z (records_text (f x)) → Leaves has_taken a y (records_text (flat_map f (x ∷ xs))) whole
      → Leaves has_taken a z (records_text (flat_map f xs)) whole
  more_taken f x xs a y z whole takes leaves =
      leaves-less has_taken a y z (records_text (f x)) (records_text (flat_map f xs)) _ whole (both_texts (f x) (flat_map f xs)) leaves takes

  pub one_taken : (y z : T) (a : List (List ℕ)) → TakesMore has_taken y z (record_line a) → TakesMore has_taken y z (records_text (a ∷ []))
  one_taken y z a takes = takes-same has_taken y z (record_line a) (records_text (a ∷ [])) (sym (one_text a)) takes

  -- rows that depend on a test
  pub if_taken : (b : Bool) (y z : T) (a : List (List ℕ)) → b ≡ false → TakesMore has_taken y z (record_line a)
      → TakesMore has_taken y z (records_text (if b then [] else a ∷ []))
  if_taken b y z a is_no takes = subst (λ (t : Bool). TakesMore has_taken y z (records_text (if t then [] else a ∷ []))) (sym is_no) (one_taken y z a takes)

  pub if_none : (b : Bool) (y : T) (rows : List (List (List ℕ))) → b ≡ true → TakesMore has_taken y y (records_text (if b then [] else rows))
  if_none b y rows is_yes = subst (λ (t : Bool). TakesMore has_taken y y (records_text (if t then [] else rows))) (sym is_yes) (takes-none has_taken y)

  -- lines after lines
  pub two_taken : (x y z : T) (r : Result (Unit {0}) AllocError) (a b : List (List (List ℕ))) → TakesMore has_taken x y (records_text a)
      → OnOk r (TakesMore has_taken y z (records_text b)) → OnOk r (TakesMore has_taken x z (records_text (a ++ b)))
  two_taken x y z (Err e) a b first next = tt
  two_taken x y z (Ok u) a b first next =
      takes-same has_taken x z (records_text a ++ records_text b) (records_text (a ++ b)) (sym (both_texts a b)) (takes-then has_taken x y z (records_text a) (records_text b) first next)
