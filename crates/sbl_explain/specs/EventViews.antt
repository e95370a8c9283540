-- The two parts of a row: what is known before its event, and what after it.
use Rattle.std.specs.Prelude.{ℕ, List, [], ◌∷◌, ◌++◌, codes, decimal}
use Rattle.std.specs.Str.{encode_utf8_all}
use Rattle.sbl_semantics.specs.Events.{Event', Enters, Leaves, Searches, Finds, Puts}
use Rattle.sbl_uses.specs.Moments as spec
use Rattle.sbl_explain.specs.WhyRows.{place_fields, row_of}

-- what the row of an event has of the time before it
abbrev pub fields_before : List (List ℕ) → spec.Moment → Event' → List (List ℕ)
fields_before names m (Enters i) = codes "call" ∷ []
fields_before names m (Puts from to put) = codes "put" ∷ (place_fields names m ++ decimal from ∷ decimal to ∷ encode_utf8_all put ∷ [])
fields_before names m (Leaves signal) = row_of names m (Leaves signal)
fields_before names m (Searches i k mode cursor) = row_of names m (Searches i k mode cursor)
fields_before names m (Finds k taken) = row_of names m (Finds k taken)

-- what it has of the time after it
abbrev pub fields_after : List (List ℕ) → spec.Moment → Event' → List (List ℕ)
fields_after names m (Enters i) = place_fields names m
fields_after names m (Puts from to put) = encode_utf8_all m.text ∷ []
fields_after names m e = []
