-- The table of the reserved words, read by words and by texts.
use Rattle.std.proofs.Common.{◌≡◌, ℕ, Bool, true, false, List, [], ◌∷◌, map, Option, Some, refl, sym, ap, ◌∙◌}
use Rattle.std.specs.Prelude.{if◌then◌else◌, option_map, find}
use Rattle.std.specs.Str.{bytes_eq}
use Rattle.std.specs.List.{AllByRecursion}
use Rattle.sbl_token.specs.declared.words.Word.{Word}
use Rattle.sbl_token.specs.Lookup.{found_in}
use Rattle.sbl_token.specs.Words.{word_text}

-- each word of the table has the text beside it
abbrev pub Agree : List (Word × List ℕ) → Type 0
Agree ps = AllByRecursion (λ p. word_text p.0 ≡ p.1) ps

pub lookup_is : (ps : List (Word × List ℕ)) (text : List ℕ) → Agree ps → found_in (map (λ p. p.0) ps) text ≡ option_map (λ p. p.0) (find (λ p. bytes_eq p.1 text) ps)
lookup_is [] text h = refl
lookup_is (p ∷ ps) text h = at (bytes_eq p.1 text) refl (lookup_is ps text h.1)
  where
    at : (b : Bool) → bytes_eq p.1 text ≡ b → found_in (map (λ p. p.0) ps) text ≡ option_map (λ p. p.0) (find (λ p. bytes_eq p.1 text) ps) → found_in (map (λ p. p.0) (p ∷ ps)) text ≡ option_map (λ p. p.0) (find (λ p. bytes_eq p.1 text) (p ∷ ps))
    at true i more = rw h.0 (rw i refl)
    at false i more = rw h.0 (rw i more)
