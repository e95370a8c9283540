-- Families that are read character by character.
use Rattle.std.specs.Prelude.{ℕ, List, [], ◌∷◌, ◌++◌, if◌then◌else◌, map}
use Rattle.std.specs.declared.alloc.Global.{Global}
use Rattle.std.specs.declared.vec.Vec.{Vec}
use Rattle.sbl_reports.specs.Families.{is_feed, is_separator}
use Rattle.sbl_reports.specs.declared.families.Reader.{Reader}

abbrev pub words_read : List (Vec ℕ Global) → List (List ℕ)
words_read words = map (λ w. w.items) words

abbrev pub families_read : List (Vec (Vec ℕ Global) Global) → List (List (List ℕ))
families_read families = map (λ f. words_read f.items) families

-- the words of a line at the end of the word that was begun, if there is one
abbrev pub with_word : List (List ℕ) → List ℕ → List (List ℕ)
with_word words [] = words
with_word words (c ∷ word) = words ++ (c ∷ word) ∷ []

-- the families of the lines before, of the words of this line, of the word that was begun, and of the characters that follow
unfoldable pub read_on : List (List (List ℕ)) → List (List ℕ) → List ℕ → List ℕ → List (List (List ℕ))
read_on families words word [] = families ++ with_word words word ∷ []
read_on families words word (c ∷ text) =
    if is_feed c then read_on (families ++ with_word words word ∷ []) [] [] text
    else (if is_separator c then read_on families (with_word words word) [] text
    else read_on families words (word ++ c ∷ []) text)

-- what a reader makes of the characters that follow
abbrev pub read_by : Reader → List ℕ → List (List (List ℕ))
read_by r text = read_on (families_read r.families.items) (words_read r.family.items) r.word.items text
