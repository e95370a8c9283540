-- What taking a word does to the entries that are kept.
use Rattle.std.proofs.Common.{◌≡◌, ◌∙◌, ◌++◌, ℕ, Bool, true, false, List, [], ◌∷◌, length, refl, sym, ap, subst, nat_eq, None, HashMap, Vec, Global}
use Rattle.std.specs.Str.{bytes_eq}
use Rattle.indexmap.specs.IndexMap.{get, insert_entry}
use Rattle.indexmap.proofs.CallerLemmas.{insert_entry-new}
use Rattle.sbl_last_runs.specs.declared.run_trace.RunTrace.{RunTrace}
use Rattle.sbl_last_runs.specs.declared.word_hash.WordKeys.{WordKeys}
use Rattle.sbl_last_runs.specs.KeptEntries.{KeptWord}
use Rattle.sbl_bench.specs.Vocabulary.{is_word, with_word}

abbrev pub Traces : Type 0
Traces = HashMap (Vec ℕ Global) RunTrace WordKeys

abbrev pub same_word : Vec ℕ Global → Vec ℕ Global → Bool
same_word x y = bytes_eq x.items y.items

-- what holds of the entries that are left by an entry of the map holds of the map's, once its borrow has ended
pub comes_home : {G : Type 0} {g h : G} {left : Traces} (P : List KeptWord → Type 0) (es : List KeptWord) → g ≡ h → left.entries ≡ es → P es
    → (given : (m : Traces) × (g ≡ h → m ≡ left)) → P given.0.entries
comes_home P es same stays p given = subst (λ (m : Traces). P m.entries) (sym (given.1 same)) (subst P (sym stays) p)

-- an entry that is put in for a word that has none goes last
pub goes_last : (m : Traces) (word : Vec ℕ Global) (v traced : RunTrace) (es : List KeptWord) → get same_word m word ≡ None → v ≡ traced
    → es ≡ insert_entry same_word m.entries word v → es ≡ m.entries ++ (word, traced) ∷ []
goes_last m word v traced es none made put =
    put ∙ insert_entry-new same_word m word v none ∙ ap (λ (t : RunTrace). m.entries ++ (word, t) ∷ []) made

-- ---- what becomes of the words

pub skips : (word : List ℕ) (words : List (List ℕ)) → is_word word words ≡ true → with_word words word ≡ words
skips [] words there = refl
skips (c ∷ word) words there = rw there refl

pub takes : (word : List ℕ) (words : List (List ℕ)) → nat_eq (length word) 0 ≡ false → is_word word words ≡ false → with_word words word ≡ words ++ word ∷ []
takes [] words some new = cc
takes (c ∷ word) words some new = rw new refl
