-- Families that are read character by character are those of the lines.
use Rattle.std.proofs.Common.{◌≡◌, ◌∙◌, ◌++◌, ◌<◌, ℕ, Bool, true, false, List, [], ◌∷◌, length, map, refl, sym, ap, append_assoc, arith}
use Rattle.std.proofs.lemmas.List.{append-nil}
use Rattle.std.proofs.lemmas.List.Splits.{length-slice_split, slice_split-cons_yes, slice_split-cons_no}
use Rattle.std.specs.List.{filter, onto_first, slice_split}
use Rattle.sbl_reports.specs.Families.{families_in, family_in, has_some, is_feed, is_separator}
use Rattle.sbl_reports.specs.FamilyReader.{read_on, with_word}

-- the first part with a beginning
abbrev with_prefix : List ℕ → List (List ℕ) → List (List ℕ)
with_prefix w [] = w ∷ []
with_prefix w (part ∷ parts) = (w ++ part) ∷ parts

-- the words of a line that began with a part of a word
abbrev words_from : List ℕ → List ℕ → List (List ℕ)
words_from w line = filter has_some (with_prefix w (slice_split is_separator line))

-- the families of lines, the first of which began with some words and a part of a word
abbrev lists_from : List (List ℕ) → List ℕ → List (List ℕ) → List (List (List ℕ))
lists_from ws w [] = (ws ++ words_from w []) ∷ []
lists_from ws w (line ∷ lines) = (ws ++ words_from w line) ∷ map family_in lines

word_last : (ws : List (List ℕ)) (w : List ℕ) (parts : List (List ℕ)) → ws ++ filter has_some ((w ++ []) ∷ parts) ≡ with_word ws w ++ filter has_some parts
word_last ws [] parts = refl
word_last ws (c ∷ w) parts = rw (append-nil w) (sym (append_assoc ws ((c ∷ w) ∷ []) (filter has_some parts)))

word_only : (ws : List (List ℕ)) (w : List ℕ) → ws ++ words_from w [] ≡ with_word ws w
word_only ws w = word_last ws w [] ∙ append-nil (with_word ws w)

-- a word that has no part yet
unbegun : (parts : List (List ℕ)) → filter has_some (with_prefix [] parts) ≡ filter has_some parts
unbegun [] = refl
unbegun (part ∷ parts) = refl

one_more : (w : List ℕ) (c : ℕ) (parts : List (List ℕ)) → with_prefix w (onto_first c parts) ≡ with_prefix (w ++ c ∷ []) parts
one_more w c [] = refl
one_more w c (part ∷ parts) = ap (λ (p : List ℕ). p ∷ parts) (sym (append_assoc w (c ∷ []) part))

-- a separator ends a word, another character goes on with it
ends_word : (ws : List (List ℕ)) (w : List ℕ) (c : ℕ) (line : List ℕ) → is_separator c ≡ true → with_word ws w ++ words_from [] line ≡ ws ++ words_from w (c ∷ line)
ends_word ws w c line e =
    ap (λ (x : List (List ℕ)). with_word ws w ++ x) (unbegun (slice_split is_separator line)) ∙ sym (word_last ws w (slice_split is_separator line))
    ∙ ap (λ (parts : List (List ℕ)). ws ++ filter has_some (with_prefix w parts)) (sym (slice_split-cons_yes is_separator c line e))

goes_on : (ws : List (List ℕ)) (w : List ℕ) (c : ℕ) (line : List ℕ) → is_separator c ≡ false → ws ++ words_from (w ++ c ∷ []) line ≡ ws ++ words_from w (c ∷ line)
goes_on ws w c line e =
    ap (λ (parts : List (List ℕ)). ws ++ filter has_some parts) (sym (one_more w c (slice_split is_separator line)))
    ∙ ap (λ (parts : List (List ℕ)). ws ++ filter has_some (with_prefix w parts)) (sym (slice_split-cons_no is_separator c line e))

list_ends_word : (ws : List (List ℕ)) (w : List ℕ) (c : ℕ) (lines : List (List ℕ)) → is_separator c ≡ true → lists_from (with_word ws w) [] lines ≡ lists_from ws w (onto_first c lines)
list_ends_word ws w c [] e = ap (λ (x : List (List ℕ)). x ∷ []) (ends_word ws w c [] e)
list_ends_word ws w c (line ∷ lines) e = ap (λ (x : List (List ℕ)). x ∷ map family_in lines) (ends_word ws w c line e)

list_goes_on : (ws : List (List ℕ)) (w : List ℕ) (c : ℕ) (lines : List (List ℕ)) → is_separator c ≡ false → lists_from ws (w ++ c ∷ []) lines ≡ lists_from ws w (onto_first c lines)
list_goes_on ws w c [] e = ap (λ (x : List (List ℕ)). x ∷ []) (goes_on ws w c [] e)
list_goes_on ws w c (line ∷ lines) e = ap (λ (x : List (List ℕ)). x ∷ map family_in lines) (goes_on ws w c line e)

-- lines that are whole
whole_lines : (lines : List (List ℕ)) → 0 < length lines → lists_from [] [] lines ≡ map family_in lines
whole_lines [] some = absurd (omega (arith, some))
whole_lines (line ∷ lines) some = ap (λ (x : List (List ℕ)). x ∷ map family_in lines) (unbegun (slice_split is_separator line))

whole_text : (text : List ℕ) → lists_from [] [] (slice_split is_feed text) ≡ map family_in (slice_split is_feed text)
whole_text text = whole_lines (slice_split is_feed text) (omega (arith, length-slice_split is_feed text))

-- ---- a character

pub read_feed : (fs : List (List (List ℕ))) (ws : List (List ℕ)) (w : List ℕ) (c : ℕ) (text : List ℕ) → is_feed c ≡ true
    → read_on fs ws w (c ∷ text) ≡ read_on (fs ++ with_word ws w ∷ []) [] [] text
unfolding read_on
read_feed fs ws w c text e = rw e refl

pub read_separator : (fs : List (List (List ℕ))) (ws : List (List ℕ)) (w : List ℕ) (c : ℕ) (text : List ℕ) → is_feed c ≡ false → is_separator c ≡ true
    → read_on fs ws w (c ∷ text) ≡ read_on fs (with_word ws w) [] text
unfolding read_on
read_separator fs ws w c text e f = rw (e, f) refl

pub read_other : (fs : List (List (List ℕ))) (ws : List (List ℕ)) (w : List ℕ) (c : ℕ) (text : List ℕ) → is_feed c ≡ false → is_separator c ≡ false
    → read_on fs ws w (c ∷ text) ≡ read_on fs ws (w ++ c ∷ []) text
unfolding read_on
read_other fs ws w c text e f = rw (e, f) refl

pub read_end : (fs : List (List (List ℕ))) (ws : List (List ℕ)) (w : List ℕ) → read_on fs ws w [] ≡ fs ++ with_word ws w ∷ []
unfolding read_on
read_end fs ws w = refl

-- ---- a text

reads : (text : List ℕ) (fs : List (List (List ℕ))) (ws : List (List ℕ)) (w : List ℕ) → read_on fs ws w text ≡ fs ++ lists_from ws w (slice_split is_feed text)
reads [] fs ws w = read_end fs ws w ∙ ap (λ (x : List (List ℕ)). fs ++ x ∷ []) (sym (word_only ws w))
reads (c ∷ text) fs ws w = by (reads text) (is_feed c) refl (is_separator c) refl
  where
    by : ((gs : List (List (List ℕ))) (vs : List (List ℕ)) (v : List ℕ) → read_on gs vs v text ≡ gs ++ lists_from vs v (slice_split is_feed text))
        → (f : Bool) → is_feed c ≡ f → (s : Bool) → is_separator c ≡ s → read_on fs ws w (c ∷ text) ≡ fs ++ lists_from ws w (slice_split is_feed (c ∷ text))
    by more true e s d =
        read_feed fs ws w c text e ∙ more (fs ++ with_word ws w ∷ []) [] [] ∙ append_assoc fs (with_word ws w ∷ []) (lists_from [] [] (slice_split is_feed text))
        ∙ ap (λ (x : List (List (List ℕ))). fs ++ with_word ws w ∷ x) (whole_text text)
        ∙ ap (λ (x : List (List ℕ)). fs ++ x ∷ map family_in (slice_split is_feed text)) (sym (word_only ws w))
        ∙ ap (λ (x : List (List ℕ)). fs ++ lists_from ws w x) (sym (slice_split-cons_yes is_feed c text e))
    by more false e true d =
        read_separator fs ws w c text e d ∙ more fs (with_word ws w) [] ∙ ap (λ (x : List (List (List ℕ))). fs ++ x) (list_ends_word ws w c (slice_split is_feed text) d)
        ∙ ap (λ (x : List (List ℕ)). fs ++ lists_from ws w x) (sym (slice_split-cons_no is_feed c text e))
    by more false e false d =
        read_other fs ws w c text e d ∙ more fs ws (w ++ c ∷ []) ∙ ap (λ (x : List (List (List ℕ))). fs ++ x) (list_goes_on ws w c (slice_split is_feed text) d)
        ∙ ap (λ (x : List (List ℕ)). fs ++ lists_from ws w x) (sym (slice_split-cons_no is_feed c text e))

pub reads_families : (text : List ℕ) → read_on [] [] [] text ≡ families_in text
unfolding families_in
reads_families text = reads text [] [] [] ∙ whole_text text
