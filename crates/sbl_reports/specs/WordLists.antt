-- Lists of words and their stems, as search engines read them: which rows a form has lines for, and these lines.
use Rattle.std.specs.Prelude.{◌≡◌, ℕ, ◌-◌, Bool, true, false, not, ◌==◌, ◌&&◌, ◌||◌, List, [], ◌∷◌, ◌++◌, codes, length, slice_index_or}
use Rattle.std.specs.Prelude.{if◌then◌else◌}
use Rattle.std.specs.Char.{is_whitespace}
use Rattle.std.specs.Char.Unicode.ToLowercase.{to_lowercase}
use Rattle.std.specs.List.{flat_map, list_all}
use Rattle.std.specs.Str.{all_scalars, encode_utf8_all}
use Rattle.sbl_rows.specs.Rows.{Row}
use Rattle.sbl_semantics.specs.Outcome.{Outcome', Stem, Refused}
use Rattle.sbl_reports.specs.declared.word_lists.ListForm.{ListForm}
use Rattle.sbl_reports.specs.declared.word_lists.ListForm.TheVariants.{Synonym, Override, Tsv}

-- ---- what a form can say

-- lower case leaves a character as it is
abbrev pub is_lowered : ℕ → Bool
is_lowered c = slice_index_or (to_lowercase c) 0 0 == c

-- a character that no engine cuts a line at, drops, changes or reads as a sign
abbrev pub is_kept : ListForm → ℕ → Bool
is_kept Synonym c = is_lowered c
is_kept Override c = not (c == 44) && not (c == 61) && not (c == 92)
is_kept Tsv c = true

abbrev pub may_have : ListForm → ℕ → Bool
may_have form c = if is_whitespace c || (c == 0) then false else is_kept form c

-- PostgreSQL takes a stem with a star at its end for a prefix; in the other lists a line that begins with # is a comment
abbrev pub is_plain : ListForm → List ℕ → List ℕ → Bool
is_plain Synonym word stem = not (slice_index_or stem (length stem - 1) 0 == 42)
is_plain Override word stem = not (slice_index_or word 0 0 == 35)
is_plain Tsv word stem = not (slice_index_or word 0 0 == 35)

-- whether a form has a line for a word and its stem
abbrev pub can_say : ListForm → List ℕ → List ℕ → Bool
can_say form word stem = list_all (may_have form) word && list_all (may_have form) stem && not (length stem == 0) && is_plain form word stem

-- ---- the lines

-- what is between a word and its stem
abbrev pub between : ListForm → List ℕ
between Synonym = codes " "
between Override = codes " => "
between Tsv = 9 ∷ []

abbrev pub list_line : ListForm → List ℕ → List ℕ → List ℕ
list_line form word stem = encode_utf8_all word ++ between form ++ encode_utf8_all stem ++ 10 ∷ []

-- the line of a row; none for a refused run, and for a word or a stem that the form cannot say
abbrev pub outcome_line : ListForm → List ℕ → Outcome' → List ℕ
outcome_line form word (Stem stem) = if can_say form word stem then list_line form word stem else []
outcome_line form word (Refused f) = []

abbrev pub row_line : ListForm → Row → List ℕ
row_line form row = outcome_line form row.word row.outcome

-- the lines of rows, in their order
abbrev pub list_text : ListForm → List Row → List ℕ
list_text form rows = flat_map (row_line form) rows

-- ---- a law

-- A line is that of one word and one stem.
abbrev pub ListLinesAreOne : Type 0
ListLinesAreOne =
    (form : ListForm) (word stem other_word other_stem : List ℕ) → all_scalars word ≡ true → all_scalars stem ≡ true → all_scalars other_word ≡ true
    → all_scalars other_stem ≡ true → can_say form word stem ≡ true → can_say form other_word other_stem ≡ true
    → list_line form word stem ≡ list_line form other_word other_stem → (word ≡ other_word) × (stem ≡ other_stem)
