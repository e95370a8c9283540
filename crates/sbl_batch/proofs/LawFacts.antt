-- The rows of a filter, and those of `stem`.
use Rattle.std.proofs.Common.{◌≡◌, ◌∙◌, ◌++◌, ◌&&◌, ℕ, Bool, true, false, List, [], ◌∷◌, Option, Some, None, Result, Ok, Err, refl, sym, ap, map, append_assoc, length, nat_lt}
use Rattle.std.proofs.lemmas.Bool.{or_from, or_parts, and_right}
use Rattle.std.proofs.lemmas.List.{append-nil}
use Rattle.std.proofs.lemmas.List.Elements.{filter-append}
use Rattle.std.proofs.lemmas.List.Folds.{list_any-append}
use Rattle.std.proofs.lemmas.Slice.Eq.{bytes_eq-Decides}
use Rattle.std.specs.List.{filter}
use Rattle.std.specs.Option.{option_or}
use Rattle.std.specs.Prelude.{⊤}
use Rattle.std.specs.Str.{bytes_eq, chars}
use Rattle.sbl_bench.specs.Contents.{Contents, opening_contents, opening_fault, word_fault}
use Rattle.sbl_rows.specs.Rows.{rows_of}
use Rattle.sbl_rows.specs.Setting.{under}
use Rattle.sbl_bench.specs.Vocabulary.{is_skipped, is_word, with_word}
use Rattle.sbl_bench.specs.inside.ProofNames.{is_full, with_all}
use Rattle.sbl_bench.specs.declared.fault.EditFault.{EditFault}
use Rattle.sbl_bench.specs.declared.fault.EditFault.TheVariants as edit
use Rattle.sbl_batch.specs.Filter.{filter_output, is_filled}
use Rattle.sbl_batch.specs.Laws.{NoRepeats, PartsMakeWhole, SameInput, SameWithoutRepeats, StemsAreFiltered}
use Rattle.sbl_batch.proofs.RowFacts.{filtered-append}
use Rattle.sbl_semantics.specs.Limit.{default_limit}
use Rattle.sbl_io.specs.Records.{records_text}
use Rattle.sbl_ast.specs.Source.{Source}
use Rattle.sbl_input.specs.Loading.{IsInput, IsLoaded}
use Rattle.sbl_input.specs.OneLoading.{IsToldByBytes, LoadingIsOne}
use Rattle.sbl_records.specs.RowRecords.{row_fields}
use Rattle.sbl_reports.specs.Listings.{stems_text}
use Rattle.sbl_input.specs.declared.faults.LoadFault.{LoadFault}
use Rattle.sbl_input.specs.declared.faults.LoadFault.TheVariants.{Open}

pub parts : PartsMakeWhole
parts s first rest = filtered-append s first rest

-- ---- the vocabulary has no empty word

-- no word of the list is empty
abbrev Filled : List (List ℕ) → Type 0
Filled words = filter is_filled words ≡ words

filled-word : (words : List (List ℕ)) (w : List ℕ) → Filled words → Filled (with_word words w)
filled-word words [] so = so
filled-word words (c ∷ w) so = by (is_word (c ∷ w) words) refl
  where
    by : (b : Bool) → is_word (c ∷ w) words ≡ b → Filled (with_word words (c ∷ w))
    by true e = rw e so
    by false e = rw e (filter-append is_filled words ((c ∷ w) ∷ []) ∙ ap (λ (ws : List (List ℕ)). ws ++ (c ∷ w) ∷ []) so)

filled-all : (words ws : List (List ℕ)) → Filled words → Filled (with_all words ws)
filled-all words [] so = so
filled-all words (w ∷ ws) so = filled-all (with_word words w) ws (filled-word words w so)

abbrev text_of : Source → List (List ℕ) → List ℕ
text_of s words = records_text (map row_fields (rows_of (under s default_limit) words))

pub stems-filtered : StemsAreFiltered
unfolding stems_text filter_output
stems-filtered s words = ap (text_of s) (sym (filled-all [] words refl))

-- ---- words without repeats

-- no word of the second list that is not empty is in the first
abbrev Apart : List (List ℕ) → List (List ℕ) → Type 0
Apart words [] = ⊤
Apart words (w ∷ ws) = ((is_filled w && is_word w words) ≡ false) × Apart words ws

apart-none : (ws : List (List ℕ)) → Apart [] ws
apart-none [] = tt
apart-none (w ∷ ws) = (and_right (is_filled w) false refl, apart-none ws)

eq-turned : (v w : List ℕ) → bytes_eq w v ≡ false → bytes_eq v w ≡ false
eq-turned v w other = by (bytes_eq v w) refl
  where
    by : (b : Bool) → bytes_eq v w ≡ b → bytes_eq v w ≡ false
    by false e = e
    by true e = let same : bytes_eq w v ≡ true = (bytes_eq-Decides w v).1 (sym ((bytes_eq-Decides v w).0 e)) in let no : true ≡ false = sym same ∙ other in cc no

apart-word : (words : List (List ℕ)) (w : List ℕ) (ws : List (List ℕ)) → is_word w ws ≡ false → Apart words ws → Apart (words ++ w ∷ []) ws
apart-word words w [] new so = tt
apart-word words w ([] ∷ ws) new so = (refl, apart-word words w ws (or_parts (bytes_eq w []) (is_word w ws) new).1 so.1)
apart-word words w ((c ∷ v) ∷ ws) new so =
    let each = or_parts (bytes_eq w (c ∷ v)) (is_word w ws) new in
    let both : is_word (c ∷ v) (words ++ w ∷ []) ≡ false =
    list_any-append (bytes_eq (c ∷ v)) words (w ∷ []) ∙ or_from (is_word (c ∷ v) words) (is_word (c ∷ v) (w ∷ [])) so.0 (or_from (bytes_eq (c ∷ v) w) false (eq-turned (c ∷ v) w each.0) refl) in
    (both, apart-word words w ws each.1 so.1)

all-filled : (words ws : List (List ℕ)) → Apart words ws → NoRepeats ws → with_all words ws ≡ words ++ filter is_filled ws
all-filled words [] apart single = sym (append-nil words)
all-filled words ([] ∷ ws) apart single = all-filled words ws apart.1 single.1
all-filled words ((c ∷ w) ∷ ws) apart single =
    let new : with_word words (c ∷ w) ≡ words ++ (c ∷ w) ∷ [] = rw apart.0 refl in
    ap (λ (x : List (List ℕ)). with_all x ws) new ∙ all-filled (words ++ (c ∷ w) ∷ []) ws (apart-word words (c ∷ w) ws single.0 apart.1) single.1
    ∙ append_assoc words ((c ∷ w) ∷ []) (filter is_filled ws)

pub same-without-repeats : SameWithoutRepeats
unfolding stems_text filter_output
same-without-repeats s words single = ap (text_of s) (sym (all-filled [] words (apart-none words) single))

-- ---- one input

word-not-memory : (words : List (List ℕ)) (w : List ℕ) → word_fault words w ≡ Some edit.OutOfMemory → ⊥
word-not-memory words w e = by (nat_lt 255 (length w)) refl (is_skipped w words) refl (is_full words) refl
  where
    by : (a : Bool) → nat_lt 255 (length w) ≡ a → (b : Bool) → is_skipped w words ≡ b → (c : Bool) → is_full words ≡ c → ⊥
    by true p b q c r = let is : word_fault words w ≡ Some edit.WordTooLong = rw p refl in let two : Some edit.WordTooLong ≡ Some edit.OutOfMemory = sym is ∙ e in cc two
    by false p true q c r = let is : word_fault words w ≡ None = rw (p, q) refl in let two : None ≡ Some edit.OutOfMemory = sym is ∙ e in cc two
    by false p false q true r = let is : word_fault words w ≡ Some edit.Full = rw (p, q, r) refl in let two : Some edit.Full ≡ Some edit.OutOfMemory = sym is ∙ e in cc two
    by false p false q false r = let is : word_fault words w ≡ None = rw (p, q, r) refl in let two : None ≡ Some edit.OutOfMemory = sym is ∙ e in cc two

not-memory : (words ws : List (List ℕ)) → opening_fault words ws ≡ Some edit.OutOfMemory → ⊥
not-memory words [] e = cc e
not-memory words (w ∷ ws) e = by (not-memory (with_word words w) ws) (word_fault words w) refl
  where
    by : (opening_fault (with_word words w) ws ≡ Some edit.OutOfMemory → ⊥) → (o : Option EditFault) → word_fault words w ≡ o → ⊥
    by later None p =
        let goes : opening_fault words (w ∷ ws) ≡ opening_fault (with_word words w) ws = ap (λ (x : Option EditFault). option_or x (opening_fault (with_word words w) ws)) p in
        later (sym goes ∙ e)
    by later (Some f) p =
        let stops : opening_fault words (w ∷ ws) ≡ Some f = ap (λ (x : Option EditFault). option_or x (opening_fault (with_word words w) ws)) p in
        word-not-memory words w (p ∙ sym stops ∙ e)

abbrev same : Contents → Contents
same c = c

module _ (one : LoadingIsOne) (bytes external : List ℕ) (a b : Option (List ℕ)) (c : Contents) (loaded : IsLoaded (Some bytes) a external same (Ok c)) where
  clash : (f : EditFault) → IsToldByBytes (Err (Open f)) → IsLoaded (Some bytes) b external same (Err (Open f)) → ⊥
  clash f told so = let is : Ok c ≡ Err (Open f) = one bytes external a b (Ok c) (Err (Open f)) tt told loaded so in cc is

  opens : (s : Source) (lines : List (List ℕ)) → IsInput (Some bytes) b external s lines → (o : Option EditFault) → opening_fault [] (map chars lines) ≡ o → c ≡ opening_contents s (map chars lines)
  opens s lines input None e = ap the (one bytes external a b (Ok c) (Ok (opening_contents s (map chars lines))) tt tt loaded (s, lines, input, e, refl))
    where
      the : Result Contents LoadFault → Contents
      the (Ok x) = x
      the (Err f) = c
  opens s lines input (Some edit.Present) e = absurd (clash edit.Present tt (s, lines, input, e))
  opens s lines input (Some edit.Absent) e = absurd (clash edit.Absent tt (s, lines, input, e))
  opens s lines input (Some edit.EmptyWord) e = absurd (clash edit.EmptyWord tt (s, lines, input, e))
  opens s lines input (Some edit.WordTooLong) e = absurd (clash edit.WordTooLong tt (s, lines, input, e))
  opens s lines input (Some edit.Full) e = absurd (clash edit.Full tt (s, lines, input, e))
  opens s lines input (Some edit.NoRoutine) e = absurd (clash edit.NoRoutine tt (s, lines, input, e))
  opens s lines input (Some edit.NoAmong) e = absurd (clash edit.NoAmong tt (s, lines, input, e))
  opens s lines input (Some edit.AmongCount) e = absurd (clash edit.AmongCount tt (s, lines, input, e))
  opens s lines input (Some (edit.Script f)) e = absurd (clash (edit.Script f) tt (s, lines, input, e))
  opens s lines input (Some edit.OutOfMemory) e = absurd (not-memory [] (map chars lines) e)
  opens s lines input (Some edit.MeterFull) e = absurd (clash edit.MeterFull tt (s, lines, input, e))
  opens s lines input (Some edit.BadLimit) e = absurd (clash edit.BadLimit tt (s, lines, input, e))
  opens s lines input (Some edit.NoGrouping) e = absurd (clash edit.NoGrouping tt (s, lines, input, e))
  opens s lines input (Some edit.BrokenOff) e = absurd (clash edit.BrokenOff tt (s, lines, input, e))

pub same-input : LoadingIsOne → SameInput
same-input one bytes external a b c text loaded so =
    (so.0, map chars so.1, opens one bytes external a b c loaded so.0 so.1 so.2 (opening_fault [] (map chars so.1)) refl, so.4)
