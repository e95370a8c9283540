-- An input has one loading.
use Rattle.std.proofs.Common.{◌≡◌, ◌⊎◌, inl, inr, ◌∙◌, ◌++◌, ◌≤◌, ℕ, true, false, List, [], ◌∷◌, Option, Some, None, Result, Ok, Err, refl, sym, ap, subst, map, length, append_assoc}
use Rattle.std.proofs.lemmas.List.{append-nil}
use Rattle.std.specs.Io.KnownBytes.{IsAtEnd}
use Rattle.std.specs.Str.{chars}
use Rattle.sbl_bench.specs.Contents.{Contents, opening_contents, opening_fault}
use Rattle.sbl_bench.specs.declared.fault.EditFault.{EditFault}
use Rattle.sbl_bench.specs.declared.fault.EditFault.TheVariants as edit
use Rattle.sbl_script.specs.OneReading.{FaultIsOne, ScriptIsOne, ScriptOrFault}
use Rattle.sbl_ast.specs.Source.{Source}
use Rattle.sbl_script.specs.Reading.{IsFaultOf, IsScriptOf}
use Rattle.sbl_text.specs.declared.fault.ScriptFault.{ScriptFault}
use Rattle.sbl_text.specs.declared.fault.ScriptFault.TheVariants as script
use Rattle.sbl_reports.specs.Block.{BlockLines, Breaks, made_text, max_script, point}
use Rattle.sbl_io.specs.HeldInput.{BeginsLong, Took}
use Rattle.sbl_io.specs.inside.LineSteps.{StandFirst}
use Rattle.sbl_io.specs.LinesOf.{lines_of}
use Rattle.sbl_input.specs.Loading.{IsInput, IsLoaded, TookFault, TookSource, TookWords, WordLines}
use Rattle.sbl_input.specs.inside.LoadingParts.{TookNoText}
use Rattle.sbl_input.specs.OneLoading.{IsToldByBytes, LoadingIsOne, RestIsOne}
use Rattle.sbl_input.specs.declared.faults.LoadFault.{LoadFault}
use Rattle.sbl_input.specs.declared.faults.LoadFault.TheVariants.{Input, Open, Script}
use Rattle.sbl_io.specs.declared.faults.ServeFault.TheVariants as fault
use Rattle.sbl_io.proofs.Bytes.{none_of, stand_lines}
use Rattle.sbl_input.proofs.InputFacts.{AtEnd, AtLong, AtNoText, AtPoint, LinesEnd, end-end, end-long, end-no_text, end-point, lines_end, stand-one}

-- ---- the ending by what ends the lines

abbrev as_script_fault : ScriptFault → Result Contents LoadFault
as_script_fault f = Err (Script f)

abbrev as_bench : Contents → Result Contents LoadFault
as_bench c = Ok c

abbrev by_fault : Source → List (List ℕ) → Option EditFault → Result Contents LoadFault
by_fault s words None = Ok (opening_contents s (map chars words))
by_fault s words (Some f) = Err (Open f)

abbrev by_words : Source → List (List ℕ) → Result Contents LoadFault
by_words s words = by_fault s words (opening_fault [] (map chars words))

abbrev words_ending : Source → LinesEnd → Result Contents LoadFault
words_ending s (AtPoint words rest) = by_words s words
words_ending s (AtEnd words) = by_words s words
words_ending s AtLong = Err (Input fault.LineTooLong)
words_ending s AtNoText = Err (Input fault.NotText)

abbrev IsEnding : List ℕ → LinesEnd → Result Contents LoadFault → Type 0
IsEnding external (AtPoint lines rest) r =
    ((s : Source) × IsScriptOf (made_text lines) external s × (r ≡ words_ending s (lines_end true rest)))
    ⊎ ((f : ScriptFault) × IsFaultOf (made_text lines) external f × (r ≡ Err (Script f)))
IsEnding external (AtEnd lines) r = r ≡ Err (Input fault.Cut)
IsEnding external AtLong r = r ≡ Err (Input fault.LineTooLong)
IsEnding external AtNoText r = r ≡ Err (Input fault.NotText)

ending-one : ScriptIsOne → FaultIsOne → ScriptOrFault → (external : List ℕ) (e : LinesEnd) (r q : Result Contents LoadFault)
    → IsEnding external e r → IsEnding external e q → r ≡ q
ending-one one fault_one either external (AtPoint lines rest) r q (inl p) (inl o) =
    p.2 ∙ ap (λ (s : Source). words_ending s (lines_end true rest)) (one (made_text lines) external p.0 o.0 p.1 o.1) ∙ sym o.2
ending-one one fault_one either external (AtPoint lines rest) r q (inl p) (inr o) = absurd (either (made_text lines) external p.0 o.0 p.1 o.1)
ending-one one fault_one either external (AtPoint lines rest) r q (inr p) (inl o) = absurd (either (made_text lines) external o.0 p.0 o.1 p.1)
ending-one one fault_one either external (AtPoint lines rest) r q (inr p) (inr o) =
    p.2 ∙ ap as_script_fault (fault_one (made_text lines) external p.0 o.0 p.1 o.1) ∙ sym o.2
ending-one one fault_one either external (AtEnd lines) r q p o = p ∙ sym o
ending-one one fault_one either external AtLong r q p o = p ∙ sym o
ending-one one fault_one either external AtNoText r q p o = p ∙ sym o

-- ---- what was taken

-- a block and its point stand first
pub block_end : (bytes rest : List ℕ) (lines : List (List ℕ)) → BlockLines lines → StandFirst bytes (lines ++ point ∷ []) rest
    → lines_end false (lines_of bytes) ≡ AtPoint lines (lines_of rest)
block_end bytes rest lines good stand =
    let all : lines_of bytes ≡ lines ++ point ∷ lines_of rest = stand_lines bytes rest (lines ++ point ∷ []) stand ∙ append_assoc lines (point ∷ []) (lines_of rest) in
    ap (lines_end false) all ∙ end-point false lines (lines_of rest) good tt

-- words stand first, and then comes this ending
words_end : (s : Source) (rest : List ℕ) (new : Option (List ℕ)) (words : List (List ℕ)) → TookWords (Some rest) new words
    → words_ending s (lines_end true (lines_of rest)) ≡ by_words s words
words_end s rest None words took = by took.1
  where
    by : Took (Some rest) None (words ++ point ∷ []) ⊎ (Took (Some rest) None words × IsAtEnd None) → words_ending s (lines_end true (lines_of rest)) ≡ by_words s words
    by (inl nothing) = absurd nothing
    by (inr nothing) = absurd nothing.0
words_end s rest (Some y) words took = by took.1
  where
    by : Took (Some rest) (Some y) (words ++ point ∷ []) ⊎ (Took (Some rest) (Some y) words × IsAtEnd (Some y)) → words_ending s (lines_end true (lines_of rest)) ≡ by_words s words
    by (inl stand) =
        let all : lines_of rest ≡ words ++ point ∷ lines_of y = stand_lines rest y (words ++ point ∷ []) stand ∙ append_assoc words (point ∷ []) (lines_of y) in
        ap (λ (x : List (List ℕ)). words_ending s (lines_end true x)) all ∙ ap (words_ending s) (end-point true words (lines_of y) took.0.0 took.0.1)
    by (inr p) =
        let all : lines_of rest ≡ words =
        stand_lines rest y words p.0 ∙ ap (λ (x : List ℕ). words ++ lines_of x) p.1 ∙ ap (λ (x : List (List ℕ)). words ++ x) none_of ∙ append-nil words in
        ap (λ (x : List (List ℕ)). words_ending s (lines_end true x)) all ∙ ap (words_ending s) (end-end true words took.0.0 took.0.1)

-- a script, and then an ending of the words
after_source : (bytes external : List ℕ) (between : Option (List ℕ)) (s : Source) (r : Result Contents LoadFault) → TookSource (Some bytes) between external s
    → ((rest : List ℕ) → between ≡ Some rest → r ≡ words_ending s (lines_end true (lines_of rest))) → IsEnding external (lines_end false (lines_of bytes)) r
after_source bytes external None s r took ends = absurd took.1.1
after_source bytes external (Some rest) s r took ends =
    subst (λ (e : LinesEnd). IsEnding external e r) (sym (block_end bytes rest took.0 took.1.0 took.1.1)) (inl (s, took.2, ends rest refl))

-- lines that are good stand first, and one after them that is too long
abbrev pub LongAfter : (List (List ℕ) → Type 0) → Option (List ℕ) → Type 0
LongAfter Good old = (lines : List (List ℕ)) × (next : Option (List ℕ)) × Good lines × Took old next lines × BeginsLong next

pub long_end : (bytes : List ℕ) → LongAfter BlockLines (Some bytes) → lines_end false (lines_of bytes) ≡ AtLong
long_end bytes long = by long.1 long.3 long.4
  where
    by : (next : Option (List ℕ)) → Took (Some bytes) next long.0 → BeginsLong next → lines_end false (lines_of bytes) ≡ AtLong
    by None nothing begins = absurd nothing
    by (Some y) stand begins =
        ap (lines_end false) (stand_lines bytes y long.0 stand ∙ ap (λ (x : List (List ℕ)). long.0 ++ x) begins.2) ∙ end-long false long.0 begins.0 begins.1 long.2 tt begins.3

long_words : (bytes : List ℕ) → LongAfter WordLines (Some bytes) → lines_end true (lines_of bytes) ≡ AtLong
long_words bytes long = by long.1 long.3 long.4
  where
    by : (next : Option (List ℕ)) → Took (Some bytes) next long.0 → BeginsLong next → lines_end true (lines_of bytes) ≡ AtLong
    by None nothing begins = absurd nothing
    by (Some y) stand begins =
        ap (lines_end true) (stand_lines bytes y long.0 stand ∙ ap (λ (x : List (List ℕ)). long.0 ++ x) begins.2)
        ∙ end-long true long.0 begins.0 begins.1 long.2.0 long.2.1 begins.3

pub cut_end : (bytes : List ℕ) (new : Option (List ℕ)) → Breaks BlockLines (Some bytes) new fault.Cut → (lines : List (List ℕ)) × (lines_end false (lines_of bytes) ≡ AtEnd lines)
cut_end bytes None cut = absurd cut.2
cut_end bytes (Some y) cut =
    let all : lines_of bytes ≡ cut.0 =
    stand_lines bytes y cut.0 cut.2 ∙ ap (λ (x : List ℕ). cut.0 ++ lines_of x) cut.3 ∙ ap (λ (x : List (List ℕ)). cut.0 ++ x) none_of ∙ append-nil cut.0 in
    (cut.0, ap (lines_end false) all ∙ end-end false cut.0 cut.1 tt)

no_text_words : (bytes : List ℕ) (new : Option (List ℕ)) → TookNoText (Some bytes) new → lines_end true (lines_of bytes) ≡ AtNoText
no_text_words bytes None none = absurd none.6
no_text_words bytes (Some y) none =
    let all : lines_of bytes ≡ none.0 ++ none.1 ∷ lines_of y =
    stand_lines bytes y (none.0 ++ none.1 ∷ []) none.6 ∙ append_assoc none.0 (none.1 ∷ []) (lines_of y) in
    ap (lines_end true) all ∙ end-no_text none.0 none.1 (lines_of y) none.2.0 none.2.1 none.3 none.4 none.5

-- ---- what loading answered

told_not_memory : (f : ScriptFault) → IsToldByBytes (Err (Script f)) → f ≡ script.OutOfMemory → ⊥
told_not_memory f told is = let differ : IsToldByBytes (Err (Script script.OutOfMemory)) = subst (λ (x : ScriptFault). IsToldByBytes (Err (Script x))) is told in differ

script_ending : (bytes external : List ℕ) (new : Option (List ℕ)) (f : ScriptFault) → IsToldByBytes (Err (Script f)) → TookFault (Some bytes) new external f
    → IsEnding external (lines_end false (lines_of bytes)) (Err (Script f))
script_ending bytes external None f told took = absurd took.1.1
script_ending bytes external (Some rest) f told took = by took.2
  where
    by : ((f ≡ script.OutOfMemory) × (length (made_text took.0) ≤ max_script)) ⊎ IsFaultOf (made_text took.0) external f → IsEnding external (lines_end false (lines_of bytes)) (Err (Script f))
    by (inl is) = absurd (told_not_memory f told is.0)
    by (inr is) = subst (λ (e : LinesEnd). IsEnding external e (Err (Script f))) (sym (block_end bytes rest took.0 took.1.0 took.1.1)) (inr (f, is, refl))

-- a script and words were taken, which have this verdict
abbrev OpensAs : List ℕ → Option (List ℕ) → List ℕ → (Source → List (List ℕ) → Type 0) → Type 0
OpensAs bytes new external P = (s : Source) × (words : List (List ℕ)) × IsInput (Some bytes) new external s words × P s words

input_ending : (bytes external : List ℕ) (new : Option (List ℕ)) (s : Source) (words : List (List ℕ)) (r : Result Contents LoadFault) → IsInput (Some bytes) new external s words
    → r ≡ by_words s words → IsEnding external (lines_end false (lines_of bytes)) r
input_ending bytes external new s words r input is = after_source bytes external input.0 s r input.1 ends
  where
    ends : (rest : List ℕ) → input.0 ≡ Some rest → r ≡ words_ending s (lines_end true (lines_of rest))
    ends rest e = is ∙ sym (words_end s rest new words (subst (λ (x : Option (List ℕ)). TookWords x new words) e input.2))

open_ending : (bytes external : List ℕ) (new : Option (List ℕ)) (f : EditFault) → OpensAs bytes new external (λ s words. opening_fault [] (map chars words) ≡ Some f)
    → IsEnding external (lines_end false (lines_of bytes)) (Err (Open f))
open_ending bytes external new f p = input_ending bytes external new p.0 p.1 (Err (Open f)) p.2 (sym (ap (by_fault p.0 p.1) p.3))

loaded_ending : (bytes external : List ℕ) (new : Option (List ℕ)) (r : Result Contents LoadFault) → IsToldByBytes r → IsLoaded (Some bytes) new external (λ s. s) r
    → IsEnding external (lines_end false (lines_of bytes)) r
loaded_ending bytes external new (Ok c) told p =
    input_ending bytes external new p.0 p.1 (Ok c) p.2 (ap as_bench p.4 ∙ sym (ap (by_fault p.0 p.1) p.3))
loaded_ending bytes external new (Err (Script f)) told p = script_ending bytes external new f told p
loaded_ending bytes external new (Err (Open edit.Present)) told p = open_ending bytes external new edit.Present p
loaded_ending bytes external new (Err (Open edit.Absent)) told p = open_ending bytes external new edit.Absent p
loaded_ending bytes external new (Err (Open edit.EmptyWord)) told p = open_ending bytes external new edit.EmptyWord p
loaded_ending bytes external new (Err (Open edit.WordTooLong)) told p = open_ending bytes external new edit.WordTooLong p
loaded_ending bytes external new (Err (Open edit.Full)) told p = open_ending bytes external new edit.Full p
loaded_ending bytes external new (Err (Open edit.NoRoutine)) told p = open_ending bytes external new edit.NoRoutine p
loaded_ending bytes external new (Err (Open edit.NoAmong)) told p = open_ending bytes external new edit.NoAmong p
loaded_ending bytes external new (Err (Open edit.AmongCount)) told p = open_ending bytes external new edit.AmongCount p
loaded_ending bytes external new (Err (Open (edit.Script f))) told p = open_ending bytes external new (edit.Script f) p
loaded_ending bytes external new (Err (Open edit.OutOfMemory)) told p = absurd told
loaded_ending bytes external new (Err (Open edit.MeterFull)) told p = open_ending bytes external new edit.MeterFull p
loaded_ending bytes external new (Err (Open edit.BadLimit)) told p = open_ending bytes external new edit.BadLimit p
loaded_ending bytes external new (Err (Open edit.NoGrouping)) told p = open_ending bytes external new edit.NoGrouping p
loaded_ending bytes external new (Err (Open edit.BrokenOff)) told p = open_ending bytes external new edit.BrokenOff p
loaded_ending bytes external new (Err (Input fault.Read)) told p = absurd told
loaded_ending bytes external new (Err (Input fault.OutOfMemory)) told p = absurd told
loaded_ending bytes external new (Err (Input fault.Write)) told (inl p) = absurd p
loaded_ending bytes external new (Err (Input fault.Write)) told (inr p) = absurd p.3
loaded_ending bytes external new (Err (Input fault.LengthsDiffer)) told (inl p) = absurd p
loaded_ending bytes external new (Err (Input fault.LengthsDiffer)) told (inr p) = absurd p.3
loaded_ending bytes external new (Err (Input fault.Cut)) told p =
    let cut = cut_end bytes new p in
    subst (λ (e : LinesEnd). IsEnding external e (Err (Input fault.Cut))) (sym cut.1) refl
loaded_ending bytes external new (Err (Input fault.LineTooLong)) told (inl p) =
    subst (λ (e : LinesEnd). IsEnding external e (Err (Input fault.LineTooLong))) (sym (long_end bytes p)) refl
loaded_ending bytes external new (Err (Input fault.LineTooLong)) told (inr p) = after_source bytes external p.1 p.0 (Err (Input fault.LineTooLong)) p.2 ends
  where
    ends : (rest : List ℕ) → p.1 ≡ Some rest → Err (Input fault.LineTooLong) ≡ words_ending p.0 (lines_end true (lines_of rest))
    ends rest e = sym (ap (words_ending p.0) (long_words rest (subst (λ (x : Option (List ℕ)). LongAfter WordLines x) e p.3)))
loaded_ending bytes external new (Err (Input fault.NotText)) told p = after_source bytes external p.1 p.0 (Err (Input fault.NotText)) p.2 ends
  where
    ends : (rest : List ℕ) → p.1 ≡ Some rest → Err (Input fault.NotText) ≡ words_ending p.0 (lines_end true (lines_of rest))
    ends rest e = sym (ap (words_ending p.0) (no_text_words rest new (subst (λ (x : Option (List ℕ)). TookNoText x new) e p.3)))

pub loading-one : ScriptIsOne → FaultIsOne → ScriptOrFault → LoadingIsOne
loading-one one fault_one either bytes external a b r q told told' p o =
    ending-one one fault_one either external (lines_end false (lines_of bytes)) r q (loaded_ending bytes external a r told p) (loaded_ending bytes external b q told' o)

-- ---- what follows the words

point_lines : (a b c d : List (List ℕ)) → AtPoint a b ≡ AtPoint c d → a ≡ c
point_lines a b c d e = cc e

source_rest : (bytes external other : List ℕ) (a b : Option (List ℕ)) (s t : Source) → TookSource (Some bytes) a external s → TookSource (Some bytes) b other t → a ≡ b
source_rest bytes external other None b s t p o = absurd p.1.1
source_rest bytes external other (Some x) None s t p o = absurd o.1.1
source_rest bytes external other (Some x) (Some y) s t p o =
    let same : p.0 ≡ o.0 = point_lines p.0 (lines_of x) o.0 (lines_of y) (sym (block_end bytes x p.0 p.1.0 p.1.1) ∙ block_end bytes y o.0 o.1.0 o.1.1) in
    ap Some (stand-one bytes x y (o.0 ++ point ∷ []) (subst (λ (ls : List (List ℕ)). StandFirst bytes (ls ++ point ∷ []) x) same p.1.1) o.1.1)

-- what ends the words
words_at : (rest y : List ℕ) (words : List (List ℕ)) → WordLines words → StandFirst rest (words ++ point ∷ []) y → lines_end true (lines_of rest) ≡ AtPoint words (lines_of y)
words_at rest y words good stand =
    ap (lines_end true) (stand_lines rest y (words ++ point ∷ []) stand ∙ append_assoc words (point ∷ []) (lines_of y)) ∙ end-point true words (lines_of y) good.0 good.1

words_to : (rest y : List ℕ) (words : List (List ℕ)) → WordLines words → StandFirst rest words y → y ≡ [] → lines_end true (lines_of rest) ≡ AtEnd words
words_to rest y words good stand none =
    ap (lines_end true) (stand_lines rest y words stand ∙ ap (λ (x : List ℕ). words ++ lines_of x) none ∙ ap (λ (x : List (List ℕ)). words ++ x) none_of ∙ append-nil words)
    ∙ end-end true words good.0 good.1

abbrev TookTo : Option (List ℕ) → Option (List ℕ) → List (List ℕ) → Type 0
TookTo old new words = Took old new (words ++ point ∷ []) ⊎ (Took old new words × IsAtEnd new)

words_rest : (rest : List ℕ) (a b : Option (List ℕ)) (words others : List (List ℕ)) → TookWords (Some rest) a words → TookWords (Some rest) b others → a ≡ b
words_rest rest None b words others p o = absurd (none p.1)
  where
    none : TookTo (Some rest) None words → ⊥
    none (inl nothing) = nothing
    none (inr nothing) = nothing.0
words_rest rest (Some x) None words others p o = absurd (none o.1)
  where
    none : TookTo (Some rest) None others → ⊥
    none (inl nothing) = nothing
    none (inr nothing) = nothing.0
words_rest rest (Some x) (Some y) words others p o = by p.1 o.1
  where
    by : TookTo (Some rest) (Some x) words → TookTo (Some rest) (Some y) others → Some x ≡ Some y
    by (inl u) (inl v) =
        let same : words ≡ others = point_lines words (lines_of x) others (lines_of y) (sym (words_at rest x words p.0 u) ∙ words_at rest y others o.0 v) in
        ap Some (stand-one rest x y (others ++ point ∷ []) (subst (λ (ls : List (List ℕ)). StandFirst rest (ls ++ point ∷ []) x) same u) v)
    by (inl u) (inr v) = let differ : AtPoint words (lines_of x) ≡ AtEnd others = sym (words_at rest x words p.0 u) ∙ words_to rest y others o.0 v.0 v.1 in cc differ
    by (inr u) (inl v) = let differ : AtEnd words ≡ AtPoint others (lines_of y) = sym (words_to rest x words p.0 u.0 u.1) ∙ words_at rest y others o.0 v in cc differ
    by (inr u) (inr v) = ap Some (u.1 ∙ sym v.1)

pub rest-one : RestIsOne
rest-one bytes external a b s t p o = by p.2.0 o.2.0 p.2.1 o.2.1 p.2.2 o.2.2
  where
    by : (c d : Option (List ℕ)) → TookSource (Some bytes) c external p.0 → TookSource (Some bytes) d external o.0 → TookWords c a p.1 → TookWords d b o.1 → a ≡ b
    by None d first second words others = absurd first.1.1
    by (Some x) d first second words others =
        words_rest x a b p.1 o.1 words (subst (λ (y : Option (List ℕ)). TookWords y b o.1) (sym (source_rest bytes external external (Some x) d p.0 o.0 first second)) others)
