-- The laws of filters with the premises that law_tests writes out.
use Rattle.std.proofs.Common.{◌≡◌, ◌∙◌, ◌&&◌, ℕ, Bool, true, false, List, [], ◌∷◌, Option, Result, Ok, Err, refl, ap}
use Rattle.sbl_bench.specs.Vocabulary.{is_word}
use Rattle.sbl_batch.specs.Filter.{is_filled}
use Rattle.sbl_batch.specs.Laws.{FilteringIsOne, IsToldByBytes, NoRepeats}
use Rattle.sbl_input.specs.declared.faults.LoadFault.{LoadFault}
use Rattle.sbl_input.specs.declared.faults.LoadFault.TheVariants.{Input, Open, Script}
use Rattle.sbl_io.specs.declared.faults.ServeFault.TheVariants as fault
use Rattle.sbl_text.specs.declared.fault.ScriptFault.TheVariants as script
use Rattle.law_tests.specs.Filters.{IsEachOnce, IsOfBytes, WriteOne}

is_told : (r : Result (Unit {0}) LoadFault) → IsOfBytes r → IsToldByBytes r
is_told (Ok u) of = tt
is_told (Err (Open f)) of = tt
is_told (Err (Input fault.Read)) of = absurd (of.0 refl)
is_told (Err (Input fault.Write)) of = absurd (of.1 refl)
is_told (Err (Input fault.OutOfMemory)) of = absurd (of.2 refl)
is_told (Err (Input fault.LineTooLong)) of = tt
is_told (Err (Input fault.Cut)) of = tt
is_told (Err (Input fault.LengthsDiffer)) of = tt
is_told (Err (Input fault.NotText)) of = tt
is_told (Err (Script script.OutOfMemory)) of = absurd (of.3 refl)
is_told (Err (Script (script.BadCharacter at))) of = tt
is_told (Err (Script (script.UnclosedString at))) of = tt
is_told (Err (Script (script.UnclosedComment at))) of = tt
is_told (Err (Script (script.UnknownEscape at))) of = tt
is_told (Err (Script (script.BadCode at))) of = tt
is_told (Err (Script (script.NumberTooLarge at))) of = tt
is_told (Err (Script (script.Syntax at))) of = tt
is_told (Err (Script (script.TooDeep at))) of = tt
is_told (Err (Script (script.DeclaredTwice at))) of = tt
is_told (Err (Script (script.Undeclared at))) of = tt
is_told (Err (Script (script.WrongKind at))) of = tt
is_told (Err (Script (script.DefinedTwice at))) of = tt
is_told (Err (Script (script.Undefined at))) of = tt
is_told (Err (Script (script.WrongMode at))) of = tt
is_told (Err (Script (script.Substring at))) of = tt
is_told (Err (Script (script.Starter at))) of = tt
is_told (Err (Script (script.RepeatedString at))) of = tt
is_told (Err (Script (script.EmptyAmong at))) of = tt
is_told (Err (Script (script.NestedBackwards at))) of = tt
is_told (Err (Script (script.OutOfProfile at))) of = tt
is_told (Err (Script script.NoExternal)) of = tt
is_told (Err (Script script.NotUtf8)) of = tt
is_told (Err (Script script.ScriptTooLong)) of = tt

pub filters_are_one : FilteringIsOne → (bytes external : List ℕ) (a b : Option (List ℕ)) (text other : List ℕ) (r q : Result (Unit {0}) LoadFault)
    → WriteOne bytes external a b text other r q
filters_are_one one bytes external a b text other r q mine yours = one bytes external a b text other r q (is_told r mine) (is_told q yours)

pub no_repeats : (words : List (List ℕ)) → IsEachOnce words → NoRepeats words
no_repeats [] once = tt
no_repeats (w ∷ ws) once = (first (is_filled w) refl, no_repeats ws rest)
  where
    first : (filled : Bool) → is_filled w ≡ filled → (is_filled w && is_word w ws) ≡ false
    first true is = ap (λ (x : Bool). x && is_word w ws) is ∙ once [] ws w refl is
    first false is = ap (λ (x : Bool). x && is_word w ws) is

    rest : IsEachOnce ws
    rest before after v is = once (w ∷ before) after v (ap (λ (x : List (List ℕ)). w ∷ x) is)
