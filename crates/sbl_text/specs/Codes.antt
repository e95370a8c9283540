-- Characters written as numbers.
use Rattle.std.specs.Prelude.{◌≡◌, ◌⊎◌, ℕ, ◌+◌, ◌*◌, Bool, true, false, ◌&&◌, ◌||◌, nat_le, nat_lt, if◌then◌else◌, List, []}
use Rattle.std.specs.Prelude.{◌∷◌, length, filter, fold, Option, Some, None, option_map, option_and_then, Result, MatchResult}
use Rattle.std.specs.Global.{Vec}
use Rattle.std.specs.List.{list_all, slice_split}
use Rattle.std.specs.Char.{digit_value}
use Rattle.sbl_text.specs.Classes.{is_white}
use Rattle.sbl_text.specs.declared.fault.ScriptFault.{ScriptFault}
use Rattle.sbl_text.specs.declared.fault.ScriptFault.TheVariants as fault

-- the number that the digits write in this base, after digits that write n
abbrev pub value_in : ℕ → ℕ → List ℕ → ℕ
value_in base n ds = fold (λ m d. m * base + digit_value d) n ds

-- a Unicode scalar value: a code point that is not a surrogate
abbrev pub is_scalar : ℕ → Bool
is_scalar c = nat_lt c 0xD800 || (nat_le 0xE000 c && nat_le c 0x10FFFF)

-- the character whose code point is written by at least one and at most `most` digits of the base
abbrev pub code_of : ℕ → ℕ → List ℕ → Option ℕ
code_of base most ds =
    if (nat_lt 0 (length ds) && nat_le (length ds) most) && (list_all (λ d. nat_lt (digit_value d) base) ds && is_scalar (value_in base 0 ds))
    then Some (value_in base 0 ds) else None

-- ---- numbers separated by white space

-- the texts between white space
abbrev pub numbers_in : List ℕ → List (List ℕ)
numbers_in cs = filter (λ r. nat_lt 0 (length r)) (slice_split is_white cs)

-- the characters that these texts write, if each writes one
abbrev pub all_codes : ℕ → ℕ → List (List ℕ) → Option (List ℕ)
all_codes base most [] = Some []
all_codes base most (ds ∷ more) = option_and_then (λ c. option_map (λ cs. c ∷ cs) (all_codes base most more)) (code_of base most ds)

-- The value of a macro, given the numbers of its literal: 1 to 6 hexadecimal or 1 to 7 decimal digits each.
abbrev pub codes_of : Bool → List ℕ → Option (List ℕ)
codes_of true cs = all_codes 16 6 (numbers_in cs)
codes_of false cs = all_codes 10 7 (numbers_in cs)

-- the characters if there are some, and otherwise `BadCode` at this byte offset; or an allocation failed
abbrev pub GivesCharacters : Option (List ℕ) → ℕ → Result (Vec ℕ) ScriptFault → Type 0
GivesCharacters characters place result =
    MatchResult result (λ v. characters ≡ Some v.items)
    (λ f. (f ≡ fault.OutOfMemory) ⊎ ((characters ≡ None) × (f ≡ fault.BadCode place)))
