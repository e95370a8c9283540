-- A name for a part of Codes.antt, which only proofs use.
use Rattle.std.specs.Prelude.{ℕ, Bool, ◌&&◌, nat_lt, List}
use Rattle.std.specs.List.{list_all}
use Rattle.std.specs.Char.{digit_value}
use Rattle.sbl_text.specs.Codes.{is_scalar, value_in}

-- the digits, after digits that write n, are digits of the base and write a Unicode scalar value
abbrev pub write_scalar : ℕ → ℕ → List ℕ → Bool
write_scalar base n ds = list_all (λ c. nat_lt (digit_value c) base) ds && is_scalar (value_in base n ds)
