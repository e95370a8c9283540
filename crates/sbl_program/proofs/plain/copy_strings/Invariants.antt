use Rattle.std.proofs.Common.{◌≡◌, map, take}
use Rattle.sbl_program.proofs.plain.copy_strings.Given as goal

abbrev pub invariant-loop-string : goal.invariant-loop-string
invariant-loop-string l = map (λ v. v.items) l.copies.items ≡ take l.string-index (map (λ v. v.items) l.strings)
