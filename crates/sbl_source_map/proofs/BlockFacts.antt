-- The range of a fault in a block.
use Rattle.std.proofs.Common.{◌≡◌, ◌≤◌, ◌+◌, ◌-◌, ◌&&◌, ℕ, Bool, true, false, List, Option, Some, None, length, refl, sym, ap, subst, ◌∙◌, arith}
use Rattle.std.specs.Prelude.{◌++◌, filter_map, nat_le}
use Rattle.std.specs.Str.{IsUtf8, chars, is_utf8}
use Rattle.std.proofs.lemmas.Bool.Decides.{nat_tests}
use Rattle.std.proofs.lemmas.Str.{IsUtf8-from_is_utf8, is_utf8-from_IsUtf8}
use Rattle.sbl_source_map.specs.BlockFaults.{AreCheckFaultsIn, IsBlockRange, IsRangeIn, fault_within, up_to_block}
use Rattle.sbl_source_map.specs.FaultLists.{AreFaultsOf}
use Rattle.sbl_source_map.specs.FaultRanges.{IsEndAt}
use Rattle.sbl_source_map.specs.declared.fault_lists.PlacedFault.{PlacedFault}

and_false : (a b : Bool) → b ≡ false → (a && b) ≡ false
and_false true b e = e
and_false false b e = refl

and_true : (a b : Bool) → a ≡ true → b ≡ true → (a && b) ≡ true
and_true true b e f = f
and_true false b e f = e

no_text : (bytes : List ℕ) → (IsUtf8 bytes → ⊥) → is_utf8 bytes ≡ false
no_text bytes not = by (is_utf8 bytes) refl
  where
    by : (t : Bool) → is_utf8 bytes ≡ t → is_utf8 bytes ≡ false
    by true e = absurd (not (IsUtf8-from_is_utf8 bytes e))
    by false e = e

-- the text up to the end of the block is not UTF-8
pub not_in_text : (before : List ℕ) (head : ℕ) (block : List ℕ) (place : ℕ) (text : List ℕ) → text ≡ up_to_block before head block → (IsUtf8 text → ⊥) → IsBlockRange before head block place None
not_in_text before head block place text is not =
    let whole = up_to_block before head block in
    let test : is_utf8 whole ≡ false = ap is_utf8 (sym is) ∙ no_text text not in
    subst (λ (b : Bool). IsRangeIn b before head block place None) (sym (and_false (nat_le place (length block)) (is_utf8 whole) test)) refl

-- it is UTF-8, and the place is in the block
pub in_text : (before : List ℕ) (head : ℕ) (block : List ℕ) (place end : ℕ) (text : List ℕ) (range : Option (ℕ × ℕ)) → text ≡ up_to_block before head block → IsUtf8 text → place ≤ length block
    → IsEndAt (chars text) (length before + head + place) end → range ≡ Some (head + place, end - length before) → IsBlockRange before head block place range
in_text before head block place end text range is utf8 few at same =
    let whole = up_to_block before head block in
    let test : is_utf8 whole ≡ true = ap is_utf8 (sym is) ∙ is_utf8-from_IsUtf8 text utf8 in
    let inside : nat_le place (length block) ≡ true = grind (arith, nat_tests) in
    subst (λ (b : Bool). IsRangeIn b before head block place range) (sym (and_true (nat_le place (length block)) (is_utf8 whole) inside test))
    (end, subst (λ (t : List ℕ). IsEndAt (chars t) (length before + head + place) end) is at, same)

-- the faults of the whole text that begin in what is typed
pub check_in : (before : List ℕ) (head : ℕ) (block after external text whole : List ℕ) (end : ℕ) (all given faults : List PlacedFault) → text ≡ up_to_block before head block → whole ≡ text ++ after
    → end ≡ length text → AreFaultsOf whole external all → given ≡ all → faults ≡ filter_map (fault_within (length before) end) given → AreCheckFaultsIn before head block after external faults
check_in before head block after external text whole end all given faults is joined ends are same within =
    let last : end ≡ length (up_to_block before head block) = ends ∙ ap length is in (
      all,
      subst (λ (t : List ℕ). AreFaultsOf t external all) (joined ∙ ap (λ (t : List ℕ). t ++ after) is) are,
      within ∙ ap (filter_map (fault_within (length before) end)) same ∙ ap (λ (n : ℕ). filter_map (fault_within (length before) n) all) last,
    )
