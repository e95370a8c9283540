-- The string at a place, as the mode reads it.
use Rattle.std.proofs.Common.{◌≡◌, ℕ, ◌<◌, List, [], length, map, get_or, sym, ap, ◌∙◌, arith, rules, Vec, Global}
use Rattle.std.proofs.lemmas.List.{get_or-map, length-map}
use Rattle.sbl_ast.specs.declared.mode.Mode.{Mode}
use Rattle.sbl_semantics.specs.Fitting.{read_as, read_all}

pub next_string : (m : Mode) (items ds : List (Vec ℕ Global)) (v : Vec ℕ Global) (i : ℕ) → ds ≡ items → i < length ds → v ≡ get_or ds i v → (i < length (read_all m (map (λ u. u.items) items))) × (get_or (read_all m (map (λ u. u.items) items)) i [] ≡ read_as m v.items)
next_string m items ds v i d l e =
    let g = λ (u : Vec ℕ Global). u.items in
    let n : length ds ≡ length items = ap length d in
    let k : i < length items = omega arith in
    let k2 : i < length (map g items) = omega (arith, length-map items g) in
    let k3 : i < length (map (read_as m) (map g items)) = omega (arith, length-map (map g items) (read_as m)) in
    let a = get_or-map g items i v [] k in
    let b = get_or-map (read_as m) (map g items) i [] [] k2 in
    (k3, b ∙ ap (read_as m) (a ∙ ap g (sym (e ∙ ap (λ t. get_or t i v) d))))

pub next_none : (m : Mode) (items : List (Vec ℕ Global)) → length (read_all m (map (λ u. u.items) items)) ≡ length items
next_none m items = search (rules, length-map)
