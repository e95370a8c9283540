-- What a run touches, by number: each routine whose body it enters, each among for whose search it pays, each grouping
-- for whose test it pays.
use Rattle.std.specs.Prelude.{Bool, false, ◌&&◌, List, [], ◌∷◌, ◌++◌, nat_eq, if◌then◌else◌}
use Rattle.std.specs.List.{list_any}
use Rattle.sbl_semantics.specs.declared.touch.Touch.{Touch}
use Rattle.sbl_semantics.specs.declared.touch.Touch.TheVariants.{Entered, Searched, Tested}

abbrev pub same_touch : Touch → Touch → Bool
same_touch (Entered i) (Entered j) = nat_eq i j
same_touch (Searched i k) (Searched j l) = nat_eq i j && nat_eq k l
same_touch (Tested g) (Tested h) = nat_eq g h
same_touch x y = false

-- the touch added after those so far, unless it is there
abbrev pub with_touch : Touch → List Touch → List Touch
with_touch x xs = if list_any (same_touch x) xs then xs else xs ++ (x ∷ [])
