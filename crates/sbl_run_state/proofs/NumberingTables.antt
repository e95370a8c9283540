-- The tables that were made list the strings of the amongs.
use Rattle.std.proofs.Common.{◌≡◌, ℕ, ◌+◌, ◌<◌, ◌≤◌, List, [], ◌∷◌, ◌++◌, length, map, take, get_or, Option, Some, None, option_map, refl, sym, ap, ◌∙◌, arith}
use Rattle.std.specs.Prelude.{slice_get}
use Rattle.std.proofs.Math.Path.{fun_ext}
use Rattle.std.proofs.lemmas.List.{take_more, take_all, get_or-map, length-map}
use Rattle.std.proofs.lemmas.Option.{slice_get-map}
use Rattle.sbl_ast.specs.declared.mode.Mode.{Mode}
use Rattle.sbl_ast.specs.declared.mode.Mode.TheVariants.{Forward}
use Rattle.sbl_program.specs.declared.among.AmongStrings.{AmongStrings}
use Rattle.sbl_program.specs.AmongStrings.{Listing, listing}
use Rattle.sbl_program.specs.Listing.{listed_by, listed_of}
use Rattle.sbl_program.specs.FoundView.{listing_found, strings_at, strings_or}

pub same_listing : (m n : Mode) (es fs : List (List ℕ)) → m ≡ n → es ≡ fs → listing m es ≡ listing n fs
same_listing m n es fs p q = ap (λ k. listing k es) p ∙ ap (listing n) q

pub table_more : {X Y : Type 0} (f : X → Y) (xs : List X) (i : ℕ) (x : X) (y : Y) → i < length xs → x ≡ get_or xs i x → f x ≡ y → take i (map f xs) ++ (y ∷ []) ≡ take (i + 1) (map f xs)
table_more f xs i x y l e h =
    let k : i < length (map f xs) = omega (arith, l, length-map xs f) in
    let n : get_or (map f xs) i y ≡ y = get_or-map f xs i x y l ∙ ap f (sym e) ∙ h in
    sym (take_more (map f xs) i y k ∙ ap (λ v. take i (map f xs) ++ (v ∷ [])) n)

pub table_all : {X Y : Type 0} (f : X → Y) (xs : List X) (i : ℕ) → length xs ≤ i → take i (map f xs) ≡ map f xs
table_all f xs i l = take_all i (map f xs) (omega (arith, l, length-map xs f))

or_nothing : Option Listing → Listing
or_nothing None = listing Forward []
or_nothing (Some l) = l

by_table : (S : Type 0) (entries : S → List (List ℕ)) (mode : S → Mode) (o : Option S) → listed_by S entries mode o ≡ or_nothing (option_map (listed_of S entries mode) o)
unfolding or_nothing
by_table S entries mode None = refl
by_table S entries mode (Some t) = refl

by_among : (o : Option AmongStrings) → or_nothing (option_map listing_found o) ≡ strings_or o
unfolding or_nothing
by_among None = refl
by_among (Some f) = refl

same_list : (S : Type 0) (entries : S → List (List ℕ)) (mode : S → Mode) (ts : List S) (fs : List AmongStrings) → map (listed_of S entries mode) ts ≡ map listing_found fs → (k : ℕ) → listed_by S entries mode (slice_get ts k) ≡ strings_at fs k
same_list S entries mode ts fs e k =
    by_table S entries mode (slice_get ts k)
    ∙ ap or_nothing (sym (slice_get-map (listed_of S entries mode) ts k) ∙ ap (λ ls. slice_get ls k) e ∙ slice_get-map listing_found fs k)
    ∙ by_among (slice_get fs k)

pub same_tables : (S : Type 0) (entries : S → List (List ℕ)) (mode : S → Mode) (ts : List S) (fs : List AmongStrings) → map (listed_of S entries mode) ts ≡ map listing_found fs → (λ (k : ℕ). listed_by S entries mode (slice_get ts k)) ≡ strings_at fs
same_tables S entries mode ts fs e = fun_ext (same_list S entries mode ts fs e)
