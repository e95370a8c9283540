-- The next among of a place.
use Rattle.std.proofs.Common.{◌≡◌, ℕ, zero, suc, ◌+◌, List, [], ◌∷◌, map, drop, refl, add-one, rules, Vec, Global}
use Rattle.sbl_program.specs.declared.node.Candidate.{Candidate}
use Rattle.sbl_program.specs.declared.node.Node.{Node}
use Rattle.sbl_program.specs.declared.node.Node.TheVariants.{Search, Sequence}
use Rattle.sbl_program.specs.declared.node.Node.TheFolds.{fold_out-Node}
use Rattle.sbl_program.specs.declared.node.Node.TheViews.{the_lemmas}
use Rattle.sbl_program.specs.declared.among.AmongStrings.{AmongStrings}
use Rattle.sbl_program.specs.AmongStrings.{Listing}
use Rattle.sbl_compiler.specs.NumberedItems.{next_of}
use Rattle.sbl_program.specs.FoundView.{strings_at}
use Rattle.sbl_compiler.specs.NumberedView.{view_found}
use Rattle.sbl_program.specs.Program as programs
use Rattle.sbl_program.specs.ProgramOf.{commands_of, view_node}

dropped_after : {A B : Type 0} (f : A → B) (n : ℕ) (xs : List A) → map f (drop (suc n) xs) ≡ drop 1 (map f (drop n xs))
dropped_after f zero [] = refl
dropped_after f zero (x ∷ xs) = refl
dropped_after f (suc n) [] = refl
dropped_after f (suc n) (x ∷ xs) = dropped_after f n xs

-- after the next among
pub dropped_more : {A B : Type 0} (f : A → B) (n : ℕ) (xs : List A) → map f (drop (n + 1) xs) ≡ drop 1 (map f (drop n xs))
dropped_more f n xs = rw add-one (dropped_after f n xs)

-- its table lists its strings
pub strings_next : (fs : List AmongStrings) (n : ℕ) → strings_at fs n ≡ (next_of (map view_found (drop n fs))).strings
strings_next [] zero = refl
strings_next [] (suc n) = refl
strings_next (f ∷ fs) zero = refl
strings_next (f ∷ fs) (suc n) = strings_next fs n

pub search_view : (T : ℕ → Listing) (k table : ℕ) (entries : Vec Candidate Global) → view_node T (Search k table entries) ≡ programs.search k (T table) entries.items
search_view T k table entries = first_of (search (rules, the_lemmas), search (rules, the_lemmas, fold_out-Node))

pub sequence_view : (T : ℕ → Listing) (cs : Vec Node Global) → view_node T (Sequence cs) ≡ programs.sequence (commands_of (map (view_node T) cs.items))
sequence_view T cs = first_of (search (rules, the_lemmas), search (rules, the_lemmas, fold_out-Node))
