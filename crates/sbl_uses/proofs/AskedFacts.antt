-- The strings of the among that somebody asks about.
use Rattle.std.proofs.Common.{◌≡◌, ◌∙◌, ◌+◌, ℕ, zero, suc, List, map, Option, Some, None, option_map, slice_get, arith, sym, ap}
use Rattle.std.proofs.lemmas.Option.{slice_get-map}
use Rattle.std.specs.Borrow.{Bor}
use Rattle.sbl_ast.specs.Tree.{Command, Groups, Others}
use Rattle.sbl_ast.specs.View.{view_among}
use Rattle.sbl_ast.specs.declared.tree.Among.{Among}
use Rattle.sbl_tree_amongs.specs.Amongs.{amongs_of_body}
use Rattle.sbl_uses.specs.Parts.{groups_held, strings_of}
use Rattle.sbl_uses.specs.UnusedViews.{view_amongs}
use Rattle.sbl_uses.specs.Uses.{among_strings, strings_at}

string_number : (b : Command × Others) (i n : ℕ) → n ≡ i + 1 → strings_at b n ≡ slice_get (among_strings b) i
string_number b i zero h = absurd (omega (arith, h))
string_number b i (suc n) h = let same : n ≡ i = omega (arith, h) in ap (slice_get (among_strings b)) same

abbrev groups_in : Bor Among → Groups
groups_in a = (view_among a.now).1

-- the among that the code finds at an index, if there is one, has the strings
pub strings_there : (b : Command × Others) (i n : ℕ) (held : List (Bor Among)) (o : Option (Bor Among)) → n ≡ i + 1 → view_amongs held ≡ groups_held (amongs_of_body b) → slice_get held i ≡ o
    → option_map (λ (a : Bor Among). strings_of (groups_in a)) o ≡ strings_at b n
strings_there b i n held o number known at = twice o ∙ ap (λ (x : Option (Bor Among)). option_map strings_of (option_map groups_in x)) (sym at) ∙ sym whole
  where
    twice : (x : Option (Bor Among)) → option_map (λ (a : Bor Among). strings_of (groups_in a)) x ≡ option_map strings_of (option_map groups_in x)
    twice None = λ i. None
    twice (Some a) = λ i. Some (strings_of (groups_in a))

    whole : strings_at b n ≡ option_map strings_of (option_map groups_in (slice_get held i))
    whole =
        string_number b i n number
        ∙ ap (λ (gs : List Groups). slice_get (map strings_of gs) i) (sym known)
        ∙ slice_get-map strings_of (view_amongs held) i
        ∙ ap (option_map strings_of) (slice_get-map groups_in held i)
