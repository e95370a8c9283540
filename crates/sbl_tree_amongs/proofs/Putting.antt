-- What is put in the place of an among, part by part.
use Rattle.std.proofs.Common.{◌≡◌, ℕ, Bool, false, nat_eq, if◌then◌else◌, ◌+◌, ◌-◌, ◌<◌, ◌≤◌, List, [], ◌∷◌, ◌++◌, length, map, drop, refl, sym, ap, ◌∙◌, arith}
use Rattle.std.proofs.lemmas.List.{map_push, drop_more}
use Rattle.std.proofs.Math.ListN.{get_or, drop_of_length-le}
use Rattle.sbl_ast.specs.Tree as trees
use Rattle.sbl_ast.specs.Counts.{count_amongs, count_in_rows, count_in_others, count_in_groups, count_in_starter, count_in_among}
use Rattle.sbl_tree_amongs.specs.Amongs.{put_among, put_in_among, put_in_body, put_in_rows, put_in_others, put_in_starter, put_in_groups}
use Rattle.sbl_ast.specs.View.{RowView, GroupView, rows_of}
use Rattle.sbl_ast.specs.inside.ViewParts.{NextCommandView, others_of, groups_of}

-- rows, joined commands and groups, and then others
abbrev pub then_rows : List RowView → trees.Rows → trees.Rows
then_rows [] rest = rest
then_rows (x ∷ xs) rest = trees.row x.0 x.1 (then_rows xs rest)

abbrev pub then_others : List NextCommandView → trees.Others → trees.Others
then_others [] rest = rest
then_others (x ∷ xs) rest = trees.joined x.0 x.1 (then_others xs rest)

abbrev pub then_groups : List GroupView → trees.Groups → trees.Groups
then_groups [] rest = rest
then_groups (x ∷ xs) rest = trees.group x.first x.others x.rows (then_groups xs rest)

pub rows_one : (xs : List RowView) (x : RowView) (rest : trees.Rows) → then_rows (xs ++ x ∷ []) rest ≡ then_rows xs (trees.row x.0 x.1 rest)
rows_one [] x rest = refl
rows_one (y ∷ ys) x rest = ap (trees.row y.0 y.1) (rows_one ys x rest)

pub others_one : (xs : List NextCommandView) (x : NextCommandView) (rest : trees.Others) → then_others (xs ++ x ∷ []) rest ≡ then_others xs (trees.joined x.0 x.1 rest)
others_one [] x rest = refl
others_one (y ∷ ys) x rest = ap (trees.joined y.0 y.1) (others_one ys x rest)

pub groups_one : (xs : List GroupView) (x : GroupView) (rest : trees.Groups) → then_groups (xs ++ x ∷ []) rest ≡ then_groups xs (trees.group x.first x.others x.rows rest)
groups_one [] x rest = refl
groups_one (y ∷ ys) x rest = ap (trees.group y.first y.others y.rows) (groups_one ys x rest)

pub rows_end : (xs : List RowView) → then_rows xs trees.no_rows ≡ rows_of xs
rows_end [] = refl
rows_end (y ∷ ys) = ap (trees.row y.0 y.1) (rows_end ys)

pub others_end : (xs : List NextCommandView) → then_others xs trees.no_others ≡ others_of xs
others_end [] = refl
others_end (y ∷ ys) = ap (trees.joined y.0 y.1) (others_end ys)

pub groups_end : (xs : List GroupView) (es : List trees.Entry) → then_groups xs (trees.bare es) ≡ groups_of xs es
groups_end [] es = refl
groups_end (y ∷ ys) es = ap (trees.group y.first y.others y.rows) (groups_end ys es)

-- what is left to count
pub less_none : (k : ℕ) → k ≡ k - 0
less_none k = omega arith

pub less_two : (k a b : ℕ) → k - (a + b) ≡ k - a - b
less_two k a b = omega arith

pub less_three : (k a b c : ℕ) → k - (a + (b + c)) ≡ k - a - b - c
less_three k a b c = omega arith

-- the first of what is left, and where nothing is
pub at_prefix : {X Y : Type 0} (f : X → Y) (xs ds : List X) (i : ℕ) (x : X) → ds ≡ xs → i < length ds → x ≡ get_or ds i x → map f (drop i xs) ≡ f x ∷ map f (drop (i + 1) xs)
at_prefix f xs ds i x d lt e = ap (λ r. map f (drop i r)) (sym d) ∙ ap (map f) (drop_more ds i x lt) ∙ ap (λ y. f y ∷ map f (drop (i + 1) ds)) (sym e) ∙ ap (λ r. f x ∷ map f (drop (i + 1) r)) d

pub at_end : {X Y : Type 0} (f : X → Y) (xs ds : List X) (i : ℕ) → ds ≡ xs → length ds ≤ i → map f (drop i xs) ≡ []
at_end f xs ds i d le = ap (λ r. map f (drop i r)) (sym d) ∙ ap (map f) (drop_of_length-le ds le)

-- one more that is put
pub map_appended : {X Y : Type 0} (f : X → Y) (xs new : List X) (x : X) → new ≡ xs ++ x ∷ [] → map f new ≡ map f xs ++ f x ∷ []
map_appended f xs new x e = ap (map f) e ∙ map_push f xs x

-- one step along rows, joined commands and groups: of what is put, and of what is left to count
pub rows_put : (copies new : List RowView) (y x : RowView) (whole left : List RowView) (all : trees.Rows) (rest after : ℕ) (a : trees.Starter × trees.Groups) → new ≡ copies ++ y ∷ [] → y ≡ put_in_body x rest a → after ≡ rest - count_amongs x.0 - count_in_others x.1 → whole ≡ x ∷ left
    → then_rows copies (put_in_rows (rows_of whole) rest a) ≡ all → then_rows new (put_in_rows (rows_of left) after a) ≡ all
rows_put copies new y x whole left all rest after a n e k w h =
    ap (λ (r : List RowView). then_rows r (put_in_rows (rows_of left) after a)) n ∙ rows_one copies y (put_in_rows (rows_of left) after a) ∙ ap (λ (z : RowView). then_rows copies (trees.row z.0 z.1 (put_in_rows (rows_of left) after a))) e
    ∙ ap (λ (m : ℕ). then_rows copies (trees.row (put_among x.0 rest a) (put_in_others x.1 (rest - count_amongs x.0) a) (put_in_rows (rows_of left) m a))) k ∙ ap (λ (r : List RowView). then_rows copies (put_in_rows (rows_of r) rest a)) (sym w) ∙ h

pub rows_left : (x : RowView) (whole left : List RowView) (all rest after : ℕ) → after ≡ rest - count_amongs x.0 - count_in_others x.1 → whole ≡ x ∷ left → rest - count_in_rows (rows_of whole) ≡ all → after - count_in_rows (rows_of left) ≡ all
rows_left x whole left all rest after k w h =
    ap (λ (m : ℕ). m - count_in_rows (rows_of left)) k ∙ sym (less_three rest (count_amongs x.0) (count_in_others x.1) (count_in_rows (rows_of left))) ∙ ap (λ (r : List RowView). rest - count_in_rows (rows_of r)) (sym w) ∙ h

pub others_put : (copies new : List NextCommandView) (y x : NextCommandView) (whole left : List NextCommandView) (all : trees.Others) (rest after : ℕ) (a : trees.Starter × trees.Groups) → new ≡ copies ++ y ∷ [] → y ≡ (x.0, put_among x.1 rest a) → after ≡ rest - count_amongs x.1 → whole ≡ x ∷ left
    → then_others copies (put_in_others (others_of whole) rest a) ≡ all → then_others new (put_in_others (others_of left) after a) ≡ all
others_put copies new y x whole left all rest after a n e k w h =
    ap (λ (r : List NextCommandView). then_others r (put_in_others (others_of left) after a)) n ∙ others_one copies y (put_in_others (others_of left) after a) ∙ ap (λ (z : NextCommandView). then_others copies (trees.joined z.0 z.1 (put_in_others (others_of left) after a))) e
    ∙ ap (λ (m : ℕ). then_others copies (trees.joined x.0 (put_among x.1 rest a) (put_in_others (others_of left) m a))) k ∙ ap (λ (r : List NextCommandView). then_others copies (put_in_others (others_of r) rest a)) (sym w) ∙ h

pub others_left : (x : NextCommandView) (whole left : List NextCommandView) (all rest after : ℕ) → after ≡ rest - count_amongs x.1 → whole ≡ x ∷ left → rest - count_in_others (others_of whole) ≡ all → after - count_in_others (others_of left) ≡ all
others_left x whole left all rest after k w h =
    ap (λ (m : ℕ). m - count_in_others (others_of left)) k ∙ sym (less_two rest (count_amongs x.1) (count_in_others (others_of left))) ∙ ap (λ (r : List NextCommandView). rest - count_in_others (others_of r)) (sym w) ∙ h

pub groups_put : (copies new : List GroupView) (y x : GroupView) (whole left : List GroupView) (es : List trees.Entry) (all : trees.Groups) (rest after : ℕ) (a : trees.Starter × trees.Groups) → new ≡ copies ++ y ∷ [] → y ≡ record { first = x.first; others = x.others; rows = put_in_rows x.rows rest a } → after ≡ rest - count_in_rows x.rows → whole ≡ x ∷ left
    → then_groups copies (put_in_groups (groups_of whole es) rest a) ≡ all → then_groups new (put_in_groups (groups_of left es) after a) ≡ all
groups_put copies new y x whole left es all rest after a n e k w h =
    ap (λ (r : List GroupView). then_groups r (put_in_groups (groups_of left es) after a)) n ∙ groups_one copies y (put_in_groups (groups_of left es) after a) ∙ ap (λ (z : GroupView). then_groups copies (trees.group z.first z.others z.rows (put_in_groups (groups_of left es) after a))) e
    ∙ ap (λ (m : ℕ). then_groups copies (trees.group x.first x.others (put_in_rows x.rows rest a) (put_in_groups (groups_of left es) m a))) k ∙ ap (λ (r : List GroupView). then_groups copies (put_in_groups (groups_of r es) rest a)) (sym w) ∙ h

pub groups_left : (x : GroupView) (whole left : List GroupView) (es : List trees.Entry) (all rest after : ℕ) → after ≡ rest - count_in_rows x.rows → whole ≡ x ∷ left → rest - count_in_groups (groups_of whole es) ≡ all → after - count_in_groups (groups_of left es) ≡ all
groups_left x whole left es all rest after k w h =
    ap (λ (m : ℕ). m - count_in_groups (groups_of left es)) k ∙ sym (less_two rest (count_in_rows x.rows) (count_in_groups (groups_of left es))) ∙ ap (λ (r : List GroupView). rest - count_in_groups (groups_of r es)) (sym w) ∙ h

-- an among that is not the first is looked for inside: after the starter, in the groups
pub among_left : (at inside following rest s gs : ℕ) → inside ≡ at - 1 → following ≡ inside - s → rest ≡ following - gs → rest ≡ at - (1 + (s + gs))
among_left at inside following rest s gs a b c = omega arith

-- where no more is left
pub rows_done : (copies whole : List RowView) (all : trees.Rows) (rest : ℕ) (a : trees.Starter × trees.Groups) → whole ≡ [] → then_rows copies (put_in_rows (rows_of whole) rest a) ≡ all → rows_of copies ≡ all
rows_done copies whole all rest a e h = sym (rows_end copies) ∙ ap (λ (r : List RowView). then_rows copies (put_in_rows (rows_of r) rest a)) (sym e) ∙ h

pub others_done : (copies whole : List NextCommandView) (all : trees.Others) (rest : ℕ) (a : trees.Starter × trees.Groups) → whole ≡ [] → then_others copies (put_in_others (others_of whole) rest a) ≡ all → others_of copies ≡ all
others_done copies whole all rest a e h = sym (others_end copies) ∙ ap (λ (r : List NextCommandView). then_others copies (put_in_others (others_of r) rest a)) (sym e) ∙ h

pub groups_done : (copies whole : List GroupView) (es : List trees.Entry) (all : trees.Groups) (rest : ℕ) (a : trees.Starter × trees.Groups) → whole ≡ [] → then_groups copies (put_in_groups (groups_of whole es) rest a) ≡ all → groups_of copies es ≡ all
groups_done copies whole es all rest a e h = sym (groups_end copies es) ∙ ap (λ (r : List GroupView). then_groups copies (put_in_groups (groups_of r es) rest a)) (sym e) ∙ h

abbrev pub group_view : trees.Entry → List trees.Entry → trees.Rows → GroupView
group_view x es rs = record { first = x; others = es; rows = rs }

pub same_group : (x y : trees.Entry) (es fs : List trees.Entry) (rs qs : trees.Rows) → x ≡ y → es ≡ fs → rs ≡ qs → group_view x es rs ≡ group_view y fs qs
same_group x y es fs rs qs a b c = ap (λ z. group_view z es rs) a ∙ ap (λ z. group_view y z rs) b ∙ ap (λ z. group_view y fs z) c

pub among_put : (at inside following : ℕ) (one : trees.Starter × trees.Groups) (s0 s1 : trees.Starter) (g0 g1 : trees.Groups) (a : trees.Starter × trees.Groups) → nat_eq at 1 ≡ false → one ≡ (s0, g0) → inside ≡ at - 1 → following ≡ inside - count_in_starter s0
    → s1 ≡ put_in_starter s0 inside a → g1 ≡ put_in_groups g0 following a → (s1, g1) ≡ put_in_among one at a
among_put at inside following one s0 s1 g0 g1 a ne is i b s g =
    let both : trees.Starter × trees.Groups = (put_in_starter s0 (at - 1) a, put_in_groups g0 (at - 1 - count_in_starter s0) a) in
    ap (λ (x : trees.Starter). (x, g1)) s ∙ ap (λ (x : trees.Groups). (put_in_starter s0 inside a, x)) g ∙ ap (λ (m : ℕ). (put_in_starter s0 inside a, put_in_groups g0 m a)) b
    ∙ ap (λ (m : ℕ). (put_in_starter s0 m a, put_in_groups g0 (m - count_in_starter s0) a)) i ∙ ap (λ (t : Bool). if t then a else both) (sym ne) ∙ ap (λ (x : trees.Starter × trees.Groups). put_in_among x at a) (sym is)

pub among_counted : (at inside following rest : ℕ) (one : trees.Starter × trees.Groups) (s0 : trees.Starter) (g0 : trees.Groups) → one ≡ (s0, g0) → inside ≡ at - 1 → following ≡ inside - count_in_starter s0 → rest ≡ following - count_in_groups g0 → rest ≡ at - count_in_among one
among_counted at inside following rest one s0 g0 is i b r = among_left at inside following rest (count_in_starter s0) (count_in_groups g0) i b r ∙ ap (λ (x : trees.Starter × trees.Groups). at - count_in_among x) (sym is)
