-- One step of the walk to an among, and what is shallow there.
use Rattle.std.proofs.Common.{◌≡◌, ℕ, ◌+◌, ◌-◌, ◌^◌, ◌≤◌, min, Bool, false, nat_eq, List, [], ◌∷◌, map, Option, Some, if◌then◌else◌, sym, ap, subst, ◌∙◌, arith}
use denote.Ref.{Bor}
use Rattle.sbl_ast.specs.declared.tree.Count.{Count}
use Rattle.sbl_ast.specs.declared.tree.Among.{Among}
use Rattle.sbl_ast.specs.declared.tree.Command.TheViews.{out-Among, out-RowOfCommands}
use Rattle.sbl_ast.specs.declared.tree.Command.TheFolds.{fold_out-Among, fold_out-RowOfCommands}
use Rattle.sbl_ast.specs.declared.tree.RowOfCommands.{RowOfCommands as Row}
use Rattle.sbl_tree_amongs.specs.declared.finding.WalkEnd.{WalkEnd}
use Rattle.sbl_tree_amongs.specs.declared.finding.WalkEnd.TheVariants as ends
use Rattle.sbl_token.specs.Lexemes as lex
use Rattle.sbl_token.specs.declared.words.Word.TheVariants as words
use Rattle.sbl_token.specs.declared.signs.Sign.TheVariants as signs
use Rattle.sbl_ast.specs.Tree.{Command, bracket, counted, setlimit_, among_, Rows, Others, Starter, starter, Groups, Entry, Expression}
use Rattle.sbl_tree_amongs.specs.Amongs.{AmongContents, amongs, amongs_of_rows, amongs_of_others, amongs_of_starter, amongs_of_groups, nth_held}
use Rattle.sbl_tree_amongs.specs.WalkEnds.{Finds}
use Rattle.sbl_ast.specs.Places.{AtDepth, placed_expression, placed_entry, placed_entries, placed_command, placed_rows, placed_others, placed_starter, placed_groups, AreShallow}
use Rattle.sbl_ast.specs.View.{AmongView, RowView, GroupView, among_step, command_step, group_step, row_step, rows_of, view_among, view_command, view_entry, view_row}
use Rattle.sbl_ast.specs.inside.ViewParts.{NextCommandView, next_command_step}
use Rattle.sbl_ast.specs.inside.ViewParts.{others_of, groups_of, view_groups, view_others}
use Rattle.sbl_ast.proofs.After.{IsBefore, by_itself, after_it, with_after, entry_before, entries_before, expression_before, tree_before, rows_before, others_before, starter_before, groups_before}

abbrev Hs : Type 0
Hs = List AmongContents

abbrev Ps : Type 0
Ps = List AtDepth

-- ---- what is shallow inside

pub bracket_in : (c : Command) (rs : Rows) (d : ℕ) → c ≡ bracket rs → AreShallow (placed_command c d []) → AreShallow (placed_rows rs (d + 1) [])
bracket_in c rs d is h = by_itself (placed_rows rs (d + 1)) (rows_before rs (d + 1)) ((lex.sign signs.Close, d) ∷ []) (subst (λ (x : Command). AreShallow (placed_command x d [])) is h).1

pub counted_in : (c b : Command) (n : Count) (e : Expression) (d : ℕ) → c ≡ counted n e b → AreShallow (placed_command c d []) → AreShallow (placed_command b (d + 1) [])
counted_in c b n e d is h = after_it (placed_expression e d) (expression_before e d) (placed_command b (d + 1) []) (subst (λ (x : Command). AreShallow (placed_command x d [])) is h).1

pub limit_in : (c a b : Command) (d : ℕ) → c ≡ setlimit_ a b → AreShallow (placed_command c d []) → AreShallow (placed_command a (d + 1) [])
limit_in c a b d is h = by_itself (placed_command a (d + 1)) (tree_before a (d + 1)) ((lex.word words.For, d) ∷ placed_command b (d + 1) []) (subst (λ (x : Command). AreShallow (placed_command x d [])) is h).1

pub limited_in : (c a b : Command) (d : ℕ) → c ≡ setlimit_ a b → AreShallow (placed_command c d []) → AreShallow (placed_command b (d + 1) [])
limited_in c a b d is h = (after_it (placed_command a (d + 1)) (tree_before a (d + 1)) ((lex.word words.For, d) ∷ placed_command b (d + 1) []) (subst (λ (x : Command). AreShallow (placed_command x d [])) is h).1).1

pub starter_in : (s : Starter) (gs : Groups) (d : ℕ) → AreShallow (placed_command (among_ s gs) d []) → AreShallow (placed_starter s d [])
starter_in s gs d h = by_itself (placed_starter s d) (starter_before s d) (placed_groups gs d ((lex.sign signs.Close, d) ∷ [])) h.1.1

pub rows_in : (s : Starter) (rs : Rows) (d : ℕ) → s ≡ starter rs → AreShallow (placed_starter s d []) → AreShallow (placed_rows rs (d + 1 + 1) [])
rows_in s rs d is h = by_itself (placed_rows rs (d + 1 + 1)) (rows_before rs (d + 1 + 1)) ((lex.sign signs.Close, d + 1) ∷ []) (subst (λ (x : Starter). AreShallow (placed_starter x d [])) is h).1

-- a group, and then others
abbrev one_group : Entry → List Entry → Rows → ℕ → Ps → Ps
one_group e es rs d r = placed_entry e d (placed_entries es d ((lex.sign signs.Open, d + 1) ∷ placed_rows rs (d + 1 + 1) ((lex.sign signs.Close, d + 1) ∷ r)))

group_before : (e : Entry) (es : List Entry) (rs : Rows) (d : ℕ) → IsBefore (one_group e es rs d)
group_before e es rs d r q =
    let left = (lex.sign signs.Open, d + 1) ∷ placed_rows rs (d + 1 + 1) ((lex.sign signs.Close, d + 1) ∷ r) in
    ap (λ (z : Ps). placed_entry e d (placed_entries es d ((lex.sign signs.Open, d + 1) ∷ z))) (rows_before rs (d + 1 + 1) ((lex.sign signs.Close, d + 1) ∷ r) q)
    ∙ ap (placed_entry e d) (entries_before es d left q) ∙ entry_before e d (placed_entries es d left) q

-- the strings after the last group do not matter
bare_in : (gs : List GroupView) (es : List Entry) (d : ℕ) → AreShallow (placed_groups (groups_of gs es) d []) → AreShallow (placed_groups (groups_of gs []) d [])
bare_in [] es d h = tt
bare_in (g ∷ gs) es d h =
    let part = one_group g.first g.others g.rows d in
    let before = group_before g.first g.others g.rows d in
    with_after part before (placed_groups (groups_of gs []) d []) (by_itself part before (placed_groups (groups_of gs es) d []) h) (bare_in gs es d (after_it part before (placed_groups (groups_of gs es) d []) h))

pub seen_groups : (a : Among) → (view_among a).1 ≡ view_groups (out-Among a).groups.items (map view_entry (out-Among a).bare.items)
seen_groups a = ap (λ (x : AmongView). x.1) (fold_out-Among Command AmongView GroupView NextCommandView RowView command_step among_step group_step next_command_step row_step a)

pub seen_row : (r : Row) → view_row r ≡ (view_command (out-RowOfCommands r).first, view_others (out-RowOfCommands r).others.items)
seen_row r = fold_out-RowOfCommands Command AmongView GroupView NextCommandView RowView command_step among_step group_step next_command_step row_step r

pub groups_in : (s : Starter) (all : Groups) (gs : List GroupView) (es : List Entry) (d : ℕ) → all ≡ groups_of gs es → AreShallow (placed_command (among_ s all) d []) → AreShallow (placed_groups (groups_of gs []) d [])
groups_in s all gs es d is h =
    let close = (lex.sign signs.Close, d) ∷ [] in
    let there = after_it (placed_starter s d) (starter_before s d) (placed_groups all d close) h.1.1 in
    bare_in gs es d (subst (λ (x : Groups). AreShallow (placed_groups x d [])) is (by_itself (placed_groups all d) (groups_before all d) close there))

pub group_in : (g : GroupView) (whole left : List GroupView) (d : ℕ) → whole ≡ g ∷ left → AreShallow (placed_groups (groups_of whole []) d []) → AreShallow (placed_rows g.rows (d + 1 + 1) [])
group_in g whole left d is h =
    let after = (lex.sign signs.Close, d + 1) ∷ placed_groups (groups_of left []) d [] in
    let inner = (lex.sign signs.Open, d + 1) ∷ placed_rows g.rows (d + 1 + 1) after in
    let start = subst (λ (x : List GroupView). AreShallow (placed_groups (groups_of x []) d [])) is h in
    let strings = after_it (placed_entry g.first d) (entry_before g.first d) (placed_entries g.others d inner) start in
    by_itself (placed_rows g.rows (d + 1 + 1)) (rows_before g.rows (d + 1 + 1)) after (after_it (placed_entries g.others d) (entries_before g.others d) inner strings).1

pub groups_on : (g : GroupView) (whole left : List GroupView) (d : ℕ) → whole ≡ g ∷ left → AreShallow (placed_groups (groups_of whole []) d []) → AreShallow (placed_groups (groups_of left []) d [])
groups_on g whole left d is h =
    after_it (one_group g.first g.others g.rows d) (group_before g.first g.others g.rows d) (placed_groups (groups_of left []) d []) (subst (λ (x : List GroupView). AreShallow (placed_groups (groups_of x []) d [])) is h)

pub row_in : (x : RowView) (whole left : List RowView) (d : ℕ) → whole ≡ x ∷ left → AreShallow (placed_rows (rows_of whole) d []) → AreShallow (placed_command x.0 d (placed_others x.1 d []))
row_in x whole left d is h =
    let more = placed_rows (rows_of left) d [] in
    let start = subst (λ (z : List RowView). AreShallow (placed_rows (rows_of z) d [])) is h in
    let tail = after_it (placed_command x.0 d) (tree_before x.0 d) (placed_others x.1 d more) start in
    with_after (placed_command x.0 d) (tree_before x.0 d) (placed_others x.1 d []) (by_itself (placed_command x.0 d) (tree_before x.0 d) (placed_others x.1 d more) start) (by_itself (placed_others x.1 d) (others_before x.1 d) more tail)

pub rows_on : (x : RowView) (whole left : List RowView) (d : ℕ) → whole ≡ x ∷ left → AreShallow (placed_rows (rows_of whole) d []) → AreShallow (placed_rows (rows_of left) d [])
rows_on x whole left d is h =
    let more = placed_rows (rows_of left) d [] in
    let start = subst (λ (z : List RowView). AreShallow (placed_rows (rows_of z) d [])) is h in
    after_it (placed_others x.1 d) (others_before x.1 d) more (after_it (placed_command x.0 d) (tree_before x.0 d) (placed_others x.1 d more) start)

pub joined_in : (x : NextCommandView) (whole left : List NextCommandView) (d : ℕ) → whole ≡ x ∷ left → AreShallow (placed_others (others_of whole) d []) → AreShallow (placed_command x.1 d [])
joined_in x whole left d is h = by_itself (placed_command x.1 d) (tree_before x.1 d) (placed_others (others_of left) d []) (subst (λ (z : List NextCommandView). AreShallow (placed_others (others_of z) d [])) is h).1

pub others_on : (x : NextCommandView) (whole left : List NextCommandView) (d : ℕ) → whole ≡ x ∷ left → AreShallow (placed_others (others_of whole) d []) → AreShallow (placed_others (others_of left) d [])
others_on x whole left d is h = after_it (placed_command x.1 d) (tree_before x.1 d) (placed_others (others_of left) d []) (subst (λ (z : List NextCommandView). AreShallow (placed_others (others_of z) d [])) is h).1

pub first_in : (b : RowView) (c : Command) (os : Others) (d : ℕ) → b ≡ (c, os) → AreShallow (placed_command b.0 d (placed_others b.1 d [])) → AreShallow (placed_command c d [])
first_in b c os d is h = by_itself (placed_command c d) (tree_before c d) (placed_others os d []) (subst (λ (z : RowView). AreShallow (placed_command z.0 d (placed_others z.1 d []))) is h)

pub others_in : (b : RowView) (c : Command) (os : Others) (d : ℕ) → b ≡ (c, os) → AreShallow (placed_command b.0 d (placed_others b.1 d [])) → AreShallow (placed_others os d [])
others_in b c os d is h = after_it (placed_command c d) (tree_before c d) (placed_others os d []) (subst (λ (z : RowView). AreShallow (placed_command z.0 d (placed_others z.1 d []))) is h)

-- ---- what is found

-- after one part, in the next
pub find_both : (r : WalkEnd) (n m : ℕ) (part next : Hs → Hs) → ((rest : Hs) → nth_held n (part rest) ≡ nth_held m rest) → Finds r m next → Finds r n (λ rest. part (next rest))
find_both (ends.There d a) n m part next f g = (g.0, λ rest. f (next rest) ∙ g.1 rest)
find_both (ends.After k) n m part next f g = λ rest. f (next rest) ∙ g rest

pub finds_there : (r : WalkEnd) (n : ℕ) (part next : Hs → Hs) → ((rest : Hs) → part rest ≡ next rest) → Finds r n part → Finds r n next
finds_there (ends.There d a) n part next same g = (g.0, λ rest. ap (nth_held n) (sym (same rest)) ∙ g.1 rest)
finds_there (ends.After k) n part next same g = λ rest. ap (nth_held n) (sym (same rest)) ∙ g rest

-- ---- one step of the walk

-- an among where it lies
abbrev Place : Type 0
Place = Bor Among

pub there_before : (d : ℕ) (a : Place) (n : ℕ) (part next : Hs → Hs) → Finds (ends.There d a) n part → Finds (ends.There d a) n (λ rest. part (next rest))
there_before d a n part next g = (g.0, λ rest. g.1 (next rest))

one_deeper : (d e : ℕ) → e ≡ min (d + 1) (2 ^ 8 - 1) → d ≤ 64 → e ≡ d + 1
one_deeper d e is le = omega (arith, is, le)

two_deeper : (d e : ℕ) → e ≡ min (d + 2) (2 ^ 8 - 1) → d + 1 ≤ 64 → e ≡ d + 1 + 1
two_deeper d e is le = omega (arith, is, le)

first_shallow : (c x : Command) (d : ℕ) → c ≡ x → AreShallow (placed_command c d []) → AreShallow (placed_command x d [])
first_shallow c x d is h = subst (λ (y : Command). AreShallow (placed_command y d [])) is h

abbrev RowsFind : WalkEnd → ℕ → Rows → ℕ → Type 0
RowsFind r n rs e = AreShallow (placed_rows rs e []) → Finds r n (λ rest. amongs_of_rows rs e rest)

abbrev TreeFinds : WalkEnd → ℕ → Command → ℕ → Type 0
TreeFinds r n c e = AreShallow (placed_command c e []) → Finds r n (λ rest. amongs c e rest)

as_seen : (r : WalkEnd) (n d : ℕ) (c x : Command) → c ≡ x → Finds r n (λ rest. amongs x d rest) → Finds r n (λ rest. amongs c d rest)
as_seen r n d c x is f = finds_there r n (λ rest. amongs x d rest) (λ rest. amongs c d rest) (λ rest. ap (λ (y : Command). amongs y d rest) (sym is)) f

pub bracket_finds : (r : WalkEnd) (n d e : ℕ) (c : Command) (rs : Rows) → c ≡ bracket rs → e ≡ min (d + 1) (2 ^ 8 - 1) → RowsFind r n rs e → TreeFinds r n c d
bracket_finds r n d e c rs is deep f h =
    let same = one_deeper d e deep (first_shallow c (bracket rs) d is h).0 in
    as_seen r n d c (bracket rs) is (subst (RowsFind r n rs) same f (bracket_in c rs d is h))

pub counted_finds : (r : WalkEnd) (n d e : ℕ) (c b : Command) (k : Count) (x : Expression) → c ≡ counted k x b → e ≡ min (d + 1) (2 ^ 8 - 1) → TreeFinds r n b e → TreeFinds r n c d
counted_finds r n d e c b k x is deep f h =
    let same = one_deeper d e deep (first_shallow c (counted k x b) d is h).0 in
    as_seen r n d c (counted k x b) is (subst (TreeFinds r n b) same f (counted_in c b k x d is h))

pub limit_finds : (dd : ℕ) (p : Place) (n d e : ℕ) (c a b : Command) → c ≡ setlimit_ a b → e ≡ min (d + 1) (2 ^ 8 - 1) → TreeFinds (ends.There dd p) n a e → TreeFinds (ends.There dd p) n c d
limit_finds dd p n d e c a b is deep f h =
    let same = one_deeper d e deep (first_shallow c (setlimit_ a b) d is h).0 in
    as_seen (ends.There dd p) n d c (setlimit_ a b) is (there_before dd p n (λ rest. amongs a (d + 1) rest) (λ rest. amongs b (d + 1) rest) (subst (TreeFinds (ends.There dd p) n a) same f (limit_in c a b d is h)))

pub limited_finds : (r : WalkEnd) (n m d e : ℕ) (c a b : Command) → c ≡ setlimit_ a b → e ≡ min (d + 1) (2 ^ 8 - 1) → TreeFinds (ends.After m) n a e → TreeFinds r m b e → TreeFinds r n c d
limited_finds r n m d e c a b is deep f g h =
    let same = one_deeper d e deep (first_shallow c (setlimit_ a b) d is h).0 in
    as_seen r n d c (setlimit_ a b) is (find_both r n m (λ rest. amongs a (d + 1) rest) (λ rest. amongs b (d + 1) rest) (subst (TreeFinds (ends.After m) n a) same f (limit_in c a b d is h)) (subst (TreeFinds r m b) same g (limited_in c a b d is h)))

abbrev StarterFinds : WalkEnd → ℕ → Starter → ℕ → Type 0
StarterFinds r n s d = AreShallow (placed_starter s d []) → Finds r n (λ rest. amongs_of_starter s d rest)

pub starter_finds : (r : WalkEnd) (n d e : ℕ) (s : Starter) (rs : Rows) → s ≡ starter rs → e ≡ min (d + 2) (2 ^ 8 - 1) → RowsFind r n rs e → StarterFinds r n s d
starter_finds r n d e s rs is deep f h =
    let same = two_deeper d e deep (subst (λ (x : Starter). AreShallow (placed_starter x d [])) is h).0 in
    finds_there r n (λ rest. amongs_of_rows rs (d + 1 + 1) rest) (λ rest. amongs_of_starter s d rest) (λ rest. ap (λ (x : Starter). amongs_of_starter x d rest) (sym is)) (subst (RowsFind r n rs) same f (rows_in s rs d is h))

past_first : (n inside d m : ℕ) (s : Starter) (gs : Groups) (rest : Hs) (v : Option AmongContents) → nat_eq n 1 ≡ false → inside ≡ n - 1 → nth_held inside rest ≡ v → nth_held n ((d, s, gs) ∷ rest) ≡ v
past_first n inside d m s gs rest v ne is f =
    ap (λ (b : Bool). if b then Some (d, s, gs) else nth_held (n - 1) rest) ne ∙ ap (λ (k : ℕ). nth_held k rest) (sym is) ∙ f

pub found_in_starter : (dd : ℕ) (p : Place) (n inside d : ℕ) (s : Starter) (gs : Groups) → nat_eq n 1 ≡ false → inside ≡ n - 1 → StarterFinds (ends.There dd p) inside s d → TreeFinds (ends.There dd p) n (among_ s gs) d
found_in_starter dd p n inside d s gs ne is f h =
    let g = f (starter_in s gs d h) in
    (g.0, λ rest. past_first n inside d 0 s gs (amongs_of_starter s d (amongs_of_groups gs d rest)) _ ne is (g.1 (amongs_of_groups gs d rest)))

abbrev GroupsFind : WalkEnd → ℕ → List GroupView → ℕ → Type 0
GroupsFind r n gs d = AreShallow (placed_groups (groups_of gs []) d []) → (bare : List Entry) → Finds r n (λ rest. amongs_of_groups (groups_of gs bare) d rest)

pub found_in_groups : (r : WalkEnd) (n inside m d : ℕ) (s : Starter) (all : Groups) (gs : List GroupView) (bare : List Entry) → nat_eq n 1 ≡ false → inside ≡ n - 1 → all ≡ groups_of gs bare → StarterFinds (ends.After m) inside s d → GroupsFind r m gs d → TreeFinds r n (among_ s all) d
found_in_groups r n inside m d s all gs bare ne is same f g h =
    let found_ = g (groups_in s all gs bare d same h) bare in
    let first : (rest : Hs) → nth_held n ((d, s, all) ∷ amongs_of_starter s d rest) ≡ nth_held m rest = λ rest. past_first n inside d m s all (amongs_of_starter s d rest) _ ne is (f (starter_in s all d h) rest) in
    finds_there r n (λ rest. (d, s, all) ∷ amongs_of_starter s d (amongs_of_groups (groups_of gs bare) d rest)) (λ rest. amongs (among_ s all) d rest) (λ rest. ap (λ (x : Groups). (d, s, all) ∷ amongs_of_starter s d (amongs_of_groups x d rest)) (sym same))
    (find_both r n m (λ rest. (d, s, all) ∷ amongs_of_starter s d rest) (λ rest. amongs_of_groups (groups_of gs bare) d rest) first found_)

-- ---- one turn of a loop: what holds before it

abbrev pub GroupsSofar : ℕ → ℕ → List GroupView → List GroupView → ℕ → Type 0
GroupsSofar b n whole all d = AreShallow (placed_groups (groups_of all []) d []) → AreShallow (placed_groups (groups_of whole []) d []) × ((bare : List Entry) (rest : Hs) → nth_held b (amongs_of_groups (groups_of whole bare) d rest) ≡ nth_held n (amongs_of_groups (groups_of all bare) d rest))

abbrev pub RowsSofar : ℕ → ℕ → List RowView → List RowView → ℕ → Type 0
RowsSofar b n whole all d = AreShallow (placed_rows (rows_of all) d []) → AreShallow (placed_rows (rows_of whole) d []) × ((rest : Hs) → nth_held b (amongs_of_rows (rows_of whole) d rest) ≡ nth_held n (amongs_of_rows (rows_of all) d rest))

abbrev pub OthersSofar : ℕ → ℕ → List NextCommandView → List NextCommandView → ℕ → Type 0
OthersSofar b n whole all d = AreShallow (placed_others (others_of all) d []) → AreShallow (placed_others (others_of whole) d []) × ((rest : Hs) → nth_held b (amongs_of_others (others_of whole) d rest) ≡ nth_held n (amongs_of_others (others_of all) d rest))

-- the rows of a group are two deeper
group_deep : (g : GroupView) (whole left : List GroupView) (d e : ℕ) → whole ≡ g ∷ left → e ≡ min (d + 2) (2 ^ 8 - 1) → AreShallow (placed_groups (groups_of whole []) d []) → e ≡ d + 1 + 1
group_deep g whole left d e is deep h =
    let inner = (lex.sign signs.Open, d + 1) ∷ placed_rows g.rows (d + 1 + 1) ((lex.sign signs.Close, d + 1) ∷ placed_groups (groups_of left []) d []) in
    let start = subst (λ (x : List GroupView). AreShallow (placed_groups (groups_of x []) d [])) is h in
    let strings = after_it (placed_entry g.first d) (entry_before g.first d) (placed_entries g.others d inner) start in
    two_deeper d e deep (after_it (placed_entries g.others d) (entries_before g.others d) inner strings).0

pub groups_there : (dd : ℕ) (p : Place) (b n d e : ℕ) (g : GroupView) (whole left all : List GroupView) → whole ≡ g ∷ left → e ≡ min (d + 2) (2 ^ 8 - 1) → GroupsSofar b n whole all d → RowsFind (ends.There dd p) b g.rows e → GroupsFind (ends.There dd p) n all d
groups_there dd p b n d e g whole left all is deep inv f h bare =
    let now = inv h in
    let found_ = subst (RowsFind (ends.There dd p) b g.rows) (group_deep g whole left d e is deep now.0) f (group_in g whole left d is now.0) in
    (found_.0, λ rest. sym (now.1 bare rest) ∙ ap (λ (x : List GroupView). nth_held b (amongs_of_groups (groups_of x bare) d rest)) is ∙ found_.1 (amongs_of_groups (groups_of left bare) d rest))

pub groups_next : (b n m d e : ℕ) (g : GroupView) (whole left all : List GroupView) → whole ≡ g ∷ left → e ≡ min (d + 2) (2 ^ 8 - 1) → GroupsSofar b n whole all d → RowsFind (ends.After m) b g.rows e → GroupsSofar m n left all d
groups_next b n m d e g whole left all is deep inv f h =
    let now = inv h in
    let found_ = subst (RowsFind (ends.After m) b g.rows) (group_deep g whole left d e is deep now.0) f (group_in g whole left d is now.0) in
    (groups_on g whole left d is now.0, λ bare rest. sym (found_ (amongs_of_groups (groups_of left bare) d rest)) ∙ ap (λ (x : List GroupView). nth_held b (amongs_of_groups (groups_of x bare) d rest)) (sym is) ∙ now.1 bare rest)

abbrev pub RowFinds : WalkEnd → ℕ → RowView → ℕ → Type 0
RowFinds r n x d = AreShallow (placed_command x.0 d (placed_others x.1 d [])) → Finds r n (λ rest. amongs x.0 d (amongs_of_others x.1 d rest))

pub rows_there : (dd : ℕ) (p : Place) (b n d : ℕ) (x : RowView) (whole left all : List RowView) → whole ≡ x ∷ left → RowsSofar b n whole all d → RowFinds (ends.There dd p) b x d → RowsFind (ends.There dd p) n (rows_of all) d
rows_there dd p b n d x whole left all is inv f h =
    let now = inv h in
    let found_ = f (row_in x whole left d is now.0) in
    (found_.0, λ rest. sym (now.1 rest) ∙ ap (λ (z : List RowView). nth_held b (amongs_of_rows (rows_of z) d rest)) is ∙ found_.1 (amongs_of_rows (rows_of left) d rest))

pub rows_next : (b n m d : ℕ) (x : RowView) (whole left all : List RowView) → whole ≡ x ∷ left → RowsSofar b n whole all d → RowFinds (ends.After m) b x d → RowsSofar m n left all d
rows_next b n m d x whole left all is inv f h =
    let now = inv h in
    let found_ = f (row_in x whole left d is now.0) in
    (rows_on x whole left d is now.0, λ rest. sym (found_ (amongs_of_rows (rows_of left) d rest)) ∙ ap (λ (z : List RowView). nth_held b (amongs_of_rows (rows_of z) d rest)) (sym is) ∙ now.1 rest)

abbrev pub OthersFind : WalkEnd → ℕ → Others → ℕ → Type 0
OthersFind r n os d = AreShallow (placed_others os d []) → Finds r n (λ rest. amongs_of_others os d rest)

pub others_there : (dd : ℕ) (p : Place) (b n d : ℕ) (x : NextCommandView) (whole left all : List NextCommandView) → whole ≡ x ∷ left → OthersSofar b n whole all d → TreeFinds (ends.There dd p) b x.1 d → OthersFind (ends.There dd p) n (others_of all) d
others_there dd p b n d x whole left all is inv f h =
    let now = inv h in
    let found_ = f (joined_in x whole left d is now.0) in
    (found_.0, λ rest. sym (now.1 rest) ∙ ap (λ (z : List NextCommandView). nth_held b (amongs_of_others (others_of z) d rest)) is ∙ found_.1 (amongs_of_others (others_of left) d rest))

pub others_next : (b n m d : ℕ) (x : NextCommandView) (whole left all : List NextCommandView) → whole ≡ x ∷ left → OthersSofar b n whole all d → TreeFinds (ends.After m) b x.1 d → OthersSofar m n left all d
others_next b n m d x whole left all is inv f h =
    let now = inv h in
    let found_ = f (joined_in x whole left d is now.0) in
    (others_on x whole left d is now.0, λ rest. sym (found_ (amongs_of_others (others_of left) d rest)) ∙ ap (λ (z : List NextCommandView). nth_held b (amongs_of_others (others_of z) d rest)) (sym is) ∙ now.1 rest)

row_as_seen : (r : WalkEnd) (n d : ℕ) (b : RowView) (c : Command) (os : Others) → b ≡ (c, os) → Finds r n (λ rest. amongs c d (amongs_of_others os d rest)) → Finds r n (λ rest. amongs b.0 d (amongs_of_others b.1 d rest))
row_as_seen r n d b c os is f = finds_there r n (λ rest. amongs c d (amongs_of_others os d rest)) (λ rest. amongs b.0 d (amongs_of_others b.1 d rest)) (λ rest. ap (λ (z : RowView). amongs z.0 d (amongs_of_others z.1 d rest)) (sym is)) f

pub row_there : (dd : ℕ) (p : Place) (n d : ℕ) (b : RowView) (c : Command) (os : Others) → b ≡ (c, os) → TreeFinds (ends.There dd p) n c d → RowFinds (ends.There dd p) n b d
row_there dd p n d b c os is f h =
    row_as_seen (ends.There dd p) n d b c os is (there_before dd p n (λ rest. amongs c d rest) (λ rest. amongs_of_others os d rest) (f (first_in b c os d is h)))

pub row_finds : (r : WalkEnd) (n m d : ℕ) (b : RowView) (c : Command) (os : Others) → b ≡ (c, os) → TreeFinds (ends.After m) n c d → OthersFind r m os d → RowFinds r n b d
row_finds r n m d b c os is f g h =
    row_as_seen r n d b c os is (find_both r n m (λ rest. amongs c d rest) (λ rest. amongs_of_others os d rest) (f (first_in b c os d is h)) (g (others_in b c os d is h)))
