-- The amongs of a tree, in the order of the words `among`, and a tree in which another among replaces one.
use Rattle.std.specs.Prelude.{◌≡◌, ℕ, ◌+◌, ◌-◌, List, [], ◌∷◌, Option, Some, None, nat_eq, if◌then◌else◌}
use Rattle.sbl_ast.specs.Tree.{Command, bracket, prefixed, counted, setlimit_, among_, Rows, no_rows, row, Others, no_others, joined}
use Rattle.sbl_ast.specs.Tree.{Starter, no_starter, starter, Groups, bare, group}
use Rattle.sbl_ast.specs.Places.{placed_command, AreShallow}
use Rattle.sbl_ast.specs.Counts.{count_amongs, count_in_rows, count_in_others, count_in_starter}
use Rattle.sbl_ast.specs.View.{view_among}
use Rattle.sbl_ast.specs.declared.tree.Among.{Among}

-- an among: its depth, its starter and its groups
abbrev pub AmongContents : Type 0
AmongContents = ℕ × Starter × Groups

-- the among of a tree in memory, at depth d
abbrev pub contents_of : ℕ → Among → AmongContents
contents_of d a = (d, (view_among a).0, (view_among a).1)

-- the amongs of a command at depth d, followed by the list `rest`
abbrev mutual
  pub amongs : Command → ℕ → List AmongContents → List AmongContents
  amongs (bracket rs) d rest = amongs_of_rows rs (d + 1) rest
  amongs (prefixed p c) d rest = amongs c (d + 1) rest
  amongs (counted n e c) d rest = amongs c (d + 1) rest
  amongs (setlimit_ b c) d rest = amongs b (d + 1) (amongs c (d + 1) rest)
  amongs (among_ s gs) d rest = (d, s, gs) ∷ amongs_of_starter s d (amongs_of_groups gs d rest)
  amongs _ d rest = rest

  pub amongs_of_rows : Rows → ℕ → List AmongContents → List AmongContents
  amongs_of_rows no_rows d rest = rest
  amongs_of_rows (row c os rs) d rest = amongs c d (amongs_of_others os d (amongs_of_rows rs d rest))

  pub amongs_of_others : Others → ℕ → List AmongContents → List AmongContents
  amongs_of_others no_others d rest = rest
  amongs_of_others (joined j c os) d rest = amongs c d (amongs_of_others os d rest)

  pub amongs_of_starter : Starter → ℕ → List AmongContents → List AmongContents
  amongs_of_starter no_starter d rest = rest
  amongs_of_starter (starter rs) d rest = amongs_of_rows rs (d + 1 + 1) rest

  pub amongs_of_groups : Groups → ℕ → List AmongContents → List AmongContents
  amongs_of_groups (bare es) d rest = rest
  amongs_of_groups (group e es rs gs) d rest = amongs_of_rows rs (d + 1 + 1) (amongs_of_groups gs d rest)

-- the amongs of a routine's body
abbrev pub amongs_of_body : Command × Others → List AmongContents
amongs_of_body b = amongs b.0 1 (amongs_of_others b.1 1 [])

-- the among with number k, counted from 1
abbrev pub nth_held : ℕ → List AmongContents → Option AmongContents
nth_held k [] = None
nth_held k (h ∷ hs) = if nat_eq k 1 then Some h else nth_held (k - 1) hs

-- The tree with another among in place of the one with number k, counted from 1. After each part, k decreases by the
-- number of amongs in that part. No among has number 0.
abbrev mutual
  pub put_among : Command → ℕ → Starter × Groups → Command
  put_among (bracket rs) k a = bracket (put_in_rows rs k a)
  put_among (prefixed p c) k a = prefixed p (put_among c k a)
  put_among (counted n e c) k a = counted n e (put_among c k a)
  put_among (setlimit_ b c) k a = setlimit_ (put_among b k a) (put_among c (k - count_amongs b) a)
  put_among (among_ s gs) k a =
      if nat_eq k 1 then among_ a.0 a.1
      else among_ (put_in_starter s (k - 1) a) (put_in_groups gs (k - 1 - count_in_starter s) a)
  put_among c k a = c

  pub put_in_rows : Rows → ℕ → Starter × Groups → Rows
  put_in_rows no_rows k a = no_rows
  put_in_rows (row c os rs) k a =
      row (put_among c k a) (put_in_others os (k - count_amongs c) a) (put_in_rows rs (k - count_amongs c - count_in_others os) a)

  pub put_in_others : Others → ℕ → Starter × Groups → Others
  put_in_others no_others k a = no_others
  put_in_others (joined j c os) k a = joined j (put_among c k a) (put_in_others os (k - count_amongs c) a)

  pub put_in_starter : Starter → ℕ → Starter × Groups → Starter
  put_in_starter no_starter k a = no_starter
  put_in_starter (starter rs) k a = starter (put_in_rows rs k a)

  pub put_in_groups : Groups → ℕ → Starter × Groups → Groups
  put_in_groups (bare es) k a = bare es
  put_in_groups (group e es rs gs) k a = group e es (put_in_rows rs k a) (put_in_groups gs (k - count_in_rows rs) a)

-- a routine's body with another among in place of the one with number k
abbrev pub put_in_body : Command × Others → ℕ → Starter × Groups → Command × Others
put_in_body b k a = (put_among b.0 k a, put_in_others b.1 (k - count_amongs b.0) a)

-- an among in which another replaces number k: the among itself has number 1, and those inside it follow
abbrev pub put_in_among : Starter × Groups → ℕ → Starter × Groups → Starter × Groups
put_in_among b k a = if nat_eq k 1 then a else (put_in_starter b.0 (k - 1) a, put_in_groups b.1 (k - 1 - count_in_starter b.0) a)

-- an among fits in place of the one with number k: at that depth none of its tokens is too deep
abbrev pub FitsAt : ℕ → List AmongContents → Starter × Groups → Type 0
FitsAt k hs a = (h : AmongContents) → nth_held k hs ≡ Some h → AreShallow (placed_command (among_ a.0 a.1) h.0 [])
