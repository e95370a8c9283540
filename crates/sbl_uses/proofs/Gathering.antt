-- The amongs that the code gathers are those of the body.
use Rattle.std.proofs.Common.{◌≡◌, ◌∙◌, ◌++◌, ◌∷◌, ◌+◌, ℕ, List, [], refl, sym, append_assoc}
use Rattle.std.proofs.lemmas.List.{append-nil}
use Rattle.sbl_tree_amongs.specs.Amongs.{AmongContents, amongs, amongs_of_body, amongs_of_groups, amongs_of_others, amongs_of_rows, amongs_of_starter}
use Rattle.sbl_ast.specs.Tree.{Command, bracket, simple_, literal_, name_, non_, prefixed, counted, move_, named, splice_, setlimit_, assign_, compare_, compare_values_, among_, Rows, no_rows, row, Others, no_others, joined, Starter, no_starter, starter, Groups, bare, group}
use Rattle.sbl_ast.specs.View.{RowView}
use Rattle.sbl_uses.specs.Parts.{groups_held}
use Rattle.sbl_uses.specs.GatheredGroups.{gathered_command, gathered_groups, gathered_others, gathered_rows, gathered_starter}

mutual
  in_command : (c : Command) (d : ℕ) (sofar : List Groups) (rest : List AmongContents) → gathered_command c sofar ++ groups_held rest ≡ sofar ++ groups_held (amongs c d rest)
  in_command (bracket rs) d sofar rest = in_rows rs (d + 1) sofar rest
  in_command (prefixed p c) d sofar rest = in_command c (d + 1) sofar rest
  in_command (counted n e c) d sofar rest = in_command c (d + 1) sofar rest
  in_command (setlimit_ b c) d sofar rest = in_command c (d + 1) (gathered_command b sofar) rest ∙ in_command b (d + 1) sofar (amongs c (d + 1) rest)
  in_command (among_ s gs) d sofar rest =
      in_groups gs d (gathered_starter s (sofar ++ gs ∷ [])) rest
      ∙ in_starter s d (sofar ++ gs ∷ []) (amongs_of_groups gs d rest)
      ∙ append_assoc sofar (gs ∷ []) (groups_held (amongs_of_starter s d (amongs_of_groups gs d rest)))
  in_command (simple_ x) d sofar rest = refl
  in_command (literal_ q) d sofar rest = refl
  in_command (name_ n) d sofar rest = refl
  in_command (non_ b n) d sofar rest = refl
  in_command (move_ x e) d sofar rest = refl
  in_command (named x n) d sofar rest = refl
  in_command (splice_ x a) d sofar rest = refl
  in_command (assign_ n o e) d sofar rest = refl
  in_command (compare_ n o e) d sofar rest = refl
  in_command (compare_values_ e o f) d sofar rest = refl

  in_rows : (rs : Rows) (d : ℕ) (sofar : List Groups) (rest : List AmongContents) → gathered_rows rs sofar ++ groups_held rest ≡ sofar ++ groups_held (amongs_of_rows rs d rest)
  in_rows no_rows d sofar rest = refl
  in_rows (row c os rs) d sofar rest =
      in_rows rs d (gathered_others os (gathered_command c sofar)) rest
      ∙ in_others os d (gathered_command c sofar) (amongs_of_rows rs d rest)
      ∙ in_command c d sofar (amongs_of_others os d (amongs_of_rows rs d rest))

  in_others : (os : Others) (d : ℕ) (sofar : List Groups) (rest : List AmongContents) → gathered_others os sofar ++ groups_held rest ≡ sofar ++ groups_held (amongs_of_others os d rest)
  in_others no_others d sofar rest = refl
  in_others (joined j c os) d sofar rest = in_others os d (gathered_command c sofar) rest ∙ in_command c d sofar (amongs_of_others os d rest)

  in_starter : (s : Starter) (d : ℕ) (sofar : List Groups) (rest : List AmongContents) → gathered_starter s sofar ++ groups_held rest ≡ sofar ++ groups_held (amongs_of_starter s d rest)
  in_starter no_starter d sofar rest = refl
  in_starter (starter rs) d sofar rest = in_rows rs (d + 1 + 1) sofar rest

  in_groups : (gs : Groups) (d : ℕ) (sofar : List Groups) (rest : List AmongContents) → gathered_groups gs sofar ++ groups_held rest ≡ sofar ++ groups_held (amongs_of_groups gs d rest)
  in_groups (bare es) d sofar rest = refl
  in_groups (group e es rs gs) d sofar rest = in_groups gs d (gathered_rows rs sofar) rest ∙ in_rows rs (d + 1 + 1) sofar (amongs_of_groups gs d rest)

pub gathered_body : (b : RowView) → gathered_others b.1 (gathered_command b.0 []) ≡ groups_held (amongs_of_body b)
gathered_body b =
    sym (append-nil (gathered_others b.1 (gathered_command b.0 [])))
    ∙ in_others b.1 1 (gathered_command b.0 []) []
    ∙ in_command b.0 1 [] (amongs_of_others b.1 1 [])
