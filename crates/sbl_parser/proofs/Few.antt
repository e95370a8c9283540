-- A tree has at most as many amongs as tokens.
use Rattle.std.proofs.Common.{◌≡◌, ℕ, ◌+◌, ◌≤◌, true, List, [], ◌∷◌, length, map, ap, arith, length-append}
use Rattle.std.proofs.lemmas.List.{length-map}
use Rattle.sbl_token.specs.declared.token.Token.{Token}
use Rattle.sbl_token.specs.Lexemes.{lexeme_of}
use Rattle.sbl_token.specs.Lexemes as l
use Rattle.sbl_token.specs.declared.words.Word.TheVariants as words
use Rattle.sbl_token.specs.declared.signs.Sign.TheVariants as signs
use Rattle.sbl_ast.specs.Symbols as t
use Rattle.sbl_ast.specs.Tree.{Command, bracket, non_, prefixed, counted, move_, setlimit_, assign_, compare_, compare_values_, among_, Rows, no_rows, row, Others, no_others, joined, Starter, no_starter, starter, Groups, bare, group}
use Rattle.sbl_ast.specs.Counts.{count_amongs, count_in_rows, count_in_others, count_in_starter, count_in_groups, count_in_among}
use Rattle.sbl_ast.specs.Places.{AtDepth, placed_expression, placed_entry, placed_entries, placed_command, placed_rows, placed_others, placed_starter, placed_groups}
use Rattle.sbl_ast.specs.Texts.{among, tokens_of}
use Rattle.sbl_ast.proofs.After.{IsBefore, entry_before, entries_before, expression_before}

abbrev Ps : Type 0
Ps = List AtDepth

no_less : (part : Ps → Ps) → IsBefore part → (rest : Ps) → length rest ≤ length (part rest)
no_less part before rest = omega (arith, ap length (before [] rest), length-append (part []) rest)

mutual
  tree_few : (c : Command) (d : ℕ) (rest : Ps) → count_amongs c + length rest ≤ length (placed_command c d rest)
  tree_few (bracket rs) d rest = omega (arith, rows_few rs (d + 1) ((l.sign signs.Close, d) ∷ rest))
  tree_few (non_ true n) d rest = omega arith
  tree_few (prefixed p c) d rest = omega (arith, tree_few c (d + 1) rest)
  tree_few (counted n e c) d rest = omega (arith, no_less (placed_expression e d) (expression_before e d) (placed_command c (d + 1) rest), tree_few c (d + 1) rest)
  tree_few (move_ m e) d rest = omega (arith, no_less (placed_expression e d) (expression_before e d) rest)
  tree_few (setlimit_ b c) d rest = omega (arith, tree_few b (d + 1) ((l.word words.For, d) ∷ placed_command c (d + 1) rest), tree_few c (d + 1) rest)
  tree_few (assign_ n o e) d rest = omega (arith, no_less (placed_expression e d) (expression_before e d) rest)
  tree_few (compare_ n o e) d rest = omega (arith, no_less (placed_expression e d) (expression_before e d) rest)
  tree_few (compare_values_ e o f) d rest = omega (arith, no_less (placed_expression e d) (expression_before e d) ((t.compares o, d) ∷ placed_expression f d ((l.sign signs.Close, d) ∷ rest)), no_less (placed_expression f d) (expression_before f d) ((l.sign signs.Close, d) ∷ rest))
  tree_few (among_ s gs) d rest = omega (arith, starter_few s d (placed_groups gs d ((l.sign signs.Close, d) ∷ rest)), groups_few gs d ((l.sign signs.Close, d) ∷ rest))
  tree_few _ d rest = omega arith

  rows_few : (rs : Rows) (d : ℕ) (rest : Ps) → count_in_rows rs + length rest ≤ length (placed_rows rs d rest)
  rows_few no_rows d rest = omega arith
  rows_few (row c os rs) d rest = omega (arith, tree_few c d (placed_others os d (placed_rows rs d rest)), others_few os d (placed_rows rs d rest), rows_few rs d rest)

  others_few : (os : Others) (d : ℕ) (rest : Ps) → count_in_others os + length rest ≤ length (placed_others os d rest)
  others_few no_others d rest = omega arith
  others_few (joined j c os) d rest = omega (arith, tree_few c d (placed_others os d rest), others_few os d rest)

  starter_few : (s : Starter) (d : ℕ) (rest : Ps) → count_in_starter s + length rest ≤ length (placed_starter s d rest)
  starter_few no_starter d rest = omega arith
  starter_few (starter rs) d rest = omega (arith, rows_few rs (d + 1 + 1) ((l.sign signs.Close, d + 1) ∷ rest))

  groups_few : (gs : Groups) (d : ℕ) (rest : Ps) → count_in_groups gs + length rest ≤ length (placed_groups gs d rest)
  groups_few (bare es) d rest = omega (arith, no_less (placed_entries es d) (entries_before es d) rest)
  groups_few (group e es rs gs) d rest =
      let left = (l.sign signs.Open, d + 1) ∷ placed_rows rs (d + 1 + 1) ((l.sign signs.Close, d + 1) ∷ placed_groups gs d rest) in
      omega (arith, no_less (placed_entry e d) (entry_before e d) (placed_entries es d left), no_less (placed_entries es d) (entries_before es d) left, rows_few rs (d + 1 + 1) ((l.sign signs.Close, d + 1) ∷ placed_groups gs d rest), groups_few gs d rest)

pub among_few : (a : Starter × Groups) (d : ℕ) (ts : List Token) → tokens_of (among d) a ≡ map lexeme_of ts → count_in_among a ≤ length ts
among_few a d ts is = omega (arith, tree_few (among_ a.0 a.1) d [], length-map (placed_command (among_ a.0 a.1) d []) (λ p. p.0), ap length is, length-map ts lexeme_of)
