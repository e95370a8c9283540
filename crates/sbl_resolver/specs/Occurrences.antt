-- What the checks look at: the occurrences of a script, in text order.
use Rattle.std.specs.Prelude.{ℕ, ◌+◌, Bool, true, false, List, [], ◌∷◌, ◌++◌, Option}
use Rattle.std.specs.List.{fold}
use Rattle.std.specs.Option.{option_map_or}
use Rattle.sbl_ast.specs.declared.tree.DeclarationKind.{DeclarationKind}
use Rattle.sbl_ast.specs.declared.tree.Simple.TheVariants as simples
use Rattle.sbl_ast.specs.declared.tree.Prefix.TheVariants as prefixes
use Rattle.sbl_ast.specs.declared.tree.Naming.{Naming}
use Rattle.sbl_ast.specs.declared.tree.Naming.TheVariants as namings
use Rattle.sbl_token.specs.Lexemes.{Lexeme, word, name}
use Rattle.sbl_token.specs.declared.words.Word.TheVariants as words
use Rattle.sbl_ast.specs.Places.{placed_expression, tokens}
use Rattle.sbl_ast.specs.Tree.{Argument, written_out, by_name, Expression, Entry, entry, Command, bracket, simple_, literal_, name_}
use Rattle.sbl_ast.specs.Tree.{non_, prefixed, counted, move_, named, splice_, setlimit_, assign_, compare_, compare_values_}
use Rattle.sbl_ast.specs.Tree.{among_, Rows, no_rows, row, Others, no_others, joined, Starter, no_starter, starter, Groups, bare}
use Rattle.sbl_ast.specs.Tree.{group, Term, term, Plain, declaration, escapes, macro, routine, grouping, Item}
use Rattle.sbl_ast.specs.Order.{ItemInMode, in_order}
use Rattle.sbl_ast.specs.declared.mode.Mode.TheVariants.{Backward}
use Rattle.sbl_resolver.specs.declared.occurrences.Use.{Use}
use Rattle.sbl_resolver.specs.declared.occurrences.Use.TheVariants as use_as
use Rattle.sbl_resolver.specs.declared.occurrences.Site.{Site}

-- what occurs at one place of a script; names are UTF-8 bytes
pub data Notice : Type 0 where
  declares : DeclarationKind → List ℕ → Notice
  defines_routine defines_grouping : List ℕ → Notice
  uses : Use → List ℕ → Notice
  -- an among: whether it has a starter, whether it has no string
  among : Bool → Bool → Notice
  -- a string of an among: the number of the among in its item, and the characters of the string
  string : ℕ → List ℕ → Notice
  -- `region_end` is the end of a routine's body, or of the parentheses of a group or a starter
  substring backwards region_end : Notice

pub record Occurrence : Type 0 where
  pub site : Site
  pub notice : Notice

-- Each of the following functions appends its own occurrences to those so far.
abbrev pub put : Notice → Site → List Occurrence → List Occurrence
put n p sofar = sofar ++ (record { site = p; notice = n }) ∷ []

-- the number of amongs in the last routine of these occurrences; if there is no routine, k plus all amongs
abbrev pub amongs_in : List Occurrence → ℕ → ℕ
amongs_in ms k = fold (λ j m. elim m.notice [ defines_routine n ↦ 0 | among has_starter is_empty ↦ j + 1 | _ ↦ j ]) k ms

-- ---- names of strings and integers

-- a name, where a literal could be
abbrev pub noted_name : Use → Argument → Site → List Occurrence → List Occurrence
noted_name u (written_out q) p sofar = sofar
noted_name u (by_name n) p sofar = put (uses u n) p sofar

-- the names among these tokens of an expression, in text order: an integer each, but a string after `lenof`
abbrev pub noted_tokens : List Lexeme → Site → List Occurrence → List Occurrence
noted_tokens [] p sofar = sofar
noted_tokens (word words.LenOf ∷ name n ∷ ts) p sofar = noted_tokens ts p (put (uses use_as.String n) p sofar)
noted_tokens (name n ∷ ts) p sofar = noted_tokens ts p (put (uses use_as.Integer n) p sofar)
noted_tokens (_ ∷ ts) p sofar = noted_tokens ts p sofar

abbrev pub noted_expression : Expression → Site → List Occurrence → List Occurrence
noted_expression e p sofar = noted_tokens (tokens (placed_expression e 0 [])) p sofar

-- ---- commands

abbrev pub use_of : Naming → Use
use_of namings.SetMark = use_as.Integer
use_of namings.Set = use_as.Boolean
use_of namings.Unset = use_as.Boolean
use_of namings.Arrow = use_as.String

-- a string of the among of this number, and its condition
abbrev pub noted_entry : Entry → ℕ → Site → List Occurrence → List Occurrence
noted_entry (entry q c) k p sofar = let s = put (string k q.value) p sofar in option_map_or (λ n. put (uses use_as.Condition n) p s) c s

abbrev pub noted_entries : List Entry → ℕ → Site → List Occurrence → List Occurrence
noted_entries es k p sofar = fold (λ s e. noted_entry e k p s) sofar es

abbrev pub is_empty : Groups → Bool
is_empty (bare []) = true
is_empty _ = false

abbrev mutual
  pub noted_command : Command → Site → List Occurrence → List Occurrence
  noted_command (bracket rs) p sofar = noted_rows rs p sofar
  noted_command (simple_ simples.Substring) p sofar = put substring p sofar
  noted_command (simple_ s) p sofar = sofar
  noted_command (literal_ q) p sofar = sofar
  noted_command (name_ n) p sofar = put (uses use_as.Command n) p sofar
  noted_command (non_ with_minus n) p sofar = put (uses use_as.Excluded n) p sofar
  noted_command (prefixed prefixes.Backwards c) p sofar = noted_command c (record { item = p.item; mode = Backward }) (put backwards p sofar)
  noted_command (prefixed x c) p sofar = noted_command c p sofar
  noted_command (counted n e c) p sofar = noted_command c p (noted_expression e p sofar)
  noted_command (move_ m e) p sofar = noted_expression e p sofar
  noted_command (named x n) p sofar = put (uses (use_of x) n) p sofar
  noted_command (splice_ x a) p sofar = noted_name use_as.String a p sofar
  noted_command (setlimit_ b c) p sofar = noted_command c p (noted_command b p sofar)
  noted_command (assign_ n o e) p sofar = noted_expression e p (put (uses use_as.Integer n) p sofar)
  noted_command (compare_ n o e) p sofar = noted_expression e p (put (uses use_as.Integer n) p sofar)
  noted_command (compare_values_ e o f) p sofar = noted_expression f p (noted_expression e p sofar)
  noted_command (among_ no_starter gs) p sofar = noted_groups gs (amongs_in sofar 0 + 1) p (put (among false (is_empty gs)) p sofar)
  noted_command (among_ (starter rs) gs) p sofar =
      noted_groups gs (amongs_in sofar 0 + 1) p (put region_end p (noted_rows rs p (put (among true (is_empty gs)) p sofar)))

  pub noted_rows : Rows → Site → List Occurrence → List Occurrence
  noted_rows no_rows p sofar = sofar
  noted_rows (row c os rs) p sofar = noted_rows rs p (noted_others os p (noted_command c p sofar))

  pub noted_others : Others → Site → List Occurrence → List Occurrence
  noted_others no_others p sofar = sofar
  noted_others (joined j c os) p sofar = noted_others os p (noted_command c p sofar)

  pub noted_groups : Groups → ℕ → Site → List Occurrence → List Occurrence
  noted_groups (bare es) k p sofar = noted_entries es k p sofar
  noted_groups (group e es rs gs) k p sofar =
      noted_groups gs k p (put region_end p (noted_rows rs p (noted_entries es k p (noted_entry e k p sofar))))

-- ---- items

abbrev pub noted_plain : Plain → Site → List Occurrence → List Occurrence
noted_plain (declaration k ns) p sofar = fold (λ s n. put (declares k n) p s) sofar ns
noted_plain (escapes a b) p sofar = sofar
noted_plain (macro n b q) p sofar = sofar
noted_plain (routine n c os) p sofar = put region_end p (noted_others os p (noted_command c p (put (defines_routine n) p sofar)))
noted_plain (grouping n a ts) p sofar =
    fold (λ s x. elim x [ term o b ↦ noted_name use_as.Term b p s ]) (noted_name use_as.Term a p (put (defines_grouping n) p sofar)) ts

-- the occurrences of these items; n is the number of the first one
abbrev pub noted_items : List ItemInMode → ℕ → List Occurrence → List Occurrence
noted_items [] n sofar = sofar
noted_items (x ∷ xs) n sofar = noted_items xs (n + 1) (noted_plain x.plain (record { item = n; mode = x.mode }) sofar)

-- the occurrences of a script, with items counted from 1
abbrev pub occurrences_of : List Item → List Occurrence
occurrences_of items = noted_items (in_order items) 1 []
