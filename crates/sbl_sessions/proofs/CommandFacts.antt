-- The command word of a line, found byte by byte, and what a line with a block wants replaced.
use Rattle.std.proofs.Common.{◌≡◌, ◌⊎◌, inl, inr, ◌∙◌, ◌<◌, ◌≤◌, ◌+◌, ℕ, Bool, true, false, List, Option, Some, None, Result, String, if◌then◌else◌, length, take, get_or, refl, sym, ap, subst, arith}
use Rattle.std.proofs.lemmas.Bool.{cases_lt}
use Rattle.std.proofs.lemmas.List.Sums.{position_or_len_is}
use Rattle.std.proofs.lemmas.Str.{IsUtf8-from_is_utf8}
use Rattle.std.specs.Prelude.{codes}
use Rattle.std.specs.Option.{is_some, option_and_then, option_map, option_map_or}
use Rattle.std.specs.Str.{IsUtf8, bytes_eq, is_utf8}
use Rattle.std.specs.declared.alloc.AllocError.{AllocError}
use Rattle.std.specs.declared.alloc.Global.{Global}
use Rattle.sbl_ast.specs.NamedParts.{Part'}
use Rattle.sbl_script.specs.Parts.{view_part}
use Rattle.sbl_script.specs.declared.part.Part.{Part}
use Rattle.sbl_sessions.specs.CommandViews.{KeepsLine}
use Rattle.sbl_sessions.specs.Commands.{Command, target_of, text_command}
use Rattle.sbl_sessions.specs.Requests.{block_word}
use Rattle.sbl_sessions.specs.Words.{argument, command_word}
use Rattle.sbl_sessions.specs.inside.SessionParts.{is_space, tested_command}

-- no space stands before this place
abbrev pub NoSpace : List ℕ → ℕ → Type 0
NoSpace line i = (k : ℕ) → k < i → is_space (get_or line k 0) ≡ false

pub no_space-more : (line : List ℕ) (i : ℕ) → NoSpace line i → is_space (get_or line i 0) ≡ false → NoSpace line (i + 1)
no_space-more line i none here k within = by (cases_lt k i)
  where
    by : (k < i) ⊎ (i ≤ k) → is_space (get_or line k 0) ≡ false
    by (inl before) = none k before
    by (inr from) = let same : i ≡ k = omega (arith, from, within) in subst (λ (n : ℕ). is_space (get_or line n 0) ≡ false) same here

pub word_before : (line : List ℕ) (i : ℕ) → i ≤ length line → NoSpace line i → (i < length line → is_space (get_or line i 0) ≡ true) → take i line ≡ command_word line
word_before line i within none here = ap (λ (n : ℕ). take n line) (sym (position_or_len_is is_space line i 0 within none here))

-- ---- the tables of commands

-- looking for an entry of a table is a test of each
by_test : {X : Type 0} (f : X → Command) (b : Bool) (x : X) (rest : Option X) (d e : Command) → option_map_or f rest d ≡ e
    → option_map_or f (if b then Some x else rest) d ≡ (if b then f x else e)
by_test f true x rest d e same = refl
by_test f false x rest d e same = same

pub by_tables : (line : List ℕ) → text_command line ≡ tested_command line
by_tables line =
    let word = command_word line in
    by_test _ (bytes_eq word (codes "add")) _ _ _ _
    (by_test _ (bytes_eq word (codes "remove")) _ _ _ _
    (by_test _ (bytes_eq word (codes "class")) _ _ _ _
    (by_test _ (bytes_eq word (codes "trace")) _ _ _ _
    (by_test _ (bytes_eq word (codes "limit")) _ _ _ _
    (by_test _ (bytes_eq line (codes "stems")) _ _ _ _
    (by_test _ (bytes_eq line (codes "classes")) _ _ _ _
    (by_test _ (bytes_eq line (codes "script")) _ _ _ _
    (by_test _ (bytes_eq line (codes "runs")) _ _ _ _ refl))))))))

-- ---- what a line with a block wants replaced

-- bytes that are no text
pub not_text : (bytes : List ℕ) → ¬ (IsUtf8 bytes) → is_utf8 bytes ≡ false
not_text bytes none = by (is_utf8 bytes) refl
  where
    by : (t : Bool) → is_utf8 bytes ≡ t → is_utf8 bytes ≡ false
    by true e = absurd (none (IsUtf8-from_is_utf8 bytes e))
    by false e = e

pub target_of_bytes : (line : List ℕ) → is_utf8 line ≡ false → target_of line ≡ None
target_of_bytes line bytes = rw bytes refl

pub target_of_text : (line : List ℕ) → is_utf8 line ≡ true → option_and_then (λ names. names (argument line)) (block_word (command_word line)) ≡ target_of line
target_of_text line text = rw text refl

-- the part of a command word and an argument
pub named_by : (part : Option Part) (word : Option (List ℕ → Option Part')) (given : List ℕ)
    → Some (option_map view_part part) ≡ option_map (λ names. names given) word → option_map view_part part ≡ option_and_then (λ names. names given) word
named_by part None given same = absurd cc
named_by part (Some names) given same = cc

-- a line is kept as this
pub kept_as : (kept known : Result (Option (String Global)) AllocError) (line : List ℕ) → kept ≡ known → KeepsLine kept line → KeepsLine known line
kept_as kept known line is keeps = subst (λ (x : Result (Option (String Global)) AllocError). KeepsLine x line) is keeps
