-- The argument of a line, and a line alone.
use Rattle.std.proofs.Common.{◌≡◌, ◌==◌, codes, ◌∙◌, ◌+◌, ◌<◌, ℕ, true, false, List, [], ◌∷◌, Option, length, drop, get_or, refl, sym, ap, arith}
use Rattle.std.proofs.lemmas.List.Sums.{position_or_len_is}
use Rattle.std.proofs.lemmas.List.{drop_all}
use Rattle.std.specs.Str.{bytes_eq, is_utf8}
use Rattle.sbl_sessions.specs.Commands.{line_command}
use Rattle.sbl_work.specs.Commands.{Echo, Nothing, Session, alone_command, is_comment, text_command, utf8_command}
use Rattle.sbl_sessions.specs.Words.{argument, command_word}
use Rattle.sbl_sessions.specs.inside.SessionParts.{is_space}
use Rattle.sbl_sessions.proofs.CommandFacts.{NoSpace}

-- ---- the argument

pub argument_after : (line : List ℕ) (i : ℕ) → i < length line → NoSpace line i → is_space (get_or line i 0) ≡ true → drop (i + 1) line ≡ argument line
argument_after line i within none here =
    ap (λ (n : ℕ). drop (n + 1) line) (sym (position_or_len_is is_space line i 0 (omega (arith, within)) none (λ _. here)))

pub no_argument : (line : List ℕ) (i : ℕ) → i ≡ length line → NoSpace line i → [] ≡ argument line
no_argument line i all none =
    let place = position_or_len_is is_space line i 0 (omega (arith, all)) none (λ lt. absurd (omega (arith, lt, all))) in
    sym (drop_all (i + 1) line (omega (arith, all))) ∙ ap (λ (n : ℕ). drop (n + 1) line) (sym place)

-- ---- a line alone

pub comment_at : (line : List ℕ) → 0 < length line → is_comment line ≡ (get_or line 0 0 == 35)
comment_at [] some = absurd (omega (arith, some))
comment_at (b ∷ line) some = refl

pub comment_none : (line : List ℕ) → length line ≡ 0 → is_comment line ≡ false
comment_none [] none = refl
comment_none (b ∷ line) none = absurd (omega (arith, none))

pub is_nothing : (file : Option (List ℕ)) (line : List ℕ) → is_comment line ≡ true → Nothing ≡ alone_command file line
unfolding alone_command
is_nothing file line comment = rw comment refl

pub is_echo : (file : Option (List ℕ)) (line : List ℕ) → bytes_eq (command_word line) (codes "echo") ≡ true → Echo (argument line) ≡ utf8_command file line
is_echo file line echo = rw echo refl

pub is_other : (file : Option (List ℕ)) (line : List ℕ) → bytes_eq (command_word line) (codes "echo") ≡ false → text_command file line ≡ utf8_command file line
is_other file line silent = rw silent refl

pub is_text : (file : Option (List ℕ)) (line : List ℕ) → is_comment line ≡ false → is_utf8 line ≡ true → utf8_command file line ≡ alone_command file line
unfolding alone_command
is_text file line other utf8 = rw (other, utf8) refl

pub is_no_text : (file : Option (List ℕ)) (line : List ℕ) → is_comment line ≡ false → is_utf8 line ≡ false → Session (line_command line) ≡ alone_command file line
unfolding alone_command
is_no_text file line other bytes = rw (other, bytes) refl
