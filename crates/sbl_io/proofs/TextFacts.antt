-- Facts on the lines of a text that is there whole.
use Rattle.std.proofs.Common.{◌≡◌, ◌≢◌, ◌∙◌, ◌++◌, ◌+◌, ◌-◌, ◌<◌, ℕ, suc, List, [], ◌∷◌, length, take, drop, get_or, map, refl, sym, ap, arith}
use Rattle.std.proofs.Math.Seq.{drop-cons}
use Rattle.std.proofs.lemmas.List.{take-append-drop, take_more}
use Rattle.std.proofs.lemmas.Grind.{common_steps}
use Rattle.std.specs.Str.Lines.{strip_carriage_return}
use Rattle.sbl_io.specs.inside.LineSteps.{NoFeed}
use Rattle.sbl_io.specs.LinesOf.{lines_of, raw_lines}
use Rattle.sbl_io.proofs.Bytes.{lines-feed, lines-last, no_feed_push, no_lines}

-- one more byte is no line feed
pub free_more : (bytes : List ℕ) (at : ℕ) → at < length bytes → NoFeed (take at bytes) → get_or bytes at 0 ≢ 10 → NoFeed (take (at + 1) bytes)
free_more bytes at lt free other = rw (take_more bytes at 0 lt) (no_feed_push (take at bytes) (get_or bytes at 0) free other)

pub rest_of : (n : ℕ) (bytes : List ℕ) → take (length bytes - n) (drop n bytes) ≡ drop n bytes
rest_of n bytes = grind (arith, common_steps)

pub no_rest : (n : ℕ) (bytes : List ℕ) → n ≡ length bytes → take (length bytes - n) (drop n bytes) ≡ []
no_rest n bytes e = let none : length bytes - n ≡ 0 = omega arith in rw none refl

pub no_text : lines_of [] ≡ []
no_text = ap (map strip_carriage_return) no_lines

-- the first line ends at the first line feed
pub lines_at_feed : (text : List ℕ) (end : ℕ) → end < length text → NoFeed (take end text) → get_or text end 0 ≡ 10
    → lines_of text ≡ strip_carriage_return (take end text) ∷ lines_of (drop (end + 1) text)
lines_at_feed text end lt free is =
    let rest : drop end text ≡ 10 ∷ drop (suc end) text = drop-cons text end 0 lt ∙ ap (λ (b : ℕ). b ∷ drop (suc end) text) is in
    let whole : text ≡ take end text ++ 10 ∷ drop (suc end) text = sym (take-append-drop end text) ∙ ap (λ (r : List ℕ). take end text ++ r) rest in
    let next : end + 1 ≡ suc end = omega arith in
    rw next (ap (map strip_carriage_return) (ap raw_lines whole ∙ lines-feed (take end text) (drop (suc end) text) free))

-- a text without a line feed is one line
pub lines_at_end : (text : List ℕ) → 0 < length text → NoFeed text → lines_of text ≡ strip_carriage_return text ∷ []
lines_at_end [] some free = absurd (omega arith)
lines_at_end (b ∷ text) some free = ap (map strip_carriage_return) (lines-last b text free)

pub empty_text : (text : List ℕ) → length text ≡ 0 → lines_of text ≡ []
empty_text [] none = no_text
empty_text (b ∷ text) none = cc
