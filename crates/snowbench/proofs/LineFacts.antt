-- The lines of an input have no line feed, so they are read again from their text.
use Rattle.std.proofs.Common.{◌≡◌, ◌≢◌, ◌∙◌, ◌++◌, ◌==◌, ◌-◌, ℕ, suc, zero, Bool, true, false, List, [], ◌∷◌, refl, sym, ap, subst, map, length, take, length-append, append_assoc, slice_index_or, arith}
use Rattle.std.proofs.lemmas.List.Concat.{flat_map-cons}
use Rattle.std.specs.Prelude.{⊤, if◌then◌else◌}
use Rattle.std.specs.List.{onto_first}
use Rattle.std.specs.Str.Lines.{strip_carriage_return}
use Rattle.sbl_io.specs.inside.LineSteps.{NoFeed}
use Rattle.sbl_io.specs.LinesOf.{lines_of, raw_lines}
use Rattle.sbl_io.proofs.Bytes.{lines-feed, no_feed_push, none_of, no_lines, raw-feed, raw-other}
use Rattle.snowbench.specs.WholeCheck.{ListsAreRead, list_text}

-- no line has a line feed
abbrev AreFree : List (List ℕ) → Type 0
AreFree [] = ⊤
AreFree (line ∷ lines) = NoFeed line × AreFree lines

free_onto : (b : ℕ) (lines : List (List ℕ)) → b ≢ 10 → AreFree lines → AreFree (onto_first b lines)
free_onto b [] other h = ((other, tt), tt)
free_onto b (line ∷ lines) other h = ((other, h.0), h.1)

free_raw : (bytes : List ℕ) → AreFree (raw_lines bytes)
free_raw [] = subst AreFree (sym no_lines) tt
free_raw (b ∷ bytes) = by (free_raw bytes) (b == 10) refl
  where
    by : AreFree (raw_lines bytes) → (t : Bool) → (b == 10) ≡ t → AreFree (raw_lines (b ∷ bytes))
    by h true e = subst AreFree (sym (raw-feed b bytes e)) (tt, h)
    by h false e =
        let other : b ≢ 10 = λ is. let both : true ≡ false = sym (ap (λ (n : ℕ). n == 10) is) ∙ e in cc both in
        subst AreFree (sym (raw-other b bytes e)) (free_onto b (raw_lines bytes) other h)

free_take : (n : ℕ) (line : List ℕ) → NoFeed line → NoFeed (take n line)
free_take zero line h = tt
free_take (suc n) [] h = tt
free_take (suc n) (b ∷ line) h = (h.0, free_take n line h.1)

free_chomped : (line : List ℕ) → NoFeed line → NoFeed (strip_carriage_return line)
free_chomped line h = by (slice_index_or line (length line - 1) 0 == 13)
  where
    by : (t : Bool) → NoFeed (if t then take (length line - 1) line else line)
    by true = free_take (length line - 1) line h
    by false = h

free_map : (lines : List (List ℕ)) → AreFree lines → AreFree (map strip_carriage_return lines)
free_map [] h = tt
free_map (line ∷ lines) h = (free_chomped line h.0, free_map lines h.1)

free_prefix : (lines more : List (List ℕ)) → AreFree (lines ++ more) → AreFree lines
free_prefix [] more h = tt
free_prefix (line ∷ lines) more h = (h.0, free_prefix lines more h.1)

-- ---- a line is read again

last_is : (line : List ℕ) → slice_index_or (line ++ 13 ∷ []) (length line) 0 ≡ 13
last_is [] = refl
last_is (b ∷ line) = last_is line

prefix_is : (line : List ℕ) → take (length line) (line ++ 13 ∷ []) ≡ line
prefix_is [] = refl
prefix_is (b ∷ line) = ap (λ (l : List ℕ). b ∷ l) (prefix_is line)

chomped_is : (line : List ℕ) → strip_carriage_return (line ++ 13 ∷ []) ≡ line
chomped_is line =
    let count : length (line ++ 13 ∷ []) - 1 ≡ length line = rw (length-append {A = ℕ} line (13 ∷ [])) (omega arith) in
    rw (count, last_is line) (prefix_is line)

append_line_end : (line more : List ℕ) → (line ++ 13 ∷ 10 ∷ []) ++ more ≡ (line ++ 13 ∷ []) ++ 10 ∷ more
append_line_end line more = append_assoc line (13 ∷ 10 ∷ []) more ∙ sym (append_assoc line (13 ∷ []) (10 ∷ more))

line_read : (line more : List ℕ) → NoFeed line → lines_of ((line ++ 13 ∷ 10 ∷ []) ++ more) ≡ line ∷ lines_of more
line_read line more free =
    let other : 13 ≢ 10 = λ e. cc e in
    ap lines_of (append_line_end line more) ∙ ap (map strip_carriage_return) (lines-feed (line ++ 13 ∷ []) more (no_feed_push line 13 free other))
    ∙ ap (λ (l : List ℕ). l ∷ lines_of more) (chomped_is line)

lines_read : (lines : List (List ℕ)) → AreFree lines → lines_of (list_text lines) ≡ lines
lines_read [] h = none_of
lines_read (line ∷ lines) h =
    ap lines_of (flat_map-cons (λ (l : List ℕ). l ++ 13 ∷ 10 ∷ []) line lines) ∙ line_read line (list_text lines) h.0
    ∙ ap (λ (ls : List (List ℕ)). line ∷ ls) (lines_read lines h.1)

pub lists-read : ListsAreRead
lists-read input rest lines more took =
    lines_read lines (free_prefix lines more (subst AreFree took.3 (free_map (raw_lines took.0) (free_raw took.0))))
