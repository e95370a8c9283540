-- Facts on bytes that are told.
use Rattle.std.proofs.Common.{subst, inl, inr, ◌⊎◌, Bool, true, length-append, length-take, lit<, ◌≡◌, ◌≢◌, ◌∙◌, ◌++◌, ◌<◌, ◌≤◌, ◌+◌, ◌-◌, ℕ, suc, List, [], ◌∷◌, length, drop, take, zero, Option, Some, None, refl, sym, ap, map, ◌==◌, false, append_assoc, add-one, arith, slice_index_or}
use Rattle.std.specs.Prelude.{slice_range}
use Rattle.std.proofs.Math.Seq.{drop-cons}
use Rattle.std.specs.Io.KnownBytes.{Consumes, Keeps, prepend_known}
use Rattle.sbl_io.specs.HeldInput.{BeginsLong, GivesLine, Took, TookWhole}
use Rattle.sbl_io.specs.inside.LineSteps.{NoFeed, StandFirst, TakesLine}
use Rattle.sbl_io.specs.declared.lines.LineEnd.{LineEnd}
use Rattle.sbl_io.specs.declared.lines.LineEnd.TheVariants.{Feed, Input, Beyond}
use Rattle.sbl_io.specs.LinesOf.{AreWhole, lines_of, raw_lines}
use Rattle.std.proofs.lemmas.Bool.{ne_eqb}
use Rattle.std.proofs.lemmas.List.{append-nil, drop-drop, drop-take, map-append, take-append-drop}
use Rattle.std.proofs.KnownBytes.{Consumes-nil, Consumes-trans, prepend_known-nil}
use Rattle.std.specs.List.{onto_first}
use Rattle.std.specs.Str.Lines.{strip_carriage_return}

pub empty_range : (xs : List ℕ) (a b : ℕ) → a ≡ b → slice_range xs a b ≡ []
empty_range xs a b e = let none : b - a ≡ 0 = omega arith in rw none refl

pub at_end : (xs : List ℕ) (a b : ℕ) (known : Option (List ℕ)) → a ≡ b → prepend_known (slice_range xs a b) known ≡ known
at_end xs a b known e = rw (empty_range xs a b e) (prepend_known-nil known)

-- one byte of the range is taken
pub take_one : (xs : List ℕ) (a b byte : ℕ) (known : Option (List ℕ)) → a < b → b ≤ length xs → byte ≡ slice_index_or xs a byte
    → Consumes (prepend_known (slice_range xs a b) known) (prepend_known (slice_range xs (a + 1) b) known) (byte ∷ [])
take_one xs a b byte None lt le is = tt
take_one xs a b byte (Some ys) lt le is =
    let more : drop a xs ≡ slice_index_or xs a byte ∷ drop (suc a) xs = drop-cons xs a byte (omega arith) in
    let prefix : drop a xs ≡ byte ∷ drop (suc a) xs = more ∙ ap (λ (b : ℕ). b ∷ drop (suc a) xs) (sym is) in
    let count : b - a ≡ suc (b - suc a) = omega arith in
    rw (add-one, prefix, count) refl

-- so many bytes of the range are taken
pub take_many : (xs : List ℕ) (a b n : ℕ) (known : Option (List ℕ)) → a + n ≤ b
    → Consumes (prepend_known (slice_range xs a b) known) (prepend_known (slice_range xs (a + n) b) known) (take n (slice_range xs a b))
take_many xs a b n None le = tt
take_many xs a b n (Some ys) le =
    let held = slice_range xs a b in
    let count : b - a ≡ n + (b - (a + n)) = omega arith in
    let rest : drop n held ≡ slice_range xs (a + n) b =
    ap (λ (k : ℕ). drop n (take k (drop a xs))) count ∙ drop-take n (b - (a + n)) (drop a xs) ∙ ap (take (b - (a + n))) (drop-drop n a xs) in
    ap (λ (s : List ℕ). s ++ ys) (sym (take-append-drop n held)) ∙ append_assoc (take n held) (drop n held) ys
    ∙ ap (λ (s : List ℕ). take n held ++ (s ++ ys)) rest

-- bytes are taken after a step that keeps them
pub kept_then : (a b c : Option (List ℕ)) (bs : List ℕ) → Keeps a b → Consumes b c bs → Consumes a c bs
kept_then None b c bs k h = tt
kept_then (Some xs) None c bs k h = absurd k
kept_then (Some xs) (Some ys) None bs k h = absurd h
kept_then (Some xs) (Some ys) (Some zs) bs k h = sym k ∙ h

pub no_feed_push : (bytes : List ℕ) (b : ℕ) → NoFeed bytes → b ≢ 10 → NoFeed (bytes ++ b ∷ [])
no_feed_push [] b h n = (n, tt)
no_feed_push (x ∷ bytes) b h n = (h.0, no_feed_push bytes b h.1 n)

pub no_feed_append : (bytes more : List ℕ) → NoFeed bytes → NoFeed more → NoFeed (bytes ++ more)
no_feed_append [] more h m = m
no_feed_append (x ∷ bytes) more h m = (h.0, no_feed_append bytes more h.1 m)

-- a prefix of bytes without a line feed has none
pub no_feed_prefix : (n m : ℕ) (bytes : List ℕ) → n ≤ m → NoFeed (take m bytes) → NoFeed (take n bytes)
no_feed_prefix zero m bytes le h = tt
no_feed_prefix (suc n) m [] le h = tt
no_feed_prefix (suc n) zero (x ∷ bytes) le h = absurd (omega (arith, le))
no_feed_prefix (suc n) (suc m) (x ∷ bytes) le h = (h.0, no_feed_prefix n m bytes (omega (arith, le)) h.1)

-- the lines of an input whose first line a line feed ends
pub lines-feed : (line rest : List ℕ) → NoFeed line → raw_lines (line ++ 10 ∷ rest) ≡ line ∷ raw_lines rest
unfolding raw_lines
lines-feed [] rest h = refl
lines-feed (b ∷ line) rest h =
    let other : (b == 10) ≡ false = ne_eqb b 10 h.0 in
    rw (other, lines-feed line rest h.1) refl

-- the lines of an input that is one line
pub lines-last : (b : ℕ) (line : List ℕ) → NoFeed (b ∷ line) → raw_lines (b ∷ line) ≡ (b ∷ line) ∷ []
unfolding raw_lines
lines-last b [] h = let other : (b == 10) ≡ false = ne_eqb b 10 h.0 in rw other refl
lines-last b (c ∷ line) h =
    let other : (b == 10) ≡ false = ne_eqb b 10 h.0 in
    rw (other, lines-last c line h.1) refl

pub no_lines : raw_lines [] ≡ []
unfolding raw_lines
no_lines = refl

-- ---- whole lines

pub raw-feed : (b : ℕ) (bytes : List ℕ) → (b == 10) ≡ true → raw_lines (b ∷ bytes) ≡ [] ∷ raw_lines bytes
unfolding raw_lines
raw-feed b bytes e = rw e refl

pub raw-other : (b : ℕ) (bytes : List ℕ) → (b == 10) ≡ false → raw_lines (b ∷ bytes) ≡ onto_first b (raw_lines bytes)
unfolding raw_lines
raw-other b bytes e = rw e refl

onto-some : (b : ℕ) (lines : List (List ℕ)) → onto_first b lines ≢ []
onto-some b [] e = cc e
onto-some b (line ∷ lines) e = cc e

pub raw-some : (b : ℕ) (bytes : List ℕ) → raw_lines (b ∷ bytes) ≢ []
raw-some b bytes none = by (b == 10) refl
  where
    by : (t : Bool) → (b == 10) ≡ t → ⊥
    by true e = let some : [] ∷ raw_lines bytes ≡ [] = sym (raw-feed b bytes e) ∙ none in cc some
    by false e = onto-some b (raw_lines bytes) (sym (raw-other b bytes e) ∙ none)

onto-append : (b : ℕ) (lines more : List (List ℕ)) → lines ≢ [] → onto_first b (lines ++ more) ≡ onto_first b lines ++ more
onto-append b [] more some = absurd (some refl)
onto-append b (line ∷ lines) more some = refl

raw-append : (prefix rest : List ℕ) → AreWhole prefix → raw_lines (prefix ++ rest) ≡ raw_lines prefix ++ raw_lines rest
raw-append [] rest whole = ap (λ (ls : List (List ℕ)). ls ++ raw_lines rest) (sym no_lines)
raw-append (b ∷ []) rest whole =
    let feed : (b == 10) ≡ true = rw whole refl in
    raw-feed b rest feed ∙ ap (λ (ls : List (List ℕ)). [] ∷ (ls ++ raw_lines rest)) (sym no_lines) ∙ sym (ap (λ (ls : List (List ℕ)). ls ++ raw_lines rest) (raw-feed b [] feed))
raw-append (b ∷ c ∷ prefix) rest whole = by (raw-append (c ∷ prefix) rest whole) (b == 10) refl
  where
    by : raw_lines ((c ∷ prefix) ++ rest) ≡ raw_lines (c ∷ prefix) ++ raw_lines rest → (t : Bool) → (b == 10) ≡ t
        → raw_lines ((b ∷ c ∷ prefix) ++ rest) ≡ raw_lines (b ∷ c ∷ prefix) ++ raw_lines rest
    by more true e =
        raw-feed b ((c ∷ prefix) ++ rest) e ∙ ap (λ (ls : List (List ℕ)). [] ∷ ls) more ∙ sym (ap (λ (ls : List (List ℕ)). ls ++ raw_lines rest) (raw-feed b (c ∷ prefix) e))
    by more false e =
        raw-other b ((c ∷ prefix) ++ rest) e ∙ ap (onto_first b) more ∙ onto-append b (raw_lines (c ∷ prefix)) (raw_lines rest) (raw-some c prefix)
        ∙ sym (ap (λ (ls : List (List ℕ)). ls ++ raw_lines rest) (raw-other b (c ∷ prefix) e))

pub lines-append : (prefix rest : List ℕ) → AreWhole prefix → lines_of (prefix ++ rest) ≡ lines_of prefix ++ lines_of rest
lines-append prefix rest whole = ap (map strip_carriage_return) (raw-append prefix rest whole) ∙ map-append strip_carriage_return (raw_lines prefix) (raw_lines rest)

whole-append : (prefix more : List ℕ) → AreWhole prefix → AreWhole more → AreWhole (prefix ++ more)
whole-append [] more w v = v
whole-append (b ∷ []) [] w v = w
whole-append (b ∷ []) (c ∷ more) w v = v
whole-append (b ∷ c ∷ prefix) more w v = whole-append (c ∷ prefix) more w v

whole-feed : (line : List ℕ) → AreWhole (line ++ 10 ∷ [])
whole-feed [] = refl
whole-feed (b ∷ []) = refl
whole-feed (b ∷ c ∷ line) = whole-feed (c ∷ line)

pub none_of : lines_of [] ≡ []
none_of = ap (map strip_carriage_return) no_lines

both_none : (xs ys : List ℕ) → xs ++ ys ≡ [] → (xs ≡ []) × (ys ≡ [])
both_none [] ys e = (refl, e)
both_none (x ∷ xs) ys e = cc e

-- ---- lines that were taken

stand-trans : (a b c : List ℕ) (ls ms : List (List ℕ)) → StandFirst a ls b → StandFirst b ms c → StandFirst a (ls ++ ms) c
stand-trans a b c ls ms p q = by p.2 q.2
  where
    more : AreWhole p.0 → AreWhole (p.0 ++ q.0) ⊎ (c ≡ []) → StandFirst a (ls ++ ms) c
    more w v = (
      p.0 ++ q.0,
      p.1 ∙ ap (λ (x : List ℕ). p.0 ++ x) q.1 ∙ sym (append_assoc p.0 q.0 c),
      v,
      lines-append p.0 q.0 w ∙ ap (λ (x : List (List ℕ)). x ++ lines_of q.0) p.3 ∙ ap (λ (x : List (List ℕ)). ls ++ x) q.3,
    )

    end : b ≡ [] → StandFirst a (ls ++ ms) c
    end e =
        let n = both_none q.0 c (sym q.1 ∙ e) in
        let none : ms ≡ [] = sym q.3 ∙ ap lines_of n.0 ∙ none_of in (
          p.0,
          p.1 ∙ ap (λ (x : List ℕ). p.0 ++ x) (e ∙ sym n.1),
          inr n.1,
          p.3 ∙ sym (append-nil ls) ∙ ap (λ (x : List (List ℕ)). ls ++ x) (sym none),
        )

    by : AreWhole p.0 ⊎ (b ≡ []) → AreWhole q.0 ⊎ (c ≡ []) → StandFirst a (ls ++ ms) c
    by (inl w) (inl v) = more w (inl (whole-append p.0 q.0 w v))
    by (inl w) (inr e) = more w (inr e)
    by (inr e) v = end e

pub stand_lines : (a b : List ℕ) (ls : List (List ℕ)) → StandFirst a ls b → lines_of a ≡ ls ++ lines_of b
stand_lines a b ls p = by p.2
  where
    by : AreWhole p.0 ⊎ (b ≡ []) → lines_of a ≡ ls ++ lines_of b
    by (inl w) = ap lines_of p.1 ∙ lines-append p.0 b w ∙ ap (λ (x : List (List ℕ)). x ++ lines_of b) p.3
    by (inr e) =
        ap lines_of (p.1 ∙ ap (λ (x : List ℕ). p.0 ++ x) e ∙ append-nil p.0) ∙ p.3 ∙ sym (append-nil ls)
        ∙ ap (λ (x : List (List ℕ)). ls ++ x) (sym (ap lines_of e ∙ none_of))

pub took-trans : (a b c : Option (List ℕ)) (ls ms : List (List ℕ)) → Took a b ls → Took b c ms → Took a c (ls ++ ms)
took-trans None b c ls ms p q = tt
took-trans (Some xs) None c ls ms p q = absurd p
took-trans (Some xs) (Some ys) None ls ms p q = absurd q
took-trans (Some xs) (Some ys) (Some zs) ls ms p q = stand-trans xs ys zs ls ms p q

pub took-none : (a : Option (List ℕ)) → Took a a []
took-none None = tt
took-none (Some xs) = ([], refl, inl tt, none_of)

-- taking nothing leaves what was taken
pub took-kept : (a b c : Option (List ℕ)) (ls : List (List ℕ)) → Took a b ls → Keeps b c → Took a c ls
took-kept None b c ls took keeps = tt
took-kept (Some xs) None c ls took keeps = absurd took
took-kept (Some xs) (Some ys) None ls took keeps = absurd keeps
took-kept (Some xs) (Some ys) (Some zs) ls took keeps = subst (λ (x : List ℕ). StandFirst xs ls x) (sym keeps) took

-- a line that was taken is the first of the lines
pub gives_line : (a b : Option (List ℕ)) (line : List ℕ) (end : LineEnd) → TakesLine a b line end → NoFeed line
    → (end ≢ Beyond) → (end ≡ Input → line ≢ []) → GivesLine a b (strip_carriage_return line)
gives_line None b line end takes free within some = tt
gives_line (Some xs) None line Feed takes free within some = absurd takes
gives_line (Some xs) None line Input takes free within some = absurd takes.0
gives_line (Some xs) b line Beyond takes free within some = absurd (within refl)
gives_line (Some xs) (Some ys) line Feed takes free within some = (
  line ++ 10 ∷ [],
  takes,
  inl (whole-feed line),
  ap (map strip_carriage_return) (lines-feed line [] free ∙ ap (λ (ls : List (List ℕ)). line ∷ ls) no_lines),
)
gives_line (Some xs) (Some ys) [] Input takes free within some = absurd (some refl refl)
gives_line (Some xs) (Some ys) (c ∷ line) Input takes free within some = (
  c ∷ line,
  takes.0,
  inr takes.1,
  ap (map strip_carriage_return) (lines-last c line free),
)

-- a line that a line feed ended is whole
pub takes_whole : (a b : Option (List ℕ)) (line : List ℕ) (end : LineEnd) → TakesLine a b line end → (end ≢ Beyond) → (end ≢ Input) → TookWhole a b
takes_whole a b line Feed takes within fed = (line ++ 10 ∷ [], takes, whole-feed line)
takes_whole a b line Input takes within fed = absurd (fed refl)
takes_whole a b line Beyond takes within fed = absurd (within refl)

pub whole_none : (a : Option (List ℕ)) → TookWhole a a
whole_none a = ([], Consumes-nil a, tt)

pub whole_trans : (a b c : Option (List ℕ)) → TookWhole a b → TookWhole b c → TookWhole a c
whole_trans a b c p q = (p.0 ++ q.0, Consumes-trans a b c p.0 q.0 p.1 q.1, whole-append p.0 q.0 p.2 q.2)

-- the first of the lines begins with whatever stands before the first line feed
begins-with : (prefix rest : List ℕ) → NoFeed prefix → prefix ≢ [] → (more : List ℕ) × (others : List (List ℕ)) × (raw_lines (prefix ++ rest) ≡ (prefix ++ more) ∷ others)
unfolding raw_lines
begins-with [] rest free some = absurd (some refl)
begins-with (b ∷ []) rest free some =
    let other : (b == 10) ≡ false = ne_eqb b 10 free.0 in
    by (raw_lines rest) other refl
  where
    by : (lines : List (List ℕ)) → (b == 10) ≡ false → raw_lines rest ≡ lines → (more : List ℕ) × (others : List (List ℕ)) × (raw_lines (b ∷ rest) ≡ (b ∷ more) ∷ others)
    by [] other e = ([], [], rw (other, e) refl)
    by (line ∷ lines) other e = (line, lines, rw (other, e) refl)
begins-with (b ∷ c ∷ prefix) rest free some =
    let other : (b == 10) ≡ false = ne_eqb b 10 free.0 in
    let tail = begins-with (c ∷ prefix) rest free.1 (λ e. cc) in
    (tail.0, tail.1, rw (other, tail.2) refl)

chomped-length : (line : List ℕ) → length line ≤ length (strip_carriage_return line) + 1
chomped-length line = by (slice_index_or line (length line - 1) 0 == 13) refl
  where
    by : (b : Bool) → (slice_index_or line (length line - 1) 0 == 13) ≡ b → length line ≤ length (strip_carriage_return line) + 1
    by true e = rw e (rw length-take (omega arith))
    by false e = rw e (omega arith)

longer : (prefix more : List ℕ) → length prefix ≤ length (prefix ++ more)
longer prefix more = rw length-append (omega arith)

-- a line of which more than fits was taken is too long
pub begins_long : (a b : Option (List ℕ)) (line : List ℕ) → TakesLine a b line Beyond → NoFeed line → BeginsLong a
begins_long None b line takes free = tt
begins_long (Some xs) None line takes free = absurd takes.3
begins_long (Some xs) (Some ys) line takes free =
    let prefix = line ++ takes.1 ∷ [] in
    let whole = begins-with prefix ys (no_feed_push line takes.1 free takes.2) (λ e. absurd (ends_in line takes.1 e)) in
    let long : 65537 < length prefix = rw (length-append, takes.0) (lit< tt) in
    let least : length prefix ≤ length (prefix ++ whole.0) = longer prefix whole.0 in
    (strip_carriage_return (prefix ++ whole.0), map strip_carriage_return whole.1, ap (map strip_carriage_return) (ap raw_lines takes.3 ∙ whole.2), omega (arith, chomped-length (prefix ++ whole.0)))
  where
    ends_in : (line : List ℕ) (b : ℕ) → line ++ b ∷ [] ≡ [] → ⊥
    ends_in [] b e = cc
    ends_in (x ∷ line) b e = cc

-- a line that was taken whole is the first of the lines, too long or not
pub gives_long : (a b : Option (List ℕ)) (line : List ℕ) → GivesLine a b line → 65536 < length line → BeginsLong a
gives_long None b line gives long = tt
gives_long (Some xs) None line gives long = absurd gives
gives_long (Some xs) (Some ys) line gives long = (line, lines_of ys, stand_lines xs ys (line ∷ []) gives, long)
