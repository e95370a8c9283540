-- The reserved words and their texts.
use Rattle.std.specs.Prelude.{ℕ, List, [], ◌∷◌, codes, Option, option_map, unwrap_or, find}
use Rattle.std.specs.Str.{bytes_eq}
use denote.Enum.Bare.{sameb}
use Rattle.sbl_token.specs.contracts.words.Word as reserved
use Rattle.sbl_token.specs.declared.words.Word.{Word}
use Rattle.sbl_token.specs.declared.words.Word.TheVariants as word

-- each reserved word with its text
abbrev pub words : List (Word × List ℕ)
words =
    (word.Among, codes "among") ∷ (word.And, codes "and") ∷ (word.As, codes "as") ∷ (word.AtLeast, codes "atleast") ∷
    (word.AtLimit, codes "atlimit") ∷ (word.AtMark, codes "atmark") ∷ (word.Attach, codes "attach") ∷ (word.BackwardMode, codes "backwardmode") ∷
    (word.Backwards, codes "backwards") ∷ (word.Booleans, codes "booleans") ∷ (word.Cursor, codes "cursor") ∷ (word.Decimal, codes "decimal") ∷
    (word.Define, codes "define") ∷ (word.Delete, codes "delete") ∷ (word.Do, codes "do") ∷ (word.Externals, codes "externals") ∷
    (word.Fail, codes "fail") ∷ (word.False, codes "false") ∷ (word.For, codes "for") ∷ (word.Get, codes "get") ∷ (word.GoPast, codes "gopast") ∷
    (word.GoTo, codes "goto") ∷ (word.Groupings, codes "groupings") ∷ (word.Hex, codes "hex") ∷ (word.Hop, codes "hop") ∷
    (word.Insert, codes "insert") ∷ (word.Integers, codes "integers") ∷ (word.Len, codes "len") ∷ (word.LenOf, codes "lenof") ∷
    (word.Limit, codes "limit") ∷ (word.Loop, codes "loop") ∷ (word.MaxInt, codes "maxint") ∷ (word.MinInt, codes "minint") ∷
    (word.Next, codes "next") ∷ (word.Non, codes "non") ∷ (word.Not, codes "not") ∷ (word.Or, codes "or") ∷ (word.Repeat, codes "repeat") ∷
    (word.Reverse, codes "reverse") ∷ (word.Routines, codes "routines") ∷ (word.Set, codes "set") ∷ (word.SetLimit, codes "setlimit") ∷
    (word.SetMark, codes "setmark") ∷ (word.Size, codes "size") ∷ (word.SizeOf, codes "sizeof") ∷ (word.StringDef, codes "stringdef") ∷
    (word.StringEscapes, codes "stringescapes") ∷ (word.Strings, codes "strings") ∷ (word.Substring, codes "substring") ∷ (word.Test, codes "test") ∷
    (word.ToLimit, codes "tolimit") ∷ (word.ToMark, codes "tomark") ∷ (word.True, codes "true") ∷ (word.Try, codes "try") ∷
    (word.Unset, codes "unset") ∷ []

-- the text of a reserved word
abbrev pub word_text : Word → List ℕ
word_text w = unwrap_or (option_map (λ p. p.1) (find (λ p. sameb reserved.the_type p.0 w) words)) []

-- the reserved word with exactly this text
unfoldable pub word_of : List ℕ → Option Word
word_of text = option_map (λ p. p.0) (find (λ p. bytes_eq p.1 text) words)
