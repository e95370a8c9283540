-- The limits of a run: of its steps, of the depth of its calls, and of its word.
use Rattle.std.specs.Prelude.{ℕ}

-- the maximum number of steps of a run if no other limit is set
abbrev pub default_limit : ℕ
default_limit = 100000

-- the maximum number of characters of a word
abbrev pub max_word_length : ℕ
max_word_length = 255

-- the maximum depth of calls of routines, counting the external as 1
abbrev pub max_levels : ℕ
max_levels = 32
