-- Taking an edit back.
use Rattle.std.specs.Prelude.{◌≡◌, ℕ, true, List}
use Rattle.sbl_rows.specs.Classes.{classes_of}
use Rattle.sbl_bench.specs.Contents.{Contents}
use Rattle.sbl_bench.specs.Edits.{Edit, Limit, Whole, IsAccepted, is_of_script}
use Rattle.sbl_rows.specs.Rows.{rows_of}
use Rattle.sbl_rows.specs.Setting.{Setting}
use Rattle.sbl_bench.specs.Traces.{trace_of}

-- a bench shows what a setting gives for these words
pub record Shows (t : Contents) (s : Setting) (words : List (List ℕ)) : Type 0 where
  pub setting : t.setting ≡ s
  pub rows : rows_of t.setting t.words ≡ rows_of s words
  pub classes : classes_of (rows_of t.setting t.words) ≡ classes_of (rows_of s words)
  pub traces : (word : List ℕ) → trace_of t.setting t.words word ≡ trace_of s words word

-- An edit of the script leads from bench s to bench t. Words may be added and removed after that; bench u has them, in the same
-- setting. If bytes that are read as the script of s replace the whole script now, the bench shows what the setting of s gives for
-- the words of u.
abbrev pub UndoOfScript : Type 0
UndoOfScript =
    (s t u v : Contents) (e : Edit) (bytes : List ℕ) → is_of_script e ≡ true → IsAccepted s e t → u.setting ≡ t.setting
    → IsAccepted u (Whole bytes) v → v.setting.script ≡ s.setting.script → Shows v s.setting u.words

-- the same if a limit was set and the limit of s is set again
abbrev pub UndoOfLimit : Type 0
UndoOfLimit =
    (s t u v : Contents) (n : ℕ) → IsAccepted s (Limit n) t → u.setting ≡ t.setting → IsAccepted u (Limit s.setting.limit) v
    → Shows v s.setting u.words
