-- The commands of work.
use Rattle.std.specs.Prelude.{ℕ, Bool, false, ◌==◌, ◌||◌, List, [], ◌∷◌, codes, if◌then◌else◌}
use Rattle.std.specs.Prelude.{length, nat_lt, zero, suc, Option, Some, None, Result, Ok, Err}
use Rattle.std.specs.Option.{is_some, option_and_then, option_map_or}
use Rattle.std.specs.Str.{bytes_eq, chars, is_utf8}
use Rattle.sbl_uses.specs.Uses.{Question}
use Rattle.sbl_io.specs.LinesOf.{lines_of}
use Rattle.sbl_ast.specs.NamedParts.{Part'}
use Rattle.sbl_reports.specs.Block.{made_text, max_script}
use Rattle.sbl_sessions.specs.Commands as session
use Rattle.sbl_sessions.specs.Numbers.{number_in}
use Rattle.sbl_sessions.specs.Requests.{asks_block}
use Rattle.sbl_sessions.specs.Words.{argument, command_word}
use Rattle.sbl_text.specs.declared.fault.ScriptFault.{ScriptFault}
use Rattle.sbl_text.specs.declared.fault.ScriptFault.TheVariants as fault
use Rattle.sbl_work.specs.Questions.{question_in}

pub data WorkCommand : Type 0 where
  -- a comment, or `help`
  Nothing : WorkCommand
  -- a command of a session
  Session : session.Command → WorkCommand
  -- a text replaces a part of the script
  EditPart : Part' → List ℕ → WorkCommand
  -- bytes for a part of the script that are no text, with their fault
  NoPart : Part' → List ℕ → ScriptFault → WorkCommand
  -- these bytes replace the whole script
  EditWhole : List ℕ → WorkCommand
  -- takes back the last edit that undo can take back: one of the script, or a limit
  Undo : WorkCommand
  -- makes the edit again that was taken back last
  Redo : WorkCommand
  -- the edits that can be undone and redone
  History : WorkCommand
  -- sets the mark
  Mark : WorkCommand
  -- sets the mark to the words with the stems in these bytes
  MarkStems : List ℕ → WorkCommand
  -- the stems were written to a file, or could not be
  Approve : Bool → WorkCommand
  -- the vocabulary becomes that of the words in these bytes
  Words : List ℕ → WorkCommand
  -- what differs from the mark
  Changes : WorkCommand
  -- the first changes of each kind from the mark, so many of each
  FirstChanges : ℕ → WorkCommand
  -- how many changes of each kind there are from the mark
  Figures : WorkCommand
  -- figures of the bench
  Stats : WorkCommand
  -- what no word uses
  Unused : WorkCommand
  -- so many of the largest classes; none if the number is bad
  Largest : Option ℕ → WorkCommand
  -- how the classes agree with the families in these bytes
  Families : List ℕ → WorkCommand
  -- why a word has its stem
  Why : List ℕ → WorkCommand
  -- the integer variables after the run of a word
  Integers : List ℕ → WorkCommand
  -- the words that use a part of the script
  Uses : Question → WorkCommand
  -- how many words use each part
  Counts : WorkCommand
  -- the rows that contain a text
  Find : List ℕ → WorkCommand
  -- the class of a stem
  Stem : List ℕ → WorkCommand
  -- the definition of this name
  Show : List ℕ → WorkCommand
  -- a file was written
  Saved : WorkCommand
  -- no words that were to be put into a file
  NoWords : WorkCommand
  -- a file that could not be read or written
  NoFile : WorkCommand
  -- a text to be written
  Echo : List ℕ → WorkCommand
  -- the text of the script
  Text : WorkCommand
  -- what is in that text, with the places
  Places : WorkCommand
  -- the tokens of that text
  Tokens : WorkCommand
  -- the tokens of the text with these bytes
  TokensOf : List ℕ → WorkCommand
  -- all faults of the text that was refused last
  Faults : WorkCommand
  -- all faults of the text with these bytes
  FaultsOf : List ℕ → WorkCommand
  -- the name and the version of the program
  Hello : WorkCommand

-- the line that ends the work
abbrev pub quit_line : List ℕ
quit_line = codes "quit"

-- ---- a line alone

-- a number above 0
abbrev pub positive : ℕ → Option ℕ
positive zero = None
positive (suc n) = Some (suc n)

-- the number above 0 that decimal digits write
abbrev pub count_in : List ℕ → Option ℕ
count_in text = option_and_then positive (number_in text)

-- the command with the bytes of its file, if the file could be read or written
abbrev pub with_file : (List ℕ → WorkCommand) → Option (List ℕ) → WorkCommand
with_file command None = NoFile
with_file command (Some bytes) = command bytes

-- families in the lines of a file
abbrev pub families_in_file : List ℕ → WorkCommand
families_in_file bytes = Families (made_text (lines_of bytes))

-- lines that were put at the end of a file; none if it lacks no word that was added
abbrev pub append_command : List ℕ → WorkCommand
append_command [] = NoWords
append_command (b ∷ lines) = Saved

-- the words that use what a text asks about
abbrev pub uses_command : List ℕ → WorkCommand
uses_command text = option_map_or Uses (question_in text) (Session session.Bad)

-- the rows that contain a text, which must not be empty
abbrev pub find_command : List ℕ → WorkCommand
find_command [] = Session session.Bad
find_command (b ∷ text) = Find (chars (b ∷ text))

-- `mark` with the bytes of a file; without a name after the space the line is bad
abbrev pub mark_command : Option (List ℕ) → List ℕ → WorkCommand
mark_command file line = if bytes_eq (argument line) [] then Session (session.line_command line) else with_file MarkStems file

-- so many of the first changes of each kind; the line is bad without a number above 0
abbrev pub first_changes_command : List ℕ → WorkCommand
first_changes_command text = option_map_or FirstChanges (count_in text) (Session session.Bad)

-- the command of a line by its command word
abbrev pub word_command : Option (List ℕ) → List ℕ → WorkCommand
word_command file line =
    if bytes_eq (command_word line) (codes "largest") then Largest (count_in (argument line))
    else (if bytes_eq (command_word line) (codes "families") then with_file families_in_file file
    else (if bytes_eq (command_word line) (codes "replace") then with_file EditWhole file
    else (if bytes_eq (command_word line) (codes "why") then Why (chars (argument line))
    else (if bytes_eq (command_word line) (codes "events") then Why (chars (argument line))
    else (if bytes_eq (command_word line) (codes "integers") then Integers (chars (argument line))
    else (if bytes_eq (command_word line) (codes "uses") then uses_command (argument line)
    else (if bytes_eq (command_word line) (codes "find") then find_command (argument line)
    else (if bytes_eq (command_word line) (codes "stem") then Stem (chars (argument line))
    else (if bytes_eq (command_word line) (codes "show") then Show (argument line)
    else (if bytes_eq (command_word line) (codes "save") then with_file (λ bytes. Saved) file
    else (if bytes_eq (command_word line) (codes "append") then with_file append_command file
    else (if bytes_eq (command_word line) (codes "mark") then mark_command file line
    else (if bytes_eq (command_word line) (codes "approve") then Approve (is_some file)
    else (if bytes_eq (command_word line) (codes "tokens") then with_file TokensOf file
    else (if bytes_eq (command_word line) (codes "faults") then with_file FaultsOf file
    else (if bytes_eq (command_word line) (codes "changes") then first_changes_command (argument line)
    else Session (session.line_command line)))))))))))))))))

-- the command of a line that is no comment and no `echo`
abbrev pub text_command : Option (List ℕ) → List ℕ → WorkCommand
text_command file line =
    if bytes_eq line (codes "reload") then with_file EditWhole file
    else (if bytes_eq line (codes "undo") then Undo
    else (if bytes_eq line (codes "redo") then Redo
    else (if bytes_eq line (codes "history") then History
    else (if bytes_eq line (codes "mark") then Mark
    else (if bytes_eq line (codes "words") then with_file Words file
    else (if bytes_eq line (codes "changes") then Changes
    else (if bytes_eq line (codes "stats") then Stats
    else (if bytes_eq line (codes "unused") then Unused
    else (if bytes_eq line (codes "counts") then Counts
    else (if bytes_eq line (codes "help") then Nothing
    else (if bytes_eq line (codes "text") then Text
    else (if bytes_eq line (codes "places") then Places
    else (if bytes_eq line (codes "tokens") then Tokens
    else (if bytes_eq line (codes "faults") then Faults
    else (if bytes_eq line (codes "hello") then Hello
    else (if bytes_eq line (codes "figures") then Figures
    else word_command file line))))))))))))))))

-- whether a line begins with `#`
abbrev pub is_comment : List ℕ → Bool
is_comment [] = false
is_comment (b ∷ line) = b == 35

-- The command of a line that is UTF-8 and no comment: a text to be echoed, or one of the others.
abbrev pub utf8_command : Option (List ℕ) → List ℕ → WorkCommand
utf8_command file line =
    if bytes_eq (command_word line) (codes "echo") then Echo (argument line)
    else text_command file line

-- The command of a line without a block. The file has these bytes: the script's for `reload`, that of the words for `words`, the
-- one that the line names for `replace`, `families`, `mark`, `tokens` and `faults`; for `save` and `approve` any if it was written,
-- and for `append` the lines that were put at its end; none if it could not be read or written. A line that is not UTF-8 and no
-- comment is a command of a session, where it is bad.
unfoldable pub alone_command : Option (List ℕ) → List ℕ → WorkCommand
alone_command file line =
    if is_comment line then Nothing
    else (if is_utf8 line then utf8_command file line
    else Session (session.line_command line))

-- ---- a line and its block

abbrev pub is_replace : List ℕ → Bool
is_replace line = bytes_eq line (codes "replace")

-- whether a block follows the line: after the command words of the blocks of a session, and after `replace` and `families` alone
abbrev pub asks_work_block : List ℕ → Bool
asks_work_block line = asks_block line || (is_replace line || bytes_eq line (codes "families"))

-- A line that is bad comes before a fault of its block.
abbrev pub part_command : Option Part' → List ℕ → Result (List ℕ) ScriptFault → WorkCommand
part_command None bytes text = Session session.Bad
part_command (Some what) bytes (Ok text) = EditPart what text
part_command (Some what) bytes (Err f) = NoPart what bytes f

abbrev pub families_command : List (List ℕ) → WorkCommand
families_command lines =
    if nat_lt max_script (length (made_text lines)) then Session (session.HasNoText fault.ScriptTooLong) else Families (made_text lines)

abbrev pub block_command : List ℕ → List (List ℕ) → WorkCommand
block_command line lines =
    if asks_block line then part_command (session.target_of line) (made_text lines) (session.text_of_block lines)
    else (if is_replace line then EditWhole (made_text lines)
    else families_command lines)

-- ---- both

abbrev pub by_work_block : Option (List ℕ) → List ℕ → Option (List (List ℕ)) → WorkCommand
by_work_block file line None = alone_command file line
by_work_block file line (Some lines) = block_command line lines
