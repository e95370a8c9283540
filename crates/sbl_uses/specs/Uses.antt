-- Which words use a part of a script.
use Rattle.std.specs.Prelude.{◌≡◌, ℕ, zero, suc, List, map, Option, Some, None, Result, Ok, Err, if◌then◌else◌}
use Rattle.std.specs.List.{list_any, slice_get}
use Rattle.std.specs.Option.{ok_or, option_map}
use Rattle.std.specs.Result.{result_map_both}
use Rattle.std.specs.Str.{bytes_eq}
use Rattle.sbl_rows.specs.Setting.{Setting}
use Rattle.sbl_ast.specs.NamedParts.{Part', Routine, Among, Grouping}
use Rattle.sbl_tree_amongs.specs.Amongs.{amongs_of_body}
use Rattle.sbl_script.specs.Edits.{first_of}
use Rattle.sbl_source_map.specs.Definitions.{defines_name}
use Rattle.sbl_ast.specs.Source.{Source}
use Rattle.sbl_ast.specs.Tree.{Command, Others, Plain, routine, grouping}
use Rattle.sbl_io.specs.Records.{records_text}
use Rattle.sbl_records.specs.RowRecords.{row_fields}
use Rattle.sbl_uses.specs.Parts.{groups_held, strings_of}
use Rattle.sbl_uses.specs.Used.{Usable, Whole, Entry, rows_using}
use Rattle.sbl_uses.specs.declared.uses.Question as declared
use Rattle.sbl_uses.specs.declared.uses.Question.TheVariants as code
use Rattle.sbl_uses.specs.declared.uses.UsesFault.{UsesFault}
use Rattle.sbl_uses.specs.declared.uses.UsesFault.TheVariants as fault

-- what somebody asks about: a name; an among of the routine of this name, by its number; a string of that among
pub data Question : Type 0 where
  OfName : List ℕ → Question
  OfAmong : List ℕ → ℕ → Question
  OfString : List ℕ → ℕ → List ℕ → Question

abbrev pub question_of : declared.Question → Question
question_of (code.OfName n) = OfName n.now
question_of (code.OfAmong n k) = OfAmong n.now k
question_of (code.OfString n k q) = OfString n.now k q.now

abbrev pub name_in : Question → List ℕ
name_in (OfName n) = n
name_in (OfAmong n k) = n
name_in (OfString n k q) = n

-- the strings of the amongs of a body, in the order of the words `among`
abbrev pub among_strings : Command × Others → List (List (List ℕ))
among_strings b = map strings_of (groups_held (amongs_of_body b))

-- the strings of the among with this number, counted from 1
abbrev pub strings_at : Command × Others → ℕ → Option (List (List ℕ))
strings_at b zero = None
strings_at b (suc k) = slice_get (among_strings b) k

-- a string of an among that has these strings
abbrev pub entry_in : Part' → List ℕ → Option (List (List ℕ)) → Result Usable UsesFault
entry_in x q None = Err fault.NoAmong
entry_in x q (Some strings) = if list_any (bytes_eq q) strings then Ok (Entry (x, q)) else Err fault.NoString

-- what is asked about, given the body of the routine of the name
abbrev pub usable_in_body : Command × Others → Question → Result Usable UsesFault
usable_in_body b (OfName n) = Ok (Whole (Routine n))
usable_in_body b (OfAmong n k) = ok_or (option_map (λ strings. Whole (Among n k)) (strings_at b k)) fault.NoAmong
usable_in_body b (OfString n k q) = entry_in (Among n k) q (strings_at b k)

-- the same if the name is that of a grouping
abbrev pub usable_of_terms : Question → Result Usable UsesFault
usable_of_terms (OfName n) = Ok (Whole (Grouping n))
usable_of_terms q = Err fault.NoRoutine

-- the same, given the definition of the name, if there is one
abbrev pub usable_in : Option Plain → Question → Result Usable UsesFault
usable_in (Some (routine m c os)) q = usable_in_body (c, os) q
usable_in (Some (grouping m a ts)) q = usable_of_terms q
usable_in definition q = Err fault.NoRoutine

abbrev pub usable_for : Source → Question → Result Usable UsesFault
usable_for script q = usable_in (first_of (defines_name (name_in q)) script.items) q

-- the rows of the words whose run uses it, as `stems` writes them
abbrev pub users_text : Setting → List (List ℕ) → Usable → List ℕ
users_text s words u = records_text (map row_fields (rows_using s words u))

-- the same for what is asked about, or why there is no such part
abbrev pub uses_text : Setting → List (List ℕ) → Question → Result (List ℕ) UsesFault
uses_text s words q = result_map_both (users_text s words) (λ f. f) (usable_for s.script q)

-- a result is the one that is wanted, seen in this way, or an allocation failed
abbrev pub IsResult : {A B : Type 0} → (A → B) → Result A UsesFault → Result B UsesFault → Type 0
IsResult view (Ok a) wanted = wanted ≡ Ok (view a)
IsResult view (Err fault.OutOfMemory) wanted = Unit {0}
IsResult view (Err f) wanted = wanted ≡ Err f
