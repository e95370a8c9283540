-- What is kept of the strings that runs take, and when it is right.
use Rattle.std.specs.Prelude.{◌≡◌, ℕ, Bool, true, false, List, [], map, slice_index_or}
use Rattle.std.specs.Borrow.{Bor}
use Rattle.std.specs.BTreeSet.{BTreeSet}
use Rattle.std.specs.Global.{Vec}
use Rattle.std.specs.declared.rc.Rc.{Rc}
use Rattle.std.specs.declared.alloc.Global.{Global}
use Rattle.std.specs.List.{list_all, list_any}
use Rattle.std.specs.Str.{bytes_eq}
use Rattle.sbl_rows.specs.Setting.{Setting}
use Rattle.sbl_rows.specs.declared.row.Row as declared
use Rattle.sbl_bench.specs.KeptRuns.{KeptRuns, setting_of}
use Rattle.sbl_bench.specs.Vocabulary.{is_word}
use Rattle.sbl_machine.specs.BuiltFrom.{meets_one}
use Rattle.sbl_machine.specs.Marks.{has_item}
use Rattle.sbl_semantics.specs.TouchedItems.{item_of, names_of}
use Rattle.sbl_ast.specs.NamedParts.{Part', Among}
use Rattle.sbl_semantics.specs.declared.item.Item.{Item}
use Rattle.sbl_uses.specs.Used.{Entry, Take, same_take, uses}
use Rattle.sbl_explain.specs.WhyRows.{routine_names}
use Rattle.sbl_explain.specs.declared.kept_words.Taken.{Taken}
use Rattle.sbl_explain.specs.declared.kept_words.KeptWord.{KeptWord}

-- the names of routines, by number
abbrev pub Names : Type 0
Names = List (List ℕ)

-- an among, and a string that a run takes there
abbrev pub taken_of : Names → Taken → Take
taken_of names t = (Among (slice_index_or names t.routine []) t.among, t.string.items)

abbrev pub view_list : Names → List Taken → List Take
view_list names list = map (taken_of names) list

-- whether a string is among those that are kept of a word
abbrev pub has_taken : Names → Take → KeptWord → Bool
has_taken names t w = list_any (same_take t) (view_list names w.takes.value.items)

abbrev pub kept_words : List KeptWord → List (List ℕ)
kept_words words = map (λ w. w.word.items) words

-- What is kept of some words is what their runs take: of each string, it is kept of those whose runs take it.
abbrev pub Agrees : Setting → List (List ℕ) → List KeptWord → Type 0
Agrees s words kept = (t : Take) → map (has_taken (routine_names s) t) kept ≡ map (λ w. uses s w (Entry t)) words

-- each word is kept with the strings that its run takes
abbrev pub AreKept : Setting → List KeptWord → Type 0
AreKept s kept = (t : Take) → map (has_taken (routine_names s) t) kept ≡ map (λ k. uses s k.word.items (Entry t)) kept

-- these words are kept, each with the strings that its run takes
abbrev pub AreTakenBy : Setting → List (List ℕ) → List KeptWord → Type 0
AreTakenBy s words kept = (kept_words kept ≡ words) × Agrees s words kept

-- the words of a bench are kept so
abbrev pub KeepsWords : KeptRuns → List KeptWord → Type 0
KeepsWords bench kept = AreTakenBy (setting_of bench) bench.words kept

-- a list has the strings that the run of a word takes
abbrev pub IsListOf : Setting → List ℕ → Rc (Vec Taken) Global → Type 0
IsListOf s word list = (t : Take) → list_any (same_take t) (view_list (routine_names s) list.value.items) ≡ uses s word (Entry t)

-- ---- the words that run again

abbrev pub is_one_of : BTreeSet (Bor (List ℕ)) → List ℕ → Bool
is_one_of set w = list_any (bytes_eq w) (map (λ k. k.now) set.keys)

abbrev pub row_words : List declared.Row → List (List ℕ)
row_words rows = map (λ r. r.word.now) rows

-- the words that do not run again meet none of the items
abbrev pub Misses : Setting → List (List ℕ) → List Part' → (List ℕ → Bool) → Type 0
Misses s words xs again = (w : List ℕ) → is_word w words ≡ true → again w ≡ false → meets_one xs s.script w s.limit ≡ false

-- The words that do not run again take the same in two settings. Routines have the same numbers.
abbrev pub StayOutside : Setting → Setting → List (List ℕ) → (List ℕ → Bool) → Type 0
StayOutside s u words again =
    (routine_names u ≡ routine_names s)
    × ((w : List ℕ) → is_word w words ≡ true → again w ≡ false → (t : Take) → uses u w (Entry t) ≡ uses s w (Entry t))

-- the same of the words of a bench
abbrev pub StayKept : KeptRuns → Setting → BTreeSet (Bor (List ℕ)) → Type 0
StayKept bench u again = StayOutside (setting_of bench) u bench.words (is_one_of again)

abbrev pub MissesIn : KeptRuns → List Item → BTreeSet (Bor (List ℕ)) → Type 0
MissesIn bench items again = Misses (setting_of bench) bench.words (map item_of items) (is_one_of again)

-- the script of a bench defines the routines and the groupings of these items
abbrev pub HasItems : KeptRuns → List Item → Type 0
HasItems bench items = list_all (has_item (names_of (setting_of bench).script)) (map item_of items) ≡ true
