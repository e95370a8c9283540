-- The words of a vocabulary while they are read.
use Rattle.std.specs.Prelude.{◌≡◌, ◌<◌, ℕ, true, List, [], ◌∷◌, ◌++◌, length, Option, Some, None, Result, Ok, Err, is_some, map}
use Rattle.std.specs.Option.{option_map}
use Rattle.std.specs.Str.{chars}
use Rattle.std.specs.declared.vec.Vec.{Vec}
use Rattle.std.specs.declared.alloc.Global.{Global}
use Rattle.sbl_bench.specs.Contents.{opening_fault, word_fault}
use Rattle.sbl_bench.specs.Vocabulary.{vocabulary}
use Rattle.sbl_io.specs.declared.faults.ServeFault.TheVariants as fault
use Rattle.sbl_reports.specs.Block.{Breaks}
use Rattle.sbl_input.specs.Loading.{TookWords, WordLines}
use Rattle.sbl_input.specs.inside.LoadingParts.{TookNoText, TookSome}
use Rattle.sbl_input.specs.declared.faults.LoadFault.{LoadFault}
use Rattle.sbl_input.specs.declared.faults.LoadFault.TheVariants.{Input, Script, Open}
use Rattle.sbl_input.specs.declared.word_list.KeptWords.{KeptWords}
use Rattle.sbl_input.specs.declared.word_list.KeptWords.TheVariants.{Distinct, Plain}
use Rattle.sbl_input.specs.declared.word_list.WordList.{WordList}

abbrev pub texts_of : List (Vec ℕ Global) → List (List ℕ)
texts_of words = map (λ w. w.items) words

-- A bench opens with these words as with all: with the same vocabulary, or with the same fault.
pub record OpensAs (words all : List (List ℕ)) : Type 0 where
  pub faults : opening_fault [] words ≡ opening_fault [] all
  pub vocabularies : opening_fault [] all ≡ None → vocabulary words ≡ vocabulary all

-- These words are the vocabulary of all, and neither of the two lists has a fault.
pub record IsVocabulary (words all : List (List ℕ)) : Type 0 where
  pub all_fine : opening_fault [] all ≡ None
  pub fine : opening_fault [] words ≡ None
  pub same : words ≡ vocabulary all

-- the words that are kept, in their order
abbrev pub texts_in : KeptWords → List (List ℕ)
texts_in (Plain words) = texts_of words.items
texts_in (Distinct words) = texts_of words.keys

-- Words in a set are a vocabulary. Others may have repeats among them.
abbrev pub AreDistinct : KeptWords → Type 0
AreDistinct (Plain words) = Unit {0}
AreDistinct (Distinct words) = vocabulary (texts_of words.keys) ≡ texts_of words.keys

-- The same, and there are fewer words than a vocabulary can have if they have repeats: so only a word that is too long is refused.
abbrev pub HasRoom : KeptWords → Type 0
HasRoom (Plain words) = length words.items < 100000
HasRoom (Distinct words) = vocabulary (texts_of words.keys) ≡ texts_of words.keys

-- These words are kept of all the words so far: they have no fault, and the same vocabulary as all; or they have no fault, and a word
-- that is refused after them has the fault of all.
abbrev pub AreKept : List (List ℕ) → Option (List ℕ) → List (List ℕ) → Type 0
AreKept words None all = (opening_fault [] all ≡ None) × (opening_fault [] words ≡ None) × (vocabulary words ≡ vocabulary all)
AreKept words (Some refused) all =
    (is_some (opening_fault [] all) ≡ true) × (opening_fault [] (words ++ refused ∷ []) ≡ opening_fault [] all) × (opening_fault [] words ≡ None)

-- a word that a bench does not refuse is kept after all words so far
abbrev pub KeepsWord : KeptWords → List ℕ → KeptWords → Type 0
KeepsWord old word new =
    (all : List (List ℕ)) → HasRoom old → AreKept (texts_in old) None all → word_fault (vocabulary (texts_in old)) word ≡ None →
    AreKept (texts_in new) None (all ++ word ∷ [])

abbrev pub HoldsWords : WordList → List (List ℕ) → Type 0
HoldsWords list all = AreKept (texts_in list.words) (option_map (λ w. w.items) list.refused) all × AreDistinct list.words

-- it holds what is kept of some words
abbrev pub AreHeld : WordList → Type 0
AreHeld list = (all : List (List ℕ)) × HoldsWords list all

-- Words were read to their end, and these are kept of them; or why they were not.
abbrev pub ReadsWords : Option (List ℕ) → Option (List ℕ) → Result WordList LoadFault → Type 0
ReadsWords old new (Ok words) = (lines : List (List ℕ)) × TookWords old new lines × HoldsWords words (map chars lines)
ReadsWords old new (Err (Script f)) = ⊥
ReadsWords old new (Err (Open f)) = ⊥
ReadsWords old new (Err (Input fault.NotText)) = TookNoText old new
ReadsWords old new (Err (Input fault.OutOfMemory)) = TookSome old new
ReadsWords old new (Err (Input fault.Cut)) = ⊥
ReadsWords old new (Err (Input f)) = Breaks WordLines old new f
