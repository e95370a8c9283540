-- What the checks look at in an occurrence, and the number of tokens before the first fault.
use Rattle.std.specs.Prelude.{◌≡◌, ℕ, List, [], ◌∷◌, length, Option, Some, None}
use Rattle.sbl_text.specs.declared.fault.ScriptFault.{ScriptFault}
use Rattle.sbl_resolver.specs.Occurrences.{Occurrence, Notice, declares, defines_routine, defines_grouping, uses, region_end}
use Rattle.sbl_resolver.specs.Occurrences as occurs
use Rattle.sbl_resolver.specs.Laws.{IsFirst}

-- what a token is to the checks: a name, with its bytes; a string of an among, with its characters; or one of three
-- words
pub data Subject : Type 0 where
  name string : List ℕ → Subject
  substring among backwards : Subject

-- what the checks look at; at the end of a region there is no token to look at
abbrev pub subject_of : Notice → Option Subject
subject_of (declares k n) = Some (name n)
subject_of (defines_routine n) = Some (name n)
subject_of (defines_grouping n) = Some (name n)
subject_of (uses u n) = Some (name n)
subject_of occurs.substring = Some substring
subject_of (occurs.among has_starter is_empty) = Some among
subject_of (occurs.string k characters) = Some (string characters)
subject_of occurs.backwards = Some backwards
subject_of region_end = None

abbrev pub and_more : Option Subject → List Subject → List Subject
and_more None xs = xs
and_more (Some x) xs = x ∷ xs

-- what the checks look at in these occurrences, in order
abbrev pub subjects_of : List Occurrence → List Subject
subjects_of [] = []
subjects_of (m ∷ ms) = and_more (subject_of m.notice) (subjects_of ms)

-- f is the first fault of these occurrences, and the checks look at n tokens before the one at which it is
pub record IsFirstAfter (all : List Occurrence) (n : ℕ) (f : ScriptFault) : Type 0 where
  pub first : IsFirst all f
  pub subject : Subject
  pub is : subject_of first.occurrence.notice ≡ Some subject
  pub count : n ≡ length (subjects_of first.before)
