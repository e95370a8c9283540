-- Names for parts of Occurrences.antt and Checks.antt, which only proofs and functions inside the checks use.
use Rattle.std.specs.Prelude.{ℕ, ◌+◌, Bool, true, false, not, ◌&&◌, List, Option, Some, None, nat_eq, if◌then◌else◌}
use Rattle.std.specs.Option.{option_map_or}
use Rattle.std.specs.List.{list_any}
use Rattle.std.specs.Str.{bytes_eq}
use Rattle.sbl_ast.specs.declared.mode.Mode.{Mode}
use Rattle.sbl_ast.specs.declared.tree.DeclarationKind.{DeclarationKind}
use Rattle.sbl_resolver.specs.declared.occurrences.Site.{Site}
use Rattle.sbl_resolver.specs.Occurrences.{Occurrence, Notice}
use Rattle.sbl_resolver.specs.Occurrences.{declares, defines_routine, substring, among, string, region_end}
use Rattle.sbl_resolver.specs.Checks.{is_mode, is_text_of}

-- the number of amongs of the current routine after an occurrence, given the number before it
abbrev pub amongs_after : Notice → ℕ → ℕ
amongs_after x j = elim x [ defines_routine n ↦ 0 | among has_starter is_empty ↦ j + 1 | _ ↦ j ]

-- the kind as which this occurrence declares the name, if it does
abbrev pub declared_as : List ℕ → Notice → Option DeclarationKind
declared_as n y = elim y [ declares k x ↦ if bytes_eq n x then Some k else None | _ ↦ None ]

-- after this occurrence a substring is still without its among
abbrev pub waits_after : Notice → Bool → Bool
waits_after x w = elim x [ substring ↦ true | among has_starter is_empty ↦ false | region_end ↦ false | _ ↦ w ]

-- there is a value, and it passes the test
abbrev pub is_some_and : {X : Type 0} → (X → Bool) → Option X → Bool
is_some_and test o = option_map_or test o false

-- there is a definition in the other mode
abbrev pub is_in_other : Mode → Option Site → Bool
is_in_other m site = option_map_or (λ p. not (is_mode m p.mode)) site false

abbrev pub is_text : ℕ → List ℕ → Notice → Bool
is_text k text (string o t) = nat_eq k o && bytes_eq text t
is_text k text _ = false

-- some occurrence is a string of this among of this item
abbrev pub has_text : ℕ → ℕ → List ℕ → List Occurrence → Bool
has_text item k text ms = list_any (is_text_of item k text) ms
