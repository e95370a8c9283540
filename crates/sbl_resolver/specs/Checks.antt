-- The checks of a script beyond its grammar. Each check looks at one occurrence, at those before and after it, and at
-- all of them.
use Rattle.std.specs.Prelude.{◌≡◌, ℕ, Bool, true, false, not, ◌&&◌, ◌||◌, List, [], ◌∷◌, ◌++◌}
use Rattle.std.specs.Prelude.{Option, Some, None, is_some, nat_eq, nat_lt, if◌then◌else◌}
use Rattle.std.specs.Option.{option_or, option_map_or}
use Rattle.std.specs.List.{fold, list_any}
use Rattle.std.specs.Str.{bytes_eq}
use denote.Enum.Bare.{sameb}
use Rattle.sbl_text.specs.declared.fault.ScriptFault.{ScriptFault}
use Rattle.sbl_text.specs.declared.fault.ScriptFault.TheVariants as fault
use Rattle.sbl_ast.specs.declared.tree.DeclarationKind.{DeclarationKind}
use Rattle.sbl_ast.specs.declared.tree.DeclarationKind.TheVariants as kinds
use Rattle.sbl_ast.specs.contracts.tree.DeclarationKind as declaration_kind
use Rattle.sbl_ast.specs.Tree.{Item}
use Rattle.sbl_ast.specs.declared.mode.Mode.{Mode}
use Rattle.sbl_ast.specs.declared.mode.Mode.TheVariants.{Backward}
use Rattle.sbl_ast.specs.contracts.mode.Mode as mode
use Rattle.sbl_resolver.specs.declared.occurrences.Use.{Use}
use Rattle.sbl_resolver.specs.declared.occurrences.Use.TheVariants as use_as
use Rattle.sbl_resolver.specs.declared.occurrences.Site.{Site}
use Rattle.sbl_resolver.specs.Bodies.{body_in}
use Rattle.sbl_resolver.specs.Occurrences.{Occurrence, declares, defines_routine, defines_grouping, uses}
use Rattle.sbl_resolver.specs.Occurrences.{substring, among, string, backwards, region_end, occurrences_of}

-- ---- what occurrences say about a name

-- the kind of the first declaration of the name in these occurrences
abbrev pub kind_of : List ℕ → List Occurrence → Option DeclarationKind
kind_of n [] = None
kind_of n (m ∷ ms) = option_or (elim m.notice [ declares k x ↦ if bytes_eq n x then Some k else None | _ ↦ None ]) (kind_of n ms)

-- the site of this occurrence if it is a definition of the name, of any kind
abbrev pub defined_at : List ℕ → Occurrence → Option Site
defined_at n m = if elim m.notice [ defines_routine x ↦ bytes_eq n x | defines_grouping x ↦ bytes_eq n x | _ ↦ false ] then Some m.site else None

-- the site of the first definition of the name in these occurrences
abbrev pub definition_of : List ℕ → List Occurrence → Option Site
definition_of n [] = None
definition_of n (m ∷ ms) = option_or (defined_at n m) (definition_of n ms)

-- ---- kinds, sites and modes

abbrev pub is_kind : DeclarationKind → DeclarationKind → Bool
is_kind = sameb declaration_kind.the_type

abbrev pub is_mode : Mode → Mode → Bool
is_mode = sameb mode.the_type

abbrev pub is_routine : DeclarationKind → Bool
is_routine k = is_kind k kinds.Routines || is_kind k kinds.Externals

abbrev pub is_grouping : DeclarationKind → Bool
is_grouping k = is_kind k kinds.Groupings

-- a name of this kind is allowed in this use
abbrev pub may_be : Use → DeclarationKind → Bool
may_be use_as.Command k = not (is_kind k kinds.Integers)
may_be use_as.Condition k = is_routine k
may_be use_as.Excluded k = is_grouping k
may_be use_as.Term k = is_grouping k
may_be use_as.Boolean k = is_kind k kinds.Booleans
may_be use_as.Integer k = is_kind k kinds.Integers
may_be use_as.String k = is_kind k kinds.Strings

-- there is a definition in an earlier item
abbrev pub is_earlier : ℕ → Option Site → Bool
is_earlier item site = option_map_or (λ p. nat_lt p.item item) site false

-- ---- the checks

-- the fault of the definition of a name, given its kind, its first definition, and which kinds are allowed: the name
-- was not declared before, or as another kind, or it was defined in an earlier item
abbrev pub fault_of_definition : ℕ → (DeclarationKind → Bool) → Option DeclarationKind → Option Site → Option ScriptFault
fault_of_definition item is_allowed kind site =
    if not (is_some kind) then Some (fault.Undeclared item) else
    if not (option_map_or is_allowed kind false) then Some (fault.WrongKind item) else
    if is_earlier item site then Some (fault.DefinedTwice item) else None

-- a routine or grouping without a definition; for a term of a grouping: without a definition in an earlier item
abbrev pub lacks_definition : Use → ℕ → Option DeclarationKind → Option Site → Bool
lacks_definition use_as.Term item kind site = not (is_earlier item site)
lacks_definition _ item kind site = option_map_or (λ k. is_routine k || is_grouping k) kind false && not (is_some site)

-- the fault of the use of a name, given its kind and its first definition: the name was not declared before, or as a
-- kind that is not allowed there, or it lacks a definition, or it is a routine that is defined in the other mode
abbrev pub fault_of_use : Site → Use → Option DeclarationKind → Option Site → Option ScriptFault
fault_of_use p u kind site =
    if not (is_some kind) then Some (fault.Undeclared p.item) else
    if not (option_map_or (may_be u) kind false) then Some (fault.WrongKind p.item) else
    if lacks_definition u p.item kind site then Some (fault.Undefined p.item) else
    if option_map_or is_routine kind false && option_map_or (λ q. not (is_mode p.mode q.mode)) site false then Some (fault.WrongMode p.item) else None

-- the first among, substring or end of a region in these occurrences is an among of this mode
abbrev pub is_followed : Mode → List Occurrence → Bool
is_followed mode [] = false
is_followed mode (m ∷ ms) =
    elim m.notice [ among has_starter is_empty ↦ is_mode mode m.site.mode | substring ↦ false | region_end ↦ false | _ ↦ is_followed mode ms ]

-- after these occurrences a substring is still without its among
abbrev pub is_awaited : List Occurrence → Bool → Bool
is_awaited ms waits = fold (λ w m. elim m.notice [ substring ↦ true | among has_starter is_empty ↦ false | region_end ↦ false | _ ↦ w ]) waits ms

-- the occurrence is a string with these characters, in the among of this number of this item
abbrev pub is_text_of : ℕ → ℕ → List ℕ → Occurrence → Bool
is_text_of item k text m = elim m.notice [ string o t ↦ (nat_eq k o && bytes_eq text t) && nat_eq item m.site.item | _ ↦ false ]

-- the fault of an occurrence; if it has several, the one that is tried first here
abbrev pub fault_at : List Occurrence → List Occurrence → Occurrence → List Occurrence → Option ScriptFault
fault_at all before m after = elim m.notice [
  -- the name was declared before, as any kind
  | declares k n ↦ if is_some (kind_of n before) then Some (fault.DeclaredTwice m.site.item) else None
  | defines_routine n ↦ fault_of_definition m.site.item is_routine (kind_of n before) (definition_of n all)
  | defines_grouping n ↦ fault_of_definition m.site.item is_grouping (kind_of n before) (definition_of n all)
  | uses u n ↦ fault_of_use m.site u (kind_of n before) (definition_of n all)
  -- the end of its region or another substring comes before any among, or its next among has the other mode
  | substring ↦ if not (is_followed m.site.mode after) then Some (fault.Substring m.site.item) else None
  -- it has a starter and is paired with a substring; or it has no string
  | among has_starter is_empty ↦
      if has_starter && is_awaited before false then Some (fault.Starter m.site.item) else
      if is_empty then Some (fault.EmptyAmong m.site.item) else None
  -- an earlier string of the same among has the same characters
  | string k text ↦ if list_any (is_text_of m.site.item k text) before then Some (fault.RepeatedString m.site.item) else None
  -- in backward mode
  | backwards ↦ if is_mode Backward m.site.mode then Some (fault.NestedBackwards m.site.item) else None
  | region_end ↦ None
]

-- the first fault of the occurrences after those in `before`
abbrev pub fault_after : List Occurrence → List Occurrence → List Occurrence → Option ScriptFault
fault_after all before [] = None
fault_after all before (m ∷ after) = option_or (fault_at all before m after) (fault_after all (before ++ m ∷ []) after)

-- the name is declared in `externals` and defined in forward mode
abbrev pub has_external : List Item → List ℕ → List Occurrence → Bool
has_external items external all = option_map_or (is_kind kinds.Externals) (kind_of external all) false && is_some (body_in external items)

-- The first fault of a script with this external. Last comes that the name is not declared in `externals`, or not
-- defined in forward mode.
abbrev pub fault_of : List Item → List ℕ → Option ScriptFault
fault_of items external =
    let all = occurrences_of items in
    option_or (fault_after all [] all) (if has_external items external all then None else Some fault.NoExternal)

-- no check fails
abbrev pub WellDeclared : List Item → List ℕ → Type 0
WellDeclared items external = fault_of items external ≡ None

-- ---- names for parts of these definitions, which only laws and proofs use

-- a name of this kind needs a definition
abbrev pub needs_definition : DeclarationKind → Bool
needs_definition k = is_routine k || is_grouping k
