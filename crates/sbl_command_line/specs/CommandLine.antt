-- The command line as a definition of `clap`, and its result for a list of words.
use Rattle.std.specs.Prelude.{◌≡◌, ◌⊎◌, Bool, true, false, List, [], ◌∷◌, Option, None, Some, codes, option_map, option_and_then}
use Rattle.clap.specs.Words.{App, Rule, Text, first_of, new_app, new_rule, one_of, subcommand_of, with_rule, with_subcommand}
use Rattle.clap.specs.declared.builder.action.ArgAction.TheVariants.{SetTrue}
use Rattle.sbl_command_line.specs.declared.command_line.Verb.{Verb}
use Rattle.sbl_command_line.specs.declared.command_line.Verb.TheVariants.{Session, Stem, Filter, Check, Compare, Work}

-- `--external NAME`: an option with one value, by default `stem`
abbrev pub external : Rule
external = record (new_rule (codes "external")) { long = Some (codes "external"); value_names = 1; defaults = codes "stem" ∷ [] }

-- a subcommand with this option
abbrev pub verb_app : Text → App
verb_app name = with_rule (new_app name) external

-- an argument by its position: a file that may be given, `new_rule name`, or one that has to be given
abbrev pub required_rule : Text → Rule
required_rule name = record (new_rule name) { required = true }

-- `--NAME`: an option without a value
abbrev pub flag : Text → Rule
flag name = record (new_rule name) { long = Some name; action = Some SetTrue }

-- `--NAME VALUE`: an option with one value
abbrev pub value_rule : Text → Rule
value_rule name = record (new_rule name) { long = Some name; value_names = 1 }

-- `run` has three files, a flag, and the form of a list
abbrev pub run_app : App
run_app =
    with_rule (with_rule (with_rule (with_rule (with_rule (verb_app (codes "run")) (required_rule (codes "SCRIPT"))) (new_rule (codes "WORDS")))
    (new_rule (codes "COMMANDS"))) (flag (codes "strict"))) (value_rule (codes "as"))

-- `session` and `stem` have flags
abbrev pub session_app : App
session_app = with_rule (with_rule (verb_app (codes "session")) (flag (codes "strict"))) (flag (codes "places"))

abbrev pub stem_app : App
stem_app = with_rule (verb_app (codes "stem")) (flag (codes "places"))

-- `filter` may have two files
abbrev pub filter_app : App
filter_app =
    with_rule (with_rule (with_rule (verb_app (codes "filter")) (new_rule (codes "SCRIPT"))) (new_rule (codes "WORDS"))) (flag (codes "places"))

-- `check` may have three files
abbrev pub check_app : App
check_app =
    with_rule (with_rule (with_rule (with_rule (verb_app (codes "check")) (new_rule (codes "SCRIPT"))) (new_rule (codes "WORDS")))
    (new_rule (codes "STEMS"))) (flag (codes "places"))

-- `compare` has three files, and a flag
abbrev pub compare_app : App
compare_app =
    with_rule (with_rule (with_rule (with_rule (verb_app (codes "compare")) (required_rule (codes "OLD"))) (required_rule (codes "NEW")))
    (required_rule (codes "WORDS"))) (flag (codes "rows"))

-- `work` has two files, the faces of its answers, the text that it begins with, and the file that breaks an edit off
abbrev pub work_app : App
work_app =
    with_rule (with_rule (with_rule (with_rule (with_rule (with_rule (verb_app (codes "work")) (required_rule (codes "SCRIPT")))
    (new_rule (codes "WORDS"))) (flag (codes "rows"))) (flag (codes "text"))) (value_rule (codes "from"))) (value_rule (codes "stop"))

-- the program itself
abbrev pub top : App
top = new_app (codes "snowbench")

-- with no word after its name the program prints its help; otherwise a subcommand is required
abbrev pub asking : App
asking = record top { top = record top.top { subcommand_required = true; arg_required_else_help = true } }

abbrev pub program : App
program = with_subcommand (with_subcommand (with_subcommand (with_subcommand (with_subcommand (with_subcommand (with_subcommand
    asking
    run_app.top) session_app.top) stem_app.top) filter_app.top) check_app.top) compare_app.top) work_app.top

-- whether a subcommand of this name does what the verb says: `run` is a session over files
abbrev pub IsVerb : Text → Verb → Type 0
IsVerb name Session = (name ≡ codes "run") ⊎ (name ≡ codes "session")
IsVerb name Stem = name ≡ codes "stem"
IsVerb name Filter = name ≡ codes "filter"
IsVerb name Check = name ≡ codes "check"
IsVerb name Compare = name ≡ codes "compare"
IsVerb name Work = name ≡ codes "work"

-- the subcommand in these words, and the value of its option
abbrev pub verb_and_external : List Text → Option (Text × Text)
verb_and_external words = option_and_then (λ p. option_map (λ name. (p.0, name)) (first_of (codes "external") p.1)) (subcommand_of program words)

-- the value of an argument of the subcommand, if it has one
abbrev pub value_in : Text → List Text → Option Text
value_in id words = option_and_then (λ p. first_of id p.1) (subcommand_of program words)

-- whether an option without a value is given: `true` or `false`, and none if the subcommand has no such option
abbrev pub flag_in : Text → List Text → Option Text
flag_in id words = option_and_then (λ p. one_of id p.1) (subcommand_of program words)

-- the option is given; it is not, though the subcommand has it; the subcommand has no such option
abbrev pub IsGiven : Text → List Text → Type 0
IsGiven id words = flag_in id words ≡ Some (codes "true")

abbrev pub IsMissing : Text → List Text → Type 0
IsMissing id words = flag_in id words ≡ Some (codes "false")

abbrev pub LacksFlag : Text → List Text → Type 0
LacksFlag id words = flag_in id words ≡ None

-- whether this is the truth of an option without a value: it is false if the subcommand has no such option
pub record IsFlag (text : Option Text) (is : Bool) : Type 0 where
  pub given : text ≡ Some (codes "true") → is ≡ true
  pub missing : text ≡ Some (codes "false") → is ≡ false
  pub none : text ≡ None → is ≡ false
