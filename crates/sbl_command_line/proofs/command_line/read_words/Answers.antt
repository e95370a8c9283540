use Rattle.std.proofs.Common.{rules, ◌≡◌, ◌∙◌, ap, ap₂, refl, sym, map, codes, List, Option, Some, None}
use Rattle.std.specs.Prelude.{option_map, option_and_then}
use Rattle.std.specs.String.{string_bytes}
use Rattle.clap.specs.Words.{App, Row, Text, first_of, first_value, found_of, is_simple, one_of, one_text, rows_of, subcommand_of, subcommand_rows_of}
use Rattle.clap.specs.declared.parser.matches.Found.{Found}
use Rattle.clap.proofs.WalkLemmas.{first_value-rows, one_text-rows}
use Rattle.sbl_command_line.specs.CommandLine.{IsVerb, flag_in, program, value_in}
use Rattle.sbl_command_line.proofs.command_line.read_words.Goals as goal
use Rattle.sbl_command_line.proofs.command_line.read_words.Goals.{in-run, in-session, in-stem, in-filter, in-check, in-compare, in-work}

some_same : {X : Type 0} (x y : X) → Some x ≡ Some y → x ≡ y
some_same x y e = cc

both : {X A B : Type 0} (f : X → A) (g : X → B) (o : Option X) (a : A) (b : B) → option_map f o ≡ Some a
    → option_map {T = A × B} (λ p. p.1) (option_map {U = A × B} (λ x. (f x, g x)) o) ≡ Some b → option_map {U = A × B} (λ x. (f x, g x)) o ≡ Some (a, b)
both f g None a b h k = cc
both f g (Some x) a b h k = ap₂ (λ u v. Some (u, v)) (some_same _ _ h) (some_same _ _ k)

abbrev pick : Text × List Row → Option (Text × Text)
pick p = option_map (λ name. (p.0, name)) (first_of (codes "external") p.1)

-- the value of an argument of the subcommand that was entered
value_is : (words : List Text) (name : Text) (f : Found) (id : Text) → subcommand_of program words ≡ Some (name, rows_of f) → first_value f id ≡ value_in id words
value_is words name f id e = first_value-rows f id ∙ sym (ap (option_and_then (λ (p : Text × List Row). first_of id p.1)) e)

flag_is : (words : List Text) (name : Text) (f : Found) (id : Text) → subcommand_of program words ≡ Some (name, rows_of f) → one_text f id ≡ flag_in id words
flag_is words name f id e = one_text-rows f id ∙ sym (ap (option_and_then (λ (p : Text × List Row). one_of id p.1)) e)

pub returns : goal.returns
returns c =
    let words = map string_bytes c.args.words.now in
    let entered = (c.in_ok-matches.ensures.matches (ap is_simple c.in_ok-make_program.ensures ∙ refl)).1 in
    let program_is : subcommand_of program words ≡ subcommand_rows_of c.in_ok-matches.matches = sym (entered ∙ ap (λ (a : App). subcommand_of a words) c.in_ok-make_program.ensures) in
    let name = c.in-Some.name.now in
    let f = found_of c.in-Some.options.now in
    let entered_is : subcommand_rows_of c.in_ok-matches.matches ≡ Some (name, rows_of f) = both _ _ _ _ _ (sym c.in-Some.ensures.name) (sym c.in-Some.ensures.rows) in
    let is = program_is ∙ entered_is in
    let found : first_of (codes "external") (rows_of f) ≡ Some c.in-Some-get_str.external.now = sym (first_value-rows f (codes "external")) ∙ sym c.in-Some-get_str.ensures in
    let verb_is : IsVerb name c.match-name.verb = elim c.match-name.branch [ in-run w ↦ search rules | in-session w ↦ search rules | in-stem w ↦ search rules | in-filter w ↦ search rules | in-check w ↦ search rules | in-compare w ↦ search rules | in-work w ↦ search rules ] in
    let same : string_bytes c.in_ok-from_str.field-0 ≡ c.in-Some-get_str.external.now = c.in_ok-from_str.ensures.ok in
    let texts : option_and_then pick (subcommand_of program words) ≡ Some (name, string_bytes c.in_ok-from_str.field-0) =
    ap (option_and_then pick) is ∙ ap (option_map (λ (external : Text). (name, external))) found ∙ ap (λ (b : Text). Some (name, b)) (sym same) in
    record {
      subcommand = (name, texts, verb_is);
      script = c.in_ok-script.ensures ∙ value_is words name f (codes "SCRIPT") is;
      old = c.in_ok-old.ensures ∙ value_is words name f (codes "OLD") is;
      new = c.in_ok-new.ensures ∙ value_is words name f (codes "NEW") is;
      words = c.in_ok-list.ensures ∙ value_is words name f (codes "WORDS") is;
      commands = c.in_ok-commands.ensures ∙ value_is words name f (codes "COMMANDS") is;
      stems = c.in_ok-stems.ensures ∙ value_is words name f (codes "STEMS") is;
      from = c.in_ok-from.ensures ∙ value_is words name f (codes "from") is;
      stop = c.in_ok-stop.ensures ∙ value_is words name f (codes "stop") is;
      form = c.in_ok-form.ensures ∙ value_is words name f (codes "as") is;
      strict = rw (← flag_is words name f (codes "strict") is) c.has_flag-is_strict.ensures;
      places = rw (← flag_is words name f (codes "places") is) c.has_flag-shows_places.ensures;
      rows = λ given. c.face_of-face.ensures.rows (flag_is words name f (codes "rows") is ∙ given);
      text = λ given also. c.face_of-face.ensures.text (flag_is words name f (codes "rows") is ∙ given) (flag_is words name f (codes "text") is ∙ also);
      neither = λ given also. c.face_of-face.ensures.neither (flag_is words name f (codes "rows") is ∙ given) (flag_is words name f (codes "text") is ∙ also);
      rows_alone = λ given also. c.face_of-face.ensures.rows_alone (flag_is words name f (codes "rows") is ∙ given) (flag_is words name f (codes "text") is ∙ also);
    }
