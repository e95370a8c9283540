use Rattle.std.proofs.Common.{List, ℕ, Some, None, map, string_bytes, ap, sym, ◌∙◌}
use Rattle.std.proofs.lemmas.List.{length-map}
use Rattle.sbl_compiler.specs.NumberedNames.{number_of}
use Rattle.sbl_compiler.proofs.NamesNumbered.{number_kept}
use Rattle.sbl_compiler.proofs.name_list.NameList.number_of.Goals as goal

pub returns-in-Some : goal.returns-in-Some
returns-in-Some c =
    let names = map string_bytes c.self.inside.names.items in
    number_kept names c.self.inside.numbers c.args.name.now (Some c.in-Some.number.now) c.self.invariant c.in-Some.ensures.value
    ∙ ap (λ (ns : List (List ℕ)). number_of ns c.args.name.now) c.self.view_is

pub returns-in-None : goal.returns-in-None
returns-in-None c =
    let names = map string_bytes c.self.inside.names.items in
    c.len.ensures ∙ c.self.inside.names.ok.0 ∙ sym (length-map c.self.inside.names.items string_bytes)
    ∙ number_kept names c.self.inside.numbers c.args.name.now None c.self.invariant c.in-None.ensures.value
    ∙ ap (λ (ns : List (List ℕ)). number_of ns c.args.name.now) c.self.view_is
