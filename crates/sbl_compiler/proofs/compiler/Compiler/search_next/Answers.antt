use Rattle.std.proofs.Common.{ap, ◌∙◌, map, drop}
use Rattle.sbl_compiler.specs.NumberedItems.{next_of}
use Rattle.sbl_program.specs.FoundView.{strings_at}
use Rattle.sbl_compiler.specs.NumberedView.{view_found}
use Rattle.sbl_program.specs.Program as programs
use Rattle.sbl_compiler.proofs.NumberingPlaces.{search_view, strings_next}
use Rattle.sbl_compiler.proofs.compiler.Compiler.search_next.Goals as goal

pub returns : goal.returns
returns c =
    let fs = c.args.self.now.amongs.now.items in
    let k = c.args.place.next in
    let n = next_of (map view_found (drop k fs)) in
    let es = c.in_ok-entries.entries in
    search_view (strings_at fs) c.next_number.result k es ∙ ap (λ i. programs.search i (strings_at fs k) es.items) c.next_number.ensures ∙ ap (λ s. programs.search n.number s es.items) (strings_next fs k) ∙ ap (λ x. programs.search n.number n.strings x) c.in_ok-entries.ensures
