use Rattle.std.proofs.Common.{◌≡◌, ◌≤◌, ◌<◌, rules, arith, length, get_or, refl, sym, ap, ◌∙◌, Some, None}
use Rattle.std.specs.Prelude.{slice_get}
use Rattle.std.proofs.lemmas.Option.{slice_get_read, slice_get_past}
use Rattle.sbl_semantics.specs.Fitting.{first, ahead_at}
use Rattle.sbl_program.specs.Listing.{fits_at, listed_by}
use Rattle.sbl_ast.specs.declared.mode.Mode.TheVariants.{Forward}
use Rattle.sbl_run_state.proofs.Nothing.{none_fits}
use Rattle.sbl_run_state.proofs.table.TableListTables.longest.Goals as goal

pub returns-in-None : goal.returns-in-None
returns-in-None g c =
    let items = c.args.self.now.tables.items in
    let k = c.args.table in
    let past : length c.deref.result.now ≤ k = first_of (search rules, omega (arith, c.in-None.ensures.lookup)) in
    let n : length c.deref.result.now ≡ length items = ap length c.deref.ensures.value in
    let none : slice_get items k ≡ None = slice_get_past items k (omega arith) in
    sym (ap (λ o. first (fits_at (listed_by _ g.S.AmongSearch.entries g.S.AmongSearch.mode o) c.args.text.now c.args.at c.args.bound)) none ∙ ap first (none_fits (ahead_at Forward c.args.text.now c.args.at c.args.bound)))

pub returns-in-Some : goal.returns-in-Some
returns-in-Some g c =
    let ds = c.deref.result.now in
    let k = c.args.table in
    let l : k < length ds = search rules in
    let r : c.in-Some.search.now ≡ get_or ds k c.in-Some.search.now = search rules in
    let h : slice_get ds k ≡ Some c.in-Some.search.now = slice_get_read ds (length ds) k c.in-Some.search.now refl l r in
    let at = sym h ∙ ap (λ xs. slice_get xs k) c.deref.ensures.value in
    c.longest.ensures ∙ ap (λ o. first (fits_at (listed_by _ g.S.AmongSearch.entries g.S.AmongSearch.mode o) c.args.text.now c.args.at c.args.bound)) at
