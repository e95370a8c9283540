use Rattle.std.proofs.Common.{◌≡◌, ◌≤◌, ◌<◌, ◌++◌, ◌∷◌, [], List, ℕ, rules, arith, length, get_or, refl, sym, ap, ◌∙◌, Some, None}
use Rattle.std.specs.Prelude.{slice_get}
use Rattle.std.proofs.lemmas.Option.{slice_get_read, slice_get_past}
use Rattle.sbl_semantics.specs.Fitting.{ahead_at}
use Rattle.sbl_program.specs.Listing.{fits_at, listed_by}
use Rattle.sbl_ast.specs.declared.mode.Mode.TheVariants.{Forward}
use Rattle.sbl_run_state.proofs.Nothing.{none_fits}
use Rattle.sbl_run_state.proofs.table.TableListTables.next_shorter.Goals as goal

empty_cut : (i : ℕ) (before rest : List ℕ) → [] ≡ before ++ (i ∷ rest) → ⊥
empty_cut i [] rest e = cc
empty_cut i (b ∷ before) rest e = cc

pub returns-in-None : goal.returns-in-None
returns-in-None g c text at bound before rest cut =
    let items = c.args.self.now.tables.items in
    let k = c.args.table in
    let past : length c.deref.result.now ≤ k = first_of (search rules, omega (arith, c.in-None.ensures.lookup)) in
    let n : length c.deref.result.now ≡ length items = ap length c.deref.ensures.value in
    let none : slice_get items k ≡ None = slice_get_past items k (omega arith) in
    let is : fits_at (listed_by _ g.S.AmongSearch.entries g.S.AmongSearch.mode (slice_get items k)) text at bound ≡ [] = ap (λ o. fits_at (listed_by _ g.S.AmongSearch.entries g.S.AmongSearch.mode o) text at bound) none ∙ none_fits (ahead_at Forward text at bound) in
    absurd (empty_cut c.args.i before rest (sym is ∙ cut))

pub returns-in-Some : goal.returns-in-Some
returns-in-Some g c text at bound before rest cut =
    let ds = c.deref.result.now in
    let k = c.args.table in
    let t = c.in-Some.search.now in
    let l : k < length ds = search rules in
    let r : t ≡ get_or ds k t = search rules in
    let h : slice_get ds k ≡ Some t = slice_get_read ds (length ds) k t refl l r in
    let at_k = sym h ∙ ap (λ xs. slice_get xs k) c.deref.ensures.value in
    c.next_shorter.ensures (ahead_at (g.S.AmongSearch.mode t) text at bound) before rest (ap (λ o. fits_at (listed_by _ g.S.AmongSearch.entries g.S.AmongSearch.mode o) text at bound) at_k ∙ cut)
