use Rattle.std.proofs.Common.{◌≡◌, ℕ, List, Option, length, sym, subst}
use Rattle.std.proofs.Props.{props}
use mathlib.Core.Logic.{∥∥₁_elim, ∥∥₁_map}
use Rattle.sbl_ast.specs.declared.mode.Mode.{Mode}
use Rattle.sbl_semantics.specs.Fitting.{read_as}
use Rattle.sbl_program.specs.Best.{IsBest}
use Rattle.sbl_program.specs.Keys.{AreKeys}
use Rattle.sbl_program.specs.Linked.{GoDown, IsLinked, Rise, Row, texts_of}
use Rattle.sbl_program.specs.LinkedStrings.{strings_of}
use Rattle.sbl_program.proofs.linked.LinkedTable.best.Goals as goal

-- ---- what the table keeps, of its slices

keys_of_rows : (rows rs : List Row) (keys ks : List ℕ) → ∥ AreKeys (texts_of rows) keys ∥₁ → rs ≡ rows → ks ≡ keys → AreKeys (texts_of rs) ks
keys_of_rows rows rs keys ks are same_rows same_keys = ∥∥₁_elim are (Prim.hlevel props) (λ a. rw same_rows (rw same_keys a))

down : (strings : List (List ℕ)) (rows : List Row) (links ls : List (Option ℕ)) → ∥ IsLinked strings rows links ∥₁ → ls ≡ links → GoDown ls
down strings rows links ls linked same = ∥∥₁_elim linked (Prim.hlevel props) (λ l. rw same l.down)

long : (strings : List (List ℕ)) (rows rs : List Row) (links ls : List (Option ℕ)) → ∥ IsLinked strings rows links ∥₁ → rs ≡ rows → ls ≡ links → length ls ≡ length rs
long strings rows rs links ls linked same_rows same_links = ∥∥₁_elim linked (Prim.hlevel props) (λ l. rw same_rows (rw same_links l.long))

rise : (strings : List (List ℕ)) (rows rs : List Row) (links : List (Option ℕ)) → ∥ IsLinked strings rows links ∥₁ → rs ≡ rows → Rise (texts_of rs)
rise strings rows rs links linked same = ∥∥₁_elim linked (Prim.hlevel props) (λ l. rw same l.rows_are.rise)

pub best_of-requires-clause-keyed : goal.best_of-requires-clause-keyed
best_of-requires-clause-keyed c = keys_of_rows c.args.self.now.rows.items c.deref.result.now c.args.self.now.keys.items c.deref-in-Forward.result.now c.args.self.now.keyed c.deref.ensures.value c.deref-in-Forward.ensures.value

pub best_of-requires-clause-down : goal.best_of-requires-clause-down
best_of-requires-clause-down c = down (strings_of c.args.self.now) c.args.self.now.rows.items c.args.self.now.links.items c.deref-in-Forward-2.result.now c.args.self.now.linked c.deref-in-Forward-2.ensures.value

pub best_of-requires-clause-long : goal.best_of-requires-clause-long
best_of-requires-clause-long c = long (strings_of c.args.self.now) c.args.self.now.rows.items c.deref.result.now c.args.self.now.links.items c.deref-in-Forward-2.result.now c.args.self.now.linked c.deref.ensures.value c.deref-in-Forward-2.ensures.value

pub best_of-requires-clause-rise : goal.best_of-requires-clause-rise
best_of-requires-clause-rise c = rise (strings_of c.args.self.now) c.args.self.now.rows.items c.deref.result.now c.args.self.now.links.items c.args.self.now.linked c.deref.ensures.value

pub best_of-requires-in-Backward-clause-keyed : goal.best_of-requires-in-Backward-clause-keyed
best_of-requires-in-Backward-clause-keyed c = keys_of_rows c.args.self.now.rows.items c.deref-in-Backward.result.now c.args.self.now.keys.items c.deref-in-Backward-2.result.now c.args.self.now.keyed c.deref-in-Backward.ensures.value c.deref-in-Backward-2.ensures.value

pub best_of-requires-in-Backward-clause-down : goal.best_of-requires-in-Backward-clause-down
best_of-requires-in-Backward-clause-down c = down (strings_of c.args.self.now) c.args.self.now.rows.items c.args.self.now.links.items c.deref-in-Backward-3.result.now c.args.self.now.linked c.deref-in-Backward-3.ensures.value

pub best_of-requires-in-Backward-clause-long : goal.best_of-requires-in-Backward-clause-long
best_of-requires-in-Backward-clause-long c = long (strings_of c.args.self.now) c.args.self.now.rows.items c.deref-in-Backward.result.now c.args.self.now.links.items c.deref-in-Backward-3.result.now c.args.self.now.linked c.deref-in-Backward.ensures.value c.deref-in-Backward-3.ensures.value

pub best_of-requires-in-Backward-clause-rise : goal.best_of-requires-in-Backward-clause-rise
best_of-requires-in-Backward-clause-rise c = rise (strings_of c.args.self.now) c.args.self.now.rows.items c.deref-in-Backward.result.now c.args.self.now.links.items c.args.self.now.linked c.deref-in-Backward.ensures.value

pub returns-in-Forward : goal.returns-in-Forward
returns-in-Forward c =
    let s = c.args.self.now in
    ∥∥₁_map s.linked (λ linked.
    let there : IsLinked (strings_of s) c.deref.result.now c.deref-in-Forward-2.result.now = rw c.deref.ensures.value (rw c.deref-in-Forward-2.ensures.value linked) in
    subst (λ (m : Mode). IsBest (strings_of s) (read_as m c.args.part.now) c.args.below c.best_of.result) (sym c.in-Forward.is) (c.best_of.ensures (strings_of s) there))

pub returns-in-Backward : goal.returns-in-Backward
returns-in-Backward c =
    let s = c.args.self.now in
    ∥∥₁_map s.linked (λ linked.
    let there : IsLinked (strings_of s) c.deref-in-Backward.result.now c.deref-in-Backward-3.result.now = rw c.deref-in-Backward.ensures.value (rw c.deref-in-Backward-3.ensures.value linked) in
    subst (λ (m : Mode). IsBest (strings_of s) (read_as m c.args.part.now) c.args.below c.best_of-in-Backward.result) (sym c.in-Backward.is) (c.best_of-in-Backward.ensures (strings_of s) there))
