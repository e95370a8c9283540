use Rattle.std.specs.Prelude.{Result}
use Rattle.std.proofs.Common.{◌≡◌, ℕ, ◌<◌, ◌≤◌, ◌∷◌, ◌++◌, ◌+◌, List, [], length, map, drop, true, arith, ap, sym, refl, subst, ◌∙◌}
use Rattle.std.proofs.lemmas.List.{map_push}
use Rattle.std.proofs.lemmas.Result.{err_from_is_err_and}
use Rattle.sbl_ast.specs.declared.tree.Command.{Command}
use Rattle.sbl_ast.specs.declared.tree.Entry.{Entry}
use Rattle.sbl_ast.specs.declared.tree.Group.{Group}
use Rattle.sbl_ast.specs.declared.tree.NextCommand.{NextCommand}
use Rattle.sbl_ast.specs.declared.tree.RowOfCommands.{RowOfCommands as Row}
use Rattle.sbl_ast.specs.Terminal.{Terminal}
use Rattle.sbl_ast.specs.Terminal as t
use Rattle.sbl_ast.specs.Tree as trees
use Rattle.sbl_ast.specs.Spelled as written
use Rattle.sbl_ast.specs.View as view
use Rattle.sbl_ast.specs.inside.ViewParts as view_parts
use Rattle.sbl_parser.specs.declared.role.Role.{Role}
use Rattle.sbl_parser.specs.First.{first_literal}
use Rattle.sbl_parser.specs.declared.error.ReadError.{ReadError}
use Rattle.sbl_parser.specs.Gives.{ahead, Reads}
use Rattle.sbl_parser.specs.Roles.{role_of, role_as}
use Rattle.sbl_parser.specs.Starts.{begins_command}
use Rattle.sbl_parser.specs.Steps as s
use Rattle.sbl_parser.proofs.Descent as d
use Rattle.sbl_parser.proofs.RoleTokens as of_role
use Rattle.sbl_parser.proofs.Lengths as lengths
use Rattle.sbl_parser.proofs.Turns as turns
use Rattle.sbl_ast.proofs.Views as views
use Rattle.sbl_parser.proofs.commands.+commands.Goals as goal

-- the first token of a command is this one
takes_first : (ts next : List Terminal) (x : Terminal) → of_role.is_determined x ≡ true → role_of ts ≡ role_as x → next ≡ drop 1 ts → ts ≡ x ∷ next
takes_first ts next x determined e is = d.head_of_drop ts next x (of_role.as_terminal ts x determined e) is

-- what is read after the first token is read after it
read_after : (ts next rest : List Terminal) (x : Terminal) (depth : ℕ) (result : Result Command ReadError) → ts ≡ x ∷ next → Reads (s.command depth ∷ []) (λ (c : Command). written.spelled_command (view.view_command c)) (x ∷ next) result rest → Reads (s.command depth ∷ []) (λ (c : Command). written.spelled_command (view.view_command c)) ts result rest
read_after ts next rest x depth result e h = subst (λ (r : List Terminal). Reads (s.command depth ∷ []) (λ (c : Command). written.spelled_command (view.view_command c)) r result rest) (sym e) h

pub command_of-returns-in-Non : goal.command_of-returns-in-Non
command_of-returns-in-Non t_ c = read_after _ _ _ t.non _ _ (takes_first (ahead c.args.cursor.now) (ahead c.skip-in-Non.new.self) t.non refl (c.requires.first ∙ c.in-Non.is) c.skip-in-Non.ensures) c.non.ensures

pub command_of-returns-in-Prefix : goal.command_of-returns-in-Prefix
command_of-returns-in-Prefix t_ c = read_after _ _ _ (t.prefix c.in-Prefix.prefix) _ _ (takes_first (ahead c.args.cursor.now) (ahead c.skip-in-Prefix.new.self) (t.prefix c.in-Prefix.prefix) refl (c.requires.first ∙ c.in-Prefix.is) c.skip-in-Prefix.ensures) c.prefix_command.ensures

pub command_of-returns-in-Count : goal.command_of-returns-in-Count
command_of-returns-in-Count t_ c = read_after _ _ _ (t.count c.in-Count.count) _ _ (takes_first (ahead c.args.cursor.now) (ahead c.skip-in-Count.new.self) (t.count c.in-Count.count) refl (c.requires.first ∙ c.in-Count.is) c.skip-in-Count.ensures) c.count_command.ensures

pub command_of-returns-in-Dollar : goal.command_of-returns-in-Dollar
command_of-returns-in-Dollar t_ c = read_after _ _ _ t.dollar _ _ (takes_first (ahead c.args.cursor.now) (ahead c.skip-in-Dollar.new.self) t.dollar refl (c.requires.first ∙ c.in-Dollar.is) c.skip-in-Dollar.ensures) c.dollar.ensures

pub command_of-returns-in_ok-block-in-Open : goal.command_of-returns-in_ok-block-in-Open
command_of-returns-in_ok-block-in-Open t_ c =
    let first : ahead c.args.cursor.now ≡ t.open_ ∷ ahead c.skip.new.self = takes_first (ahead c.args.cursor.now) (ahead c.skip.new.self) t.open_ refl (c.requires.first ∙ c.in-Open.is) c.skip.ensures in (
      first ∙ ap (λ (r : List Terminal). t.open_ ∷ r) c.in_ok-block-in-Open.ensures.0 ∙ ap (λ (x : trees.Command). written.spelled_command x (ahead c.block.new.cursor)) (sym (views.command_Bracket c.in_ok-block-in-Open.field-0)),
      λ k. d.goes_on (ahead c.args.cursor.now) t.open_ (ahead c.skip.new.self) (s.command c.args.depth ∷ k) (s.rows (c.args.depth + 1) ∷ s.closing c.args.depth ∷ k) c.args.depth first refl c.requires.shallow ∙ c.in_ok-block-in-Open.ensures.1 k,
    )

pub command_of-returns-in_err-block-in-Open : goal.command_of-returns-in_err-block-in-Open
command_of-returns-in_err-block-in-Open t_ c =
    let first : ahead c.args.cursor.now ≡ t.open_ ∷ ahead c.skip.new.self = takes_first (ahead c.args.cursor.now) (ahead c.skip.new.self) t.open_ refl (c.requires.first ∙ c.in-Open.is) c.skip.ensures in
    let p = err_from_is_err_and c.from_residual.result c.from_residual.ensures.1 in
    rw (p.1, p.2) (λ k. d.fails_along _ _ _ (d.goes_on (ahead c.args.cursor.now) t.open_ (ahead c.skip.new.self) (s.command c.args.depth ∷ k) (s.rows (c.args.depth + 1) ∷ s.closing c.args.depth ∷ k) c.args.depth first refl c.requires.shallow) (c.in_err-block-in-Open.ensures k))

pub command_of-returns-in_ok-expression-in-Move : goal.command_of-returns-in_ok-expression-in-Move
command_of-returns-in_ok-expression-in-Move t_ c =
    let first : ahead c.args.cursor.now ≡ t.move c.in-Move.word ∷ ahead c.skip-in-Move.new.self = takes_first (ahead c.args.cursor.now) (ahead c.skip-in-Move.new.self) (t.move c.in-Move.word) refl (c.requires.first ∙ c.in-Move.is) c.skip-in-Move.ensures in (
      first ∙ ap (λ (r : List Terminal). t.move c.in-Move.word ∷ r) c.in_ok-expression-in-Move.ensures.0 ∙ ap (λ (x : trees.Command). written.spelled_command x (ahead c.expression.new.cursor)) (sym (views.command_Move c.in-Move.word c.in_ok-expression-in-Move.field-0)),
      λ k. d.goes_on (ahead c.args.cursor.now) (t.move c.in-Move.word) (ahead c.skip-in-Move.new.self) (s.command c.args.depth ∷ k) (s.expression c.args.depth k) c.args.depth first refl c.requires.shallow ∙ c.in_ok-expression-in-Move.ensures.1 k,
    )

pub command_of-returns-in_err-expression-in-Move : goal.command_of-returns-in_err-expression-in-Move
command_of-returns-in_err-expression-in-Move t_ c =
    let first : ahead c.args.cursor.now ≡ t.move c.in-Move.word ∷ ahead c.skip-in-Move.new.self = takes_first (ahead c.args.cursor.now) (ahead c.skip-in-Move.new.self) (t.move c.in-Move.word) refl (c.requires.first ∙ c.in-Move.is) c.skip-in-Move.ensures in
    let p = err_from_is_err_and c.from_residual-in_err-expression-in-Move.result c.from_residual-in_err-expression-in-Move.ensures.1 in
    rw (p.1, p.2) (λ k. d.fails_along _ _ _ (d.goes_on (ahead c.args.cursor.now) (t.move c.in-Move.word) (ahead c.skip-in-Move.new.self) (s.command c.args.depth ∷ k) (s.expression c.args.depth k) c.args.depth first refl c.requires.shallow) (c.in_err-expression-in-Move.ensures k))

pub command_of-returns-in_ok-name-in-Naming : goal.command_of-returns-in_ok-name-in-Naming
command_of-returns-in_ok-name-in-Naming t_ c =
    let first : ahead c.args.cursor.now ≡ t.naming c.in-Naming.word ∷ ahead c.skip-in-Naming.new.self = takes_first (ahead c.args.cursor.now) (ahead c.skip-in-Naming.new.self) (t.naming c.in-Naming.word) refl (c.requires.first ∙ c.in-Naming.is) c.skip-in-Naming.ensures in (
      first ∙ ap (λ (r : List Terminal). t.naming c.in-Naming.word ∷ r) c.in_ok-name-in-Naming.ensures.0 ∙ ap (λ (x : trees.Command). written.spelled_command x (ahead c.name.new.cursor)) (sym (views.command_Named c.in-Naming.word c.in_ok-name-in-Naming.field-0)),
      λ k. d.goes_on (ahead c.args.cursor.now) (t.naming c.in-Naming.word) (ahead c.skip-in-Naming.new.self) (s.command c.args.depth ∷ k) (s.name c.args.depth ∷ k) c.args.depth first refl c.requires.shallow ∙ c.in_ok-name-in-Naming.ensures.1 k,
    )

pub command_of-returns-in_err-name-in-Naming : goal.command_of-returns-in_err-name-in-Naming
command_of-returns-in_err-name-in-Naming t_ c =
    let first : ahead c.args.cursor.now ≡ t.naming c.in-Naming.word ∷ ahead c.skip-in-Naming.new.self = takes_first (ahead c.args.cursor.now) (ahead c.skip-in-Naming.new.self) (t.naming c.in-Naming.word) refl (c.requires.first ∙ c.in-Naming.is) c.skip-in-Naming.ensures in
    let p = err_from_is_err_and c.from_residual-in_err-name-in-Naming.result c.from_residual-in_err-name-in-Naming.ensures.1 in
    rw (p.1, p.2) (λ k. d.fails_along _ _ _ (d.goes_on (ahead c.args.cursor.now) (t.naming c.in-Naming.word) (ahead c.skip-in-Naming.new.self) (s.command c.args.depth ∷ k) (s.name c.args.depth ∷ k) c.args.depth first refl c.requires.shallow) (c.in_err-name-in-Naming.ensures k))

pub command_of-returns-in_ok-argument-in-Splice : goal.command_of-returns-in_ok-argument-in-Splice
command_of-returns-in_ok-argument-in-Splice t_ c =
    let first : ahead c.args.cursor.now ≡ t.edit c.in-Splice.word ∷ ahead c.skip-in-Splice.new.self = takes_first (ahead c.args.cursor.now) (ahead c.skip-in-Splice.new.self) (t.edit c.in-Splice.word) refl (c.requires.first ∙ c.in-Splice.is) c.skip-in-Splice.ensures in (
      first ∙ ap (λ (r : List Terminal). t.edit c.in-Splice.word ∷ r) c.in_ok-argument-in-Splice.ensures.0 ∙ ap (λ (x : trees.Command). written.spelled_command x (ahead c.argument.new.cursor)) (sym (views.command_Edit c.in-Splice.word c.in_ok-argument-in-Splice.field-0)),
      λ k. d.goes_on (ahead c.args.cursor.now) (t.edit c.in-Splice.word) (ahead c.skip-in-Splice.new.self) (s.command c.args.depth ∷ k) (s.argument c.args.depth ∷ k) c.args.depth first refl c.requires.shallow ∙ c.in_ok-argument-in-Splice.ensures.1 k,
    )

pub command_of-returns-in_err-argument-in-Splice : goal.command_of-returns-in_err-argument-in-Splice
command_of-returns-in_err-argument-in-Splice t_ c =
    let first : ahead c.args.cursor.now ≡ t.edit c.in-Splice.word ∷ ahead c.skip-in-Splice.new.self = takes_first (ahead c.args.cursor.now) (ahead c.skip-in-Splice.new.self) (t.edit c.in-Splice.word) refl (c.requires.first ∙ c.in-Splice.is) c.skip-in-Splice.ensures in
    let p = err_from_is_err_and c.from_residual-in_err-argument-in-Splice.result c.from_residual-in_err-argument-in-Splice.ensures.1 in
    rw (p.1, p.2) (λ k. d.fails_along _ _ _ (d.goes_on (ahead c.args.cursor.now) (t.edit c.in-Splice.word) (ahead c.skip-in-Splice.new.self) (s.command c.args.depth ∷ k) (s.argument c.args.depth ∷ k) c.args.depth first refl c.requires.shallow) (c.in_err-argument-in-Splice.ensures k))

pub command_of-returns-in_err-among-in-Among : goal.command_of-returns-in_err-among-in-Among
command_of-returns-in_err-among-in-Among t_ c =
    let p = err_from_is_err_and c.from_residual-in_err-among-in-Among.result c.from_residual-in_err-among-in-Among.ensures.1 in
    rw (p.1, p.2) (λ k. d.fails_along _ _ _ (d.among_first (ahead c.args.cursor.now) c.args.depth k (c.requires.first ∙ c.in-Among.is)) (c.in_err-among-in-Among.ensures k))

pub rows-returns-in-Err : goal.rows-returns-in-Err
rows-returns-in-Err t_ c =
    let begun : begins_command (role_of (ahead c.loop-cursor.cursor)) ≡ true = sym (c.begins_command.ensures ∙ ap (λ (r : Role). begins_command r) c.role.ensures) ∙ c.loop-cursor-test.true in
    λ k. d.fails_along _ _ _ (c.loop-cursor.invariant.faults k ∙ d.row_first (ahead c.loop-cursor.cursor) c.args.depth k begun) (c.in-Err.ensures (s.rows c.args.depth ∷ k))

pub rows-loop-cursor-preserved : goal.rows-loop-cursor-preserved
rows-loop-cursor-preserved t_ c =
    let begun : begins_command (role_of (ahead c.loop-cursor.cursor)) ≡ true = sym (c.begins_command.ensures ∙ ap (λ (r : Role). begins_command r) c.role.ensures) ∙ c.loop-cursor-test.true in
    let last : view.RowView = view.view_row c.in-Ok.item in
    let more : map view.view_row c.push.new.self.items ≡ map view.view_row c.loop-cursor.rows.items ++ last ∷ [] = ap (λ (xs : List Row). map view.view_row xs) c.in-Ok-push.ensures.items ∙ map_push view.view_row c.loop-cursor.rows.items _ in
    record {
      spelled = c.loop-cursor.invariant.spelled ∙ ap (λ (r : List Terminal). written.spelled_rows (view.rows_of (map view.view_row c.loop-cursor.rows.items)) r) c.in-Ok.ensures.0 ∙ sym (turns.rows_push (map view.view_row c.loop-cursor.rows.items) last (ahead c.row.new.cursor)) ∙ ap (λ (xs : List view.RowView). written.spelled_rows (view.rows_of xs) (ahead c.row.new.cursor)) (sym more);
      faults = λ k. c.loop-cursor.invariant.faults k ∙ d.row_first (ahead c.loop-cursor.cursor) c.args.depth k begun ∙ c.in-Ok.ensures.1 (s.rows c.args.depth ∷ k);
    }

pub rows-loop-cursor-smaller : goal.rows-loop-cursor-smaller
rows-loop-cursor-smaller t_ c =
    let row : view.RowView = view.view_row c.in-Ok.item in
    let next : List Terminal = ahead c.row.new.cursor in
    subst (λ (r : List Terminal). length (ahead c.row.new.cursor) < length r) (sym c.in-Ok.ensures.0) (turns.through (written.spelled_command row.0 (written.spelled_others row.1 next)) (written.spelled_others row.1 next) next (lengths.tree_length row.0 (written.spelled_others row.1 next)) (lengths.others_length row.1 next))

pub row-loop-joiner-smaller : goal.row-loop-joiner-smaller
row-loop-joiner-smaller t_ c = turns.shorter (ahead c.loop-joiner.cursor) (ahead c.command-in-Joiner.new.cursor) (ahead c.skip.new.self) c.skip.ensures (subst (λ (r : List Terminal). length (ahead c.command-in-Joiner.new.cursor) < length r) (sym c.in-Ok.ensures.gives.0) (lengths.tree_length (view.view_command c.in-Ok.command) (ahead c.command-in-Joiner.new.cursor)))

pub row-loop-joiner-preserved : goal.row-loop-joiner-preserved
row-loop-joiner-preserved t_ c =
    let first : ahead c.loop-joiner.cursor ≡ t.joiner c.in-Joiner.joiner ∷ ahead c.skip.new.self = d.head_of_drop (ahead c.loop-joiner.cursor) (ahead c.skip.new.self) (t.joiner c.in-Joiner.joiner) (of_role.as_terminal (ahead c.loop-joiner.cursor) (t.joiner c.in-Joiner.joiner) refl (sym c.role.ensures ∙ c.in-Joiner.is)) c.skip.ensures in
    let last : view_parts.NextCommandView = (c.in-Joiner.joiner, view.view_command c.in-Ok.command) in
    let more : map view_parts.view_next_command c.push.new.self.items ≡ map view_parts.view_next_command c.loop-joiner.others.items ++ last ∷ [] = ap (λ (xs : List NextCommand). map view_parts.view_next_command xs) c.in-Ok-push.ensures.items ∙ map_push view_parts.view_next_command c.loop-joiner.others.items _ ∙ ap (λ (x : view_parts.NextCommandView). map view_parts.view_next_command c.loop-joiner.others.items ++ x ∷ []) (views.view_of_next_command (record { joiner = c.in-Joiner.joiner; command = c.in-Ok.command })) in
    record {
      shallow = c.loop-joiner.invariant.shallow;
      spelled = turns.next_joined (written.spelled_command (view.view_command _)) (map view_parts.view_next_command c.loop-joiner.others.items) (map view_parts.view_next_command c.push.new.self.items) last _ (ahead c.loop-joiner.cursor) (ahead c.command-in-Joiner.new.cursor) c.loop-joiner.invariant.spelled (first ∙ ap (λ (r : List Terminal). t.joiner c.in-Joiner.joiner ∷ r) c.in-Ok.ensures.gives.0) more;
      faults = λ k. c.loop-joiner.invariant.faults k ∙ d.goes_on (ahead c.loop-joiner.cursor) (t.joiner c.in-Joiner.joiner) (ahead c.skip.new.self) (s.others c.args.depth ∷ k) (s.command c.args.depth ∷ s.others c.args.depth ∷ k) c.args.depth first refl c.loop-joiner.invariant.shallow ∙ c.in-Ok.ensures.gives.1 (s.others c.args.depth ∷ k);
    }

pub groups-loop-cursor-preserved : goal.groups-loop-cursor-preserved
groups-loop-cursor-preserved t_ c =
    let now : List Terminal = ahead c.loop-cursor.cursor in
    let first : ahead c.loop-cursor.cursor ≡ t.literal (first_literal c.loop-cursor.cursor.tokens.now) ∷ drop 1 (ahead c.loop-cursor.cursor) = of_role.as_literal c.loop-cursor.cursor.tokens.now (sym c.role.ensures ∙ c.in-Literal.is) in
    let second : ahead c.entries.new.cursor ≡ t.open_ ∷ ahead c.skip.new.self = d.head_of_drop (ahead c.entries.new.cursor) (ahead c.skip.new.self) t.open_ (of_role.as_terminal (ahead c.entries.new.cursor) t.open_ refl (sym c.role-in-Literal.ensures ∙ c.in-Open.is)) c.skip.ensures in
    let last : view.GroupView = record { first = view.view_entry c.in_ok-first.first; others = map view.view_entry c.in_ok-others.others.items; rows = view_parts.view_rows c.in_ok-rows-in-Open.rows.items } in
    let more : map view_parts.view_group c.push.new.self.items ≡ map view_parts.view_group c.loop-cursor.groups.items ++ last ∷ [] = ap (λ (xs : List Group). map view_parts.view_group xs) c.in_ok-push-in-Open.ensures.items ∙ map_push view_parts.view_group c.loop-cursor.groups.items _ ∙ ap (λ (x : view.GroupView). map view_parts.view_group c.loop-cursor.groups.items ++ x ∷ []) (views.view_of_group (record { first = c.in_ok-first.first; others = c.in_ok-others.others; rows = c.in_ok-rows-in-Open.rows })) in
    record {
      spelled = c.loop-cursor.invariant.spelled ∙ ap (λ (r : List Terminal). written.spelled_groups (view_parts.groups_of (map view_parts.view_group c.loop-cursor.groups.items) []) r) (c.in_ok-first.ensures.spelled ∙ ap (λ (r : List Terminal). written.spelled_entry (view.view_entry c.in_ok-first.first) r) (c.in_ok-others.ensures.spelled ∙ ap (λ (r : List Terminal). written.spelled_entries (map view.view_entry c.in_ok-others.others.items) r) (second ∙ ap (λ (r : List Terminal). t.open_ ∷ r) c.in_ok-rows-in-Open.ensures.0))) ∙ sym (turns.groups_push (map view_parts.view_group c.loop-cursor.groups.items) last (ahead c.block.new.cursor)) ∙ ap (λ (xs : List view.GroupView). written.spelled_groups (view_parts.groups_of xs []) (ahead c.block.new.cursor)) (sym more);
      faults = λ k. c.loop-cursor.invariant.faults k ∙ d.goes_on now (t.literal (first_literal c.loop-cursor.cursor.tokens.now)) (drop 1 now) (s.groups c.args.depth ∷ k) (s.condition c.args.depth ∷ s.entries c.args.depth ∷ k) c.args.depth first refl (omega arith) ∙ c.in_ok-first.ensures.faults (s.entries c.args.depth ∷ k) ∙ c.in_ok-others.ensures.faults k ∙ d.goes_on (ahead c.entries.new.cursor) t.open_ (ahead c.skip.new.self) (s.entries c.args.depth ∷ k) (s.rows (c.args.depth + 1 + 1) ∷ s.closing (c.args.depth + 1) ∷ s.groups c.args.depth ∷ k) (c.args.depth + 1) second refl (omega arith) ∙ c.in_ok-rows-in-Open.ensures.1 (s.groups c.args.depth ∷ k);
    }

pub groups-loop-cursor-smaller : goal.groups-loop-cursor-smaller
groups-loop-cursor-smaller t_ c =
    turns.through (ahead c.loop-cursor.cursor) (ahead c.entry.new.cursor) (ahead c.block.new.cursor) (subst (λ (r : List Terminal). length (ahead c.entry.new.cursor) < length r) (sym c.in_ok-first.ensures.spelled) (lengths.entry_length (view.view_entry c.in_ok-first.first) (ahead c.entry.new.cursor)))
    (turns.far (ahead c.entry.new.cursor) (ahead c.entries.new.cursor) (ahead c.skip.new.self) (ahead c.block.new.cursor) (subst (λ (r : List Terminal). length (ahead c.entries.new.cursor) ≤ length r) (sym c.in_ok-others.ensures.spelled) (lengths.entries_length (map view.view_entry c.in_ok-others.others.items) (ahead c.entries.new.cursor))) c.skip.ensures
    (subst (λ (r : List Terminal). length (t.close_ ∷ ahead c.block.new.cursor) ≤ length r) (sym c.in_ok-rows-in-Open.ensures.0) (lengths.rows_length (view_parts.view_rows c.in_ok-rows-in-Open.rows.items) (t.close_ ∷ ahead c.block.new.cursor))))

pub groups-returns-in_default-role : goal.groups-returns-in_default-role
groups-returns-in_default-role t_ c =
    let now : List Terminal = ahead c.loop-cursor.cursor in
    let first : ahead c.loop-cursor.cursor ≡ t.literal (first_literal c.loop-cursor.cursor.tokens.now) ∷ drop 1 (ahead c.loop-cursor.cursor) = of_role.as_literal c.loop-cursor.cursor.tokens.now (sym c.role.ensures ∙ c.in-Literal.is) in
    let same : map view.view_entry c.insert.new.self.items ≡ view.view_entry c.in_ok-first.first ∷ map view.view_entry c.in_ok-others.others.items = ap (λ (xs : List Entry). map view.view_entry xs) c.in_ok-insert-in_default-role.ensures.items in (
      c.loop-cursor.invariant.spelled ∙ ap (λ (r : List Terminal). written.spelled_groups (view_parts.groups_of (map view_parts.view_group c.loop-cursor.groups.items) []) r) (c.in_ok-first.ensures.spelled ∙ ap (λ (r : List Terminal). written.spelled_entry (view.view_entry c.in_ok-first.first) r) c.in_ok-others.ensures.spelled) ∙ sym (turns.groups_bare (map view_parts.view_group c.loop-cursor.groups.items) (view.view_entry c.in_ok-first.first ∷ map view.view_entry c.in_ok-others.others.items) (ahead c.entries.new.cursor)) ∙ ap (λ (xs : List trees.Entry). written.spelled_groups (view_parts.groups_of (map view_parts.view_group c.loop-cursor.groups.items) xs) (ahead c.entries.new.cursor)) (sym same),
      λ k. c.loop-cursor.invariant.faults k ∙ d.goes_on now (t.literal (first_literal c.loop-cursor.cursor.tokens.now)) (drop 1 now) (s.groups c.args.depth ∷ k) (s.condition c.args.depth ∷ s.entries c.args.depth ∷ k) c.args.depth first refl (omega arith) ∙ c.in_ok-first.ensures.faults (s.entries c.args.depth ∷ k) ∙ c.in_ok-others.ensures.faults k ∙ d.skips_entries (ahead c.entries.new.cursor) c.args.depth k c.in_ok-others.ensures.ended (λ e. c.in_default-role.not-Open (c.role-in-Literal.ensures ∙ e)),
    )
