use Rattle.std.proofs.Common.{◌≡◌, ◌∙◌, ◌&&◌, ◌||◌, Bool, List, ℕ, ap, map, string_bytes, sym, true}
use Rattle.std.specs.List.{list_any}
use Rattle.sbl_machine.specs.BuiltFrom.{any_names}
use Rattle.sbl_machine.specs.inside.BuiltFromParts.{names}
use Rattle.sbl_machine.specs.ItemRefs.{items_of_refs}
use Rattle.sbl_semantics.specs.TouchedItems.{same_item}
use Rattle.sbl_ast.specs.NamedParts.{Grouping}
use Rattle.sbl_ast.specs.View.{view_argument, view_plain, view_term}
use Rattle.sbl_ast.specs.declared.tree.Plain as declared-plain
use Rattle.sbl_ast.specs.declared.tree.Term as declared
use Rattle.sbl_uses.specs.AddedBases.{and_terms}
use Rattle.sbl_uses.proofs.Unions.{or_both}
use Rattle.sbl_uses.proofs.touched_items.add_built_from.Goals as goal

pub returns-in_ok-add_terms : goal.returns-in_ok-add_terms
returns-in_ok-add_terms c = λ x.
    let picked = λ (k : List ℕ). same_item x (Grouping k) in
    let one = names picked (view_argument c.in-Grouping.grouping.first) in
    let others = any_names picked (map view_term c.in-Grouping.grouping.others.items) in
    let old = list_any (same_item x) (items_of_refs c.args.items.now) in
    let has : list_any (same_item (Grouping (string_bytes c.in-Grouping.grouping.name))) (items_of_refs c.args.items.now) ≡ true =
    ap (λ (n : List ℕ). list_any (same_item (Grouping n)) (items_of_refs c.args.items.now)) (sym c.deref.ensures)
    ∙ sym c.has_item.ensures ∙ c.if-has_item.true in
    c.in_ok-add_terms.ensures (same_item x)
    ∙ ap (λ (ts : List declared.Term). any_names picked (map view_term ts) || list_any (same_item x) (items_of_refs c.add_argument.new.items)) c.deref-then-has_item.ensures.value
    ∙ ap (λ (b : Bool). others || b) (c.in_ok-add_argument.ensures (same_item x))
    ∙ or_both one others old
    ∙ ap (λ (h : Bool). (h && (one || others)) || old) (sym has)
    ∙ ap (λ (p : declared-plain.Plain). and_terms (view_plain p) (λ y. list_any (same_item y) (items_of_refs c.args.items.now)) x) (sym c.in-Grouping.is)
