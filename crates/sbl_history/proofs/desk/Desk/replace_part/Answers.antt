use Rattle.std.proofs.Common.{rules, ◌≡◌, ◌∙◌, ap, IfSome, inl, subst, string_bytes}
use Rattle.sbl_history.specs.Desks.{view_text}
use Rattle.sbl_history.specs.Splicing.{Reads}
use Rattle.sbl_history.proofs.desk.Desk.replace_part.Goals as goal

-- src/desk.rt:139:5
pub returns-clause-replaces : goal.returns-clause-replaces
returns-clause-replaces g c =
    let same : c.external-external.result.now ≡ c.args.bench.now.script.external = c.external-external.ensures ∙ ap (λ s. s.external) c.script.ensures in
    inl (
      view_text c.text_in_force-kept.result,
      c.text_in_force-kept.ensures c.args.bench.now.script.external
          (subst (λ e. IfSome c.in_ok-found.found (λ f. Reads e f.text.items (string_bytes f.canonical))) same c.in_ok-found.ensures),
      (c.in_ok-replace_part.ensures.edits, record { text_is = c.note.ensures.text; rest = c.note.ensures.rest; past = search rules }),
    )
