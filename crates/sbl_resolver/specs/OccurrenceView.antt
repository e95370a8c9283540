-- An occurrence without memory addresses, and the occurrences of a part of a script, as a walk over its tree adds them.
use Rattle.std.specs.Prelude.{◌≡◌, ℕ, ◌+◌, Bool, true, false, List, map, Option}
use Rattle.std.specs.List.{fold}
use Rattle.std.specs.Option.{option_map_or}
use Rattle.sbl_ast.specs.declared.mode.Mode.TheVariants.{Backward}
use Rattle.sbl_ast.specs.declared.tree.DeclarationKind.{DeclarationKind}
use Rattle.sbl_ast.specs.declared.tree.Prefix.{Prefix}
use Rattle.sbl_ast.specs.declared.tree.Prefix.TheVariants as prefixes
use Rattle.sbl_ast.specs.declared.tree.Simple.{Simple}
use Rattle.sbl_ast.specs.Tree.{Expression, expression, Sums, no_sums, sum, Product, product, Scales, no_scales, scale, Factor, negated}
use Rattle.sbl_ast.specs.Tree.{bracketed, numeral, variable, fixed, length_of, Starter, no_starter, starter, Groups, Term, term, simple_}
use Rattle.sbl_ast.specs.Tree.{Entry}
use Rattle.sbl_ast.specs.inside.ViewParts.{view_groups}
use Rattle.sbl_ast.specs.declared.tree.Group.{Group}
use Rattle.sbl_resolver.specs.declared.occurrences.Use.TheVariants as use_as
use Rattle.sbl_resolver.specs.declared.occurrences.Notice.{Notice}
use Rattle.sbl_resolver.specs.declared.occurrences.Notice.TheVariants as notices
use Rattle.sbl_resolver.specs.declared.occurrences.Occurrence.{Occurrence}
use Rattle.sbl_resolver.specs.declared.occurrences.Site.{Site}
use Rattle.sbl_resolver.specs.Occurrences as spec

abbrev pub view_notice : Notice → spec.Notice
view_notice (notices.Declares k n) = spec.declares k n.now
view_notice (notices.DefinesRoutine n) = spec.defines_routine n.now
view_notice (notices.DefinesGrouping n) = spec.defines_grouping n.now
view_notice (notices.Uses u n) = spec.uses u n.now
view_notice notices.Substring = spec.substring
view_notice (notices.Among has_starter is_empty) = spec.among has_starter is_empty
view_notice (notices.String owner value) = spec.string owner value.now
view_notice notices.Backwards = spec.backwards
view_notice notices.RegionEnd = spec.region_end

abbrev pub view_occurrence : Occurrence → spec.Occurrence
view_occurrence m = record { site = m.site; notice = view_notice m.notice }

abbrev pub view_occurrences : List Occurrence → List spec.Occurrence
view_occurrences ms = map view_occurrence ms

-- the new occurrences are what a function of the definitions makes of the old ones
abbrev pub Adds : List Occurrence → List Occurrence → (List spec.Occurrence → List spec.Occurrence) → Type 0
Adds old new noted = view_occurrences new ≡ noted (view_occurrences old)

-- the occurrences of groups were added: with those of any strings after the groups, they are those of both
abbrev pub AddsGroups : List Occurrence → List Occurrence → List Group → ℕ → Site → Type 0
AddsGroups old new groups k p =
    (bare : List Entry) → spec.noted_entries bare k p (view_occurrences new) ≡ spec.noted_groups (view_groups groups bare) k p (view_occurrences old)

abbrev pub noted_names : DeclarationKind → List (List ℕ) → Site → List spec.Occurrence → List spec.Occurrence
noted_names k ns p sofar = fold (λ s n. spec.put (spec.declares k n) p s) sofar ns

-- ---- expressions

abbrev mutual
  pub walked_expression : Expression → Site → List spec.Occurrence → List spec.Occurrence
  walked_expression (expression x ss) p sofar = noted_sums ss p (noted_product x p sofar)

  pub noted_sums : Sums → Site → List spec.Occurrence → List spec.Occurrence
  noted_sums no_sums p sofar = sofar
  noted_sums (sum o x ss) p sofar = noted_sums ss p (noted_product x p sofar)

  pub noted_product : Product → Site → List spec.Occurrence → List spec.Occurrence
  noted_product (product f ss) p sofar = noted_scales ss p (noted_factor f p sofar)

  pub noted_scales : Scales → Site → List spec.Occurrence → List spec.Occurrence
  noted_scales no_scales p sofar = sofar
  noted_scales (scale o f ss) p sofar = noted_scales ss p (noted_factor f p sofar)

  pub noted_factor : Factor → Site → List spec.Occurrence → List spec.Occurrence
  noted_factor (negated f) p sofar = noted_factor f p sofar
  noted_factor (bracketed e) p sofar = walked_expression e p sofar
  noted_factor (numeral n) p sofar = sofar
  noted_factor (variable n) p sofar = spec.put (spec.uses use_as.Integer n) p sofar
  noted_factor (fixed c) p sofar = sofar
  noted_factor (length_of a) p sofar = spec.noted_name use_as.String a p sofar

-- ---- parts of commands and of groupings

abbrev pub noted_simple : Simple → Site → List spec.Occurrence → List spec.Occurrence
noted_simple s p sofar = spec.noted_command (simple_ s) p sofar

abbrev pub noted_prefix : Prefix → Site → List spec.Occurrence → List spec.Occurrence
noted_prefix prefixes.Backwards p sofar = spec.put spec.backwards p sofar
noted_prefix _ p sofar = sofar

-- the site of a command after a prefix
abbrev pub site_after : Prefix → Site → Site
site_after prefixes.Backwards p = record { item = p.item; mode = Backward }
site_after _ p = p

abbrev pub noted_condition : Option (List ℕ) → Site → List spec.Occurrence → List spec.Occurrence
noted_condition c p sofar = option_map_or (λ n. spec.put (spec.uses use_as.Condition n) p sofar) c sofar

abbrev pub has_starter : Starter → Bool
has_starter no_starter = false
has_starter (starter rs) = true

abbrev pub noted_starter : Starter → Site → List spec.Occurrence → List spec.Occurrence
noted_starter no_starter p sofar = sofar
noted_starter (starter rs) p sofar = spec.put spec.region_end p (spec.noted_rows rs p sofar)

abbrev pub noted_among : Starter → Groups → Site → List spec.Occurrence → List spec.Occurrence
noted_among s gs p sofar =
    spec.noted_groups gs (spec.amongs_in sofar 0 + 1) p (noted_starter s p (spec.put (spec.among (has_starter s) (spec.is_empty gs)) p sofar))

abbrev pub noted_terms : List Term → Site → List spec.Occurrence → List spec.Occurrence
noted_terms ts p sofar = fold (λ s x. elim x [ term o a ↦ spec.noted_name use_as.Term a p s ]) sofar ts
