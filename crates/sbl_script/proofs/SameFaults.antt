-- What decides the fault of an occurrence, and which item it tells.
use Rattle.std.proofs.Common.{◌≡◌, ℕ, Bool, true, false, not, cond, ◌&&◌, List, Option, Some, None, is_some, refl, ap, subst, ◌∙◌}
use Rattle.sbl_text.specs.declared.fault.ScriptFault.{ScriptFault}
use Rattle.sbl_text.specs.declared.fault.ScriptFault.TheVariants as fault
use Rattle.sbl_ast.specs.declared.tree.DeclarationKind.{DeclarationKind}
use Rattle.sbl_ast.specs.declared.mode.Mode.TheVariants.{Backward}
use Rattle.sbl_resolver.specs.declared.occurrences.Site.{Site}
use Rattle.sbl_resolver.specs.declared.occurrences.Use.{Use}
use Rattle.sbl_resolver.specs.Occurrences.{Occurrence, Notice, declares, defines_routine, defines_grouping, uses, substring, among, string, backwards, region_end}
use Rattle.sbl_resolver.specs.Checks.{kind_of, definition_of, is_mode, is_routine, is_grouping, may_be, is_earlier, lacks_definition, is_followed, is_awaited, fault_at, fault_of_use, fault_of_definition}
use Rattle.sbl_resolver.specs.inside.CheckParts.{is_some_and, is_in_other, has_text}
use Rattle.sbl_script.specs.OnlyTheItem.{item_of}

-- ---- what decides the fault

-- the same is known in both places
pub record Same (all after before : List Occurrence) (all' after' before' : List Occurrence) (m : Occurrence) : Type 0 where
  pub kinds : (n : List ℕ) → kind_of n before ≡ kind_of n before'
  pub definitions : (n : List ℕ) → definition_of n all ≡ definition_of n all'
  pub followed : m.notice ≡ substring → is_followed m.site.mode after ≡ is_followed m.site.mode after'
  pub awaited : is_awaited before false ≡ is_awaited before' false
  pub texts : (k : ℕ) (t : List ℕ) → has_text m.site.item k t before ≡ has_text m.site.item k t before'

module _ (all after before all' after' before' : List Occurrence) (p : Site) where
  abbrev at_notice : Notice → Occurrence
  at_notice n = record { site = p; notice = n }

  abbrev IsSame : Notice → Type 0
  IsSame n = fault_at all before (at_notice n) after ≡ fault_at all' before' (at_notice n) after'

  by_notice : (n : Notice) → Same all after before all' after' before' (at_notice n) → IsSame n
  by_notice (declares k n) s = ap (λ (o : Option DeclarationKind). cond (is_some o) (Some (fault.DeclaredTwice p.item)) None) (s.kinds n)
  by_notice (defines_routine n) s =
      ap (λ (o : Option DeclarationKind). fault_of_definition p.item is_routine o (definition_of n all)) (s.kinds n) ∙ ap (λ (o : Option Site). fault_of_definition p.item is_routine (kind_of n before') o) (s.definitions n)
  by_notice (defines_grouping n) s =
      ap (λ (o : Option DeclarationKind). fault_of_definition p.item is_grouping o (definition_of n all)) (s.kinds n) ∙ ap (λ (o : Option Site). fault_of_definition p.item is_grouping (kind_of n before') o) (s.definitions n)
  by_notice (uses u n) s = ap (λ (o : Option DeclarationKind). fault_of_use p u o (definition_of n all)) (s.kinds n) ∙ ap (λ (o : Option Site). fault_of_use p u (kind_of n before') o) (s.definitions n)
  by_notice substring s = ap (λ (b : Bool). cond (not b) (Some (fault.Substring p.item)) None) (s.followed refl)
  by_notice (among has_starter is_empty) s = ap (λ (b : Bool). cond (has_starter && b) (Some (fault.Starter p.item)) (cond is_empty (Some (fault.EmptyAmong p.item)) None)) s.awaited
  by_notice (string k t) s = ap (λ (b : Bool). cond b (Some (fault.RepeatedString p.item)) None) (s.texts k t)
  by_notice backwards s = refl
  by_notice region_end s = refl

pub same_fault : (all after before all' after' before' : List Occurrence) (m : Occurrence) → Same all after before all' after' before' m → fault_at all before m after ≡ fault_at all' before' m after'
same_fault all after before all' after' before' m s = by_notice all after before all' after' before' m.site m.notice s

-- ---- the item that is told

tells : (b : Bool) (g f : ScriptFault) (rest : Option ScriptFault) (i : ℕ) → item_of g ≡ Some i → (rest ≡ Some f → item_of f ≡ Some i) → cond b (Some g) rest ≡ Some f → item_of f ≡ Some i
tells true g f rest i h more e = let same : g ≡ f = cc in subst (λ (x : ScriptFault). item_of x ≡ Some i) same h
tells false g f rest i h more e = more e

none_tells : (f : ScriptFault) (i : ℕ) → None ≡ Some f → item_of f ≡ Some i
none_tells f i e = absurd cc

definition_tells : (i : ℕ) (is_allowed : DeclarationKind → Bool) (k : Option DeclarationKind) (d : Option Site) (f : ScriptFault) → fault_of_definition i is_allowed k d ≡ Some f → item_of f ≡ Some i
definition_tells i is_allowed k d f =
    tells (not (is_some k)) (fault.Undeclared i) f _ i refl
    (tells (not (is_some_and is_allowed k)) (fault.WrongKind i) f _ i refl
    (tells (is_earlier i d) (fault.DefinedTwice i) f None i refl
    (none_tells f i)))

use_tells : (p : Site) (u : Use) (k : Option DeclarationKind) (d : Option Site) (f : ScriptFault) → fault_of_use p u k d ≡ Some f → item_of f ≡ Some p.item
use_tells p u k d f =
    tells (not (is_some k)) (fault.Undeclared p.item) f _ p.item refl
    (tells (not (is_some_and (may_be u) k)) (fault.WrongKind p.item) f _ p.item refl
    (tells (lacks_definition u p.item k d) (fault.Undefined p.item) f _ p.item refl
    (tells (is_some_and is_routine k && is_in_other p.mode d) (fault.WrongMode p.item) f None p.item refl
    (none_tells f p.item))))

notice_tells : (all before after : List Occurrence) (p : Site) (n : Notice) (f : ScriptFault) → fault_at all before (record { site = p; notice = n }) after ≡ Some f → item_of f ≡ Some p.item
notice_tells all before after p (declares k n) f = tells (is_some (kind_of n before)) (fault.DeclaredTwice p.item) f None p.item refl (none_tells f p.item)
notice_tells all before after p (defines_routine n) f = definition_tells p.item is_routine (kind_of n before) (definition_of n all) f
notice_tells all before after p (defines_grouping n) f = definition_tells p.item is_grouping (kind_of n before) (definition_of n all) f
notice_tells all before after p (uses u n) f = use_tells p u (kind_of n before) (definition_of n all) f
notice_tells all before after p substring f = tells (not (is_followed p.mode after)) (fault.Substring p.item) f None p.item refl (none_tells f p.item)
notice_tells all before after p (among has_starter is_empty) f =
    tells (has_starter && is_awaited before false) (fault.Starter p.item) f _ p.item refl
    (tells is_empty (fault.EmptyAmong p.item) f None p.item refl
    (none_tells f p.item))
notice_tells all before after p (string k t) f = tells (has_text p.item k t before) (fault.RepeatedString p.item) f None p.item refl (none_tells f p.item)
notice_tells all before after p backwards f = tells (is_mode Backward p.mode) (fault.NestedBackwards p.item) f None p.item refl (none_tells f p.item)
notice_tells all before after p region_end f = none_tells f p.item

pub item_told : (all before after : List Occurrence) (m : Occurrence) (f : ScriptFault) → fault_at all before m after ≡ Some f → item_of f ≡ Some m.site.item
item_told all before after m f = notice_tells all before after m.site m.notice f
