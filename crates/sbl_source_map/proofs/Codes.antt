-- Which faults are those of a check at a token.
use Rattle.std.proofs.Common.{◌≡◌, ℕ, Bool, true, false, not, ◌&&◌, List, Option, Some, None, is_some, refl, sym, ap, ◌∙◌, inl, inr, if◌then◌else◌}
use Rattle.sbl_text.specs.declared.fault.ScriptFault.{ScriptFault}
use Rattle.sbl_text.specs.declared.fault.ScriptFault.TheVariants as fault
use Rattle.sbl_text.specs.Directives.{Directives}
use Rattle.sbl_text.specs.Tokens.{PlacedToken}
use Rattle.sbl_ast.specs.Texts.{Text}
use Rattle.sbl_ast.specs.declared.mode.Mode.TheVariants.{Backward}
use Rattle.sbl_ast.specs.declared.tree.DeclarationKind.{DeclarationKind}
use Rattle.sbl_resolver.specs.declared.occurrences.Site.{Site}
use Rattle.sbl_resolver.specs.declared.occurrences.Use.{Use}
use Rattle.sbl_resolver.specs.Occurrences.{Occurrence, Notice, declares, defines_routine, defines_grouping, uses, substring, among, string, backwards, region_end}
use Rattle.sbl_resolver.specs.Checks as checks
use Rattle.sbl_resolver.specs.inside.CheckParts as check_parts
use Rattle.sbl_script.specs.Reading.{IsTextFault, IsUnread}
use Rattle.sbl_source_map.specs.FaultPlaces.{is_of_token}
use Rattle.sbl_source_map.proofs.PlacedFaults.{is_placed, of_grammar, of_tokens}

-- ---- the faults of an occurrence

one : (b : Bool) (x : ScriptFault) (rest : Option ScriptFault) (f : ScriptFault) → is_of_token x ≡ true → (rest ≡ Some f → is_of_token f ≡ true) → (if b then Some x else rest) ≡ Some f → is_of_token f ≡ true
one true x rest f h more e = let same : x ≡ f = cc in ap is_of_token (sym same) ∙ h
one false x rest f h more e = more e

none : (f : ScriptFault) → None ≡ Some f → is_of_token f ≡ true
none f e = absurd cc

of_definition : (i : ℕ) (is_allowed : DeclarationKind → Bool) (k : Option DeclarationKind) (d : Option Site) (f : ScriptFault) → checks.fault_of_definition i is_allowed k d ≡ Some f → is_of_token f ≡ true
of_definition i is_allowed k d f =
    one (not (is_some k)) (fault.Undeclared i) _ f refl (
    one (not (check_parts.is_some_and is_allowed k)) (fault.WrongKind i) _ f refl (
    one (checks.is_earlier i d) (fault.DefinedTwice i) None f refl (
    none f)))

of_use : (p : Site) (u : Use) (k : Option DeclarationKind) (d : Option Site) (f : ScriptFault) → checks.fault_of_use p u k d ≡ Some f → is_of_token f ≡ true
of_use p u k d f =
    one (not (is_some k)) (fault.Undeclared p.item) _ f refl (
    one (not (check_parts.is_some_and (checks.may_be u) k)) (fault.WrongKind p.item) _ f refl (
    one (checks.lacks_definition u p.item k d) (fault.Undefined p.item) _ f refl (
    one (check_parts.is_some_and checks.is_routine k && check_parts.is_in_other p.mode d) (fault.WrongMode p.item) None f refl (
    none f))))

of_notice : (all before after : List Occurrence) (p : Site) (n : Notice) (f : ScriptFault) → checks.fault_at all before (record { site = p; notice = n }) after ≡ Some f → is_of_token f ≡ true
of_notice all before after p (declares k n) f = one (is_some (checks.kind_of n before)) (fault.DeclaredTwice p.item) None f refl (none f)
of_notice all before after p (defines_routine n) f = of_definition p.item checks.is_routine (checks.kind_of n before) (checks.definition_of n all) f
of_notice all before after p (defines_grouping n) f = of_definition p.item checks.is_grouping (checks.kind_of n before) (checks.definition_of n all) f
of_notice all before after p (uses u n) f = of_use p u (checks.kind_of n before) (checks.definition_of n all) f
of_notice all before after p substring f = one (not (checks.is_followed p.mode after)) (fault.Substring p.item) None f refl (none f)
of_notice all before after p (among has_starter is_empty) f =
    one (has_starter && checks.is_awaited before false) (fault.Starter p.item) _ f refl (one is_empty (fault.EmptyAmong p.item) None f refl (none f))
of_notice all before after p (string k t) f = one (check_parts.has_text p.item k t before) (fault.RepeatedString p.item) None f refl (none f)
of_notice all before after p backwards f = one (checks.is_mode Backward p.mode) (fault.NestedBackwards p.item) None f refl (none f)
of_notice all before after p region_end f = none f

pub fault_of_token : (all before after : List Occurrence) (m : Occurrence) (f : ScriptFault) → checks.fault_at all before m after ≡ Some f → is_of_token f ≡ true
fault_of_token all before after m f = of_notice all before after m.site m.notice f

-- ---- the faults of the lexer and of the grammar

-- a fault that has a place is none of these
placed_not_of_token : (f : ScriptFault) → is_placed f ≡ true → is_of_token f ≡ false
placed_not_of_token (fault.DeclaredTwice item) h = absurd cc
placed_not_of_token (fault.Undeclared item) h = absurd cc
placed_not_of_token (fault.WrongKind item) h = absurd cc
placed_not_of_token (fault.DefinedTwice item) h = absurd cc
placed_not_of_token (fault.Undefined item) h = absurd cc
placed_not_of_token (fault.WrongMode item) h = absurd cc
placed_not_of_token (fault.Substring item) h = absurd cc
placed_not_of_token (fault.Starter item) h = absurd cc
placed_not_of_token (fault.RepeatedString item) h = absurd cc
placed_not_of_token (fault.EmptyAmong item) h = absurd cc
placed_not_of_token (fault.NestedBackwards item) h = absurd cc
placed_not_of_token _ h = refl

pub not_of_text : (s : Directives) (bytes : List ℕ) (f : ScriptFault) → IsTextFault s bytes f → is_of_token f ≡ false
not_of_text s bytes f (inl (long, same)) = ap is_of_token same
not_of_text s bytes f (inr (inl (short, not_text, same))) = ap is_of_token same
not_of_text s bytes f (inr (inr (short, text, h))) = placed_not_of_token f (of_tokens s _ f h)

pub not_of_grammar : (w : Text) (ts : List PlacedToken) (end : ℕ) (f : ScriptFault) → IsUnread w ts end f → is_of_token f ≡ false
not_of_grammar w ts end f h = placed_not_of_token f (of_grammar w ts end f h)
