-- Names resolve, and substrings are paired.
use Rattle.std.proofs.Common.{◌≡◌, ℕ, Bool, true, false, not, cond, ◌&&◌, List, [], ◌∷◌, ◌++◌, Option, Some, None, refl, ap, subst, ◌∙◌}
use Rattle.std.specs.Option.{option_or}
use Rattle.sbl_text.specs.declared.fault.ScriptFault.{ScriptFault}
use Rattle.sbl_text.specs.declared.fault.ScriptFault.TheVariants as fault
use Rattle.sbl_ast.specs.declared.tree.DeclarationKind.{DeclarationKind}
use Rattle.sbl_ast.specs.declared.mode.Mode.{Mode}
use Rattle.sbl_resolver.specs.declared.occurrences.Site.{Site}
use Rattle.sbl_resolver.specs.declared.occurrences.Use.{Use}
use Rattle.sbl_resolver.specs.declared.occurrences.Use.TheVariants as use_as
use Rattle.sbl_resolver.specs.Occurrences.{Occurrence, uses, substring, occurrences_of}
use Rattle.sbl_resolver.specs.Checks.{kind_of, definition_of, may_be, needs_definition, is_routine, is_mode, is_followed, lacks_definition, fault_of_use}
use Rattle.sbl_resolver.specs.inside.CheckParts.{declared_as}
use Rattle.sbl_resolver.specs.inside.CheckParts.{is_in_other}
use Rattle.sbl_resolver.specs.Laws.{Resolves, NamesResolve, SubstringsArePaired}
use Rattle.sbl_resolver.proofs.FirstFault as first
use Rattle.sbl_resolver.proofs.FirstFault.{rest_fails, test_fails}

or_assoc : {X : Type 0} (a b c : Option X) → option_or a (option_or b c) ≡ option_or (option_or a b) c
or_assoc (Some x) b c = refl
or_assoc None b c = refl

kind_of-append : (n : List ℕ) (xs ys : List Occurrence) → kind_of n (xs ++ ys) ≡ option_or (kind_of n xs) (kind_of n ys)
kind_of-append n [] ys = refl
kind_of-append n (x ∷ xs) ys = ap (option_or (declared_as n x.notice)) (kind_of-append n xs ys) ∙ or_assoc (declared_as n x.notice) (kind_of n xs) (kind_of n ys)

not_false : (b : Bool) → not b ≡ false → b ≡ true
not_false true e = refl
not_false false e = absurd cc

is_wanted : (b : Bool) → b ≡ true → (b && true) ≡ false → ⊥
is_wanted true h e = cc
is_wanted false h e = cc

has_place : (u : Use) (item : ℕ) (k : DeclarationKind) (d : Option Site) → lacks_definition u item (Some k) d ≡ false → needs_definition k ≡ true → (p : Site) × (d ≡ Some p)
has_place u item k (Some p) e h = (p, refl)
has_place use_as.Term item k None e h = absurd cc
has_place use_as.Command item k None e h = absurd (is_wanted (needs_definition k) h e)
has_place use_as.Condition item k None e h = absurd (is_wanted (needs_definition k) h e)
has_place use_as.Excluded item k None e h = absurd (is_wanted (needs_definition k) h e)
has_place use_as.Boolean item k None e h = absurd (is_wanted (needs_definition k) h e)
has_place use_as.Integer item k None e h = absurd (is_wanted (needs_definition k) h e)
has_place use_as.String item k None e h = absurd (is_wanted (needs_definition k) h e)

of_mode : (routine : Bool) (mode : Mode) (d : Option Site) → (routine && is_in_other mode d) ≡ false → routine ≡ true → (p : Site) → d ≡ Some p → is_mode mode p.mode ≡ true
of_mode routine mode d e h p is =
    not_false (is_mode mode p.mode) (subst (λ (x : Option Site). is_in_other mode x ≡ false) is (subst (λ (b : Bool). (b && is_in_other mode d) ≡ false) h e))

no_fault_resolves : (all : List Occurrence) (p : Site) (u : Use) (n : List ℕ) (k : DeclarationKind) → kind_of n all ≡ Some k → fault_of_use p u (Some k) (definition_of n all) ≡ None → Resolves all u n p.mode
no_fault_resolves all p u n k is e =
    let d = definition_of n all in
    let other : Option ScriptFault = cond (is_routine k && is_in_other p.mode d) (Some (fault.WrongMode p.item)) None in
    let lacking : Option ScriptFault = cond (lacks_definition u p.item (Some k) d) (Some (fault.Undefined p.item)) other in
    let after_kind : lacking ≡ None = rest_fails (not (may_be u k)) (fault.WrongKind p.item) lacking e in
    let after_lacks : other ≡ None = rest_fails (lacks_definition u p.item (Some k) d) (fault.Undefined p.item) other after_kind in
    record {
      kind = k;
      declared = is;
      allowed = not_false (may_be u k) (test_fails (not (may_be u k)) (fault.WrongKind p.item) lacking e);
      defined = has_place u p.item k d (test_fails (lacks_definition u p.item (Some k) d) (fault.Undefined p.item) other after_kind);
      same_mode = of_mode (is_routine k) p.mode d (test_fails (is_routine k && is_in_other p.mode d) (fault.WrongMode p.item) None after_lacks);
    }

use_resolves : (all before after : List Occurrence) (p : Site) (u : Use) (n : List ℕ) (o : Option DeclarationKind) → kind_of n before ≡ o
    → all ≡ before ++ (record { site = p; notice = uses u n }) ∷ after → fault_of_use p u o (definition_of n all) ≡ None → Resolves all u n p.mode
use_resolves all before after p u n (Some k) is parts e =
    no_fault_resolves all p u n k (ap (kind_of n) parts ∙ kind_of-append n before ((record { site = p; notice = uses u n }) ∷ after) ∙ ap (λ (o : Option DeclarationKind). option_or o (kind_of n after)) is) e
use_resolves all before after p u n None is parts e = absurd cc

pub names_resolve : NamesResolve
names_resolve items external e before after p u n parts =
    use_resolves (occurrences_of items) before after p u n (kind_of n before) refl parts ((first.well_declared_passes items external e).0 before after (record { site = p; notice = uses u n }) parts)

pub substrings_are_paired : SubstringsArePaired
substrings_are_paired items external e before after p parts =
    not_false (is_followed p.mode after)
    (test_fails (not (is_followed p.mode after)) (fault.Substring p.item) None ((first.well_declared_passes items external e).0 before after (record { site = p; notice = substring }) parts))
