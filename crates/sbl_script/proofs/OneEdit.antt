-- A text makes one script of a script, or has one fault.
use Rattle.std.proofs.Common.{◌≡◌, ℕ, Bool, true, false, List, length, Result, Ok, Err, refl, sym, ap, subst, ◌∙◌, inl, inr}
use Rattle.sbl_text.specs.declared.fault.ScriptFault.{ScriptFault}
use Rattle.sbl_text.specs.Tokens.{PlacedToken}
use Rattle.sbl_ast.specs.Tree.{Item}
use Rattle.sbl_ast.specs.Texts.{TreeOf}
use Rattle.sbl_parser.specs.Reading.{IsReadAs}
use Rattle.sbl_script.specs.declared.edit_fault.EditFault.{EditFault}
use Rattle.sbl_script.specs.declared.edit_fault.EditFault.TheVariants as edits
use Rattle.sbl_ast.specs.Source.{Source}
use Rattle.sbl_resolver.specs.Checks.{fault_of}
use Rattle.sbl_script.specs.Reading.{IsUnread, lexemes}
use Rattle.sbl_ast.specs.NamedParts.{Part'}
use Rattle.sbl_script.specs.Homes.{Home, IsEditedAt, IsSubstitutedAt, IsEditFaultAt, home, IsFaultAt}
use Rattle.sbl_script.proofs.OneReading.{Facts, tree_one, fault_is_one, placed_one, no_text_fault, no_unread, some_none, same_source}

-- the tree and the script are one
substituted_tree : Facts → (s : Source) (h : Home) (text : List ℕ) (m n : Bool) (t u : Source) (a : IsSubstitutedAt s h text m t) (b : IsSubstitutedAt s h text n u) → a.tree ≡ b.tree
substituted_tree k s h text m n t u a b =
    let same = placed_one k h.state text a.placed b.placed a.tokens b.tokens in
    tree_one k h.text b.placed a.tree b.tree (subst (λ (ts : List PlacedToken). IsReadAs h.text (lexemes ts) a.tree) same a.read) b.read

substituted_is_one : Facts → (s : Source) (h : Home) (text : List ℕ) (m n : Bool) (t u : Source) → IsSubstitutedAt s h text m t → IsSubstitutedAt s h text n u → t ≡ u
substituted_is_one k s h text m n t u a b =
    same_source t u (a.items_are ∙ ap (λ (z : TreeOf h.text). h.around z) (substituted_tree k s h text m n t u a b) ∙ sym b.items_are) (a.external_is ∙ sym b.external_is)

substituted_or_fault : Facts → (s : Source) (h : Home) (text : List ℕ) (m : Bool) (t : Source) (f : ScriptFault) → IsSubstitutedAt s h text m t → IsFaultAt s h text f → ⊥
substituted_or_fault k s h text m t f a (inl b) = no_text_fault k h.state text a.placed f a.tokens b
substituted_or_fault k s h text m t f a (inr (inl b)) =
    let same = placed_one k h.state text b.0 a.placed b.1 a.tokens in
    no_unread k h.text a.placed (length text) f a.tree a.offered a.read (subst (λ (ts : List PlacedToken). IsUnread h.text ts (length text) f) same b.2)
substituted_or_fault k s h text m t f a (inr (inr b)) =
    let same = placed_one k h.state text a.placed b.0 a.tokens b.1 in
    let one : a.tree ≡ b.3.0 = tree_one k h.text b.0 a.tree b.3.0 (subst (λ (ts : List PlacedToken). IsReadAs h.text (lexemes ts) a.tree) same a.read) b.3.1 in
    let items : t.items ≡ h.around b.3.0 = a.items_are ∙ ap (λ (z : TreeOf h.text). h.around z) one in
    let named : fault_of t.items t.external ≡ fault_of (h.around b.3.0) s.external = ap (λ (is : List Item). fault_of is t.external) items ∙ ap (λ (n : List ℕ). fault_of (h.around b.3.0) n) a.external_is in
    some_none f (fault_of t.items t.external) a.well_declared (named ∙ b.3.2)

-- there are as many amongs, or not
kept_or_not : Facts → (s : Source) (h : Home) (text : List ℕ) (t u : Source) → IsSubstitutedAt s h text true t → IsSubstitutedAt s h text false u → ⊥
kept_or_not k s h text t u a b =
    let clash : true ≡ false = sym a.counted ∙ ap h.keeps_count (substituted_tree k s h text true false t u a b) ∙ b.counted in
    absurd cc

-- ---- the home is one

ok_one : (r : Result Home EditFault) (h g : Home) → r ≡ Ok h → r ≡ Ok g → g ≡ h
ok_one r h g a b = cc

ok_or_err : (r : Result Home EditFault) (h : Home) (f : EditFault) → r ≡ Ok h → r ≡ Err f → ⊥
ok_or_err r h f a b = cc

err_one : (r : Result Home EditFault) (f g : EditFault) → r ≡ Err f → r ≡ Err g → f ≡ g
err_one r f g a b = cc

pub edit_is_one : Facts → (s : Source) (e : Part') (text : List ℕ) (t u : Source) → IsEditedAt s e text t → IsEditedAt s e text u → t ≡ u
edit_is_one k s e text t u a b =
    let same = ok_one (home s.items e) a.0 b.0 a.1 b.1 in
    substituted_is_one k s a.0 text true true t u a.2 (subst (λ (z : Home). IsSubstitutedAt s z text true u) same b.2)

-- two faults at one home, of which one is the number of amongs
count_or_fault : Facts → (s : Source) (e : Part') (text : List ℕ) (f : ScriptFault) → IsEditFaultAt s e text edits.AmongCount → IsEditFaultAt s e text (edits.Script f) → ⊥
count_or_fault k s e text f a b =
    let same = ok_one (home s.items e) a.0 b.0 a.1 b.1 in
    substituted_or_fault k s a.0 text false a.2 f a.3 (subst (λ (z : Home). IsFaultAt s z text f) same b.2)

pub edit_fault_is_one : Facts → (s : Source) (e : Part') (text : List ℕ) (f g : EditFault) → IsEditFaultAt s e text f → IsEditFaultAt s e text g → f ≡ g
edit_fault_is_one k s e text edits.NoRoutine edits.NoRoutine a b = refl
edit_fault_is_one k s e text edits.NoRoutine edits.NoGrouping a b = err_one (home s.items e) edits.NoRoutine edits.NoGrouping a b
edit_fault_is_one k s e text edits.NoRoutine edits.NoAmong a b = err_one (home s.items e) edits.NoRoutine edits.NoAmong a b
edit_fault_is_one k s e text edits.NoRoutine edits.AmongCount a b = absurd (ok_or_err (home s.items e) b.0 edits.NoRoutine b.1 a)
edit_fault_is_one k s e text edits.NoRoutine (edits.Script g) a b = absurd (ok_or_err (home s.items e) b.0 edits.NoRoutine b.1 a)
edit_fault_is_one k s e text edits.NoGrouping edits.NoRoutine a b = err_one (home s.items e) edits.NoGrouping edits.NoRoutine a b
edit_fault_is_one k s e text edits.NoGrouping edits.NoGrouping a b = refl
edit_fault_is_one k s e text edits.NoGrouping edits.NoAmong a b = err_one (home s.items e) edits.NoGrouping edits.NoAmong a b
edit_fault_is_one k s e text edits.NoGrouping edits.AmongCount a b = absurd (ok_or_err (home s.items e) b.0 edits.NoGrouping b.1 a)
edit_fault_is_one k s e text edits.NoGrouping (edits.Script g) a b = absurd (ok_or_err (home s.items e) b.0 edits.NoGrouping b.1 a)
edit_fault_is_one k s e text edits.NoAmong edits.NoRoutine a b = err_one (home s.items e) edits.NoAmong edits.NoRoutine a b
edit_fault_is_one k s e text edits.NoAmong edits.NoGrouping a b = err_one (home s.items e) edits.NoAmong edits.NoGrouping a b
edit_fault_is_one k s e text edits.NoAmong edits.NoAmong a b = refl
edit_fault_is_one k s e text edits.NoAmong edits.AmongCount a b = absurd (ok_or_err (home s.items e) b.0 edits.NoAmong b.1 a)
edit_fault_is_one k s e text edits.NoAmong (edits.Script g) a b = absurd (ok_or_err (home s.items e) b.0 edits.NoAmong b.1 a)
edit_fault_is_one k s e text edits.AmongCount edits.NoRoutine a b = absurd (ok_or_err (home s.items e) a.0 edits.NoRoutine a.1 b)
edit_fault_is_one k s e text edits.AmongCount edits.NoGrouping a b = absurd (ok_or_err (home s.items e) a.0 edits.NoGrouping a.1 b)
edit_fault_is_one k s e text edits.AmongCount edits.NoAmong a b = absurd (ok_or_err (home s.items e) a.0 edits.NoAmong a.1 b)
edit_fault_is_one k s e text edits.AmongCount edits.AmongCount a b = refl
edit_fault_is_one k s e text edits.AmongCount (edits.Script g) a b = absurd (count_or_fault k s e text g a b)
edit_fault_is_one k s e text (edits.Script f) edits.NoRoutine a b = absurd (ok_or_err (home s.items e) a.0 edits.NoRoutine a.1 b)
edit_fault_is_one k s e text (edits.Script f) edits.NoGrouping a b = absurd (ok_or_err (home s.items e) a.0 edits.NoGrouping a.1 b)
edit_fault_is_one k s e text (edits.Script f) edits.NoAmong a b = absurd (ok_or_err (home s.items e) a.0 edits.NoAmong a.1 b)
edit_fault_is_one k s e text (edits.Script f) edits.AmongCount a b = absurd (count_or_fault k s e text f b a)
edit_fault_is_one k s e text (edits.Script f) (edits.Script g) a b =
    let same = ok_one (home s.items e) a.0 b.0 a.1 b.1 in
    ap edits.Script (fault_is_one k a.0.text a.0.state a.0.around s.external text f g a.2 (subst (λ (z : Home). IsFaultAt s z text g) same b.2))
edit_fault_is_one k s e text edits.OutOfMemory g a b = absurd a
edit_fault_is_one k s e text _ edits.OutOfMemory a b = absurd b

pub edit_or_fault : Facts → (s : Source) (e : Part') (text : List ℕ) (t : Source) (f : EditFault) → IsEditedAt s e text t → IsEditFaultAt s e text f → ⊥
edit_or_fault k s e text t edits.NoRoutine a b = ok_or_err (home s.items e) a.0 edits.NoRoutine a.1 b
edit_or_fault k s e text t edits.NoGrouping a b = ok_or_err (home s.items e) a.0 edits.NoGrouping a.1 b
edit_or_fault k s e text t edits.NoAmong a b = ok_or_err (home s.items e) a.0 edits.NoAmong a.1 b
edit_or_fault k s e text t edits.AmongCount a b =
    let same = ok_one (home s.items e) a.0 b.0 a.1 b.1 in
    kept_or_not k s a.0 text t b.2 a.2 (subst (λ (z : Home). IsSubstitutedAt s z text false b.2) same b.3)
edit_or_fault k s e text t (edits.Script f) a b =
    let same = ok_one (home s.items e) a.0 b.0 a.1 b.1 in
    substituted_or_fault k s a.0 text true t f a.2 (subst (λ (z : Home). IsFaultAt s z text f) same b.2)
edit_or_fault k s e text t edits.OutOfMemory a b = b
