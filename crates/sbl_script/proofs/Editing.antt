-- What is found of an edit's text.
use Rattle.std.proofs.Common.{◌≡◌, ◌⊎◌, ◌≤◌, ℕ, Bool, true, List, length, map, Option, None, Some, Result, Ok, Err, IfOk, IfErr, inl, inr, sym, ap, subst, ◌∙◌}
use Rattle.std.specs.Prelude.{IsErrAnd}
use Rattle.std.specs.Str.{IsUtf8, chars}
use Rattle.sbl_token.specs.declared.token.Token.{Token}
use Rattle.sbl_text.specs.declared.fault.ScriptFault.{ScriptFault}
use Rattle.sbl_text.specs.declared.fault.ScriptFault.TheVariants as fault
use Rattle.sbl_text.specs.Escapes.{InForce}
use Rattle.sbl_text.specs.Directives.{Directives, start_under}
use Rattle.sbl_text.specs.Tokens.{PlacedToken, ArePlacedFrom, IsFirstFaultFrom, placed_of}
use Rattle.sbl_tree_amongs.specs.Amongs.{AmongContents, amongs_of_body, nth_held}
use Rattle.sbl_ast.specs.Tree.{Argument, Term, Plain, routine, grouping, Item}
use Rattle.sbl_ast.specs.Texts.{Text, TreeOf}
use Rattle.sbl_ast.specs.View.{RowView}
use Rattle.sbl_parser.specs.Reading.{IsReadAs}
use Rattle.sbl_script.specs.declared.edit_fault.EditFault.{EditFault}
use Rattle.sbl_script.specs.declared.edit_fault.EditFault.TheVariants as edits
use Rattle.sbl_ast.specs.Source.{Source}
use Rattle.sbl_resolver.specs.Checks.{WellDeclared, fault_of}
use Rattle.sbl_script.specs.Reading.{HasTokens, IsTextFault, IsUnread, first_left_out, max_script, lexemes}
use Rattle.sbl_script.specs.Refusals.{Refuses}
use Rattle.sbl_ast.specs.NamedParts.{Part', Routine as body, Among as among, Grouping as terms}
use Rattle.sbl_script.specs.Edits.{is_routine_named, is_grouping_named, first_of, text_for, IsEdited, IsEditFault}
use Rattle.sbl_script.specs.Homes.{Home, IsSubstitutedAt, first_passing, home, home_in, home_of_among, IsFaultAt, home_of_body, home_of_held, home_of_terms}
use Rattle.sbl_script.proofs.Agreement.{edited_out, fault_out, first_same, missing_in}

pub tokens_there : (e f : InForce) (text bytes : List ℕ) (ts : List PlacedToken) → e ≡ f → text ≡ bytes → length bytes ≤ max_script → IsUtf8 bytes → ArePlacedFrom (start_under e) (chars text) ts → HasTokens (start_under f) bytes ts
tokens_there e f text bytes ts same is short utf8 cut = record {
  short = short;
  text = utf8;
  cut = subst (λ (x : InForce). ArePlacedFrom (start_under x) (chars bytes) ts) same (subst (λ (x : List ℕ). ArePlacedFrom (start_under e) (chars x) ts) is cut);
}

-- ---- the home

pub body_home : (items : List Item) (n : List ℕ) (b : RowView) → first_passing (is_routine_named n) items ≡ Some (routine n b.0 b.1) → home items (body n) ≡ Ok (home_of_body items n)
body_home items n b is = ap (λ (o : Option Plain). home_in items o (body n)) is

pub no_among : (items : List Item) (n : List ℕ) (k : ℕ) (b : RowView) → first_passing (is_routine_named n) items ≡ Some (routine n b.0 b.1) → nth_held k (amongs_of_body b) ≡ None → home items (among n k) ≡ Err edits.NoAmong
no_among items n k b is none = ap (λ (o : Option Plain). home_in items o (among n k)) is ∙ ap (home_of_held items n b k) none

pub among_home : (items : List Item) (n : List ℕ) (k : ℕ) (b : RowView) (h : AmongContents) → first_passing (is_routine_named n) items ≡ Some (routine n b.0 b.1) → nth_held k (amongs_of_body b) ≡ Some h → home items (among n k) ≡ Ok (home_of_among items n b k h)
among_home items n k b h is there = ap (λ (o : Option Plain). home_in items o (among n k)) is ∙ ap (home_of_held items n b k) there

pub terms_home : (items : List Item) (n : List ℕ) (a : Argument) (ts : List Term) → first_passing (is_grouping_named n) items ≡ Some (grouping n a ts) → home items (terms n) ≡ Ok (home_of_terms items n)
terms_home items n a ts is = ap (λ (o : Option Plain). home_in items o (terms n)) is

-- the same from the first definition that is found
pub body_there : (items : List Item) (n : List ℕ) (b : RowView) → first_of (is_routine_named n) items ≡ Some (routine n b.0 b.1) → home items (body n) ≡ Ok (home_of_body items n)
body_there items n b seen = body_home items n b (sym (first_same (is_routine_named n) items) ∙ seen)

pub terms_there : (items : List Item) (n : List ℕ) (a : Argument) (ts : List Term) → first_of (is_grouping_named n) items ≡ Some (grouping n a ts) → home items (terms n) ≡ Ok (home_of_terms items n)
terms_there items n a ts seen = terms_home items n a ts (sym (first_same (is_grouping_named n) items) ∙ seen)

-- where there is a home nothing is missing
pub not_missing : {X : Type 0} (items : List Item) (e : Part') (h : Home) (r : Result X EditFault) → home items e ≡ Ok h → (f : EditFault) → text_for items e ≡ Err f → r ≡ Err f
not_missing items e h r is f missing = let clash : Ok h ≡ Err f = sym is ∙ missing_in items e f missing in absurd cc

err_same : (r : Result Home EditFault) (f g : EditFault) → r ≡ Err f → r ≡ Err g → f ≡ g
err_same r f g a b = cc

-- what is missing is told
pub missing_told : {X : Type 0} (items : List Item) (e : Part') (g : EditFault) (r : Result X EditFault) → home items e ≡ Err g → r ≡ Err g → (f : EditFault) → text_for items e ≡ Err f → r ≡ Err f
missing_told items e g r is told f missing = told ∙ ap Err (err_same (home items e) g f is (missing_in items e f missing))

-- ---- faults of the text

abbrev pub Refused : Source → Part' → List ℕ → EditFault → Type 0
Refused s e text f = (f ≡ edits.OutOfMemory) ⊎ IsEditFault s e text f

pub told_as : (s : Source) (e : Part') (h : Home) (text : List ℕ) (f : ScriptFault) (g : EditFault) → home s.items e ≡ Ok h → Refuses f g → (f ≡ fault.OutOfMemory) ⊎ IsFaultAt s h text f → Refused s e text g
told_as s e h text f g there (inl memory) x = inl memory.1
told_as s e h text f g there (inr other) (inl memory) = absurd (other.0 memory)
told_as s e h text f g there (inr other) (inr x) = inr (subst (IsEditFault s e text) (sym other.1) (fault_out s e text (edits.Script f) (h, there, x)))

pub text_told : (s : Source) (h : Home) (text : List ℕ) (f : ScriptFault) → (f ≡ fault.OutOfMemory) ⊎ IsTextFault h.state text f → (f ≡ fault.OutOfMemory) ⊎ IsFaultAt s h text f
text_told s h text f (inl m) = inl m
text_told s h text f (inr x) = inr (inl x)

pub unread_told : (s : Source) (h : Home) (text : List ℕ) (ts : List PlacedToken) (f : ScriptFault) → HasTokens h.state text ts → (f ≡ fault.OutOfMemory) ⊎ IsUnread h.text ts (length text) f → (f ≡ fault.OutOfMemory) ⊎ IsFaultAt s h text f
unread_told s h text ts f tokens (inl m) = inl m
unread_told s h text ts f tokens (inr u) = inr (inr (inl (ts, tokens, u)))

pub check_told : (s : Source) (h : Home) (text : List ℕ) (ts : List PlacedToken) (x : TreeOf h.text) (f : ScriptFault) → HasTokens h.state text ts → first_left_out ts ≡ None → IsReadAs h.text (lexemes ts) x
    → (f ≡ fault.OutOfMemory) ⊎ (fault_of (h.around x) s.external ≡ Some f) → (f ≡ fault.OutOfMemory) ⊎ IsFaultAt s h text f
check_told s h text ts x f tokens offered read (inl m) = inl m
check_told s h text ts x f tokens offered read (inr g) = inr (inr (inr (ts, tokens, offered, (x, read, g))))

-- ---- what the code returns of them

-- a fault that is told is returned as the edit's
pub fault_refused : {X : Type 0} (s : Source) (e : Part') (h : Home) (text : List ℕ) (f : ScriptFault) (r : Result X EditFault) → home s.items e ≡ Ok h → IsErrAnd r (Refuses f)
    → (f ≡ fault.OutOfMemory) ⊎ IsFaultAt s h text f → IfErr r (Refused s e text)
fault_refused s e h text f (Ok x) there is told = tt
fault_refused s e h text f (Err g) there is told = told_as s e h text f g there is told

pub text_refused : {X : Type 0} (s : Source) (e : Part') (h : Home) (text : List ℕ) (f : ScriptFault) (r : Result X EditFault) → home s.items e ≡ Ok h → IsErrAnd r (Refuses f)
    → (f ≡ fault.OutOfMemory) ⊎ IsTextFault h.state text f → IfErr r (Refused s e text)
text_refused s e h text f r there is told = fault_refused s e h text f r there is (text_told s h text f told)

-- the tokens that are read, and those that the code hands to the parser
pub unread_refused : {X : Type 0} (s : Source) (e : Part') (h : Home) (text : List ℕ) (us ts : List Token) (f : ScriptFault) (r : Result X EditFault) → us ≡ ts → home s.items e ≡ Ok h → IsErrAnd r (Refuses f)
    → HasTokens h.state text (map placed_of ts) → (f ≡ fault.OutOfMemory) ⊎ IsUnread h.text (map placed_of us) (length text) f → IfErr r (Refused s e text)
unread_refused s e h text us ts f r same there is tokens told =
    fault_refused s e h text f r there is (unread_told s h text (map placed_of ts) f tokens (subst (λ (xs : List Token). (f ≡ fault.OutOfMemory) ⊎ IsUnread h.text (map placed_of xs) (length text) f) same told))

-- a tree that the parser read of them
abbrev pub IsTreeOf : (w : Text) → List Token → TreeOf w → Type 0
IsTreeOf w ts x = (first_left_out (map placed_of ts) ≡ None) × IsReadAs w (lexemes (map placed_of ts)) x

pub tree_of_same : (w : Text) (us ts : List Token) (x : TreeOf w) → us ≡ ts → first_left_out (map placed_of us) ≡ None → IsReadAs w (lexemes (map placed_of us)) x → IsTreeOf w ts x
tree_of_same w us ts x same offered read = subst (λ (xs : List Token). IsTreeOf w xs x) same (offered, read)

pub check_refused : {X : Type 0} (s : Source) (e : Part') (h : Home) (text : List ℕ) (ts : List Token) (x : TreeOf h.text) (f : ScriptFault) (r : Result X EditFault) → home s.items e ≡ Ok h → IsErrAnd r (Refuses f)
    → HasTokens h.state text (map placed_of ts) → IsTreeOf h.text ts x → (f ≡ fault.OutOfMemory) ⊎ (fault_of (h.around x) s.external ≡ Some f) → IfErr r (Refused s e text)
check_refused s e h text ts x f r there is tokens tree told = fault_refused s e h text f r there is (check_told s h text (map placed_of ts) x f tokens tree.0 tree.1 told)

-- ---- the script

pub substitution_of : (s t : Source) (h : Home) (text : List ℕ) (ts : List PlacedToken) (x : TreeOf h.text) (n : Bool) → HasTokens h.state text ts → first_left_out ts ≡ None → IsReadAs h.text (lexemes ts) x
    → t.items ≡ h.around x → t.external ≡ s.external → WellDeclared t.items t.external → h.keeps_count x ≡ n → IsSubstitutedAt s h text n t
substitution_of s t h text ts x n tokens offered read items external well counted = record { placed = ts; tree = x; tokens = tokens; offered = offered; read = read; items_are = items; external_is = external; well_declared = well; counted = counted }

pub text_edited : (s t : Source) (e : Part') (h : Home) (text : List ℕ) (ts : List Token) (x : TreeOf h.text) → home s.items e ≡ Ok h → HasTokens h.state text (map placed_of ts) → IsTreeOf h.text ts x
    → t.items ≡ h.around x → t.external ≡ s.external → WellDeclared t.items t.external → h.keeps_count x ≡ true → IsEdited s e text t
text_edited s t e h text ts x there tokens tree items external well counted =
    edited_out s e text t (h, there, substitution_of s t h text (map placed_of ts) x true tokens tree.0 tree.1 items external well counted)

-- ---- results

pub if_ok : {X : Type 0} (r : Result X ScriptFault) (P Q : X → Type 0) → ((x : X) → P x → Q x) → IfOk r P → IfOk r Q
if_ok (Ok x) P Q f h = f x h
if_ok (Err e) P Q f h = h

pub if_err : {X : Type 0} (r : Result X ScriptFault) (P Q : ScriptFault → Type 0) → ((e : ScriptFault) → P e → Q e) → IfErr r P → IfErr r Q
if_err (Ok x) P Q f h = h
if_err (Err e) P Q f h = f e h

pub text_moved : (s : Directives) (a b : List ℕ) (f : ScriptFault) → a ≡ b → IsTextFault s a f → IsTextFault s b f
text_moved s a b f e h = subst (λ (x : List ℕ). IsTextFault s x f) e h

pub has_tokens : {X : Type 0} (r : Result X ScriptFault) (placed : X → List PlacedToken) (e f : InForce) (text bytes own : List ℕ) → e ≡ f → text ≡ bytes → bytes ≡ own → length bytes ≤ max_script → IsUtf8 bytes
    → IfOk r (λ x. ArePlacedFrom (start_under e) (chars text) (placed x)) → IfOk r (λ x. HasTokens (start_under f) own (placed x))
has_tokens r placed e f text bytes own same is there short utf8 h =
    if_ok r (λ x. ArePlacedFrom (start_under e) (chars text) (placed x)) (λ x. HasTokens (start_under f) own (placed x))
    (λ x cut. tokens_there e f text own (placed x) same (is ∙ there) (subst (λ (b : List ℕ). length b ≤ max_script) there short) (subst IsUtf8 there utf8) cut) h

pub no_tokens : {X : Type 0} (r : Result X ScriptFault) (e f : InForce) (text bytes own : List ℕ) → e ≡ f → text ≡ bytes → bytes ≡ own → length bytes ≤ max_script → IsUtf8 bytes
    → IfErr r (λ g. (g ≡ fault.OutOfMemory) ⊎ IsFirstFaultFrom (start_under e) (chars text) g) → IfErr r (λ g. (g ≡ fault.OutOfMemory) ⊎ IsTextFault (start_under f) own g)
no_tokens r e f text bytes own same is there short utf8 h =
    if_err r (λ g. (g ≡ fault.OutOfMemory) ⊎ IsFirstFaultFrom (start_under e) (chars text) g) (λ g. (g ≡ fault.OutOfMemory) ⊎ IsTextFault (start_under f) own g) (λ g x. go g x) h where
      go : (g : ScriptFault) → (g ≡ fault.OutOfMemory) ⊎ IsFirstFaultFrom (start_under e) (chars text) g → (g ≡ fault.OutOfMemory) ⊎ IsTextFault (start_under f) own g
      go g (inl m) = inl m
      go g (inr x) = inr (inr (inr (subst (λ (b : List ℕ). length b ≤ max_script) there short, subst IsUtf8 there utf8, subst (λ (i : InForce). IsFirstFaultFrom (start_under i) (chars own) g) same (subst (λ (b : List ℕ). IsFirstFaultFrom (start_under e) (chars b) g) (is ∙ there) x))))
