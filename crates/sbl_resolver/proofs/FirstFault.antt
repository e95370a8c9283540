-- The first of the faults of some occurrences.
use Rattle.std.proofs.Common.{◌≡◌, ◌⊎◌, ℕ, Bool, true, false, cond, List, [], ◌∷◌, ◌++◌, Option, Some, None, refl, ap, subst, ◌∙◌, inl, inr, append_assoc, append-nil}
use Rattle.std.specs.Option.{option_or}
use Rattle.sbl_text.specs.declared.fault.ScriptFault.{ScriptFault}
use Rattle.sbl_text.specs.declared.fault.ScriptFault.TheVariants as fault
use Rattle.sbl_ast.specs.Tree.{Item}
use Rattle.sbl_resolver.specs.Occurrences.{Occurrence, occurrences_of}
use Rattle.sbl_resolver.specs.Checks.{fault_at, fault_after, has_external}
use Rattle.sbl_resolver.specs.Laws.{EachPasses, IsFirst, WellDeclaredPasses, FaultIsFirst}

none_first : {X : Type 0} (a b : Option X) → option_or a b ≡ None → a ≡ None
none_first (Some x) b e = absurd cc
none_first None b e = refl

none_second : {X : Type 0} (a b : Option X) → option_or a b ≡ None → b ≡ None
none_second (Some x) b e = absurd cc
none_second None b e = e

-- if a check and what comes after it find no fault, the check passes, and they find none
pub test_fails : (b : Bool) (f : ScriptFault) (rest : Option ScriptFault) → cond b (Some f) rest ≡ None → b ≡ false
test_fails true f rest e = absurd cc
test_fails false f rest e = refl

pub rest_fails : (b : Bool) (f : ScriptFault) (rest : Option ScriptFault) → cond b (Some f) rest ≡ None → rest ≡ None
rest_fails true f rest e = absurd cc
rest_fails false f rest e = e

pub nothing : (b c : List Occurrence) (x : Occurrence) → [] ≡ b ++ x ∷ c → ⊥
nothing [] c x e = cc
nothing (y ∷ b) c x e = cc

-- no check fails at an occurrence of the rest
passes : (all done rest : List Occurrence) → fault_after all done rest ≡ None → (b c : List Occurrence) (x : Occurrence) → rest ≡ b ++ x ∷ c → fault_at all (done ++ b) x c ≡ None
passes all done [] e b c x parts = absurd (nothing b c x parts)
passes all done (m ∷ after) e [] c x parts =
    let same : m ≡ x = cc in
    let rest : after ≡ c = cc in
    rw append-nil (subst (λ (y : Occurrence). fault_at all done y c ≡ None) same (subst (λ (r : List Occurrence). fault_at all done m r ≡ None) rest (none_first (fault_at all done m after) (fault_after all (done ++ m ∷ []) after) e)))
passes all done (m ∷ after) e (y ∷ b) c x parts =
    let same : m ≡ y = cc in
    let rest : after ≡ b ++ x ∷ c = cc in
    subst (λ (z : Occurrence). fault_at all (done ++ z ∷ b) x c ≡ None) same
    (subst (λ (r : List Occurrence). fault_at all r x c ≡ None) (append_assoc done (m ∷ []) b)
    (passes all (done ++ m ∷ []) after (none_second (fault_at all done m after) (fault_after all (done ++ m ∷ []) after) e) b c x rest))

-- the first fault of the rest
pub record FirstFrom (all done rest : List Occurrence) (f : ScriptFault) : Type 0 where
  pub before : List Occurrence
  pub occurrence : Occurrence
  pub after : List Occurrence
  pub parts : rest ≡ before ++ occurrence ∷ after
  pub fault : fault_at all (done ++ before) occurrence after ≡ Some f
  pub none_before : (b c : List Occurrence) (x : Occurrence) → before ≡ b ++ x ∷ c → fault_at all (done ++ b) x (c ++ occurrence ∷ after) ≡ None

-- it is the fault of the first occurrence
abbrev pub here : (all done after : List Occurrence) (m : Occurrence) (f : ScriptFault) → fault_at all done m after ≡ Some f → FirstFrom all done (m ∷ after) f
here all done after m f is = record {
  before = [];
  occurrence = m;
  after = after;
  parts = refl;
  fault = rw append-nil is;
  none_before = λ b c x parts. absurd (nothing b c x parts);
}

-- or the first of those after it
abbrev pub there : (all done after : List Occurrence) (m : Occurrence) (f : ScriptFault) → fault_at all done m after ≡ None → FirstFrom all (done ++ m ∷ []) after f → FirstFrom all done (m ∷ after) f
there all done after m f none r = record {
  before = m ∷ r.before;
  occurrence = r.occurrence;
  after = r.after;
  parts = ap (λ (k : List Occurrence). m ∷ k) r.parts;
  fault = subst (λ (k : List Occurrence). fault_at all k r.occurrence r.after ≡ Some f) (append_assoc done (m ∷ []) r.before) r.fault;
  none_before = earlier;
} where
  earlier : (b c : List Occurrence) (x : Occurrence) → m ∷ r.before ≡ b ++ x ∷ c → fault_at all (done ++ b) x (c ++ r.occurrence ∷ r.after) ≡ None
  earlier [] c x parts =
      let same : m ≡ x = cc in
      let rest : r.before ≡ c = cc in
      rw append-nil (subst (λ (y : Occurrence). fault_at all done y (c ++ r.occurrence ∷ r.after) ≡ None) same
      (subst (λ (k : List Occurrence). fault_at all done m (k ++ r.occurrence ∷ r.after) ≡ None) rest (subst (λ (k : List Occurrence). fault_at all done m k ≡ None) r.parts none)))
  earlier (y ∷ b) c x parts =
      let same : m ≡ y = cc in
      let rest : r.before ≡ b ++ x ∷ c = cc in
      subst (λ (z : Occurrence). fault_at all (done ++ z ∷ b) x (c ++ r.occurrence ∷ r.after) ≡ None) same
      (subst (λ (k : List Occurrence). fault_at all k x (c ++ r.occurrence ∷ r.after) ≡ None) (append_assoc done (m ∷ []) b) (r.none_before b c x rest))

first : (all done rest : List Occurrence) (f : ScriptFault) → fault_after all done rest ≡ Some f → FirstFrom all done rest f
first all done [] f e = absurd cc
first all done (m ∷ after) f e = go (fault_at all done m after) refl e (first all (done ++ m ∷ []) after f) where
  go : (o : Option ScriptFault) → fault_at all done m after ≡ o → option_or o (fault_after all (done ++ m ∷ []) after) ≡ Some f
      → (fault_after all (done ++ m ∷ []) after ≡ Some f → FirstFrom all (done ++ m ∷ []) after f) → FirstFrom all done (m ∷ after) f
  go (Some g) is e more = here all done after m f (is ∙ e)
  go None is e more = there all done after m f is (more e)

pub each : (all : List Occurrence) → fault_after all [] all ≡ None → EachPasses all
each all e = λ before after m parts. passes all [] all e before after m parts

abbrev fault_of_external : List Item → List ℕ → List Occurrence → Option ScriptFault
fault_of_external items external all = cond (has_external items external all) None (Some fault.NoExternal)

external_is : (items : List Item) (external : List ℕ) (all : List Occurrence) → fault_of_external items external all ≡ None → has_external items external all ≡ true
external_is items external all e = go (has_external items external all) e where
  go : (b : Bool) → cond b None (Some fault.NoExternal) ≡ None → b ≡ true
  go true e = refl
  go false e = absurd cc

external_lacks : (items : List Item) (external : List ℕ) (all : List Occurrence) (f : ScriptFault) → fault_of_external items external all ≡ Some f → (has_external items external all ≡ false) × (f ≡ fault.NoExternal)
external_lacks items external all f e = go (has_external items external all) e where
  go : (b : Bool) → cond b None (Some fault.NoExternal) ≡ Some f → (b ≡ false) × (f ≡ fault.NoExternal)
  go true e = absurd cc
  go false e = (refl, cc)

pub well_declared_passes : WellDeclaredPasses
well_declared_passes items external e =
    let all = occurrences_of items in
    (each all (none_first (fault_after all [] all) (fault_of_external items external all) e), external_is items external all (none_second (fault_after all [] all) (fault_of_external items external all) e))

abbrev pub first_from_start : (all : List Occurrence) (f : ScriptFault) → FirstFrom all [] all f → IsFirst all f
first_from_start all f r = record { before = r.before; occurrence = r.occurrence; after = r.after; parts = r.parts; fault = r.fault; none_before = r.none_before }

found_or_external : (items : List Item) (external : List ℕ) (all : List Occurrence) (f : ScriptFault) (o : Option ScriptFault) → fault_after all [] all ≡ o → option_or o (fault_of_external items external all) ≡ Some f →
    IsFirst all f ⊎ (EachPasses all × (has_external items external all ≡ false) × (f ≡ fault.NoExternal))
found_or_external items external all f (Some g) is e = inl (first_from_start all f (first all [] all f (is ∙ e)))
found_or_external items external all f None is e = let x = external_lacks items external all f e in inr (each all is, x.0, x.1)

pub fault_is_first : FaultIsFirst
fault_is_first items external f e = found_or_external items external (occurrences_of items) f (fault_after (occurrences_of items) [] (occurrences_of items)) refl e
