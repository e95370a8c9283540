-- The first fault is one, and its subject has its place among the subjects.
use Rattle.std.proofs.Common.{◌≡◌, ◌⊎◌, ℕ, List, [], ◌∷◌, ◌++◌, length, Option, Some, None, refl, sym, ap, ◌∙◌, inl, inr}
use Rattle.std.specs.List.{slice_get}
use Rattle.sbl_text.specs.declared.fault.ScriptFault.{ScriptFault}
use Rattle.sbl_resolver.specs.Occurrences.{Occurrence, Notice, declares, defines_routine, defines_grouping, uses, substring, among, string, backwards, region_end}
use Rattle.sbl_resolver.specs.Checks.{fault_at}
use Rattle.sbl_resolver.specs.Laws.{IsFirst}
use Rattle.sbl_resolver.specs.Subjects.{Subject, subject_of, subjects_of, and_more, IsFirstAfter}

pub some_one : {X : Type 0} (x y : X) → Some x ≡ Some y → x ≡ y
some_one x y e = cc

pub some_none : {X : Type 0} (x : X) (o : Option X) → o ≡ None → o ≡ Some x → ⊥
some_none x o a b = cc

-- ---- two parts of one list

-- the element x is y, or before it, or after it
abbrev Cuts : (b c : List Occurrence) (x y : Occurrence) (r s : List Occurrence) → Type 0
Cuts b c x y r s =
    ((b ≡ c) × (x ≡ y) × (r ≡ s))
    ⊎ ((d : List Occurrence) × (c ≡ b ++ x ∷ d) × (r ≡ d ++ y ∷ s))
    ⊎ ((d : List Occurrence) × (b ≡ c ++ y ∷ d) × (s ≡ d ++ x ∷ r))

cuts : (b c : List Occurrence) (x y : Occurrence) (r s : List Occurrence) → b ++ x ∷ r ≡ c ++ y ∷ s → Cuts b c x y r s
cuts [] [] x y r s e = let head : x ≡ y = cc in let rest : r ≡ s = cc in inl (refl, head, rest)
cuts [] (z ∷ c) x y r s e = let head : z ≡ x = cc in let rest : r ≡ c ++ y ∷ s = cc in inr (inl (c, ap (λ (w : Occurrence). w ∷ c) head, rest))
cuts (z ∷ b) [] x y r s e = let head : z ≡ y = cc in let rest : s ≡ b ++ x ∷ r = cc in inr (inr (b, ap (λ (w : Occurrence). w ∷ b) head, rest))
cuts (z ∷ b) (w ∷ c) x y r s e = let head : z ≡ w = cc in let rest : b ++ x ∷ r ≡ c ++ y ∷ s = cc in go head (cuts b c x y r s rest) where
  go : z ≡ w → Cuts b c x y r s → Cuts (z ∷ b) (w ∷ c) x y r s
  go h (inl t) = inl (ap (λ (v : Occurrence). v ∷ b) h ∙ ap (λ (l : List Occurrence). w ∷ l) t.0, t.1, t.2)
  go h (inr (inl t)) = inr (inl (t.0, ap (λ (v : Occurrence). v ∷ c) (sym h) ∙ ap (λ (l : List Occurrence). z ∷ l) t.1, t.2))
  go h (inr (inr t)) = inr (inr (t.0, ap (λ (v : Occurrence). v ∷ b) h ∙ ap (λ (l : List Occurrence). w ∷ l) t.1, t.2))

-- ---- the first fault

pub first_is_one : (all : List Occurrence) (f g : ScriptFault) (h : IsFirst all f) (j : IsFirst all g) → (f ≡ g) × (h.before ≡ j.before)
first_is_one all f g h j = go (cuts h.before j.before h.occurrence j.occurrence h.after j.after (sym h.parts ∙ j.parts)) where
  go : Cuts h.before j.before h.occurrence j.occurrence h.after j.after → (f ≡ g) × (h.before ≡ j.before)
  go (inl t) =
      let same : fault_at all h.before h.occurrence h.after ≡ fault_at all j.before j.occurrence j.after =
      ap (λ (b : List Occurrence). fault_at all b h.occurrence h.after) t.0
      ∙ ap (λ (m : Occurrence). fault_at all j.before m h.after) t.1
      ∙ ap (λ (a : List Occurrence). fault_at all j.before j.occurrence a) t.2 in
      (some_one f g (sym h.fault ∙ same ∙ j.fault), t.0)
  go (inr (inl t)) =
      let none = j.none_before h.before t.0 h.occurrence t.1 in
      absurd (some_none f (fault_at all h.before h.occurrence h.after) (ap (fault_at all h.before h.occurrence) t.2 ∙ none) h.fault)
  go (inr (inr t)) =
      let none = h.none_before j.before t.0 j.occurrence t.1 in
      absurd (some_none g (fault_at all j.before j.occurrence j.after) (ap (fault_at all j.before j.occurrence) t.2 ∙ none) j.fault)

pub after_is_one : (all : List Occurrence) (n m : ℕ) (f g : ScriptFault) → IsFirstAfter all n f → IsFirstAfter all m g → (f ≡ g) × (n ≡ m)
after_is_one all n m f g h j =
    let same = first_is_one all f g h.first j.first in
    (same.0, h.count ∙ ap (λ (b : List Occurrence). length (subjects_of b)) same.1 ∙ sym j.count)

-- at the end of a region there is no fault, so there is a token where there is one
has_subject : (all before after : List Occurrence) (m : Occurrence) (f : ScriptFault) → fault_at all before m after ≡ Some f → (s : Subject) × (subject_of m.notice ≡ Some s)
has_subject all before after m f e = go m.notice e where
  go : (n : Notice) → fault_at all before (record { site = m.site; notice = n }) after ≡ Some f → (s : Subject) × (subject_of n ≡ Some s)
  go (declares k n) h = (_, refl)
  go (defines_routine n) h = (_, refl)
  go (defines_grouping n) h = (_, refl)
  go (uses u n) h = (_, refl)
  go substring h = (_, refl)
  go (among a b) h = (_, refl)
  go (string k t) h = (_, refl)
  go backwards h = (_, refl)
  go region_end h = absurd cc

pub after_first : (all : List Occurrence) (f : ScriptFault) → IsFirst all f → (n : ℕ) × IsFirstAfter all n f
after_first all f h =
    let s = has_subject all h.before h.after h.occurrence f h.fault in
    (length (subjects_of h.before), record { first = h; subject = s.0; is = s.1; count = refl })

-- ---- its number

subjects_parted : (before : List Occurrence) (m : Occurrence) (after : List Occurrence) → subjects_of (before ++ m ∷ after) ≡ subjects_of before ++ and_more (subject_of m.notice) (subjects_of after)
subjects_parted [] m after = refl
subjects_parted (y ∷ before) m after = go (subject_of y.notice) (subjects_parted before m after) where
  go : (x : Option Subject) → subjects_of (before ++ m ∷ after) ≡ subjects_of before ++ and_more (subject_of m.notice) (subjects_of after)
      → and_more x (subjects_of (before ++ m ∷ after)) ≡ and_more x (subjects_of before) ++ and_more (subject_of m.notice) (subjects_of after)
  go None e = e
  go (Some z) e = ap (λ (xs : List Subject). z ∷ xs) e

at_seam : (xs : List Subject) (y : Subject) (ys : List Subject) → slice_get (xs ++ y ∷ ys) (length xs) ≡ Some y
at_seam [] y ys = refl
at_seam (x ∷ xs) y ys = at_seam xs y ys

pub at_number : (all : List Occurrence) (n : ℕ) (f : ScriptFault) (h : IsFirstAfter all n f) → slice_get (subjects_of all) n ≡ Some h.subject
at_number all n f h =
    let before = subjects_of h.first.before in
    let after = subjects_of h.first.after in
    let parts : subjects_of all ≡ before ++ h.subject ∷ after =
    ap subjects_of h.first.parts ∙ subjects_parted h.first.before h.first.occurrence h.first.after ∙ ap (λ (x : Option Subject). before ++ and_more x after) h.is in
    ap (slice_get (subjects_of all)) h.count ∙ ap (λ (xs : List Subject). slice_get xs (length before)) parts ∙ at_seam before h.subject after
