-- The first fault, with the number of tokens before it.
use Rattle.std.proofs.Common.{◌≡◌, ℕ, ◌+◌, ◌<◌, ◌≤◌, Bool, true, false, List, [], ◌∷◌, ◌++◌, Option, Some, None, length, take, drop, zero, suc, option_map, MatchOption, Result, Ok, Err, IfOk, refl, sym, ap, ◌∙◌, arith, append_assoc, append-nil}
use Rattle.std.specs.Option.{option_or}
use Rattle.sbl_text.specs.declared.fault.ScriptFault.{ScriptFault}
use Rattle.sbl_resolver.specs.declared.occurrences.Occurrence as noted
use Rattle.sbl_resolver.specs.declared.occurrences.Site.{Site}
use Rattle.sbl_resolver.specs.Occurrences.{Occurrence, Notice, declares, defines_routine, defines_grouping, uses, region_end}
use Rattle.sbl_resolver.specs.Occurrences as occurs
use Rattle.sbl_resolver.specs.Checks.{fault_at, fault_after}
use Rattle.sbl_resolver.specs.Laws.{EachPasses, IsFirst}
use Rattle.sbl_resolver.specs.Subjects.{Subject, name, string, substring, among, backwards, subject_of, subjects_of, and_more, IsFirstAfter}
use Rattle.sbl_resolver.specs.FirstFault.{first_from, one_more}
use Rattle.sbl_resolver.specs.OccurrenceView.{view_occurrence, view_occurrences}
use Rattle.sbl_resolver.proofs.Turns.{note_in, take_push, drop_cons}
use Rattle.sbl_resolver.proofs.FirstFault.{FirstFrom, here, there, each, first_from_start}

-- ---- numbers

length-push : (ms : List Occurrence) (m : Occurrence) → length (subjects_of (ms ++ m ∷ [])) ≡ one_more (subject_of m.notice) (length (subjects_of ms))
length-push [] m = go (subject_of m.notice) where
  go : (o : Option Subject) → length (and_more o []) ≡ one_more o 0
  go None = refl
  go (Some x) = refl
length-push (x ∷ ms) m = go (subject_of x.notice) (subject_of m.notice) (length-push ms m) where
  go : (o p : Option Subject) → length (subjects_of (ms ++ m ∷ [])) ≡ one_more p (length (subjects_of ms)) → length (and_more o (subjects_of (ms ++ m ∷ []))) ≡ one_more p (length (and_more o (subjects_of ms)))
  go None p e = e
  go (Some y) None e = ap suc e
  go (Some y) (Some z) e = omega arith

-- the number after one more occurrence
pub subjects_length_push : (ms : List noted.Occurrence) (i : ℕ) → i < length ms
    → length (subjects_of (view_occurrences (take (i + 1) ms))) ≡ one_more (subject_of (view_occurrence (note_in ms i)).notice) (length (subjects_of (view_occurrences (take i ms))))
subjects_length_push ms i lt = ap (λ (l : List Occurrence). length (subjects_of l)) (take_push ms i lt) ∙ length-push (view_occurrences (take i ms)) (view_occurrence (note_in ms i))

few_in : (o : Option Subject) (xs : List Subject) → length (and_more o xs) ≤ length xs + 1
few_in None xs = omega arith
few_in (Some x) xs = omega arith

few_all : (ms : List noted.Occurrence) → length (subjects_of (view_occurrences ms)) ≤ length ms
few_all [] = omega arith
few_all (m ∷ ms) = let rest = few_all ms in let one = few_in (subject_of (view_occurrence m).notice) (subjects_of (view_occurrences ms)) in omega arith

short : (i : ℕ) (ms : List noted.Occurrence) → length (take i ms) ≤ i
short zero ms = omega arith
short (suc i) [] = omega arith
short (suc i) (m ∷ ms) = let rest = short i ms in omega arith

-- there are at most as many as occurrences
pub few : (i : ℕ) (ms : List noted.Occurrence) → length (subjects_of (view_occurrences (take i ms))) ≤ i
few i ms = let a = few_all (take i ms) in let b = short i ms in omega arith

-- ---- one turn of the loop

turn : (all : List Occurrence) (ms : List noted.Occurrence) (i : ℕ) → i < length ms →
    first_from all (view_occurrences (take i ms)) (view_occurrences (drop i ms))
    ≡ option_or (option_map (λ (f : ScriptFault). (length (subjects_of (view_occurrences (take i ms))), f)) (fault_at all (view_occurrences (take i ms)) (view_occurrence (note_in ms i)) (view_occurrences (drop (i + 1) ms))))
    (first_from all (view_occurrences (take (i + 1) ms)) (view_occurrences (drop (i + 1) ms)))
turn all ms i lt =
    ap (first_from all (view_occurrences (take i ms))) (drop_cons ms i lt)
    ∙ ap (λ (bs : List Occurrence). option_or (option_map (λ (f : ScriptFault). (length (subjects_of (view_occurrences (take i ms))), f)) (fault_at all (view_occurrences (take i ms)) (view_occurrence (note_in ms i)) (view_occurrences (drop (i + 1) ms)))) (first_from all bs (view_occurrences (drop (i + 1) ms)))) (sym (take_push ms i lt))

-- the occurrence has this fault
pub stops : (all : List Occurrence) (ms : List noted.Occurrence) (i n : ℕ) (r : Option ScriptFault) (f : ScriptFault) → i < length ms
    → r ≡ fault_at all (view_occurrences (take i ms)) (view_occurrence (note_in ms i)) (view_occurrences (drop (i + 1) ms)) → r ≡ Some f → n ≡ length (subjects_of (view_occurrences (take i ms)))
    → first_from all (view_occurrences (take i ms)) (view_occurrences (drop i ms)) ≡ Some (n, f)
stops all ms i n r f lt is some count =
    turn all ms i lt
    ∙ ap (λ (o : Option ScriptFault). option_or (option_map (λ (f : ScriptFault). (length (subjects_of (view_occurrences (take i ms))), f)) o) (first_from all (view_occurrences (take (i + 1) ms)) (view_occurrences (drop (i + 1) ms)))) (sym is ∙ some)
    ∙ ap (λ (k : ℕ). Some (k, f)) (sym count)

-- it has none
pub goes_on : (all : List Occurrence) (ms : List noted.Occurrence) (i : ℕ) (r : Option ScriptFault) → i < length ms
    → r ≡ fault_at all (view_occurrences (take i ms)) (view_occurrence (note_in ms i)) (view_occurrences (drop (i + 1) ms)) → r ≡ None
    → first_from all (view_occurrences (take (i + 1) ms)) (view_occurrences (drop (i + 1) ms)) ≡ first_from all (view_occurrences (take i ms)) (view_occurrences (drop i ms))
goes_on all ms i r lt is none =
    sym (turn all ms i lt
    ∙ ap (λ (o : Option ScriptFault). option_or (option_map (λ (f : ScriptFault). (length (subjects_of (view_occurrences (take i ms))), f)) o) (first_from all (view_occurrences (take (i + 1) ms)) (view_occurrences (drop (i + 1) ms)))) (sym is ∙ none))

-- ---- the fault alone

-- it is the first fault of the checks
pub same_fault : (all before rest : List Occurrence) → fault_after all before rest ≡ option_map (λ (x : ℕ × ScriptFault). x.1) (first_from all before rest)
same_fault all before [] = refl
same_fault all before (m ∷ after) = go (fault_at all before m after) (same_fault all (before ++ m ∷ []) after) where
  go : (o : Option ScriptFault) → fault_after all (before ++ m ∷ []) after ≡ option_map (λ (x : ℕ × ScriptFault). x.1) (first_from all (before ++ m ∷ []) after)
      → option_or o (fault_after all (before ++ m ∷ []) after) ≡ option_map (λ (x : ℕ × ScriptFault). x.1) (option_or (option_map (λ (f : ScriptFault). (length (subjects_of before), f)) o) (first_from all (before ++ m ∷ []) after))
  go None e = e
  go (Some f) e = refl

-- ---- what it means

-- an occurrence with a fault has a token
has_subject : (all before after : List Occurrence) (p : Site) (n : Notice) (f : ScriptFault) → fault_at all before (record { site = p; notice = n }) after ≡ Some f → (x : Subject) × (subject_of n ≡ Some x)
has_subject all before after p (declares k n) f e = (name n, refl)
has_subject all before after p (defines_routine n) f e = (name n, refl)
has_subject all before after p (defines_grouping n) f e = (name n, refl)
has_subject all before after p (uses u n) f e = (name n, refl)
has_subject all before after p occurs.substring f e = (substring, refl)
has_subject all before after p (occurs.among a b) f e = (among, refl)
has_subject all before after p (occurs.string k v) f e = (string v, refl)
has_subject all before after p occurs.backwards f e = (backwards, refl)
has_subject all before after p region_end f e = absurd cc

record After (all done rest : List Occurrence) (n : ℕ) (f : ScriptFault) : Type 0 where
  first : FirstFrom all done rest f
  count : n ≡ length (subjects_of (done ++ first.before))

after_ : (all done rest : List Occurrence) (n : ℕ) (f : ScriptFault) → first_from all done rest ≡ Some (n, f) → After all done rest n f
after_ all done [] n f e = absurd cc
after_ all done (m ∷ after) n f e = go (fault_at all done m after) refl e (after_ all (done ++ m ∷ []) after n f) where
  stop : (g : ScriptFault) → fault_at all done m after ≡ Some g → n ≡ length (subjects_of done) → g ≡ f → After all done (m ∷ after) n f
  stop g is count same = record { first = here all done after m f (is ∙ ap Some same); count = rw append-nil count }

  more_ : fault_at all done m after ≡ None → After all (done ++ m ∷ []) after n f → After all done (m ∷ after) n f
  more_ is r = record { first = there all done after m f is r.first; count = r.count ∙ ap (λ (l : List Occurrence). length (subjects_of l)) (append_assoc done (m ∷ []) r.first.before) }

  go : (o : Option ScriptFault) → fault_at all done m after ≡ o → option_or (option_map (λ (g : ScriptFault). (length (subjects_of done), g)) o) (first_from all (done ++ m ∷ []) after) ≡ Some (n, f)
      → (first_from all (done ++ m ∷ []) after ≡ Some (n, f) → After all (done ++ m ∷ []) after n f) → After all done (m ∷ after) n f
  go (Some g) is e more =
      let both : (length (subjects_of done), g) ≡ (n, f) = cc in
      stop g is (sym (ap (λ (x : ℕ × ScriptFault). x.0) both)) (ap (λ (x : ℕ × ScriptFault). x.1) both)
  go None is e more = more_ is (more e)

first_after : (all : List Occurrence) (n : ℕ) (f : ScriptFault) → After all [] all n f → IsFirstAfter all n f
first_after all n f r =
    let has = has_subject all r.first.before r.first.after r.first.occurrence.site r.first.occurrence.notice f r.first.fault in
    record { first = first_from_start all f r.first; subject = has.0; is = has.1; count = r.count }

none_of : (all : List Occurrence) → first_from all [] all ≡ None → EachPasses all
none_of all e = each all (same_fault all [] all ∙ ap (option_map (λ (x : ℕ × ScriptFault). x.1)) e)

-- the result of the walk
pub first_is : (all : List Occurrence) (o : Option (ℕ × ScriptFault)) → o ≡ first_from all [] all → MatchOption o (EachPasses all) (λ x. IsFirstAfter all x.0 x.1)
first_is all None e = none_of all (sym e)
first_is all (Some x) e = first_after all x.0 x.1 (after_ all [] all x.0 x.1 (sym e))

-- the same, of a result
pub first_in : {E : Type 0} (r : Result (Option (ℕ × ScriptFault)) E) (a b : List Occurrence) → a ≡ b → IfOk r (λ o. o ≡ first_from a [] a) → IfOk r (λ o. MatchOption o (EachPasses b) (λ x. IsFirstAfter b x.0 x.1))
first_in (Ok o) a b e h = first_is b o (rw e at h)
first_in (Err x) a b e h = tt

-- the fault alone
pub has_none : (all : List Occurrence) (o : Option (ℕ × ScriptFault)) → o ≡ first_from all [] all → o ≡ None → fault_after all [] all ≡ None
has_none all o e is = same_fault all [] all ∙ ap (option_map (λ (x : ℕ × ScriptFault). x.1)) (sym e ∙ is)

pub has_first : (all : List Occurrence) (o : Option (ℕ × ScriptFault)) (x : ℕ × ScriptFault) → o ≡ first_from all [] all → o ≡ Some x → fault_after all [] all ≡ Some x.1
has_first all o x e is = same_fault all [] all ∙ ap (option_map (λ (x : ℕ × ScriptFault). x.1)) (sym e ∙ is)
