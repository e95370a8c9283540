-- Steps one after another.
use Rattle.std.proofs.Common.{◌≡◌, ◌∙◌, ◌++◌, ◌⊎◌, inl, inr, ℕ, true, false, List, Option, Some, None, Result, Ok, Err, OnOk, OnErr, refl, sym, ap, subst}
use Rattle.std.specs.Option.{option_map}
use Rattle.std.specs.Prelude.{is_err}
use Rattle.sbl_saving.specs.Folders.{Folder, after_failed, after_flush, after_flush_of_names, after_no_remove, after_rename, with_bytes, with_draft, with_part, with_text, with_unsettled_text, without_draft}
use Rattle.sbl_saving.specs.Replacing.{FailsAt, HasPart}
use Rattle.sbl_saving.specs.declared.folder.Failed.{Failed}
use Rattle.sbl_saving.specs.declared.folder.SaveStep.{SaveStep}
use Rattle.sbl_saving.specs.declared.folder.SaveStep.TheVariants as step

-- a step failed, and the target is as before
abbrev Stops : SaveStep → Folder → Folder → Type 0
Stops s f g = (g.target ≡ f.target) × (g.now ≡ f.now) × (g.ever ≡ f.ever) × (g.failed ≡ Some s)

-- a step failed, and then the new file is removed, or it is not
fails_remove : (s : SaveStep) (h : Folder → Folder) → ((f : Folder) → Stops s f (h f)) → (r : Result (Unit {0}) Failed) (o m n : Option Folder)
    → m ≡ option_map h o → OnOk r (n ≡ option_map without_draft m) → OnErr r (n ≡ option_map after_no_remove m) → FailsAt s o n
fails_remove s h stops (Ok u) (Some f) m n is done failed =
    subst (FailsAt s (Some f)) (sym (done ∙ ap (option_map without_draft) is)) ((stops f).0, (stops f).1, (stops f).2, (stops f).3, inl refl)
fails_remove s h stops (Err e) (Some f) m n is done failed =
    subst (FailsAt s (Some f)) (sym (failed ∙ ap (option_map after_no_remove) is)) ((stops f).0, (stops f).1, (stops f).2, (stops f).3, inr refl)
fails_remove s h stops (Ok u) None m n is done failed = subst (FailsAt s None) (sym (done ∙ ap (option_map without_draft) is)) tt
fails_remove s h stops (Err e) None m n is done failed = subst (FailsAt s None) (sym (failed ∙ ap (option_map after_no_remove) is)) tt

-- one step after another
both : (h k : Folder → Folder) (o m n : Option Folder) → m ≡ option_map h o → n ≡ option_map k m → n ≡ option_map (λ f. k (h f)) o
both h k (Some f) m n p q = q ∙ ap (option_map k) p
both h k None m n p q = q ∙ ap (option_map k) p

-- a part of the text is written
part_remove : (s : SaveStep) (r : Result (Unit {0}) Failed) (o a b n : Option Folder) → a ≡ option_map with_draft o → HasPart s a b
    → OnOk r (n ≡ option_map without_draft b) → OnErr r (n ≡ option_map after_no_remove b) → FailsAt s o n
part_remove s r o a b n made part done failed =
    fails_remove s (λ f. after_failed s (with_part part.0 (with_draft f))) (λ f. (refl, refl, refl, refl)) r o b n
    (both with_draft (λ f. after_failed s (with_part part.0 f)) o a b made part.1) done failed

pub keeps_part : (r : Result (Unit {0}) Failed) (o a b n : Option Folder) → a ≡ option_map with_draft o → HasPart step.Write a b ⊎ HasPart step.Flush a b
    → OnOk r (n ≡ option_map without_draft b) → OnErr r (n ≡ option_map after_no_remove b) → FailsAt step.Write o n ⊎ FailsAt step.Flush o n
keeps_part r o a b n made (inl part) done failed = inl (part_remove step.Write r o a b n made part done failed)
keeps_part r o a b n made (inr part) done failed = inr (part_remove step.Flush r o a b n made part done failed)

-- all of it is, and is flushed, but the new file does not get the name
pub keeps_text : (text : List ℕ) (r : Result (Unit {0}) Failed) (o a b c n : Option Folder) → a ≡ option_map with_draft o
    → b ≡ option_map (λ f. after_flush (with_bytes text f)) a → c ≡ option_map (after_failed step.Rename) b
    → OnOk r (n ≡ option_map without_draft c) → OnErr r (n ≡ option_map after_no_remove c) → FailsAt step.Rename o n
keeps_text text r o a b c n made filled failed_name done failed =
    fails_remove step.Rename (λ f. after_failed step.Rename (after_flush (with_bytes text (with_draft f)))) (λ f. (refl, refl, refl, refl)) r o c n
    (both (λ f. after_flush (with_bytes text (with_draft f))) (after_failed step.Rename) o b c
    (both with_draft (λ f. after_flush (with_bytes text f)) o a b made filled) failed_name) done failed

-- all steps up to the name
up_to_name : (text : List ℕ) (o a b c : Option Folder) → a ≡ option_map with_draft o → b ≡ option_map (λ f. after_flush (with_bytes text f)) a → c ≡ option_map after_rename b
    → c ≡ option_map (λ f. after_rename (after_flush (with_bytes text (with_draft f)))) o
up_to_name text o a b c p q r =
    both (λ f. after_flush (with_bytes text (with_draft f))) after_rename o b c (both with_draft (λ f. after_flush (with_bytes text f)) o a b p q) r

-- all steps but the last one
pub steps_to_name : (text : List ℕ) (o a b c n : Option Folder) → a ≡ option_map with_draft o → b ≡ option_map (λ f. after_flush (with_bytes text f)) a → c ≡ option_map after_rename b
    → n ≡ option_map (after_failed step.FlushNames) c → n ≡ option_map (with_unsettled_text text) o
steps_to_name text o a b c n p q r last =
    both (λ f. after_rename (after_flush (with_bytes text (with_draft f)))) (after_failed step.FlushNames) o c n (up_to_name text o a b c p q r) last

-- all steps
pub steps_to_end : (text : List ℕ) (o a b c n : Option Folder) → a ≡ option_map with_draft o → b ≡ option_map (λ f. after_flush (with_bytes text f)) a → c ≡ option_map after_rename b
    → n ≡ option_map after_flush_of_names c → n ≡ option_map (with_text text) o
steps_to_end text o a b c n p q r last =
    both (λ f. after_rename (after_flush (with_bytes text (with_draft f)))) after_flush_of_names o c n (up_to_name text o a b c p q r) last

-- ---- results

pub on_err : (r : Result (Unit {0}) Failed) (P : Type 0) → is_err r ≡ true → OnErr r P → P
on_err (Err e) P is p = p
on_err (Ok u) P is p = let no : false ≡ true = is in absurd (cc no)

pub on_ok : (r : Result (Unit {0}) Failed) (P : Type 0) → is_err r ≡ false → OnOk r P → P
on_ok (Ok u) P is p = p
on_ok (Err e) P is p = let no : true ≡ false = is in absurd (cc no)

-- ---- the text in the new file

bytes_are_part : (bytes : List ℕ) (o m n : Option Folder) → m ≡ option_map (with_bytes bytes) o → n ≡ option_map (after_failed step.Flush) m → HasPart step.Flush o n
bytes_are_part bytes (Some f) m n p q = (option_map (λ d. d ++ bytes) f.draft, q ∙ ap (option_map (after_failed step.Flush)) p)
bytes_are_part bytes None m n p q = (None, q ∙ ap (option_map (after_failed step.Flush)) p)

pub fill_ok : (r : Result (Unit {0}) Failed) (bytes : List ℕ) (o m n : Option Folder) → m ≡ option_map (with_bytes bytes) o → OnOk r (n ≡ option_map after_flush m)
    → OnOk r (n ≡ option_map (λ f. after_flush (with_bytes bytes f)) o)
fill_ok (Ok u) bytes o m n written flushed = both (with_bytes bytes) after_flush o m n written flushed
fill_ok (Err e) bytes o m n written flushed = tt

pub fill_err : (r : Result (Unit {0}) Failed) (bytes : List ℕ) (o m n : Option Folder) → m ≡ option_map (with_bytes bytes) o → OnErr r (n ≡ option_map (after_failed step.Flush) m)
    → OnErr r (HasPart step.Write o n ⊎ HasPart step.Flush o n)
fill_err (Ok u) bytes o m n written failed = tt
fill_err (Err e) bytes o m n written failed = inr (bytes_are_part bytes o m n written failed)
