-- The parts of an answer, put together.
use Rattle.std.proofs.Common.{◌≡◌, inl, inr, ◌∙◌, ℕ, List, Option, Result, Ok, Err, refl, sym, subst}
use Rattle.std.proofs.KnownBytes.{Appends-nil, Keeps-refl}
use Rattle.std.specs.declared.vec.Vec.{Vec}
use Rattle.std.specs.declared.alloc.Global.{Global}
use Rattle.sbl_bench.specs.Contents.{Contents}
use Rattle.sbl_batch.specs.Differences.{IsChecked}
use Rattle.sbl_ast.specs.Source.{Source}
use Rattle.sbl_input.specs.Loading.{IsLoaded, ReadsScript, TookSource}
use Rattle.sbl_sessions.specs.Session.{IsSession}
use Rattle.sbl_input.specs.declared.faults.LoadFault.{LoadFault}
use Rattle.sbl_input.specs.declared.faults.LoadFault.TheVariants.{Input, Open, Script}
use Rattle.sbl_io.specs.declared.faults.ServeFault.{ServeFault}
use Rattle.sbl_io.specs.declared.faults.ServeFault.TheVariants as fault
use Rattle.sbl_input.proofs.LoadFacts.{script_unread}
use Rattle.snowbench.specs.WholeCheck.{ChecksLists, IsWholeCheck, ReadsExpected, ReadsWords, list_text}
use Rattle.snowbench.specs.WholeSession.{IsWholeSession, as_load}
use Rattle.sbl_batch.specs.Filter.{IsFiltered}
use Rattle.snowbench.specs.StemmedRows.{IsStemmed}
use Rattle.snowbench.specs.Program.{IsAnswer, IsReported, IsWritten, fault_line}
use Rattle.sbl_command_line.specs.declared.command_line.Verb.{Verb}
use Rattle.sbl_command_line.specs.declared.command_line.Verb.TheVariants as verb
use Rattle.sbl_io.specs.Devices.{HasStopped, Tally}
use Rattle.std.specs.Prelude.{◌==◌, IfErr, OnOk, if◌then◌else◌, take}
use Rattle.std.specs.Io.KnownBytes.{Appends}

pub session_refused : {B : Type 0} (a b : Option (List ℕ)) (external : List ℕ) (h : Option (List ℕ)) (state : B → Contents) (f : LoadFault)
    → IsLoaded a b external state (Err f) → IsWholeSession a b external h h (Err f)
session_refused a b external h state f is = inl (f, refl, is, Appends-nil h)

pub session_served : {B : Type 0} (a b c : Option (List ℕ)) (external : List ℕ) (h i : Option (List ℕ)) (state : B → Contents) (bench : B) (t : Contents)
    (served : Result (Unit {0}) ServeFault) → IsLoaded a b external state (Ok bench) → IsSession (record { input = b; held = h; bench = state bench }) (record { input = c; held = i; bench = t }) served
    → IsWholeSession a c external h i (as_load served)
session_served a b c external h i state bench t served loaded session = inr (b, state bench, t, served, refl, loaded, session)

-- ---- checks

pub lists_no_words : (s : Source) (a b h : Option (List ℕ)) (f : ServeFault) → ReadsWords a b (Err f) → ChecksLists s a b h h (Err f)
lists_no_words s a b h f words = inl (f, refl, inl words, Appends-nil h)

pub lists_no_expected : (s : Source) (a b c h : Option (List ℕ)) (text : Vec ℕ Global) (f : ServeFault) → ReadsWords a b (Ok text) → ReadsExpected b c (Err f)
    → ChecksLists s a c h h (Err f)
lists_no_expected s a b c h text f words expected = inl (f, refl, inr (b, words.0, words.1, expected), Appends-nil h)

pub lists_checked : (s : Source) (a b c h i : Option (List ℕ)) (words expected : Vec ℕ Global) (w e : List ℕ) (result : Result ℕ ServeFault)
    → ReadsWords a b (Ok words) → ReadsExpected b c (Ok expected) → w ≡ words.items → e ≡ expected.items → IsChecked s w e h i result
    → ChecksLists s a c h i result
lists_checked s a b c h i words expected w e result p q same also checked =
    inr (
      b,
      p.0,
      q.0,
      p.1,
      q.1,
      subst (λ (x : List ℕ). IsChecked s x (list_text q.0) h i result) (same ∙ p.2) (subst (λ (y : List ℕ). IsChecked s w y h i result) (also ∙ q.2) checked),
    )

pub check_no_text : (a b : Option (List ℕ)) (external : List ℕ) (h : Option (List ℕ)) (f : LoadFault) → ReadsScript a b (Err f) → IsWholeCheck a b external h h (Err f)
check_no_text a b external h (Script f) reads =
    inl (Script f, refl, script_unread a b external (λ (s : Contents). s) (Script f) reads, Appends-nil h)
check_no_text a b external h (Open f) reads = absurd reads
check_no_text a b external h (Input f) reads = inl (Input f, refl, reads, Appends-nil h)

pub check_lists : (a b c : Option (List ℕ)) (external : List ℕ) (h i : Option (List ℕ)) (s : Source) (checked : Result ℕ ServeFault) → TookSource a b external s
    → ChecksLists s b c h i checked → IsWholeCheck a c external h i (as_load checked)
check_lists a b c external h i s checked took lists = inr (b, s, checked, refl, took, lists)

-- ---- the answer of a subcommand

pub answer_session : (v : Verb) (e x : List ℕ) (a b h i : Option (List ℕ)) → v ≡ verb.Session → x ≡ e → IsWholeSession a b x h i (Ok tt) → IsAnswer v e a b h i (Ok 0)
answer_session v e x a b h i is same session =
    subst (λ (k : Verb). IsAnswer k e a b h i (Ok 0)) (sym is) (subst (λ (y : List ℕ). IsWholeSession a b y h i (Ok tt)) same session, refl)

pub answer_session_fault : (v : Verb) (e x : List ℕ) (a b h i : Option (List ℕ)) (f : LoadFault) → v ≡ verb.Session → x ≡ e → IsWholeSession a b x h i (Err f)
    → IsAnswer v e a b h i (Err f)
answer_session_fault v e x a b h i f is same session =
    subst (λ (k : Verb). IsAnswer k e a b h i (Err f)) (sym is) (subst (λ (y : List ℕ). IsWholeSession a b y h i (Err f)) same session)

pub answer_stem : (v : Verb) (e x : List ℕ) (a b h i : Option (List ℕ)) → v ≡ verb.Stem → x ≡ e → IsStemmed a b x h i (Ok tt) → IsAnswer v e a b h i (Ok 0)
answer_stem v e x a b h i is same stems =
    subst (λ (k : Verb). IsAnswer k e a b h i (Ok 0)) (sym is) (subst (λ (y : List ℕ). IsStemmed a b y h i (Ok tt)) same stems, refl)

pub answer_stem_fault : (v : Verb) (e x : List ℕ) (a b h i : Option (List ℕ)) (f : LoadFault) → v ≡ verb.Stem → x ≡ e → IsStemmed a b x h i (Err f)
    → IsAnswer v e a b h i (Err f)
answer_stem_fault v e x a b h i f is same stems =
    subst (λ (k : Verb). IsAnswer k e a b h i (Err f)) (sym is) (subst (λ (y : List ℕ). IsStemmed a b y h i (Err f)) same stems)

pub answer_filter : (v : Verb) (e x : List ℕ) (a b h i : Option (List ℕ)) → v ≡ verb.Filter → x ≡ e → IsFiltered a b x h i (Ok tt) → IsAnswer v e a b h i (Ok 0)
answer_filter v e x a b h i is same rows =
    subst (λ (k : Verb). IsAnswer k e a b h i (Ok 0)) (sym is) (subst (λ (y : List ℕ). IsFiltered a b y h i (Ok tt)) same rows, refl)

pub answer_filter_fault : (v : Verb) (e x : List ℕ) (a b h i : Option (List ℕ)) (f : LoadFault) → v ≡ verb.Filter → x ≡ e → IsFiltered a b x h i (Err f)
    → IsAnswer v e a b h i (Err f)
answer_filter_fault v e x a b h i f is same rows =
    subst (λ (k : Verb). IsAnswer k e a b h i (Err f)) (sym is) (subst (λ (y : List ℕ). IsFiltered a b y h i (Err f)) same rows)

pub answer_check : (v : Verb) (e x : List ℕ) (a b h i : Option (List ℕ)) (r : Result ℕ LoadFault) → v ≡ verb.Check → x ≡ e → IsWholeCheck a b x h i r
    → IsAnswer v e a b h i r
answer_check v e x a b h i r is same checks =
    subst (λ (k : Verb). IsAnswer k e a b h i r) (sym is) (subst (λ (y : List ℕ). IsWholeCheck a b y h i r) same checks)

pub answer_work : (v : Verb) (e : List ℕ) (a h : Option (List ℕ)) → v ≡ verb.Work → IsAnswer v e a a h h (Ok 0)
answer_work v e a h is = subst (λ (k : Verb). IsAnswer k e a a h h (Ok 0)) (sym is) (refl, Keeps-refl a, Appends-nil h)

-- ---- the report of an answer

module _ {E : Type 0} (held : E → Option (List ℕ)) (tally : E → Tally) where
  pub reports_status : (e : E) (status n : ℕ) (r : Result ℕ LoadFault) → r ≡ Ok n → status ≡ (if n == 0 then 0 else 1) → IsReported held tally e e status r
  reports_status e status n r is so = subst (λ (x : Result ℕ LoadFault). IsReported held tally e e status x) (sym is) (so, Appends-nil (held e))

  pub writes_line : (e v : E) (bytes line : List ℕ) (r : Result (Unit {0}) ServeFault) → bytes ≡ line → OnOk r (Appends (held e) (held v) bytes)
      → ((n : ℕ) × Appends (held e) (held v) (take n bytes)) → IfErr r (λ f. (f ≡ fault.Write) × HasStopped tally e v)
      → IsWritten held tally e v line
  writes_line e v bytes line (Ok u) is all prefix why = inl (subst (λ (t : List ℕ). Appends (held e) (held v) t) is all)
  writes_line e v bytes line (Err f) is all prefix why =
      inr (prefix.0, subst (λ (t : List ℕ). Appends (held e) (held v) (take prefix.0 t)) is prefix.1, why.1)

  pub reported_fault : (e v : E) (f : LoadFault) (a : Result ℕ LoadFault) (text bytes : List ℕ) (r : Result (Unit {0}) ServeFault) → a ≡ Err f
      → bytes ≡ fault_line text → OnOk r (Appends (held e) (held v) bytes) → ((n : ℕ) × Appends (held e) (held v) (take n bytes))
      → IfErr r (λ f. (f ≡ fault.Write) × HasStopped tally e v) → IsReported held tally e v 1 a
  reported_fault e v f a text bytes r is line all prefix why =
      subst (λ (x : Result ℕ LoadFault). IsReported held tally e v 1 x) (sym is) (refl, text, writes_line e v bytes (fault_line text) r line all prefix why)
