-- Each edit has one verdict, since each text makes one script or has one fault.
use Rattle.std.proofs.Common.{◌≡◌, ◌∙◌, ◌⊎◌, false, Option, Some, None, refl, sym, ap, inl, inr}
use Rattle.std.proofs.lemmas.Bool.{true≢false}
use Rattle.std.proofs.lemmas.Option.{none-some, same_Some}
use Rattle.sbl_script.specs.OneEdit.{EditFaultIsOne, EditIsOne, EditOrFault}
use Rattle.sbl_script.specs.OneReading.{FaultIsOne, ScriptIsOne, ScriptOrFault}
use Rattle.sbl_rows.specs.Setting.{Setting}
use Rattle.sbl_bench.specs.declared.fault.EditFault.{EditFault}
use Rattle.sbl_bench.specs.declared.fault.EditFault.TheVariants as fault
use Rattle.sbl_bench.specs.Edits.{Edit, Add, Remove, Words, Replace, Whole, Limit, IsAccepted, IsMeterFull, IsRefused, IsSettingAfter, IsVerdict, fault_of_script}
use Rattle.sbl_bench.specs.inside.ProofNames.{contents_after, lacks_counts}
use Rattle.sbl_bench.specs.Contents.{Contents}

-- the laws of the edits and the readings of a script
pub record Facts : Type 0 where
  pub script : EditIsOne
  pub fault : EditFaultIsOne
  pub either : EditOrFault
  pub read : ScriptIsOne
  pub unread : FaultIsOne
  pub read_either : ScriptOrFault

pub facts_of : EditIsOne → EditFaultIsOne → EditOrFault → ScriptIsOne → FaultIsOne → ScriptOrFault → Facts
facts_of a b c d e f = record { script = a; fault = b; either = c; read = d; unread = e; read_either = f }

-- two settings are equal by their parts
pub both : {p q : Setting} → p.script ≡ q.script → p.limit ≡ q.limit → p ≡ q
both a b = λ i. record { script = a i; limit = b i }

setting_is_one : Facts → (s : Contents) (e : Edit) (p q : Setting) → IsSettingAfter s e p → IsSettingAfter s e q → p ≡ q
setting_is_one k s (Add word) p q h j = h.1 ∙ sym j.1
setting_is_one k s (Remove word) p q h j = h.1 ∙ sym j.1
setting_is_one k s (Words ws) p q h j = h.1 ∙ sym j.1
setting_is_one k s (Replace what text) p q h j = both (k.script s.setting.script what text p.script q.script h.0 j.0) (h.1 ∙ sym j.1)
setting_is_one k s (Whole bytes) p q h j = both (k.read bytes s.setting.script.external p.script q.script h.0 j.0) (h.1 ∙ sym j.1)
setting_is_one k s (Limit n) p q h j = both (h.1 ∙ sym j.1) (h.2 ∙ sym j.2)

refusal_is_one : Facts → (s : Contents) (e : Edit) (f g : EditFault) → IsRefused s e f → IsRefused s e g → f ≡ g
refusal_is_one k s (Add word) f g h j = same_Some f g (sym h ∙ j)
refusal_is_one k s (Remove word) f g h j = h.1 ∙ sym j.1
refusal_is_one k s (Words ws) f g h j = same_Some f g (sym h ∙ j)
refusal_is_one k s (Replace what text) f g h j = h.2 ∙ ap fault_of_script (k.fault s.setting.script what text h.0 j.0 h.1 j.1) ∙ sym j.2
refusal_is_one k s (Whole bytes) f g h j = h.2 ∙ ap fault.Script (k.unread bytes s.setting.script.external h.0 j.0 h.1 j.1) ∙ sym j.2
refusal_is_one k s (Limit n) f g h j = h.1 ∙ sym j.1

script_or_refusal : Facts → (s : Contents) (e : Edit) (p : Setting) (f : EditFault) → IsSettingAfter s e p → IsRefused s e f → ⊥
script_or_refusal k s (Add word) p f h j = none-some f (sym h.0 ∙ j)
script_or_refusal k s (Remove word) p f h j = cc
script_or_refusal k s (Words ws) p f h j = none-some f (sym h.0 ∙ j)
script_or_refusal k s (Replace what text) p f h j = k.either s.setting.script what text p.script j.0 h.0 j.1
script_or_refusal k s (Whole bytes) p f h j = k.read_either bytes s.setting.script.external p.script j.0 h.0 j.1
script_or_refusal k s (Limit n) p f h j = cc (sym h.0 ∙ j.0)

accepted_or_refused : Facts → (s : Contents) (e : Edit) (t : Contents) (f : EditFault) → IsAccepted s e t → IsRefused s e f ⊎ IsMeterFull s e f → ⊥
accepted_or_refused k s e t f h (inl j) = script_or_refusal k s e h.setting f h.after j
accepted_or_refused k s e t f h (inr j) =
    let same = setting_is_one k s e h.setting j.0 h.after j.1 in
    let no : lacks_counts s e j.0 ≡ false = sym (ap (lacks_counts s e) same) ∙ h.counts in
    absurd (true≢false (sym j.2 ∙ no))

fault_is_one : Facts → (s : Contents) (e : Edit) (f g : EditFault) → IsRefused s e f ⊎ IsMeterFull s e f → IsRefused s e g ⊎ IsMeterFull s e g → f ≡ g
fault_is_one k s e f g (inl h) (inl j) = refusal_is_one k s e f g h j
fault_is_one k s e f g (inl h) (inr j) = absurd (script_or_refusal k s e j.0 f j.1 h)
fault_is_one k s e f g (inr h) (inl j) = absurd (script_or_refusal k s e h.0 g h.1 j)
fault_is_one k s e f g (inr h) (inr j) = h.3 ∙ sym j.3

pub verdict_is_one : Facts → (s : Contents) (e : Edit) (v w : Option EditFault) (t u : Contents) → IsVerdict s e v t → IsVerdict s e w u → (v ≡ w) × (t ≡ u)
verdict_is_one k s e None None t u h j = (refl, h.is ∙ ap (contents_after s e) (setting_is_one k s e h.setting j.setting h.after j.after) ∙ sym j.is)
verdict_is_one k s e None (Some g) t u h j = absurd (accepted_or_refused k s e t g h j.0)
verdict_is_one k s e (Some f) None t u h j = absurd (accepted_or_refused k s e u f j h.0)
verdict_is_one k s e (Some f) (Some g) t u h j = (ap Some (fault_is_one k s e f g h.0 j.0), h.1 ∙ sym j.1)
