-- Taking an edit back, and a whole script that is the one in force.
use Rattle.std.proofs.Common.{◌≡◌, ◌∙◌, ℕ, Bool, true, false, List, [], ◌∷◌, ◌+◌, map, length, Option, arith, refl, sym, ap}
use Rattle.std.specs.List.{filter, list_any}
use Rattle.std.proofs.Math.Path.{fun_ext}
use Rattle.std.proofs.lemmas.Bool.{true≢false}
use Rattle.sbl_ast.specs.Source.{Source}
use Rattle.sbl_machine.specs.BuiltFrom.{meets_one}
use Rattle.sbl_semantics.specs.Differs.{differs}
use Rattle.sbl_machine.specs.DifferLaws.{AlikeDifferNowhere}
use Rattle.sbl_semantics.specs.Outcome.{touches_of}
use Rattle.sbl_semantics.specs.TouchedItems.{item_of_touch, names_of}
use Rattle.sbl_ast.specs.NamedParts.{Part'}
use Rattle.sbl_rows.specs.Classes.{classes_of}
use Rattle.sbl_bench.specs.Contents.{Contents}
use Rattle.sbl_bench.specs.Edits.{Edit, Add, Remove, Words, Replace, Whole, Limit, IsSettingAfter, is_of_script, runs_needed}
use Rattle.sbl_bench.specs.inside.ProofNames.{meets_listed}
use Rattle.sbl_bench.specs.EqualScripts.{EqualScriptRunsNothing}
use Rattle.sbl_rows.specs.Rows.{rows_of}
use Rattle.sbl_rows.specs.Setting.{Setting}
use Rattle.sbl_bench.specs.Traces.{trace_of}
use Rattle.sbl_bench.specs.Undo.{Shows, UndoOfLimit, UndoOfScript}
use Rattle.sbl_bench.proofs.OneVerdict.{both}
use Rattle.sbl_bench.proofs.Refusals.{filter_off}

-- ---- back to the setting before

shows : (v : Contents) (s : Setting) (words : List (List ℕ)) → v.setting ≡ s → v.words ≡ words → Shows v s words
shows v s words same stay = record {
  setting = same;
  rows = λ i. rows_of (same i) (stay i);
  classes = λ i. classes_of (rows_of (same i) (stay i));
  traces = λ word i. trace_of (same i) (stay i) word;
}

-- an edit of the script leaves the limit
limit_stays : (s : Contents) (e : Edit) (t : Setting) → is_of_script e ≡ true → IsSettingAfter s e t → t.limit ≡ s.setting.limit
limit_stays s (Add word) t is h = absurd (true≢false (sym is))
limit_stays s (Remove word) t is h = absurd (true≢false (sym is))
limit_stays s (Words ws) t is h = absurd (true≢false (sym is))
limit_stays s (Replace what text) t is h = h.1
limit_stays s (Whole bytes) t is h = h.1
limit_stays s (Limit n) t is h = absurd (true≢false (sym is))

pub script_undone : UndoOfScript
script_undone s t u v e bytes is h same j script =
    let limit : j.setting.limit ≡ s.setting.limit = j.after.1 ∙ ap (λ (x : Setting). x.limit) (same ∙ ap (λ (x : Contents). x.setting) h.is) ∙ limit_stays s e h.setting is h.after in
    let read : j.setting.script ≡ s.setting.script = sym (ap (λ (x : Contents). x.setting.script) j.is) ∙ script in
    shows v s.setting u.words (ap (λ (x : Contents). x.setting) j.is ∙ both read limit) (ap (λ (x : Contents). x.words) j.is)

pub limit_undone : UndoOfLimit
limit_undone s t u v n h same j =
    let script : j.setting.script ≡ s.setting.script = j.after.1 ∙ ap (λ (x : Setting). x.script) (same ∙ ap (λ (x : Contents). x.setting) h.is) ∙ h.after.1 in
    shows v s.setting u.words (ap (λ (x : Contents). x.setting) j.is ∙ both script j.after.2) (ap (λ (x : Contents). x.words) j.is)

-- ---- the script in force

none_any : {A : Type 0} (xs : List A) → list_any (λ x. false) xs ≡ false
none_any [] = refl
none_any (x ∷ xs) = none_any xs

meets_none : (s : Source) (w : List ℕ) (limit : ℕ) → meets_one [] s w limit ≡ false
unfolding meets_one
meets_none s w limit = none_any (map (item_of_touch (names_of s)) (touches_of s w limit))

nothing_met : AlikeDifferNowhere → (p q : Source) (limit : ℕ) → q ≡ p → (w : List ℕ) → meets_listed (differs p q) p w limit ≡ false
nothing_met law p q limit same w =
    ap (λ (x : Source). meets_listed (differs p x) p w limit) same
    ∙ ap (λ (xs : Option (List Part')). meets_listed xs p w limit) (law p)
    ∙ meets_none p w limit

none_filtered : (met : List ℕ → Bool) (words : List (List ℕ)) → ((w : List ℕ) → met w ≡ false) → length (filter met words) ≡ 0
none_filtered met words off = ap (λ (test : List ℕ → Bool). length (filter test words)) (fun_ext off) ∙ ap length (filter_off words)

same_contents : (s t : Contents) (q : Setting) (n : ℕ) → q ≡ s.setting → n ≡ 0 → t ≡ record { setting = q; words = s.words; count = s.count + n } → t ≡ s
same_contents s t q n same none is = is ∙ (λ i. record { setting = same i; words = s.words; count = count i })
  where
    count : s.count + n ≡ s.count
    count = omega (arith, none)

pub equal_read : AlikeDifferNowhere → EqualScriptRunsNothing
equal_read law s t bytes h same =
    let script : h.setting.script ≡ s.setting.script = sym (ap (λ (x : Contents). x.setting.script) h.is) ∙ same in
    same_contents s t h.setting (runs_needed s (Whole bytes) h.setting) (both script h.after.1)
    (none_filtered _ s.words (nothing_met law s.setting.script h.setting.script s.setting.limit script)) h.is
