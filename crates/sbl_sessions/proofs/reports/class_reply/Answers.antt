use Rattle.std.proofs.Common.{◌≡◌, ◌∙◌, List, ℕ, Option, Some, None, IfOk, refl, rules, subst, sym, take}
use Rattle.std.specs.List.{find}
use Rattle.std.specs.Str.{bytes_eq, chars}
use Rattle.sbl_bench.specs.Contents.{rows_now}
use Rattle.sbl_bench.specs.KeptRuns.{contents_of}
use Rattle.sbl_rows.specs.Rows.{Row, view_row}
use Rattle.sbl_sessions.specs.Answers.{Enough, IsReport, Memory}
use Rattle.sbl_sessions.specs.CommandViews.{IsReply}
use Rattle.sbl_reports.specs.Listings.{class_text}
use Rattle.sbl_reports.specs.inside.ListingParts.{class_or_row_text}
use Rattle.sbl_sessions.proofs.FirstFacts.{first_taken, looks, row_first, whole_of}
use Rattle.sbl_sessions.proofs.ReportFacts.{class_text_is, report_answer}
use Rattle.sbl_sessions.proofs.reports.class_reply.Goals as goal

pub returns-in-Some : goal.returns-in-Some
returns-in-Some c =
    let s = contents_of c.args.bench.now in
    let word = chars c.args.word.now in
    let row : Row = view_row c.in-Some.row in
    let first = first_taken c.first_characters-count.result c.first_characters-count.new.room word (search rules) c.first_characters-count.ensures.first in
    let cut : Some row ≡ find (λ (r : Row). bytes_eq (take 256 word) r.word) (rows_now s) =
    subst (λ (w : List ℕ). Some row ≡ find (λ (r : Row). bytes_eq w r.word) (rows_now s)) first c.in-Some.ensures in
    let seen = looks s.words c.words_fit.ensures word in
    let here : Some row ≡ find (λ (r : Row). bytes_eq word r.word) (rows_now s) = cut ∙ row_first s.setting s.words word seen in
    let text : class_text s word ≡ Some (class_or_row_text s word row) = class_text_is s word (Some row) (sym here) in
    let same : take 256 word ≡ word = whole_of s.setting s.words word row seen here in
    let made : IfOk c.class_or_row_text.result (λ t. t.items ≡ class_or_row_text s word row) =
    subst (λ (w : List ℕ). IfOk c.class_or_row_text.result (λ t. t.items ≡ class_or_row_text s w row)) (first ∙ same) c.class_or_row_text.ensures in
    subst (λ (o : Option (List ℕ)). (memory : Memory) × (text : List ℕ) × IsReply c.report.result text × IsReport s o memory text s) (sym text)
    (report_answer c.class_or_row_text.result c.report.result s (class_or_row_text s word row) made c.report.ensures.made c.report.ensures.refused)

pub returns-in-None : goal.returns-in-None
returns-in-None c =
    let s = contents_of c.args.bench.now in
    let word = chars c.args.word.now in
    let first = first_taken c.first_characters-count.result c.first_characters-count.new.room word (search rules) c.first_characters-count.ensures.first in
    let cut : None ≡ find (λ (r : Row). bytes_eq (take 256 word) r.word) (rows_now s) =
    subst (λ (w : List ℕ). None ≡ find (λ (r : Row). bytes_eq w r.word) (rows_now s)) first c.in-None.ensures in
    let here : None ≡ find (λ (r : Row). bytes_eq word r.word) (rows_now s) = cut ∙ row_first s.setting s.words word (looks s.words c.words_fit.ensures word) in
    let text : class_text s word ≡ None = class_text_is s word None (sym here) in
    let told = c.edit_text.result.now in
    subst (λ (o : Option (List ℕ)). (memory : Memory) × (text : List ℕ) × (told ≡ text) × IsReport s o memory text s) (sym text) (Enough, told, refl, (c.edit_text.ensures, refl))
