use Rattle.std.proofs.Common.{rules, ◌≡◌, ◌∙◌, ◌∷◌, ◌&&◌, Bool, false, ap, sym}
use Rattle.std.specs.Str.{is_utf8}
use Rattle.sbl_io.specs.LinesOf.{lines_of}
use Rattle.sbl_reports.specs.StemLines.{are_text}
use Rattle.sbl_reports.proofs.written_stems.text_line_count.Goals as goal

pub returns-then-not-is_text : goal.returns-then-not-is_text
returns-then-not-is_text c =
    let lines : lines_of c.loop-line.rest.now ≡ c.in-Some.line.now ∷ lines_of c.in-Some.after.now = search rules in
    let off : is_utf8 c.in-Some.line.now ≡ false = search rules in
    sym c.loop-line.invariant.text ∙ ap are_text lines ∙ ap (λ (b : Bool). b && are_text (lines_of c.in-Some.after.now)) off
