use Rattle.std.proofs.Common.{◌≡◌, ◌∙◌, [], ◌∷◌, List, ℕ, refl, sym, ap, map}
use Rattle.std.proofs.lemmas.List.{append-nil}
use Rattle.std.proofs.lemmas.Iterator.{YieldsList-from_chars}
use Rattle.std.proofs.lemmas.Iterator.Consumers.{YieldsList-end}
use Rattle.std.specs.Str.{chars}
use Rattle.sbl_reports.specs.FamilyReader.{families_read, read_on, words_read}
use Rattle.sbl_reports.specs.declared.families.Reader.{Reader}
use Rattle.sbl_reports.proofs.FamilyFacts.{read_end, reads_families}
use Rattle.sbl_reports.proofs.families.families_in.Goals as goal

map_same : (xs : List ℕ) → map (λ x. x) xs ≡ xs
map_same [] = refl
map_same (x ∷ xs) = ap (λ (ys : List ℕ). x ∷ ys) (map_same xs)

pub returns : goal.returns
returns c =
    let t = YieldsList-end (YieldsList-from_chars c.args.text.now c.utf8.text cc) c.loop-character.yielded _ c.loop-character.yielded_by _ _ c.in-None.is c.next.ensures.steps in
    let r : Reader = c.loop-character.reader in
    let all : c.loop-character.yielded ≡ chars c.args.text.now = sym (map_same c.loop-character.yielded) ∙ t.0 in
    c.in_ok-end_line.ensures.families ∙ sym (read_end (families_read r.families.items) (words_read r.family.items) r.word.items) ∙ c.loop-character.invariant []
    ∙ ap (read_on [] [] []) (append-nil c.loop-character.yielded ∙ all) ∙ reads_families (chars c.args.text.now)
