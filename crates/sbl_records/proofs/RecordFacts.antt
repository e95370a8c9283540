-- The lines of values, by what these stand for.
use Rattle.std.proofs.Common.{append_assoc, ◌≡◌, ◌<◌, ◌+◌, ◌∙◌, ◌++◌, ◌∷◌, [], ℕ, List, get_or, length, map, take, ap, sym}
use Rattle.std.specs.Str.{encode_utf8_all}
use Rattle.std.specs.declared.vec.Vec.{Vec}
use Rattle.std.specs.declared.alloc.Global.{Global}
use Rattle.std.proofs.lemmas.List.{flat_map_more, map-append, take_more}
use Rattle.std.proofs.lemmas.Simd.{map-map}
use Rattle.sbl_io.specs.Records.{record_line, records_text}
use Rattle.sbl_rows.specs.Classes.{words_of}

pub seen_lines : {D V : Type 0} (fields : V → List (List ℕ)) (see : D → V) (values given : List D) (text : List ℕ) → text ≡ records_text (map (λ d. fields (see d)) values) → values ≡ given → text ≡ records_text (map fields (map see given))
seen_lines fields see values given text e same =
    e ∙ ap (λ ds. records_text (map (λ d. fields (see d)) ds)) same ∙ ap records_text (sym (map-map fields see given))

-- the lines of one value more
pub records_more : {X : Type 0} (fields : X → List (List ℕ)) (xs : List X) (i : ℕ) (x : X) → i < length xs → x ≡ get_or xs i x
    → records_text (map fields (take i xs)) ++ record_line (fields x) ≡ records_text (map fields (take (i + 1) xs))
records_more {X} fields xs i x lt is =
    let one : take i xs ++ x ∷ [] ≡ take (i + 1) xs = ap (λ (y : X). take i xs ++ y ∷ []) is ∙ sym (take_more xs i x lt) in
    flat_map_more record_line [] (map fields (take i xs)) (fields x) ∙ ap records_text (sym (map-append fields (take i xs) (x ∷ [])) ∙ ap (map fields) one)

-- the field of one word more
pub word_field : (words : List (Vec ℕ Global)) (i : ℕ) (w : Vec ℕ Global) (first old new : List (List ℕ)) → i < length words → w ≡ get_or words i w
    → old ≡ first ++ map encode_utf8_all (words_of (take i words)) → new ≡ old ++ encode_utf8_all w.items ∷ []
    → new ≡ first ++ map encode_utf8_all (words_of (take (i + 1) words))
word_field words i w first old new lt is before more =
    let enc = encode_utf8_all in
    let one : words_of (take (i + 1) words) ≡ words_of (take i words) ++ w.items ∷ [] =
    ap words_of (take_more words i w lt ∙ ap (λ (x : Vec ℕ Global). take i words ++ x ∷ []) (sym is)) ∙ map-append {A = Vec ℕ Global} (λ x. x.items) (take i words) (w ∷ []) in
    more ∙ ap (λ (x : List (List ℕ)). x ++ enc w.items ∷ []) before ∙ append_assoc first (map enc (words_of (take i words))) (enc w.items ∷ [])
    ∙ ap (λ (x : List (List ℕ)). first ++ x) (sym (ap (map enc) one ∙ map-append enc (words_of (take i words)) (w.items ∷ [])))
