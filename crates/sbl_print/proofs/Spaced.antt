-- Each line is tokens that stand apart, and so are lines one after another.
use Rattle.std.proofs.Common.{◌≡◌, ℕ, ◌<◌, Bool, true, false, List, [], ◌∷◌, ◌++◌, map, refl, sym, ap, ◌∙◌, arith, append_assoc}
use Rattle.std.specs.Prelude.{◌&&◌, encode_utf8_all}
use Rattle.std.specs.List.{flat_map, join_by}
use Rattle.std.proofs.lemmas.List.{map-append}
use Rattle.std.proofs.lemmas.Str.{encode_ascii}
use Rattle.sbl_text.specs.Classes.{is_white}
use Rattle.sbl_token.specs.Lexemes.{Lexeme, word, sign}
use Rattle.sbl_token.specs.declared.words.Word.TheVariants as words
use Rattle.sbl_token.specs.declared.signs.Sign.TheVariants as signs
use Rattle.sbl_text.specs.SpacedTokens.{SpacedToken, are_white, lexeme_text, lexemes_of, spaced_text}
use Rattle.sbl_ast.specs.Tree.{Plain, declaration, Item, plain, backward}
use Rattle.sbl_ast.specs.Places as places
use Rattle.sbl_ast.specs.Places.{AtDepth, placed_item, placed_plain, tokens}
use Rattle.sbl_ast.specs.inside.PlaceParts.{placed_items, placed_plains}
use Rattle.sbl_ast.proofs.After.{plain_before}
use Rattle.sbl_print.specs.Adding.{space}
use Rattle.sbl_print.specs.Canonical.{line, plain_text, item_text, canonical}
use Rattle.sbl_print.specs.SpacedItems.{IsSpaced}

one_byte : (c : ℕ) → c < 128 → encode_utf8_all (c ∷ []) ≡ c ∷ []
one_byte c h = ap (λ (x : List ℕ). x ++ []) (encode_ascii c h)

-- ---- one line

abbrev after_first : Lexeme → List Lexeme → List SpacedToken
after_first x [] = record { lexeme = x; space = 10 } ∷ []
after_first x (y ∷ ys) = record { lexeme = x; space = 32 } ∷ after_first y ys

line_joined : (x : Lexeme) (xs : List Lexeme) → spaced_text (after_first x xs) ≡ line (x ∷ xs)
line_joined x [] =
    ap (λ (b : List ℕ). lexeme_text x ++ (b ++ [])) (one_byte 10 (omega arith)) ∙ sym (append_assoc (lexeme_text x) [] (10 ∷ []))
line_joined x (y ∷ ys) =
    ap (λ (b : List ℕ). lexeme_text x ++ (b ++ spaced_text (after_first y ys))) (one_byte 32 (omega arith))
    ∙ ap (λ (b : List ℕ). lexeme_text x ++ 32 ∷ b) (line_joined y ys)
    ∙ sym (append_assoc (lexeme_text x) (32 ∷ join_by lexeme_text space (y ∷ ys)) (10 ∷ []))

line_tokens : (x : Lexeme) (xs : List Lexeme) → lexemes_of (after_first x xs) ≡ x ∷ xs
line_tokens x [] = refl
line_tokens x (y ∷ ys) = ap (λ (ls : List Lexeme). x ∷ ls) (line_tokens y ys)

line_white : (x : Lexeme) (xs : List Lexeme) → are_white (after_first x xs) ≡ true
line_white x [] = refl
line_white x (y ∷ ys) = line_white y ys

line_spaced : (x : Lexeme) (xs : List Lexeme) → IsSpaced (x ∷ xs) (line (x ∷ xs))
line_spaced x xs = record { spaced = after_first x xs; tokens = line_tokens x xs; white = line_white x xs; text_is = line_joined x xs }

-- ---- one after another

tokens_both : (ps qs : List SpacedToken) → lexemes_of (ps ++ qs) ≡ lexemes_of ps ++ lexemes_of qs
tokens_both [] qs = refl
tokens_both (p ∷ ps) qs = ap (λ (ls : List Lexeme). p.lexeme ∷ ls) (tokens_both ps qs)

white_both : (ps qs : List SpacedToken) → are_white ps ≡ true → are_white qs ≡ true → are_white (ps ++ qs) ≡ true
white_both [] qs h k = k
white_both (p ∷ ps) qs h k = at (is_white p.space) (λ g. white_both ps qs g k) h
  where
    at : (b : Bool) → (are_white ps ≡ true → are_white (ps ++ qs) ≡ true) → b && are_white ps ≡ true → b && are_white (ps ++ qs) ≡ true
    at true more g = more g
    at false more g = absurd cc

text_both : (ps qs : List SpacedToken) → spaced_text (ps ++ qs) ≡ spaced_text ps ++ spaced_text qs
text_both [] qs = refl
text_both (p ∷ ps) qs =
    ap (λ (b : List ℕ). lexeme_text p.lexeme ++ (encode_utf8_all (p.space ∷ []) ++ b)) (text_both ps qs)
    ∙ ap (λ (b : List ℕ). lexeme_text p.lexeme ++ b) (sym (append_assoc (encode_utf8_all (p.space ∷ [])) (spaced_text ps) (spaced_text qs)))
    ∙ sym (append_assoc (lexeme_text p.lexeme) (encode_utf8_all (p.space ∷ []) ++ spaced_text ps) (spaced_text qs))

both : {us vs : List Lexeme} {x y : List ℕ} → IsSpaced us x → IsSpaced vs y → IsSpaced (us ++ vs) (x ++ y)
both {us} {vs} {x} {y} h k = record {
  spaced = h.spaced ++ k.spaced;
  tokens = tokens_both h.spaced k.spaced ∙ ap (λ (ls : List Lexeme). ls ++ lexemes_of k.spaced) h.tokens ∙ ap (λ (ls : List Lexeme). us ++ ls) k.tokens;
  white = white_both h.spaced k.spaced h.white k.white;
  text_is = text_both h.spaced k.spaced ∙ ap (λ (b : List ℕ). b ++ spaced_text k.spaced) h.text_is ∙ ap (λ (b : List ℕ). x ++ b) k.text_is;
}

nothing_spaced : IsSpaced [] []
nothing_spaced = record { spaced = []; tokens = refl; white = refl; text_is = refl }

of_same : {us vs : List Lexeme} {x : List ℕ} → us ≡ vs → IsSpaced us x → IsSpaced vs x
of_same {us} {vs} {x} e h = record { spaced = h.spaced; tokens = h.tokens ∙ e; white = h.white; text_is = h.text_is }

-- ---- items

abbrev Ps : Type 0
Ps = List AtDepth

plain_first : (p : Plain) (r : Ps) → tokens (placed_plain p r) ≡ tokens (placed_plain p []) ++ tokens r
plain_first p r = ap tokens (plain_before p [] r) ∙ map-append (λ (q : AtDepth). q.0) (placed_plain p []) r

plains_first : (ps : List Plain) (r : Ps) → tokens (placed_plains ps r) ≡ tokens (placed_plains ps []) ++ tokens r
plains_first [] r = refl
plains_first (p ∷ ps) r =
    let first = tokens (placed_plain p []) in
    plain_first p (placed_plains ps r)
    ∙ ap (λ (z : List Lexeme). first ++ z) (plains_first ps r)
    ∙ sym (append_assoc first (tokens (placed_plains ps [])) (tokens r))
    ∙ ap (λ (z : List Lexeme). z ++ tokens r) (sym (plain_first p (placed_plains ps [])))

item_first : (i : Item) (r : Ps) → tokens (placed_item i r) ≡ tokens (placed_item i []) ++ tokens r
item_first (plain p) r = plain_first p r
item_first (backward ps) r =
    ap (λ (z : List Lexeme). word words.BackwardMode ∷ sign signs.Open ∷ z)
    (
    plains_first ps ((sign signs.Close, 0) ∷ r)
    ∙ sym (append_assoc (tokens (placed_plains ps [])) (sign signs.Close ∷ []) (tokens r))
    ∙ ap (λ (z : List Lexeme). z ++ tokens r) (sym (plains_first ps ((sign signs.Close, 0) ∷ [])))
    )

plain_spaced : (p : Plain) → IsSpaced (tokens (placed_plain p [])) (plain_text p)
plain_spaced (declaration k ns) = line_spaced _ _
plain_spaced _ = line_spaced _ _

plains_spaced : (ps : List Plain) → IsSpaced (tokens (placed_plains ps [])) (flat_map plain_text ps)
plains_spaced [] = nothing_spaced
plains_spaced (p ∷ ps) = of_same (sym (plain_first p (placed_plains ps []))) (both (plain_spaced p) (plains_spaced ps))

item_spaced : (i : Item) → IsSpaced (tokens (placed_item i [])) (item_text i)
item_spaced (plain p) = plain_spaced p
item_spaced (backward ps) =
    of_same (ap (λ (ls : List Lexeme). word words.BackwardMode ∷ sign signs.Open ∷ ls) (sym (plains_first ps ((sign signs.Close, 0) ∷ []))))
    (both (line_spaced (word words.BackwardMode) (sign signs.Open ∷ [])) (both (plains_spaced ps) (line_spaced (sign signs.Close) [])))

pub items_spaced : (items : List Item) → IsSpaced (places.lexemes_of items) (canonical items)
items_spaced [] = nothing_spaced
items_spaced (i ∷ is) = of_same (sym (item_first i (placed_items is []))) (both (item_spaced i) (items_spaced is))
