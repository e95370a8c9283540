-- What a text without a place lacks, and what a place is.
use Rattle.std.proofs.Common.{◌≡◌, ◌≤◌, ℕ, length, List, [], ◌∷◌, Some, None, drop, map, refl, sym, ap, subst, ◌∙◌}
use Rattle.std.specs.Str.{chars, IsUtf8}
use Rattle.std.specs.Prelude.{option_map}
use Rattle.sbl_token.specs.declared.token.Token.{Token}
use Rattle.sbl_token.specs.Lexemes.{Lexeme, lexeme_of}
use Rattle.sbl_text.specs.declared.fault.ScriptFault.{ScriptFault}
use Rattle.sbl_text.specs.declared.fault.ScriptFault.TheVariants as fault
use Rattle.sbl_text.specs.Directives.{start}
use Rattle.sbl_text.specs.Tokens.{PlacedToken, placed_of, ArePlaced, IsFirstFault, piece_lexemes}
use Rattle.sbl_text.specs.Laws.{PlacesAreOne, TokensOrFault}
use Rattle.sbl_ast.specs.Tree.{Item}
use Rattle.sbl_ast.specs.Texts.{script}
use Rattle.sbl_parser.specs.FaultOffsets as grammar
use Rattle.sbl_parser.specs.Reading.{IsReadAs}
use Rattle.sbl_parser.specs.Laws.{TreesAreOne, TreeOrFault, syntax, too_deep, out_of_profile}
use Rattle.sbl_resolver.specs.Occurrences.{occurrences_of}
use Rattle.sbl_resolver.specs.Laws.{IsFirst, EachPasses}
use Rattle.sbl_resolver.specs.Subjects.{IsFirstAfter}
use Rattle.sbl_script.specs.Reading.{HasTokens, first_left_out, max_script, lexemes}
use Rattle.sbl_source_map.specs.SubjectTokens.{SubjectToken, subject_tokens}
use Rattle.sbl_source_map.specs.FaultPlaces.{IsFaultAt, HasNoFaultAt, IsPlaceIn}
use Rattle.sbl_source_map.specs.Walks.{range_of, range_at}
use Rattle.sbl_source_map.proofs.AtTokens.{has_token, fails}

-- ---- texts without tokens, tokens without a tree

pub no_tokens : TokensOrFault → (text : List ℕ) (f : ScriptFault) → IsFirstFault text f → (ts : List PlacedToken) → ArePlaced text ts → ⊥
no_tokens either text f h ts p = either start text (piece_lexemes p.0) f (p.0, p.1, p.2, p.3, refl) h

lexemes_same : (ts : List Token) → map lexeme_of ts ≡ lexemes (map placed_of ts)
lexemes_same [] = refl
lexemes_same (t ∷ ts) = ap (λ (r : List Lexeme). lexeme_of t ∷ r) (lexemes_same ts)

-- the tokens of the code and those of the definitions
pub read_too : (ts : List Token) (items : List Item) → IsReadAs script (map lexeme_of ts) items → IsReadAs script (lexemes (map placed_of ts)) items
read_too ts items h = subst (λ (x : List Lexeme). IsReadAs script x items) (lexemes_same ts) h

pub no_tree : TreeOrFault → (ts : List Token) (end : ℕ) (f : ScriptFault) → grammar.IsFaultOf script ts end f → (items : List Item) → IsReadAs script (lexemes (map placed_of ts)) items → ⊥
no_tree none ts end f h items tree = go f h (subst (λ (x : List Lexeme). IsReadAs script x items) (sym (lexemes_same ts)) tree) where
  go : (g : ScriptFault) → grammar.IsFaultOf script ts end g → IsReadAs script (map lexeme_of ts) items → ⊥
  go (fault.Syntax place) (n, is, x) read = none script (map lexeme_of ts) (map lexeme_of (drop n ts)) items syntax read x
  go (fault.TooDeep place) (n, is, x) read = none script (map lexeme_of ts) (map lexeme_of (drop n ts)) items too_deep read x
  go (fault.OutOfProfile place) (n, is, x) read = none script (map lexeme_of ts) (map lexeme_of (drop n ts)) items out_of_profile read x
  go _ x read = absurd x

-- ---- texts without a place

pub no_place_without_tokens : (bytes text : List ℕ) → text ≡ bytes → ((ts : List PlacedToken) → ArePlaced (chars text) ts → ⊥) → HasNoFaultAt bytes
no_place_without_tokens bytes text is none f t h = none h.placed (subst (λ (x : List ℕ). ArePlaced (chars x) h.placed) (sym is) h.tokens.cut)

same_tokens : PlacesAreOne → (bytes : List ℕ) (ts : List PlacedToken) (f : ScriptFault) (t : SubjectToken) (h : IsFaultAt bytes f t) → ArePlaced (chars bytes) ts → h.placed ≡ ts
same_tokens places bytes ts f t h cut = places start (chars bytes) h.placed ts h.tokens.cut cut

pub no_place_without_tree : PlacesAreOne → (bytes : List ℕ) (ts : List PlacedToken) → ArePlaced (chars bytes) ts → ((items : List Item) → first_left_out ts ≡ None → IsReadAs script (lexemes ts) items → ⊥) → HasNoFaultAt bytes
no_place_without_tree places bytes ts cut none f t h =
    let same = same_tokens places bytes ts f t h cut in
    none h.items (subst (λ (us : List PlacedToken). first_left_out us ≡ None) same h.offered) (subst (λ (us : List PlacedToken). IsReadAs script (lexemes us) h.items) same h.tree)

-- a text that is read
pub record IsRead (bytes : List ℕ) (ts : List PlacedToken) (items : List Item) : Type 0 where
  pub tokens : HasTokens start bytes ts
  pub offered : first_left_out ts ≡ None
  pub tree : IsReadAs script (lexemes ts) items

-- the tokens of the code's text are those of the bytes
pub cut_in : (bytes text : List ℕ) (ts ds : List Token) → text ≡ bytes → ArePlaced (chars text) (map placed_of ts) → ds ≡ ts → ArePlaced (chars bytes) (map placed_of ds)
cut_in bytes text ts ds is cut same =
    subst (λ (xs : List Token). ArePlaced (chars bytes) (map placed_of xs)) (sym same) (subst (λ (x : List ℕ). ArePlaced (chars x) (map placed_of ts)) is cut)

pub is_read : (bytes text : List ℕ) (ts ds : List Token) (items : List Item) → (text ≡ bytes) × (length bytes ≤ max_script) × IsUtf8 bytes → ArePlaced (chars text) (map placed_of ts) → ds ≡ ts
    → (first_left_out (map placed_of ds) ≡ None) × IsReadAs script (lexemes (map placed_of ds)) items → IsRead bytes (map placed_of ds) items
is_read bytes text ts ds items is cut same tree = record {
  tokens = record { short = is.1; text = is.2; cut = cut_in bytes text ts ds is.0 cut same };
  offered = tree.0;
  tree = tree.1;
}

pub no_place_without_fault : PlacesAreOne → TreesAreOne → (bytes : List ℕ) (ts : List PlacedToken) (items : List Item) → IsRead bytes ts items → EachPasses (occurrences_of items) → HasNoFaultAt bytes
no_place_without_fault places trees bytes ts items read passes f t h =
    let same = same_tokens places bytes ts f t h read.tokens.cut in
    let tree : h.items ≡ items = trees script h.items items (h.tree.0 ∙ ap lexemes same ∙ sym read.tree.0) in
    fails items f (subst (λ (is : List Item). IsFirst (occurrences_of is) f) tree h.first.first) passes

-- ---- the place

pub none_is_never : (bytes : List ℕ) (ts : List PlacedToken) (items : List Item) (n : ℕ) (f : ScriptFault) → IsRead bytes ts items → IsFirstAfter (occurrences_of items) n f → None ≡ range_at n (subject_tokens ts) → ⊥
none_is_never bytes ts items n f read h none =
    let t = has_token ts items n f read.tree h in
    never (none ∙ ap (option_map range_of) t.1) where
      never : {X : Type 0} {x : X} → None ≡ Some x → ⊥
      never e = cc

pub place_is : (bytes : List ℕ) (ts : List PlacedToken) (items : List Item) (n b e : ℕ) (f : ScriptFault) → IsRead bytes ts items → IsFirstAfter (occurrences_of items) n f → Some (b, e) ≡ range_at n (subject_tokens ts)
    → IsPlaceIn bytes (record { fault = f; begin = b; end = e })
place_is bytes ts items n b e f read h is =
    let t = has_token ts items n f read.tree h in
    let range : (b, e) ≡ range_of t.0 = same (is ∙ ap (option_map range_of) t.1) in
    record {
      token = t.0;
      fault = record { placed = ts; tokens = read.tokens; offered = read.offered; items = items; tree = read.tree; number = n; first = h; token = t.1 };
      begin = ap (λ (r : ℕ × ℕ). r.0) range;
      end = ap (λ (r : ℕ × ℕ). r.1) range;
    } where
      same : {X : Type 0} {x y : X} → Some x ≡ Some y → x ≡ y
      same e = cc
