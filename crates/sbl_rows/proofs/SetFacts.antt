-- The map of outcomes and the sets of moves and of stems, one insertion after another.
use Rattle.std.proofs.Common.{◌≡◌, ◌∙◌, ◌||◌, ◌&&◌, ◌++◌, ◌+◌, add-zero, length, arith, ℕ, Bool, true, false, cond, if◌then◌else◌, List, [], ◌∷◌, map, not, Option, Some, None, is_none, is_some, refl, sym, ap}
use Rattle.std.specs.declared.cmp.Ordering.{Ordering}
use Rattle.std.specs.declared.cmp.Ordering.TheVariants.{Less, Equal, Greater}
use Rattle.std.specs.Ordering.{is_eq, match_ordering, nat_cmp, ordering_then}
use Rattle.std.specs.Cmp.Lexicographic.{slice_cmp}
use Rattle.std.specs.Borrow.{Bor}
use Rattle.std.specs.Str.{bytes_eq}
use Rattle.std.specs.List.{find}
use Rattle.std.specs.Option.{option_map, option_or, unwrap_or}
use Rattle.std.specs.BTreeMap as tree
use Rattle.std.specs.BTreeMap.{BTreeMap}
use Rattle.std.specs.BTreeSet as sorted_set
use Rattle.std.specs.BTreeSet.{BTreeSet, insert_key}
use Rattle.std.proofs.lemmas.Map.Text.{is_eq-slice_cmp}
use Rattle.sbl_rows.specs.declared.stem_class.StemPair.{StemPair}
use Rattle.sbl_semantics.specs.declared.outcome.Outcome.{Outcome}
use Rattle.sbl_rows.specs.declared.row.Row as declared
use Rattle.sbl_rows.specs.Changes.{is_one}
use Rattle.sbl_rows.specs.Classes.{texts_of}
use Rattle.sbl_rows.specs.Rows.{Row, view_outcome, view_row, view_rows}
use Rattle.sbl_rows.specs.ChangedRows.{outcome_in}
use Rattle.sbl_rows.specs.KnownOutcomes.{Text, has_text, known_outcome}
use Rattle.sbl_rows.specs.Grouping.{TextPair, pair_cmp, plain_pair}
use Rattle.std.proofs.lemmas.Slice.Eq.{bytes_eq-Decides}
use Rattle.sbl_rows.specs.Counting.{Outcomes, count_in, put_texts, unknown_in, without}
use Rattle.sbl_rows.proofs.OrderFacts.{bytes_eq-back}

-- ---- moves

-- the move past the end
abbrev pub no_pair : StemPair
no_pair = record { stem = record { ref_ptr = (0, 0); now = [] }; member = record { ref_ptr = (0, 0); now = [] } }

abbrev pub key_cmp : TextPair → TextPair → Ordering
key_cmp x y = ordering_then (slice_cmp nat_cmp x.0.now y.0.now) (slice_cmp nat_cmp x.1.now y.1.now)

pub plain-insert : (keys : List TextPair) (k : TextPair) → map plain_pair (insert_key key_cmp keys k) ≡ insert_key pair_cmp (map plain_pair keys) (plain_pair k)
plain-insert [] k = refl
plain-insert (x ∷ keys) k = by (key_cmp k x) (plain-insert keys k)
  where
    by : (o : Ordering) → map plain_pair (insert_key key_cmp keys k) ≡ insert_key pair_cmp (map plain_pair keys) (plain_pair k)
        → map plain_pair (match_ordering o (k ∷ x ∷ keys) (x ∷ keys) (x ∷ insert_key key_cmp keys k)) ≡ match_ordering o (plain_pair k ∷ plain_pair x ∷ map plain_pair keys) (plain_pair x ∷ map plain_pair keys) (plain_pair x ∷ insert_key pair_cmp (map plain_pair keys) (plain_pair k))
    by Less rest = refl
    by Equal rest = refl
    by Greater rest = ap (λ l. plain_pair x ∷ l) rest

-- ---- outcomes

abbrev text_order : Text → Text → Ordering
text_order x y = slice_cmp nat_cmp x.now y.now

abbrev text : List ℕ → Text
text word = record { ref_ptr = (0, 0); now = word }

-- the row before the rows that the map has
pub row_known : (rows : List declared.Row) (row : declared.Row) (m n : BTreeMap Text (Bor Outcome)) (word : List ℕ) → tree.Updates text_order m n row.word (Some row.outcome)
    → option_or (outcome_in (view_rows rows) word) (known_outcome n word) ≡ option_or (outcome_in (view_rows (rows ++ row ∷ [])) word) (known_outcome m word)
row_known [] row m n word put = ap (option_map view_outcome) (put.0 (text word)) ∙ by (is_eq (slice_cmp nat_cmp row.word.now word)) (bytes_eq word row.word.now) (is_eq-slice_cmp row.word.now word ∙ bytes_eq-back row.word.now word)
  where
    by : (a b : Bool) → a ≡ b → option_map view_outcome (cond a (Some row.outcome) (tree.get text_order m (text word))) ≡ option_or (option_map (λ (r : Row). r.outcome) (cond b (Some (view_row row)) None)) (known_outcome m word)
    by true true e = refl
    by true false e = cc e
    by false true e = cc e
    by false false e = refl
row_known (r ∷ rows) row m n word put = by (bytes_eq word r.word.now) (row_known rows row m n word put)
  where
    by : (b : Bool) → option_or (outcome_in (view_rows rows) word) (known_outcome n word) ≡ option_or (outcome_in (view_rows (rows ++ row ∷ [])) word) (known_outcome m word)
        → option_or (option_map (λ (q : Row). q.outcome) (cond b (Some (view_row r)) (find (λ q. bytes_eq word q.word) (view_rows rows)))) (known_outcome n word)
        ≡ option_or (option_map (λ (q : Row). q.outcome) (cond b (Some (view_row r)) (find (λ q. bytes_eq word q.word) (view_rows (rows ++ row ∷ []))))) (known_outcome m word)
    by true rest = refl
    by false rest = rest

-- ---- stems

pub text_inserted : (s n : BTreeSet Text) (stem : Text) (q : List ℕ) → sorted_set.Updates text_order s n stem true → has_text n q ≡ (bytes_eq stem.now q || has_text s q)
text_inserted s n stem q put = put.0 (text q) ∙ by (is_eq (slice_cmp nat_cmp stem.now q)) (bytes_eq stem.now q) (is_eq-slice_cmp stem.now q)
  where
    by : (a b : Bool) → a ≡ b → cond a true (has_text s q) ≡ (b || has_text s q)
    by true true e = refl
    by true false e = cc e
    by false true e = cc e
    by false false e = refl

pub one_text : (texts : List Text) → length texts ≡ 1 → is_one (texts_of texts) ≡ true
one_text [] e = cc e
one_text (t ∷ []) e = refl
one_text (t ∷ u ∷ texts) e = absurd (omega (arith, e))

pub and_one : (b one : Bool) → one ≡ true → b ≡ (b && one)
and_one true one e = sym e
and_one false one e = refl

-- ---- words taken out, stems counted

pub word_removed : (m n : BTreeMap Text (Bor Outcome)) (word q : List ℕ) → tree.UpdatesBy text_order (λ (k : Text). slice_cmp nat_cmp word k.now) m n None → known_outcome n q ≡ without word (known_outcome m) q
word_removed m n word q put = ap (option_map view_outcome) (put.0 (text q)) ∙ by (is_eq (slice_cmp nat_cmp word q)) (bytes_eq q word) (is_eq-slice_cmp word q ∙ bytes_eq-back word q)
  where
    by : (a b : Bool) → a ≡ b → option_map view_outcome (cond a None (tree.get text_order m (text q))) ≡ (if b then None else known_outcome m q)
    by true true e = refl
    by true false e = cc e
    by false true e = cc e
    by false false e = refl

pub stem_counted : (m n : BTreeMap Text ℕ) (stem : Text) (v : ℕ) (q : List ℕ) → v ≡ count_in m stem.now + 1 → tree.Updates text_order m n stem (Some v) → count_in n q ≡ count_in m q + cond (bytes_eq stem.now q) 1 0
stem_counted m n stem v q one put =
    ap (λ (o : Option ℕ). unwrap_or o 0) (put.0 (text q))
    ∙ by (is_eq (slice_cmp nat_cmp stem.now q)) (bytes_eq stem.now q) (is_eq-slice_cmp stem.now q) (bytes_eq-Decides stem.now q).0
  where
    by : (a b : Bool) → a ≡ b → (b ≡ true → stem.now ≡ q) → unwrap_or (cond a (Some v) (tree.get text_order m (text q))) 0 ≡ count_in m q + cond b 1 0
    by true true e same = one ∙ ap (λ (w : List ℕ). count_in m w + 1) (same refl)
    by true false e same = cc e
    by false true e same = cc e
    by false false e same = sym (add-zero (count_in m q))

-- ---- words without an outcome

-- the word past the end
abbrev pub no_text : Text
no_text = record { ref_ptr = (0, 0); now = [] }

pub none_seen : (o : Option (Bor Outcome)) → is_none (option_map view_outcome o) ≡ is_none o
none_seen None = refl
none_seen (Some outcome) = refl

pub none_is : (o : Option (Bor Outcome)) (b : Bool) → not b ≡ is_some o → is_none o ≡ b
none_is None true e = refl
none_is None false e = cc e
none_is (Some outcome) true e = cc e
none_is (Some outcome) false e = refl

texts-insert : (keys : List Text) (k : Text) → texts_of (insert_key text_order keys k) ≡ insert_key (slice_cmp nat_cmp) (texts_of keys) k.now
texts-insert [] k = refl
texts-insert (x ∷ keys) k = by (text_order k x) (texts-insert keys k)
  where
    by : (o : Ordering) → texts_of (insert_key text_order keys k) ≡ insert_key (slice_cmp nat_cmp) (texts_of keys) k.now
        → texts_of (match_ordering o (k ∷ x ∷ keys) (x ∷ keys) (x ∷ insert_key text_order keys k)) ≡ match_ordering o (k.now ∷ x.now ∷ texts_of keys) (x.now ∷ texts_of keys) (x.now ∷ insert_key (slice_cmp nat_cmp) (texts_of keys) k.now)
    by Less rest = refl
    by Equal rest = refl
    by Greater rest = ap (λ l. x.now ∷ l) rest

-- a word that has no outcome is put in, and one that has an outcome is not
pub unknown-put : (outcome : Outcomes) (old : List Text) (new : List Text) (w : Text) (words : List (List ℕ)) → is_none (outcome w.now) ≡ true → new ≡ insert_key text_order old w
    → put_texts (texts_of new) (unknown_in outcome words) ≡ put_texts (texts_of old) (unknown_in outcome (w.now ∷ words))
unknown-put outcome old new w words none put =
    ap (λ (l : List (List ℕ)). put_texts l (unknown_in outcome words)) (ap texts_of put ∙ texts-insert old w)
    ∙ ap (λ (b : Bool). put_texts (texts_of old) (cond b (w.now ∷ unknown_in outcome words) (unknown_in outcome words))) (sym none)

pub known-left : (outcome : Outcomes) (old : List Text) (w : List ℕ) (words : List (List ℕ)) → is_none (outcome w) ≡ false
    → put_texts (texts_of old) (unknown_in outcome words) ≡ put_texts (texts_of old) (unknown_in outcome (w ∷ words))
known-left outcome old w words some = ap (λ (b : Bool). put_texts (texts_of old) (cond b (w ∷ unknown_in outcome words) (unknown_in outcome words))) (sym some)
