-- What one more word does to the words that are kept while a vocabulary is read.
use Rattle.std.proofs.Common.{◌&&◌, ◌≡◌, ◌∙◌, ◌++◌, ℕ, Bool, true, false, List, [], ◌∷◌, length, Option, Some, None, Result, Ok, Err, is_some, refl, sym, ap, subst, suc, nat_eq, true≢false, arith, tests, not, ◌+◌, ◌≤◌, ◌<◌, nat_le}
use Rattle.std.specs.Option.{option_map, option_or}
use Rattle.std.specs.Str.{bytes_eq}
use Rattle.std.specs.List.{list_any}
use Rattle.std.specs.declared.vec.Vec.{Vec}
use Rattle.std.specs.declared.alloc.Global.{Global}
use Rattle.std.proofs.lemmas.List.{length-append, length-map, map-append}
use Rattle.indexmap.specs.IndexSet.{insert_key}
use Rattle.sbl_ast.specs.Source.{Source}
use Rattle.sbl_semantics.specs.Limit.{default_limit}
use Rattle.sbl_bench.specs.Contents.{Contents, IsFaultOrMemory, Opens, opening_fault, word_fault}
use Rattle.sbl_rows.specs.Setting.{under}
use Rattle.sbl_bench.specs.Vocabulary.{is_skipped, is_word, vocabulary, with_word}
use Rattle.sbl_bench.specs.inside.ProofNames.{with_all}
use Rattle.sbl_bench.specs.declared.fault.EditFault.{EditFault}
use Rattle.sbl_input.specs.WordLists.{AreDistinct, AreKept, HasRoom, IsVocabulary, OpensAs, texts_of}
use Rattle.sbl_input.specs.declared.word_list.KeptWords.{KeptWords}
use Rattle.sbl_input.specs.declared.word_list.KeptWords.TheVariants.{Distinct, Plain}

or_or : (a b c : Option EditFault) → option_or a (option_or b c) ≡ option_or (option_or a b) c
or_or None b c = refl
or_or (Some x) b c = refl

or_none : (a : Option EditFault) → option_or a None ≡ a
or_none None = refl
or_none (Some x) = refl

fault-push : (words xs : List (List ℕ)) (w : List ℕ) → opening_fault words (xs ++ w ∷ []) ≡ option_or (opening_fault words xs) (word_fault (with_all words xs) w)
fault-push words [] w = or_none (word_fault words w)
fault-push words (x ∷ xs) w =
    ap (λ (o : Option EditFault). option_or (word_fault words x) o) (fault-push (with_word words x) xs w)
    ∙ or_or (word_fault words x) (opening_fault (with_word words x) xs) (word_fault (with_all (with_word words x) xs) w)

all-push : (words xs : List (List ℕ)) (w : List ℕ) → with_all words (xs ++ w ∷ []) ≡ with_word (with_all words xs) w
all-push words [] w = refl
all-push words (x ∷ xs) w = all-push (with_word words x) xs w

-- the first fault of words without one and one more word
fault_after : (words xs : List (List ℕ)) (w : List ℕ) → opening_fault [] xs ≡ None → vocabulary xs ≡ words
    → opening_fault [] (xs ++ w ∷ []) ≡ word_fault words w
fault_after words xs w none same =
    fault-push [] xs w ∙ ap (λ (o : Option EditFault). option_or o (word_fault (vocabulary xs) w)) none
    ∙ ap (λ (ws : List (List ℕ)). word_fault ws w) same

vocabulary_after : (words xs : List (List ℕ)) (w : List ℕ) → vocabulary xs ≡ words → vocabulary (xs ++ w ∷ []) ≡ with_word words w
vocabulary_after words xs w same = all-push [] xs w ∙ ap (λ (ws : List (List ℕ)). with_word ws w) same

-- a word that is skipped
pub kept-skip : (words all : List (List ℕ)) (w : List ℕ) → AreKept words None all → word_fault (vocabulary words) w ≡ None
    → is_skipped w (vocabulary words) ≡ true → AreKept words None (all ++ w ∷ [])
kept-skip words all w kept none skipped = (
  fault_after (vocabulary words) all w kept.0 (sym kept.2) ∙ none,
  kept.1,
  sym (vocabulary_after (vocabulary words) all w (sym kept.2) ∙ rw skipped refl),
)

-- a word that is not refused
pub kept-push : (words all : List (List ℕ)) (w : List ℕ) → AreKept words None all → word_fault (vocabulary words) w ≡ None
    → AreKept (words ++ w ∷ []) None (all ++ w ∷ [])
kept-push words all w kept none = (
  fault_after (vocabulary words) all w kept.0 (sym kept.2) ∙ none,
  fault_after (vocabulary words) words w kept.1 refl ∙ none,
  all-push [] words w ∙ sym (vocabulary_after (vocabulary words) all w (sym kept.2)),
)

-- a word that is refused
pub kept-refuse : (words all : List (List ℕ)) (w : List ℕ) → AreKept words None all → is_some (word_fault (vocabulary words) w) ≡ true
    → AreKept words (Some w) (all ++ w ∷ [])
kept-refuse words all w kept refused =
    let after = fault_after (vocabulary words) all w kept.0 (sym kept.2) in
    (ap is_some after ∙ refused, fault_after (vocabulary words) words w kept.1 refl ∙ sym after, kept.1)

-- a word that is not refused, after words without repeats
pub kept-with : (words all : List (List ℕ)) (w : List ℕ) → vocabulary words ≡ words → AreKept words None all → word_fault (vocabulary words) w ≡ None
    → AreKept (with_word words w) None (all ++ w ∷ [])
kept-with words all w distinct kept none = by (is_skipped w words) refl
  where
    by : (b : Bool) → is_skipped w words ≡ b → AreKept (with_word words w) None (all ++ w ∷ [])
    by true h = rw h (kept-skip words all w kept none (ap (is_skipped w) distinct ∙ h))
    by false h = rw h (kept-push words all w kept none)

-- words without repeats, and one more word
pub distinct-with : (words : List (List ℕ)) (w : List ℕ) → vocabulary words ≡ words → vocabulary (with_word words w) ≡ with_word words w
distinct-with words w distinct = by (is_skipped w words) refl
  where
    by : (b : Bool) → is_skipped w words ≡ b → vocabulary (with_word words w) ≡ with_word words w
    by true h = rw h distinct
    by false h = rw h (vocabulary_after words words w distinct ∙ rw h refl)

pub or_left : (a b : Option EditFault) → option_or a b ≡ None → a ≡ None
or_left None b none = refl
or_left (Some x) b none = none

pub or_right : (a b : Option EditFault) → option_or a b ≡ None → b ≡ None
or_right None b none = none
or_right (Some x) b none = cc

-- the vocabulary of words is its own vocabulary
distinct-all : (words ws : List (List ℕ)) → vocabulary words ≡ words → vocabulary (with_all words ws) ≡ with_all words ws
distinct-all words [] distinct = distinct
distinct-all words (w ∷ ws) distinct = distinct-all (with_word words w) ws (distinct-with words w distinct)

pub distinct-vocabulary : (words : List (List ℕ)) → vocabulary (vocabulary words) ≡ vocabulary words
distinct-vocabulary words = distinct-all [] words refl

-- words without a fault have none once their repeats are dropped
fine-all : (words ws : List (List ℕ)) → vocabulary words ≡ words → opening_fault [] words ≡ None → opening_fault words ws ≡ None
    → opening_fault [] (with_all words ws) ≡ None
fine-all words [] distinct fine none = fine
fine-all words (w ∷ ws) distinct fine none =
    fine-all (with_word words w) ws (distinct-with words w distinct) (by (is_skipped w words) refl) (or_right (word_fault words w) _ none)
  where
    by : (b : Bool) → is_skipped w words ≡ b → opening_fault [] (with_word words w) ≡ None
    by true h = rw h fine
    by false h = rw h (fault_after words words w fine distinct ∙ or_left (word_fault words w) _ none)

pub kept-distinct : (words all : List (List ℕ)) → AreKept words None all → AreKept (vocabulary words) None all
kept-distinct words all kept = (kept.0, fine-all [] words refl refl kept.1, distinct-vocabulary words ∙ kept.2)

-- the vocabulary of what is kept, if no word was refused
pub vocabulary_kept : (words all : List (List ℕ)) → AreKept words None all → IsVocabulary (vocabulary words) all
vocabulary_kept words all kept = record {
  all_fine = kept.0;
  fine = (kept-distinct words all kept).1;
  same = kept.2;
}

-- the fault of all words is that of the one that was refused
pub fault_refused : (words all : List (List ℕ)) (refused : List ℕ) → AreKept words (Some refused) all → opening_fault [] all ≡ word_fault (vocabulary words) refused
fault_refused words all refused kept = sym kept.1 ∙ fault_after (vocabulary words) words refused kept.2 refl

or_some : (a b : Option EditFault) → is_some a ≡ true → option_or a b ≡ a
or_some None b some = cc
or_some (Some x) b some = refl

-- a word after one that was refused
pub kept-after : (words all : List (List ℕ)) (refused w : List ℕ) → AreKept words (Some refused) all → AreKept words (Some refused) (all ++ w ∷ [])
kept-after words all refused w kept =
    let same = fault-push [] all w ∙ or_some (opening_fault [] all) _ kept.0 in
    (ap is_some same ∙ kept.0, kept.1 ∙ sym same, kept.2)

pub kept-empty : (words all : List (List ℕ)) (w : List ℕ) → AreKept words None all → nat_eq (length w) 0 ≡ true → AreKept words None (all ++ w ∷ [])
kept-empty words all [] kept empty = kept-skip words all [] kept refl refl
kept-empty words all (c ∷ w) kept empty = absurd (grind (arith, tests, empty))

pub skips : (w : List ℕ) (words : List (List ℕ)) → nat_eq (length w) 0 ≡ false → is_skipped w words ≡ is_word w words
skips [] words some = cc
skips (c ∷ w) words some = refl

pub any_is_word : (keys : List (Vec ℕ Global)) (word : List ℕ) → list_any (λ k. bytes_eq word k.items) keys ≡ is_word word (texts_of keys)
any_is_word [] word = refl
any_is_word (k ∷ keys) word = by (bytes_eq word k.items) refl (any_is_word keys word)
  where
    by : (b : Bool) → bytes_eq word k.items ≡ b → list_any (λ k. bytes_eq word k.items) keys ≡ is_word word (texts_of keys)
        → list_any (λ k. bytes_eq word k.items) (k ∷ keys) ≡ is_word word (texts_of (k ∷ keys))
    by true h rest = rw h refl
    by false h rest = rw h rest

-- whether a vocabulary is full and does not have a word, by the keys of a set
pub full_room : (keys : List (Vec ℕ Global)) (w : List ℕ) → 100000 ≤ length keys
    → not (list_any (λ k. bytes_eq w k.items) keys) ≡ (nat_le 100000 (length (texts_of keys)) && not (is_word w (texts_of keys)))
full_room keys w full = rw all (ap not (any_is_word keys w))
  where
    all : nat_le 100000 (length (texts_of keys)) ≡ true
    all = rw (length-map keys (λ (w : Vec ℕ Global). w.items)) (grind (arith, tests, full))

pub few_room : (keys : List (Vec ℕ Global)) (w : List ℕ) → length keys < 100000
    → false ≡ (nat_le 100000 (length (texts_of keys)) && not (is_word w (texts_of keys)))
few_room keys w few = rw none refl
  where
    none : nat_le 100000 (length (texts_of keys)) ≡ false
    none = rw (length-map keys (λ (w : Vec ℕ Global). w.items)) (grind (arith, tests, few))

pub none_of : (o : Option EditFault) → is_some o ≡ false → o ≡ None
none_of None h = refl
none_of (Some x) h = cc

-- a set that has an empty word put into it, or another one
pub insert-empty : (words : List (List ℕ)) (w : List ℕ) → nat_eq (length w) 0 ≡ true → words ≡ with_word words w
insert-empty words [] empty = refl
insert-empty words (c ∷ w) empty = absurd (grind (arith, tests, empty))

pub insert-some : (keys : List (Vec ℕ Global)) (word : Vec ℕ Global) → nat_eq (length word.items) 0 ≡ false
    → texts_of (insert_key (λ (x y : Vec ℕ Global). bytes_eq x.items y.items) keys word) ≡ with_word (texts_of keys) word.items
insert-some keys word some = by (list_any (λ k. bytes_eq word.items k.items) keys) refl
  where
    skipped : (b : Bool) → list_any (λ k. bytes_eq word.items k.items) keys ≡ b → is_skipped word.items (texts_of keys) ≡ b
    skipped b h = skips word.items (texts_of keys) some ∙ sym (any_is_word keys word.items) ∙ h

    by : (b : Bool) → list_any (λ k. bytes_eq word.items k.items) keys ≡ b
        → texts_of (insert_key (λ (x y : Vec ℕ Global). bytes_eq x.items y.items) keys word) ≡ with_word (texts_of keys) word.items
    by true h = rw (h, skipped true h) refl
    by false h = rw (h, skipped false h) (map-append {A = Vec ℕ Global} (λ w. w.items) keys (word ∷ []))

-- fewer words than a vocabulary can have leave room for one more
with-length : (words : List (List ℕ)) (w : List ℕ) → length (with_word words w) ≤ suc (length words)
with-length words w = by (is_skipped w words) refl
  where
    by : (b : Bool) → is_skipped w words ≡ b → length (with_word words w) ≤ suc (length words)
    by true h = rw h (omega arith)
    by false h = rw (h, length-append words (w ∷ [])) (omega arith)

all-length : (words ws : List (List ℕ)) → length (with_all words ws) ≤ length words + length ws
all-length words [] = omega arith
all-length words (w ∷ ws) = let one = with-length words w in let rest = all-length (with_word words w) ws in omega (arith, one, rest)

pub room_for : (list : List (Vec ℕ Global)) (w : List ℕ) → length list < 100000
    → false ≡ (nat_le 100000 (length (vocabulary (texts_of list))) && not (is_word w (vocabulary (texts_of list))))
room_for list w few = rw all refl
  where
    all : nat_le 100000 (length (vocabulary (texts_of list))) ≡ false
    all =
        let most = all-length [] (texts_of list) in
        let same = length-map list (λ (word : Vec ℕ Global). word.items) in
        grind (arith, tests, most, same, few)

pub room-distinct : (words : KeptWords) → HasRoom words → AreDistinct words
room-distinct (Plain words) room = tt
room-distinct (Distinct words) room = room

-- ---- a list of words and one more word, by what it holds

abbrev pub kept_of : Option (Vec ℕ Global) → Option (List ℕ)
kept_of refused = option_map (λ w. w.items) refused

pub held-after : (words all : List (List ℕ)) (refused : Option (Vec ℕ Global)) (w : List ℕ) → is_some refused ≡ true
    → AreKept words (kept_of refused) all → AreKept words (kept_of refused) (all ++ w ∷ [])
held-after words all None w some kept = absurd (true≢false (sym some))
held-after words all (Some r) w some kept = kept-after words all r.items w kept

pub held-empty : (words all : List (List ℕ)) (refused : Option (Vec ℕ Global)) (w : List ℕ) → is_some refused ≡ false → nat_eq (length w) 0 ≡ true
    → AreKept words (kept_of refused) all → AreKept words (kept_of refused) (all ++ w ∷ [])
held-empty words all None w none empty kept = kept-empty words all w kept empty
held-empty words all (Some r) w none empty kept = absurd (true≢false none)

-- no word was refused
pub held-none : (words all : List (List ℕ)) (refused : Option (Vec ℕ Global)) → is_some refused ≡ false → AreKept words (kept_of refused) all
    → AreKept words None all
held-none words all None none kept = kept
held-none words all (Some r) none kept = absurd (true≢false none)

pub none-held : (words all : List (List ℕ)) (refused : Option (Vec ℕ Global)) → is_some refused ≡ false → AreKept words None all
    → AreKept words (kept_of refused) all
none-held words all None none kept = kept
none-held words all (Some r) none kept = absurd (true≢false none)

-- ---- opening with the words that are kept

pub opens_none : (words all : List (List ℕ)) → AreKept words None all → OpensAs words all
opens_none words all kept = record {
  faults = kept.1 ∙ sym kept.0;
  vocabularies = λ none. kept.2;
}

pub opens_refused : (words all : List (List ℕ)) (refused : List ℕ) → AreKept words (Some refused) all → OpensAs (words ++ refused ∷ []) all
opens_refused words all refused kept = record {
  faults = kept.1;
  vocabularies = λ none. absurd (by (opening_fault [] all) none kept.0);
}
  where
    by : (o : Option EditFault) → o ≡ None → is_some o ≡ true → ⊥
    by None none some = true≢false (sym some)
    by (Some x) none some = true≢false (ap is_some none)

pub opens_as : {B : Type 0} (script : Source) (words all : List (List ℕ)) (state : B → Contents) (result : Result B EditFault) → OpensAs words all
    → Opens script words state result → Opens script all state result
opens_as script words all state (Ok bench) alike opens =
    let none = sym alike.faults ∙ opens.0 in
    (none, opens.1 ∙ ap (λ (ws : List (List ℕ)). record { setting = under script default_limit; words = ws; count = length ws }) (alike.vocabularies none))
opens_as script words all state (Err f) alike opens = subst (λ (o : Option EditFault). IsFaultOrMemory o f) alike.faults opens
