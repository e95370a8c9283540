-- What is kept of words, and what their runs take.
use Rattle.std.proofs.Common.{◌≡◌, ◌∙◌, ◌||◌, ◌++◌, ℕ, zero, suc, Bool, true, false, cond, List, [], ◌∷◌, map, length, Option, None, Some, IfSome, slice_get, refl, sym, ap, subst}
use Rattle.std.specs.List.{filter, list_any}
use Rattle.std.specs.Str.{bytes_eq}
use Rattle.std.specs.Global.{Vec}
use Rattle.std.specs.declared.rc.Rc.{Rc}
use Rattle.std.specs.declared.alloc.Global.{Global}
use Rattle.std.proofs.Math.Path.{fun_ext}
use Rattle.std.proofs.lemmas.Bool.{true≢false}
use Rattle.std.proofs.lemmas.Option.{none-some, same_Some}
use Rattle.std.proofs.lemmas.Slice.Eq.{bytes_eq-Decides}
use Rattle.sbl_ast.specs.Source.{Source}
use Rattle.sbl_bench.specs.Traces.{rows_meeting}
use Rattle.sbl_bench.specs.Vocabulary.{is_word}
use Rattle.sbl_machine.specs.BuiltFrom.{affected_by, is_affected_by, meets, meets_one}
use Rattle.sbl_machine.specs.DifferLaws.{DifferingAgree}
use Rattle.sbl_machine.proofs.FrameLaw.{agree_names}
use Rattle.sbl_machine.proofs.TouchedOrder.{any-mapped}
use Rattle.sbl_resolver.specs.Checks.{WellDeclared}
use Rattle.sbl_rows.specs.Rows.{Row, row_of, rows_of, view_row}
use Rattle.sbl_rows.specs.Setting.{Setting, under}
use Rattle.sbl_rows.specs.declared.row.Row as declared
use Rattle.sbl_semantics.specs.Differs.{differs}
use Rattle.sbl_semantics.specs.Outcome.{touches_of}
use Rattle.sbl_semantics.specs.TouchedItems.{Names', item_of_touch, names_of}
use Rattle.sbl_ast.specs.NamedParts.{Part'}
use Rattle.sbl_uses.specs.EventsStay.{TakesStay}
use Rattle.sbl_explain.specs.Kept.{Agrees, AreKept, AreTakenBy, IsListOf, Misses, Names, StayOutside, has_taken, row_words, view_list}
use Rattle.sbl_explain.specs.TakeNumbers.{number_kept}
use Rattle.sbl_uses.specs.Unused.{is_taken}
use Rattle.sbl_uses.specs.Used.{Entry, Take, number_using, same_take, takes_of, uses}
use Rattle.sbl_explain.specs.WhyRows.{routine_names}
use Rattle.sbl_explain.specs.declared.kept_words.KeptWord.{KeptWord}
use Rattle.sbl_explain.specs.declared.kept_words.Taken.{Taken}

-- ---- what is said of all words

trues : {X : Type 0} (f : X → Bool) (xs : List X) → length (filter f xs) ≡ length (filter (λ (b : Bool). b) (map f xs))
trues f [] = refl
trues {X = X} f (x ∷ xs) = by (f x) (trues f xs)
  where
    by : (b : Bool) → length (filter f xs) ≡ length (filter (λ (c : Bool). c) (map f xs))
        → length (cond b (x ∷ filter f xs) (filter f xs)) ≡ length (cond b (b ∷ filter (λ (c : Bool). c) (map f xs)) (filter (λ (c : Bool). c) (map f xs)))
    by true rest = ap suc rest
    by false rest = rest

pub number_is : (s : Setting) (words : List (List ℕ)) (kept : List KeptWord) → Agrees s words kept → (t : Take) → number_kept (routine_names s) t kept ≡ number_using s words (Entry t)
number_is s words kept agrees t =
    trues (has_taken (routine_names s) t) kept ∙ ap (λ (bs : List Bool). length (filter (λ (b : Bool). b) bs)) (agrees t) ∙ sym (trues (λ (w : List ℕ). uses s w (Entry t)) words)

pub taken_is : (s : Setting) (words : List (List ℕ)) (kept : List KeptWord) → Agrees s words kept → (t : Take) → list_any (has_taken (routine_names s) t) kept ≡ is_taken s words t
taken_is s words kept agrees t =
    sym (any-mapped (has_taken (routine_names s) t) (λ (b : Bool). b) kept) ∙ ap (list_any (λ (b : Bool). b)) (agrees t) ∙ any-mapped (λ (w : List ℕ). uses s w (Entry t)) (λ (b : Bool). b) words

-- ---- one of some items

or_cross : (a b c d : Bool) → ((a || b) || (c || d)) ≡ ((a || c) || (b || d))
or_cross true b c d = refl
or_cross false true true d = refl
or_cross false true false d = refl
or_cross false false c d = refl

module _ {X : Type 0} where
  any_none : (xs : List X) → list_any (λ (x : X). false) xs ≡ false
  any_none [] = refl
  any_none (x ∷ xs) = any_none xs

  any_or : (p q : X → Bool) (xs : List X) → list_any (λ (x : X). p x || q x) xs ≡ (list_any p xs || list_any q xs)
  any_or p q [] = refl
  any_or p q (x ∷ xs) = ap (λ (b : Bool). (p x || q x) || b) (any_or p q xs) ∙ or_cross (p x) (q x) (list_any p xs) (list_any q xs)

-- a run meets one of some items if it meets one of them
pub one_met : (s : Source) (w : List ℕ) (l : ℕ) (xs : List Part') → meets_one xs s w l ≡ list_any (λ (x : Part'). meets x s w l) xs
unfolding meets meets_one
one_met s w l [] = any_none (map (item_of_touch (names_of s)) (touches_of s w l))
one_met s w l (x ∷ xs) =
    let items = map (item_of_touch (names_of s)) (touches_of s w l) in
    any_or (is_affected_by s x) (affected_by s xs) items ∙ ap (λ (b : Bool). list_any (is_affected_by s x) items || b) (one_met s w l xs)

-- ---- the words that run again

words_in_rows : (rows : List declared.Row) → row_words rows ≡ map (λ (r : Row). r.word) (map view_row rows)
words_in_rows [] = refl
words_in_rows (r ∷ rows) = ap (λ l. r.word.now ∷ l) (words_in_rows rows)

passing : (s : Setting) (test : List ℕ → Bool) (w : List ℕ) (words : List (List ℕ)) → is_word w words ≡ true
    → list_any (bytes_eq w) (map (λ (r : Row). r.word) (filter (λ (r : Row). test r.word) (rows_of s words))) ≡ false → test w ≡ false
passing s test w [] there none = absurd (true≢false (sym there))
passing s test w (v ∷ words) there none = by (bytes_eq w v) refl (test v) refl there none (passing s test w words)
  where
    rest : List Row
    rest = filter (λ (r : Row). test r.word) (rows_of s words)

    by : (a : Bool) → bytes_eq w v ≡ a → (b : Bool) → test v ≡ b → (a || is_word w words) ≡ true
        → list_any (bytes_eq w) (map (λ (r : Row). r.word) (cond b (row_of s v ∷ rest) rest)) ≡ false
        → (is_word w words ≡ true → list_any (bytes_eq w) (map (λ (r : Row). r.word) rest) ≡ false → test w ≡ false) → test w ≡ false
    by true p false q h out later = ap test ((bytes_eq-Decides w v).0 p) ∙ q
    by true p true q h out later = absurd (true≢false (sym (ap (λ (b : Bool). b || list_any (bytes_eq w) (map (λ (r : Row). r.word) rest)) p) ∙ out))
    by false p true q h out later = later h (sym (ap (λ (b : Bool). b || list_any (bytes_eq w) (map (λ (r : Row). r.word) rest)) p) ∙ out)
    by false p false q h out later = later h out

pub or_clear : (a b : Bool) → (a || b) ≡ false → (a ≡ false) × (b ≡ false)
or_clear true b h = absurd (true≢false h)
or_clear false b h = (refl, h)

-- a word that is in none of the rows of an item does not meet it
pub row_missed : (s : Setting) (words : List (List ℕ)) (x : Part') (rows : List declared.Row) (w : List ℕ) → map view_row rows ≡ rows_meeting s words x → is_word w words ≡ true
    → list_any (bytes_eq w) (row_words rows) ≡ false → meets x s.script w s.limit ≡ false
row_missed s words x rows w are there none =
    passing s (λ v. meets x s.script v s.limit) w words there
    (sym (ap (list_any (bytes_eq w)) (words_in_rows rows ∙ ap (map (λ (r : Row). r.word)) are)) ∙ none)

same_uses : TakesStay → (s u : Setting) (xs : List Part') → WellDeclared s.script.items s.script.external → u.limit ≡ s.limit → differs s.script u.script ≡ Some xs → (w : List ℕ)
    → meets_one xs s.script w s.limit ≡ false → (t : Take) → uses u w (Entry t) ≡ uses s w (Entry t)
same_uses stays s u xs well limits differ w clear t =
    ap (list_any (same_take t)) (ap (λ (l : ℕ). takes_of (under u.script l) w) limits ∙ stays s.script u.script xs well differ w s.limit clear)

same_names : DifferingAgree → (s u : Setting) (xs : List Part') → WellDeclared s.script.items s.script.external → differs s.script u.script ≡ Some xs → routine_names u ≡ routine_names s
same_names agrees s u xs well differ =
    ap (λ (names : Names'). names.routines) (agree_names (affected_by s.script xs) s.script u.script (agrees s.script u.script xs well differ).1)

pub stay_outside : TakesStay → DifferingAgree → (s u : Setting) (words : List (List ℕ)) (xs : List Part') (again : List ℕ → Bool) → WellDeclared s.script.items s.script.external → u.limit ≡ s.limit
    → differs s.script u.script ≡ Some xs → Misses s words xs again → StayOutside s u words again
stay_outside stays agrees s u words xs again well limits differ misses =
    (same_names agrees s u xs well differ, λ w there out. same_uses stays s u xs well limits differ w (misses w there out))

-- ---- what is kept

fuse : (f : List ℕ → Bool) (kept : List KeptWord) → map f (map (λ (k : KeptWord). k.word.items) kept) ≡ map (λ (k : KeptWord). f k.word.items) kept
fuse f [] = refl
fuse f (k ∷ kept) = ap (λ l. f k.word.items ∷ l) (fuse f kept)

-- it stays right under a copy of the script
pub copy_keeps : TakesStay → DifferingAgree → (s u : Setting) (words : List (List ℕ)) (kept : List KeptWord) → WellDeclared s.script.items s.script.external → u.limit ≡ s.limit
    → differs s.script u.script ≡ Some [] → AreTakenBy s words kept → AreKept u kept
copy_keeps stays agrees s u words kept well limits differ taken = λ t.
    let f = λ (w : List ℕ). uses s w (Entry t) in
    ap (λ (names : Names). map (has_taken names t) kept) (same_names agrees s u [] well differ)
    ∙ taken.1 t
    ∙ ap (map f) (sym taken.0)
    ∙ fuse f kept
    ∙ ap (λ (g : KeptWord → Bool). map g kept) (fun_ext (λ (k : KeptWord). sym (same_uses stays s u [] well limits differ k.word.items (one_met s.script k.word.items s.limit []) t)))

abbrev first_of : List Bool → Bool
first_of [] = false
first_of (b ∷ bs) = b

abbrev others_of : List Bool → List Bool
others_of [] = []
others_of (b ∷ bs) = bs

at_place : {X : Type 0} (f g : X → Bool) (xs : List X) (i : ℕ) (x : X) → map f xs ≡ map g xs → slice_get xs i ≡ Some x → f x ≡ g x
at_place f g [] i x same is = absurd (none-some x is)
at_place f g (y ∷ ys) zero x same is = subst (λ z. f z ≡ g z) (same_Some y x is) (ap first_of same)
at_place f g (y ∷ ys) (suc i) x same is = at_place f g ys i x (ap others_of same) is

pub kept_at : (u : Setting) (kept : List KeptWord) (i : ℕ) (k : KeptWord) → AreKept u kept → slice_get kept i ≡ Some k → IsListOf u k.word.items k.takes
kept_at u kept i k are is = λ t. at_place (has_taken (routine_names u) t) (λ (k : KeptWord). uses u k.word.items (Entry t)) kept i k (are t) is

pub heads_same : (b c : Bool) (bs cs : List Bool) → (b ∷ bs) ≡ (c ∷ cs) → (b ≡ c) × (bs ≡ cs)
heads_same b c bs cs h = (ap first_of h, ap others_of h)

-- a list that is kept is that of the word under another script, too
pub list_stays : (s u : Setting) (words : List (List ℕ)) (again : List ℕ → Bool) (w : List ℕ) (list : Rc (Vec Taken) Global) → StayOutside s u words again → is_word w words ≡ true → again w ≡ false
    → IsListOf u w list → IsListOf s w list
list_stays s u words again w list stays there out is = λ t.
    ap (λ (names : Names). list_any (same_take t) (view_list names list.value.items)) (sym stays.0) ∙ is t ∙ stays.1 w there out t

-- one word more, and what is said of it
pub mapped_more : {X Y : Type 0} (f : X → Y) (old : List X) (x : X) (y : Y) → f x ≡ y → map f (old ++ x ∷ []) ≡ map f old ++ y ∷ []
mapped_more f [] x y same = ap (λ z. z ∷ []) same
mapped_more f (o ∷ old) x y same = ap (λ l. f o ∷ l) (mapped_more f old x y same)

-- ---- rows

of_rows : (f : List ℕ → Bool) (s : Setting) (words : List (List ℕ)) → map (λ (r : Row). f r.word) (rows_of s words) ≡ map f words
of_rows f s [] = refl
of_rows f s (w ∷ words) = ap (λ l. f w ∷ l) (of_rows f s words)

-- what is kept of words, beside their rows
pub rows_match : (s : Setting) (words : List (List ℕ)) (kept : List KeptWord) (t : Take) (rows : List Row) → AreTakenBy s words kept → rows ≡ rows_of s words
    → map (has_taken (routine_names s) t) kept ≡ map (λ (r : Row). uses s r.word (Entry t)) rows
rows_match s words kept t rows taken are =
    taken.1 t ∙ sym (of_rows (λ (w : List ℕ). uses s w (Entry t)) s words) ∙ ap (map (λ (r : Row). uses s r.word (Entry t))) (sym are)

-- another owner of a list that is kept
pub list_moves : (u : Setting) (k : KeptWord) (w : List ℕ) (list : Rc (Vec Taken) Global) → IsListOf u k.word.items k.takes → k.word.items ≡ w → list.value ≡ k.takes.value → IsListOf u w list
list_moves u k w list is same value = λ t.
    ap (λ (v : Vec Taken). list_any (same_take t) (view_list (routine_names u) v.items)) value ∙ is t ∙ ap (λ (x : List ℕ). uses u x (Entry t)) same

pub some_weaker : {X : Type 0} (P Q : X → Type 0) → ((x : X) → P x → Q x) → (o : Option X) → IfSome o P → IfSome o Q
some_weaker P Q f None h = tt
some_weaker P Q f (Some x) h = f x h
