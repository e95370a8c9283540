-- Reports: the rows and classes that they write, and the row of a word.
use Rattle.std.proofs.Common.{subst, ◌≡◌, ◌∙◌, ℕ, Bool, true, false, List, [], ◌∷◌, Option, Some, None, Result, Ok, Err, IfOk, OnErr, refl, sym, ap, map, take, slice_get, suc}
use Prim.Native.Nat.{zero}
use Rattle.std.specs.List.{find}
use Rattle.std.specs.declared.vec.Vec.{Vec}
use Rattle.std.specs.declared.alloc.Global.{Global}
use Rattle.std.specs.declared.alloc.AllocError.{AllocError}
use Rattle.sbl_bench.specs.Contents.{Contents, rows_now}
use Rattle.std.specs.Option.{option_and_then, option_map, option_map_or}
use Rattle.std.specs.Str.{bytes_eq}
use Rattle.sbl_rows.specs.Classes.{Class, class_of, class_with, stem_of}
use Rattle.sbl_rows.specs.Rows.{Row}
use Rattle.sbl_bench.specs.Traces.{trace_of}
use Rattle.sbl_bench.specs.Vocabulary.{is_word}
use Rattle.sbl_bench.specs.declared.fault.EditFault.TheVariants as fault
use Rattle.sbl_semantics.specs.TouchedItems.{touched_items}
use Rattle.sbl_ast.specs.NamedParts.{Part'}
use Rattle.sbl_io.specs.Records.{records_text}
use Rattle.sbl_sessions.specs.Answers.{Enough, IsReport, Memory, RefusedAfter, edit_text}
use Rattle.sbl_sessions.specs.CommandViews.{IsReply}
use Rattle.sbl_records.specs.RowRecords.{class_fields, row_fields}
use Rattle.sbl_reports.specs.Listings.{class_text}
use Rattle.sbl_reports.specs.inside.ListingParts.{class_or_row_text}
use Rattle.sbl_reports.specs.inside.ItemTexts.{items_text}
use Rattle.sbl_reports.specs.Listings.{trace_text}
use Rattle.sbl_sessions.specs.declared.replies.Reply.{Reply}

pub map_twice : {A B C : Type 0} (g : B → C) (f : A → B) (xs : List A) → map (λ (x : A). g (f x)) xs ≡ map g (map f xs)
map_twice g f [] = refl
map_twice {A} {B} {C} g f (x ∷ xs) = ap (λ (ys : List C). g (f x) ∷ ys) (map_twice g f xs)

-- the text of records is that of what they show
pub text_of_views : {A B : Type 0} (r : Result (Vec ℕ Global) AllocError) (fields : B → List (List ℕ)) (view : A → B) (given : List A) (shown : List B)
    → map view given ≡ shown → IfOk r (λ text. text.items ≡ records_text (map (λ (x : A). fields (view x)) given)) → IfOk r (λ text. text.items ≡ records_text (map fields shown))
text_of_views {A} {B} (Ok text) fields view given shown are h =
    h ∙ ap records_text (map_twice fields view given ∙ ap (map fields) are)
text_of_views (Err e) fields view given shown are h = tt

-- a report that was made, or whose memory was refused
pub report_answer : (r : Result (Vec ℕ Global) AllocError) (reply : Reply) (s : Contents) (expected : List ℕ) → IfOk r (λ text. text.items ≡ expected)
    → IfOk r (λ made. IsReply reply made.items) → OnErr r (IsReply reply (edit_text (Some fault.OutOfMemory)))
    → (memory : Memory) × (text : List ℕ) × IsReply reply text × IsReport s (Some expected) memory text s
report_answer (Ok text) reply s expected is made refused = (Enough, text.items, made, (is, refl))
report_answer (Err e) reply s expected is made refused = (RefusedAfter 0, edit_text (Some fault.OutOfMemory), refused, (refl, refl))

-- ---- the class of a word, or its row

pub text_of_class : (r : Result (Vec ℕ Global) AllocError) (s : Contents) (word : List ℕ) (row : Row) (class : Class) → Some class ≡ class_of (rows_now s) word
    → IfOk r (λ text. text.items ≡ records_text (class_fields class ∷ [])) → IfOk r (λ text. text.items ≡ class_or_row_text s word row)
text_of_class (Ok text) s word row class is h = h ∙ ap (λ (o : Option Class). records_text (option_map_or class_fields o (row_fields row) ∷ [])) is
text_of_class (Err e) s word row class is h = tt

pub text_of_row : (r : Result (Vec ℕ Global) AllocError) (s : Contents) (word : List ℕ) (row : Row) → None ≡ class_of (rows_now s) word
    → IfOk r (λ text. text.items ≡ records_text (row_fields row ∷ [])) → IfOk r (λ text. text.items ≡ class_or_row_text s word row)
text_of_row (Ok text) s word row is h = h ∙ ap (λ (o : Option Class). records_text (option_map_or class_fields o (row_fields row) ∷ [])) is
text_of_row (Err e) s word row is h = tt

-- ---- the row of a word

some_none : {A : Type 0} {x : A} → Some x ≡ None → ⊥
some_none e = cc e

-- the first element that passes
pub find_here : {A : Type 0} (p : A → Bool) (xs : List A) (i : ℕ) (x : A) → find p (take i xs) ≡ None → slice_get xs i ≡ Some x → p x ≡ true → find p xs ≡ Some x
find_here p [] i x none at passes = absurd (some_none (sym at))
find_here {A} p (y ∷ xs) zero x none at passes = let same : y ≡ x = cc at in rw (same, passes) refl
find_here {A} p (y ∷ xs) (suc i) x none at passes = by (λ rest. find_here p xs i x rest at passes) (p y) refl
  where
    by : (find p (take i xs) ≡ None → find p xs ≡ Some x) → (t : Bool) → p y ≡ t → find p (y ∷ xs) ≡ Some x
    by more true e = let some : Some y ≡ None = (rw e at none) in absurd (some_none some)
    by more false e = let rest : find p (take i xs) ≡ None = (rw e at none) in rw e (more rest)

-- no element so far passes, and the next does not
pub find_further : {A : Type 0} (p : A → Bool) (xs : List A) (i : ℕ) (x : A) → find p (take i xs) ≡ None → slice_get xs i ≡ Some x → p x ≡ false → find p (take (suc i) xs) ≡ None
find_further p [] i x none at fails = absurd (some_none (sym at))
find_further {A} p (y ∷ xs) zero x none at fails = let same : y ≡ x = cc at in rw (same, fails) refl
find_further {A} p (y ∷ xs) (suc i) x none at fails = by (λ rest. find_further p xs i x rest at fails) (p y) refl
  where
    by : (find p (take i xs) ≡ None → find p (take (suc i) xs) ≡ None) → (t : Bool) → p y ≡ t → find p (take (suc (suc i)) (y ∷ xs)) ≡ None
    by more true e = let some : Some y ≡ None = (rw e at none) in absurd (some_none some)
    by more false e = let rest : find p (take i xs) ≡ None = (rw e at none) in rw e (more rest)

-- ---- the report of a word's class

-- the text of a row's class, or of the row if it has no stem
abbrev text_for_row : Contents → Row → List ℕ
text_for_row s row = records_text (option_map_or (λ (stem : List ℕ). class_fields (class_with (rows_now s) stem)) (stem_of row.outcome) (row_fields row) ∷ [])

map_or_map : {A B C : Type 0} (g : B → C) (f : A → B) (o : Option A) (d : C) → option_map_or (λ (x : A). g (f x)) o d ≡ option_map_or g (option_map f o) d
map_or_map g f None d = refl
map_or_map g f (Some x) d = refl

row_text_is : (s : Contents) (word : List ℕ) (row : Row) → find (λ (r : Row). bytes_eq word r.word) (rows_now s) ≡ Some row → text_for_row s row ≡ class_or_row_text s word row
row_text_is s word row is =
    let given : List ℕ → Class = class_with (rows_now s) in
    let class : option_map given (stem_of row.outcome) ≡ class_of (rows_now s) word = ap (λ (o : Option Row). option_map given (option_and_then (λ (r : Row). stem_of r.outcome) o)) (sym is) in
    ap (λ (fields : List (List ℕ)). records_text (fields ∷ []))
    (map_or_map class_fields given (stem_of row.outcome) (row_fields row) ∙ ap (λ (o : Option Class). option_map_or class_fields o (row_fields row)) class)

pub class_text_is : (s : Contents) (word : List ℕ) (row : Option Row) → find (λ (r : Row). bytes_eq word r.word) (rows_now s) ≡ row → class_text s word ≡ option_map (class_or_row_text s word) row
unfolding class_text
class_text_is s word None is = ap (option_map (λ (r : Row). text_for_row s r)) is
class_text_is s word (Some row) is = ap (option_map (λ (r : Row). text_for_row s r)) is ∙ ap Some (row_text_is s word row is)

-- ---- the trace of a word

pub trace_text_is : (s : Contents) (word : List ℕ) (items : Option (List Part')) → items ≡ trace_of s.setting s.words word → trace_text s word ≡ option_map items_text items
unfolding trace_text
trace_text_is s word items is = ap (option_map items_text) (sym is)

-- its items, or want of memory for their text
pub trace_answer : (s : Contents) (word : List ℕ) (items : List Part') (r : Result (Vec ℕ Global) AllocError) (reply : Reply) → Some items ≡ trace_of s.setting s.words word
    → IfOk r (λ text. text.items ≡ items_text items) → IfOk r (λ made. IsReply reply made.items) → OnErr r (IsReply reply (edit_text (Some fault.OutOfMemory)))
    → (memory : Memory) × (text : List ℕ) × IsReply reply text × IsReport s (trace_text s word) memory text s
trace_answer s word items r reply is text made refused =
    subst (λ (o : Option (List ℕ)). (memory : Memory) × (text : List ℕ) × IsReply reply text × IsReport s o memory text s) (sym (trace_text_is s word (Some items) is))
    (report_answer r reply s (items_text items) text made refused)

-- the word is not there
pub trace_absent : (s : Contents) (word told : List ℕ) → None ≡ trace_of s.setting s.words word → told ≡ edit_text (Some fault.Absent)
    → (memory : Memory) × (text : List ℕ) × (told ≡ text) × IsReport s (trace_text s word) memory text s
trace_absent s word told is absent =
    subst (λ (o : Option (List ℕ)). (memory : Memory) × (text : List ℕ) × (told ≡ text) × IsReport s o memory text s) (sym (trace_text_is s word None is)) (Enough, told, refl, (absent, refl))

-- the word is there, and the memory of its items was refused
pub trace_refused : (s : Contents) (word : List ℕ) (reply : Reply) → (is_word word s.words ≡ false → ⊥) → IsReply reply (edit_text (Some fault.OutOfMemory))
    → (memory : Memory) × (text : List ℕ) × IsReply reply text × IsReport s (trace_text s word) memory text s
trace_refused s word reply there refused = by (is_word word s.words) refl
  where
    by : (b : Bool) → is_word word s.words ≡ b → (memory : Memory) × (text : List ℕ) × IsReply reply text × IsReport s (trace_text s word) memory text s
    by false absent = absurd (there absent)
    by true e =
        let items = touched_items s.setting.script word s.setting.limit in
        let is : Some items ≡ trace_of s.setting s.words word = rw e refl in
        subst (λ (o : Option (List ℕ)). (memory : Memory) × (text : List ℕ) × IsReply reply text × IsReport s o memory text s) (sym (trace_text_is s word (Some items) is))
        (RefusedAfter 0, edit_text (Some fault.OutOfMemory), refused, (refl, refl))
