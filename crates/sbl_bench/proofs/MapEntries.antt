-- Where a word stands in a map's entries, and what the entries are once one more is put last.
use Rattle.std.proofs.Common.{◌≡◌, ◌∙◌, ◌<◌, ◌≤◌, ◌++◌, ℕ, Bool, true, false, List, [], ◌∷◌, length, Option, Some, None, Result, Ok, Err, OnOk, OnErr, is_some, cond, All, refl, sym, ap, subst, arith}
use Rattle.std.proofs.lemmas.List.{length-append}
use Rattle.std.proofs.lemmas.List.Elements.{All-push, All-head, All-tail, All-cons}
use Rattle.std.specs.Str.{bytes_eq}
use Rattle.std.specs.declared.vec.Vec.{Vec}
use Rattle.std.specs.declared.alloc.Global.{Global}
use Rattle.std.specs.List.{AllByRecursion, IsDistinct}
use Rattle.std.specs.Map.{keys_of, lookup, lookup_key, remove_entry}
use Rattle.std.proofs.lemmas.Slice.Eq.{bytes_eq-Decides}
use Rattle.sbl_rows.proofs.OrderFacts.{bytes_eq-back}
use Rattle.sbl_rows.specs.Setting.{Setting}
use Rattle.sbl_last_runs.specs.declared.run_trace.RunTrace.{RunTrace}
use Rattle.sbl_bench.specs.declared.fault.EditFault.{EditFault}
use Rattle.sbl_bench.specs.KeptRuns.{IsWord}
use Rattle.sbl_last_runs.specs.KeptEntries.{KeptWord, words_in, AreFresh, IsFresh}
use Rattle.sbl_bench.specs.inside.KeptEntries.{IsKept}
use Rattle.sbl_last_runs.specs.Pairs.{IsOneMore, Text, find}
use Rattle.sbl_last_runs.proofs.Entries.{is_key, key_found}
use Rattle.sbl_bench.specs.Vocabulary.{is_word, without}

-- a word has an entry exactly where it is a word of the entries
pub found_word : (word : List ℕ) (es : List KeptWord) → is_some (lookup (is_key word) es) ≡ is_word word (words_in es)
found_word word [] = refl
found_word word (e ∷ es) = by (is_key word e.0) refl (found_word word es)
  where
    by : (b : Bool) → is_key word e.0 ≡ b → is_some (lookup (is_key word) es) ≡ is_word word (words_in es)
        → is_some (lookup (is_key word) (e ∷ es)) ≡ is_word word (words_in (e ∷ es))
    by true h rest = rw h refl
    by false h rest = rw h rest

-- a new word has no entry
pub not_found : (word : List ℕ) (es : List KeptWord) → is_word word (words_in es) ≡ false → lookup (is_key word) es ≡ None
not_found word es new = by (lookup (is_key word) es) (found_word word es ∙ new)
  where
    by : (o : Option RunTrace) → is_some o ≡ false → o ≡ None
    by None h = refl
    by (Some x) h = cc

pub words-push : (es : List KeptWord) (e : KeptWord) → words_in (es ++ e ∷ []) ≡ words_in es ++ e.0.items ∷ []
words-push [] e = refl
words-push (x ∷ es) e = ap (λ (ws : List (List ℕ)). x.0.items ∷ ws) (words-push es e)

pub fresh-push : (script : Setting) (es : List KeptWord) (e : KeptWord) → AreFresh script es → IsFresh script e.0.items e.1 → AreFresh script (es ++ e ∷ [])
fresh-push script [] e h p = (p, tt)
fresh-push script (x ∷ es) e h p = (h.0, fresh-push script es e h.1 p)

-- a word that is run and put last
pub kept-push : (script : Setting) (es : List KeptWord) (e : KeptWord) → IsKept script es → IsWord e.0.items → length es < 100000
    → IsFresh script e.0.items e.1 → IsKept script (es ++ e ∷ [])
kept-push script es e h word room ran = record {
  fresh = fresh-push script es e h.fresh ran;
  sound = subst (All IsWord) (sym (words-push es e)) (All-push IsWord (words_in es) e.0.items h.sound word);
  room = rw (length-append es (e ∷ [])) (omega (arith, room));
}

-- entries that are kept, whether a word was put last or not
pub kept_either : (script : Setting) (es new : List KeptWord) (r : Result (Unit {0}) EditFault) → IsKept script es
    → OnOk r (IsKept script new) → OnErr r (new ≡ es) → IsKept script new
kept_either script es new (Ok u) kept more same = more
kept_either script es new (Err f) kept more same = subst (IsKept script) (sym same) kept

-- a word that is put last is one more
pub put_more : (es : List KeptWord) (e : KeptWord) → is_word e.0.items (words_in es) ≡ false → IsOneMore e.0.items (es ++ e ∷ []) es
put_more es e new = record { absent = not_found e.0.items es new; others = others es }
  where
    others : (fs : List KeptWord) (w : Vec ℕ Global) → bytes_eq e.0.items w.items ≡ false → find w.items (fs ++ e ∷ []) ≡ find w.items fs
    others [] w h = rw (bytes_eq-back w.items e.0.items ∙ h) refl
    others (f ∷ fs) w h = ap (cond (bytes_eq w.items f.0.items) (Some f.1)) (others fs w h)

-- ---- a word that is taken out

-- a word that is taken out was one more
pub taken_more : (word : List ℕ) (es : List KeptWord) → IsDistinct (λ (x y : Text). bytes_eq x.items y.items) (keys_of es) → IsOneMore word es (remove_entry (is_key word) es)
unfolding IsDistinct
taken_more word es unique = record { absent = absent es unique; others = others es }
  where
    gone : (e : KeptWord) (fs : List KeptWord) → bytes_eq word e.0.items ≡ true → AllByRecursion (λ (y : Text). bytes_eq e.0.items y.items ≡ false) (keys_of fs) → find word fs ≡ None
    gone e [] h a = refl
    gone e (f ∷ fs) h a = rw (ap (λ (x : List ℕ). bytes_eq x f.0.items) ((bytes_eq-Decides word e.0.items).0 h) ∙ a.0) (gone e fs h a.1)

    absent : (fs : List KeptWord) → IsDistinct (λ (x y : Text). bytes_eq x.items y.items) (keys_of fs) → find word (remove_entry (is_key word) fs) ≡ None
    absent [] u = refl
    absent (f ∷ fs) u = by (is_key word f.0) refl (absent fs u.1)
      where
        by : (b : Bool) → is_key word f.0 ≡ b → find word (remove_entry (is_key word) fs) ≡ None → find word (remove_entry (is_key word) (f ∷ fs)) ≡ None
        by true h rest = rw h (gone f fs h u.0)
        by false h rest = ap (λ (b : Bool). find word (cond b fs (f ∷ remove_entry (is_key word) fs))) h ∙ ap (λ (b : Bool). cond b (Some f.1) (find word (remove_entry (is_key word) fs))) h ∙ rest

    others : (fs : List KeptWord) (w : Text) → bytes_eq word w.items ≡ false → find w.items fs ≡ find w.items (remove_entry (is_key word) fs)
    others [] w h = refl
    others (f ∷ fs) w h = by (is_key word f.0) refl (others fs w h)
      where
        by : (b : Bool) → is_key word f.0 ≡ b → find w.items fs ≡ find w.items (remove_entry (is_key word) fs) → find w.items (f ∷ fs) ≡ find w.items (remove_entry (is_key word) (f ∷ fs))
        by true k rest = rw (k, ap (λ (x : List ℕ). bytes_eq w.items x) (sym ((bytes_eq-Decides word f.0.items).0 k)) ∙ bytes_eq-back w.items word ∙ h) refl
        by false k rest = rw k (ap (cond (bytes_eq w.items f.0.items) (Some f.1)) rest)

-- its key, and its run
pub key_taken : (word : List ℕ) (es new : List KeptWord) (k : Text) (t : RunTrace) → IsDistinct (λ (x y : Text). bytes_eq x.items y.items) (keys_of es) → new ≡ remove_entry (is_key word) es
    → Some k ≡ lookup_key (is_key word) es → Some t ≡ lookup (is_key word) es → IsOneMore k.items es new × (find k.items es ≡ Some t)
key_taken word es new k t unique is key there =
    let same : word ≡ k.items = (bytes_eq-Decides word k.items).0 (key_found word es k (sym key)) in (
      subst (λ (w : List ℕ). IsOneMore w es new) same (subst (IsOneMore word es) (sym is) (taken_more word es unique)),
      ap (λ (w : List ℕ). find w es) (sym same) ∙ sym there,
    )

pub words-remove : (word : List ℕ) (es : List KeptWord) → words_in (remove_entry (is_key word) es) ≡ without word (words_in es)
words-remove word [] = refl
words-remove word (e ∷ es) = by (is_key word e.0) refl (words-remove word es)
  where
    by : (b : Bool) → is_key word e.0 ≡ b → words_in (remove_entry (is_key word) es) ≡ without word (words_in es)
        → words_in (remove_entry (is_key word) (e ∷ es)) ≡ without word (words_in (e ∷ es))
    by true h rest = rw h refl
    by false h rest = rw h (ap (λ (ws : List (List ℕ)). e.0.items ∷ ws) rest)

fresh-remove : (script : Setting) (word : List ℕ) (es : List KeptWord) → AreFresh script es → AreFresh script (remove_entry (is_key word) es)
fresh-remove script word [] h = tt
fresh-remove script word (e ∷ es) h = by (is_key word e.0) refl (fresh-remove script word es h.1)
  where
    by : (b : Bool) → is_key word e.0 ≡ b → AreFresh script (remove_entry (is_key word) es) → AreFresh script (remove_entry (is_key word) (e ∷ es))
    by true k rest = rw k h.1
    by false k rest = rw k (h.0, rest)

all-without : (P : List ℕ → Type 0) (word : List ℕ) (ws : List (List ℕ)) → All P ws → All P (without word ws)
all-without P word [] h = h
all-without P word (w ∷ ws) h = by (bytes_eq word w) refl (all-without P word ws (All-tail P w ws h))
  where
    by : (b : Bool) → bytes_eq word w ≡ b → All P (without word ws) → All P (without word (w ∷ ws))
    by true k rest = rw k (All-tail P w ws h)
    by false k rest = rw k (All-cons P w (without word ws) (All-head P w ws h) rest)

short-remove : (word : List ℕ) (es : List KeptWord) → length (remove_entry (is_key word) es) ≤ length es
short-remove word [] = omega arith
short-remove word (e ∷ es) = by (is_key word e.0) refl (short-remove word es)
  where
    by : (b : Bool) → is_key word e.0 ≡ b → length (remove_entry (is_key word) es) ≤ length es → length (remove_entry (is_key word) (e ∷ es)) ≤ length (e ∷ es)
    by true k rest = rw k (omega arith)
    by false k rest = rw k (omega (arith, rest))

pub kept-remove : (script : Setting) (word : List ℕ) (es : List KeptWord) → IsKept script es → IsKept script (remove_entry (is_key word) es)
kept-remove script word es h = record {
  fresh = fresh-remove script word es h.fresh;
  sound = subst (All IsWord) (sym (words-remove word es)) (all-without IsWord word (words_in es) h.sound);
  room = omega (arith, h.room, short-remove word es);
}
