-- What is found for a word among the entries.
use Rattle.std.proofs.Common.{◌≡◌, ◌∙◌, ℕ, Bool, true, false, cond, List, [], ◌∷◌, map, Some, sym, ap, refl, subst}
use Rattle.std.specs.Str.{bytes_eq}
use Rattle.std.specs.declared.vec.Vec.{Vec}
use Rattle.std.specs.declared.alloc.Global.{Global}
use Rattle.std.specs.Map.{lookup_key}
use Rattle.std.proofs.lemmas.Slice.Eq.{bytes_eq-Decides}
use Rattle.sbl_rows.specs.Rows.{rows_of}
use Rattle.sbl_rows.specs.Setting.{Setting}
use Rattle.sbl_last_runs.specs.KeptEntries.{KeptWord, AreFresh, IsFresh, words_in}
use Rattle.sbl_last_runs.specs.Pairs.{Text, find}
use Rattle.sbl_last_runs.specs.declared.run_trace.RunTrace.{RunTrace}
pub use Rattle.sbl_last_runs.specs.ShownRows.{row_shown}

abbrev pub is_key : List ℕ → Vec ℕ Global → Bool
is_key word k = bytes_eq word k.items

-- fresh entries show the rows of their words
pub rows_shown : (script : Setting) (es : List KeptWord) → AreFresh script es → map row_shown es ≡ rows_of script (words_in es)
rows_shown script [] h = refl
rows_shown script (e ∷ es) h = λ i. record { word = e.0.items; outcome = h.0.outcome i } ∷ rows_shown script es h.1 i

same_some : (x y : Text) → Some x ≡ Some y → x ≡ y
same_some x y e = cc e

-- the key that is found for a word has its characters
pub key_found : (word : List ℕ) (fs : List KeptWord) (k : Text) → lookup_key (is_key word) fs ≡ Some k → bytes_eq word k.items ≡ true
key_found word [] k h = cc h
key_found word (f ∷ fs) k h = by (is_key word f.0) refl (key_found word fs k) h
  where
    by : (b : Bool) → is_key word f.0 ≡ b → (lookup_key (is_key word) fs ≡ Some k → bytes_eq word k.items ≡ true) → cond b (Some f.0) (lookup_key (is_key word) fs) ≡ Some k → bytes_eq word k.items ≡ true
    by true e rest g = ap (is_key word) (sym (same_some f.0 k g)) ∙ e
    by false e rest g = rest g

-- the run that a word has is fresh
pub fresh_found : (script : Setting) (word : List ℕ) (es : List KeptWord) (t : RunTrace) → AreFresh script es → Some t ≡ find word es → IsFresh script word t
fresh_found script word [] t fresh is = cc is
fresh_found script word (e ∷ es) t fresh is = by (bytes_eq word e.0.items) refl is (fresh_found script word es t fresh.1)
  where
    by : (b : Bool) → bytes_eq word e.0.items ≡ b → Some t ≡ cond b (Some e.1) (find word es) → (Some t ≡ find word es → IsFresh script word t) → IsFresh script word t
    by true same is rest =
        let one : e.1 ≡ t = cc is in
        subst (λ (w : List ℕ). IsFresh script w t) (sym ((bytes_eq-Decides word e.0.items).0 same)) (subst (IsFresh script e.0.items) one fresh.0)
    by false other is rest = rest is
