-- Macros, one after another.
use Rattle.std.proofs.Common.{◌≡◌, ℕ, zero, suc, ◌<◌, Bool, true, false, List, [], ◌∷◌, ◌++◌, length, map, Option, Some, None, refl, sym, ap, subst, ◌∙◌, arith}
use Rattle.std.specs.Prelude.{if◌then◌else◌, Vec}
use Rattle.std.specs.List.{slice_get, slice_index_or}
use Rattle.std.proofs.lemmas.List.{length-map}
use Rattle.std.specs.Ordering.{nat_cmp, is_eq}
use Rattle.std.specs.Cmp.{eq_by_cmp_equiv}
use Rattle.std.specs.Cmp.Lexicographic.{slice_cmp, nat_list_cmp_total, nat_list_eq_equiv}
use Rattle.std.specs.Map.{lookup, IsKeyTest, AreApart, KeepsOthers}
use Rattle.std.specs.BTreeMap.{BTreeMap, UpdatesBy}
use Rattle.std.specs.Option.{option_or}
use Rattle.std.specs.Str.{bytes_eq}
use Rattle.std.proofs.lemmas.Map.Text.{is_eq-slice_cmp}
use Rattle.std.proofs.lemmas.Slice.Eq.{bytes_eq-Decides}
use Rattle.sbl_text.specs.declared.escapes.Inserts.{Inserts}
use Rattle.sbl_text.specs.Escapes.{InForce, Definition, with_macro, find}
use Rattle.sbl_text.specs.Latest.{at_name, IsLatest}
use Rattle.sbl_text.proofs.Lists.{map_append}

-- ---- a map after a name was put into it

apart : (a b c : List ℕ) → bytes_eq a b ≡ false → is_eq (slice_cmp nat_cmp a c) ≡ true → is_eq (slice_cmp nat_cmp b c) ≡ false
apart a b c n y = is_eq-slice_cmp b c ∙ (nat_list_eq_equiv.symm b c ∙ sym (nat_list_eq_equiv.congr a c b (sym (is_eq-slice_cmp a c) ∙ y)) ∙ n)

other_entries : {K X : Type 0} (eq : K → K → Bool) (test : K → Bool) (old new : List (K × X)) → KeepsOthers eq test old new → (other : K → Bool) → IsKeyTest eq other → AreApart test other → lookup other new ≡ lookup other old
unfolding KeepsOthers
other_entries eq test old new h = h

-- the name has w, and each other name what it had
pub put_at : {X Y : Type 0} (name : List ℕ) (old new : BTreeMap (Vec ℕ Y) X) (w : Option X) → UpdatesBy (λ a b. slice_cmp nat_cmp a.items b.items) (λ k. slice_cmp nat_cmp name k.items) old new w
    → (q : List ℕ) → at_name new q ≡ (if bytes_eq name q then w else at_name old q)
put_at name old new w h q = put (bytes_eq name q) refl
  where
    put : (b : Bool) → bytes_eq name q ≡ b → at_name new q ≡ (if b then w else at_name old q)
    put true e = subst (λ (l : List ℕ). at_name new l ≡ w) ((bytes_eq-Decides name q).0 e) h.1
    put false e = other_entries _ _ _ _ h.3 _ (λ x y. (eq_by_cmp_equiv nat_list_cmp_total).congr q x.items y.items) (λ k. apart name q k.items e)

-- ---- a list of definitions with one more

find_more : (ds : List Definition) (d : Definition) (q : List ℕ) → find (ds ++ d ∷ []) q ≡ (if bytes_eq d.name q then Some d.value else find ds q)
find_more [] d q = refl
find_more (e ∷ ds) d q = more (bytes_eq d.name q) (find_more ds d q)
  where
    last : Option (List ℕ)
    last = if bytes_eq e.name q then Some e.value else None

    more : (b : Bool) → find (ds ++ d ∷ []) q ≡ (if b then Some d.value else find ds q) → option_or (find (ds ++ d ∷ []) q) last ≡ (if b then Some d.value else option_or (find ds q) last)
    more true h = ap (λ (o : Option (List ℕ)). option_or o last) h
    more false h = ap (λ (o : Option (List ℕ)). option_or o last) h

get_more : (ds : List Definition) (d e : Definition) (i : ℕ) → slice_get ds i ≡ Some e → slice_get (ds ++ d ∷ []) i ≡ Some e
get_more [] d e i h = absurd cc
get_more (x ∷ ds) d e zero h = h
get_more (x ∷ ds) d e (suc i) h = get_more ds d e i h

get_last : (ds : List Definition) (d : Definition) → slice_get (ds ++ d ∷ []) (length ds) ≡ Some d
get_last [] d = refl
get_last (x ∷ ds) d = get_last ds d

pub latest_more : (ds : List Definition) (d : Definition) (q : List ℕ) (old new : Option ℕ) → IsLatest ds q old → new ≡ (if bytes_eq d.name q then Some (length ds) else old) → IsLatest (ds ++ d ∷ []) q new
latest_more ds d q old new h is = subst (IsLatest (ds ++ d ∷ []) q) (sym is) (more (bytes_eq d.name q) old (find_more ds d q) h)
  where
    more : (b : Bool) (o : Option ℕ) → find (ds ++ d ∷ []) q ≡ (if b then Some d.value else find ds q) → IsLatest ds q o → IsLatest (ds ++ d ∷ []) q (if b then Some (length ds) else o)
    more true o f l = (d, get_last ds d, f)
    more false None f l = f ∙ l
    more false (Some i) f l = (l.0, get_more ds d l.0 i l.1, f ∙ l.2)

pub latest_push : {M : Type 0} (f : M → Definition) (old new : List M) (m : M) (name : List ℕ) (place : ℕ) (q : List ℕ) (o p : Option ℕ) → new ≡ old ++ m ∷ [] → (f m).name ≡ name → place ≡ length old
    → IsLatest (map f old) q o → p ≡ (if bytes_eq name q then Some place else o) → IsLatest (map f new) q p
latest_push f old new m name place q o p put named at h is =
    subst (λ (ds : List Definition). IsLatest ds q p) (sym (ap (map f) put ∙ map_append f old m))
    (latest_more (map f old) (f m) q o p h
    (is ∙ ap (λ (n : List ℕ). if bytes_eq n q then Some place else o) (sym named) ∙ ap (λ (k : ℕ). if bytes_eq (f m).name q then Some k else o) (at ∙ sym (length-map old f))))

-- ---- what is found

pub unfound : (ds : List Definition) (q : List ℕ) (o : Option ℕ) → IsLatest ds q o → None ≡ o → None ≡ find ds q
unfound ds q o h is = sym (subst (IsLatest ds q) (sym is) h)

pub latest_at : (ds : List Definition) (q : List ℕ) (o : Option ℕ) (i : ℕ) → IsLatest ds q o → Some i ≡ o → IsLatest ds q (Some i)
latest_at ds q o i h is = subst (IsLatest ds q) (sym is) h

pub get_within : {M : Type 0} (f : M → Definition) (ms : List M) (i : ℕ) (d : Definition) → slice_get (map f ms) i ≡ Some d → i < length ms
get_within f [] i d h = absurd cc
get_within f (m ∷ ms) zero d h = omega arith
get_within f (m ∷ ms) (suc i) d h = let k = get_within f ms i d h in omega arith

get_is : {M : Type 0} (f : M → Definition) (ms : List M) (i : ℕ) (d : Definition) (m : M) → slice_get (map f ms) i ≡ Some d → m ≡ slice_index_or ms i m → f m ≡ d
get_is f [] i d m h e = absurd cc
get_is f (x ∷ ms) zero d m h e = ap f e ∙ (let k : f x ≡ d = cc (h) in k)
get_is f (x ∷ ms) (suc i) d m h e = get_is f ms i d m h e

pub found_value : {M : Type 0} (f : M → Definition) (ms : List M) (ds : List Definition) (q : List ℕ) (i : ℕ) (m : M) (v : List ℕ) → map f ms ≡ ds → IsLatest (map f ms) q (Some i) → m ≡ slice_index_or ms i m → v ≡ (f m).value
    → Some v ≡ find ds q
found_value f ms ds q i m v is h e val =
    ap Some (val ∙ ap (λ (d : Definition). d.value) (get_is f ms i h.0 m h.1 e)) ∙ sym h.2 ∙ ap (λ (l : List Definition). find l q) is

-- ---- one more macro

pub one_defined : (old : InForce) (i : Option Inserts) (before after : List Definition) (name letters value : List ℕ) (b : Bool) → (let e : InForce = record { inserts = i; macros = before } in e) ≡ old
    → after ≡ (if b then before ++ record { name = letters; value = value } ∷ [] else before) → letters ≡ name
    → (let e : InForce = record { inserts = i; macros = after } in e) ≡ (if b then with_macro old name value else old)
one_defined old i before after name letters value b is put same = by b put
  where
    make : List Definition → InForce
    make ds = record { inserts = i; macros = ds }

    one : List ℕ → Definition
    one n = record { name = n; value = value }

    by : (b : Bool) → after ≡ (if b then before ++ one letters ∷ [] else before) → make after ≡ (if b then with_macro old name value else old)
    by true h = ap make h ∙ ap (λ (n : List ℕ). make (before ++ one n ∷ [])) same ∙ ap (λ (e : InForce). with_macro e name value) is
    by false h = ap make h ∙ is
