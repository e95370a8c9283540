-- The words of a definition, read one after another.
use Rattle.std.proofs.Common.{◌≡◌, ◌≢◌, ◌⊎◌, inl, inr, ◌∙◌, ◌++◌, ◌-◌, ℕ, List, [], ◌∷◌, Option, Some, None, Result, Ok, Err, IfOk, MatchOption, length, drop, slice_range, encode_utf8_all, refl, sym, ap, subst, append_assoc, arith}
use Rattle.std.proofs.lemmas.List.{length-drop, take_all}
use Rattle.std.proofs.lemmas.Str.{IsCharBoundary-at_seam, encodes-append, encodes-chars, scalars-chars}
use Rattle.std.proofs.Math.Seq.{drop-append_seam}
use Rattle.std.proofs.Math.Utf8.{scalars}
use Rattle.std.specs.Str.{IsCharBoundary, IsUtf8, chars}
use Rattle.sbl_token.specs.declared.token.Token.{Token}
use Rattle.sbl_text.specs.Directives.{start}
use Rattle.sbl_text.specs.Literals.{byte_length}
use Rattle.sbl_text.specs.Tokens.{IsAnswer, IsFresh, IsNext, Reading, Stops, beginning}
use Rattle.sbl_text.specs.declared.fault.ScriptFault.{ScriptFault}
use Rattle.sbl_text.specs.declared.fault.ScriptFault.TheVariants as fault
use Rattle.sbl_text.proofs.Lists.{bytes_append}
use Rattle.sbl_source_map.specs.Heads.{Follows}
use Rattle.sbl_source_map.specs.HeadReader.{IsAfterWord, IsEndOf}
use Rattle.sbl_source_map.proofs.Rests.{rest_scalars}

fresh : (r t : Reading) (result : Result (Option Token) ScriptFault) → r.fault ≡ None → IsNext r t result → IsFresh r t result
fresh r t result none next = subst (λ (f : Option ScriptFault). IsAnswer f r t result) none next

-- the next token is the word
pub word_taken : (r t : Reading) (word : List ℕ) (token : Token) (end : ℕ) → r.fault ≡ None → IsNext r t (Ok (Some token)) → t.text ≡ r.text
    → token.text.now ≡ word → end ≡ token.end → IsAfterWord r t word (Some end)
word_taken r t word token end none next same is at =
    let n = fresh r t (Ok (Some token)) none next in
    let k = n.0.0 in (
      same,
      n.1,
      (k.before ++ k.own, k.stands ∙ sym (append_assoc k.before k.own t.rest), at ∙ k.place.2 ∙ sym (bytes_append k.before k.own)),
      λ words after more. (t.state, t.rest, Some token, n.0, inl (is, more)),
    )

-- the next token is another one
pub word_other : (r t : Reading) (word : List ℕ) (token : Token) → r.fault ≡ None → IsNext r t (Ok (Some token)) → ¬ (token.text.now ≡ word) → IsAfterWord r t word None
word_other r t word token none next other =
    λ words. (t.state, t.rest, Some token, (fresh r t (Ok (Some token)) none next).0, inr (other, refl))

pub word_if : (r t : Reading) (word : List ℕ) (result : Result (Option Token) ScriptFault) (token : Token) (end : Option ℕ) → r.fault ≡ None → IsNext r t result → result ≡ Ok (Some token)
    → t.text ≡ r.text → MatchOption end (¬ (token.text.now ≡ word)) (λ n. (token.text.now ≡ word) × (n ≡ token.end)) → IsAfterWord r t word end
word_if r t word result token None none next is same other = word_other r t word token none (subst (IsNext r t) is next) other
word_if r t word result token (Some n) none next is same taken = word_taken r t word token n none (subst (IsNext r t) is next) same taken.0 taken.1

-- there is no next token
pub word_end : (r t : Reading) (word : List ℕ) (result : Result (Option Token) ScriptFault) → r.fault ≡ None → IsNext r t result → result ≡ Ok None → IsAfterWord r t word None
word_end r t word result none so is =
    let next : IsNext r t (Ok None) = subst (IsNext r t) is so in
    λ words. (t.state, t.rest, None, inl (fresh r t (Ok None) none next).0, refl)

-- there is a fault
pub word_fault : (r t : Reading) (word : List ℕ) (f : ScriptFault) → r.fault ≡ None → IsNext r t (Err f) → f ≢ fault.OutOfMemory → IsAfterWord r t word None
word_fault r t word f none next other = by (fresh r t (Err f) none next).2
  where
    by : ((f ≡ fault.OutOfMemory) × (t.fault ≡ None)) ⊎ (Stops r.text r.state r.rest f × (t.fault ≡ Some f)) → IsAfterWord r t word None
    by (inl memory) = absurd (other memory.0)
    by (inr stops) = λ words. (r.state, r.rest, None, inr (f, stops.0), refl)

-- ---- the words one after another

begins : (text : List ℕ) (r : Reading) (words : List (List ℕ)) (after : Option (List ℕ)) → r ≡ beginning start text → Follows r.text r.state r.rest words after → Follows text start text words after
begins text r words after is so = subst (λ (x : Reading). Follows x.text x.state x.rest words after) is so

pub one_none : (text : List ℕ) (r s : Reading) (a : List ℕ) (words : List (List ℕ)) → r ≡ beginning start text → IsAfterWord r s a None → Follows text start text (a ∷ words) None
one_none text r s a words is so = begins text r (a ∷ words) None is (so words)

-- after a word, what follows the next words
onward : (text : List ℕ) (r s : Reading) (a : List ℕ) (end : ℕ) (words : List (List ℕ)) (after : Option (List ℕ)) → r ≡ beginning start text → IsAfterWord r s a (Some end)
    → Follows s.text s.state s.rest words after → Follows text start text (a ∷ words) after
onward text r s a end words after is so more =
    begins text r (a ∷ words) after is (so.3 words after (subst (λ (x : List ℕ). Follows x s.state s.rest words after) so.0 more))

pub two_none : (text : List ℕ) (r s t : Reading) (a b : List ℕ) (end : ℕ) (words : List (List ℕ)) → r ≡ beginning start text → IsAfterWord r s a (Some end)
    → IsAfterWord s t b None → Follows text start text (a ∷ b ∷ words) None
two_none text r s t a b end words is so then = onward text r s a end (b ∷ words) None is so (then words)

-- the text of the second reading
text_is : (text : List ℕ) (r s : Reading) (a : List ℕ) (end : ℕ) → r ≡ beginning start text → IsAfterWord r s a (Some end) → s.text ≡ text
text_is text r s a end is so = so.0 ∙ ap (λ (x : Reading). x.text) is

pub two : (text : List ℕ) (r s t : Reading) (a b : List ℕ) (end : ℕ) (o : Option ℕ) → r ≡ beginning start (chars text) → IsAfterWord r s a (Some end)
    → IsAfterWord s t b o → IsEndOf (a ∷ b ∷ []) text o
two text r s t a b end None is so then = two_none (chars text) r s t a b end [] is so then
two text r s t a b end (Some n) is so then =
    let at = then.2 in (
      at.0,
      t.rest,
      sym (text_is (chars text) r s a end is so) ∙ at.1,
      at.2,
      onward (chars text) r s a end (b ∷ []) (Some t.rest) is so (then.3 [] (Some t.rest) refl),
    )

pub three : (text : List ℕ) (r s t u : Reading) (a b d : List ℕ) (end next : ℕ) (o : Option ℕ) → r ≡ beginning start (chars text) → IsAfterWord r s a (Some end)
    → IsAfterWord s t b (Some next) → IsAfterWord t u d o → IsEndOf (a ∷ b ∷ d ∷ []) text o
three text r s t u a b d end next None is so then last =
    onward (chars text) r s a end (b ∷ d ∷ []) None is so (then.3 (d ∷ []) None (subst (λ (x : List ℕ). Follows x t.state t.rest (d ∷ []) None) then.0 (last [])))
three text r s t u a b d end next (Some n) is so then last =
    let at = last.2 in (
      at.0,
      u.rest,
      sym (then.0 ∙ text_is (chars text) r s a end is so) ∙ at.1,
      at.2,
      onward (chars text) r s a end (b ∷ d ∷ []) (Some u.rest) is so
          (then.3 (d ∷ []) (Some u.rest) (subst (λ (x : List ℕ). Follows x t.state t.rest (d ∷ []) (Some u.rest)) then.0 (last.3 [] (Some u.rest) refl))),
    )

-- ---- the text after them

-- the bytes of a text in two parts
bytes_are : (text before rest : List ℕ) → IsUtf8 text → chars text ≡ before ++ rest → text ≡ encode_utf8_all before ++ encode_utf8_all rest
bytes_are text before rest utf8 is = sym (encodes-chars text utf8) ∙ ap encode_utf8_all is ∙ encodes-append before rest

rest_is_text : (text before rest : List ℕ) → IsUtf8 text → chars text ≡ before ++ rest → IsUtf8 (encode_utf8_all rest)
rest_is_text text before rest utf8 is = (rest, (rest_scalars before rest (sym (ap scalars is) ∙ scalars-chars text utf8), refl))

pub slice_is : (text : List ℕ) (end : ℕ) → slice_range text end (length text) ≡ drop end text
slice_is text end = take_all (length text - end) (drop end text) (omega (arith, length-drop end text))

pub rest_is : (text before rest : List ℕ) (end : ℕ) → IsUtf8 text → chars text ≡ before ++ rest → end ≡ byte_length before → drop end text ≡ encode_utf8_all rest
rest_is text before rest end utf8 is at =
    ap (λ (n : ℕ). drop n text) at ∙ ap (drop (byte_length before)) (bytes_are text before rest utf8 is) ∙ drop-append_seam (encode_utf8_all before) (encode_utf8_all rest)

pub is_boundary : (text before rest : List ℕ) (end : ℕ) → IsUtf8 text → chars text ≡ before ++ rest → end ≡ byte_length before → IsCharBoundary text end
is_boundary text before rest end utf8 is at =
    subst (IsCharBoundary text) (sym at) (IsCharBoundary-at_seam text (encode_utf8_all before) (encode_utf8_all rest) (bytes_are text before rest utf8 is) (rest_is_text text before rest utf8 is))

-- what follows a result that is no error
pub if_ok : {T E : Type 0} {P Q : T → Type 0} (r : Result T E) → IfOk r P → ((x : T) → P x → Q x) → IfOk r Q
if_ok (Ok x) so f = f x so
if_ok (Err e) so f = tt
