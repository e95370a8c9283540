-- Tokens at the end of a line that has one, and the first one of a line.
use Rattle.std.proofs.Common.{◌≡◌, ℕ, List, [], ◌∷◌, ◌++◌, Result, Ok, Err, OnOk, sym, ap, ◌∙◌, append_assoc}
use Rattle.std.proofs.lemmas.List.{append-nil}
use Rattle.std.specs.Prelude.{is_ok, if◌then◌else◌}
use Rattle.sbl_ast.specs.Terminal.{Terminal}
use Rattle.sbl_print.specs.Adding.{space, token_text, more, Adds, Begins}

-- what a call promises where it was not refused
pub if_ok : {T E P Q : Type 0} (r : Result T E) → OnOk r P → (P → Q) → OnOk r Q
if_ok (Ok x) h f = f h
if_ok (Err e) h f = tt

-- and of a call that puts a text at the end
pub if_put : {T E Q : Type 0} (r : Result T E) (old new text : List ℕ) → new ≡ (if is_ok r then old ++ text else old) → (new ≡ old ++ text → Q) → OnOk r Q
if_put (Ok x) old new text h f = f h
if_put (Err e) old new text h f = tt

-- a token, with a space before it
pub one_more : (old new text : List ℕ) (x : Terminal) → new ≡ old ++ (space ++ text) → token_text x ≡ text → Adds old new (λ rest. x ∷ rest)
unfolding more
one_more old new text x h is rest =
    ap (λ (b : List ℕ). b ++ more rest) h ∙ append_assoc old (space ++ text) (more rest) ∙ ap (λ (b : List ℕ). old ++ ((space ++ b) ++ more rest)) (sym is)

-- the first token of a line, and those after it
pub begins_before : (old between new : List ℕ) (x : Terminal) (ts : List Terminal) → between ≡ old ++ token_text x → new ++ more [] ≡ between ++ more ts → Begins old new (x ∷ ts)
unfolding more
begins_before old between new x ts h k = sym (append-nil new) ∙ k ∙ ap (λ (b : List ℕ). b ++ more ts) h ∙ append_assoc old (token_text x) (more ts)
