-- A fault in a block.
use Rattle.std.proofs.Common.{◌≡◌, ◌<◌, ◌+◌, ◌++◌, ℕ, List, length, Option, Some, None, MatchOption, sym, subst, ap, ◌∙◌}
use Rattle.sbl_text.specs.declared.fault.ScriptFault.{ScriptFault}
use Rattle.sbl_source_map.specs.SubjectTokens.{SubjectToken}
use Rattle.sbl_source_map.specs.FaultPlaces.{IsFaultAt, FaultIsAtOne}
use Rattle.sbl_source_map.specs.BlockPlaces.{IsFaultIn, IsTokenIn}

pub is_token_in : FaultIsAtOne → (text before block after : List ℕ) (f : ScriptFault) (offset : ℕ) (o : Option ℕ) → text ≡ before ++ block ++ after
    → (t : SubjectToken) × IsFaultAt text f t × (offset ≡ t.token.start)
    → MatchOption o ((k : ℕ) → offset ≡ length before + k → k < length block → ⊥) (λ k. (offset ≡ length before + k) × (k < length block))
    → IsTokenIn before block after f o
is_token_in one text before block after f offset (Some k) e (t, at, is) h = (t, subst (λ (xs : List ℕ). IsFaultAt xs f t) e at, sym is ∙ h.0, h.1)
is_token_in one text before block after f offset None e (t, at, is) h = go where
  go : (k : ℕ) → IsFaultIn before block after f k → ⊥
  go k (u, other, start, inside) =
      let same = (one text f f t u at (subst (λ (xs : List ℕ). IsFaultAt xs f u) (sym e) other)).1 in
      h k (is ∙ ap (λ (x : SubjectToken). x.token.start) same ∙ start) inside

pub none_is_in : (text before block after : List ℕ) (f : ScriptFault) → text ≡ before ++ block ++ after → ((t : SubjectToken) → IsFaultAt text f t → ⊥) → (k : ℕ) → IsFaultIn before block after f k → ⊥
none_is_in text before block after f e none k (t, at, start, inside) = none t (subst (λ (xs : List ℕ). IsFaultAt xs f t) (sym e) at)
