-- Lists appended one after another.
use Rattle.std.proofs.Common.{◌≡◌, ◌∙◌, ◌++◌, List, [], append_assoc, ap}

pub six : {C : Type 0} (a0 a1 a2 a3 a4 a5 a6 x1 x2 x3 x4 x5 x6 : List C)
    → a0 ≡ [] → a1 ≡ a0 ++ x1 → a2 ≡ a1 ++ x2 → a3 ≡ a2 ++ x3 → a4 ≡ a3 ++ x4 → a5 ≡ a4 ++ x5 → a6 ≡ a5 ++ x6
    → a6 ≡ ((x1 ++ x2) ++ x3) ++ ((x4 ++ x5) ++ x6)
six a0 a1 a2 a3 a4 a5 a6 x1 x2 x3 x4 x5 x6 e0 e1 e2 e3 e4 e5 e6 =
    e6 ∙ ap (λ l. l ++ x6) (e5 ∙ ap (λ l. l ++ x5) (e4 ∙ ap (λ l. l ++ x4) (e3 ∙ ap (λ l. l ++ x3) (e2 ∙ ap (λ l. l ++ x2) (e1 ∙ ap (λ l. l ++ x1) e0)))))
    ∙ ap (λ l. l ++ x6) (append_assoc ((x1 ++ x2) ++ x3) x4 x5)
    ∙ append_assoc ((x1 ++ x2) ++ x3) (x4 ++ x5) x6

pub three : {C : Type 0} (a0 a1 a2 a3 x1 x2 x3 : List C) → a0 ≡ [] → a1 ≡ a0 ++ x1 → a2 ≡ a1 ++ x2 → a3 ≡ a2 ++ x3 → a3 ≡ (x1 ++ x2) ++ x3
three a0 a1 a2 a3 x1 x2 x3 e0 e1 e2 e3 = e3 ∙ ap (λ l. l ++ x3) (e2 ∙ ap (λ l. l ++ x2) (e1 ∙ ap (λ l. l ++ x1) e0))
