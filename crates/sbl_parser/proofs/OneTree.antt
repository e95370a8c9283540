-- Two trees of a text with the same tokens are one.
use Rattle.std.proofs.Common.{◌≡◌, List, [], ◌∷◌, ◌∙◌, sym, ap}
use Rattle.sbl_ast.specs.Terminal.{Terminal}
use Rattle.sbl_ast.specs.Tree.{among_}
use Rattle.sbl_ast.specs.Spelled.{argument_terminal}
use Rattle.sbl_ast.specs.TerminalPlaces.{tokens_of}
use Rattle.sbl_ast.specs.Texts.{Text, TreeOf}
use Rattle.sbl_ast.specs.Texts as texts
use Rattle.sbl_parser.specs.Laws.{TreesAreOne}
use Rattle.sbl_ast.proofs.PlacedTokens.{places_tokens, body_tokens, tree_tokens, terms_tokens}
use Rattle.sbl_parser.proofs.Lexed.{T, text_back}
use Rattle.sbl_parser.proofs.Unique.{one_tree, one_body, one_row_of_terms, one_among}

same_roles : (w : Text) (t u : TreeOf w) → tokens_of w t ≡ tokens_of w u → t ≡ u
same_roles texts.script t u e = one_tree t u (sym (places_tokens t) ∙ e ∙ places_tokens u)
same_roles texts.body (c, os) (u, ps) e =
    let m = one_body c u os ps (sym (body_tokens c os) ∙ e ∙ body_tokens u ps) in
    cc
same_roles texts.terms (p, xs) (q, ys) e =
    let m = one_row_of_terms p q xs ys (sym (ap (λ (r : List Terminal). argument_terminal p ∷ r) (terms_tokens xs [])) ∙ e ∙ ap (λ (r : List Terminal). argument_terminal q ∷ r) (terms_tokens ys [])) in
    cc
same_roles (texts.among d) (x, gs) (y, hs) e =
    let m = one_among x y gs hs (sym (tree_tokens (among_ x gs) d []) ∙ e ∙ tree_tokens (among_ y hs) d []) in
    cc

pub trees_are_one : TreesAreOne
trees_are_one w t u e = same_roles w t u (text_back w t ∙ ap T e ∙ sym (text_back w u))
