use Rattle.std.proofs.Common.{rules, ◌≡◌, ◌∙◌, ◌++◌, ◌∷◌, [], List, ℕ, true, false, append-nil, append_assoc, map, ap, sym, subst}
use Rattle.std.specs.Str.{bytes_eq}
use Rattle.sbl_rows.specs.Classes.{members_of, words_of}
use Rattle.sbl_rows.specs.Pairs.{Key, plain}
use Rattle.sbl_rows.proofs.Ranging.{AreFrom, from_later, none_later, one_paired, range_from, words_from}
use Rattle.sbl_rows.proofs.class.words_among.Goals as goal

pub loop-pair-init : goal.loop-pair-init
loop-pair-init c =
    let stem = c.args.stem.now in
    let keys = c.args.pairs.now.keys in
    let first : Key = (c.in_ok-copy.copy, c.new-none.result) in
    let is = c.in_ok-copy.ensures.items in
    let rest = c.into_iter-pair-iterator.ensures.into_iter_gives ∙ c.range-pair-items.ensures.between tt in
    record {
      words =
          rw c.new-words.ensures.items
          (ap (λ (ks : List Key). members_of stem (map plain ks)) rest ∙ words_from stem first is c.new-none.ensures.items keys);
      from = subst (AreFrom stem) (sym rest) (range_from stem first is keys c.range-pair-items.ensures.ordered);
    }

pub loop-pair-preserved : goal.loop-pair-preserved
loop-pair-preserved c =
    let stem = c.args.stem.now in
    let ks = c.loop-pair.pair-iterator in
    let rest = c.next.new.self in
    let pair : Key = c.in-Some.pair.now in
    let split : ks ≡ pair ∷ rest = search (rules, c.in-Some.ensures.steps) in
    let same : bytes_eq stem pair.0.items ≡ true = sym (c.eq.ensures ∙ ap (bytes_eq stem) c.as_slice.ensures.value) ∙ c.if-eq.true in
    let old = words_of c.loop-pair.words.items in
    let later = members_of stem (map plain rest) in
    let word : List ℕ = c.in_ok-from_slice.field-0.items in
    record {
      words =
          ap (λ (ws : List (List ℕ)). ws ++ later) c.in_ok-push_word.ensures
          ∙ append_assoc old (word ∷ []) later
          ∙ ap (λ (w : List ℕ). old ++ w ∷ later) (c.in_ok-from_slice.ensures.items ∙ c.as_slice-then-eq.ensures.value)
          ∙ ap (λ (ws : List (List ℕ)). old ++ ws) (one_paired stem ks rest pair split same)
          ∙ c.loop-pair.invariant.words;
      from = from_later stem ks rest pair split c.loop-pair.invariant.from;
    }

pub returns-else-eq-clause-words : goal.returns-else-eq-clause-words
returns-else-eq-clause-words c =
    let rest = c.next.new.self in
    let pair : Key = c.in-Some.pair.now in
    let split : c.loop-pair.pair-iterator ≡ pair ∷ rest = search (rules, c.in-Some.ensures.steps) in
    let other : bytes_eq c.args.stem.now pair.0.items ≡ false = sym (c.eq.ensures ∙ ap (bytes_eq c.args.stem.now) c.as_slice.ensures.value) ∙ c.if-eq.false in
    let old = words_of c.loop-pair.words.items in
    sym (append-nil old) ∙ ap (λ (ws : List (List ℕ)). old ++ ws) (sym (none_later c.args.stem.now c.loop-pair.pair-iterator rest pair split c.loop-pair.invariant.from other)) ∙ c.loop-pair.invariant.words
