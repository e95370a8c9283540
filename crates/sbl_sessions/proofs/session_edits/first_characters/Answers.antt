use Rattle.std.proofs.Common.{subst, ◌≡◌, ◌∙◌, ◌++◌, ◌+◌, ◌≤◌, ◌<◌, [], ◌∷◌, ℕ, List, ap, sym, arith, length, take, get_or, slice_set}
use Rattle.std.specs.Str.{chars}
use Rattle.std.proofs.Math.ListN.{length-set}
use Rattle.std.proofs.lemmas.Iterator.{YieldsList-from_chars}
use Rattle.std.proofs.lemmas.Iterator.Consumers.{YieldsList-turn, YieldsList-end}
use Rattle.std.proofs.lemmas.List.{length_push, take_all, take_more, take_more_set}
use Rattle.sbl_sessions.proofs.session_edits.first_characters.Goals as goal

put : (room cs : List ℕ) (i c : ℕ) → i < length room → i < length cs → c ≡ get_or cs i c → take i room ≡ take i cs
    → take (i + 1) (slice_set room i c) ≡ take (i + 1) cs
put room cs i c in_room in_cs is same =
    take_more_set room i c in_room ∙ ap (λ (t : List ℕ). t ++ c ∷ []) same ∙ ap (λ (d : ℕ). take i cs ++ d ∷ []) is ∙ sym (take_more cs i c in_cs)

all_first : (n m : ℕ) (xs : List ℕ) → n ≡ length xs → n ≤ m → take n xs ≡ take m xs
all_first n m xs e le = take_all n xs (omega arith) ∙ sym (take_all m xs (omega arith))

pub loop-c-preserved : goal.loop-c-preserved
loop-c-preserved c =
    let t = YieldsList-turn (YieldsList-from_chars c.args.word.now c.utf8.word cc) c.loop-c.yielded _ c.loop-c.yielded_by _ _ c.in-Some.c c.in-Some.is c.next.ensures.steps in
    let n = length_push c.loop-c.yielded c.in-Some.c in
    let count : c.loop-c.count ≡ length c.loop-c.yielded = c.loop-c.invariant.0 in
    let here : c.in-Some.c ≡ get_or (chars c.args.word.now) c.loop-c.count c.in-Some.c = subst (λ (k : ℕ). c.in-Some.c ≡ get_or (chars c.args.word.now) k c.in-Some.c) (sym count) t.1 in
    let within : c.loop-c.count < length c.loop-c.room = omega arith in
    let long : length (slice_set c.loop-c.room c.loop-c.count c.in-Some.c) ≡ length c.loop-c.room = length-set c.loop-c.room c.loop-c.count c.in-Some.c in (
      omega arith,
      omega (arith, within, long),
      put c.loop-c.room (chars c.args.word.now) c.loop-c.count c.in-Some.c within (omega (arith, t.0)) here c.loop-c.invariant.2,
    )

pub returns-clause-first : goal.returns-clause-first
returns-clause-first c =
    let t = YieldsList-end (YieldsList-from_chars c.args.word.now c.utf8.word cc) c.loop-c.yielded _ c.loop-c.yielded_by _ _ c.in-None.is c.next.ensures.steps in
    c.loop-c.invariant.2 ∙ all_first c.loop-c.count (length c.loop-c.room) (chars c.args.word.now) (omega (arith, t.1)) c.loop-c.invariant.1
