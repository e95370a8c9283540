-- Work goes on request by request.
use Rattle.std.proofs.Common.{◌⊎◌, inl, inr, true, false, ◌≡◌, ◌∙◌, ◌++◌, ◌+◌, ◌≤◌, ◌<◌, ℕ, List, [], ◌∷◌, Option, Some, None, Ok, Err, refl, take, length, sym, ap, subst, append_assoc, arith}
use Rattle.std.proofs.lemmas.Bool.{cases_lt}
use Rattle.std.proofs.lemmas.List.{append-nil, take-append-le, take_all}
use Rattle.std.proofs.Math.Seq.{take-append-add, take-append_seam}
use Rattle.std.proofs.lemmas.List.Elements.{All-append, All-cons, All-nil}
use Rattle.std.proofs.lemmas.Grind.{flat_map-append}
use Rattle.std.specs.List.{flat_map}
use Rattle.std.specs.Io.KnownBytes.{Appends, IsAtEnd, Keeps}
use Rattle.std.specs.Str.{bytes_eq}
use Rattle.std.proofs.KnownBytes.{Appends-trans}
use Rattle.sbl_bench.specs.Contents.{Contents}
use Rattle.sbl_io.proofs.Bytes.{took-kept, took-none, took-trans}
use Rattle.sbl_io.specs.Faults.{serve_fault_of}
use Rattle.sbl_io.specs.HeldInput.{AllFit, BeginsLong, BreaksOff, GivesLine, Took, TookWhole}
use Rattle.sbl_io.specs.declared.faults.LineFault.{LineFault}
use Rattle.sbl_io.specs.declared.faults.LineFault.TheVariants as read
use Rattle.sbl_io.specs.declared.faults.ServeFault.{ServeFault}
use Rattle.sbl_io.specs.declared.faults.ServeFault.TheVariants as fault
use Rattle.sbl_reports.proofs.BlockFacts.{all_fit-append, all_fit-push, broken_block}
use Rattle.sbl_reports.specs.Block.{BlockLines, Breaks, HoldsText, ReadsBlock, point}
use Rattle.sbl_sessions.specs.CommandViews.{IsReply}
use Rattle.sbl_sessions.specs.Requests.{Request, lines_in_all}
use Rattle.sbl_sessions.specs.inside.SessionParts.{block_lines, lines_in}
use Rattle.sbl_reports.specs.declared.block_text.BlockText.{BlockText}
use Rattle.sbl_sessions.specs.declared.replies.Reply.{Reply}
use Rattle.sbl_work.specs.Answering.{IsWorkAnswered}
use Rattle.sbl_work.specs.Commands.{asks_work_block, block_command, quit_line}
use Rattle.sbl_history.specs.Desks.{State}
use Rattle.sbl_work.specs.ReplyViews.{FindsBlock, IsFileAnswer, IsWorkAnswer}
use Rattle.sbl_work.specs.Serving.{AreReplies, Choice, HasPartOfReply, IsReplyBy, IsWork, IsWorkRequest, IsBegunWork, HasWorkReplies, TookWork, WorkRepliesToInput, dialogue, with_prompt}
use Rattle.sbl_work.specs.declared.requests.BlockRequest.{BlockRequest}
use Rattle.sbl_work.specs.declared.requests.BlockRequest.TheVariants as blocks

-- ---- replies

-- one more request has its reply
more_replies : (cs : List Choice) (s t u : Contents) (d e : State) (rs : List Request) (texts : List (List ℕ)) (c : Choice) (r : Request) (reply : List ℕ)
    → AreReplies cs s d rs texts t e → IsReplyBy c t e r reply u → AreReplies (cs ++ c ∷ []) s d (rs ++ r ∷ []) (texts ++ reply ∷ []) u c.desk
more_replies [] s t u d e [] [] c r reply so is =
    (u, subst (λ (y : State). IsReplyBy c s y r reply u) so.1 (subst (λ (x : Contents). IsReplyBy c x e r reply u) so.0 is), (refl, refl))
more_replies [] s t u d e [] (x ∷ texts) c r reply so is = absurd so
more_replies [] s t u d e (q ∷ rs) texts c r reply so is = absurd so
more_replies (b ∷ cs) s t u d e [] texts c r reply so is = absurd so
more_replies (b ∷ cs) s t u d e (q ∷ rs) [] c r reply so is = absurd so
more_replies (b ∷ cs) s t u d e (q ∷ rs) (x ∷ texts) c r reply so is =
    (so.0, so.1, more_replies cs so.0 t u b.desk e rs texts c r reply so.2 is)

-- one more reply and the prompt after it are written
more_written : (prompt : List ℕ) (texts : List (List ℕ)) (reply : List ℕ) → dialogue prompt (texts ++ reply ∷ []) ≡ dialogue prompt texts ++ with_prompt prompt reply
more_written prompt texts reply =
    let all = flat_map-append (with_prompt prompt) texts (reply ∷ []) ∙ ap (λ (x : List ℕ). flat_map (with_prompt prompt) texts ++ x) (append-nil (with_prompt prompt reply)) in
    ap (λ (x : List ℕ). prompt ++ x) all ∙ sym (append_assoc prompt (flat_map (with_prompt prompt) texts) (with_prompt prompt reply))

replied-more : (prompt : List ℕ) (s t u : Contents) (d e : State) (done : List Request) (c : Choice) (r : Request) (h i j : Option (List ℕ)) (reply : List ℕ)
    → HasWorkReplies prompt s d done h i t e → Appends i j (with_prompt prompt reply) → IsReplyBy c t e r reply u → HasWorkReplies prompt s d (done ++ r ∷ []) h j u c.desk
replied-more prompt s t u d e done c r h i j reply so writes is = record {
  choices = so.choices ++ c ∷ [];
  replies = so.replies ++ reply ∷ [];
  are = more_replies so.choices s t u d e done so.replies c r reply so.are is;
  written = subst (Appends h j) (sym (more_written prompt so.replies reply)) (Appends-trans h i j (dialogue prompt so.replies) (with_prompt prompt reply) so.written writes);
}

-- one more request was carried out, and a prefix of its reply and of the prompt was written
half-more : (prompt : List ℕ) (s t u : Contents) (d e : State) (done : List Request) (c : Choice) (r : Request) (h i j : Option (List ℕ)) (reply : List ℕ) (n : ℕ)
    → HasWorkReplies prompt s d done h i t e → Appends i j (take n (with_prompt prompt reply)) → IsReplyBy c t e r reply u → HasPartOfReply prompt s d done r h j u c.desk
half-more prompt s t u d e done c r h i j reply n so writes is = record {
  choices = so.choices;
  replies = so.replies;
  between = t;
  desk = e;
  are = so.are;
  choice = c;
  reply = reply;
  is = is;
  desk_is = refl;
  count = n;
  written = Appends-trans h i j (dialogue prompt so.replies) (take n (with_prompt prompt reply)) so.written writes;
}

-- ---- requests

none_taken : (a : Option (List ℕ)) → TookWork a a []
none_taken a = record { each = All-nil IsWorkRequest; fit = tt; lines = took-none a }

one_more : (a b c d : Option (List ℕ)) (done : List Request) (line : List ℕ) (block : Option (List (List ℕ)))
    → TookWork a b done → GivesLine b c line → length line ≤ 65536 → IsWorkRequest (record { line = line; block = block }) → AllFit (block_lines block)
    → Took c d (block_lines block) → TookWork a d (done ++ record { line = line; block = block } ∷ [])
one_more a b c d done line block so gives fits formed fit took =
    let r : Request = record { line = line; block = block } in
    let all : lines_in_all (done ++ r ∷ []) ≡ lines_in_all done ++ lines_in r = flat_map-append lines_in done (r ∷ []) ∙ ap (λ (x : List (List ℕ)). lines_in_all done ++ x) (append-nil (lines_in r)) in
    record {
      each = All-append IsWorkRequest done (r ∷ []) so.each (All-cons IsWorkRequest r [] formed (All-nil IsWorkRequest));
      fit = subst AllFit (sym all) (all_fit-append (lines_in_all done) (lines_in r) so.fit (fits, fit));
      lines = subst (Took a d) (sym all) (took-trans a b d (lines_in_all done) (lines_in r) so.lines (took-trans b c d (line ∷ []) (block_lines block) gives took));
    }

-- ---- work

-- the first prompt
pub work_starts : (prompt : List ℕ) (a h i : Option (List ℕ)) (s : Contents) (d : State) → Appends h i prompt → WorkRepliesToInput prompt a a h i s d s d
work_starts prompt a h i s d writes =
    ([], none_taken a, record { choices = []; replies = []; are = (refl, refl); written = subst (Appends h i) (sym (append-nil prompt)) writes })

pub work_goes_on : (prompt : List ℕ) (a b c d h i j : Option (List ℕ)) (s t u : Contents) (x y z : State) (line : List ℕ) (reply : Reply)
    → WorkRepliesToInput prompt a b h i s x t y → GivesLine b c line → length line ≤ 65536 → bytes_eq line quit_line ≡ false → IsWorkAnswered c d line t y reply u z
    → ((text : List ℕ) → IsReply reply text → Appends i j (with_prompt prompt text)) → WorkRepliesToInput prompt a d h j s x u z
work_goes_on prompt a b c d h i j s t u x y z line reply so gives fits other is writes = (
  so.0 ++ record { line = line; block = is.block } ∷ [],
  one_more a b c d so.0 line is.block so.1 gives fits (other, is.formed.0, is.formed.1) is.fit is.took,
  replied-more prompt s t u x y so.0 (record { file = is.file; desk = z }) (record { line = line; block = is.block }) h i j is.answer.0 so.2 (writes is.answer.0 is.answer.1) is.answer.2,
)

-- the end of input
pub work_ends : (prompt : List ℕ) (a b c h i : Option (List ℕ)) (s t : Contents) (x y : State) → WorkRepliesToInput prompt a b h i s x t y → Keeps b c → IsAtEnd c → IsWork prompt a c h i s x t y (Ok tt)
work_ends prompt a b c h i s t x y so keeps end =
    inl ((so.0, record { each = so.1.each; fit = so.1.fit; lines = took-kept a b c (lines_in_all so.0) so.1.lines keeps }, so.2), end)

-- a line `quit`
pub work_quits : (prompt : List ℕ) (a b c h i : Option (List ℕ)) (s t : Contents) (x y : State) (line : List ℕ) → WorkRepliesToInput prompt a b h i s x t y → GivesLine b c line → line ≡ quit_line
    → IsWork prompt a c h i s x t y (Ok tt)
work_quits prompt a b c h i s t x y line so gives is = inr (b, so, subst (GivesLine b c) is gives)

-- the lines have no further one
pub work_at_line : (prompt : List ℕ) (a b c h i : Option (List ℕ)) (s t : Contents) (x y : State) (k : Option LineFault) (part : List ℕ) (f : LineFault)
    → WorkRepliesToInput prompt a b h i s x t y → k ≡ None → (f ≡ read.Read → TookWhole a b) → (f ≡ read.TooLong → BeginsLong b ⊎ (k ≡ Some f))
    → (f ≡ read.Read → k ≡ None → BreaksOff b c part) → IsWork prompt a c h i s x t y (Err (serve_fault_of f))
work_at_line prompt a b c h i s t x y k part read.Read so none whole long cut =
    (b, whole refl, so, broken_block IsBegunWork b b c k [] part read.Read tt (took-none b) none long cut)
work_at_line prompt a b c h i s t x y k part read.TooLong so none whole long cut =
    (b, so, broken_block IsBegunWork b b c k [] part read.TooLong tt (took-none b) none long cut)

-- a block has no end
pub work_open : (prompt : List ℕ) (a b c d h i : Option (List ℕ)) (s t : Contents) (x y : State) (line : List ℕ) (f : ServeFault) → WorkRepliesToInput prompt a b h i s x t y → GivesLine b c line
    → length line ≤ 65536 → asks_work_block line ≡ true → (f ≡ fault.Read → TookWhole a b) → Breaks BlockLines c d f → IsWork prompt a d h i s x t y (Err f)
work_open prompt a b c d h i s t x y line fault.Read so gives fits asks whole breaks =
    (b, whole refl, so, (line ∷ breaks.0, breaks.1, breaks.2, (asks, fits, breaks.3), took-trans b c breaks.1 (line ∷ []) breaks.0 gives breaks.4, breaks.5))
work_open prompt a b c d h i s t x y line fault.LineTooLong so gives fits asks whole breaks =
    (b, so, (line ∷ breaks.0, breaks.1, (asks, fits, breaks.2), took-trans b c breaks.1 (line ∷ []) breaks.0 gives breaks.3, breaks.4))
work_open prompt a b c d h i s t x y line fault.Cut so gives fits asks whole breaks =
    (b, so, (line ∷ breaks.0, (asks, fits, breaks.1), took-trans b c d (line ∷ []) breaks.0 gives breaks.2, breaks.3))
work_open prompt a b c d h i s t x y line fault.Write so gives fits asks whole breaks = absurd breaks
work_open prompt a b c d h i s t x y line fault.NotText so gives fits asks whole breaks = absurd breaks
work_open prompt a b c d h i s t x y line fault.OutOfMemory so gives fits asks whole breaks = absurd breaks
work_open prompt a b c d h i s t x y line fault.LengthsDiffer so gives fits asks whole breaks = absurd breaks

-- the writer stops in the first prompt
pub work_unprompted : (prompt : List ℕ) (a h i : Option (List ℕ)) (s : Contents) (x : State) (n : ℕ) → Appends h i (take n prompt) → IsWork prompt a a h i s x s x (Err fault.Write)
work_unprompted prompt a h i s x n writes = inl (n, writes, refl, refl, refl)

-- the writer stops in a reply, or in the prompt after it
pub work_at_write : (prompt : List ℕ) (a b c d h i j : Option (List ℕ)) (s t u : Contents) (x y z : State) (line : List ℕ) (reply : Reply)
    → WorkRepliesToInput prompt a b h i s x t y → GivesLine b c line → length line ≤ 65536 → bytes_eq line quit_line ≡ false → IsWorkAnswered c d line t y reply u z
    → ((text : List ℕ) → IsReply reply text → (n : ℕ) × Appends i j (take n (with_prompt prompt text))) → IsWork prompt a d h j s x u z (Err fault.Write)
work_at_write prompt a b c d h i j s t u x y z line reply so gives fits other is writes =
    let prefix = writes is.answer.0 is.answer.1 in
    inr (
      so.0,
      record { line = line; block = is.block },
      one_more a b c d so.0 line is.block so.1 gives fits (other, is.formed.0, is.formed.1) is.fit is.took,
      half-more prompt s t u x y so.0 (record { file = is.file; desk = z }) (record { line = line; block = is.block }) h i j is.answer.0 prefix.0 so.2 prefix.1 is.answer.2,
    )

-- ---- a reply and the prompt after it

-- a prefix of the first of two texts
pub prefix_of : (n : ℕ) (x y : List ℕ) → (m : ℕ) × (take n x ≡ take m (x ++ y))
prefix_of n x y = by (cases_lt n (length x))
  where
    by : (n < length x) ⊎ (length x ≤ n) → (m : ℕ) × (take n x ≡ take m (x ++ y))
    by (inl few) = (n, sym (take-append-le n x y (omega (arith, few))))
    by (inr all) = (length x, take_all n x all ∙ sym (take-append_seam x y))

-- the writer stops in the first of two texts
pub stops_in_first : (h i : Option (List ℕ)) (n : ℕ) (x y : List ℕ) → Appends h i (take n x) → (m : ℕ) × Appends h i (take m (x ++ y))
stops_in_first h i n x y writes =
    let m = prefix_of n x y in
    (m.0, subst (Appends h i) m.1 writes)

-- the writer stops in the second of two texts, if at all
pub stops_in_second : (h i j : Option (List ℕ)) (n : ℕ) (x y : List ℕ) → Appends h i x → Appends i j (take n y) → (m : ℕ) × Appends h j (take m (x ++ y))
stops_in_second h i j n x y first writes =
    (length x + n, subst (Appends h j) (sym (take-append-add x y n)) (Appends-trans h i j x (take n y) first writes))

-- ---- the reply to a request

-- a line that asks for no block
pub answered_line : (a : Option (List ℕ)) (line : List ℕ) (s t : Contents) (x y : State) (reply : Reply) → asks_work_block line ≡ false → IsFileAnswer s x line reply t y
    → IsWorkAnswered a a line s x reply t y
answered_line a line s t x y reply asks is = record {
  block = None;
  formed = (asks, tt);
  fit = tt;
  took = took-none a;
  file = is.0;
  answer = is.1;
}

-- a line that asks for one
pub answered_block : (a b : Option (List ℕ)) (line : List ℕ) (s t : Contents) (x y : State) (block : BlockText) (reply : Reply) → asks_work_block line ≡ true → ReadsBlock a b (Ok block)
    → ((lines : List (List ℕ)) → HoldsText block lines → IsWorkAnswer s x (block_command line lines) reply t y) → IsWorkAnswered a b line s x reply t y
answered_block a b line s t x y block reply asks reads is = record {
  block = Some reads.0;
  formed = (asks, reads.1.0.0);
  fit = all_fit-push reads.0 point reads.1.0.1 (omega arith);
  took = reads.1.1;
  file = None;
  answer = is reads.0 reads.2;
}

-- a request with a block is for a line that asks for one
pub asks_found : (request : BlockRequest) (line : List ℕ) → FindsBlock request line → asks_work_block line ≡ true
asks_found (blocks.Part kept) line so = rw so.0 refl
asks_found blocks.Whole line so = rw (so.0, so.1) refl
asks_found blocks.Families line so = rw (so.0, so.1, so.2) refl
