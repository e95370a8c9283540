-- A session goes on request by request.
use Rattle.std.proofs.Common.{◌⊎◌, inl, inr, true, false, ◌≡◌, ◌≢◌, ◌∙◌, ◌++◌, ◌≤◌, ℕ, List, [], ◌∷◌, Option, Some, None, Result, Ok, Err, refl, take, sym, ap, subst, append_assoc, arith, length}
use Rattle.std.proofs.lemmas.List.{append-nil}
use Rattle.std.proofs.lemmas.List.Elements.{All-append, All-cons, All-nil}
use Rattle.std.proofs.lemmas.Grind.{flat_map-append}
use Rattle.std.specs.Io.KnownBytes.{Appends, IsAtEnd, Keeps}
use Rattle.std.specs.Option.{is_some}
use Rattle.std.proofs.KnownBytes.{Appends-nil, Appends-trans}
use Rattle.sbl_bench.specs.Contents.{Contents}
use Rattle.sbl_sessions.specs.Answers.{Answers, IsReplyTo, Memory}
use Rattle.sbl_reports.specs.Block.{BlockLines, Breaks, HoldsText, ReadsBlock, point}
use Rattle.sbl_sessions.specs.CommandViews.{IsAnswer, IsReply, IsTextAnswer}
use Rattle.sbl_sessions.specs.inside.RequestViews.{IsAnswered}
use Rattle.sbl_sessions.specs.Commands.{block_command, command_of, line_command}
use Rattle.sbl_io.specs.HeldInput.{AllFit, BeginsLong, BreaksOff, GivesLine, Took, TookWhole}
use Rattle.sbl_ast.specs.NamedParts.{Part'}
use Rattle.sbl_sessions.specs.Words.{command_word}
use Rattle.sbl_sessions.specs.Requests.{Request, TookRequests, asks_block, lines_in_all}
use Rattle.sbl_sessions.specs.inside.SessionParts.{IsBegun, IsRequest, block_lines, lines_in}
use Rattle.sbl_sessions.specs.Session.{CutsReply, CutsRequest, IsSession, Moment, Replies}
use Rattle.sbl_reports.specs.declared.block_text.BlockText.{BlockText}
use Rattle.sbl_io.specs.Faults.{serve_fault_of}
use Rattle.sbl_io.specs.declared.faults.LineFault.{LineFault}
use Rattle.sbl_io.specs.declared.faults.LineFault.TheVariants as read
use Rattle.sbl_io.specs.declared.faults.ServeFault.{ServeFault}
use Rattle.sbl_io.specs.declared.faults.ServeFault.TheVariants as fault
use Rattle.sbl_sessions.specs.declared.replies.Reply.{Reply}
use Rattle.sbl_reports.proofs.BlockFacts.{all_fit-append, all_fit-push, broken_block}
use Rattle.sbl_io.proofs.Bytes.{took-kept, took-none, took-trans}

-- ---- answers

more_answers : (s t u : Contents) (done : List Request) (r : Request) (m : List Memory) (q : Memory) (text reply : List ℕ)
    → Answers s done m text t → IsReplyTo t (command_of r) q reply u → Answers s (done ++ r ∷ []) (m ++ q ∷ []) (text ++ reply) u
more_answers s t u [] r [] q text reply so is =
    (reply, u, [], subst (λ (x : Contents). IsReplyTo x (command_of r) q reply u) so.1 is, (refl, refl), ap (λ (x : List ℕ). x ++ reply) so.0 ∙ sym (append-nil reply))
more_answers s t u [] r (p ∷ m) q text reply so is = absurd so
more_answers s t u (d ∷ done) r [] q text reply so is = absurd so
more_answers s t u (d ∷ done) r (p ∷ m) q text reply so is =
    (so.0, so.1, so.2 ++ reply, so.3, more_answers so.1 t u done r m q so.2 reply so.4 is, ap (λ (x : List ℕ). x ++ reply) so.5 ∙ append_assoc so.0 so.2 reply)

-- ---- requests

none_taken : (a : Option (List ℕ)) → TookRequests a a []
none_taken a = record { each = All-nil IsRequest; fit = tt; lines = took-none a }

one_more : (a b c d : Option (List ℕ)) (done : List Request) (line : List ℕ) (block : Option (List (List ℕ)))
    → TookRequests a b done → GivesLine b c line → length line ≤ 65536 → IsRequest (record { line = line; block = block }) → AllFit (block_lines block)
    → Took c d (block_lines block) → TookRequests a d (done ++ record { line = line; block = block } ∷ [])
one_more a b c d done line block so gives fits formed fit took =
    let r : Request = record { line = line; block = block } in
    let all : lines_in_all (done ++ r ∷ []) ≡ lines_in_all done ++ lines_in r = flat_map-append lines_in done (r ∷ []) ∙ ap (λ (x : List (List ℕ)). lines_in_all done ++ x) (append-nil (lines_in r)) in
    record {
      each = All-append IsRequest done (r ∷ []) so.each (All-cons IsRequest r [] formed (All-nil IsRequest));
      fit = subst AllFit (sym all) (all_fit-append (lines_in_all done) (lines_in r) so.fit (fits, fit));
      lines = subst (Took a d) (sym all) (took-trans a b d (lines_in_all done) (lines_in r) so.lines (took-trans b c d (line ∷ []) (block_lines block) gives took));
    }

-- ---- the session

-- a moment with this input, this that the writer holds, and this bench
abbrev pub at : Option (List ℕ) → Option (List ℕ) → Contents → Moment
at a h s = record { input = a; held = h; bench = s }

abbrev pub RepliesToInput : Option (List ℕ) → Option (List ℕ) → Option (List ℕ) → Option (List ℕ) → Contents → Contents → Type 0
RepliesToInput a b h i s t = Replies (at a h s) (at b i t)

pub session_starts : (a h : Option (List ℕ)) (s : Contents) → RepliesToInput a a h h s s
session_starts a h s = record { requests = []; taken = none_taken a; m = []; text = []; answers = (refl, refl); written = Appends-nil h }

pub session_goes_on : (a b c d h i j : Option (List ℕ)) (s t u : Contents) (line : List ℕ) (reply : Reply)
    → RepliesToInput a b h i s t → GivesLine b c line → length line ≤ 65536 → IsAnswered c d line t reply u
    → ((text : List ℕ) → IsReply reply text → Appends i j text) → RepliesToInput a d h j s u
session_goes_on a b c d h i j s t u line reply so gives fits is writes =
    let r : Request = record { line = line; block = is.block } in
    let text = is.answer.1 in
    record {
      requests = so.requests ++ r ∷ [];
      taken = one_more a b c d so.requests line is.block so.taken gives fits is.formed is.fit is.took;
      m = so.m ++ is.answer.0 ∷ [];
      text = so.text ++ text;
      answers = more_answers s t u so.requests r so.m is.answer.0 so.text text so.answers is.answer.3;
      written = Appends-trans h i j so.text text so.written (writes text is.answer.2);
    }

abbrev with_fault : ServeFault → Result (Unit {0}) ServeFault
with_fault f = Err f

-- the fault of a result is one
same_fault : (f g : ServeFault) → with_fault f ≡ with_fault g → f ≡ g
same_fault f g is = ap fault_or is
  where
    fault_or : Result (Unit {0}) ServeFault → ServeFault
    fault_or (Ok u) = f
    fault_or (Err x) = x

input_stopped : (old new : Moment) (f : ServeFault) → f ≢ fault.Write → CutsRequest old new f → IsSession old new (Err f)
input_stopped old new f other cuts = record {
  ends = λ is. cc is;
  writer_stops = λ is. absurd (other (same_fault f fault.Write is));
  input_stops = λ g is _. subst (CutsRequest old new) (same_fault f g is) cuts;
}

pub session_ends : (a b c h i : Option (List ℕ)) (s t : Contents) → RepliesToInput a b h i s t → Keeps b c → IsAtEnd c → IsSession (at a h s) (at c i t) (Ok tt)
session_ends a b c h i s t so keeps end =
    let taken : TookRequests a c so.requests = record { each = so.taken.each; fit = so.taken.fit; lines = took-kept a b c (lines_in_all so.requests) so.taken.lines keeps } in
    let replies : RepliesToInput a c h i s t = record { requests = so.requests; taken = taken; m = so.m; text = so.text; answers = so.answers; written = so.written } in
    record { ends = λ _. (replies, end); writer_stops = λ is. cc is; input_stops = λ f is _. cc is }

-- where the lines have no further one
pub session_at_line : (a b c h i : Option (List ℕ)) (s t : Contents) (k : Option LineFault) (part : List ℕ) (f : LineFault) → RepliesToInput a b h i s t → k ≡ None
    → (f ≡ read.Read → TookWhole a b) → (f ≡ read.TooLong → BeginsLong b ⊎ (k ≡ Some f)) → (f ≡ read.Read → k ≡ None → BreaksOff b c part)
    → IsSession (at a h s) (at c i t) (Err (serve_fault_of f))
session_at_line a b c h i s t k part read.Read so none whole long cut =
    input_stopped (at a h s) (at c i t) fault.Read (λ is. cc is) (record { rest = b; before = so; cut = broken_block (IsBegun fault.Read) b b c k [] part read.Read (inl (refl, λ is. cc is)) (took-none b) none long cut; whole = λ _. whole refl })
session_at_line a b c h i s t k part read.TooLong so none whole long cut =
    input_stopped (at a h s) (at c i t) fault.LineTooLong (λ is. cc is) (record { rest = b; before = so; cut = broken_block (IsBegun fault.LineTooLong) b b c k [] part read.TooLong (inl (refl, λ is. cc is)) (took-none b) none long cut; whole = λ is. cc is })

-- where a block has no end
pub session_open : (a b c d h i : Option (List ℕ)) (s t : Contents) (line : List ℕ) (f : ServeFault) → RepliesToInput a b h i s t → GivesLine b c line → length line ≤ 65536
    → asks_block line ≡ true → (f ≡ fault.Read → TookWhole a b) → Breaks BlockLines c d f → IsSession (at a h s) (at d i t) (Err f)
session_open a b c d h i s t line f so gives fits asks whole breaks = input_stopped (at a h s) (at d i t) f other (record { rest = b; before = so; cut = opened f breaks; whole = whole })
  where
    other : f ≢ fault.Write
    other is = subst (Breaks BlockLines c d) is breaks

    opened : (f : ServeFault) → Breaks BlockLines c d f → Breaks (IsBegun f) b d f
    opened fault.Read breaks = (line ∷ breaks.0, breaks.1, breaks.2, inr (asks, fits, breaks.3), took-trans b c breaks.1 (line ∷ []) breaks.0 gives breaks.4, breaks.5)
    opened fault.LineTooLong breaks = (line ∷ breaks.0, breaks.1, inr (asks, fits, breaks.2), took-trans b c breaks.1 (line ∷ []) breaks.0 gives breaks.3, breaks.4)
    opened fault.Cut breaks = (line ∷ breaks.0, inr (asks, fits, breaks.1), took-trans b c d (line ∷ []) breaks.0 gives breaks.2, breaks.3)
    opened fault.Write breaks = absurd breaks
    opened fault.NotText breaks = absurd breaks
    opened fault.OutOfMemory breaks = absurd breaks
    opened fault.LengthsDiffer breaks = absurd breaks

-- where an answer was broken off by the writer
pub session_at_write : (a b c d h i j : Option (List ℕ)) (s t u : Contents) (line : List ℕ) (reply : Reply) (n : ℕ)
    → RepliesToInput a b h i s t → GivesLine b c line → length line ≤ 65536 → IsAnswered c d line t reply u
    → ((text : List ℕ) → IsReply reply text → Appends i j (take n text)) → IsSession (at a h s) (at d j u) (Err fault.Write)
session_at_write a b c d h i j s t u line reply n so gives fits is writes =
    let taken = one_more b b c d [] line is.block (none_taken b) gives fits is.formed is.fit is.took in
    let cuts : CutsReply (at a h s) (at d j u) = record {
      middle = at b i t;
      before = so;
      request = record { line = line; block = is.block };
      taken = taken;
      reply = (is.answer.0, is.answer.1, is.answer.3, n, writes is.answer.1 is.answer.2);
    } in
    record { ends = λ is. cc is; writer_stops = λ _. cuts; input_stops = λ f is other. absurd (other (sym (same_fault fault.Write f is))) }

-- ---- the answer to a request

-- a line that asks for no block
pub answered_line : (a : Option (List ℕ)) (line : List ℕ) (s t : Contents) (reply : Reply) → asks_block line ≡ false → IsAnswer s (line_command line) reply t → IsAnswered a a line s reply t
answered_line a line s t reply asks is = record {
  block = None;
  formed = (asks, tt);
  fit = tt;
  took = took-none a;
  answer = is;
}

-- a line that asks for one
pub answered_block : (a b : Option (List ℕ)) (line : List ℕ) (s t : Contents) (block : BlockText) (text : List ℕ) (reply : Reply) → asks_block line ≡ true → ReadsBlock a b (Ok block)
    → ((lines : List (List ℕ)) → HoldsText block lines → IsTextAnswer s (block_command line lines) text t) → IsReply reply text → IsAnswered a b line s reply t
answered_block a b line s t block text reply asks reads is shown =
    let answer = is reads.0 reads.2 in
    record {
      block = Some reads.0;
      formed = (asks, reads.1.0.0);
      fit = all_fit-push reads.0 point reads.1.0.1 (omega arith);
      took = reads.1.1;
      answer = (answer.0, text, shown, answer.1);
    }
