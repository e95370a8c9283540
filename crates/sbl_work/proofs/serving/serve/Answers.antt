use Rattle.std.proofs.Common.{rules, ℕ, List, Err, ◌≡◌, ◌∙◌, ap, sym, subst, refl, false}
use Rattle.std.proofs.lemmas.Result.{err_from_is_err_and}
use Rattle.std.proofs.lemmas.Slice.Eq.{bytes_eq-Decides}
use Rattle.std.specs.Str.{bytes_eq}
use Rattle.sbl_bench.specs.KeptRuns.{contents_of}
use Rattle.sbl_bench.specs.Contents.{Contents}
use Rattle.sbl_io.proofs.Bytes.{whole_none, whole_trans}
use Rattle.sbl_io.specs.HeldInput.{TookWhole, input_of, line_of}
use Rattle.sbl_io.specs.declared.faults.LineFault.TheVariants as read
use Rattle.sbl_io.specs.declared.faults.ServeFault.{ServeFault}
use Rattle.sbl_io.specs.declared.faults.ServeFault.TheVariants as fault
use Rattle.sbl_work.specs.Commands.{quit_line}
use Rattle.sbl_history.specs.Desks.{State, state_of}
use Rattle.sbl_work.specs.Serving.{IsWork}
use Rattle.sbl_work.proofs.ServingFacts.{work_at_line, work_at_write, work_ends, work_goes_on, work_open, work_quits, work_starts, work_unprompted}
use Rattle.sbl_work.proofs.serving.serve.Goals as goal

pub loop-lines-init : goal.loop-lines-init
loop-lines-init g c = record {
  work = work_starts _ _ _ _ _ _ c.in_ok-write_all.ensures.all;
  fault = refl;
  feeds = λ _. whole_none _;
  read = refl;
  written = c.in_ok-write_all.ensures.steady;
  bound = refl;
  reads = λ timely. timely;
  writes = c.write_all.ensures.in_time;
  rested = c.in_ok-write_all.ensures.rested;
}

-- one more request has its reply; the line was no `quit`
pub loop-lines-preserved-in_ok-write_prompted : goal.loop-lines-preserved-in_ok-write_prompted
loop-lines-preserved-in_ok-write_prompted g c =
    let left = g.R.Source.left in
    let other : bytes_eq (line_of c.next_line.new.self) quit_line ≡ false = ap (λ (x : List ℕ). bytes_eq x quit_line) (sym c.line.ensures) ∙ sym c.is_quit.ensures ∙ c.if-is_quit.false in
    record {
      work =
          work_goes_on _ _ (input_of left c.loop-lines.lines) (input_of left c.next_line.new.self) _ _ (g.W.Sink.held c.loop-lines.writer) _ _ (contents_of c.loop-lines.bench) _ _ (state_of c.loop-lines.desk) _ _ c.in_ok-reply.reply
          c.loop-lines.invariant.work (c.in_ok-next_line.ensures.more c.if-branch.true) (c.in_ok-next_line.ensures.fits c.if-branch.true) other c.in_ok-reply.ensures.answered c.in_ok-write_prompted.ensures.all;
      fault = c.in_ok-reply.ensures.reading.remembered ∙ sym c.in_ok-next_line.ensures.ready.0 ∙ c.loop-lines.invariant.fault;
      feeds = λ untold.
          let before = c.answer.ensures.reading.stays untold in
          whole_trans _ (input_of left c.loop-lines.lines) _ (c.loop-lines.invariant.feeds (c.next_line.ensures.stays before))
          (whole_trans _ (input_of left c.next_line.new.self) _ (c.in_ok-next_line.ensures.feeds c.if-branch.true before) (c.in_ok-reply.ensures.reading.feeds untold));
      read = c.in_ok-reply.ensures.reading.steady ∙ c.in_ok-next_line.ensures.steady ∙ c.loop-lines.invariant.read;
      written = c.in_ok-write_prompted.ensures.steady ∙ c.loop-lines.invariant.written;
      bound = c.answer.ensures.reading.bound ∙ c.next_line.ensures.bound ∙ c.loop-lines.invariant.bound;
      reads = λ timely. c.answer.ensures.reading.in_time (c.next_line.ensures.in_time (c.loop-lines.invariant.reads timely));
      writes = λ fair rest. c.write_prompted.ensures.in_time (c.loop-lines.invariant.writes fair rest) (c.loop-lines.invariant.rested rest);
      rested = λ rest. c.in_ok-write_prompted.ensures.rested (c.loop-lines.invariant.rested rest);
    }

pub loop-lines-preserved : goal.loop-lines-preserved
loop-lines-preserved g c =
    let left = g.R.Source.left in
    let other : bytes_eq (line_of c.next_line.new.self) quit_line ≡ false = ap (λ (x : List ℕ). bytes_eq x quit_line) (sym c.line.ensures) ∙ sym c.is_quit.ensures ∙ c.if-is_quit.false in
    record {
      work =
          work_goes_on _ _ (input_of left c.loop-lines.lines) (input_of left c.next_line.new.self) _ _ (g.W.Sink.held c.loop-lines.writer) _ _ (contents_of c.loop-lines.bench) _ _ (state_of c.loop-lines.desk) _ _ c.in_ok-reply.reply
          c.loop-lines.invariant.work (c.in_ok-next_line.ensures.more c.if-branch.true) (c.in_ok-next_line.ensures.fits c.if-branch.true) other c.in_ok-reply.ensures.answered c.in_ok-write_prompted.ensures.all;
      fault = c.in_ok-reply.ensures.reading.remembered ∙ sym c.in_ok-next_line.ensures.ready.0 ∙ c.loop-lines.invariant.fault;
      feeds = λ untold.
          let before = c.answer.ensures.reading.stays untold in
          whole_trans _ (input_of left c.loop-lines.lines) _ (c.loop-lines.invariant.feeds (c.next_line.ensures.stays before))
          (whole_trans _ (input_of left c.next_line.new.self) _ (c.in_ok-next_line.ensures.feeds c.if-branch.true before) (c.in_ok-reply.ensures.reading.feeds untold));
      read = c.in_ok-reply.ensures.reading.steady ∙ c.in_ok-next_line.ensures.steady ∙ c.loop-lines.invariant.read;
      written = c.in_ok-write_prompted.ensures.steady ∙ c.loop-lines.invariant.written;
      bound = c.answer.ensures.reading.bound ∙ c.next_line.ensures.bound ∙ c.loop-lines.invariant.bound;
      reads = λ timely. c.answer.ensures.reading.in_time (c.next_line.ensures.in_time (c.loop-lines.invariant.reads timely));
      writes = λ fair rest. c.write_prompted.ensures.in_time (c.loop-lines.invariant.writes fair rest) (c.loop-lines.invariant.rested rest);
      rested = λ rest. c.in_ok-write_prompted.ensures.rested (c.loop-lines.invariant.rested rest);
    }

pub returns-clause-work : goal.returns-clause-work
returns-clause-work g c = λ _.
    let end = c.in_ok-next_line.ensures.end c.if-branch.false in
    work_ends _ _ (input_of g.R.Source.left c.loop-lines.lines) _ _ _ _ _ _ _ c.loop-lines.invariant.work end.2 end.1

pub returns-in_err-next_line-clause-work : goal.returns-in_err-next_line-clause-work
returns-in_err-next_line-clause-work g c = λ none.
    let left = g.R.Source.left in
    let p = err_from_is_err_and c.from_residual-in_err-next_line.result c.from_residual-in_err-next_line.ensures.1 in
    let whole : c.in_err-next_line.field-0.0 ≡ read.Read → TookWhole (input_of left c.args.lines.now) (input_of left c.loop-lines.lines) =
    λ is. c.loop-lines.invariant.feeds (c.next_line.ensures.stays (c.in_err-next_line.ensures.drained is (c.loop-lines.invariant.fault ∙ none)).1) in
    rw (p.1, p.2) (work_at_line _ _ (input_of left c.loop-lines.lines) _ _ _ _ _ _ _ c.loop-lines.lines.fault (line_of c.next_line.new.self) c.in_err-next_line.field-0.0
    c.loop-lines.invariant.work (c.loop-lines.invariant.fault ∙ none) whole c.in_err-next_line.ensures.long c.in_err-next_line.ensures.cut)

pub returns-in_err-reply-clause-work : goal.returns-in_err-reply-clause-work
returns-in_err-reply-clause-work g c = λ _.
    let left = g.R.Source.left in
    let held = g.W.Sink.held in
    let f = c.in_err-reply.field-0.0 in
    let p = err_from_is_err_and c.from_residual-in_err-reply.result c.from_residual-in_err-reply.ensures.1 in
    let broken = c.in_err-reply.ensures.broken in
    let whole : f ≡ fault.Read → TookWhole (input_of left c.args.lines.now) (input_of left c.loop-lines.lines) =
    λ is. c.loop-lines.invariant.feeds (c.next_line.ensures.stays (c.answer.ensures.reading.stays (c.in_err-reply.ensures.reading.drained (ap (λ (x : ServeFault). Err x) is) c.in_ok-next_line.ensures.ready.1).1)) in
    let opened = work_open _ _ (input_of left c.loop-lines.lines) (input_of left c.next_line.new.self) (input_of left c.answer.new.lines) _ _ _ _ _ _ (line_of c.next_line.new.self) f c.loop-lines.invariant.work
    (c.in_ok-next_line.ensures.more c.if-branch.true) (c.in_ok-next_line.ensures.fits c.if-branch.true) broken.0.0 whole broken.0.1 in
    rw (p.1, p.2)
    (subst (λ (y : State). IsWork c.args.prompt.now (input_of left c.args.lines.now) (input_of left c.answer.new.lines) (held c.args.writer.now) (held c.loop-lines.writer) (contents_of c.args.bench.now) (state_of c.args.desk.now) (contents_of c.answer.new.bench) y (Err f)) (sym broken.2)
    (subst (λ (x : Contents). IsWork c.args.prompt.now (input_of left c.args.lines.now) (input_of left c.answer.new.lines) (held c.args.writer.now) (held c.loop-lines.writer) (contents_of c.args.bench.now) (state_of c.args.desk.now) x (state_of c.loop-lines.desk) (Err f)) (sym broken.1) opened))

-- the first prompt is not written whole
pub returns-in_err-write_all-clause-work : goal.returns-in_err-write_all-clause-work
returns-in_err-write_all-clause-work g c = λ _.
    let wrote : c.from_residual.result ≡ Err fault.Write = search rules in
    rw wrote (work_unprompted c.args.prompt.now _ (g.W.Sink.held c.args.writer.now) (g.W.Sink.held c.write_all.new.writer) _ _ c.write_all.ensures.prefix.0 c.write_all.ensures.prefix.1)

-- a reply and its prompt are not written whole
pub returns-in_err-write_prompted-clause-work : goal.returns-in_err-write_prompted-clause-work
returns-in_err-write_prompted-clause-work g c = λ _.
    let left = g.R.Source.left in
    let other : bytes_eq (line_of c.next_line.new.self) quit_line ≡ false = ap (λ (x : List ℕ). bytes_eq x quit_line) (sym c.line.ensures) ∙ sym c.is_quit.ensures ∙ c.if-is_quit.false in
    let wrote : c.from_residual-in_err-write_prompted.result ≡ Err fault.Write = search rules in
    rw wrote (work_at_write _ _ (input_of left c.loop-lines.lines) (input_of left c.next_line.new.self) _ _ (g.W.Sink.held c.loop-lines.writer) _ _ (contents_of c.loop-lines.bench) _ _ (state_of c.loop-lines.desk) _
    (line_of c.next_line.new.self) c.in_ok-reply.reply c.loop-lines.invariant.work (c.in_ok-next_line.ensures.more c.if-branch.true) (c.in_ok-next_line.ensures.fits c.if-branch.true) other
    c.in_ok-reply.ensures.answered c.write_prompted.ensures.prefix)

-- a line `quit`
pub returns-then-is_quit-clause-work : goal.returns-then-is_quit-clause-work
returns-then-is_quit-clause-work g c = λ _.
    let is : line_of c.next_line.new.self ≡ quit_line = sym c.line.ensures ∙ (bytes_eq-Decides c.line.result.now quit_line).0 (sym c.is_quit.ensures ∙ c.if-is_quit.true) in
    work_quits _ _ (input_of g.R.Source.left c.loop-lines.lines) _ _ _ _ _ _ _ (line_of c.next_line.new.self) c.loop-lines.invariant.work (c.in_ok-next_line.ensures.more c.if-branch.true) is
