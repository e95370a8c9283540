use Rattle.sbl_io.specs.declared.faults.ServeFault.TheVariants as fault
use Rattle.std.proofs.Common.{rules, Err, ◌≡◌, ◌∙◌, ap, sym, subst, refl, Option, None, IsSome}
use Rattle.sbl_io.specs.declared.faults.LineFault.{LineFault}
use Rattle.std.proofs.KnownBytes.{Keeps-refl}
use Rattle.sbl_bench.specs.KeptRuns.{contents_of}
use Rattle.std.proofs.lemmas.Result.{err_from_is_err_and}
use Rattle.sbl_bench.specs.Contents.{Contents}
use Rattle.sbl_io.specs.HeldInput.{TookWhole, input_of, line_of}
use Rattle.sbl_sessions.specs.Session.{IsSession}
use Rattle.sbl_io.specs.declared.faults.LineFault.TheVariants as read
use Rattle.sbl_io.specs.declared.faults.ServeFault.{ServeFault}
use Rattle.sbl_io.proofs.Bytes.{whole_none, whole_trans}
use Rattle.sbl_sessions.proofs.SessionFacts.{at, session_starts, session_goes_on, session_ends, session_at_line, session_at_write, session_open}
use Rattle.sbl_sessions.proofs.serving.serve_watched.Goals as goal

no_fault : {f : Option LineFault} → f ≡ None → IsSome f → ⊥
no_fault {f} e some = let none : IsSome {T = LineFault} None = subst IsSome e some in cc none

pub loop-row-init : goal.loop-row-init
loop-row-init g c = record { session = session_starts _ _ _; fault = refl; feeds = λ _. whole_none _; read = refl; written = refl; bound = refl; untouched = λ _. (refl, Keeps-refl _, Keeps-refl _); reads = λ timely. timely; writes = λ fair rest. fair; rested = λ rest. rest }

pub loop-row-preserved : goal.loop-row-preserved
loop-row-preserved g c = record {
  session =
      session_goes_on _ (input_of g.R.Source.left c.loop-row.lines) (input_of g.R.Source.left c.next_line.new.self) _ _ (g.W.Sink.held c.loop-row.writer) _ _ (contents_of c.loop-row.bench) _ _ c.in_ok-answered.answered.reply
      c.loop-row.invariant.session (c.in_ok-next_line.ensures.more c.if-branch.true) (c.in_ok-next_line.ensures.fits c.if-branch.true) c.in_ok-answered.ensures.answered c.in_ok-write_reply.ensures.all;
  fault = c.in_ok-answered.ensures.reading.remembered ∙ sym c.in_ok-next_line.ensures.ready.0 ∙ c.loop-row.invariant.fault;
  feeds = λ untold.
      let before = c.answer.ensures.reading.stays untold in
      whole_trans _ (input_of g.R.Source.left c.loop-row.lines) _ (c.loop-row.invariant.feeds (c.next_line.ensures.stays before))
      (whole_trans _ (input_of g.R.Source.left c.next_line.new.self) _ (c.in_ok-next_line.ensures.feeds c.if-branch.true before) (c.in_ok-answered.ensures.reading.feeds untold));
  read = c.in_ok-answered.ensures.reading.steady ∙ c.in_ok-next_line.ensures.steady ∙ c.loop-row.invariant.read;
  written = c.in_ok-write_reply.ensures.steady ∙ c.loop-row.invariant.written;
  bound = c.answer.ensures.reading.bound ∙ c.next_line.ensures.bound ∙ c.loop-row.invariant.bound;
  untouched = λ some. absurd (no_fault (sym c.loop-row.invariant.fault ∙ c.in_ok-next_line.ensures.ready.0) some);
  reads = λ timely. c.answer.ensures.reading.in_time (c.next_line.ensures.in_time (c.loop-row.invariant.reads timely));
  writes = λ fair rest. c.write_reply.ensures.in_time (c.loop-row.invariant.writes fair rest) (c.loop-row.invariant.rested rest);
  rested = λ rest. c.in_ok-write_reply.ensures.rested (c.loop-row.invariant.rested rest);
}

pub loop-row-preserved-after-answered-3 : goal.loop-row-preserved-after-answered-3
loop-row-preserved-after-answered-3 g c = record {
  session =
      session_goes_on _ (input_of g.R.Source.left c.loop-row.lines) (input_of g.R.Source.left c.next_line.new.self) _ _ (g.W.Sink.held c.loop-row.writer) _ _ (contents_of c.loop-row.bench) _ _ c.in_ok-answered.answered.reply
      c.loop-row.invariant.session (c.in_ok-next_line.ensures.more c.if-branch.true) (c.in_ok-next_line.ensures.fits c.if-branch.true) c.in_ok-answered.ensures.answered c.in_ok-write_reply.ensures.all;
  fault = c.in_ok-answered.ensures.reading.remembered ∙ sym c.in_ok-next_line.ensures.ready.0 ∙ c.loop-row.invariant.fault;
  feeds = λ untold.
      let before = c.answer.ensures.reading.stays untold in
      whole_trans _ (input_of g.R.Source.left c.loop-row.lines) _ (c.loop-row.invariant.feeds (c.next_line.ensures.stays before))
      (whole_trans _ (input_of g.R.Source.left c.next_line.new.self) _ (c.in_ok-next_line.ensures.feeds c.if-branch.true before) (c.in_ok-answered.ensures.reading.feeds untold));
  read = c.in_ok-answered.ensures.reading.steady ∙ c.in_ok-next_line.ensures.steady ∙ c.loop-row.invariant.read;
  written = c.in_ok-write_reply.ensures.steady ∙ c.loop-row.invariant.written;
  bound = c.answer.ensures.reading.bound ∙ c.next_line.ensures.bound ∙ c.loop-row.invariant.bound;
  untouched = λ some. absurd (no_fault (sym c.loop-row.invariant.fault ∙ c.in_ok-next_line.ensures.ready.0) some);
  reads = λ timely. c.answer.ensures.reading.in_time (c.next_line.ensures.in_time (c.loop-row.invariant.reads timely));
  writes = λ fair rest. c.write_reply.ensures.in_time (c.loop-row.invariant.writes fair rest) (c.loop-row.invariant.rested rest);
  rested = λ rest. c.in_ok-write_reply.ensures.rested (c.loop-row.invariant.rested rest);
}

pub returns-clause-session : goal.returns-clause-session
returns-clause-session g c = λ _.
    let end = c.in_ok-next_line.ensures.end c.if-branch.false in
    session_ends _ (input_of g.R.Source.left c.loop-row.lines) _ _ _ _ _ c.loop-row.invariant.session end.2 end.1

pub returns-in_err-next_line-clause-session : goal.returns-in_err-next_line-clause-session
returns-in_err-next_line-clause-session g c = λ none.
    let left = g.R.Source.left in
    let p = err_from_is_err_and c.from_residual.result c.from_residual.ensures.1 in
    let whole : c.in_err-next_line.field-0.0 ≡ read.Read → TookWhole (input_of left c.args.lines.now) (input_of left c.loop-row.lines) =
    λ is. c.loop-row.invariant.feeds (c.next_line.ensures.stays (c.in_err-next_line.ensures.drained is (c.loop-row.invariant.fault ∙ none)).1) in
    rw (p.1, p.2) (session_at_line _ (input_of left c.loop-row.lines) _ _ _ _ _ c.loop-row.lines.fault (line_of c.next_line.new.self) c.in_err-next_line.field-0.0
    c.loop-row.invariant.session (c.loop-row.invariant.fault ∙ none) whole c.in_err-next_line.ensures.long c.in_err-next_line.ensures.cut)

pub returns-in_err-answered-clause-session : goal.returns-in_err-answered-clause-session
returns-in_err-answered-clause-session g c = λ _.
    let left = g.R.Source.left in
    let held = g.W.Sink.held in
    let f = c.in_err-answered.field-0.0 in
    let p = err_from_is_err_and c.from_residual-in_err-answered.result c.from_residual-in_err-answered.ensures.1 in
    let broken = c.in_err-answered.ensures.broken in
    let whole : f ≡ fault.Read → TookWhole (input_of left c.args.lines.now) (input_of left c.loop-row.lines) =
    λ is. c.loop-row.invariant.feeds (c.next_line.ensures.stays (c.answer.ensures.reading.stays (c.in_err-answered.ensures.reading.drained (ap (λ (x : ServeFault). Err x) is) c.in_ok-next_line.ensures.ready.1).1)) in
    rw (p.1, p.2)
    (subst (λ (x : Contents). IsSession (at (input_of left c.args.lines.now) (held c.args.writer.now) (contents_of c.args.bench.now)) (at (input_of left c.answer.new.lines) (held c.loop-row.writer) x) (Err f)) (sym broken.1)
    (session_open _ (input_of left c.loop-row.lines) (input_of left c.next_line.new.self) _ _ _ _ _ (line_of c.next_line.new.self) f c.loop-row.invariant.session
    (c.in_ok-next_line.ensures.more c.if-branch.true) (c.in_ok-next_line.ensures.fits c.if-branch.true) broken.0.0 whole broken.0.1))

pub returns-in_err-write_reply-clause-session : goal.returns-in_err-write_reply-clause-session
returns-in_err-write_reply-clause-session g c = λ _.
    let left = g.R.Source.left in
    let held = g.W.Sink.held in
    let wrote : c.from_residual-in_err-write_reply.result ≡ Err fault.Write = search rules in
    rw wrote (session_at_write _ (input_of left c.loop-row.lines) (input_of left c.next_line.new.self) _ _ (held c.loop-row.writer) _ _ (contents_of c.loop-row.bench) _ (line_of c.next_line.new.self) c.in_ok-answered.answered.reply
    c.write_reply.ensures.prefix.0 c.loop-row.invariant.session (c.in_ok-next_line.ensures.more c.if-branch.true) (c.in_ok-next_line.ensures.fits c.if-branch.true) c.in_ok-answered.ensures.answered c.write_reply.ensures.prefix.1)
