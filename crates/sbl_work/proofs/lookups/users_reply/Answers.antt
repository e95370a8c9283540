use Rattle.std.proofs.Common.{inl, ap, sym, ℕ}
use Rattle.std.specs.Prelude.{Vec}
use Rattle.std.specs.declared.alloc.Global.{Global}
use Rattle.sbl_bench.specs.KeptRuns.{contents_of}
use Rattle.sbl_uses.specs.Uses.{question_of, uses_text}
use Rattle.sbl_work.specs.Replies.{users_or_fault}
use Rattle.sbl_work.proofs.LookupFacts.{fault_told}
use Rattle.sbl_work.proofs.lookups.users_reply.Goals as goal

pub returns-in-Ok : goal.returns-in-Ok
returns-in-Ok c = inl (sym (ap users_or_fault c.in-Ok.ensures))

pub returns-in-Err : goal.returns-in-Err
returns-in-Err c =
    let s = contents_of c.args.bench.now in
    fault_told (λ (t : Vec ℕ Global). t.items) (uses_text s.setting s.words (question_of c.args.question)) c.in-Err.fault c.fault_reply.result c.in-Err.ensures c.fault_reply.ensures
