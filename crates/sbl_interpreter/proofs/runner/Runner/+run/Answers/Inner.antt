-- What `run_inner` owes.
use Rattle.sbl_program.specs.ProgramOf.{program_of}
use Rattle.sbl_interpreter.proofs.Inners.{follows_loop, follows_at_least, follows_set_limit, follows_search}
use Rattle.sbl_interpreter.proofs.runner.Runner.+run.Goals as goal

pub run_inner-returns-in-Loop-clause-follows : goal.run_inner-returns-in-Loop-clause-follows
run_inner-returns-in-Loop-clause-follows g t c =
    let T = g.T.Tables.listed c.args.self.now.tables.now in
    let P = program_of T c.args.self.now.code.now in
    let levels = c.args.self.now.levels in
    let m = c.args.self.now.mode in
    let s = c.args.state.now in
    let at = c.args.at.now in
    let a = c.in-Loop in
    follows_loop P levels T m s c.run_times.new.state at _ a.cost a.count a.body a.next a.fail c.deref-in-Loop.result.now c.deref-in-Loop-2.result.now a.is c.deref-in-Loop.ensures c.deref-in-Loop-2.ensures c.run_times.ensures.follows

pub run_inner-returns-in-AtLeast-clause-follows : goal.run_inner-returns-in-AtLeast-clause-follows
run_inner-returns-in-AtLeast-clause-follows g t c =
    let T = g.T.Tables.listed c.args.self.now.tables.now in
    let P = program_of T c.args.self.now.code.now in
    let levels = c.args.self.now.levels in
    let m = c.args.self.now.mode in
    let s = c.args.state.now in
    let at = c.args.at.now in
    let a = c.in-AtLeast in
    follows_at_least P levels T m s c.run_at_least.new.state at _ a.cost a.count a.body a.next a.fail c.deref-in-AtLeast.result.now c.deref-in-AtLeast-2.result.now a.is c.deref-in-AtLeast.ensures c.deref-in-AtLeast-2.ensures c.run_at_least.ensures.follows

pub run_inner-returns-in-SetLimit-clause-follows : goal.run_inner-returns-in-SetLimit-clause-follows
run_inner-returns-in-SetLimit-clause-follows g t c =
    let T = g.T.Tables.listed c.args.self.now.tables.now in
    let P = program_of T c.args.self.now.code.now in
    let levels = c.args.self.now.levels in
    let m = c.args.self.now.mode in
    let s = c.args.state.now in
    let at = c.args.at.now in
    let a = c.in-SetLimit in
    follows_set_limit P levels T m s c.run_limited.new.state at _ a.cost a.first a.second a.next a.fail c.deref-in-SetLimit.result.now c.deref-in-SetLimit-2.result.now a.is c.deref-in-SetLimit.ensures c.deref-in-SetLimit-2.ensures c.run_limited.ensures.follows

pub run_inner-returns-in-Search-clause-follows : goal.run_inner-returns-in-Search-clause-follows
run_inner-returns-in-Search-clause-follows g t c =
    let T = g.T.Tables.listed c.args.self.now.tables.now in
    let P = program_of T c.args.self.now.code.now in
    let levels = c.args.self.now.levels in
    let m = c.args.self.now.mode in
    let s = c.args.state.now in
    let at = c.args.at.now in
    let a = c.in-Search in
    follows_search P levels T m s c.run_search_all.new.state at _ a.cost a.among a.site a.next a.fail c.deref-in-Search.result.now a.is c.deref-in-Search.ensures c.run_search_all.ensures.follows
