use Rattle.std.proofs.Common.{rules, ◌≡◌, ◌≢◌, Some, None, Ok}
use Rattle.sbl_text.specs.declared.fault.ScriptFault.TheVariants as fault
use Rattle.sbl_source_map.proofs.HeadFacts.{word_end, word_fault, word_if}
use Rattle.sbl_source_map.proofs.definitions.after_word.Goals as goal

pub returns-in-Ok-Some : goal.returns-in-Ok-Some
returns-in-Ok-Some c =
    let is : c.next.result ≡ Ok (Some c.in-Ok-Some.token) = search rules in
    word_if c.args.lexer.now c.next.new.self c.args.word.now c.next.result c.in-Ok-Some.token c.end_if.result c.requires c.next.ensures.next is c.next.ensures.same_text c.end_if.ensures

pub returns-in-Ok-None : goal.returns-in-Ok-None
returns-in-Ok-None c =
    let is : c.next.result ≡ Ok None = search rules in
    word_end c.args.lexer.now c.next.new.self c.args.word.now c.next.result c.requires c.next.ensures.next is

pub returns-in_default : goal.returns-in_default
returns-in_default c =
    let other : c.in-Err.fault ≢ fault.OutOfMemory = search rules in
    word_fault c.args.lexer.now c.next.new.self c.args.word.now c.in-Err.fault c.requires c.in-Err.ensures.next other
