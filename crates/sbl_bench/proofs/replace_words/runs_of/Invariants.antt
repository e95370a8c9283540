use Rattle.std.proofs.Common.{◌≡◌, ◌+◌, ◌≤◌, drop, length, take}
use Rattle.sbl_ast.specs.Source.{Source}
use Rattle.sbl_machine.specs.MachineOf.{IsLinkedMachineOf}
use Rattle.sbl_rows.specs.Classes.{texts_of}
use Rattle.sbl_rows.specs.Setting.{under}
use Rattle.sbl_last_runs.specs.KeptEntries.{AreFresh, words_in}
use Rattle.sbl_bench.specs.inside.WordLists.{new_words}
use Rattle.sbl_bench.proofs.replace_words.runs_of.Given as goal

-- the words so far have their runs; each new one of them was run once
abbrev pub invariant-loop-word : goal.invariant-loop-word
invariant-loop-word g l = record {
  words : words_in l.traces.entries ≡ texts_of (take l.word-index l.words);
  fresh : (s : Source) → IsLinkedMachineOf l.machine s → AreFresh (under s l.limit) l.before.entries → AreFresh (under s l.limit) l.traces.entries;
  counted : l.meter + length (new_words (words_in l.before.entries) (texts_of (drop l.word-index l.words)))
      ≡ l.fn.meter + length (new_words (words_in l.before.entries) (texts_of l.words));
  more : l.fn.meter ≤ l.meter;
  untold : g.B.BreakOff.said l.break_off ≡ g.B.BreakOff.said l.fn.break_off;
}
