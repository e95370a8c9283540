-- The laws of an edit that was broken off.
use Rattle.std.proofs.Common.{◌≡◌, ◌⊎◌, Some, None, inl, inr, sym, ap}
use Rattle.sbl_bench.specs.BreakingOff.{IsBrokenOff}
use Rattle.sbl_bench.specs.BreakLaws.{BrokenEditShowsTheOld, OnlyGoodEditsBreak, PlainEditsEnd}
use Rattle.sbl_bench.specs.Contents.{Contents}
use Rattle.sbl_bench.specs.Edits.{Edit, Add, Remove, Words, Replace, Whole, Limit, IsMeterFull, IsRefused, IsVerdict}
use Rattle.sbl_bench.specs.declared.fault.EditFault.{EditFault}
use Rattle.sbl_bench.specs.declared.fault.EditFault.TheVariants as fault
use Rattle.sbl_bench.specs.Undo.{Shows}
use Rattle.sbl_bench.specs.Traces.{trace_of}
use Rattle.sbl_rows.specs.Classes.{classes_of}
use Rattle.sbl_rows.specs.Rows.{rows_of}
use Rattle.sbl_bench.proofs.Breaking.{added_ends, list_found_ends, script_fault_ends}
use Rattle.sbl_bench.proofs.OneVerdict.{Facts, verdict_is_one}

refused_ends : (s : Contents) (e : Edit) → IsRefused s e fault.BrokenOff → ⊥
refused_ends s (Add word) is = added_ends s word is
refused_ends s (Remove word) is = cc is.1
refused_ends s (Words ws) is = list_found_ends ws is
refused_ends s (Replace what text) is = script_fault_ends is.0 (sym is.2)
refused_ends s (Whole bytes) is = cc is.2
refused_ends s (Limit n) is = cc is.1

pub plain_end : PlainEditsEnd
plain_end s t e h = by h.0
  where
    by : IsRefused s e fault.BrokenOff ⊎ IsMeterFull s e fault.BrokenOff → ⊥
    by (inl is) = refused_ends s e is
    by (inr is) = cc is.3

pub only_good : Facts → OnlyGoodEditsBreak
only_good k s t u e v broken verdict = sym (verdict_is_one k s e None v broken.made u broken.is verdict).0

pub shows : BrokenEditShowsTheOld
shows s t e broken = record {
  setting = ap (λ (x : Contents). x.setting) broken.after;
  rows = ap (λ (x : Contents). rows_of x.setting x.words) broken.after;
  classes = ap (λ (x : Contents). classes_of (rows_of x.setting x.words)) broken.after;
  traces = λ word. ap (λ (x : Contents). trace_of x.setting x.words word) broken.after;
}
