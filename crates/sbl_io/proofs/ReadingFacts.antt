-- What a call does to lines of which it reads none.
use Rattle.std.proofs.Common.{◌≡◌, ℕ, List, Option, None, Ok, arith, refl}
use Rattle.sbl_io.specs.Devices.{Tally}
use Rattle.sbl_io.specs.HeldInput.{Reading}
use Rattle.sbl_io.specs.declared.lines.Lines.{Lines}
use Rattle.sbl_io.proofs.Bytes.{whole_none}

pub reads-nothing : {R A : Type 0} (left : R → Option (List ℕ)) (tally : R → Tally) (l : Lines R) (x : A) → l.fault ≡ None → Reading left tally l l (Ok x)
reads-nothing left tally l x ready = record {
  remembered = ready;
  drained = λ is. cc is;
  fuel = omega arith;
  later = omega arith;
  stays = λ untold. untold;
  feeds = λ _. whole_none _;
  steady = refl;
  bound = refl;
  why = tt;
  in_time = λ timely. timely;
}
