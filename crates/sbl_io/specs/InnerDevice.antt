-- The inner reader or writer of a device, and its tally.
use Rattle.sbl_io.specs.Devices.{Tally}
use Rattle.sbl_io.specs.declared.devices.Device.{Device}

module _ {D : Type 0} where
  abbrev pub inner_of : Device D → D
  inner_of d = d.inner

  abbrev pub tally_of : Device D → Tally
  tally_of d = record {
    failures = d.stops.failures;
    interruptions = d.stops.interruptions;
    reads = d.stops.reads;
    ended = d.stops.ended;
    late = d.stops.late;
  }
