use Rattle.std.proofs.Common.{take}
use Rattle.cnf_encode.specs.ByStation.{IsCount}
use Rattle.cnf_encode.proofs.NumberLemmas.{OffsetsTo}
use Rattle.cnf_encode.proofs.numbering.offsets.Given as goal

abbrev pub invariant-loop-i : goal.invariant-loop-i
invariant-loop-i l = record {
  count : IsCount l.book (take l.i l.set) l.before;
  offsets : OffsetsTo l.book l.set l.i l.offsets.items;
}
