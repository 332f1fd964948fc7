use Rattle.std.proofs.Common.{◌≤◌, length}
use Rattle.std.specs.Io.KnownBytes.{Consumes}
use Rattle.outside_io.proofs.real.read_all.Given as goal

abbrev pub invariant-loop : goal.invariant-loop
invariant-loop g l =
    let remaining = g.F.Read.remaining in
    record {
      within : length l.into.items ≤ l.limit;
      read : Consumes (remaining l.fn.file) (remaining l.file) l.into.items;
    }
