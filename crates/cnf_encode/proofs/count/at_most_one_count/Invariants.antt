use Rattle.std.proofs.Common.{◌≡◌, ◌*◌, ◌≤◌, length, take}
use Rattle.std.specs.List.{count_by, sum_by}
use Rattle.pack_defs.specs.Book.{stations_of}
use Rattle.pack_defs.specs.Lists.{is_in}
use Rattle.cnf_encode.specs.Formula.{at_most_one, station_variables}
use Rattle.cnf_encode.proofs.count.at_most_one_count.Given as goal

abbrev pub invariant-loop-i : goal.invariant-loop-i
invariant-loop-i l = record {
  count : l.count ≡ sum_by (λ s. length (at_most_one (station_variables l.book l.set s))) (take l.i l.set);
  few : l.count ≤ 32768 * count_by (is_in (stations_of l.book)) (take l.i l.set);
}
