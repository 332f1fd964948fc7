use Rattle.std.proofs.Common.{◌≡◌, ◌++◌, map, take}
use Rattle.result_text.specs.ResultText.{IsBetweenRows, header_line, station_lines, text_held}
use Rattle.result_text.proofs.rows.stations_csv.Given as goal

abbrev pub invariant-rows : goal.invariant-rows
invariant-rows l = record {
  idle : IsBetweenRows l.writer;
  text : text_held l.writer ≡ header_line ++ station_lines l.clock.paid (take l.i (map (λ x. x.id) l.stations)) (take l.i l.clock.station_statuses) (take l.i l.undecided);
}
