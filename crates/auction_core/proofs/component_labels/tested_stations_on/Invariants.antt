-- The set has the stations so far; their entries and those of the remaining slots are all entries.
use Rattle.std.proofs.Common.{◌≡◌, ◌++◌, filter, take}
use Rattle.auction_core.specs.AirMap.{placed_entries}
use Rattle.auction_core.specs.ComponentLabels.{is_asked, label_in}
use Rattle.auction_core.proofs.AskedEntries.{passing}
use Rattle.auction_core.proofs.component_labels.tested_stations_on.Given as goal

abbrev pub invariant-loop-place : goal.invariant-loop-place
invariant-loop-place l = record {
  set : l.set.items ≡ filter (λ z. is_asked l.station l.marks z (label_in l.stations l.labels z)) (take l.place l.stations);
  entries : l.entries.items ++ passing (λ z. is_asked l.station l.marks z (label_in l.stations l.labels z)) l.stations l.channels l.place ≡ filter (λ e. is_asked l.station l.marks e.0 (label_in l.stations l.labels e.0)) (placed_entries l.stations l.channels);
}
