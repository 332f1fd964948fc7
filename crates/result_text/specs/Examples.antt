-- Records of the auction of three stations, and of an auction without stations.
use Rattle.std.specs.Prelude.{ℕ, List, [], ◌∷◌, Some}
use Rattle.pack_defs.specs.declared.order.Order.TheVariants.{ByFacility}
use Rattle.pack_defs.specs.declared.station.Station.{Station}
use Rattle.cert_types.specs.declared.answer.Refutation.{Refutation}
use Rattle.cert_types.specs.declared.answer.Refutation.TheVariants.{Proof}
use Rattle.cert_types.specs.declared.answer.Receipt.TheVariants.{Lines}
use Rattle.cert_types.specs.Examples.{learner, log, not_one, the_end}
use Rattle.auction_core.specs.declared.record.Shown.{Shown}
use Rattle.auction_core.specs.declared.record.Shown.TheVariants.{Empty, Fits, Refuted, Undecided}
use Rattle.auction_core.specs.declared.record.Step.{Step}
use Rattle.auction_core.specs.declared.record.Record.{Record}
use Rattle.auction_core.specs.declared.record.Ending.TheVariants.{Done}
use Rattle.auction_core.specs.Examples.{auction_of_three, no_station}

-- The three stations, the second with this value and the third with this volume.
abbrev pub three_with : ℕ → ℕ → List Station
three_with value volume =
    record { id = 1; volume = 1; value = Some 50 }
    ∷ record { id = 2; volume = 1; value = Some value }
    ∷ record { id = 3; volume = volume; value = Some 10 } ∷ []

-- A step that fits, with this channel for its station.
abbrev pub fitted : ℕ → ℕ → ℕ → Step
fitted round s c = record { round = round; station = s; shown = Fits ((s, c) ∷ []) }

-- The steps of the auction of three stations, the last settled as given.
abbrev pub steps_of_three : Shown → List Step
steps_of_three last =
    fitted 1 1 14 ∷ fitted 1 2 14 ∷ fitted 1 3 15 ∷ fitted 2 1 15 ∷ record { round = 2; station = 3; shown = last } ∷ []

-- The record of the auction of three stations with one worker of this budget, the last step settled as given.
abbrev pub record_of_three : ℕ → Shown → Record
record_of_three budget last = record {
  scenario = auction_of_three (learner budget ∷ []);
  order = ByFacility;
  ending = Done;
  start = Empty;
  steps = steps_of_three last;
  map = (1, 15) ∷ (2, 14) ∷ [];
  total = 60;
}

-- A log of two lines which shows that the set of all three stations does not fit.
abbrev pub refutation_of_three : Refutation
refutation_of_three = Proof (1 ∷ 2 ∷ 3 ∷ []) (log (not_one ∷ the_end ∷ []))

-- That refutation, found by the first worker.
abbrev pub refuted_set : Shown
refuted_set = Refuted 0 refutation_of_three

-- Undecided, with a receipt of one log line by the only worker.
abbrev pub spent_on : Shown
spent_on = Undecided (Lines (log (not_one ∷ [])) ∷ [])

-- The record of the auction without stations.
abbrev pub record_of_none : Record
record_of_none = record { scenario = no_station; order = ByFacility; ending = Done; start = Empty; steps = []; map = []; total = 0 }
