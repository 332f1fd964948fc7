-- Three stations in order, a book in order, and one worker.
use Rattle.std.proofs.Common.{ℕ, zero, suc, ◌+◌, ◌<◌, List, [], ◌∷◌, length, refl, arith}
use Rattle.std.specs.Prelude.{slice_index}
use Rattle.pack_defs.specs.Examples.{three_stations, three_bids}
use Rattle.auction_core.proofs.laws.prove_three_stations_are_an_auction.Goals as goal

abbrev numbers : List ℕ
numbers = 1 ∷ 2 ∷ 3 ∷ []

three : (k : ℕ) → k + 1 < length numbers → slice_index numbers k < slice_index numbers (k + 1)
three zero l = omega arith
three (suc zero) l = omega arith
three (suc (suc k)) l = absurd (omega arith)

pub returns : goal.returns
unfolding three_stations three_bids
returns c = record {
  stations = three;
  in_order = record { domains = record { stations = refl; channels = refl }; pairs = refl; of_two = refl; on_domains = refl };
  workers = omega arith;
}
