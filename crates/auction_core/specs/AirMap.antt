-- The channel map of the stations on air, kept with one slot for each station of the auction.
use Rattle.std.specs.Prelude.{ℕ, List, [], ◌∷◌, Option, Some, None}

-- The stations of an auction, ascending, and the channel map entries of those on air.
pub record AirMapView : Type 0 where
  pub stations : List ℕ
  pub entries : List (ℕ × ℕ)

-- The entries of the stations that have a channel in their slot, in order.
abbrev pub placed_entries : List ℕ → List (Option ℕ) → List (ℕ × ℕ)
placed_entries [] channels = []
placed_entries (s ∷ stations) [] = []
placed_entries (s ∷ stations) (None ∷ channels) = placed_entries stations channels
placed_entries (s ∷ stations) (Some channel ∷ channels) = (s, channel) ∷ placed_entries stations channels
