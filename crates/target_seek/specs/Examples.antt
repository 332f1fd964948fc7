-- A small auction: one station, which may use only one channel.
use Rattle.std.specs.Prelude.{ℕ, [], ◌∷◌, None}
use Rattle.pack_defs.specs.declared.fall.Fall.TheVariants.{Listed}
use Rattle.target_seek.specs.TopChannels.{SeekBase}

-- A station without a value, which therefore starts on air, and may use only this channel.
unfoldable pub one_station : ℕ → SeekBase
one_station channel = record {
  scenario = record {
    version = 1;
    top = 51;
    opening = 100;
    fall = Listed [];
    stations = record { id = 1; volume = 1; value = None } ∷ [];
    workers = [];
    owners = None;
  };
  domains = record { station = 1; channels = channel ∷ [] } ∷ [];
  pairs = [];
}
