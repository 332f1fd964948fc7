-- The text of the channels: a header, and a line for each station on air.
use Rattle.std.specs.Prelude.{ℕ, List, ◌++◌, codes, decimal}
use Rattle.std.specs.List.{flat_map}

-- The line of a station and its channel.
abbrev pub channel_line : ℕ × ℕ → List ℕ
channel_line x = decimal x.0 ++ codes "," ++ decimal x.1 ++ codes "\n"

-- The first line of the channels.
unfoldable pub channels_header : List ℕ
channels_header = codes "facility,channel\n"

-- The channels of a map's stations, ascending by facility as the map is.
unfoldable pub channels_text : List (ℕ × ℕ) → List ℕ
channels_text entries = channels_header ++ flat_map channel_line entries
