-- The contents of a domains file: the channels of each station.
use Rattle.std.specs.Prelude.{ℕ, ◌==◌, nat_le, nat_lt, if◌then◌else◌, List, [], ◌∷◌, filter, length, Option, Some, None, Result, Ok, Err, codes}
use Rattle.std.specs.List.{list_all, range_with_len}
use Rattle.std.specs.Option.{is_some, ok_or}
use Rattle.std.specs.Str.{bytes_eq}
use Rattle.pack_defs.specs.Lists.{is_in}
use Rattle.pack_defs.specs.declared.domain.Domain.{Domain}
use Rattle.pack_defs.specs.Limits.{LEAST_CHANNEL, MOST_DOMAIN_ROWS}
use Rattle.constraint_files.specs.Field.{number, numbers, is_channel}
use Rattle.constraint_files.specs.LineReader.{FeedState, fed_on}
use Rattle.constraint_files.specs.Records.{lines_of, after_lines}
use Rattle.pack_defs.specs.Steps.{◌>>=◌}
use Rattle.constraint_files.specs.declared.error.ReadErr.{ReadErr}
use Rattle.constraint_files.specs.declared.error.RowWhy.{RowWhy}
use Rattle.constraint_files.specs.declared.error.RowWhy.TheVariants.{ShortRow, BadKey, BadNumber, ChannelRange, SecondDomain, TooMany}

-- The channels that a domain may have: 14 to 51.
unfoldable pub channels_to_keep : List ℕ
channels_to_keep = range_with_len LEAST_CHANNEL 38

-- The channels that a domain keeps among those that its row names, ascending, each once.
abbrev pub kept_channels : List ℕ → List ℕ
kept_channels named = filter (λ c. is_in named c) channels_to_keep

-- The domain of a station whose row names these channels.
abbrev pub domain_with_channels : ℕ → List ℕ → Result Domain RowWhy
domain_with_channels station named =
    if list_all is_channel named then Ok (record { station = station; channels = kept_channels named }) else Err ChannelRange

-- The domain of these fields.
abbrev pub domain_from : List ℕ → List (List ℕ) → Result Domain RowWhy
domain_from facility channels = do
  station ← ok_or (number facility) BadNumber
  named ← ok_or (numbers channels) BadNumber
  domain_with_channels station named

-- The domain of a record: `DOMAIN,facility,channel,...`.
unfoldable pub domain_row : List (List ℕ) → Result Domain RowWhy
domain_row (key ∷ facility ∷ channels) = if bytes_eq key (codes "DOMAIN") then domain_from facility channels else Err BadKey
domain_row _ = Err ShortRow

-- The channels of a station, if it has a row.
abbrev pub channels_of : List Domain → ℕ → Option (List ℕ)
channels_of [] s = None
channels_of (d ∷ ds) s = if d.station == s then Some d.channels else channels_of ds s

-- The domains with one more, in its place by station.
abbrev pub with_domain : Domain → List Domain → List Domain
with_domain d [] = d ∷ []
with_domain d (e ∷ es) = if nat_lt e.station d.station then e ∷ with_domain d es else d ∷ e ∷ es

-- The domains with one more, if its station has no row yet and the rows are fewer than 65,536.
abbrev pub put_domain : List Domain → Domain → Result (List Domain) RowWhy
put_domain domains d =
    if is_some (channels_of domains d.station) then Err SecondDomain
    else if nat_le MOST_DOMAIN_ROWS (length domains) then Err TooMany
    else Ok (with_domain d domains)

-- The domains with the domain of a record.
abbrev pub add_domain_row : List Domain → List (List ℕ) → Result (List Domain) RowWhy
add_domain_row domains fields = do
  d ← domain_row fields
  put_domain domains d

-- The domains of a file, or its first error.
unfoldable pub domains_of : List ℕ → Result (List Domain) ReadErr
domains_of bytes = after_lines add_domain_row [] 1 (lines_of bytes)

-- The state of a reader of domains after these bytes, in whatever pieces, or the first error in a line that is complete by then.
unfoldable pub domains_fed : List ℕ → Result (FeedState (List Domain)) ReadErr
domains_fed bytes = fed_on add_domain_row (record { made = []; begun = []; line = 1 }) bytes
