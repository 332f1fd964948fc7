-- The contents of a rows file (ROWS, in the layout of Interference_Paired.csv): the pairs that interfere.
use Rattle.std.specs.Prelude.{ℕ, ◌+◌, ◌==◌, ◌&&◌, nat_lt, if◌then◌else◌, IsTrue, List, [], ◌∷◌, fold, length, Option, Some, None, Result, Ok, Err, codes}
use Rattle.std.specs.List.{list_all}
use Rattle.std.specs.Option.{ok_or}
use Rattle.std.specs.Str.{bytes_eq}
use Rattle.pack_defs.specs.Book.{comes_before, has_two_stations, pairs_ascend}
use Rattle.pack_defs.specs.Lists.{is_in}
use Rattle.pack_defs.specs.declared.domain.Domain.{Domain}
use Rattle.pack_defs.specs.Limits.{MOST_PAIRS}
use Rattle.pack_defs.specs.declared.pair.Pair.{Pair}
use Rattle.constraint_files.specs.declared.error.ReadErr.{ReadErr}
use Rattle.constraint_files.specs.declared.error.RowWhy.{RowWhy}
use Rattle.constraint_files.specs.declared.error.RowWhy.TheVariants.{ShortRow, BadKey, BadNumber, ChannelRange, BadOffset, TooMany}
use Rattle.constraint_files.specs.declared.interference_row.Offset.{Offset}
use Rattle.constraint_files.specs.declared.interference_row.Row.{Row}
use Rattle.constraint_files.specs.Domains.{channels_of}
use Rattle.constraint_files.specs.Field.{number, numbers, is_channel}
use Rattle.constraint_files.specs.LineReader.{FeedState, fed_on}
use Rattle.constraint_files.specs.Records.{lines_of, after_lines}
use Rattle.pack_defs.specs.Steps.{◌>>=◌}

-- How far the second channel of a row is above the first, or below it, by the row's key.
abbrev pub offset_of : List ℕ → Option Offset
offset_of key =
    if bytes_eq key (codes "CO") then Some (record { above = 0; below = 0 })
    else if bytes_eq key (codes "ADJ+1") then Some (record { above = 1; below = 0 })
    else if bytes_eq key (codes "ADJ-1") then Some (record { above = 0; below = 1 })
    else if bytes_eq key (codes "ADJ+2") then Some (record { above = 2; below = 0 })
    else if bytes_eq key (codes "ADJ-2") then Some (record { above = 0; below = 2 })
    else None

-- The row of these numbers, if a and b are channels and b is as far from a as the key says.
abbrev pub row_on : Offset → ℕ → ℕ → ℕ → List ℕ → Result Row RowWhy
row_on offset a b s others =
    if is_channel a && is_channel b
    then (if b + offset.below == a + offset.above
    then Ok (record { channel = a; other_channel = b; station = s; others = others })
    else Err BadOffset)
    else Err ChannelRange

-- The row of these fields.
abbrev pub row_of_fields : Offset → List ℕ → List ℕ → List ℕ → List (List ℕ) → Result Row RowWhy
row_of_fields offset a b s others = do
  channel ← ok_or (number a) BadNumber
  other_channel ← ok_or (number b) BadNumber
  station ← ok_or (number s) BadNumber
  ts ← ok_or (numbers others) BadNumber
  row_on offset channel other_channel station ts

-- The row of a record: `KEY,a,b,s,t,...`.
unfoldable pub interference_row : List (List ℕ) → Result Row RowWhy
interference_row (key ∷ a ∷ b ∷ s ∷ others) = do
  offset ← ok_or (offset_of key) BadKey
  row_of_fields offset a b s others
interference_row _ = Err ShortRow

-- The pair of s on channel a and t on channel b, with the lesser station first.
abbrev pub pair_of : ℕ → ℕ → ℕ → ℕ → Pair
pair_of s a t b = if nat_lt s t then record { f = s; a = a; g = t; b = b } else record { f = t; a = b; g = s; b = a }

-- The pairs with one more, in its place, once.
abbrev pub with_pair : List Pair → Pair → List Pair
with_pair [] p = p ∷ []
with_pair (q ∷ qs) p = if comes_before q p then q ∷ with_pair qs p else (if comes_before p q then p ∷ q ∷ qs else q ∷ qs)

-- The contents of rows: the kept pairs, the number of fields that name their row's own station, and the number of other fields for
-- which one of the two stations has no domain row.
pub record PairsView : Type 0 where
  pub list : List Pair
  pub self_pairs : ℕ
  pub strangers : ℕ

-- The contents with the pair of a row's station and t. The pair is only counted if one of the two has no domain row, and dropped if
-- one has its channel not in its domain.
abbrev pub with_kept : Option (List ℕ) → Option (List ℕ) → Row → PairsView → ℕ → PairsView
with_kept None theirs row pairs_view t = record { list = pairs_view.list; self_pairs = pairs_view.self_pairs; strangers = pairs_view.strangers + 1 }
with_kept (Some own) None row pairs_view t = record { list = pairs_view.list; self_pairs = pairs_view.self_pairs; strangers = pairs_view.strangers + 1 }
with_kept (Some own) (Some theirs) row pairs_view t =
    if is_in own row.channel && is_in theirs row.other_channel
    then record { list = with_pair pairs_view.list (pair_of row.station row.channel t row.other_channel); self_pairs = pairs_view.self_pairs; strangers = pairs_view.strangers }
    else pairs_view

-- The contents with what a row says about its station and t.
abbrev pub with_other : List Domain → Row → PairsView → ℕ → PairsView
with_other domains row pairs_view t =
    if t == row.station
    then record { list = pairs_view.list; self_pairs = pairs_view.self_pairs + 1; strangers = pairs_view.strangers }
    else with_kept (channels_of domains row.station) (channels_of domains t) row pairs_view t

-- The contents, if the pairs are at most 4,000,000.
abbrev pub within_pair_limit : PairsView → Result PairsView RowWhy
within_pair_limit pairs_view = if nat_lt MOST_PAIRS (length pairs_view.list) then Err TooMany else Ok pairs_view

-- The contents with a record.
abbrev pub add_row : List Domain → PairsView → List (List ℕ) → Result PairsView RowWhy
add_row domains pairs_view fields = do
  row ← interference_row fields
  within_pair_limit (fold (with_other domains row) pairs_view row.others)

-- The pairs of a file and its counts, over these domains, or its first error.
unfoldable pub pairs_of : List ℕ → List Domain → Result PairsView ReadErr
pairs_of bytes domains = after_lines (add_row domains) (record { list = []; self_pairs = 0; strangers = 0 }) 1 (lines_of bytes)

-- The contents of the rows so far, and the domains over which they are read.
pub record RowsView : Type 0 where
  pub domains : List Domain
  pub pairs_view : PairsView

-- The contents and domains with a record.
abbrev pub add_row_over : RowsView → List (List ℕ) → Result RowsView RowWhy
add_row_over rows fields = do
  pairs_view ← add_row rows.domains rows.pairs_view fields
  Ok (record { domains = rows.domains; pairs_view = pairs_view })

-- The state of a reader of rows over these domains after these bytes, in whatever pieces, or the first error in a line that is complete
-- by then.
unfoldable pub pairs_fed : List ℕ → List Domain → Result (FeedState RowsView) ReadErr
pairs_fed bytes domains =
    fed_on add_row_over (record { made = record { domains = domains; pairs_view = record { list = []; self_pairs = 0; strangers = 0 } }; begun = []; line = 1 }) bytes

-- The pairs of a list ascend, and each has two different stations.
pub record ArePairs (pairs : List Pair) : Type 0 where
  pub ascend : IsTrue (pairs_ascend pairs)
  pub of_two : IsTrue (list_all has_two_stations pairs)
