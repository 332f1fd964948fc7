-- The entries of a station in the clock's state: on air, frozen or active.
use Rattle.std.specs.Prelude.{ℕ, ◌+◌, ◌==◌, count_by}
use Rattle.pack_defs.specs.ClockRule.{ClockState}

-- The number of entries that the state has of the station.
abbrev pub station_entry_count : ClockState → ℕ → ℕ
station_entry_count state s =
    count_by (λ x. x.station == s) state.on_air + count_by (λ x. x.station == s) state.frozen + count_by (λ x. x == s) state.active
