-- How a freeze changes the clock's state.
use Rattle.std.specs.Prelude.{◌++◌, ◌∷◌, []}
use Rattle.pack_defs.specs.ClockRule.{ClockState, FrozenAt}
use Rattle.pack_defs.specs.Lists.{without}

-- The state in which the station is frozen, in this round and at this price, and isn't asked any more.
abbrev pub freezes_at : ClockState → FrozenAt → ClockState
freezes_at state x = record {
  on_air = state.on_air;
  frozen = state.frozen ++ x ∷ [];
  active = without state.active x.station;
}
