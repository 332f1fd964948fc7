-- The scenario of the stations that start on air.
use Rattle.std.specs.Prelude.{ℕ, Bool, true, not, nat_lt, ◌*◌, [], filter}
use Rattle.std.specs.Option.{option_map_or}
use Rattle.pack_defs.specs.declared.fall.Fall.TheVariants.{Listed}
use Rattle.pack_defs.specs.declared.scenario.Scenario.{Scenario}
use Rattle.pack_defs.specs.declared.station.Station.{Station}
use Rattle.pack_defs.specs.Prices.{declines, stays}

-- Whether a listed station declines the opening offer: no owner's answer keeps it in round 0. Without owners' answers, it declines
-- if it has no value, or one above the opening price times its volume.
abbrev pub declines_opening : Scenario → Station → Bool
declines_opening sc x =
    option_map_or (λ lines. not (stays lines 0 x.id)) sc.owners (option_map_or (λ v. nat_lt (sc.opening * x.volume) v) x.value true)

-- The scenario of the start set alone, up to this top channel: its stations and no others, and a price that never falls.
abbrev pub start_only : Scenario → ℕ → Scenario
start_only sc top =
    record {
      version = 1;
      top = top;
      opening = sc.opening;
      fall = Listed [];
      stations = filter (λ x. declines sc x.id 0) sc.stations;
      workers = sc.workers;
      owners = sc.owners;
    }
