-- The JSON value that is written for a scenario. The names of members ascend.
use Rattle.std.specs.Prelude.{ℕ, ◌≡◌, ◌≤◌, List, map, All, Option, Some, None, codes}
use Rattle.serde_json.specs.Data.{Data, Members, array, member, no_members, null, number, object, string, unsigned}
use Rattle.serde_json.specs.View.{items_of}
use Rattle.pack_defs.specs.declared.fall.Fall.{Fall}
use Rattle.pack_defs.specs.declared.fall.Fall.TheVariants.{Listed, Rated}
use Rattle.pack_defs.specs.declared.scenario.Scenario.{Scenario}
use Rattle.pack_defs.specs.declared.station.Station.{Station}
use Rattle.pack_defs.specs.declared.worker.Kind.{Kind}
use Rattle.pack_defs.specs.declared.worker.Kind.TheVariants.{Cdcl, Walk}
use Rattle.pack_defs.specs.declared.worker.Worker.{Worker}
use Rattle.pack_defs.specs.Scenario.{IsWithinLimits}

-- A whole number.
abbrev pub whole_for : ℕ → Data
whole_for n = number (unsigned n)

-- A list, each item written by `write`.
abbrev pub list_for : {A : Type 0} → (A → Data) → List A → Data
list_for write xs = array (items_of (map write xs))

-- ---- stations

-- A value, or null for a station without one.
abbrev pub value_for : Option ℕ → Data
value_for None = null
value_for (Some value) = whole_for value

-- The object of a station.
unfoldable pub station_for : Station → Data
station_for x = object (member (codes "id") (whole_for x.id)
    (member (codes "value") (value_for x.value)
    (member (codes "volume") (whole_for x.volume)
    no_members)))

-- ---- workers

-- The name of a kind.
abbrev pub kind_text : Kind → List ℕ
kind_text Cdcl = codes "cdcl"
kind_text Walk = codes "walk"

-- The object of a worker.
unfoldable pub worker_for : Worker → Data
worker_for w = object (member (codes "budget") (whole_for w.budget)
    (member (codes "kind") (string (kind_text w.kind))
    (member (codes "seed") (whole_for w.seed)
    no_members)))

-- ---- the scenario

-- The members that each version has last.
unfoldable pub last_members : Scenario → Members
last_members sc = member (codes "stations") (list_for station_for sc.stations)
    (member (codes "top") (whole_for sc.top)
    (member (codes "version") (whole_for sc.version)
    (member (codes "workers") (list_for worker_for sc.workers)
    no_members)))

-- All members: with decrements if the price falls by a list, with rate and floor if it falls by rate.
unfoldable pub members_for : Fall → Scenario → Members
members_for (Listed decrements) sc = member (codes "decrements") (list_for whole_for decrements)
    (member (codes "opening") (whole_for sc.opening)
    (last_members sc))
members_for (Rated rate floor) sc = member (codes "floor") (whole_for floor)
    (member (codes "opening") (whole_for sc.opening)
    (member (codes "rate") (whole_for rate)
    (last_members sc)))

-- The object that is written for a scenario, without the owners' answers.
abbrev pub data_for : Scenario → Data
data_for sc = object (members_for sc.fall sc)

-- ---- what is read back

-- Whether a file can hold the station's id: at most 4,294,967,295.
abbrev pub IsFileNumber : Station → Type 0
IsFileNumber x = x.id ≤ 4294967295

-- Whether a file can hold the worker's seed: at most 2^64 - 1.
abbrev pub IsFileSeed : Worker → Type 0
IsFileSeed w = w.seed ≤ 18446744073709551615

-- A scenario that a file can hold: within the limits, with ids and seeds that a file can hold, and without owners' answers.
pub record IsWritableScenario (sc : Scenario) : Type 0 where
  pub limits : IsWithinLimits sc
  pub numbers : All IsFileNumber sc.stations
  pub seeds : All IsFileSeed sc.workers
  pub by_value : sc.owners ≡ None
