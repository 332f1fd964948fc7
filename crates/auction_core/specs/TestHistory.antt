-- The test history, as the program keeps it: the components of the stations on air, the steps, and for each station how many
-- stations were on air at its last test and where its last fit is. The representation is this project's own.
use Rattle.std.specs.Prelude.{ℕ, ◌≡◌, ◌≤◌, ◌<◌, List, [], ◌∷◌, ◌++◌, length, slice_index, slice_set}
use Rattle.pack_defs.specs.Limits.{MOST_STATIONS}
use Rattle.auction_core.specs.ComponentLabels.{ComponentLabelsView}
use Rattle.auction_core.specs.declared.record.Shown.{Shown}
use Rattle.auction_core.specs.declared.record.Step.{Step}
use Rattle.auction_core.specs.State.{last_fit}
use Rattle.auction_core.specs.StepList.{fit_at}

-- The test history: the components of the stations on air and their number; for the station at each place, how many were on air at
-- its last test; the steps so far; and room for further steps and verdicts.
pub record TestHistoryView : Type 0 where
  pub component_labels : ComponentLabelsView
  pub on_air : ℕ
  pub seen : List ℕ
  pub steps : List Step
  pub room : ℕ
  pub verdicts : ℕ

-- The test history once the test of the station at this place is settled by this step, with room for this many further steps and
-- verdicts.
abbrev pub with_settled_step : TestHistoryView → ℕ → Step → ℕ → ℕ → TestHistoryView
with_settled_step test_history place step room verdicts = record test_history {
  seen = slice_set test_history.seen place test_history.on_air;
  steps = test_history.steps ++ step ∷ [];
  room = room;
  verdicts = verdicts;
}

-- Whether `seen` has a number for each station, and each number and `on_air` are within the limit on stations.
pub record AreSeen (stations : List ℕ) (on_air : ℕ) (seen : List ℕ) : Type 0 where
  pub long : length seen ≡ length stations
  pub few : on_air ≤ MOST_STATIONS
  pub each : (i : ℕ) → slice_index seen i ≤ MOST_STATIONS

-- Whether `fits` has, for each station, the place among the verdicts of its last fit in the steps.
pub record AreLastFits (stations : List ℕ) (steps : List Step) (told : List Shown) (fits : List ℕ) : Type 0 where
  pub long : length fits ≡ length stations
  pub stands : (i : ℕ) → i < length stations → slice_index fits i ≤ length told
  pub each : (i : ℕ) → i < length stations → fit_at told (slice_index fits i) ≡ last_fit steps (slice_index stations i) []
