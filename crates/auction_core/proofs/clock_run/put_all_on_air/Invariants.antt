-- Of the stations before this one, those that start on air are on air.
use Rattle.std.proofs.Common.{◌≡◌, length}
use Rattle.auction_core.specs.ComponentLabels.{AreLabelsOf}
use Rattle.auction_core.proofs.Starters.{aired}
use Rattle.auction_core.proofs.clock_run.put_all_on_air.Given as goal

abbrev pub invariant-loop-i : goal.invariant-loop-i
invariant-loop-i l =
    AreLabelsOf l.setup.scenario l.setup.book (aired l.setup.scenario l.i) l.test_history.component_labels
    × (l.test_history.on_air ≡ length (aired l.setup.scenario l.i).on_air)
    × (l.test_history ≡ record l.initial.test_history { component_labels = l.test_history.component_labels; on_air = l.test_history.on_air })
    × (l.i-end ≡ length l.setup.scenario.stations)
