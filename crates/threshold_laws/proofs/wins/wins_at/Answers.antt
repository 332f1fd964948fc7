-- The scenario with the value has the same stations, and the rule decides whether the station is frozen.
use Rattle.std.proofs.Common.{◌∙◌, [], ap, subst, sym}
use Rattle.std.specs.List.Sorted.{IsStrictlyIncreasing}
use Rattle.pack_defs.specs.Scenario.{facilities}
use Rattle.pack_defs.specs.ClockRule.{clock_rule, is_frozen}
use Rattle.pack_defs.specs.Threshold.{wins}
use Rattle.pack_defs.proofs.Rounds.{with_value_agrees}
use Rattle.threshold_laws.proofs.wins.wins_at.Goals as goal

pub run-requires : goal.run-requires
run-requires c =
    let same = (with_value_agrees c.args.sc.now c.args.station c.args.v).same_facilities ∙ ap facilities (sym c.in_ok-sc.ensures) in
    subst IsStrictlyIncreasing same c.requires.ascend

pub returns : goal.returns
unfolding wins
returns c =
    c.is_frozen.ensures
    ∙ ap (λ state. is_frozen state c.args.station)
    (c.in_ok-clock.ensures ∙ ap (λ sc. clock_rule sc c.args.book.now c.args.order []) c.in_ok-sc.ensures)
