-- The scenario is that of the start set alone, which joins to its book.
use Rattle.std.proofs.Common.{subst, sym}
use Rattle.pack_defs.specs.Scenario.{IsWithinLimits}
use Rattle.scenario_json.proofs.StartLemmas.{only-limits}
use Rattle.commands.specs.Seek.{base_of}
use Rattle.commands.proofs.TopChannelRunLemmas.{built-auction, made-inputs}
use Rattle.commands.proofs.top_channel_runs.inputs_up_to.Goals as goal

pub join-requires : goal.join-requires
join-requires c =
    subst IsWithinLimits (sym c.in_ok-scenario.ensures)
    (only-limits c.args.sources.now.scenario c.args.top c.requires.seekable.limits c.requires.least c.requires.most)

pub returns-clause-inputs : goal.returns-clause-inputs
returns-clause-inputs c =
    made-inputs (base_of c.args.sources.now) c.args.top c.in_ok-scenario.scenario c.in-Ok.book c.requires.seekable c.in_ok-scenario.ensures c.in-Ok.ensures

pub returns-clause-auction : goal.returns-clause-auction
returns-clause-auction c =
    built-auction (base_of c.args.sources.now) c.args.top c.in_ok-scenario.scenario c.in-Ok.book c.requires.seekable c.in_ok-scenario.ensures c.in-Ok.ensures
    c.requires.least c.requires.most
