use Rattle.std.proofs.Common.{◌∙◌}
use Rattle.pack_defs.proofs.Searches.{found-number}
use Rattle.packing_graph.proofs.station_set.ListedStationsStationSet.has.Goals as goal

pub returns : goal.returns
returns c =
    c.is_ok.ensures.value ∙ found-number c.args.self.now.list.now c.args.station c.binary_search.result c.binary_search.ensures.bound c.binary_search.ensures.position c.args.self.now.ascending
