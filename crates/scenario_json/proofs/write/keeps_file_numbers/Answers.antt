use Rattle.scenario_json.proofs.WrittenLemmas.{numbers-all, numbers-more}
use Rattle.scenario_json.proofs.write.keeps_file_numbers.Goals as goal

pub loop-station-preserved : goal.loop-station-preserved
loop-station-preserved c =
    numbers-more c.args.stations.now c.loop-station.station-index _ c.loop-station-test.true c.keeps_file_number.ensures c.loop-station.invariant

pub returns : goal.returns
returns c = numbers-all c.args.stations.now c.loop-station.station-index c.loop-station-test.false c.loop-station.invariant
