use Rattle.std.proofs.Common.{◌∙◌, None, ap}
use Rattle.transcript_text.specs.LogLines.{stations_at}
use Rattle.transcript_text.proofs.CursorLemmas.{left_fields, left-gone}
use Rattle.transcript_text.proofs.Fronts.{stations-more, stations-stop, stations-end}
use Rattle.transcript_text.proofs.log_lines.stations_of.Goals as goal

pub loop-left-preserved : goal.loop-left-preserved
loop-left-preserved c =
    rw c.in_ok-push-in-Ok.ensures.items
    (stations-more c.args.sc.now c.args.n c.loop-left.above c.loop-left.stations.items c.in-Ok.station c.split_field.result.0.now (left_fields c.loop-left.left) (left_fields c.split_field.result.1) (stations_at c.args.sc.now c.args.n None (left_fields c.args.fields)) (ap left_fields c.in-Some.is ∙ c.split_field.ensures.fields) c.in-Ok.ensures c.loop-left.invariant)

pub returns-in-Err : goal.returns-in-Err
returns-in-Err c =
    stations-stop c.args.sc.now c.args.n c.loop-left.above c.loop-left.stations.items c.in-Err.why c.split_field.result.0.now (left_fields c.loop-left.left) (left_fields c.split_field.result.1) (stations_at c.args.sc.now c.args.n None (left_fields c.args.fields)) (ap left_fields c.in-Some.is ∙ c.split_field.ensures.fields) c.in-Err.ensures c.loop-left.invariant

pub returns : goal.returns
returns c = stations-end c.args.sc.now c.args.n c.loop-left.above c.loop-left.stations.items (left_fields c.loop-left.left) (stations_at c.args.sc.now c.args.n None (left_fields c.args.fields)) (left-gone c.loop-left.left c.in_default.is) c.loop-left.invariant
