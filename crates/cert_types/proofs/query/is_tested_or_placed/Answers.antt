-- A station is in a map exactly if it has a channel there.
use Rattle.std.proofs.Common.{◌∙◌, ap, ne_eqb}
use Rattle.std.specs.Option.{is_some}
use Rattle.assign_check.proofs.Finds.{channel-known}
use Rattle.cert_types.proofs.query.is_tested_or_placed.Goals as goal

pub returns-else-station-tested : goal.returns-else-station-tested
returns-else-station-tested c = rw (ne_eqb c.args.station c.args.tested c.if-station-tested.false) (c.is_some.ensures ∙ (ap is_some c.get.ensures ∙ channel-known c.args.station c.args.map.now))
