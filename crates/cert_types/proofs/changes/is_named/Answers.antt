-- The map has the tested station exactly if the station has a channel there.
use Rattle.std.proofs.Common.{◌∙◌, ap, sym}
use Rattle.std.specs.Option.{is_some}
use Rattle.assign_check.proofs.Finds.{channel-known}
use Rattle.cert_types.specs.Query.{is_named}
use Rattle.cert_types.proofs.changes.is_named.Goals as goal

pub returns-in-Some : goal.returns-in-Some
returns-in-Some c =
    c.is_some.ensures ∙ ap is_some c.get.ensures ∙ channel-known c.in-Some.s c.args.map.now ∙ ap (λ o. is_named o c.args.map.now) (sym c.in-Some.is)
