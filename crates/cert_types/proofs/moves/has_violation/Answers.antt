use Rattle.std.proofs.Common.{◌∙◌, ap, sym}
use Rattle.cert_types.specs.Moves.{has_violation}
use Rattle.cert_types.proofs.WalkLemmas.{troubled-counted}
use Rattle.cert_types.proofs.moves.has_violation.Goals as goal

pub returns : goal.returns
returns c =
    troubled-counted c.args.map.now.book c.args.map.now.entries c.args.station c.violations_of.result c.violations_of.ensures
    ∙ ap (λ book. has_violation book c.args.map.now.entries c.args.station) (sym c.requires)
