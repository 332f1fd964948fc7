use Rattle.std.proofs.Common.{◌∙◌, sym}
use Rattle.pack_defs.proofs.OwnerLineLemmas.{said-then, said-else}
use Rattle.pack_defs.proofs.owners.Owners.has_line_for.Goals as goal

pub returns-then-stays : goal.returns-then-stays
returns-then-stays c =
    c.if-stays.true ∙ sym (said-then c.args.self.now c.args.round c.args.station (sym c.stays.ensures ∙ c.if-stays.true))

pub returns-else-stays : goal.returns-else-stays
returns-else-stays c =
    c.has.ensures ∙ sym (said-else c.args.self.now c.args.round c.args.station (sym c.stays.ensures ∙ c.if-stays.false))
