use Rattle.pack_defs.proofs.OwnerLaws.{follow-values}
use Rattle.pack_defs.proofs.clock_laws.prove_lines_act_as_values.Goals as goal

pub returns : goal.returns
returns c = follow-values
