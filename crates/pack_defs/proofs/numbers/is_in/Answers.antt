use Rattle.std.proofs.Common.{◌∙◌}
use Rattle.pack_defs.proofs.Searches.{found-number}
use Rattle.pack_defs.proofs.numbers.is_in.Goals as goal

pub returns : goal.returns
returns c = c.is_ok.ensures.value ∙ found-number c.args.numbers.now c.args.number c.binary_search.result c.binary_search.ensures.bound c.binary_search.ensures.position c.requires
