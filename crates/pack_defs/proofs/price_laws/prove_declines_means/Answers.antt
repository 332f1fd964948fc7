use Rattle.pack_defs.proofs.PriceLaws.{declines-by_value, declines-by_lines}
use Rattle.pack_defs.proofs.price_laws.prove_declines_means.Goals as goal

pub returns-clause-value : goal.returns-clause-value
returns-clause-value c = declines-by_value

pub returns-clause-lines : goal.returns-clause-lines
returns-clause-lines c = declines-by_lines
