-- By the lemma on two tests.
use Rattle.cert_types.specs.FirstLine.{line_follows, is_empty_iff_last, first_line, has_literal, lesser, meets_both}
use Rattle.cert_types.specs.Fresh.{is_fresh_line}
use Rattle.std.proofs.Common.{ap, ◌∙◌}
use Rattle.cert_types.proofs.LineLemmas.{first-both}
use Rattle.cert_types.proofs.laws.prove_first_invalid_line.Goals as goal

pub returns-clause-proof : goal.returns-clause-proof
returns-clause-proof c vars clauses place lines = first-both (line_follows vars) is_empty_iff_last clauses place lines

pub returns-clause-receipt : goal.returns-clause-receipt
returns-clause-receipt c vars clauses place lines =
    first-both (line_follows vars) (meets_both has_literal is_fresh_line) clauses place lines
    ∙ ap (lesser (first_line (line_follows vars) clauses place lines)) (first-both has_literal is_fresh_line clauses place lines)
