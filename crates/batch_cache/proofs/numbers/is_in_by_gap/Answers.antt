use Rattle.std.proofs.Common.{◌∙◌, ap, sym}
use Rattle.std.specs.Prelude.{is_ok}
use Rattle.pack_defs.proofs.Searches.{found-number}
use Rattle.batch_cache.proofs.GapLemmas.{gap-tells}
use Rattle.batch_cache.proofs.numbers.is_in_by_gap.Goals as goal

pub returns-then-has_gap : goal.returns-then-has_gap
returns-then-has_gap c = sym (gap-tells c.args.numbers.now c.args.gap.now c.args.number c.requires (sym c.has_gap.ensures ∙ c.if-has_gap.true))

pub returns-in-Err : goal.returns-in-Err
returns-in-Err c =
    ap is_ok (sym c.in-Err.is)
    ∙ found-number c.args.numbers.now c.args.number c.binary_search.result c.binary_search.ensures.bound c.binary_search.ensures.position c.requires
