use Rattle.std.proofs.Common.{◌∙◌, sym}
use Rattle.batch_cache.proofs.GapLemmas.{lacks-one}
use Rattle.batch_cache.proofs.signed_set.SignedSet.has_all_covered.Goals as goal

pub returns-then-lacks : goal.returns-then-lacks
returns-then-lacks c =
    sym (lacks-one c.args.self.now c.args.others.now c.args.witness.now.place (sym c.lacks.ensures ∙ c.if-lacks.true))
