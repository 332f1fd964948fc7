use Rattle.std.proofs.Common.{List, ℕ, sym, subst}
use Rattle.walk_repack.specs.WalkState.{AreOnDomains}
use Rattle.cert_types.proofs.QueryLaws.{query-task}
use Rattle.walk_repack.proofs.AnswerLemmas.{query-starts}
use Rattle.walk_repack.proofs.walk.begin.Goals as goal

pub start_map-requires : goal.start_map-requires
start_map-requires c = query-task c.args.book.now c.args.task.now c.requires

pub new-requires-clause-on_domains : goal.new-requires-clause-on_domains
new-requires-clause-on_domains c =
    subst (λ (es : List (ℕ × ℕ)). AreOnDomains c.args.book.now es) (sym c.in_ok-entries.ensures.map) (query-starts c.args.book.now c.args.task.now c.requires)
