use Rattle.cert_types.proofs.QueryLaws.{query-task}
use Rattle.race_wave.proofs.cached.answer_in.Goals as goal

pub answer-requires : goal.answer-requires
answer-requires c = query-task c.args.book.now c.args.task.now c.requires
