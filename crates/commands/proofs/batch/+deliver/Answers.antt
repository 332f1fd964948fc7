-- The text was not stored.
use Rattle.std.proofs.Common.{inr}
use Rattle.commands.proofs.batch.+deliver.Goals as goal

pub returns-in-Err-store-clause-delivers : goal.returns-in-Err-store-clause-delivers
returns-in-Err-store-clause-delivers g t c =
    rw (c.in-Some.ensures.cases.0, c.in-Some-split_first.ensures.cases.0, c.in-Some-text.is)
    (inr (rw (c.result.ensures, c.deref.ensures.value) at c.in-Err-store.ensures.not_stored))
