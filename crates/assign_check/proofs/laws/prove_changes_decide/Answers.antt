-- By the two lemmas.
use Rattle.pack_defs.specs.ChannelMap.{overlaid}
use Rattle.assign_check.proofs.Changed.{none-changed_violated, none-violated_changed}
use Rattle.assign_check.proofs.laws.prove_changes_decide.Goals as goal

pub returns : goal.returns
returns c book last changes none = (
  (λ e. none-violated_changed book last changes none e),
  (λ e. none-changed_violated book (overlaid last changes) changes e),
)
