-- What a status says of the fault counts of the folder and of the sink.
use Rattle.std.specs.Prelude.{ℕ, ◌≡◌, ◌∷◌, [], IsFalse, IsTrue}
use Rattle.pack_defs.specs.Lists.{is_in}
use Rattle.commands.specs.Outside.{Outside}
use Rattle.commands.specs.Statuses.{DONE, LEFT_OPEN, UNREAD, UNWRITTEN, SOME_UNSTARTED}

-- At every status except 3 and 4 the folder's fault count is unchanged, and at 0, 1 and 11 the sink's is too. At other statuses
-- the sink may have failed at a line.
pub record AreFaultsCounted (before after : Outside) (status : ℕ) : Type 0 where
  pub folder : IsFalse (is_in (UNREAD ∷ UNWRITTEN ∷ []) status) → after.faults ≡ before.faults
  pub sink : IsTrue (is_in (DONE ∷ LEFT_OPEN ∷ SOME_UNSTARTED ∷ []) status) → after.sink_faults ≡ before.sink_faults
