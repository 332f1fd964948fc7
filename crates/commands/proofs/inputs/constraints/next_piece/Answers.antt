use Rattle.commands.proofs.TextReading.{has-ended}
use Rattle.commands.proofs.CallLemmas.{piece-stops}
use Rattle.commands.proofs.inputs.constraints.next_piece.Goals as goal

pub returns-in-Ok-clause-ended : goal.returns-in-Ok-clause-ended
returns-in-Ok-clause-ended g c = λ none.
    has-ended (g.F.Folder.left c.args.folder.now) (g.F.Folder.left c.piece.new.self) c.piece.new.into.items c.in-Ok.field-0 c.in-Ok.ensures.modelled none

pub returns-in-Err-clause-called : goal.returns-in-Err-clause-called
returns-in-Err-clause-called g c = rw c.stop_of.ensures (piece-stops c.args.input c.in-Err.why _ _ c.in-Err.ensures.called)
