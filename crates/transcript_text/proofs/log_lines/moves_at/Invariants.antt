use Rattle.std.proofs.Common.{◌≡◌, ◌-◌}
use Rattle.transcript_text.specs.LogLines.{moves_at}
use Rattle.transcript_text.proofs.Fronts.{in_front}
use Rattle.transcript_text.proofs.log_lines.moves_at.Given as goal

abbrev pub invariant-loop-i : goal.invariant-loop-i
invariant-loop-i l = in_front l.moves.items (moves_at l.sc (l.count - l.i) l.rest) ≡ moves_at l.sc l.count l.fn.lines
