-- The first invalid move is the first of the rest, in the map that the moves before the rest leave.
use Rattle.std.proofs.Common.{◌≡◌, ◌+◌, drop}
use Rattle.cert_types.specs.Moves.{first_move, start_map}
use Rattle.cert_types.proofs.moves.first_move.Given as goal

abbrev pub invariant-loop-i : goal.invariant-loop-i
invariant-loop-i l = record {
  of_book : l.book ≡ l.map.book;
  rest : first_move l.book l.map.entries (l.i + 1) (drop l.i l.moves) ≡ first_move l.book (start_map l.book l.task.last l.task.set) 1 l.moves;
}
