use Rattle.std.proofs.Common.{◌≡◌, ◌≤◌, ◌-◌, length}
use Rattle.walk_repack.proofs.steps.run.Given as goal

abbrev pub invariant-moves : goal.invariant-moves
invariant-moves g l = record {
  book : l.walk_state.book ≡ l.initial.walk_state.book;
  start : l.walk_state.start ≡ l.initial.walk_state.start;
  few : length l.walk_state.moves ≤ l.budget;
  goes : g.P.Poll.goes l.initial.poll l.poll;
}

abbrev pub decreases-moves : goal.decreases-moves
decreases-moves g l = l.budget - length l.walk_state.moves
