-- The first place at which an answer to a query is invalid, and `None` if the answer is valid. The kinds of answers and the order
-- of their faults are this project's own. A proof is one of LRAT (Cruz-Filipe et al. 2017), over the clauses that SATFC uses
-- (Newman, Fréchette, Leyton-Brown 2017).
use Rattle.std.specs.Prelude.{ℕ, Bool, true, false, not, ◌&&◌, ◌==◌, ◌≡◌, nat_lt, nat_le, List, length, Option, Some, None, option_map, ◌<◌, ◌≤◌}
use Rattle.pack_defs.specs.declared.pair.Pair.{Pair}
use Rattle.pack_defs.specs.declared.worker.Worker.{Worker}
use Rattle.pack_defs.specs.Scenario.{learns}
use Rattle.pack_defs.specs.Book.{BookView}
use Rattle.pack_defs.specs.ChannelMap.{overlaid}
use Rattle.assign_check.specs.declared.fault.MapFault.{MapFault}
use Rattle.assign_check.specs.declared.fault.MapFault.TheVariants.{Missing, Extra, OffDomain, Violates}
use Rattle.assign_check.specs.Fault.{first_fault}
use Rattle.cnf_encode.specs.Formula.{packing_formula, variables_in}
use Rattle.rup_check.specs.declared.line.Line.{Line}
use Rattle.rup_check.specs.Follows.{Follows, ends_empty}
use Rattle.cert_types.specs.declared.task.Task.{Task}
use Rattle.cert_types.specs.declared.answer.Answer.{Answer}
use Rattle.cert_types.specs.declared.answer.Answer.TheVariants.{Fit, Refuted, Spent}
use Rattle.cert_types.specs.declared.answer.Refutation.TheVariants.{Proof, Dead}
use Rattle.cert_types.specs.declared.answer.Receipt.TheVariants.{Lines, Moves}
use Rattle.cert_types.specs.declared.answer.Place.{Place}
use Rattle.cert_types.specs.declared.answer.Place.TheVariants.{Kind, Count, Subset, Station, PairOf, LineAt, MoveAt}
use Rattle.cert_types.specs.FirstLine.{first_line}
use Rattle.cert_types.specs.Spent.{is_spent_line, AreSpentLines}
use Rattle.cert_types.specs.Refutes.{is_dead, is_subset, is_proof_line}
use Rattle.cert_types.specs.Moves.{AreSpentMoves, first_move, start_map}

-- The place of a map's fault.
abbrev pub place_of : MapFault → Place
place_of (Missing s) = Station s
place_of (Extra s) = Station s
place_of (OffDomain s) = Station s
place_of (Violates p) = PairOf p

-- The place if the test fails, and otherwise the rest.
abbrev pub unless : Bool → Place → Option Place → Option Place
unless true place rest = rest
unless false place rest = Some place

-- The first fault of the map that a fit leaves: the fit's entries written over the last map.
abbrev pub fit_fault : BookView → Task → List (ℕ × ℕ) → Option Place
fit_fault book task delta = option_map place_of (first_fault book task.set (overlaid task.last delta))

-- The first fault of a log over the clauses of a subset, in this order: the worker's kind, the number of lines, the subset, the
-- first invalid line.
abbrev pub proof_fault : BookView → Task → Worker → List ℕ → List Line → Option Place
proof_fault book task worker subset lines =
    unless (learns worker.kind) Kind
    (unless (nat_lt 0 (length lines) && nat_le (length lines) worker.budget) Count
    (unless (is_subset subset task.set) Subset
    (option_map LineAt (first_line (is_proof_line (variables_in book subset)) (packing_formula book subset) 1 lines))))

-- The fault of a pair that is claimed to be dead.
abbrev pub dead_fault : BookView → Task → Pair → Option Place
dead_fault book task p = unless (is_dead book task.set p) (PairOf p) None

-- The first fault of a receipt of lines, in this order: the worker's kind, the number of lines, the first invalid line.
abbrev pub spent_lines_fault : BookView → Task → Worker → List Line → Option Place
spent_lines_fault book task worker lines =
    unless (learns worker.kind) Kind
    (unless (length lines == worker.budget) Count
    (option_map LineAt (first_line (is_spent_line (variables_in book task.set)) (packing_formula book task.set) 1 lines)))

-- The first fault of a receipt of moves, in this order: the worker's kind, the number of moves, the first invalid move.
abbrev pub spent_moves_fault : BookView → Task → Worker → List (ℕ × ℕ) → Option Place
spent_moves_fault book task worker moves =
    unless (not (learns worker.kind)) Kind
    (unless (length moves == worker.budget) Count
    (option_map MoveAt (first_move book (start_map book task.last task.set) 1 moves)))

-- The first fault of an answer, in the order of the places.
unfoldable pub answer_fault : BookView → Task → Worker → Answer → Option Place
answer_fault book task worker (Fit delta) = fit_fault book task delta
answer_fault book task worker (Refuted (Proof subset log)) = proof_fault book task worker subset log.lines
answer_fault book task worker (Refuted (Dead p)) = dead_fault book task p
answer_fault book task worker (Spent (Lines log)) = spent_lines_fault book task worker log.lines
answer_fault book task worker (Spent (Moves moves)) = spent_moves_fault book task worker moves

-- Whether the answer has no fault.
abbrev pub IsValid : BookView → Task → Worker → Answer → Type 0
IsValid book task worker answer = answer_fault book task worker answer ≡ None

-- ---- the same as plain statements

-- A valid proof: by a worker that learns, with at least one line and at most its budget of lines, over a subset of the query's set.
pub record IsProof (book : BookView) (task : Task) (worker : Worker) (subset : List ℕ) (lines : List Line) : Type 0 where
  pub by_learner : learns worker.kind ≡ true
  pub some_line : 0 < length lines
  pub within_budget : length lines ≤ worker.budget
  pub of_subset : is_subset subset task.set ≡ true
  pub follows : Follows (variables_in book subset) (packing_formula book subset) lines
  pub ends : ends_empty lines ≡ true

-- A valid receipt of lines: by a worker that learns, with exactly its budget of lines, over the query's set.
pub record IsSpentLog (book : BookView) (task : Task) (worker : Worker) (lines : List Line) : Type 0 where
  pub by_learner : learns worker.kind ≡ true
  pub whole_budget : length lines ≡ worker.budget
  pub spent : AreSpentLines (variables_in book task.set) (packing_formula book task.set) lines

-- A valid receipt of moves: by a worker that walks, with exactly its budget of moves, from the start map.
pub record IsSpentWalk (book : BookView) (task : Task) (worker : Worker) (moves : List (ℕ × ℕ)) : Type 0 where
  pub by_walker : learns worker.kind ≡ false
  pub whole_budget : length moves ≡ worker.budget
  pub spent : AreSpentMoves book (start_map book task.last task.set) moves
