-- For `laws::prove_valid_means`: what a valid answer is, in both directions.
use Rattle.std.proofs.Common.{◌≡◌, ℕ, ◌+◌, Bool, true, false, not, ◌==◌, ◌&&◌, if◌then◌else◌, List, [], ◌∷◌, ◌++◌, length, Option, None, option_map, is_none, refl, ap, nat_lt, nat_le, eqb-true, eq-eqb, ltb-true, lt-ltb, leb-true, le-leb}
use Rattle.std.proofs.lemmas.Bool.{and_parts, and_from, not-true, not_from_false}
use Rattle.clause_db.specs.declared.lit.Lit.{Lit}
use Rattle.clause_db.specs.Clause.{is_empty_clause}
use Rattle.pack_defs.specs.declared.pair.Pair.{Pair}
use Rattle.pack_defs.specs.declared.worker.Worker.{Worker}
use Rattle.pack_defs.specs.Book.{BookView}
use Rattle.pack_defs.specs.ChannelMap.{overlaid}
use Rattle.assign_check.specs.Fault.{IsCleanOn}
use Rattle.assign_check.proofs.Faultless.{faultless}
use Rattle.cnf_encode.specs.Formula.{packing_formula, variables_in}
use Rattle.rup_check.specs.declared.line.Line.{Line}
use Rattle.rup_check.specs.declared.line.Log.{Log}
use Rattle.rup_check.specs.Follows.{line_fault, lines_fault, ends_empty}
use Rattle.rup_check.proofs.Sound.{lines-next}
use Rattle.cert_types.specs.declared.task.Task.{Task}
use Rattle.cert_types.specs.declared.answer.Answer.TheVariants.{Fit, Refuted, Spent}
use Rattle.cert_types.specs.declared.answer.Refutation.TheVariants.{Proof, Dead}
use Rattle.cert_types.specs.declared.answer.Receipt.TheVariants.{Lines, Moves}
use Rattle.cert_types.specs.declared.answer.Place.{Place}
use Rattle.cert_types.specs.declared.answer.Place.TheVariants.{Kind, Count, Subset, PairOf, LineAt, MoveAt}
use Rattle.cert_types.specs.FirstLine.{first_line}
use Rattle.cert_types.specs.Spent.{is_spent_line}
use Rattle.cert_types.specs.Refutes.{is_dead, is_subset, is_proof_line}
use Rattle.cert_types.specs.Valid.{answer_fault, place_of, unless, IsValid, IsProof, IsSpentLog, IsSpentWalk}
use Rattle.pack_defs.specs.Scenario.{learns}
use Rattle.cert_types.specs.Moves.{first_move, start_map}
use Rattle.cert_types.proofs.Validity.{unless-parts, fit-clean, proof-follows, proof_line, some_line}
use Rattle.cert_types.proofs.SpentLaws.{is-none, then-none, lines-spent, spent-lines, moves-spent, spent-moves}
use Rattle.pack_defs.proofs.Words.{mapped-none}

pub unless-from : (b : Bool) (place : Place) (rest : Option Place) → b ≡ true → rest ≡ None → unless b place rest ≡ None
unless-from true place rest e f = f
unless-from false place rest e f = cc

pub fit-means : (book : BookView) (task : Task) (worker : Worker) (delta : List (ℕ × ℕ)) → IsValid book task worker (Fit delta) → IsCleanOn book task.set (overlaid task.last delta)
unfolding answer_fault
fit-means book task worker delta e = fit-clean book task delta e

pub means-fit : (book : BookView) (task : Task) (worker : Worker) (delta : List (ℕ × ℕ)) → IsCleanOn book task.set (overlaid task.last delta) → IsValid book task worker (Fit delta)
unfolding answer_fault
means-fit book task worker delta h = ap (option_map place_of) (faultless book task.set (overlaid task.last delta) h)

pub dead-means : (book : BookView) (task : Task) (worker : Worker) (p : Pair) → IsValid book task worker (Refuted (Dead p)) → is_dead book task.set p ≡ true
unfolding answer_fault
dead-means book task worker p e = (unless-parts (is_dead book task.set p) (PairOf p) None e).0

pub means-dead : (book : BookView) (task : Task) (worker : Worker) (p : Pair) → is_dead book task.set p ≡ true → IsValid book task worker (Refuted (Dead p))
unfolding answer_fault
means-dead book task worker p h = unless-from (is_dead book task.set p) (PairOf p) None h refl

open-parts : (b c : Bool) → (if b then false else c) ≡ true → (b ≡ false) × (c ≡ true)
open-parts true c e = cc
open-parts false c e = (refl, e)

-- a log that follows and ends with the empty line passes the test of each line
pub follows-proof : (vars : ℕ) (clauses : List (List Lit)) (place : ℕ) (lines : List Line) → lines_fault vars clauses place lines ≡ None → ends_empty lines ≡ true → first_line (is_proof_line vars) clauses place lines ≡ None
follows-proof vars clauses place [] e f = cc
follows-proof vars clauses place (line ∷ []) e f =
    let parts = lines-next vars clauses place line [] e in
    then-none (is_proof_line vars clauses line []) None place (and_from (is_none (line_fault vars clauses line)) (is_empty_clause line.lits) (is-none (line_fault vars clauses line) parts.0) f) refl
follows-proof vars clauses place (line ∷ next ∷ lines) e f =
    let parts = lines-next vars clauses place line (next ∷ lines) e in
    let ends = open-parts (is_empty_clause line.lits) (ends_empty (next ∷ lines)) f in
    then-none (is_proof_line vars clauses line (next ∷ lines)) (first_line (is_proof_line vars) (clauses ++ line.lits ∷ []) (place + 1) (next ∷ lines)) place
    (and_from (is_none (line_fault vars clauses line)) (not (is_empty_clause line.lits)) (is-none (line_fault vars clauses line) parts.0) (not_from_false (is_empty_clause line.lits) ends.0))
    (follows-proof vars (clauses ++ line.lits ∷ []) (place + 1) (next ∷ lines) parts.1 ends.1)

pub proof-means : (book : BookView) (task : Task) (worker : Worker) (subset : List ℕ) (log : Log) → IsValid book task worker (Refuted (Proof subset log)) → IsProof book task worker subset log.lines
unfolding answer_fault
proof-means book task worker subset log e =
    let lines : List Line = log.lines in
    let counted : Bool = nat_lt 0 (length lines) && nat_le (length lines) worker.budget in
    let kind = unless-parts (learns worker.kind) Kind (unless counted Count (unless (is_subset subset task.set) Subset (option_map LineAt (proof_line book subset lines)))) e in
    let count = unless-parts counted Count (unless (is_subset subset task.set) Subset (option_map LineAt (proof_line book subset lines))) kind.1 in
    let sub = unless-parts (is_subset subset task.set) Subset (option_map LineAt (proof_line book subset lines)) count.1 in
    let some = and_parts (nat_lt 0 (length lines)) (nat_le (length lines) worker.budget) count.0 in
    let both = proof-follows (variables_in book subset) (packing_formula book subset) 1 lines (some_line lines some.0) (mapped-none LineAt (proof_line book subset lines) sub.1) in
    record {
      by_learner = kind.0;
      some_line = ltb-true 0 (length lines) some.0;
      within_budget = leb-true (length lines) worker.budget some.1;
      of_subset = sub.0;
      follows = both.0;
      ends = both.1;
    }

pub means-proof : (book : BookView) (task : Task) (worker : Worker) (subset : List ℕ) (log : Log) → IsProof book task worker subset log.lines → IsValid book task worker (Refuted (Proof subset log))
unfolding answer_fault
means-proof book task worker subset log h =
    let lines : List Line = log.lines in
    let counted : Bool = nat_lt 0 (length lines) && nat_le (length lines) worker.budget in
    unless-from (learns worker.kind) Kind (unless counted Count (unless (is_subset subset task.set) Subset (option_map LineAt (proof_line book subset lines)))) h.by_learner
    (unless-from counted Count (unless (is_subset subset task.set) Subset (option_map LineAt (proof_line book subset lines))) (and_from (nat_lt 0 (length lines)) (nat_le (length lines) worker.budget) (lt-ltb 0 (length lines) h.some_line) (le-leb (length lines) worker.budget h.within_budget))
    (unless-from (is_subset subset task.set) Subset (option_map LineAt (proof_line book subset lines)) h.of_subset
    (ap (option_map LineAt) (follows-proof (variables_in book subset) (packing_formula book subset) 1 lines h.follows h.ends))))

abbrev spent_line : BookView → Task → List Line → Option ℕ
spent_line book task lines = first_line (is_spent_line (variables_in book task.set)) (packing_formula book task.set) 1 lines

pub lines-means : (book : BookView) (task : Task) (worker : Worker) (log : Log) → IsValid book task worker (Spent (Lines log)) → IsSpentLog book task worker log.lines
unfolding answer_fault
lines-means book task worker log e =
    let kind = unless-parts (learns worker.kind) Kind (unless (length log.lines == worker.budget) Count (option_map LineAt (spent_line book task log.lines))) e in
    let count = unless-parts (length log.lines == worker.budget) Count (option_map LineAt (spent_line book task log.lines)) kind.1 in
    record {
      by_learner = kind.0;
      whole_budget = eqb-true (length log.lines) worker.budget count.0;
      spent = lines-spent (variables_in book task.set) (packing_formula book task.set) 1 log.lines (mapped-none LineAt (spent_line book task log.lines) count.1);
    }

pub means-lines : (book : BookView) (task : Task) (worker : Worker) (log : Log) → IsSpentLog book task worker log.lines → IsValid book task worker (Spent (Lines log))
unfolding answer_fault
means-lines book task worker log h =
    unless-from (learns worker.kind) Kind (unless (length log.lines == worker.budget) Count (option_map LineAt (spent_line book task log.lines))) h.by_learner
    (unless-from (length log.lines == worker.budget) Count (option_map LineAt (spent_line book task log.lines)) (eq-eqb (length log.lines) worker.budget h.whole_budget)
    (ap (option_map LineAt) (spent-lines (variables_in book task.set) (packing_formula book task.set) 1 log.lines h.spent)))

abbrev spent_move : BookView → Task → List (ℕ × ℕ) → Option ℕ
spent_move book task moves = first_move book (start_map book task.last task.set) 1 moves

pub moves-means : (book : BookView) (task : Task) (worker : Worker) (moves : List (ℕ × ℕ)) → IsValid book task worker (Spent (Moves moves)) → IsSpentWalk book task worker moves
unfolding answer_fault
moves-means book task worker moves e =
    let kind = unless-parts (not (learns worker.kind)) Kind (unless (length moves == worker.budget) Count (option_map MoveAt (spent_move book task moves))) e in
    let count = unless-parts (length moves == worker.budget) Count (option_map MoveAt (spent_move book task moves)) kind.1 in
    record {
      by_walker = not-true (learns worker.kind) kind.0;
      whole_budget = eqb-true (length moves) worker.budget count.0;
      spent = moves-spent book (start_map book task.last task.set) 1 moves (mapped-none MoveAt (spent_move book task moves) count.1);
    }

pub means-moves : (book : BookView) (task : Task) (worker : Worker) (moves : List (ℕ × ℕ)) → IsSpentWalk book task worker moves → IsValid book task worker (Spent (Moves moves))
unfolding answer_fault
means-moves book task worker moves h =
    unless-from (not (learns worker.kind)) Kind (unless (length moves == worker.budget) Count (option_map MoveAt (spent_move book task moves))) (not_from_false (learns worker.kind) h.by_walker)
    (unless-from (length moves == worker.budget) Count (option_map MoveAt (spent_move book task moves)) (eq-eqb (length moves) worker.budget h.whole_budget)
    (ap (option_map MoveAt) (spent-moves book (start_map book task.last task.set) 1 moves h.spent)))
