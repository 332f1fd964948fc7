-- For `laws`: what a valid answer shows.
use Rattle.std.proofs.Common.{◌≡◌, ℕ, ◌+◌, Bool, true, false, not, ◌&&◌, if◌then◌else◌, List, [], ◌∷◌, ◌++◌, length, Option, Some, None, option_map, is_none, refl, ◌∙◌, nat_lt, nat_le}
use Rattle.std.proofs.lemmas.Bool.{and_parts, not-true}
use Rattle.clause_db.specs.declared.lit.Lit.{Lit}
use Rattle.clause_db.specs.Clause.{is_empty_clause}
use Rattle.pack_defs.specs.Book.{BookView}
use Rattle.pack_defs.specs.declared.worker.Worker.{Worker}
use Rattle.pack_defs.specs.Lists.{is_empty}
use Rattle.pack_defs.specs.ChannelMap.{overlaid}
use Rattle.assign_check.specs.Fault.{first_fault, IsCleanOn}
use Rattle.assign_check.proofs.Faultless.{clean-on}
use Rattle.cnf_encode.specs.Formula.{packing_formula, variables_in}
use Rattle.rup_check.specs.declared.line.Line.{Line}
use Rattle.rup_check.specs.Follows.{line_fault, lines_fault, ends_empty}
use Rattle.rup_check.proofs.Reading.{line-passed, no-lines}
use Rattle.cert_types.specs.declared.task.Task.{Task}
use Rattle.cert_types.specs.declared.answer.Answer.TheVariants.{Refuted}
use Rattle.cert_types.specs.declared.answer.Refutation.{Refutation}
use Rattle.cert_types.specs.declared.answer.Refutation.TheVariants.{Proof, Dead}
use Rattle.cert_types.specs.declared.answer.Place.{Place}
use Rattle.cert_types.specs.declared.answer.Place.TheVariants.{Kind, Count, Subset, PairOf, LineAt}
use Rattle.cert_types.specs.FirstLine.{first_line}
use Rattle.cert_types.specs.Refutes.{Refutes, ByLog, ByPair, is_dead, is_subset, is_proof_line}
use Rattle.cert_types.specs.Valid.{answer_fault, fit_fault, place_of, unless}
use Rattle.pack_defs.specs.Scenario.{learns}
use Rattle.pack_defs.proofs.Words.{mapped-none}

pub unless-parts : (b : Bool) (place : Place) (rest : Option Place) → unless b place rest ≡ None → (b ≡ true) × (rest ≡ None)
unless-parts true place rest e = (refl, e)
unless-parts false place rest e = cc

pub none_is : {A : Type 0} (o : Option A) → is_none o ≡ true → o ≡ None
none_is None e = refl
none_is (Some x) e = cc

pub if_none : (b : Bool) (rest : Option ℕ) (place : ℕ) → (if b then rest else Some place) ≡ None → (b ≡ true) × (rest ≡ None)
if_none true rest place e = (refl, e)
if_none false rest place e = cc

goes-on : (b c : Bool) → b ≡ false → c ≡ true → (if b then false else c) ≡ true
goes-on true c e f = cc
goes-on false c e f = f

-- a log that passes the test of each line follows, and only its last line is empty
pub proof-follows : (vars : ℕ) (clauses : List (List Lit)) (place : ℕ) (lines : List Line) → is_empty lines ≡ false → first_line (is_proof_line vars) clauses place lines ≡ None → (lines_fault vars clauses place lines ≡ None) × (ends_empty lines ≡ true)
proof-follows vars clauses place [] n e = cc
proof-follows vars clauses place (line ∷ []) n e =
    let test = if_none (is_proof_line vars clauses line []) None place e in
    let parts = and_parts (is_none (line_fault vars clauses line)) (is_empty_clause line.lits) test.0 in
    (line-passed vars place clauses line [] (none_is (line_fault vars clauses line) parts.0) ∙ no-lines vars (place + 1) (clauses ++ line.lits ∷ []), parts.1)
proof-follows vars clauses place (line ∷ next ∷ lines) n e =
    let test = if_none (is_proof_line vars clauses line (next ∷ lines)) (first_line (is_proof_line vars) (clauses ++ line.lits ∷ []) (place + 1) (next ∷ lines)) place e in
    let parts = and_parts (is_none (line_fault vars clauses line)) (not (is_empty_clause line.lits)) test.0 in
    let rest = proof-follows vars (clauses ++ line.lits ∷ []) (place + 1) (next ∷ lines) refl test.1 in (
      line-passed vars place clauses line (next ∷ lines) (none_is (line_fault vars clauses line) parts.0) ∙ rest.0,
      goes-on (is_empty_clause line.lits) (ends_empty (next ∷ lines)) (not-true (is_empty_clause line.lits) parts.1) rest.1,
    )

pub some_line : (lines : List Line) → nat_lt 0 (length lines) ≡ true → is_empty lines ≡ false
some_line [] h = cc
some_line (l ∷ ls) h = refl

-- the first line of a log over a subset that is not one of a proof
abbrev pub proof_line : BookView → List ℕ → List Line → Option ℕ
proof_line book subset lines = first_line (is_proof_line (variables_in book subset)) (packing_formula book subset) 1 lines

-- a valid refutation refutes the task's set
pub valid-refutes : (book : BookView) (task : Task) (worker : Worker) (how : Refutation) → answer_fault book task worker (Refuted how) ≡ None → Refutes book task.set
unfolding answer_fault
valid-refutes book task worker (Proof subset log) e =
    let counted : Bool = nat_lt 0 (length log.lines) && nat_le (length log.lines) worker.budget in
    let kind = unless-parts (learns worker.kind) Kind (unless counted Count (unless (is_subset subset task.set) Subset (option_map LineAt (proof_line book subset log.lines)))) e in
    let count = unless-parts counted Count (unless (is_subset subset task.set) Subset (option_map LineAt (proof_line book subset log.lines))) kind.1 in
    let sub = unless-parts (is_subset subset task.set) Subset (option_map LineAt (proof_line book subset log.lines)) count.1 in
    let some = and_parts (nat_lt 0 (length log.lines)) (nat_le (length log.lines) worker.budget) count.0 in
    let both = proof-follows (variables_in book subset) (packing_formula book subset) 1 log.lines (some_line log.lines some.0) (mapped-none LineAt (proof_line book subset log.lines) sub.1) in
    ByLog subset log.lines sub.0 both.0 both.1
valid-refutes book task worker (Dead p) e = ByPair p (unless-parts (is_dead book task.set p) (PairOf p) None e).0

-- a valid fit leaves a clean map of exactly the task's set
pub fit-clean : (book : BookView) (task : Task) (delta : List (ℕ × ℕ)) → fit_fault book task delta ≡ None → IsCleanOn book task.set (overlaid task.last delta)
fit-clean book task delta e =
    clean-on book task.set (overlaid task.last delta) (mapped-none place_of (first_fault book task.set (overlaid task.last delta)) e)
