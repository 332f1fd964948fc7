-- For `certify`: what the steps of the check find is the fault that the definition names.
use Rattle.std.proofs.Common.{◌≡◌, ℕ, ◌<◌, ◌≤◌, Bool, true, ◌==◌, ◌&&◌, List, length, Option, option_map, sym, ap, ◌∙◌, nat_lt, nat_le, lt-ltb, le-leb, eq-eqb}
use Rattle.std.specs.List.{list_any}
use Rattle.std.proofs.Math.Bool.{and_assoc}
use Rattle.std.proofs.lemmas.Bool.{and_from}
use Rattle.clause_db.specs.declared.lit.Lit.{Lit}
use Rattle.pack_defs.specs.declared.worker.Worker.{Worker}
use Rattle.pack_defs.specs.declared.pair.Pair.{Pair}
use Rattle.pack_defs.specs.Book.{BookView}
use Rattle.pack_defs.proofs.BookLemmas.{list_any-same}
use Rattle.pack_defs.proofs.Searches.{is_pair}
use Rattle.cnf_encode.specs.Formula.{packing_formula, variables_in}
use Rattle.rup_check.specs.declared.line.Line.{Line}
use Rattle.cert_types.specs.declared.task.Task.{Task}
use Rattle.cert_types.specs.declared.answer.Place.{Place}
use Rattle.cert_types.specs.declared.answer.Place.TheVariants.{Kind, Count, Subset, LineAt}
use Rattle.cert_types.specs.FirstLine.{first_line, line_follows, meets_both, lesser}
use Rattle.cert_types.specs.Refutes.{is_subset, is_proof_line, same_pair}
use Rattle.cert_types.specs.Spent.{is_spent_line}
use Rattle.cert_types.specs.Valid.{proof_fault, spent_lines_fault, unless}
use Rattle.pack_defs.specs.Scenario.{learns}
use Rattle.cert_types.proofs.LineLemmas.{first-both}

-- the lesser of the results of the two scans is the first invalid line
pub first-checked : (other : List (List Lit) → Line → List Line → Bool) (vars vars2 : ℕ) (clauses formula : List (List Lit)) (lines : List Line) (one two both : Option ℕ) → vars ≡ vars2 → clauses ≡ formula → one ≡ first_line (line_follows vars) clauses 1 lines → two ≡ first_line other formula 1 lines → both ≡ lesser one two → both ≡ first_line (meets_both (line_follows vars2) other) formula 1 lines
first-checked other vars vars2 clauses formula lines one two both v f e g h =
    let first : one ≡ first_line (line_follows vars2) formula 1 lines = e ∙ (λ i. first_line (line_follows (v i)) (f i) 1 lines) in
    h ∙ (λ i. lesser (first i) (g i)) ∙ sym (first-both (line_follows vars2) other formula 1 lines)

-- a learner's log of lines within the budget, over a subset: its first invalid line decides
pub proof-counted : (book : BookView) (task : Task) (worker : Worker) (subset : List ℕ) (lines : List Line) → learns worker.kind ≡ true → 0 < length lines → length lines ≤ worker.budget → is_subset subset task.set ≡ true → option_map LineAt (first_line (is_proof_line (variables_in book subset)) (packing_formula book subset) 1 lines) ≡ proof_fault book task worker subset lines
proof-counted book task worker subset lines learner some few sub =
    let rest : Option Place = option_map LineAt (first_line (is_proof_line (variables_in book subset)) (packing_formula book subset) 1 lines) in
    sym (ap (λ (b : Bool). unless b Kind (unless (nat_lt 0 (length lines) && nat_le (length lines) worker.budget) Count (unless (is_subset subset task.set) Subset rest))) learner
    ∙ ap (λ (b : Bool). unless b Count (unless (is_subset subset task.set) Subset rest)) (and_from (nat_lt 0 (length lines)) (nat_le (length lines) worker.budget) (lt-ltb 0 (length lines) some) (le-leb (length lines) worker.budget few))
    ∙ ap (λ (b : Bool). unless b Subset rest) sub)

-- a learner's receipt with as many lines as the budget
pub lines-counted : (book : BookView) (task : Task) (worker : Worker) (lines : List Line) → learns worker.kind ≡ true → length lines ≡ worker.budget → option_map LineAt (first_line (is_spent_line (variables_in book task.set)) (packing_formula book task.set) 1 lines) ≡ spent_lines_fault book task worker lines
lines-counted book task worker lines learner all =
    sym (ap (λ (b : Bool). unless b Kind (unless (length lines == worker.budget) Count (option_map LineAt (first_line (is_spent_line (variables_in book task.set)) (packing_formula book task.set) 1 lines)))) learner
    ∙ ap (λ (b : Bool). unless b Count (option_map LineAt (first_line (is_spent_line (variables_in book task.set)) (packing_formula book task.set) 1 lines))) (eq-eqb (length lines) worker.budget all))

-- the two ways to search a list for a pair agree
pub same-found : (p : Pair) (ps : List Pair) → list_any (is_pair p) ps ≡ list_any (λ q. same_pair q p) ps
same-found p ps = list_any-same (is_pair p) (λ q. same_pair q p) (λ q. sym (and_assoc (q.f == p.f) (q.a == p.a) ((q.g == p.g) && (q.b == p.b)))) ps
