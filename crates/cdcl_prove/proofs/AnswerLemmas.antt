-- For `answers`: the answers that a search ends with are valid.
use Rattle.std.proofs.Common.{◌≡◌, ℕ, ◌+◌, ◌<◌, true, false, ◌==◌, List, [], ◌∷◌, ◌++◌, map, length, None, refl, sym, ap, ◌∙◌, subst, arith, append_assoc, length-append, eq-eqb}
use Rattle.std.specs.List.{list_all}
use Rattle.std.proofs.lemmas.Bool.{and_from, or_left, or_right, cond-false}
use Rattle.clause_db.specs.declared.lit.Lit.{Lit}
use Rattle.clause_db.specs.Clause.{is_empty_clause}
use Rattle.clause_db.specs.Clauses.{Clauses}
use Rattle.pack_defs.specs.Book.{BookView}
use Rattle.pack_defs.specs.ChannelMap.{overlaid}
use Rattle.pack_defs.specs.Lists.{is_in}
use Rattle.pack_defs.specs.Packing.{IsPacking, IsClean}
use Rattle.pack_defs.specs.declared.worker.Worker.{Worker}
use Rattle.assign_check.proofs.Faultless.{on-stations}
use Rattle.cnf_encode.specs.Formula.{packing_formula, variables_in}
use Rattle.rup_check.specs.declared.line.Line.{Line}
use Rattle.rup_check.specs.declared.line.Log.{Log}
use Rattle.rup_check.specs.Follows.{line_fault, lines_fault, Follows, ends_empty, clauses_before}
use Rattle.rup_check.proofs.Reading.{line-passed, no-lines}
use Rattle.cert_types.specs.declared.task.Task.{Task}
use Rattle.cert_types.specs.declared.answer.Answer.TheVariants.{Fit, Refuted, Spent}
use Rattle.cert_types.specs.declared.answer.Refutation.TheVariants.{Proof}
use Rattle.cert_types.specs.declared.answer.Receipt.TheVariants.{Lines}
use Rattle.cert_types.specs.Refutes.{is_subset}
use Rattle.cert_types.specs.Spent.{AreSpentLines}
use Rattle.cert_types.specs.Valid.{IsValid}
use Rattle.pack_defs.specs.Scenario.{learns}
use Rattle.cert_types.proofs.Meaning.{means-fit, means-proof, means-lines}
use Rattle.cdcl_prove.specs.Formulas.{IsFormulaOf}
use Rattle.cdcl_prove.proofs.Following.{append-nil}

-- ---- a fit

pub fit-valid : (book : BookView) (task : Task) (worker : Worker) (map' d : List (ℕ × ℕ)) → IsPacking book task.set map' → overlaid task.last d ≡ map' → IsValid book task worker (Fit d)
fit-valid book task worker map' d p e = means-fit book task worker d (on-stations book task.set (overlaid task.last d) (subst (λ (m : List (ℕ × ℕ)). map (λ (x : ℕ × ℕ). x.0) m ≡ task.set) (sym e) p.stations) (subst (λ (m : List (ℕ × ℕ)). IsClean book m) (sym e) p.clean))

-- ---- a refutation

lines-follow : (vars : ℕ) (clauses : List (List Lit)) (place : ℕ) (lines : List Line) (line : Line) → AreSpentLines vars clauses lines → line_fault vars (clauses_before clauses lines) line ≡ None → lines_fault vars clauses place (lines ++ line ∷ []) ≡ None
lines-follow vars clauses place [] line a f =
    line-passed vars place clauses line [] (subst (λ (z : List (List Lit)). line_fault vars z line ≡ None) (append-nil clauses) f) ∙ no-lines vars (place + 1) (clauses ++ line.lits ∷ [])
lines-follow vars clauses place (x ∷ xs) line a f =
    line-passed vars place clauses x (xs ++ line ∷ []) a.0.follows
    ∙ lines-follow vars (clauses ++ x.lits ∷ []) (place + 1) xs line a.1 (subst (λ (z : List (List Lit)). line_fault vars z line ≡ None) (sym (append_assoc clauses (x.lits ∷ []) (map (λ (l : Line). l.lits) xs))) f)

lines-end : (vars : ℕ) (clauses : List (List Lit)) (lines : List Line) (line : Line) → AreSpentLines vars clauses lines → is_empty_clause line.lits ≡ true → ends_empty (lines ++ line ∷ []) ≡ true
lines-end vars clauses [] line a e = e
lines-end vars clauses (x ∷ xs) line a e = step xs (lines-end vars (clauses ++ x.lits ∷ []) xs line a.1 e)
  where
    step : (ys : List Line) → ends_empty (ys ++ line ∷ []) ≡ true → ends_empty (x ∷ (ys ++ line ∷ [])) ≡ true
    step [] h = cond-false (is_empty_clause x.lits) false (ends_empty (line ∷ [])) a.0.some_lit ∙ h
    step (y ∷ ys) h = cond-false (is_empty_clause x.lits) false (ends_empty (y ∷ (ys ++ line ∷ []))) a.0.some_lit ∙ h

pub proof-valid : (book : BookView) (task : Task) (worker : Worker) (subset : List ℕ) (formula : Clauses) (lines : List Line) (line : Line) (log : Log) → learns worker.kind ≡ true → IsFormulaOf book subset formula → is_subset subset task.set ≡ true → AreSpentLines formula.vars formula.list lines → line_fault formula.vars (clauses_before formula.list lines) line ≡ None → is_empty_clause line.lits ≡ true → length lines < worker.budget → log.lines ≡ lines ++ line ∷ [] → IsValid book task worker (Refuted (Proof subset log))
proof-valid book task worker subset formula lines line log learner of sub a f e few is =
    let n = length-append lines (line ∷ []) in
    let m = ap (λ (z : List Line). length z) is in
    let whole : Follows formula.vars formula.list (lines ++ line ∷ []) = lines-follow formula.vars formula.list 1 lines line a f in
    let whole2 : Follows (variables_in book subset) (packing_formula book subset) (lines ++ line ∷ []) = subst (λ v. Follows v (packing_formula book subset) (lines ++ line ∷ [])) of.vars (subst (λ (z : List (List Lit)). Follows formula.vars z (lines ++ line ∷ [])) of.list whole) in
    means-proof book task worker subset log (record {
      by_learner = learner;
      some_line = omega arith;
      within_budget = omega arith;
      of_subset = sub;
      follows = subst (λ (z : List Line). Follows (variables_in book subset) (packing_formula book subset) z) (sym is) whole2;
      ends = subst (λ (z : List Line). ends_empty z ≡ true) (sym is) (lines-end formula.vars formula.list lines line a e);
    })

all-in : (xs set : List ℕ) → ((s : ℕ) → is_in xs s ≡ true → is_in set s ≡ true) → list_all (is_in set) xs ≡ true
all-in [] set f = refl
all-in (x ∷ xs) set f = and_from (is_in set x) (list_all (is_in set) xs) (f x (or_left (x == x) (is_in xs x) (eq-eqb x x refl))) (all-in xs set (λ s h. f s (or_right (x == s) (is_in xs s) h)))

-- ---- a receipt

pub receipt-valid : (book : BookView) (task : Task) (worker : Worker) (formula : Clauses) (lines : List Line) (log : Log) → learns worker.kind ≡ true → IsFormulaOf book task.set formula → AreSpentLines formula.vars formula.list lines → length lines ≡ worker.budget → log.lines ≡ lines → IsValid book task worker (Spent (Lines log))
receipt-valid book task worker formula lines log learner of a n is =
    let over : AreSpentLines (variables_in book task.set) (packing_formula book task.set) lines = subst (λ v. AreSpentLines v (packing_formula book task.set) lines) of.vars (subst (λ (z : List (List Lit)). AreSpentLines formula.vars z lines) of.list a) in
    means-lines book task worker log (record {
      by_learner = learner;
      whole_budget = ap (λ (z : List Line). length z) is ∙ n;
      spent = subst (λ (z : List Line). AreSpentLines (variables_in book task.set) (packing_formula book task.set) z) (sym is) over;
    })
