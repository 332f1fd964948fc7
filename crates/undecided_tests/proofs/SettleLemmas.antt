-- What settling a step needs, and what it leads to.
use Rattle.std.proofs.Common.{◌≡◌, ◌≤◌, ◌-◌, ◌∙◌, ℕ, zero, suc, true, if◌then◌else◌, List, length, Option, Some, None, is_none, option_map, refl, sym, ap, subst, arith}
use Rattle.std.specs.Prelude.{MatchOption, Result, Ok, Err, []}
use Rattle.std.specs.Option.{option_map_or}
use Rattle.std.proofs.lemmas.Option.{slice_get_within}
use Rattle.pack_defs.specs.Book.{BookView}
use Rattle.rup_check.specs.declared.line.Log.{Log}
use Rattle.cert_types.specs.Outside.{IsOutsideProof, outside_fault}
use Rattle.cert_types.specs.declared.answer.CertifyWhy.{CertifyWhy}
use Rattle.cert_types.specs.declared.answer.CertifyWhy.TheVariants.{Rejected, NoMemory as NoSpace}
use Rattle.cert_types.specs.declared.answer.Place.{Place}
use Rattle.cert_types.specs.declared.outside.OutsideProof.{OutsideProof}
use Rattle.cert_types.specs.declared.task.Task.{Task}
use Rattle.cert_types.specs.Certificate.{ReportsPlace}
use Rattle.cert_types.proofs.Outsiders.{means-outside, outside-means}
use Rattle.auction_core.specs.Backed.{is_undecided}
use Rattle.auction_core.specs.State.{test_of, test_task}
use Rattle.auction_core.specs.declared.record.Record.{Record}
use Rattle.auction_core.specs.declared.record.Step.{Step}
use Rattle.lrat_text.specs.Read.{log_of}
use Rattle.lrat_text.specs.declared.error.LratErr.{LratErr}
use Rattle.lrat_text.specs.declared.error.LratErr.TheVariants.{Truncated, BadLine, RatStep, NoMemory as NoRoom}
use Rattle.lrat_text.specs.Steps.{LogFails as NotRead}
use Rattle.auction_core.specs.LogNumbers.{clauses_in}
use Rattle.undecided_tests.specs.Cut.{up_to_empty}
use Rattle.undecided_tests.specs.Queries.{state_before, step_numbered, task_at}
use Rattle.undecided_tests.specs.Settled.{IsLeftOpen, RefutesStep, settled_by}
use Rattle.undecided_tests.specs.Settling.{SettleFails, cut_proof, rejected_error, set_of_step, settled_log, settled_or, settled_text, unread_error}
use Rattle.undecided_tests.specs.declared.settle.SettleErr.TheVariants.{NoRefutation}

-- ---- the step

-- A step that exists has a number from 1 to the number of steps.
pub step-there : (steps : List Step) (step : ℕ) (x : Step) → step_numbered steps step ≡ Some x → (1 ≤ step) × (step ≤ length steps)
step-there steps zero x e = cc
step-there steps (suc i) x e = let within = slice_get_within steps i x e in (omega arith, omega arith)

some-match : {A : Type 0} (o : Option A) (P : A → Type 0) → MatchOption o ⊥ P → (x : A) × (o ≡ Some x)
some-match None P h = absurd h
some-match (Some x) P h = (x, refl)

pub open-there : (rec : Record) (step : ℕ) → IsLeftOpen rec step → (1 ≤ step) × (step ≤ length rec.steps)
open-there rec step h =
    let found = some-match (step_numbered rec.steps step) (λ x. is_undecided x.shown ≡ true) h in
    step-there rec.steps step found.0 found.1

-- ---- the set

pub task-set : (book : BookView) (rec : Record) (step : ℕ) (task : Task) → task_at book rec step ≡ Some task → set_of_step book rec step ≡ task.set
task-set book rec step task e = ap (λ o. option_map_or (λ (t : Task). t.set) o []) e

pub proof-refutes : (book : BookView) (rec : Record) (step : ℕ) (task : Task) (proof : OutsideProof) → task_at book rec step ≡ Some task → IsOutsideProof book task.set proof → RefutesStep book rec step proof
proof-refutes book rec step task proof e h = subst (λ o. MatchOption o ⊥ (λ t. IsOutsideProof book t.set proof)) (sym e) h

-- ---- the log

-- The log that was read is over the clauses of the task's set.
read-so : (book : BookView) (rec : Record) (step : ℕ) (task : Task) (text : List ℕ) (r : Result Log LratErr) → task_at book rec step ≡ Some task → log_of text (clauses_in book task.set) ≡ r → settled_text book rec step text ≡ settled_log book rec step r
unfolding settled_text
read-so book rec step task text r e is = ap (settled_log book rec step) (ap (λ s. log_of text (clauses_in book s)) (task-set book rec step task e) ∙ is)

-- The lines refute the set.
pub settled-so : (book : BookView) (rec : Record) (step : ℕ) (task : Task) (text : List ℕ) (log : Log) → task_at book rec step ≡ Some task → log_of text (clauses_in book task.set) ≡ Ok log
    → IsOutsideProof book task.set (cut_proof log) → settled_text book rec step text ≡ Ok (settled_by rec step (cut_proof log))
settled-so book rec step task text log e is h =
    let proof : OutsideProof = cut_proof log in
    let none : outside_fault book (set_of_step book rec step) (up_to_empty log.lines) ≡ None =
    ap (λ s. outside_fault book s (up_to_empty log.lines)) (task-set book rec step task e) ∙ means-outside book task.set proof h in
    read-so book rec step task text (Ok log) e is ∙ ap (λ o. if is_none o then Ok (settled_by rec step proof) else Err NoRefutation) none

-- The lines do not refute the set, or memory ran out.
pub refused-so : (book : BookView) (rec : Record) (step : ℕ) (task : Task) (text : List ℕ) (log : Log) (why : CertifyWhy) → task_at book rec step ≡ Some task → log_of text (clauses_in book task.set) ≡ Ok log
    → ReportsPlace why (outside_fault book task.set (up_to_empty log.lines)) → SettleFails (rejected_error why) (settled_text book rec step text)
refused-so book rec step task text log (Rejected place) e is h =
    let proof : OutsideProof = cut_proof log in
    let some : outside_fault book (set_of_step book rec step) (up_to_empty log.lines) ≡ Some place =
    ap (λ s. outside_fault book s (up_to_empty log.lines)) (task-set book rec step task e) ∙ h in
    read-so book rec step task text (Ok log) e is ∙ ap (λ o. if is_none o then Ok (settled_by rec step proof) else Err NoRefutation) some
refused-so book rec step task text log NoSpace e is h = tt

-- The text is not a log.
pub unread-so : (book : BookView) (rec : Record) (step : ℕ) (task : Task) (text : List ℕ) (why : LratErr) → task_at book rec step ≡ Some task → NotRead why (log_of text (clauses_in book task.set)) → SettleFails (unread_error why) (settled_text book rec step text)
unread-so book rec step task text Truncated e is = read-so book rec step task text (Err Truncated) e is
unread-so book rec step task text (BadLine n) e is = read-so book rec step task text (Err (BadLine n)) e is
unread-so book rec step task text (RatStep n) e is = read-so book rec step task text (Err (RatStep n)) e is
unread-so book rec step task text NoRoom e is = tt

-- ---- what a text settles

-- A proof that refutes the set settles the step.
settled-or : (book : BookView) (rec : Record) (step : ℕ) (proof : OutsideProof) → IsOutsideProof book (set_of_step book rec step) proof → settled_or book rec step proof ≡ Ok (settled_by rec step proof)
settled-or book rec step proof h =
    ap (λ o. if is_none o then Ok (settled_by rec step proof) else Err NoRefutation) (means-outside book (set_of_step book rec step) proof h)

pub where-settled : (book : BookView) (rec : Record) (step : ℕ) (text : List ℕ) (log : Log) → log_of text (clauses_in book (set_of_step book rec step)) ≡ Ok log → IsOutsideProof book (set_of_step book rec step) (cut_proof log) → settled_text book rec step text ≡ Ok (settled_by rec step (cut_proof log))
unfolding settled_text
where-settled book rec step text log is h = ap (settled_log book rec step) is ∙ settled-or book rec step (cut_proof log) h

-- Only such a proof settles the step.
or-settled : (book : BookView) (rec new : Record) (step : ℕ) (proof : OutsideProof) → settled_or book rec step proof ≡ Ok new → IsOutsideProof book (set_of_step book rec step) proof × (new ≡ settled_by rec step proof)
or-settled book rec new step proof e = go (outside_fault book (set_of_step book rec step) proof.log.lines) refl e
  where
    go : (o : Option Place) → outside_fault book (set_of_step book rec step) proof.log.lines ≡ o → (if is_none o then Ok (settled_by rec step proof) else Err NoRefutation) ≡ Ok new → IsOutsideProof book (set_of_step book rec step) proof × (new ≡ settled_by rec step proof)
    go None is f = (outside-means book (set_of_step book rec step) proof is, cc)
    go (Some place) is f = cc

-- What is known of a text that settled a step.
pub record IsSaid (book : BookView) (rec new : Record) (step : ℕ) (text : List ℕ) : Type 0 where
  pub log : Log
  pub read : log_of text (clauses_in book (set_of_step book rec step)) ≡ Ok log
  pub refutes : IsOutsideProof book (set_of_step book rec step) (cut_proof log)
  pub same : new ≡ settled_by rec step (cut_proof log)

pub settled-said : (book : BookView) (rec new : Record) (step : ℕ) (text : List ℕ) → settled_text book rec step text ≡ Ok new → IsSaid book rec new step text
unfolding settled_text
settled-said book rec new step text e = go (log_of text (clauses_in book (set_of_step book rec step))) refl e
  where
    go : (r : Result Log LratErr) → log_of text (clauses_in book (set_of_step book rec step)) ≡ r → settled_log book rec step r ≡ Ok new → IsSaid book rec new step text
    go (Ok log) is f = let both = or-settled book rec new step (cut_proof log) f in record { log = log; read = is; refutes = both.0; same = both.1 }
    go (Err why) is f = cc

-- If the step exists, its set is that of its query.
pub said-refutes : (book : BookView) (rec : Record) (step : ℕ) (proof : OutsideProof) (x : Step) → step_numbered rec.steps step ≡ Some x → IsOutsideProof book (set_of_step book rec step) proof → RefutesStep book rec step proof
said-refutes book rec step proof x there h = go (step_numbered rec.steps step) there h
  where
    go : (o : Option Step) → o ≡ Some x
        → IsOutsideProof book (option_map_or (λ (t : Task). t.set) (option_map (λ (y : Step). test_task rec.scenario book (state_before rec step) (test_of y)) o) []) proof
        → MatchOption (option_map (λ (y : Step). test_task rec.scenario book (state_before rec step) (test_of y)) o) ⊥ (λ t. IsOutsideProof book t.set proof)
    go None is k = cc
    go (Some y) is k = k
