-- The tests that a search makes before it checks an answer.
use Rattle.std.specs.Prelude.{ℕ, Bool, true, ◌&&◌, nat_le, nat_lt, cond, List, [], ◌∷◌, length, Option, Some, None}
use Rattle.std.specs.List.{list_all}
use Rattle.pack_defs.specs.Book.{BookView}
use Rattle.pack_defs.specs.Lists.{is_in}
use Rattle.pack_defs.specs.declared.worker.Worker.{Worker}
use Rattle.rup_check.specs.declared.line.Line.{Line}
use Rattle.cert_types.specs.declared.answer.Answer.{Answer}
use Rattle.cert_types.specs.declared.answer.Answer.TheVariants.{Fit, Refuted}
use Rattle.cert_types.specs.declared.answer.Refutation.{Refutation}
use Rattle.cert_types.specs.declared.answer.Refutation.TheVariants.{Proof, Dead}
use Rattle.cert_types.specs.declared.task.Task.{Task}
use Rattle.pack_defs.specs.Scenario.{learns}
use Rattle.batch_cache.specs.declared.key.Key.{Key}
use Rattle.batch_cache.specs.declared.search.FoundAnswer.{FoundAnswer}
use Rattle.batch_cache.specs.Answering.{is_valid, restrict_to}

-- The stations that a refutation names.
abbrev pub named_stations : Refutation → List ℕ
named_stations (Proof subset log) = subset
named_stations (Dead p) = p.f ∷ p.g ∷ []

-- Whether the worker learns lines, and its budget covers these.
abbrev pub learns_within : Worker → List Line → Bool
learns_within worker lines = learns worker.kind && (nat_lt 0 (length lines) && nat_le (length lines) worker.budget)

-- Whether the worker may answer with the refutation.
abbrev pub may_be_of : Worker → Refutation → Bool
may_be_of worker (Proof subset log) = learns_within worker log.lines
may_be_of worker (Dead p) = true

-- Whether the refutation may be valid for this set and worker.
abbrev pub may_answer : List ℕ → Worker → Refutation → Bool
may_answer set worker refutation = may_be_of worker refutation && list_all (is_in set) (named_stations refutation)

-- The answer, if it is valid.
abbrev pub when_valid : BookView → Task → Worker → Answer → Option Answer
when_valid book task worker answer = cond (is_valid book task worker answer) (Some answer) None

-- The result of a search, if this map answers.
abbrev pub fit_found : Task → Key × List (ℕ × ℕ) → FoundAnswer
fit_found task e = record { key = e.0; answer = Fit (restrict_to task.set e.1) }

-- The result of a search, if this refutation answers.
abbrev pub refutation_found : Key × Refutation → FoundAnswer
refutation_found e = record { key = e.0; answer = Refuted e.1 }
