-- The query of a record's step: what its test asked in the state before it. Finding it again from a record is this
-- project's own.
use Rattle.std.specs.Prelude.{ℕ, zero, suc, ◌+◌, ◌-◌, List, take, slice_get, Option, None, option_map}
use Rattle.pack_defs.specs.Book.{BookView}
use Rattle.cert_types.specs.declared.task.Task.{Task}
use Rattle.auction_core.specs.declared.record.Record.{Record}
use Rattle.auction_core.specs.declared.record.Step.{Step}
use Rattle.auction_core.specs.Backed.{after_start, after_steps}
use Rattle.auction_core.specs.Prefix.{queries_taken}
use Rattle.auction_core.specs.State.{CoreState, test_of, test_task}

-- The step with this number, counted from 1, if there is one.
abbrev pub step_numbered : List Step → ℕ → Option Step
step_numbered steps zero = None
step_numbered steps (suc i) = slice_get steps i

-- The steps before the step with this number.
abbrev pub steps_before : Record → ℕ → List Step
steps_before rec step = take (step - 1) rec.steps

-- The state in which that step's test was asked: the state after the start and the steps before it, numbered after
-- the queries that they took.
abbrev pub state_before : Record → ℕ → CoreState
state_before rec step =
    record (after_steps rec.scenario (after_start rec.scenario rec.order rec.start) (steps_before rec step)) {
      number = 1 + queries_taken rec.start (steps_before rec step);
    }

-- The query of that step, if there is such a step.
abbrev pub task_at : BookView → Record → ℕ → Option Task
task_at book rec step = option_map (λ x. test_task rec.scenario book (state_before rec step) (test_of x)) (step_numbered rec.steps step)
