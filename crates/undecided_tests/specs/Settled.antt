-- A record of which an undecided test is settled by a proof from outside. That a record may have such proofs is this
-- project's own.
use Rattle.std.specs.Prelude.{ℕ, zero, suc, ◌-◌, ◌==◌, ◌&&◌, ◌≡◌, Bool, true, not, if◌then◌else◌, List, [], ◌∷◌, filter, MatchOption}
use Rattle.pack_defs.specs.Book.{BookView}
use Rattle.pack_defs.specs.ClockRule.{ClockTest}
use Rattle.pack_defs.specs.ResultRows.{Outcome, Start, Exit, Frozen, Undecided, ResultRow}
use Rattle.cert_types.specs.Outside.{IsOutsideProof}
use Rattle.cert_types.specs.declared.outside.OutsideProof.{OutsideProof}
use Rattle.auction_core.specs.Backed.{is_undecided}
use Rattle.auction_core.specs.declared.record.Record.{Record}
use Rattle.auction_core.specs.declared.record.Shown.TheVariants.{Outside}
use Rattle.auction_core.specs.declared.record.Step.{Step}
use Rattle.undecided_tests.specs.Queries.{step_numbered, task_at}

-- These steps, the one at this place (from 0) settled by the proof.
abbrev pub shown_outside : List Step → ℕ → OutsideProof → List Step
shown_outside [] i proof = []
shown_outside (x ∷ xs) zero proof = record x { shown = Outside proof } ∷ xs
shown_outside (x ∷ xs) (suc i) proof = x ∷ shown_outside xs i proof

-- The record, its step with this number (from 1) settled by the proof.
abbrev pub settled_by : Record → ℕ → OutsideProof → Record
settled_by rec step proof = record rec { steps = shown_outside rec.steps (step - 1) proof }

-- Whether the record has a step with this number and the step is undecided.
abbrev pub IsLeftOpen : Record → ℕ → Type 0
IsLeftOpen rec step = MatchOption (step_numbered rec.steps step) ⊥ (λ x. is_undecided x.shown ≡ true)

-- Whether the proof refutes the set of that step's query.
abbrev pub RefutesStep : BookView → Record → ℕ → OutsideProof → Type 0
RefutesStep book rec step proof = MatchOption (task_at book rec step) ⊥ (λ task. IsOutsideProof book task.set proof)

-- ---- what that changes

-- Whether two tests have the same round and the same station.
abbrev pub is_same_test : ClockTest → ClockTest → Bool
is_same_test t u = (u.round == t.round) && (u.station == t.station)

-- These tests without this one.
abbrev pub without_test : ClockTest → List ClockTest → List ClockTest
without_test t tests = filter (λ u. not (is_same_test t u)) tests

-- The outcome, with undecided turned into frozen.
abbrev pub decided : Outcome → Outcome
decided Start = Start
decided Exit = Exit
decided Frozen = Frozen
decided Undecided = Frozen

-- The row of a result; if it is this test's row, undecided is turned into frozen.
abbrev pub decided_row : ClockTest → ResultRow → ResultRow
decided_row t row =
    if (row.round == t.round) && (row.facility == t.station) then record row { outcome = decided row.outcome } else row
