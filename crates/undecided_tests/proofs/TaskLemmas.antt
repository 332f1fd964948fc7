-- The query of a step, from the state after the steps before it.
use Rattle.std.proofs.Common.{◌≡◌, ◌∙◌, ℕ, zero, suc, ◌-◌, ◌≤◌, true, List, Some, get_or, length, sym, ap, arith}
use Rattle.std.specs.Prelude.{option_map}
use Rattle.std.proofs.lemmas.Option.{slice_get-get_or}
use Rattle.pack_defs.specs.Book.{BookView}
use Rattle.pack_defs.specs.Lists.{is_in}
use Rattle.pack_defs.specs.Scenario.{facilities}
use Rattle.pack_defs.specs.declared.scenario.Scenario.{Scenario}
use Rattle.pack_defs.proofs.Members.{is_in-from}
use Rattle.cert_types.specs.declared.task.Task.{Task}
use Rattle.auction_core.specs.Backed.{IsBacked}
use Rattle.auction_core.specs.Rule.{IsAuction}
use Rattle.auction_core.specs.State.{CoreState, restricted, test_of, test_task, tested_set}
use Rattle.auction_core.specs.declared.record.Record.{Record}
use Rattle.auction_core.specs.declared.record.Step.{Step}
use Rattle.result_text.proofs.StepLemmas.{backed-next}
use Rattle.undecided_tests.specs.Queries.{state_before, step_numbered, task_at}
use Rattle.undecided_tests.proofs.StepReplayLemmas.{some-step-done}

step-there : (steps : List Step) (step : ℕ) (x : Step) → 1 ≤ step → step ≤ length steps → x ≡ get_or steps (step - 1) x → step_numbered steps step ≡ Some x
step-there steps zero x begins there is = absurd (omega (arith, begins))
step-there steps (suc i) x begins there is =
    let behind : suc i - 1 ≡ i = omega arith in
    slice_get-get_or steps i x (omega (arith, there)) ∙ ap Some (sym (is ∙ ap (λ n. get_or steps n x) behind))

-- The station of a backed record's step is one of the scenario's.
pub known-station : (book : BookView) (rec : Record) (steps : List Step) (step : ℕ) (x : Step) → IsAuction rec.scenario book → IsBacked rec.scenario book rec.order rec → 1 ≤ step → step ≤ length rec.steps → steps ≡ rec.steps → x ≡ get_or steps (step - 1) x → is_in (facilities rec.scenario) x.station ≡ true
known-station book rec steps step x a backed begins there same is =
    let done = some-step-done rec.scenario book rec (omega (arith, begins, there)) backed in
    let long = ap length same in
    let next = backed-next rec.scenario book rec steps (step - 1) x a backed done same (omega (arith, begins, there, long)) is in
    is_in-from (facilities rec.scenario) x.station next.station

-- A query with a test's parts is the test's query.
pub same-task : (sc : Scenario) (book : BookView) (state : CoreState) (x : Step) (number : ℕ) (set : List ℕ) (last entries : List (ℕ × ℕ)) → number ≡ state.number → set ≡ tested_set sc book state.clock x.station → last ≡ restricted entries set → entries ≡ state.map →
    record { number = number; round = x.round; station = Some x.station; set = set; last = last } ≡ test_task sc book state (test_of x)
same-task sc book state x number set last entries number_is set_is last_is entries_are =
    let cut : last ≡ restricted state.map (tested_set sc book state.clock x.station) = last_is ∙ (λ i. restricted (entries_are i) (set_is i)) in
    λ i. record { number = number_is i; round = x.round; station = Some x.station; set = set_is i; last = cut i }

-- The same for the test of a record's step.
pub task-found : (book : BookView) (rec : Record) (steps : List Step) (step : ℕ) (x : Step) (task : Task) → 1 ≤ step → step ≤ length rec.steps → steps ≡ rec.steps → x ≡ get_or steps (step - 1) x → task ≡ test_task rec.scenario book (state_before rec step) (test_of x) → task_at book rec step ≡ Some task
task-found book rec steps step x task begins there same is task_is =
    let own : x ≡ get_or rec.steps (step - 1) x = is ∙ ap (λ (xs : List Step). get_or xs (step - 1) x) same in
    ap (option_map (λ (y : Step). test_task rec.scenario book (state_before rec step) (test_of y))) (step-there rec.steps step x begins there own) ∙ ap Some (sym task_is)
