-- A step's fault depends on the clock, the map and the steps only, not on the query's number or other fields of the state.
use Rattle.std.proofs.Common.{◌≡◌, ℕ, ◌+◌, ◌==◌, ◌&&◌, if◌then◌else◌, List, [], ◌∷◌, length, Option, Some, None, refl, ap, ap₂}
use Rattle.std.specs.Prelude.{slice_get}
use Rattle.std.specs.Option.{option_map_or}
use Rattle.pack_defs.specs.declared.scenario.Scenario.{Scenario}
use Rattle.pack_defs.specs.declared.worker.Worker.{Worker}
use Rattle.pack_defs.specs.Book.{BookView}
use Rattle.pack_defs.specs.Lists.{is_empty}
use Rattle.pack_defs.specs.ClockRule.{ClockTest}
use Rattle.rup_check.specs.declared.line.Line.{Line}
use Rattle.cert_types.specs.declared.task.Task.{Task}
use Rattle.cert_types.specs.declared.answer.Answer.TheVariants.{Refuted as Refutes, Spent}
use Rattle.cert_types.specs.declared.answer.Receipt.{Receipt}
use Rattle.cert_types.specs.declared.answer.Refutation.{Refutation}
use Rattle.cert_types.specs.declared.answer.Place.{Place}
use Rattle.cert_types.specs.declared.answer.Place.TheVariants.{Kind}
use Rattle.cert_types.specs.Valid.{unless}
use Rattle.auction_core.specs.declared.record.Shown.{Shown}
use Rattle.auction_core.specs.declared.record.Shown.TheVariants.{Empty, Fits, Same, NoChannel, Refuted, Outside, Undecided}
use Rattle.auction_core.specs.State.{CoreState, settled, settled_unasked, test_of, test_task}
use Rattle.auction_core.proofs.Answers.{answer-number}
use Rattle.auction_core.specs.declared.transcript.TranscriptStep.{TranscriptStep}
use Rattle.auction_core.specs.LogNumbers.{clauses_in, first_of}
use Rattle.auction_core.specs.declared.prefix.ShownWhy.TheVariants.{Order}
use Rattle.auction_core.specs.NotShown.{NotShown, or_first_line, first_place_or, each_fault, refuted_fault, query_fault, one_log_fault, unasked_fault, step_fault, next_asked, step_fault_or, is_test, at_test, not_shown_at, steps_fault}

refuted-number : (book : BookView) (task : Task) (n : ℕ) (o : Option Worker) (how : Refutation) → refuted_fault book (record task { number = n }) o how ≡ refuted_fault book task o how
refuted-number book task n None how = refl
refuted-number book task n (Some w) how = answer-number book task n w (Refutes how)

each-number : (book : BookView) (task : Task) (n : ℕ) (ws : List Worker) (xs : List Receipt) (ns : List ℕ) → each_fault book (record task { number = n }) ws xs ns ≡ each_fault book task ws xs ns
each-number book task n [] xs ns = refl
each-number book task n (w ∷ ws) [] ns = refl
each-number book task n (w ∷ ws) (x ∷ xs) [] = refl
each-number book task n (w ∷ ws) (x ∷ xs) (k ∷ ns) =
    ap₂ (λ (a b : Option Place). first_place_or (if k == first_of (clauses_in book task.set) x then a else or_first_line a) b) (answer-number book task n w (Spent x)) (each-number book task n ws xs ns)

outside-number : (book : BookView) (task : Task) (n : ℕ) (lines : List Line) (firsts : List ℕ) → one_log_fault book (record task { number = n }) lines firsts ≡ one_log_fault book task lines firsts
outside-number book task n lines [] = refl
outside-number book task n lines (first ∷ []) = refl
outside-number book task n lines (first ∷ second ∷ more) = refl

pub query-number : (sc : Scenario) (book : BookView) (task : Task) (n : ℕ) (shown : Shown) (firsts : List ℕ) → query_fault sc book (record task { number = n }) shown firsts ≡ query_fault sc book task shown firsts
query-number sc book task n Empty firsts = refl
query-number sc book task n (Fits delta) firsts = refl
query-number sc book task n Same firsts = refl
query-number sc book task n (NoChannel s) firsts = refl
query-number sc book task n (Refuted w how) firsts = ap (unless (is_empty firsts) Kind) (refuted-number book task n (slice_get sc.workers w) how)
query-number sc book task n (Outside proof) firsts = outside-number book task n proof.log.lines firsts
query-number sc book task n (Undecided xs) firsts = ap (unless (length xs == length sc.workers && length firsts == length sc.workers) Kind) (each-number book task n sc.workers xs firsts)

-- the state with another number, pending receipts, tests left, order and start
abbrev pub beside : CoreState → CoreState → CoreState
beside a b = record b { clock = a.clock; map = a.map; steps = a.steps }

step-beside : (sc : Scenario) (book : BookView) (a b : CoreState) (x : TranscriptStep) → step_fault sc book (beside a b) x ≡ step_fault sc book a x
step-beside sc book a b x =
    ap (λ (o : Option Place). option_map_or (unasked_fault x) (settled_unasked sc book a (test_of x.step)) o)
    (query-number sc book (test_task sc book a (test_of x.step)) b.number x.step.shown x.firsts)

pub steps-beside : (sc : Scenario) (book : BookView) (step : ℕ) (a b : CoreState) (ts : List ClockTest) (xs : List TranscriptStep) → steps_fault sc book step (beside a b) ts xs ≡ steps_fault sc book step a ts xs
unfolding steps_fault
steps-beside sc book step a b ts [] = refl
steps-beside sc book step a b ts (x ∷ xs) =
    go (next_asked a.clock ts) (λ us. steps-beside sc book (step + 1) (settled sc a (test_of x.step) x.step.shown) (settled sc (beside a b) (test_of x.step) x.step.shown) us xs)
  where
    go : (left : List ClockTest)
        → ((us : List ClockTest) → steps_fault sc book (step + 1) (settled sc (beside a b) (test_of x.step) x.step.shown) us xs ≡ steps_fault sc book (step + 1) (settled sc a (test_of x.step) x.step.shown) us xs)
        → at_test sc book step (beside a b) x left (λ rest. steps_fault sc book (step + 1) (settled sc (beside a b) (test_of x.step) x.step.shown) rest xs)
        ≡ at_test sc book step a x left (λ rest. steps_fault sc book (step + 1) (settled sc a (test_of x.step) x.step.shown) rest xs)
    go [] rest = refl
    go (t ∷ us) rest = ap₂ (λ (o : Option Place) (r : Option NotShown). if is_test t x then step_fault_or step o r else not_shown_at step Order) (step-beside sc book a b x) (rest us)
