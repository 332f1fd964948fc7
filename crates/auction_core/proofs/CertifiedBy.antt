-- A worker's refutation or receipt is valid exactly if it is a proof, a dead pair, a spent log or a spent walk.
use Rattle.std.proofs.Common.{ℕ, Option, Some, None, MatchOption}
use Rattle.std.specs.Prelude.{slice_get}
use Rattle.pack_defs.specs.declared.scenario.Scenario.{Scenario}
use Rattle.pack_defs.specs.declared.worker.Worker.{Worker}
use Rattle.pack_defs.specs.Book.{BookView}
use Rattle.cert_types.specs.declared.task.Task.{Task}
use Rattle.cert_types.specs.declared.answer.Answer.TheVariants.{Refuted as Refutes', Spent}
use Rattle.cert_types.specs.declared.answer.Receipt.{Receipt}
use Rattle.cert_types.specs.declared.answer.Receipt.TheVariants.{Lines, Moves}
use Rattle.cert_types.specs.declared.answer.Refutation.{Refutation}
use Rattle.cert_types.specs.declared.answer.Refutation.TheVariants.{Proof, Dead}
use Rattle.cert_types.specs.Valid.{IsValid}
use Rattle.cert_types.proofs.Meaning.{proof-means, means-proof, lines-means, means-lines, moves-means, means-moves, dead-means, means-dead}
use Rattle.auction_core.specs.declared.record.Shown.TheVariants.{Refuted}
use Rattle.auction_core.specs.State.{CoreState, task_of}
use Rattle.auction_core.specs.Backed.{IsRefutedBy, IsSettledBy, IsSpentBy}
use Rattle.auction_core.specs.Rule.{Answers, IsValidOf, SettlesQuery}

pub refutation-means : (book : BookView) (task : Task) (worker : Worker) (how : Refutation) → IsValid book task worker (Refutes' how) → IsRefutedBy book task worker how
refutation-means book task worker (Proof subset log) h = proof-means book task worker subset log h
refutation-means book task worker (Dead p) h = dead-means book task worker p h

pub means-refutation : (book : BookView) (task : Task) (worker : Worker) (how : Refutation) → IsRefutedBy book task worker how → IsValid book task worker (Refutes' how)
means-refutation book task worker (Proof subset log) h = means-proof book task worker subset log h
means-refutation book task worker (Dead p) h = means-dead book task worker p h

pub receipt-means : (book : BookView) (task : Task) (worker : Worker) (x : Receipt) → IsValid book task worker (Spent x) → IsSpentBy book task worker x
receipt-means book task worker (Lines log) h = lines-means book task worker log h
receipt-means book task worker (Moves moves) h = moves-means book task worker moves h

pub means-receipt : (book : BookView) (task : Task) (worker : Worker) (x : Receipt) → IsSpentBy book task worker x → IsValid book task worker (Spent x)
means-receipt book task worker (Lines log) h = means-lines book task worker log h
means-receipt book task worker (Moves moves) h = means-moves book task worker moves h

-- A worker's valid refutation settles the query.
refuted-by : (sc : Scenario) (book : BookView) (task : Task) (w : ℕ) (how : Refutation) → IsValidOf sc book task w (Refutes' how) → IsSettledBy sc book task (Refuted w how)
refuted-by sc book task w how h =
    let go : (o : Option Worker) → MatchOption o ⊥ (λ worker. IsValid book task worker (Refutes' how)) → MatchOption o ⊥ (λ worker. IsRefutedBy book task worker how) = λ o. elim o as (λ o. MatchOption o ⊥ (λ worker. IsValid book task worker (Refutes' how)) → MatchOption o ⊥ (λ worker. IsRefutedBy book task worker how)) [
      | None ↦ λ v. v
      | Some worker ↦ λ v. refutation-means book task worker how v
    ] in
    go (slice_get sc.workers w) h

pub refutation-settles : (sc : Scenario) (book : BookView) (state : CoreState) (w : ℕ) (how : Refutation) → Answers sc book state w (Refutes' how) → SettlesQuery sc book state (Refuted w how)
refutation-settles sc book state w how h =
    let go : (o : Option Task) → MatchOption o ⊥ (λ task. IsValidOf sc book task w (Refutes' how)) → MatchOption o ⊥ (λ task. IsSettledBy sc book task (Refuted w how)) = λ o. elim o as (λ o. MatchOption o ⊥ (λ task. IsValidOf sc book task w (Refutes' how)) → MatchOption o ⊥ (λ task. IsSettledBy sc book task (Refuted w how))) [
      | None ↦ λ v. v
      | Some task ↦ λ v. refuted-by sc book task w how v
    ] in
    go (task_of sc book state) h
