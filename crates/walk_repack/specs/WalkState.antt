-- A walk so far, and what holds of each walk.
use Rattle.std.specs.Prelude.{ℕ, true, false, ◌≡◌, length, List, map, IsTrue, Contains}
use Rattle.std.specs.List.{list_all}
use Rattle.pack_defs.specs.declared.pair.Pair.{Pair}
use Rattle.pack_defs.specs.Book.{BookView, domain_of}
use Rattle.pack_defs.specs.ChannelMap.{IsAscending, overlaid}
use Rattle.pack_defs.specs.Lists.{is_in}
use Rattle.assign_check.specs.Fault.{is_violated}
use Rattle.pack_defs.specs.declared.worker.Worker.{Worker}
use Rattle.cert_types.specs.declared.answer.Answer.{Answer}
use Rattle.cert_types.specs.declared.task.Task.{Task}
use Rattle.cert_types.specs.Valid.{IsValid}
use Rattle.pack_defs.specs.Scenario.{learns}
use Rattle.cert_types.specs.Moves.{AreSpentMoves, start_map, violates_some}

-- A walk: its book, the map from which it starts, the moves since then, and the map that they lead to.
pub record WalkStateView : Type 0 where
  pub book : BookView
  pub start : List (ℕ × ℕ)
  pub moves : List (ℕ × ℕ)
  pub entries : List (ℕ × ℕ)

-- Each entry is on a channel of its station's domain.
abbrev pub AreOnDomains : BookView → List (ℕ × ℕ) → Type 0
AreOnDomains book entries = IsTrue (list_all (λ x. is_in (domain_of book x.0) x.1) entries)

-- The moves lead from the start map to this map, which ascends and has the same stations, each on its domain. If a pair is still
-- violated, the moves are those of a receipt.
pub record IsWalkState (v : WalkStateView) : Type 0 where
  pub ascending : IsAscending v.entries
  pub leads : overlaid v.start v.moves ≡ v.entries
  pub stations : map (λ x. x.0) v.entries ≡ map (λ x. x.0) v.start
  pub on_domains : AreOnDomains v.book v.entries
  pub spent : violates_some v.book v.entries ≡ true → AreSpentMoves v.book v.start v.moves

-- The pair is in the book, and the map has both its entries.
pub record IsViolated (book : BookView) (entries : List (ℕ × ℕ)) (p : Pair) : Type 0 where
  pub listed : Contains book.pairs p
  pub stands : is_violated entries p ≡ true

-- The answer is valid for each query with the walk's start map and each walking worker whose budget is the number of moves, if some
-- pair is still violated.
abbrev pub IsReceiptOf : WalkStateView → Answer → Type 0
IsReceiptOf v answer = (task : Task) (worker : Worker) → violates_some v.book v.entries ≡ true →
    v.start ≡ start_map v.book task.last task.set → learns worker.kind ≡ false → length v.moves ≡ worker.budget →
    IsValid v.book task worker answer
