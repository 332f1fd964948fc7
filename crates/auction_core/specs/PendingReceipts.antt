-- The pending receipts of the current query: as callers see them, and as a slot for each worker.
use Rattle.std.specs.Prelude.{ℕ, ◌+◌, Bool, List, [], ◌∷◌, Option, Some, None}
use Rattle.cert_types.specs.declared.answer.Receipt.{Receipt}
use Rattle.auction_core.specs.State.{NotedSpent}

-- The number of workers with a slot, the pending receipts, and whether there is room for a receipt of every worker.
pub record PendingReceiptsView : Type 0 where
  pub workers : ℕ
  pub noted : List NotedSpent
  pub ready : Bool

-- The receipts in these slots, each with its worker; the first slot is that of worker w.
abbrev pub receipts_from : ℕ → List (Option Receipt) → List NotedSpent
receipts_from w [] = []
receipts_from w (None ∷ xs) = receipts_from (w + 1) xs
receipts_from w (Some receipt ∷ xs) = record { worker = w; receipt = receipt } ∷ receipts_from (w + 1) xs

-- The receipts in these slots, each with its worker, ascending by worker.
abbrev pub receipts_of : List (Option Receipt) → List NotedSpent
receipts_of places = receipts_from 0 places
