-- What the record of a continued auction keeps of the receipts that were pending. Pending receipts are this project's
-- own.
use Rattle.std.specs.Prelude.{◌≡◌, List, length, Option, Some, is_none, option_map, if◌then◌else◌, slice_get}
use Rattle.cert_types.specs.declared.answer.Receipt.{Receipt}
use Rattle.auction_core.specs.declared.record.Record.{Record}
use Rattle.auction_core.specs.declared.record.Shown.{Shown}
use Rattle.auction_core.specs.declared.record.Shown.TheVariants.{Undecided}
use Rattle.auction_core.specs.State.{CoreState}
use Rattle.turn_lock.specs.Turns.{AllOf}

-- How the record settles the query that was current in this state: by its start, or, once the start was settled, by the
-- first step after those of the state. `None` if there is no such step.
abbrev pub settled_as : CoreState → Record → Option Shown
settled_as early rec =
    if is_none early.start then Some rec.start else option_map (λ x. x.shown) (slice_get rec.steps (length early.steps))

-- Whether the record keeps the receipts that were pending in this state: if the query that was current ends undecided,
-- each of them is the receipt of its worker there.
pub record KeepsReceipts (early : CoreState) (rec : Record) : Type 0 where
  pub kept : (receipts : List Receipt) → settled_as early rec ≡ Some (Undecided receipts) → AllOf (λ n. slice_get receipts n.worker ≡ Some n.receipt) early.noted
