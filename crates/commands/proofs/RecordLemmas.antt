-- The backed record of a finished auction is that of the inputs' auction, in either order of tests.
use Rattle.std.proofs.Common.{◌≡◌}
use Rattle.pack_defs.specs.declared.order.Order.{Order}
use Rattle.auction_core.specs.declared.record.Ending.TheVariants.{Done}
use Rattle.auction_core.specs.declared.record.Record.{Record}
use Rattle.auction_core.specs.Backed.{IsBacked}
use Rattle.auction_core.specs.Rule.{IsAuction}
use Rattle.auction_core.proofs.Done.{done-map}
use Rattle.auction_core.proofs.StartShown.{done-fits}
use Rattle.commands.specs.declared.inputs.Inputs.{Inputs}
use Rattle.commands.specs.Records.{IsRecordIn}

pub record-in : (order : Order) (inputs : Inputs) (rec : Record) → IsAuction inputs.scenario inputs.book → IsBacked inputs.scenario inputs.book order rec → rec.ending ≡ Done → IsRecordIn order inputs rec
record-in order inputs rec a b e =
    let of = done-map inputs.scenario inputs.book order rec a b e in
    record {
      backed = b;
      ending = e;
      starts = done-fits inputs.scenario inputs.book order rec a b e;
      packing = record { stations = of.1; clean = of.0 };
    }
