use Rattle.std.proofs.Common.{◌∙◌, ap, ap₂, ◌+◌, sym}
use Rattle.std.specs.Option.{is_some}
use Rattle.assign_check.proofs.Counts.{from-and-to, none-of_station}
use Rattle.assign_check.proofs.Finds.{channel-known, stands-where}
use Rattle.assign_check.proofs.assignment.violated_of.Goals as goal

pub returns-in_default : goal.returns-in_default
returns-in_default c =
    let none = sym (channel-known c.args.station c.args.entries.now) ∙ ap is_some (sym c.channel_in.ensures ∙ c.in_default.is) in
    sym (none-of_station c.args.book.now c.args.entries.now c.args.station none)

pub violated_from-requires-clause-own : goal.violated_from-requires-clause-own
violated_from-requires-clause-own c = stands-where c.args.station c.in-Some.c c.args.entries.now (sym c.channel_in.ensures ∙ c.in-Some.is)

pub violated_to-requires-clause-own : goal.violated_to-requires-clause-own
violated_to-requires-clause-own c = stands-where c.args.station c.in-Some.c c.args.entries.now (sym c.channel_in.ensures ∙ c.in-Some.is)

pub returns : goal.returns
returns c =
    ap₂ (λ m n. m + n) c.violated_from.ensures.count c.violated_to.ensures.count
    ∙ sym (from-and-to c.args.book.now c.args.entries.now c.args.station)
