use Rattle.std.proofs.Common.{◌≡◌, ◌∙◌, ◌==◌, true, get_or, sym, ap, eq-eqb}
use Rattle.std.specs.List.{list_any}
use Rattle.std.proofs.Math.ListN.{drop_of_length-le}
use Rattle.std.proofs.lemmas.Bool.{and_from}
use Rattle.pack_defs.specs.declared.pair.Pair.{Pair}
use Rattle.pack_defs.specs.ChannelMap.{overlaid}
use Rattle.pack_defs.specs.Lists.{has_entry}
use Rattle.assign_check.proofs.Changed.{any-here, changed-to, is_violated_to}
use Rattle.assign_check.proofs.changes.violates_to.Goals as goal

pub returns-then-is_on_channel : goal.returns-then-is_on_channel
returns-then-is_on_channel c =
    let map = overlaid c.args.last.now c.args.changes.now in
    let test = is_violated_to map c.args.own in
    let pairs = c.pairs_to-p-items.result.now in
    let p : Pair = get_or pairs c.loop-p.p-index (record { f = 0; a = 0; g = 0; b = 0 }) in
    let passes : test p ≡ true = and_from (p.b == c.args.own.1) (has_entry map (p.f, p.a)) (eq-eqb p.b c.args.own.1 c.if-p-own.true) (sym c.is_on_channel.ensures ∙ c.if-is_on_channel.true) in
    sym (any-here test pairs c.loop-p.p-index (record { f = 0; a = 0; g = 0; b = 0 }) c.loop-p-test.true passes)
    ∙ c.loop-p.invariant
    ∙ ap (list_any test) c.pairs_to-p-items.ensures
    ∙ changed-to c.args.last.now c.args.changes.now c.args.own c.args.book.now.pairs c.requires.last c.requires.changes c.requires.own

pub returns : goal.returns
returns c =
    let test = is_violated_to (overlaid c.args.last.now c.args.changes.now) c.args.own in
    sym (ap (list_any test) (drop_of_length-le c.pairs_to-p-items.result.now c.loop-p-test.false))
    ∙ c.loop-p.invariant
    ∙ ap (list_any test) c.pairs_to-p-items.ensures
    ∙ changed-to c.args.last.now c.args.changes.now c.args.own c.args.book.now.pairs c.requires.last c.requires.changes c.requires.own
