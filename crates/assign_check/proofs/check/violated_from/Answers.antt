use Rattle.std.proofs.Common.{◌≡◌, ◌∙◌, ◌==◌, true, get_or, sym, ap, find, eq-eqb}
use Rattle.std.proofs.Math.ListN.{drop_of_length-le}
use Rattle.std.proofs.lemmas.Bool.{and_from}
use Rattle.pack_defs.specs.declared.pair.Pair.{Pair}
use Rattle.pack_defs.specs.Lists.{has_entry}
use Rattle.assign_check.proofs.Finds.{found-here}
use Rattle.assign_check.proofs.Violations.{is_violated_from, violated-from}
use Rattle.assign_check.proofs.check.violated_from.Goals as goal

pub returns-then-has : goal.returns-then-has
returns-then-has c =
    let map = c.args.map.now in
    let p : Pair = get_or c.pairs_from-p-items.result.now c.loop-p.p-index (record { f = 0; a = 0; g = 0; b = 0 }) in
    let passes : is_violated_from map c.args.own p ≡ true = and_from (p.a == c.args.own.1) (has_entry map (p.g, p.b)) (eq-eqb p.a c.args.own.1 c.if-p-own.true) (sym c.has.ensures ∙ c.if-has.true) in
    sym (found-here (is_violated_from map c.args.own) c.pairs_from-p-items.result.now c.loop-p.p-index (record { f = 0; a = 0; g = 0; b = 0 }) c.loop-p-test.true passes)
    ∙ c.loop-p.invariant
    ∙ ap (find (is_violated_from map c.args.own)) c.pairs_from-p-items.ensures
    ∙ violated-from map c.args.own c.args.book.now.pairs c.requires.ascending c.requires.own

pub returns : goal.returns
returns c =
    let map = c.args.map.now in
    sym (ap (find (is_violated_from map c.args.own)) (drop_of_length-le c.pairs_from-p-items.result.now c.loop-p-test.false))
    ∙ c.loop-p.invariant
    ∙ ap (find (is_violated_from map c.args.own)) c.pairs_from-p-items.ensures
    ∙ violated-from map c.args.own c.args.book.now.pairs c.requires.ascending c.requires.own
