use Rattle.std.proofs.Common.{◌≡◌, ◌∙◌, ◌==◌, true, get_or, sym, ap, find, filter, eq-eqb}
use Rattle.std.proofs.Math.ListN.{drop_of_length-le}
use Rattle.std.proofs.lemmas.Bool.{and_from}
use Rattle.pack_defs.specs.declared.pair.Pair.{Pair}
use Rattle.pack_defs.specs.Book.{BookView}
use Rattle.pack_defs.specs.Lists.{has_entry}
use Rattle.assign_check.proofs.Finds.{found-here}
use Rattle.assign_check.proofs.Violations.{is_violated_from, violated-from}
use Rattle.walk_repack.proofs.pick.violated_from.Goals as goal

pub returns-then-is_on_channel : goal.returns-then-is_on_channel
returns-then-is_on_channel c =
    let none : Pair = record { f = 0; a = 0; g = 0; b = 0 } in
    let map = c.args.walk_state.now.entries in
    let p : Pair = get_or c.pairs_from-p-items.result.now c.loop-p.p-index none in
    let passes : is_violated_from map c.args.own p ≡ true = and_from (p.a == c.args.own.1) (has_entry map (p.g, p.b)) (eq-eqb p.a c.args.own.1 c.if-p-own.true) (sym c.is_on_channel.ensures ∙ c.if-is_on_channel.true) in
    sym (found-here (is_violated_from map c.args.own) c.pairs_from-p-items.result.now c.loop-p.p-index none c.loop-p-test.true passes)
    ∙ c.loop-p.invariant
    ∙ ap (find (is_violated_from map c.args.own)) (c.pairs_from-p-items.ensures ∙ ap (λ (b : BookView). filter (λ (q : Pair). q.f == c.args.own.0) b.pairs) c.requires.book)
    ∙ violated-from map c.args.own c.args.walk_state.now.book.pairs c.requires.ascending c.requires.own

pub returns : goal.returns
returns c =
    let map = c.args.walk_state.now.entries in
    sym (ap (find (is_violated_from map c.args.own)) (drop_of_length-le c.pairs_from-p-items.result.now c.loop-p-test.false))
    ∙ c.loop-p.invariant
    ∙ ap (find (is_violated_from map c.args.own)) (c.pairs_from-p-items.ensures ∙ ap (λ (b : BookView). filter (λ (q : Pair). q.f == c.args.own.0) b.pairs) c.requires.book)
    ∙ violated-from map c.args.own c.args.walk_state.now.book.pairs c.requires.ascending c.requires.own
