-- The last worker's receipt settles the query, together with all the others.
use Rattle.std.proofs.Common.{◌≡◌, true, false, ◌+◌, ◌==◌, length, sym, ap, ◌∙◌, arith, eq-eqb}
use Rattle.auction_core.specs.Auction.{state_at}
use Rattle.auction_core.specs.State.{CoreState}
use Rattle.auction_core.specs.declared.record.Shown.TheVariants.{Undecided}
use Rattle.auction_core.specs.Take.{is_noted}
use Rattle.auction_core.proofs.Cases.{noted_as, all_spent}
use Rattle.auction_core.proofs.Noted.{noted-last}
use Rattle.auction_core.proofs.TakingLemmas.{noted-settles}
use Rattle.auction_core.proofs.taking.note_receipt.Goals as goal

pub overflow_add-count : goal.overflow_add-count
overflow_add-count c =
    let fewer = c.requires.ready.rule.shown.noted.fewer in
    let all : length c.workers-workers.result.now ≡ length c.args.query_session.now.scenario.workers = ap length c.workers-workers.ensures in
    omega (arith, c.count.ensures, c.workers-workers.type_inv.0)

pub advance-requires-clause-settles : goal.advance-requires-clause-settles
advance-requires-clause-settles c =
    let w = c.args.query_session.now in
    let state : CoreState = state_at w c.args.pending_receipts.now in
    let x = noted_as c.args.worker c.args.receipt in
    let e = c.take_all_with-receipts.ensures in
    let new : is_noted state.noted c.args.worker ≡ false = sym c.has.ensures ∙ c.if-has.false in
    let all : length state.noted + 1 ≡ length w.scenario.workers = ap (λ n. n + 1) (sym c.count.ensures) ∙ (c.if-count-workers.true ∙ ap length c.workers-workers.ensures) in
    let last : (length state.noted + 1 == length w.scenario.workers) ≡ true = eq-eqb (length state.noted + 1) (length w.scenario.workers) all in
    rw (e.all) (noted-settles w.scenario w.book state c.take_all_with-receipts.new.self.noted (Undecided (all_spent state x)) (noted-last w.scenario w.book state x c.requires.ready.rule.shown.noted (c.requires.worker, c.requires.valid) new last))
