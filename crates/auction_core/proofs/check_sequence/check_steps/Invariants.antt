-- The walk over the remaining steps finds what the walk over all steps finds.
use Rattle.std.proofs.Common.{◌≡◌, ◌≤◌, [], Option, drop, length, take}
use Rattle.pack_defs.specs.declared.order.Order.{Order}
use Rattle.auction_core.specs.declared.record.Shown.{Shown}
use Rattle.auction_core.specs.Checked.{IsAt}
use Rattle.auction_core.specs.NotShown.{NotShown}
use Rattle.auction_core.specs.LogNumbers.{steps_in}
use Rattle.auction_core.proofs.check_sequence.check_steps.Given as goal

abbrev pub invariant-steps : goal.invariant-steps
invariant-steps l = record {
  scenario : l.query_session.scenario ≡ l.fn.query_session.scenario;
  book : l.query_session.book ≡ l.fn.query_session.book;
  left : l.x-iterator.rest.items ≡ drop l.place l.fn.steps.items;
  inside : l.place ≤ length l.fn.steps.items;
  at : (order : Order) (start : Shown) (found : Option NotShown) → IsAt l.fn.query_session.scenario l.fn.query_session.book order start [] l.fn.steps.items found l.fn.query_session.state
      → IsAt l.fn.query_session.scenario l.fn.query_session.book order start (steps_in (take l.place l.fn.steps.items)) (drop l.place l.fn.steps.items) found l.query_session.state;
}
