-- By whether there is a start.
use Rattle.std.proofs.Common.{◌≡◌, ◌&&◌, ◌∙◌, true, false, not, rules, sym, ap, subst}
use Rattle.pack_defs.specs.Lists.{is_empty}
use Rattle.auction_core.specs.LogNumbers.{steps_in}
use Rattle.auction_core.specs.NotShown.{Explains, order_kept}
use Rattle.auction_core.specs.State.{opening}
use Rattle.auction_core.proofs.KeptLemmas.{kept-started, unstarted, unstarted-state}
use Rattle.auction_core.proofs.check_sequence.check_kept_sequence.Goals as goal

pub returns-then-is_unstarted-clause-none : goal.returns-then-is_unstarted-clause-none
returns-then-is_unstarted-clause-none c =
    let p = c.args.prefix in
    let h : (is_empty p.steps && not p.ended) ≡ true = search rules in
    unstarted c.args.sc.now c.args.book.now p true c.in_default.is h

pub returns-then-is_unstarted-clause-state : goal.returns-then-is_unstarted-clause-state
returns-then-is_unstarted-clause-state c =
    let p = c.args.prefix in
    c.in_ok-open.ensures.state ∙ (ap (opening c.args.sc.now c.args.book.now) c.unwrap_or-order.ensures ∙ unstarted-state c.args.sc.now c.args.book.now (order_kept p) p.start (steps_in p.steps) c.in_default.is)

pub returns-in_default-clause-why : goal.returns-in_default-clause-why
returns-in_default-clause-why c =
    let p = c.args.prefix in
    let h : (is_empty p.steps && not p.ended) ≡ false = search rules in
    unstarted c.args.sc.now c.args.book.now p false c.in_default.is h

pub returns-in-Ok-clause-none : goal.returns-in-Ok-clause-none
returns-in-Ok-clause-none c =
    kept-started c.args.sc.now c.args.book.now c.args.prefix c.in-Some.start _ _ c.in-Some.is c.unwrap_or-order.ensures (search rules) ∙ c.in-Ok.ensures.none

pub returns-in-Err-clause-why : goal.returns-in-Err-clause-why
returns-in-Err-clause-why c =
    subst (Explains c.in-Err.e) (sym (kept-started c.args.sc.now c.args.book.now c.args.prefix c.in-Some.start _ _ c.in-Some.is c.unwrap_or-order.ensures (search rules))) c.in-Err.ensures.why
