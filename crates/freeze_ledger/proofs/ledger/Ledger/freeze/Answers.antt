-- The list with the entry ascends, and its sum is the old sum plus the price.
use Rattle.std.proofs.Common.{◌≡◌, ◌∙◌, ◌+◌, ℕ, None, List, ap, sym, subst}
use Rattle.std.specs.List.{insert}
use Rattle.pack_defs.specs.ChannelMap.{IsAscending}
use Rattle.freeze_ledger.specs.Ledger.{LedgerView, price_of, sum_paid, with_price}
use Rattle.freeze_ledger.proofs.LedgerLemmas.{sum-with, with-ascending}
use Rattle.freeze_ledger.proofs.ledger.Ledger.freeze.Goals as goal

pub invariant_of-self : goal.invariant_of-self
invariant_of-self c =
    let s : ℕ = c.args.station in
    let price : ℕ = c.args.price in
    let own : List (ℕ × ℕ) = c.self.inside.entries.items in
    let place : insert own c.place_of-place.result (s, price) ≡ with_price s price own = subst (λ xs. insert xs c.place_of-place.result (s, price) ≡ with_price s price xs) c.deref.ensures.value (c.place_of-place.ensures.place price) in
    let items : c.insert.new.self.items ≡ with_price s price own = c.in-Ok.ensures.items ∙ place in
    let absent : price_of s own ≡ None = subst (λ (v : LedgerView). price_of s v.paid ≡ None) (sym c.self.view_is) c.requires.absent in
    (subst IsAscending (sym items) (with-ascending s price own absent c.self.invariant.0), ap (λ n. n + price) c.self.invariant.1 ∙ (sym (sum-with s price own) ∙ ap sum_paid (sym items)))
