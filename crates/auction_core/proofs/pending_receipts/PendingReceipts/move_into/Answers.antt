-- One more slot, full or empty; at the end every slot is empty.
use Rattle.std.proofs.Common.{rules, ◌≡◌, ◌<◌, [], ◌∷◌, ◌++◌, length, ap, ◌∙◌, sym, None, Some, get_or, append_assoc}
use Rattle.auction_core.proofs.Emptied.{emptied-next, place-is, all-emptied, first_receipts, passed-one, taken-one}
use Rattle.auction_core.proofs.pending_receipts.PendingReceipts.move_into.Goals as goal

pub loop-i-preserved-in_default : goal.loop-i-preserved-in_default
loop-i-preserved-in_default c =
    let end = c.loop-i.invariant.3 in
    let test = c.loop-i-test.true in
    let h : c.loop-i.i < length c.self.inside.places.items = search rules in
    let none : get_or c.self.inside.places.items c.loop-i.i c.index_mut.result.now ≡ None =
    place-is c.loop-i.i c.self.inside.places.items c.loop-i.self-inside.places.items c.index_mut.result.now c.take.result c.loop-i.invariant.0 c.index_mut.ensures.value c.take.ensures.value ∙ search rules in (
      emptied-next c.loop-i.i c.self.inside.places.items c.loop-i.self-inside.places.items c.take.new.self h c.loop-i.invariant.0 c.take.ensures.after,
      c.loop-i.invariant.1 ∙ ap (λ xs. c.args.receipts.now.items ++ xs) (sym (passed-one c.loop-i.i c.self.inside.places.items c.index_mut.result.now none)),
      search rules,
      end,
      c.loop-i.invariant.4,
    )

pub loop-i-preserved : goal.loop-i-preserved
loop-i-preserved c =
    let end = c.loop-i.invariant.3 in
    let h : c.loop-i.i < length c.self.inside.places.items = search rules in
    let some : get_or c.self.inside.places.items c.loop-i.i c.index_mut.result.now ≡ Some c.in-Some.receipt =
    place-is c.loop-i.i c.self.inside.places.items c.loop-i.self-inside.places.items c.index_mut.result.now c.take.result c.loop-i.invariant.0 c.index_mut.ensures.value c.take.ensures.value ∙ search rules in (
      emptied-next c.loop-i.i c.self.inside.places.items c.loop-i.self-inside.places.items c.take.new.self h c.loop-i.invariant.0 c.take.ensures.after,
      c.push_reserved.ensures.items
          ∙ (ap (λ xs. xs ++ c.in-Some.receipt ∷ []) c.loop-i.invariant.1
          ∙ (append_assoc c.args.receipts.now.items (first_receipts c.loop-i.i c.self.inside.places.items) (c.in-Some.receipt ∷ [])
          ∙ ap (λ xs. c.args.receipts.now.items ++ xs) (sym (taken-one c.loop-i.i c.self.inside.places.items c.index_mut.result.now c.in-Some.receipt h some)))),
      search rules,
      end,
      c.loop-i.invariant.4,
    )

pub returns-clause-none : goal.returns-clause-none
returns-clause-none c =
    all-emptied c.loop-i.i c.self.inside.places.items c.loop-i.self-inside.places.items (search rules) c.loop-i.invariant.0
