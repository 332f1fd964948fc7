use Rattle.std.proofs.Common.{◌≡◌, ◌∙◌, ◌++◌, ap, sym, append-nil}
use Rattle.std.proofs.lemmas.Map.Keys.{IsStrictlyIncreasing-from_sorted}
use Rattle.pack_defs.proofs.Words.{ascending-from}
use Rattle.packing_graph.proofs.component.listed.Goals as goal

pub returns : goal.returns
returns c =
    let whole : c.loop-number.list.items ≡ c.args.set.keys = sym (append-nil c.loop-number.list.items) ∙ ap (λ r. c.loop-number.list.items ++ r) (sym c.in-None.ensures.steps.0) ∙ c.loop-number.invariant in
    (whole, rw whole (ascending-from c.args.set.keys (IsStrictlyIncreasing-from_sorted c.args.set.keys c.len.ensures.ordered)))
