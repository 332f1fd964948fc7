use Rattle.std.proofs.Common.{ℕ, ◌≡◌, ◌≤◌, ◌∙◌, not, filter, List, sym, ap, subst, arith, take, take_all, length}
use Rattle.std.proofs.lemmas.Result.{IfOk-weaker}
use Rattle.pack_defs.specs.ChannelMap.{IsAscending, overlaid}
use Rattle.pack_defs.specs.Lists.{has_entry}
use Rattle.cert_types.proofs.DeltaLemmas.{kept-ascends, lacking-whole}
use Rattle.cert_types.proofs.delta.delta.Goals as goal

pub of-requires : goal.of-requires
of-requires c =
    let all : take c.loop-x.x-index c.args.map.now ≡ c.args.map.now = take_all c.loop-x.x-index c.args.map.now (subst (λ (xs : List (ℕ × ℕ)). length xs ≤ c.loop-x.x-index) c.loop-x.invariant.all (omega arith)) in
    let is : c.deref.result.now ≡ filter (λ x. not (has_entry c.args.last.now x)) c.args.map.now = c.deref.ensures.value ∙ (c.loop-x.invariant.lacking ∙ ap (λ (xs : List (ℕ × ℕ)). filter (λ x. not (has_entry c.args.last.now x)) xs) all) in
    subst (λ (xs : List (ℕ × ℕ)). IsAscending xs) (sym is) (kept-ascends (λ x. not (has_entry c.args.last.now x)) c.args.map.now c.keeps_order-2.ensures)

pub returns-clause-whole : goal.returns-clause-whole
returns-clause-whole c h =
    let all : take c.loop-x.x-index c.args.map.now ≡ c.args.map.now = take_all c.loop-x.x-index c.args.map.now (subst (λ (xs : List (ℕ × ℕ)). length xs ≤ c.loop-x.x-index) c.loop-x.invariant.all (omega arith)) in
    let is : c.deref.result.now ≡ filter (λ x. not (has_entry c.args.last.now x)) c.args.map.now = c.deref.ensures.value ∙ (c.loop-x.invariant.lacking ∙ ap (λ (xs : List (ℕ × ℕ)). filter (λ x. not (has_entry c.args.last.now x)) xs) all) in
    IfOk-weaker c.of.result (λ (d : List (ℕ × ℕ)). d ≡ c.deref.result.now) (λ (d : List (ℕ × ℕ)). overlaid c.args.last.now d ≡ c.args.map.now)
    (λ d e. lacking-whole c.args.last.now c.args.map.now d c.keeps_order.ensures c.keeps_order-2.ensures h (e ∙ is)) c.of.ensures

pub returns-clause-lacking : goal.returns-clause-lacking
returns-clause-lacking c =
    let all : take c.loop-x.x-index c.args.map.now ≡ c.args.map.now = take_all c.loop-x.x-index c.args.map.now (subst (λ (xs : List (ℕ × ℕ)). length xs ≤ c.loop-x.x-index) c.loop-x.invariant.all (omega arith)) in
    let is : c.deref.result.now ≡ filter (λ x. not (has_entry c.args.last.now x)) c.args.map.now = c.deref.ensures.value ∙ (c.loop-x.invariant.lacking ∙ ap (λ (xs : List (ℕ × ℕ)). filter (λ x. not (has_entry c.args.last.now x)) xs) all) in
    IfOk-weaker c.of.result (λ (d : List (ℕ × ℕ)). d ≡ c.deref.result.now) (λ (d : List (ℕ × ℕ)). d ≡ filter (λ x. not (has_entry c.args.last.now x)) c.args.map.now) (λ d e. e ∙ is) c.of.ensures
