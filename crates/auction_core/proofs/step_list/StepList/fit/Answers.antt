-- By the lemmas on a fit's place.
use Rattle.std.proofs.Common.{◌≡◌, ◌∙◌, [], ◌≤◌, ◌-◌, length, unwrap_or, sym, ap, arith}
use Rattle.auction_core.specs.declared.record.Shown.{Shown}
use Rattle.auction_core.specs.State.{fit_of}
use Rattle.auction_core.specs.StepList.{StepListView}
use Rattle.auction_core.proofs.StepLines.{fit-there, no-fit-there}
use Rattle.auction_core.proofs.step_list.StepList.fit.Goals as goal

pub returns-in_default : goal.returns-in_default
returns-in_default c =
    let told : c.deref.result.now ≡ c.args.self.now.told = c.deref.ensures.value ∙ ap (λ (v : StepListView). v.told) c.self.view_is in
    let out : length c.deref.result.now ≤ c.args.place - 1 = c.in_default.ensures.lookup.3 in
    let long = ap length told in
    let some = c.if-place-eq0.false in
    sym (no-fit-there c.args.self.now.told c.args.place (omega (arith, out, long, some)))

pub returns : goal.returns
returns c =
    let told : c.deref.result.now ≡ c.args.self.now.told = c.deref.ensures.value ∙ ap (λ (v : StepListView). v.told) c.self.view_is in
    let within = c.in-Some.ensures.lookup.3.0 in
    let is = (rw told at c.in-Some.ensures.lookup.1) in
    let long = ap length told in
    let some = c.if-place-eq0.false in
    ap (λ o. unwrap_or o []) c.fit_of.ensures
    ∙ (ap (λ (x : Shown). unwrap_or (fit_of x) []) is
    ∙ sym (fit-there c.args.self.now.told c.args.place c.in-Some.shown.now (omega (arith, some)) (omega (arith, within, long, some))))
