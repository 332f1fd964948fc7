-- By the tests that the rule asked so far.
use Rattle.std.proofs.Common.{◌∙◌, sym}
use Rattle.auction_core.specs.Rule.{tests_done}
use Rattle.auction_core.proofs.Before.{set-before, due-test, none-some}
use Rattle.auction_core.proofs.label_laws.prove_tested_one_round_before.Goals as goal

pub returns : goal.returns
returns c sc book state t rest a h is late none =
    let (parts, active) = due-test sc book state t rest h is in
    let (set, some) = set-before sc book state.order _ (tests_done sc state) rest state.steps t a.stations parts h.shown.tests active late in
    none-some set (sym none ∙ some)
