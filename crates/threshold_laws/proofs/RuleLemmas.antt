-- What a test of the plain clock rule decides, and the loop over its rounds.
use Rattle.std.proofs.Common.{◌≡◌, ℕ, suc, ◌+◌, ◌-◌, ◌<◌, ◌≤◌, Bool, true, false, ◌||◌, ◌==◌, List, [], map, length, sym, ap, ◌∙◌, subst, arith}
use Rattle.std.proofs.lemmas.Bool.{eq-eqb, ne_eqb, or_left}
use Rattle.pack_defs.specs.Lists.{is_ascending}
use Rattle.pack_defs.specs.Book.{BookView}
use Rattle.pack_defs.specs.Packing.{IsPacking, fits}
use Rattle.pack_defs.specs.declared.order.Order.{Order}
use Rattle.pack_defs.specs.declared.scenario.Scenario.{Scenario}
use Rattle.pack_defs.specs.Scenario.{StationsAscend, facilities}
use Rattle.pack_defs.specs.Prices.{declines, last_round, prices}
use Rattle.pack_defs.specs.ClockRule.{ClockTest, ClockState, tests_of, bidders_in_order, opening_state, asked_set, exits, after_tests, clock_rule}
use Rattle.pack_defs.proofs.Chains.{ascending-filter}
use Rattle.pack_defs.proofs.FitsLaws.{fits-from}
use Rattle.pack_defs.proofs.PriceLaws.{prices_rounds}
use Rattle.pack_defs.proofs.TestOrder.{in_turn}
use Rattle.pack_defs.proofs.Words.{ascending-from}

-- ---- one test

pub asked-ascends : (sc : Scenario) (st : ClockState) (s : ℕ) → StationsAscend sc → is_ascending (asked_set sc st s) ≡ true
asked-ascends sc st s ascend = ascending-filter _ (facilities sc) (ascending-from (facilities sc) ascend)

-- If a map packs the set, the set fits.
pub packed-fits : (book : BookView) (set : List ℕ) (entries : List (ℕ × ℕ)) → IsPacking book set entries → fits book set ≡ true
packed-fits book set entries h = fits-from book set (record { entries = entries; stations = h.stations; clean = h.clean })

-- The test of this station in this round.
abbrev pub test_of : ℕ → ℕ → ClockTest
test_of round s = record { round = round; station = s }

-- In the last round, the one after the last price, every station goes on air.
pub exits-at_last : (sc : Scenario) (s round n : ℕ) → n ≡ length (prices sc) → round ≡ n → (round == n) ≡ exits sc (test_of round s)
exits-at_last sc s round n rounds last =
    let end : round ≡ last_round sc = omega (arith, last, rounds, prices_rounds sc) in
    eq-eqb round n last ∙ sym (or_left (round == last_round sc) (declines sc s round) (eq-eqb round (last_round sc) end))

-- Before the last round, the stations that decline go on air.
pub exits-before : (sc : Scenario) (s round n : ℕ) (b : Bool) → n ≡ length (prices sc) → (round ≡ n → ⊥) → b ≡ declines sc s round → b ≡ exits sc (test_of round s)
exits-before sc s round n b rounds before is =
    let other : (round == last_round sc) ≡ false = ne_eqb round (last_round sc) (λ e. before (omega (arith, e, rounds, prices_rounds sc))) in
    is ∙ ap (λ e. e || declines sc s round) (sym other)

-- ---- one round

-- The tests of these stations in a round.
abbrev pub tests_in : ℕ → List ℕ → List ClockTest
tests_in round xs = map (λ s. record { round = round; station = s }) xs

-- ---- all rounds

-- Before the first round.
pub opened : (sc : Scenario) (book : BookView) (order : Order) (xs : List ℕ) (n : ℕ) (opening : ClockState) → xs ≡ bidders_in_order sc order → n ≡ length (prices sc) → opening ≡ opening_state sc → after_tests sc book [] (tests_of xs 1 (n + 1 - 1)) opening ≡ clock_rule sc book order []
unfolding clock_rule
opened sc book order xs n opening bidders rounds is =
    let all : n + 1 - 1 ≡ last_round sc = omega (arith, rounds, prices_rounds sc) in
    ap (after_tests sc book [] (tests_of xs 1 (n + 1 - 1))) is
    ∙ (ap (λ k. after_tests sc book [] (tests_of xs 1 k) (opening_state sc)) all
    ∙ ap (λ ys. after_tests sc book [] (tests_of ys 1 (last_round sc)) (opening_state sc)) bidders)

-- One more round of those that are left.
pub next-round : (sc : Scenario) (book : BookView) (xs : List ℕ) (round last : ℕ) (before after end : ClockState) → round < last → after_tests sc book [] (tests_of xs round (last - round)) before ≡ end → after ≡ after_tests sc book [] (tests_in round xs) before → after_tests sc book [] (tests_of xs (round + 1) (last - (round + 1))) after ≡ end
next-round sc book xs round last before after end more h is =
    let left : last - round ≡ suc (last - (round + 1)) = omega (arith, more) in
    let rest : List ClockTest = tests_of xs (round + 1) (last - (round + 1)) in
    ap (after_tests sc book [] rest) is
    ∙ (sym (in_turn sc book [] (tests_in round xs) rest before)
    ∙ (ap (λ k. after_tests sc book [] (tests_of xs round k) before) (sym left) ∙ h))

-- After the last round.
pub ended : (sc : Scenario) (book : BookView) (xs : List ℕ) (round last : ℕ) (now end : ClockState) → last ≤ round → after_tests sc book [] (tests_of xs round (last - round)) now ≡ end → now ≡ end
ended sc book xs round last now end all h =
    let none : last - round ≡ 0 = omega (arith, all) in
    subst (λ k. after_tests sc book [] (tests_of xs round k) now ≡ end) none h
