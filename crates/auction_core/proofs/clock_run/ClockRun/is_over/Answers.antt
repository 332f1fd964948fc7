-- The next turn decides whether a test is left.
use Rattle.std.proofs.Common.{◌≡◌, ◌∙◌, ◌<◌, inl, inr, arith, sym, length, eqb, ℕ}
use Rattle.std.proofs.lemmas.Bool.{eq-eqb, ne_eqb}
use Rattle.auction_core.proofs.ClockRunTests.{due-some, over-empty}
use Rattle.auction_core.proofs.clock_run.ClockRun.is_over.Goals as goal

apart : (place_in_round n : ℕ) → place_in_round < n → place_in_round ≡ n → ⊥
apart place_in_round n less e = omega (arith, less, e)

pub returns-else-not-is_running : goal.returns-else-not-is_running
returns-else-not-is_running c =
    let s = c.args.setup.now in
    let now = c.args.self.now in
    let running = sym c.is_running.ensures ∙ c.if-not-is_running.false in
    let same : eqb c.self.inside.place_in_round c.round_length.result ≡ eqb now.place_in_round (length s.scenario.stations) = (λ i. eqb (c.self.view_is i).place_in_round (c.round_length.ensures.value i)) in
    elim (c.requires.rest running) [
      | inl over ↦ same ∙ (eq-eqb now.place_in_round (length s.scenario.stations) over.0 ∙ sym (over-empty s now running over))
      | inr query ↦ same ∙ (ne_eqb now.place_in_round (length s.scenario.stations) (apart now.place_in_round (length s.scenario.stations) query.0.place_in_round) ∙ sym (due-some s now running c.requires.holds query.0))
    ]
