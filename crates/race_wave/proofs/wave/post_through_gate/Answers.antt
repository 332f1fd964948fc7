use Rattle.std.proofs.Common.{◌∙◌, ap, sym, subst}
use Rattle.auction_core.specs.Take.{PostingView, take}
use Rattle.turn_lock.specs.Passes.{pass_number}
use Rattle.answer_board.specs.Boards.{raised}
use Rattle.race_wave.specs.Wave.{HasNothingLeft, ends_turn}
use Rattle.race_wave.proofs.WaveLemmas.{rests}
use Rattle.race_wave.proofs.wave.post_through_gate.Goals as goal

pub returns-then-ends_turn-clause-done : goal.returns-then-ends_turn-clause-done
returns-then-ends_turn-clause-done g c _ =
    let on = raised c.args.board.now in
    let told = c.in-Ok.ensures.posted in
    let posting : PostingView = record { worker = pass_number c.args.pass.now; number = c.args.number; answer = c.args.certified.answer } in
    let left = (take on.scenario on.book told.state posting).1 in
    record {
      state = left;
      replays = told.leaves;
      holds = subst (λ w. HasNothingLeft w left) (sym (ap (λ s. s.number) c.in-Ok.ensures.idle.stands)) (rests on.scenario on.book told.state posting (ap ends_turn (sym told.told) ∙ (sym c.ends_turn.ensures ∙ c.if-ends_turn.true)));
    }
