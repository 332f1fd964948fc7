use denote.Exit.{no}
use denote.Param.Send.{arg_send, arg_sync, param_send, param_sync}
use Rattle.std.proofs.Crossing.{sync}
use Rattle.answer_board.proofs.Crosses.{board-sync, book-sync}
use Rattle.race_wave.proofs.Crosses.{captured-sync, runner-send}
use Rattle.std.proofs.Common.{rules, subst}
use Rattle.race_wave.specs.declared.runner.Runner.{Runner}
use Rattle.race_wave.specs.Wave.{HasRaced}
use Rattle.race_wave.proofs.WaveLemmas.{zip-each}
use Rattle.race_wave.proofs.wave.wave.Goals as goal

pub for_each_mut-requires-send-T : goal.for_each_mut-requires-send-T
for_each_mut-requires-send-T g c κs within = param_send 1 _ (arg_send _ no _ (runner-send _ c.type_bounds.send-R))

pub for_each_mut-requires-sync-F : goal.for_each_mut-requires-sync-F
for_each_mut-requires-sync-F g c κs within =
    param_sync 2 _ (arg_sync _ no _ (captured-sync _ _ _ _ _ _ _ _ _ _ _ _ _ _ _ _ c.type_bounds.sync-W sync board-sync book-sync c.type_bounds.sync-G))

pub returns-then-are_refused-clause-raced : goal.returns-then-are_refused-clause-raced
returns-then-are_refused-clause-raced g c =
    zip-each (HasRaced g.R.Racer.worker c.args.board.now) c.args.runners.now c.for_each_mut.new.s (search rules) (λ i d lt.
    let k = (c.for_each_mut.ensures i d lt).1 in
    subst (λ (p : Runner g.row.R.Denot × Runner g.row.R.Denot). HasRaced g.R.Racer.worker c.args.board.now p.0 p.1) (λ j. (k.argument_is j, k.left j)) k.call)

pub returns-clause-raced : goal.returns-clause-raced
returns-clause-raced g c =
    zip-each (HasRaced g.R.Racer.worker c.args.board.now) c.args.runners.now c.for_each_mut.new.s (search rules) (λ i d lt.
    let k = (c.for_each_mut.ensures i d lt).1 in
    subst (λ (p : Runner g.row.R.Denot × Runner g.row.R.Denot). HasRaced g.R.Racer.worker c.args.board.now p.0 p.1) (λ j. (k.argument_is j, k.left j)) k.call)
