use Rattle.std.proofs.Common.{refl, sym, ◌∙◌}
use Rattle.batch_cache.specs.Suggesting.{changes_found, holds_task, may_refute}
use Rattle.batch_cache.proofs.AnswerLemmas.{map-moved, refutation-moved}
use Rattle.batch_cache.proofs.cache.Cache.suggest.Goals as goal

pub returns-in-Some-clause-moved : goal.returns-in-Some-clause-moved
returns-in-Some-clause-moved c =
    map-moved (holds_task c.args.top c.args.task.now) (may_refute c.args.top c.args.task.now c.args.worker.now) c.args.self.now c.self.inside.maps c.self.inside.refutations c.self.view_is
    (changes_found c.args.task.now) (λ e. refl) c.bring_to_front.new.entries c.in-Some.found c.keeps_keys_and_room.ensures (sym c.in_ok-found.ensures ∙ c.in-Some.is) c.bring_to_front.ensures

pub returns-in-Some-2-clause-moved : goal.returns-in-Some-2-clause-moved
returns-in-Some-2-clause-moved c =
    refutation-moved (holds_task c.args.top c.args.task.now) (may_refute c.args.top c.args.task.now c.args.worker.now) c.args.self.now c.self.inside.maps c.self.inside.refutations c.self.view_is
    (changes_found c.args.task.now) c.bring_to_front-in-Some-2.new.entries c.in-Some-2.found c.keeps_keys_and_room-2.ensures (sym c.in_ok-found.ensures ∙ c.in_default.is) (sym c.in_ok-found-2.ensures ∙ c.in-Some-2.is)
    c.bring_to_front-in-Some-2.ensures
