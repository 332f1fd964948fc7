use Rattle.std.proofs.Common.{refl, sym, ◌∙◌}
use Rattle.batch_cache.specs.Answering.{gives_fit, gives_refutation}
use Rattle.batch_cache.specs.KeptRefutation.{fit_found}
use Rattle.batch_cache.proofs.AnswerLemmas.{found-fit-valid, found-refutation-valid, map-moved, refutation-moved}
use Rattle.batch_cache.proofs.cache.Cache.answer.Goals as goal

pub returns-in-Some-clause-valid : goal.returns-in-Some-clause-valid
returns-in-Some-clause-valid c =
    found-fit-valid c.args.top c.args.book.now c.args.task.now c.args.worker.now c.self.inside.maps.entries c.in-Some.found
    (sym c.in_ok-found.ensures ∙ c.in-Some.is)

pub returns-in-Some-clause-moved : goal.returns-in-Some-clause-moved
returns-in-Some-clause-moved c =
    map-moved (gives_fit c.args.top c.args.book.now c.args.task.now c.args.worker.now)
    (gives_refutation c.args.top c.args.book.now c.args.task.now c.args.worker.now) c.args.self.now c.self.inside.maps c.self.inside.refutations c.self.view_is
    (fit_found c.args.task.now) (λ e. refl) c.bring_to_front.new.entries c.in-Some.found c.keeps_keys_and_room.ensures (sym c.in_ok-found.ensures ∙ c.in-Some.is) c.bring_to_front.ensures

pub returns-in-Some-2-clause-valid : goal.returns-in-Some-2-clause-valid
returns-in-Some-2-clause-valid c =
    found-refutation-valid c.args.top c.args.book.now c.args.task.now c.args.worker.now c.self.inside.refutations.entries c.in-Some-2.found
    (sym c.in_ok-found-2.ensures ∙ c.in-Some-2.is)

pub returns-in-Some-2-clause-moved : goal.returns-in-Some-2-clause-moved
returns-in-Some-2-clause-moved c =
    refutation-moved (gives_fit c.args.top c.args.book.now c.args.task.now c.args.worker.now)
    (gives_refutation c.args.top c.args.book.now c.args.task.now c.args.worker.now) c.args.self.now c.self.inside.maps c.self.inside.refutations c.self.view_is
    (fit_found c.args.task.now) c.bring_to_front-in-Some-2.new.entries c.in-Some-2.found c.keeps_keys_and_room-2.ensures (sym c.in_ok-found.ensures ∙ c.in_default.is) (sym c.in_ok-found-2.ensures ∙ c.in-Some-2.is)
    c.bring_to_front-in-Some-2.ensures
