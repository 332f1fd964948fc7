-- The answer's texts are delivered, or the line of what is lacking is printed.
use Rattle.std.proofs.Common.{map, refl, ap}
use Rattle.commands.specs.Views.{answer_text, answer_view}
use Rattle.commands.proofs.ShownLemmas.{answered-ends, lack-ends}
use Rattle.commands.proofs.view.answer_for.Goals as goal

pub returns-in-Tells-clause-ends : goal.returns-in-Tells-clause-ends
returns-in-Tells-clause-ends g c =
    answered-ends (g.V.View.shown c.args.view.now) (g.V.View.says c.args.view.now) _ _ _ c.args.inputs.now c.args.rec.now (answer_view c.in-Ok.answer)
    (map answer_text c.in-Tells.texts.stored.items) c.in-Tells.texts.printed.items c.in-Tells.texts.status c.requires.shown c.in-Ok.ensures (ap answer_view c.in-Tells.is) c.tell.ensures.tells

pub returns-clause-ends : goal.returns-clause-ends
returns-clause-ends g c =
    lack-ends (g.V.View.shown c.args.view.now) (g.V.View.says c.args.view.now) _ _ 10 c.args.inputs.now c.args.rec.now (answer_view c.in-Ok.answer)
    c.in-Lacks.line.items c.requires.shown c.in-Ok.ensures (ap answer_view c.in-Lacks.is) refl (rw c.deref.ensures.value at c.print_text.ensures.says) refl
