-- All texts were stored, or the first that was not is reported.
use Rattle.std.proofs.Common.{map, subst}
use Rattle.std.proofs.lemmas.Option.{get_or_from_slice_get}
use Rattle.outside_io.specs.StoreAll.{stored_file}
use Rattle.outside_io.specs.declared.folder.NewFile.{NewFile}
use Rattle.commands.specs.Delivery.{ExplainsStore}
use Rattle.commands.proofs.DeliveryLemmas.{all-stored, all-uncounted, stops-counted, stops-stored}
use Rattle.commands.proofs.CallLemmas.{asked-stop, asked-texts}
use Rattle.commands.proofs.delivery.store_all.Goals as goal

pub returns-in-Ok-clause-stored : goal.returns-in-Ok-clause-stored
returns-in-Ok-clause-stored g c = all-stored c.args.texts.now _ _ (g.K.Sink.modelled c.args.out.now) c.in-Ok.ensures.stored

pub returns-in-Ok-clause-faults_unchanged : goal.returns-in-Ok-clause-faults_unchanged
returns-in-Ok-clause-faults_unchanged g c = all-uncounted (map stored_file c.args.texts.now) _ _ c.in-Ok.ensures.stored

pub returns-in-Err-clause-counted : goal.returns-in-Err-clause-counted
returns-in-Err-clause-counted g c =
    stops-counted (map stored_file c.args.texts.now) c.in-Err.unstored.at c.in-Err.unstored.why _ _ (g.K.Sink.modelled c.args.out.now) (g.K.Sink.modelled c.print_unstored.new.out) c.print_unstored.result _ c.in-Err.ensures.stopped c.print_unstored.ensures

pub returns-in-Err-clause-stopped : goal.returns-in-Err-clause-stopped
returns-in-Err-clause-stopped g c =
    let sink = g.K.Sink.modelled c.args.out.now in
    let said = g.K.Sink.modelled c.print_unstored.new.out in
    let why = c.in-Err.unstored.why in
    stops-stored c.args.texts.now c.in-Err.unstored.at why _ _ sink said c.print_unstored.result c.in-Err.ensures.stopped
    (λ y there. subst (λ (z : NewFile). ExplainsStore z.name.now why sink.held said.held sink.faults said.faults c.print_unstored.result) (get_or_from_slice_get c.args.texts.now c.in-Err.unstored.at y _ there) c.print_unstored.ensures)

pub returns-in-Ok-clause-asked : goal.returns-in-Ok-clause-asked
returns-in-Ok-clause-asked g c = λ some kept. asked-texts c.args.texts.now _ _ some c.in-Ok.ensures.stored kept

pub returns-in-Err-clause-asked : goal.returns-in-Err-clause-asked
returns-in-Err-clause-asked g c = λ some kept. asked-stop (map stored_file c.args.texts.now) c.in-Err.unstored.at c.in-Err.unstored.why _ _ c.in-Err.ensures.stopped kept
