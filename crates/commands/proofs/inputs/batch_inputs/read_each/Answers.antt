-- Each line's scenario was read, or stops the reading.
use Rattle.std.proofs.Common.{inl, inr, ◌≡◌, ◌+◌, ◌∙◌, All, List, Ok, ap, arith, drop, length, refl, subst, sym}
use Rattle.std.proofs.lemmas.List.Elements.{All-nil, All-push, Contains-get_or}
use Rattle.std.specs.Prelude.{Err}
use Rattle.auction_core.specs.Setup.{IsOfAuction}
use Rattle.batch_list.specs.ListOf.{ListedNames}
use Rattle.commands.specs.declared.inputs.Inputs.{Inputs}
use Rattle.commands.specs.declared.inputs.input_file.Stop.TheVariants.{NoMemory}
use Rattle.commands.specs.Batch.{Unread, each_inputs, inputs_with_constraints}
use Rattle.command_words.specs.Words.{inputs_with}
use Rattle.commands.specs.BatchEnds.{StopsAsHeld}
use Rattle.commands.specs.Inputs.{Agrees, CountsFault}
use Rattle.command_words.specs.Words.{batch_view}
use Rattle.commands.proofs.BatchEndLemmas.{behind, each-begins, each-ends, each-next, each-stops, long-more}
use Rattle.commands.proofs.inputs.batch_inputs.read_each.Goals as goal

pub returns-in_default-clause-stopped : goal.returns-in_default-clause-stopped
returns-in_default-clause-stopped g c = record {
  stop = Unread (inputs_with (batch_view c.args.files.now) c.args.files.now.list.now) NoMemory;
  under = inl refl;
  modelled = λ held is. tt;
  counted = record { kept = omega arith; rises = refl };
  explains = c.explain.ensures.explains;
  files = refl;
}

pub loop-line-init : goal.loop-line-init
loop-line-init g c =
    let names = batch_view c.args.files.now in
    let lines = c.deref-line-items.result.now in
    let enough = c.in-Ok.ensures.capacity in
    let long = c.deref-line-items.ensures.len in
    let counted = c.len.ensures in
    record {
      modelled = λ held is. ap (λ done. behind held names c.args.listed.constraints done lines) c.in-Ok.ensures.items ∙ each-begins held names c.args.listed.constraints lines;
      many = ap (λ (l : List Inputs). length l) c.in-Ok.ensures.items;
      room = omega (arith, enough, long, counted);
      auctions = subst (All (λ (i : Inputs). IsOfAuction i.scenario i.book)) (sym c.in-Ok.ensures.items) (All-nil (λ (i : Inputs). IsOfAuction i.scenario i.book));
      files = refl;
      faults = refl;
      steady = refl;
      held = refl;
      sink_faults = refl;
      sure = refl;
    }

pub returns-in-Err-clause-stopped : goal.returns-in-Err-clause-stopped
returns-in-Err-clause-stopped g c =
    let names = batch_view c.args.files.now in
    let constraints = c.args.listed.constraints in
    let at = c.loop-line in
    let line = c.line-item.result in
    let lines = c.deref-line-items.result.now in
    let own = at.invariant in
    record {
      stop = Unread (inputs_with names line.scenario) c.in-Err.stop;
      under = inr (line, rw (sym c.line-item.is, c.deref-line-items.ensures.value) at (Contains-get_or lines at.line-index line c.loop-line-test.true), refl);
      modelled = λ held is.
          let agrees : Agrees {A = Inputs} {B = Inputs} (λ x. x) (g.F.Folder.modelled c.args.folder.now).steady (inputs_with_constraints held constraints line.scenario) (Err c.in-Err.stop) =
          subst (λ name. Agrees {A = Inputs} {B = Inputs} (λ x. x) (g.F.Folder.modelled c.args.folder.now).steady (inputs_with_constraints held constraints name) (Err c.in-Err.stop)) c.scenario.ensures
          (subst (λ still. Agrees {A = Inputs} {B = Inputs} (λ x. x) still (inputs_with_constraints held constraints c.scenario.result.now) (Err c.in-Err.stop)) own.steady
          (c.in-Err.ensures.modelled held (own.files ∙ is))) in
          subst (λ (ls : List ListedNames). StopsAsHeld (g.F.Folder.modelled c.args.folder.now).steady (each_inputs held names constraints ls) (Unread (inputs_with names line.scenario) c.in-Err.stop)) c.deref-line-items.ensures.value
          (each-stops held names constraints (g.F.Folder.modelled c.args.folder.now).steady at.inputs.items lines at.line-index line c.in-Err.stop (own.modelled held is) c.loop-line-test.true c.line-item.is agrees);
      counted = subst (λ n. CountsFault {A = Inputs} n (g.F.Folder.modelled c.inputs_with_constraints.new.folder).faults (Err c.in-Err.stop)) own.faults c.in-Err.ensures.counted;
      explains = rw (c.scenario-in-Err.ensures, own.held, own.sink_faults) at c.explain_batch_stop.ensures.explains;
      files = c.in-Err.ensures.files ∙ own.files;
    }

pub loop-line-preserved : goal.loop-line-preserved
loop-line-preserved g c =
    let names = batch_view c.args.files.now in
    let constraints = c.args.listed.constraints in
    let at = c.loop-line in
    let line = c.line-item.result in
    let lines = c.deref-line-items.result.now in
    let own = at.invariant in
    let x = c.in-Ok-inputs_with_constraints.read in
    let read = c.in-Ok-inputs_with_constraints.ensures in
    let enough = own.room in
    let more = c.push_reserved.ensures.capacity in
    record {
      modelled = λ held is.
          let beside : inputs_with_constraints held constraints line.scenario ≡ Ok x = ap (inputs_with_constraints held constraints) (sym c.scenario.ensures) ∙ read.modelled held (own.files ∙ is) in
          ap (λ done. behind held names constraints done (drop (at.line-index + 1) lines)) c.push_reserved.ensures.items
          ∙ (sym (each-next held names constraints at.inputs.items lines at.line-index line x c.loop-line-test.true c.line-item.is beside) ∙ own.modelled held is);
      many = ap (λ (l : List Inputs). length l) c.push_reserved.ensures.items ∙ (long-more at.inputs.items x ∙ ap (λ n. n + 1) own.many);
      room = omega (arith, enough, more);
      auctions = subst (All (λ (i : Inputs). IsOfAuction i.scenario i.book)) (sym c.push_reserved.ensures.items)
          (All-push (λ (i : Inputs). IsOfAuction i.scenario i.book) at.inputs.items x own.auctions (record { limits = read.limits; stations = read.stations }));
      files = read.files ∙ own.files;
      faults = read.counted.rises ∙ own.faults;
      steady = read.steady ∙ own.steady;
      held = own.held;
      sink_faults = own.sink_faults;
      sure = own.sure;
    }

pub returns-clause-modelled : goal.returns-clause-modelled
returns-clause-modelled g c = λ held is.
    let names = batch_view c.args.files.now in
    let constraints = c.args.listed.constraints in
    let at = c.loop-line in
    let lines = c.deref-line-items.result.now in
    ap (each_inputs held names constraints) (sym c.deref-line-items.ensures.value)
    ∙ (sym (at.invariant.modelled held is) ∙ each-ends held names constraints at.inputs.items lines at.line-index c.loop-line-test.false)

pub returns-clause-same : goal.returns-clause-same
returns-clause-same g c =
    let own = c.loop-line.invariant in
    λ i. record { files = own.files i; faults = own.faults i; steady = own.steady i; held = own.held i; sink_faults = own.sink_faults i; sure = own.sure i }
