-- The stations ascend.
use Rattle.std.proofs.Common.{◌≡◌, ◌∙◌, subst, sym, true}
use Rattle.pack_defs.proofs.Words.{ascending-from}
use Rattle.pack_defs.specs.Lists.{is_ascending}
use Rattle.pack_defs.specs.Scenario.{facilities}
use Rattle.outside_io.specs.declared.diary.CallEnd.TheVariants.{Done}
use Rattle.commands.specs.Calls.{loaded_as}
use Rattle.commands.proofs.CallLemmas.{whole-part}
use Rattle.commands.proofs.inputs.owners_from.Goals as goal

pub read_owners-requires : goal.read_owners-requires
read_owners-requires g c =
    let same : c.deref-2.result.now ≡ facilities c.args.scenario.now = c.deref-2.ensures.value ∙ c.in_ok-ids.ensures in
    subst (λ ids. is_ascending ids ≡ true) (sym same) (ascending-from (facilities c.args.scenario.now) c.requires.ascend)

pub returns-in-Err-Row-clause-called : goal.returns-in-Err-Row-clause-called
returns-in-Err-Row-clause-called g c = whole-part (loaded_as Done c.args.name.now) _ _ c.in_ok-bytes.ensures.called

pub returns-clause-called : goal.returns-clause-called
returns-clause-called g c = whole-part (loaded_as Done c.args.name.now) _ _ c.in_ok-bytes.ensures.called
