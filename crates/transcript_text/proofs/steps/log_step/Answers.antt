use Rattle.std.proofs.Common.{◌≡◌, subst, sym, true}
use Rattle.pack_defs.specs.Lists.{is_ascending}
use Rattle.transcript_text.proofs.CursorLemmas.{left_fields}
use Rattle.transcript_text.proofs.Rising.{stations-ascend}
use Rattle.transcript_text.proofs.steps.log_step.Goals as goal

pub clause_count-first-requires : goal.clause_count-first-requires
clause_count-first-requires c = subst (λ xs. is_ascending xs ≡ true) (sym c.deref.ensures.value) (stations-ascend c.args.sc.now c.line.inside.number (left_fields c.into_rest.result) c.in_ok-subset.subset.items c.in_ok-subset.ensures)
