-- The plan of the words, and how it ends.
use Rattle.std.proofs.Common.{refl, sym}
use Rattle.command_words.specs.Words.{command_view}
use Rattle.auction_cmd.specs.Program.ProgramEnds.{Carried, Repeated, Usage}
use Rattle.auction_cmd.proofs.PlanLemmas.{plan-carries, plan-none, plan-repeats}
use Rattle.auction_cmd.proofs.DiaryLemmas.{planned, starved-diary}
use Rattle.auction_cmd.proofs.auction.answer.Goals as goal

pub returns-in-Some-clause-ends : goal.returns-in-Some-clause-ends
returns-in-Some-clause-ends g c =
    Repeated c.in-Some.name.now (plan-repeats _ (command_view c.in-Ok.command) c.in-Some.name.now c.in-Ok.ensures.command c.in-Some.ensures) c.refuse_twice.ensures.status
    (record { line = c.refuse_twice.ensures.says; files = refl; faults = refl; none = c.refuse_twice.ensures.none })

pub returns-in-None-clause-ends : goal.returns-in-None-clause-ends
returns-in-None-clause-ends g c =
    Carried (command_view c.in-Ok.command) (plan-carries _ (command_view c.in-Ok.command) c.in-Ok.ensures.command c.in-None.ensures) (sym c.in-None.ensures) c.carry_out.ensures.ends

pub returns-in-Err-Refused-clause-ends : goal.returns-in-Err-Refused-clause-ends
returns-in-Err-Refused-clause-ends g c =
    Usage _ (plan-none _ ((rw c.in-Err-Refused.field-0-is at c.in-Err-Refused.ensures.refused) tt)) c.explain_usage.ensures.status
    (record { line = c.explain_usage.ensures.says; files = refl; faults = refl; none = c.explain_usage.ensures.none })

pub returns-in-Some-clause-called : goal.returns-in-Some-clause-called
returns-in-Some-clause-called g c =
    planned _ _ _ _ _ _ _ (plan-repeats _ (command_view c.in-Ok.command) c.in-Some.name.now c.in-Ok.ensures.command c.in-Some.ensures) refl

pub returns-in-None-clause-called : goal.returns-in-None-clause-called
returns-in-None-clause-called g c =
    planned _ _ _ _ _ _ _ (plan-carries _ (command_view c.in-Ok.command) c.in-Ok.ensures.command c.in-None.ensures) c.carry_out.ensures.called

pub returns-in-Err-Refused-clause-called : goal.returns-in-Err-Refused-clause-called
returns-in-Err-Refused-clause-called g c = planned _ _ _ _ _ _ _ (plan-none _ ((rw c.in-Err-Refused.field-0-is at c.in-Err-Refused.ensures.refused) tt)) refl

pub returns-in-Err-NoMemory-clause-called : goal.returns-in-Err-NoMemory-clause-called
returns-in-Err-NoMemory-clause-called g c = starved-diary _ _ _ _ _ c.end_out_of_memory.ensures.status c.end_out_of_memory.ensures.none
