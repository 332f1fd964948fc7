-- The promises of the program follow from how it ends.
use Rattle.std.proofs.Common.{◌≡◌, ◌⊎◌, ◌∙◌, ℕ, inl, inr, List, [], ◌∷◌, refl, sym, subst, arith, None}
use Rattle.commands.specs.declared.finish.Finish.{Finish}
use Rattle.commands.specs.Messages.{memory_line, twice_line}
use Rattle.commands.specs.Outside.{IsLinePrinted, Outside}
use Rattle.commands.specs.Plan.{Plan, no_command, repeats, carries, plan_of}
use Rattle.auction_cmd.specs.Program.{CommandEnds, CommandPromises, Declines, LeavesAll, ProgramEnds, ProgramPromises}
use Rattle.auction_cmd.specs.Program.ProgramEnds.{EndedOutOfMemory, Usage, Repeated, Carried}
use Rattle.command_words.specs.Words.{Command, run, check, verify, show, resume, seek, batch, make, export, import, command_of, repeated_by}
use Rattle.commands.proofs.Statuses.{off}
use Rattle.auction_cmd.proofs.PlanLemmas.{asked-of}
use Rattle.auction_cmd.proofs.PromiseLemmas.{command-promises, starved-ends}

same-command : (a b : Command) → carries a ≡ carries b → a ≡ b
same-command a b e = cc

same-name : (a b : List ℕ) → repeats a ≡ repeats b → a ≡ b
same-name a b e = cc

module _ (plan : Plan) (before after : Outside) (finish : Finish) where
  -- no command is carried out
  nothing : {line : List ℕ} → (finish.status ≡ 8 → line ≡ memory_line) → Declines before after finish line → LeavesAll before after finish
  nothing is d = record { none = d.none; files = d.files; faults = d.faults; memory = λ eight. subst (IsLinePrinted before after) (is eight) d.line }

  usage : ProgramEnds plan before after finish → plan ≡ no_command → LeavesAll before after finish × ((finish.status ≡ 2) ⊎ (finish.status ≡ 8))
  usage (EndedOutOfMemory eight d) none = (nothing (λ e. refl) d, inr eight)
  usage (Usage text is two d) none = (nothing (λ eight. absurd (omega arith)) d, inl two)
  usage (Repeated name is five d) none = cc
  usage (Carried command is once end) none = cc

  twice : (name : List ℕ) → ProgramEnds plan before after finish → plan ≡ repeats name →
      LeavesAll before after finish × (((finish.status ≡ 5) × IsLinePrinted before after (twice_line name)) ⊎ (finish.status ≡ 8))
  twice name (EndedOutOfMemory eight d) is = (nothing (λ e. refl) d, inr eight)
  twice name (Usage text none two d) is = cc
  twice name (Repeated own is_own five d) is =
      (nothing (λ eight. absurd (omega arith)) d, inl (five, subst (λ n. IsLinePrinted before after (twice_line n)) (same-name own name (sym is_own ∙ is)) d.line))
  twice name (Carried command is_own once end) is = cc

  -- no command ends at status 2
  never-usage : (asked : Command) → CommandPromises asked before after finish → finish.status ≡ 2 → ⊥
  never-usage (run names) (p, verifies, others) two = off (0 ∷ 1 ∷ 3 ∷ 4 ∷ 5 ∷ 6 ∷ 7 ∷ 8 ∷ []) finish.status 2 p.statuses two refl
  never-usage (check names) (p, others) two = off (0 ∷ 3 ∷ 4 ∷ 5 ∷ 8 ∷ []) finish.status 2 p.statuses two refl
  never-usage (verify names) (p, others) two = off (0 ∷ 1 ∷ 3 ∷ 4 ∷ 5 ∷ 8 ∷ 9 ∷ []) finish.status 2 p.statuses two refl
  never-usage (show names) (p, none) two = off (0 ∷ 1 ∷ 3 ∷ 4 ∷ 5 ∷ 8 ∷ 9 ∷ 10 ∷ []) finish.status 2 p.view.statuses two refl
  never-usage (resume names) (p, others) two = off (0 ∷ 1 ∷ 3 ∷ 4 ∷ 5 ∷ 6 ∷ 7 ∷ 8 ∷ 9 ∷ []) finish.status 2 p.statuses two refl
  never-usage (seek names) (p, none) two = off (0 ∷ 1 ∷ 3 ∷ 4 ∷ 5 ∷ 6 ∷ 7 ∷ 8 ∷ []) finish.status 2 p.statuses two refl
  never-usage (batch names) (p, alone) two = off (0 ∷ 1 ∷ 3 ∷ 4 ∷ 5 ∷ 8 ∷ 11 ∷ []) finish.status 2 p.statuses two refl
  never-usage (make names) (p, others) two = off (0 ∷ 1 ∷ 4 ∷ 8 ∷ []) finish.status 2 p.statuses two refl
  never-usage (export names) (p, none) two = off (0 ∷ 1 ∷ 3 ∷ 4 ∷ 5 ∷ 8 ∷ 9 ∷ 10 ∷ []) finish.status 2 p.view.statuses two refl
  never-usage (import names) (p, others) two = off (0 ∷ 1 ∷ 3 ∷ 4 ∷ 5 ∷ 8 ∷ 9 ∷ 10 ∷ []) finish.status 2 p.statuses two refl

  usage-only : ProgramEnds plan before after finish → finish.status ≡ 2 → plan ≡ no_command
  usage-only (EndedOutOfMemory eight d) two = absurd (omega arith)
  usage-only (Usage text none is_two d) two = none
  usage-only (Repeated name is five d) two = absurd (omega arith)
  usage-only (Carried command is once end) two = absurd (never-usage command (command-promises before after finish command once end) two)

  -- the command that was carried out is the one that the words are
  carried : (words : List (List ℕ)) (asked : Command) → ProgramEnds plan before after finish → plan ≡ plan_of words → plan ≡ carries asked → CommandPromises asked before after finish
  carried words asked (EndedOutOfMemory eight d) of is =
      let known = asked-of (command_of words) asked (sym of ∙ is) in
      command-promises before after finish asked known.once (starved-ends before after finish words asked known.is eight d)
  carried words asked (Usage text none two d) of is = cc
  carried words asked (Repeated name is_own five d) of is = cc
  carried words asked (Carried command is_own once end) of is =
      let same = same-command command asked (sym is_own ∙ is) in
      command-promises before after finish asked (subst (λ c. repeated_by c ≡ None) same once) (subst (λ c. CommandEnds c before after finish) same end)

pub program-promises : (words : List (List ℕ)) (before after : Outside) (finish : Finish) → ProgramEnds (plan_of words) before after finish → ProgramPromises (plan_of words) before after finish
program-promises words before after finish end = record {
  usage = usage (plan_of words) before after finish end;
  usage_only = usage-only (plan_of words) before after finish end;
  twice = λ name is. twice (plan_of words) before after finish name end is;
  command = λ asked is. carried (plan_of words) before after finish words asked end refl is;
}
