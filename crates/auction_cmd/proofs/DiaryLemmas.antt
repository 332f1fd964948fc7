-- What the program promises of the diary, from the calls that its parts make.
use Rattle.std.proofs.Common.{◌≡◌, ◌⊎◌, ℕ, true, inl, inr, List, [], ◌∷◌, Option, Some, None, refl, sym, subst}
use Rattle.std.specs.Prelude.{IsSome, IsTrue, is_some}
use Rattle.std.proofs.lemmas.Bool.{false≢true}
use Rattle.pack_defs.specs.Lists.{is_in}
use Rattle.auction_core.specs.declared.record.Record.{Record}
use Rattle.outside_io.specs.Diary.{FolderCall, with_call}
use Rattle.command_words.specs.Words.{Command, run, check, verify, show, resume, seek, batch, make, export, import}
use Rattle.commands.specs.Calls.{Diary, HasAsked, IsReadUpTo, RunCalls, after_calls, input_calls}
use Rattle.commands.specs.Calls.IsPartRead.{NotAsked}
use Rattle.commands.specs.Calls.ConcludesCalls.{NoStore, Stores}
use Rattle.commands.specs.Calls.RunCalls.{Unread, Stopped, AllRead}
use Rattle.commands.specs.Messages.{unread_line}
use Rattle.commands.specs.Outside.{Outside, IsLinePrinted}
use Rattle.commands.specs.Plan.{Plan, no_command, repeats, carries}
use Rattle.commands.specs.declared.finish.Finish.{Finish}
use Rattle.commands.proofs.Statuses.{apart-lists, off, one-of}
use Rattle.auction_cmd.specs.DiaryPromises.{CommandDiary, ProgramDiary, RunDiary}

not-both : (found : Option Record) → found ≡ None → IsSome found → ⊥
not-both found none some = false≢true (subst (λ (o : Option Record). is_some o ≡ true) none some)

-- a reading that went to its end
all-read : (calls : List FolderCall) (old new : Diary) → new ≡ after_calls calls old → IsReadUpTo calls None old new
all-read [] old new same = same
all-read (x ∷ xs) old new same = inr (all-read xs (with_call x old) new same)

module _ (calls : List FolderCall) (before after : Outside) (old new : Diary) (status : ℕ) (found : Option Record) where
  unread : RunCalls calls before after old new status found → status ≡ 3 → (name : List ℕ) × IsReadUpTo calls (Some name) old new × IsLinePrinted before after (unread_line name)
  unread (Unread three none name upto line) is = (name, upto, line)
  unread (Stopped at none upto) is = absurd (off (5 ∷ 8 ∷ []) status 3 at is refl)
  unread (AllRead (NoStore at none same)) is = absurd (off (6 ∷ 7 ∷ 8 ∷ []) status 3 at is refl)
  unread (AllRead (Stores at asked)) is = absurd (off (0 ∷ 1 ∷ 4 ∷ 8 ∷ []) status 3 at is refl)

  refused : RunCalls calls before after old new status found → status ≡ 5 → IsReadUpTo calls None old new
  refused (Unread three none name upto line) is = absurd (off (3 ∷ []) status 5 (one-of (3 ∷ []) status 3 three refl) is refl)
  refused (Stopped at none upto) is = upto
  refused (AllRead (NoStore at none same)) is = absurd (off (6 ∷ 7 ∷ 8 ∷ []) status 5 at is refl)
  refused (AllRead (Stores at asked)) is = absurd (off (0 ∷ 1 ∷ 4 ∷ 8 ∷ []) status 5 at is refl)

  unfit : RunCalls calls before after old new status found → IsTrue (is_in (6 ∷ 7 ∷ []) status) → new ≡ after_calls calls old
  unfit (Unread three none name upto line) is = absurd (off (6 ∷ 7 ∷ []) status 3 is three refl)
  unfit (Stopped at none upto) is = absurd (apart-lists (5 ∷ 8 ∷ []) (6 ∷ 7 ∷ []) status refl at is)
  unfit (AllRead (NoStore at none same)) is = same
  unfit (AllRead (Stores at asked)) is = absurd (apart-lists (0 ∷ 1 ∷ 4 ∷ 8 ∷ []) (6 ∷ 7 ∷ []) status refl at is)

  stored : RunCalls calls before after old new status found → IsTrue (is_in (0 ∷ 1 ∷ 4 ∷ []) status) → HasAsked (after_calls calls old) new
  stored (Unread three none name upto line) is = absurd (off (0 ∷ 1 ∷ 4 ∷ []) status 3 is three refl)
  stored (Stopped at none upto) is = absurd (apart-lists (5 ∷ 8 ∷ []) (0 ∷ 1 ∷ 4 ∷ []) status refl at is)
  stored (AllRead (NoStore at none same)) is = absurd (apart-lists (6 ∷ 7 ∷ 8 ∷ []) (0 ∷ 1 ∷ 4 ∷ []) status refl at is)
  stored (AllRead (Stores at asked)) is = asked

  ended-early : RunCalls calls before after old new status found → status ≡ 8 → IsReadUpTo calls None old new ⊎ HasAsked (after_calls calls old) new
  ended-early (Unread three none name upto line) is = absurd (off (3 ∷ []) status 8 (one-of (3 ∷ []) status 3 three refl) is refl)
  ended-early (Stopped at none upto) is = inl upto
  ended-early (AllRead (NoStore at none same)) is = inl (all-read calls old new same)
  ended-early (AllRead (Stores at asked)) is = inr asked

  starved : RunCalls calls before after old new status found → status ≡ 8 → IsSome found → HasAsked (after_calls calls old) new
  starved (Unread three none name upto line) is some = absurd (not-both found none some)
  starved (Stopped at none upto) is some = absurd (not-both found none some)
  starved (AllRead (NoStore at none same)) is some = absurd (not-both found (none is) some)
  starved (AllRead (Stores at asked)) is some = asked

  pub run-diary : RunCalls calls before after old new status found → RunDiary calls before after old new status found
  run-diary made = record {
    unread_named = λ is. unread made is;
    rejected_in_order = λ is. refused made is;
    only_read = λ is. unfit made is;
    read_and_stored = λ is. stored made is;
    unfinished = λ is. ended-early made is;
    recorded_if_asked = λ is some. starved made is some;
  }

-- memory ran out before a command was carried out
starved-command : (command : Command) (before after : Outside) (old : Diary) (finish : Finish) → finish.status ≡ 8 → finish.result ≡ None → CommandDiary command before after old old finish
starved-command (run names) before after old finish eight none = λ kept.
    run-diary (input_calls names.inputs) before after old old finish.status finish.result (Stopped (one-of (5 ∷ 8 ∷ []) finish.status 8 eight refl) none (inl (NotAsked refl)))
starved-command (check names) before after old finish eight none = tt
starved-command (verify names) before after old finish eight none = tt
starved-command (show names) before after old finish eight none = tt
starved-command (resume names) before after old finish eight none = tt
starved-command (seek names) before after old finish eight none = tt
starved-command (batch names) before after old finish eight none = tt
starved-command (make names) before after old finish eight none = tt
starved-command (export names) before after old finish eight none = tt
starved-command (import names) before after old finish eight none = tt

pub starved-diary : (plan : Plan) (before after : Outside) (old : Diary) (finish : Finish) → finish.status ≡ 8 → finish.result ≡ None → ProgramDiary plan before after old old finish
starved-diary no_command before after old finish eight none = refl
starved-diary (repeats name) before after old finish eight none = refl
starved-diary (carries command) before after old finish eight none = starved-command command before after old finish eight none

-- the plan that the words ask for
pub planned : (plan own : Plan) (before after : Outside) (old new : Diary) (finish : Finish) → plan ≡ own → ProgramDiary own before after old new finish → ProgramDiary plan before after old new finish
planned plan own before after old new finish is h = subst (λ (p : Plan). ProgramDiary p before after old new finish) (sym is) h
