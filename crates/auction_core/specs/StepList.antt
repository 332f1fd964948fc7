-- How the steps of an auction are stored: a line for each, and a separate list of verdicts for the steps that have one. The
-- representation is this project's own.
use Rattle.std.specs.Prelude.{ℕ, zero, suc, Bool, true, false, ◌+◌, ◌==◌, if◌then◌else◌, List, [], ◌∷◌, ◌++◌, ◌≡◌, length, unwrap_or}
use Rattle.std.specs.List.{list_all}
use Rattle.auction_core.specs.declared.record.Shown.{Shown}
use Rattle.auction_core.specs.declared.record.Shown.TheVariants.{Empty, Fits, Same, NoChannel, Refuted, Outside, Undecided}
use Rattle.auction_core.specs.declared.record.Step.{Step}
use Rattle.auction_core.specs.declared.step_list.StepLine.{StepLine}
use Rattle.auction_core.specs.declared.step_list.StepKind.{StepKind}
use Rattle.auction_core.specs.declared.step_list.StepKind.TheVariants.{Verdict, SameSet, Channelless}
use Rattle.auction_core.specs.State.{fit_of}

-- The step kind of a step settled in this way.
abbrev pub step_kind_of : Shown → StepKind
step_kind_of Empty = Verdict
step_kind_of (Fits delta) = Verdict
step_kind_of Same = SameSet
step_kind_of (NoChannel s) = Channelless
step_kind_of (Refuted worker how) = Verdict
step_kind_of (Outside proof) = Verdict
step_kind_of (Undecided receipts) = Verdict

-- Whether a step of this kind has a verdict of its own.
abbrev pub has_verdict : StepKind → Bool
has_verdict Verdict = true
has_verdict SameSet = false
has_verdict Channelless = false

-- Whether a step settled by a missing channel names station s; true for every other step.
abbrev pub names_only : ℕ → Shown → Bool
names_only s (NoChannel f) = f == s
names_only s _ = true

-- How the first step was settled, given its kind, its station and the verdicts from there on.
abbrev pub shown_of_line : StepKind → ℕ → List Shown → Shown
shown_of_line Verdict s [] = Empty
shown_of_line Verdict s (x ∷ xs) = x
shown_of_line SameSet s told = Same
shown_of_line Channelless s told = NoChannel s

-- The verdicts after the first step, given its kind.
abbrev pub verdicts_after : StepKind → List Shown → List Shown
verdicts_after Verdict [] = []
verdicts_after Verdict (x ∷ xs) = xs
verdicts_after SameSet told = told
verdicts_after Channelless told = told

-- The steps of these lines and verdicts.
abbrev pub merged : List StepLine → List Shown → List Step
merged [] told = []
merged (l ∷ ls) told =
    record { round = l.round; station = l.station; shown = shown_of_line l.step_kind l.station told } ∷ merged ls (verdicts_after l.step_kind told)

-- The number of lines that have a verdict of their own.
abbrev pub verdict_count : List StepLine → ℕ
verdict_count [] = 0
verdict_count (l ∷ ls) = (if has_verdict l.step_kind then 1 else 0) + verdict_count ls

-- The line of a step.
abbrev pub step_line_of : Step → StepLine
step_line_of x = record { round = x.round; station = x.station; step_kind = step_kind_of x.shown }

-- Whether there is one verdict for each line that has one of its own, and nothing else among the verdicts.
pub record IsKept (lines : List StepLine) (told : List Shown) : Type 0 where
  pub each : verdict_count lines ≡ length told
  pub verdicts : list_all (λ x. has_verdict (step_kind_of x)) told ≡ true

-- The verdicts once a test is settled in this way.
abbrev pub verdicts_with : List Shown → Shown → List Shown
verdicts_with told shown = if has_verdict (step_kind_of shown) then told ++ shown ∷ [] else told

-- The entries of the fit at this place among the verdicts, counted from 1; empty at 0, or if the verdict there is no fit.
abbrev pub fit_at : List Shown → ℕ → List (ℕ × ℕ)
fit_at told zero = []
fit_at [] (suc n) = []
fit_at (x ∷ xs) (suc zero) = unwrap_or (fit_of x) []
fit_at (x ∷ xs) (suc (suc n)) = fit_at xs (suc n)

-- The steps, the verdicts among them, and room for how many further steps and verdicts.
pub record StepListView : Type 0 where
  pub steps : List Step
  pub told : List Shown
  pub room : ℕ
  pub verdicts : ℕ
