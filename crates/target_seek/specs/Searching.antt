-- The invariant of a search for the least top: how its state relates to the answers so far.
use Rattle.std.specs.Prelude.{ℕ, ◌≡◌, ◌≤◌, ◌<◌, ◌+◌, ◌-◌, ◌^◌, List, [], ◌∷◌, ◌++◌, Some, None, Result, IfOk, length}
use Rattle.pack_defs.specs.Limits.{GREATEST_CHANNEL, LEAST_CHANNEL}
use Rattle.target_seek.specs.declared.search.AnswerBelow.{AnswerBelow}
use Rattle.target_seek.specs.declared.search.AnswerBelow.TheVariants as below
use Rattle.target_seek.specs.declared.search.TopRange.{TopRange}
use Rattle.target_seek.specs.declared.search.Stage.{Stage}
use Rattle.target_seek.specs.declared.search.Stage.TheVariants.{Unasked, LastIsUnfit, LastIsOpen, BinarySearch}
use Rattle.target_seek.specs.declared.search.TopSearch.{TopSearch}
use Rattle.target_seek.specs.declared.top_test.TopAnswer.TheVariants.{Fits, Unfit, Open}
use Rattle.target_seek.specs.declared.sought.Sought.{Sought}
use Rattle.target_seek.specs.BinarySearch.{next_at, next_of, stage_after}
use Rattle.target_seek.specs.TopChannels.{AskedTop, IsSought, WasAnswered}

-- Whether this is the answer about the top below the lowest one that is left.
abbrev pub IsBelow : ℕ → List AskedTop → ℕ → AnswerBelow → Type 0
IsBelow first asked low below.Nothing = low ≡ first
IsBelow first asked low below.Unfit = (first < low) × WasAnswered asked (low - 1) Unfit
IsBelow first asked low below.Open = (first < low) × WasAnswered asked (low - 1) Open

-- Whether no top was tested yet; all of them are from 14 to 51.
pub record IsUnasked (first last : ℕ) (asked : List AskedTop) (lowest highest : ℕ) : Type 0 where
  pub from_first : lowest ≡ first
  pub to_last : highest ≡ last
  pub nothing : asked ≡ []
  pub least : LEAST_CHANNEL ≤ first
  pub ordered : first ≤ last
  pub most : last ≤ GREATEST_CHANNEL

-- Whether the tops that are left are between the first and the last, the answers about the highest and about the one
-- below the lowest are known, and the tests that may still come, of seven in all, suffice.
pub record IsBinarySearch (first last : ℕ) (asked : List AskedTop) (left : TopRange) : Type 0 where
  pub ordered : left.low ≤ left.high
  pub least : first ≤ left.low
  pub most : left.high ≤ last
  pub fits : WasAnswered asked left.high Fits
  pub below : IsBelow first asked left.low left.below
  pub questions : ℕ
  pub counted : length asked + questions ≡ 7
  pub narrow : left.high - left.low < 2 ^ questions

-- Whether the answers so far lead to this stage: none; only the last top, with its answer; or the last top fits and
-- the binary search is running.
abbrev pub IsStage : ℕ → ℕ → List AskedTop → Stage → Type 0
IsStage first last asked (Unasked lowest highest) = IsUnasked first last asked lowest highest
IsStage first last asked LastIsUnfit = asked ≡ record { top = last; answer = Unfit } ∷ []
IsStage first last asked LastIsOpen = asked ≡ record { top = last; answer = Open } ∷ []
IsStage first last asked (BinarySearch left) = IsBinarySearch first last asked left

-- Whether each answer is about the top that was to be tested next, and the answers in order lead from one stage to
-- the other.
abbrev pub Leads : Stage → List AskedTop → Stage → Type 0
Leads from [] to = to ≡ from
Leads from (x ∷ xs) to = (next_at from ≡ Some x.top) × Leads (stage_after from x.answer) xs to

-- Whether a search from the first to the last of these tops has come so far by exactly these answers, each about the
-- top that was next.
pub record IsSearching (first last : ℕ) (asked : List AskedTop) (search : TopSearch) : Type 0 where
  pub stage : IsStage first last asked search.stage
  pub binary_searched : Leads (Unasked first last) asked search.stage

-- Whether a search from the first to the last of these tops tested at most seven of them, after those tested before;
-- and if it succeeded, it is over with this result.
pub record IsSearched {E : Type 0} (first last : ℕ) (before after : List AskedTop) (result : Result Sought E) : Type 0 where
  pub more : List AskedTop
  pub search : TopSearch
  pub asked : after ≡ before ++ more
  pub few : length more ≤ 7
  pub searching : IsSearching first last more search
  pub found : IfOk result (λ sought. (next_of search ≡ None) × IsSought first last more sought)
