-- The binary search for the least top: which top it tests, and its state after each answer.
use Rattle.std.specs.Prelude.{ℕ, ◌+◌, ◌-◌, ◌/◌, Option, Some, None, if◌then◌else◌, ltb}
use Rattle.target_seek.specs.declared.search.AnswerBelow.{AnswerBelow}
use Rattle.target_seek.specs.declared.search.AnswerBelow.TheVariants as below
use Rattle.target_seek.specs.declared.search.TopRange.{TopRange}
use Rattle.target_seek.specs.declared.search.Stage.{Stage}
use Rattle.target_seek.specs.declared.search.Stage.TheVariants.{Unasked, LastIsUnfit, LastIsOpen, BinarySearch}
use Rattle.target_seek.specs.declared.search.TopSearch.{TopSearch}
use Rattle.target_seek.specs.declared.sought.Sought.{Sought}
use Rattle.target_seek.specs.declared.sought.Sought.TheVariants.{Least, AboveOpen}
use Rattle.target_seek.specs.declared.top_test.TopAnswer.{TopAnswer}
use Rattle.target_seek.specs.declared.top_test.TopAnswer.TheVariants.{Fits, Unfit, Open}

-- All tops from the first to the last.
abbrev pub full_range : ℕ → ℕ → TopRange
full_range first last = record { low = first; high = last; below = below.Nothing }

-- The top in the middle of those that are left, the lower one of two.
abbrev pub middle_of : TopRange → ℕ
middle_of left = left.low + (left.high - left.low) / 2

-- The tops that are left after this answer about one of them.
abbrev pub range_after : TopRange → ℕ → TopAnswer → TopRange
range_after left top Fits = record { low = left.low; high = top; below = left.below }
range_after left top Unfit = record { low = top + 1; high = left.high; below = below.Unfit }
range_after left top Open = record { low = top + 1; high = left.high; below = below.Open }

-- The result at a top, given the answer about the top below it.
abbrev pub found_at : ℕ → AnswerBelow → Sought
found_at top below.Nothing = Least top
found_at top below.Unfit = Least top
found_at top below.Open = AboveOpen top

-- The top to test next: the last one first, then the middle one while more than one is left.
abbrev pub next_at : Stage → Option ℕ
next_at (Unasked first last) = Some last
next_at LastIsUnfit = None
next_at LastIsOpen = None
next_at (BinarySearch left) = (if ltb left.low left.high then Some (middle_of left) else None)

-- The top that a search tests next, if it is not over.
abbrev pub next_of : TopSearch → Option ℕ
next_of search = next_at search.stage

-- The stage after this answer about the top that was tested; a search that is over stays so.
abbrev pub stage_after : Stage → TopAnswer → Stage
stage_after (Unasked first last) Fits = BinarySearch (full_range first last)
stage_after (Unasked first last) Unfit = LastIsUnfit
stage_after (Unasked first last) Open = LastIsOpen
stage_after LastIsUnfit answer = LastIsUnfit
stage_after LastIsOpen answer = LastIsOpen
stage_after (BinarySearch left) answer = BinarySearch (range_after left (middle_of left) answer)

-- A number that falls with each answer: how many tops may turn out not to be the least, and one more before the first
-- answer.
abbrev pub questions_left_at : Stage → ℕ
questions_left_at (Unasked first last) = last - first + 1
questions_left_at LastIsUnfit = 0
questions_left_at LastIsOpen = 0
questions_left_at (BinarySearch left) = left.high - left.low

-- The number of a search that falls with each answer.
abbrev pub questions_left : TopSearch → ℕ
questions_left search = questions_left_at search.stage
