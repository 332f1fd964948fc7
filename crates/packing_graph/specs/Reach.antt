-- A graph search over stations: the reached stations, and those of them still to visit.
use Rattle.std.specs.Prelude.{ℕ, ◌+◌, ◌≤◌, ◌⊎◌, Bool, not, List, length, filter, IsTrue}
use Rattle.pack_defs.specs.Lists.{is_in}

-- The number of stations on air that are not reached.
abbrev pub count_unseen : List ℕ → (ℕ → Bool) → ℕ
count_unseen on seen = length (filter (λ t. not (seen t)) on)

-- After a visit of these neighbours: those on air are reached, and each newly reached station is one of them and waits.
pub record IsVisited (on near : List ℕ) (seen : ℕ → Bool) (waiting : List ℕ) (after : ℕ → Bool) (longer : List ℕ) : Type 0 where
  pub kept : (t : ℕ) → IsTrue (seen t) → IsTrue (after t)
  pub reached : (t : ℕ) → IsTrue (is_in near t) → IsTrue (is_in on t) → IsTrue (after t)
  pub new : (t : ℕ) → IsTrue (after t) → IsTrue (seen t) ⊎ (IsTrue (is_in near t) × IsTrue (is_in on t) × IsTrue (is_in longer t))
  pub still : (t : ℕ) → IsTrue (is_in waiting t) → IsTrue (is_in longer t)
  pub led : (t : ℕ) → IsTrue (is_in longer t) → IsTrue (is_in waiting t) ⊎ IsTrue (after t)
  pub counted : length longer + count_unseen on after ≤ length waiting + count_unseen on seen
