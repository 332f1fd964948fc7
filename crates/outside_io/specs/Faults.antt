-- A count of faults, which never falls.
use Rattle.std.specs.Prelude.{◌≤◌, ◌+◌, ◌-◌, ◌^◌, ℕ, min}

-- Whether the count rose, by one or more. At its maximum, 2^64 - 1, it cannot rise, and always counts as risen.
abbrev pub HasRisen : ℕ → ℕ → Type 0
HasRisen before now = min (before + 1) (2 ^ 64 - 1) ≤ now
