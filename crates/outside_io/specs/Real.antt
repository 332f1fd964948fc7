-- A folder of the operating system, as contracts see it.
use Rattle.std.specs.Prelude.{ℕ, Bool}

-- The count of faults, whether a file is open for pieces, how many of its bytes were read, and its limit.
pub record RealView : Type 0 where
  pub faults : ℕ
  pub begun : Bool
  pub come : ℕ
  pub most : ℕ
