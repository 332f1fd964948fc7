-- Steps that may fail, one after the other.
use Rattle.std.specs.Prelude.{◌≡◌, ◌⊎◌, ℕ, ◌+◌, List, [], ◌∷◌, Result, Ok, Err}
use Rattle.pack_defs.specs.Steps.{◌>>=◌}
use Rattle.scenario_json.specs.declared.error.ScenarioErr.{ScenarioErr}
use Rattle.scenario_json.specs.declared.error.ScenarioErr.TheVariants.{NoMemory}

-- What the items of a list are read as, the first at place `at`. The first item that is rejected rejects the list.
abbrev pub each_from : {A B : Type 0} → (ℕ → A → Result B ScenarioErr) → ℕ → List A → Result (List B) ScenarioErr
each_from read at [] = Ok []
each_from read at (x ∷ xs) = do
  y ← read at x
  ys ← each_from read (at + 1) xs
  Ok (y ∷ ys)

-- Whether the result is this reading, or memory ran out.
abbrev pub ScenarioReads : {A : Type 0} → Result A ScenarioErr → Result A ScenarioErr → Type 0
ScenarioReads reading answer = (answer ≡ reading) ⊎ (answer ≡ Err NoMemory)
