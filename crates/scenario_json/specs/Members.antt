-- The members of a JSON object, each read as what it must be, or rejected. A place is that of an item in its list, from 1, and 0
-- outside lists.
use Rattle.std.specs.Prelude.{ℕ, ◌||◌, nat_lt, if◌then◌else◌, List, [], ◌∷◌, length, option_and_then, Result, Ok, Err}
use Rattle.std.specs.Option.{is_some, ok_or, option_map}
use Rattle.serde_json.specs.Data.{Data, Items, no_items, item}
use Rattle.serde_json.specs.Find.{as_array, as_number, as_object, as_u64, get}
use Rattle.scenario_json.specs.declared.error.ScenarioErr.{ScenarioErr}
use Rattle.scenario_json.specs.declared.error.ScenarioErr.TheVariants.{MissingField, OutOfLimit, WrongKind}
use Rattle.scenario_json.specs.declared.name.Name.{Name}
use Rattle.scenario_json.specs.Name.{name_text}
use Rattle.pack_defs.specs.Steps.{◌>>=◌}

-- The value, which must be an object.
abbrev pub object_in : Name → ℕ → Data → Result Data ScenarioErr
object_in name at d = if is_some (as_object d) then Ok d else Err (WrongKind name at)

-- The object's member of this name, which must be present.
abbrev pub member : Name → ℕ → Data → Result Data ScenarioErr
member name at d = ok_or (get (name_text name) d) (MissingField name at)

-- The value, which must be a whole number, 0 to 2^64 - 1, written without point or exponent.
abbrev pub whole_number : Name → ℕ → Data → Result ℕ ScenarioErr
whole_number name at d = ok_or (option_and_then as_u64 (as_number d)) (WrongKind name at)

-- The number, which must be from `least` to `most`.
abbrev pub within_limits : Name → ℕ → ℕ → ℕ → ℕ → Result ℕ ScenarioErr
within_limits name at least most n = if nat_lt n least || nat_lt most n then Err (OutOfLimit name at) else Ok n

-- The object's member of this name, a whole number from `least` to `most`.
abbrev pub member_number : Name → ℕ → ℕ → ℕ → Data → Result ℕ ScenarioErr
member_number name at least most d = do
  found ← member name at d
  n ← whole_number name at found
  within_limits name at least most n

-- The items of an array, as a list.
abbrev pub array_items : Items → List Data
array_items no_items = []
array_items (item d ds) = d ∷ array_items ds

-- The value, which must be an array.
abbrev pub array_in : Name → Data → Result (List Data) ScenarioErr
array_in name d = ok_or (option_map array_items (as_array d)) (WrongKind name 0)

-- The object's member of this name, a list of `least` to `most` items.
abbrev pub list : Name → ℕ → ℕ → Data → Result (List Data) ScenarioErr
list name least most d = do
  found ← member name 0 d
  items ← array_in name found
  many ← within_limits name 0 least most (length items)
  Ok items
