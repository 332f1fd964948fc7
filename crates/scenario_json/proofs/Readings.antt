-- For the readers: what some bytes are read as, and a list read item by item.
use Rattle.std.proofs.Common.{◌≡◌, ℕ, List, [], ◌∷◌, ◌++◌, map, Some, None, inl, inr, refl, ap}
use Rattle.std.specs.Prelude.{Result, Ok, Err}
use Rattle.std.specs.Str.{IsUtf8, is_utf8}
use Rattle.std.proofs.lemmas.Bool.{cases_Bool}
use Rattle.std.proofs.lemmas.Str.{IsUtf8-from_is_utf8, is_utf8-from_IsUtf8}
use Rattle.serde_json.specs.Data.{Data}
use Rattle.serde_json.specs.Find.{as_array}
use Rattle.serde_json.specs.Read.{read}
use Rattle.serde_json.specs.View.{view, items_view}
use Rattle.serde_json.specs.declared.value.Value.{Value}
use Rattle.scenario_json.specs.declared.error.ScenarioErr.{ScenarioErr}
use Rattle.scenario_json.specs.declared.error.ScenarioErr.TheVariants.{Syntax}
use Rattle.scenario_json.specs.declared.name.Name.{Name}
use Rattle.scenario_json.specs.Members.{array_in, array_items}
use Rattle.scenario_json.specs.ScenarioOf.{json_in}
use Rattle.pack_defs.specs.Steps.{◌>>=◌}

listed-view : (vs : List Value) → array_items (items_view vs) ≡ map view vs
listed-view [] = refl
listed-view (v ∷ vs) = ap (λ ds. view v ∷ ds) (listed-view vs)

pub array-is : (name : Name) (d : Data) (vs : List Value) → Some (items_view vs) ≡ as_array d → Ok (map view vs) ≡ array_in name d
array-is name d vs is = rw (← is, listed-view vs) refl

-- these, and then what the rest is read as
abbrev pub after : {B : Type 0} → List B → Result (List B) ScenarioErr → Result (List B) ScenarioErr
after done rest = rest >>= (λ ys. Ok (done ++ ys))

pub json-is : (bytes : List ℕ) (d : Data) → IsUtf8 bytes → read bytes ≡ Some d → Ok d ≡ json_in bytes
json-is bytes d text e = rw (is_utf8-from_IsUtf8 bytes text, e) refl

pub json-none : (bytes : List ℕ) → (IsUtf8 bytes → read bytes ≡ None) → Err Syntax ≡ json_in bytes
json-none bytes h = elim (cases_Bool (is_utf8 bytes)) [
  | inl t ↦ rw (t, h (IsUtf8-from_is_utf8 bytes t)) refl
  | inr f ↦ rw f refl
]
