-- For `roster`: a tree of stations by id, and the list of its stations.
use Rattle.std.proofs.Common.{◌≡◌, ℕ, Bool, true, false, cond, ◌||◌, nat_lt, ◌==◌, List, [], ◌∷◌, map, Option, Some, nat_cmp, refl, sym, ap, ◌∙◌, eq-eqb, inl, inr, arith}
use Rattle.std.specs.BTreeMap.{insert_entry, is_at}
use Rattle.std.specs.Map.{lookup, values_of}
use Rattle.std.specs.Option.{is_some}
use Rattle.std.specs.Ordering.{is_eq}
use Rattle.std.proofs.lemmas.Bool.{cases_Bool, cases_order, eqb-false, le-ltb, lt-ltb, ne_eqb, or_parts}
use Rattle.pack_defs.specs.declared.station.Station.{Station}
use Rattle.scenario_json.specs.ScenarioOf.{has_id, placed}

-- a station with its id
abbrev pub keyed : Station → ℕ × Station
keyed x = (x.id, x)

pub values-keyed : (xs : List Station) → values_of (map keyed xs) ≡ xs
values-keyed [] = refl
values-keyed (x ∷ xs) = ap (λ ys. x ∷ ys) (values-keyed xs)

same_test : (a b : ℕ) → is_eq (nat_cmp a b) ≡ (b == a)
same_test a b =
    elim (cases_order a b) [
      | inl e ↦ rw (le-ltb a b (omega arith), eq-eqb a b e, eq-eqb b a (sym e)) refl
      | inr o ↦ elim o [
        | inl l ↦ rw (lt-ltb a b l, ne_eqb b a (λ e. absurd (omega arith))) refl
        | inr g ↦ rw (le-ltb a b (omega arith), ne_eqb a b (λ e. absurd (omega arith)), ne_eqb b a (λ e. absurd (omega arith))) refl
      ]
    ]

found : (b : Bool) (x : Station) (rest : Option Station) (later : Bool) → is_some rest ≡ later → is_some (cond b (Some x) rest) ≡ (b || later)
found true x rest later e = refl
found false x rest later e = e

pub has-keyed : (xs : List Station) (id : ℕ) → is_some (lookup (is_at (nat_cmp id)) (map keyed xs)) ≡ has_id xs id
has-keyed [] id = refl
has-keyed (x ∷ xs) id = rw (same_test id x.id) (found (x.id == id) x _ _ (has-keyed xs id))

pub placed-keyed : (x : Station) (xs : List Station) → has_id xs x.id ≡ false → insert_entry nat_cmp (map keyed xs) x.id x ≡ map keyed (placed x xs)
placed-keyed x [] apart = refl
placed-keyed x (y ∷ ys) apart =
    let parts = or_parts (y.id == x.id) (has_id ys x.id) apart in
    elim (cases_Bool (nat_lt x.id y.id)) [
      | inl t ↦ rw t refl
      | inr f ↦ rw (f, ne_eqb x.id y.id (λ e. eqb-false y.id x.id parts.0 (sym e))) (ap (λ es. keyed y ∷ es) (placed-keyed x ys parts.1))
    ]

-- a tree of stations by id stays one
pub placed_in : (x : Station) (es : List (ℕ × Station)) (xs : List Station) (fs : List (ℕ × Station))
    → es ≡ map keyed (values_of es) → values_of es ≡ xs → has_id xs x.id ≡ false → fs ≡ insert_entry nat_cmp es x.id x
    → fs ≡ map keyed (placed x xs)
placed_in x es xs fs keys is apart e =
    e ∙ ap (λ ds. insert_entry nat_cmp ds x.id x) (keys ∙ ap (λ ys. map keyed ys) is) ∙ placed-keyed x xs apart

pub values-placed : (fs : List (ℕ × Station)) (ys : List Station) → fs ≡ map keyed ys → values_of fs ≡ ys
values-placed fs ys e = ap (λ es. values_of es) e ∙ values-keyed ys

pub keyed-values : (fs : List (ℕ × Station)) (ys : List Station) → fs ≡ map keyed ys → fs ≡ map keyed (values_of fs)
keyed-values fs ys e = e ∙ ap (λ zs. map keyed zs) (sym (values-placed fs ys e))
