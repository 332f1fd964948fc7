-- For `write`: what is written for a scenario has no float, is not deep, and is read back as that scenario.
use Rattle.std.proofs.Common.{◌≡◌, ◌∙◌, ℕ, suc, ◌+◌, ◌<◌, ◌≤◌, true, false, ◌==◌, List, [], ◌∷◌, ◌++◌, length, get_or, map, take, max, sum, All, Option, Some, None, append_assoc, append-nil, refl, sym, ap, subst, arith}
use Rattle.std.specs.Prelude.{Result, Ok, Err, IfOk}
use Rattle.std.specs.Bool.{⊤}
use Rattle.std.specs.Option.{MatchOption, is_some}
use Rattle.std.specs.List.{list_any}
use Rattle.std.proofs.Math.Nat.{max-le}
use Rattle.std.proofs.lemmas.Bool.{eq-eqb, le-leb, le-ltb, ne_eqb, or_from, or_left, or_right}
use Rattle.std.proofs.lemmas.List.{length-map, take_all}
use Rattle.std.proofs.lemmas.List.Elements.{All-head, All-more, All-tail}
use Rattle.serde_json.specs.Data.{Data, depth, items_depth, object, string}
use Rattle.serde_json.specs.Find.{as_object, get}
use Rattle.serde_json.specs.View.{items_of}
use Rattle.serde_json.specs.Written.{has_float, items_have_float}
use Rattle.pack_defs.specs.declared.fall.Fall.{Fall}
use Rattle.pack_defs.specs.declared.fall.Fall.TheVariants.{Listed, Rated}
use Rattle.pack_defs.specs.declared.owners.OwnerLine.{OwnerLine}
use Rattle.pack_defs.specs.declared.scenario.Scenario.{Scenario}
use Rattle.pack_defs.specs.declared.station.Station.{Station}
use Rattle.pack_defs.specs.declared.worker.Kind.{Kind}
use Rattle.pack_defs.specs.declared.worker.Kind.TheVariants.{Cdcl, Walk}
use Rattle.pack_defs.specs.declared.worker.Worker.{Worker}
use Rattle.pack_defs.specs.Lists.{is_ascending, is_in}
use Rattle.pack_defs.specs.Scenario.{AreDecrementsWithinLimits, IsFallWithinLimits, IsRateWithinLimits, IsStationWithinLimits, IsWithinLimits, IsWorkerWithinLimits, is_prover, most_budget, version_of}
use Rattle.pack_defs.proofs.Words.{ascending-from, ascending-rest, below-later}
use Rattle.scenario_json.specs.declared.error.ScenarioErr.{ScenarioErr}
use Rattle.scenario_json.specs.declared.name.Name.{Name}
use Rattle.scenario_json.specs.declared.name.Name.TheVariants as names
use Rattle.scenario_json.specs.Name.{name_text}
use Rattle.scenario_json.specs.Members.{list, array_items, member_number, object_in, within_limits}
use Rattle.pack_defs.specs.Steps.{◌>>=◌}
use Rattle.scenario_json.specs.Steps.{each_from}
use Rattle.scenario_json.specs.ScenarioOf.{decrement_in, decrements_in, fall_in, has_id, json_in, kind_in, listed_in, new_id, placed, rated_in, scenario_in, scenario_of, seed_in, station_in, stations_from, stations_in, value_from, member_value, with_prover, worker_in, workers_in}
use Rattle.scenario_json.specs.Write.{IsFileNumber, data_for, kind_text, last_members, list_for, members_for, station_for, value_for, whole_for, worker_for}
use Rattle.scenario_json.proofs.Limits.{IsDecrement}
use Rattle.scenario_json.proofs.StationsAscend.{ids}

-- ---- no float

items-plain : {A : Type 0} (write : A → Data) (xs : List A) → ((x : A) → has_float (write x) ≡ false) → items_have_float (items_of (map write xs)) ≡ false
items-plain write [] plain = refl
items-plain write (x ∷ xs) plain = rw (plain x, items-plain write xs plain) refl

value-plain : (v : Option ℕ) → has_float (value_for v) ≡ false
value-plain None = refl
value-plain (Some n) = refl

station-plain : (x : Station) → has_float (station_for x) ≡ false
unfolding station_for
station-plain x = rw (value-plain x.value) refl

worker-plain : (w : Worker) → has_float (worker_for w) ≡ false
unfolding worker_for
worker-plain w = refl

members-plain : (f : Fall) (sc : Scenario) → has_float (object (members_for f sc)) ≡ false
unfolding members_for last_members
members-plain (Listed ds) sc =
    rw (items-plain whole_for ds (λ n. refl), items-plain station_for sc.stations station-plain, items-plain worker_for sc.workers worker-plain) refl
members-plain (Rated rate floor) sc =
    rw (items-plain station_for sc.stations station-plain, items-plain worker_for sc.workers worker-plain) refl

pub data-plain : (sc : Scenario) → has_float (data_for sc) ≡ false
data-plain sc = members-plain sc.fall sc

-- ---- the depth

items-shallow : {A : Type 0} (write : A → Data) (most : ℕ) (xs : List A) → ((x : A) → depth (write x) ≤ most) → items_depth (items_of (map write xs)) ≤ most
items-shallow write most [] shallow = omega arith
items-shallow write most (x ∷ xs) shallow = max-le (shallow x) (items-shallow write most xs shallow)

value-shallow : (v : Option ℕ) → depth (value_for v) ≤ 0
value-shallow None = omega arith
value-shallow (Some n) = omega arith

at-most : (a b most : ℕ) → a ≤ most → b ≤ most → max a b ≤ most
at-most a b most low high = max-le low high

station-shallow : (x : Station) → depth (station_for x) ≤ 1
unfolding station_for
station-shallow x = deep (depth (value_for x.value)) (value-shallow x.value)
  where
    deep : (n : ℕ) → n ≤ 0 → suc (max 0 (max n (max 0 0))) ≤ 1
    deep n h =
        let inner : max n (max 0 0) ≤ 0 = at-most n (max 0 0) 0 h (omega arith) in
        let all : max 0 (max n (max 0 0)) ≤ 0 = at-most 0 (max n (max 0 0)) 0 (omega arith) inner in
        omega (arith, all)

worker-shallow : (w : Worker) → depth (worker_for w) ≤ 1
unfolding worker_for
worker-shallow w = omega arith

-- an object with these deepest members is within the reader's depth
within-three : (a b c : ℕ) → a ≤ 2 → b ≤ 1 → c ≤ 1 → suc (max a (max 0 (max (suc b) (max 0 (max 0 (max (suc c) 0)))))) ≤ 127
within-three a b c low middle high =
    let last : max (suc c) 0 ≤ 2 = at-most (suc c) 0 2 (omega (arith, high)) (omega arith) in
    let later : max 0 (max 0 (max (suc c) 0)) ≤ 2 = at-most 0 (max 0 (max (suc c) 0)) 2 (omega arith) (at-most 0 (max (suc c) 0) 2 (omega arith) last) in
    let from_stations : max (suc b) (max 0 (max 0 (max (suc c) 0))) ≤ 2 = at-most (suc b) (max 0 (max 0 (max (suc c) 0))) 2 (omega (arith, middle)) later in
    let from_opening : max 0 (max (suc b) (max 0 (max 0 (max (suc c) 0)))) ≤ 2 = at-most 0 (max (suc b) (max 0 (max 0 (max (suc c) 0)))) 2 (omega arith) from_stations in
    let all : max a (max 0 (max (suc b) (max 0 (max 0 (max (suc c) 0))))) ≤ 2 = at-most a (max 0 (max (suc b) (max 0 (max 0 (max (suc c) 0))))) 2 low from_opening in
    omega (arith, all)

one-more : (n : ℕ) → n ≤ 0 → suc n ≤ 2
one-more n h = omega (arith, h)

members-shallow : (f : Fall) (sc : Scenario) → depth (object (members_for f sc)) ≤ 127
unfolding members_for last_members
members-shallow (Listed ds) sc =
    within-three (suc (items_depth (items_of (map whole_for ds)))) (items_depth (items_of (map station_for sc.stations))) (items_depth (items_of (map worker_for sc.workers)))
    (one-more (items_depth (items_of (map whole_for ds))) (items-shallow whole_for 0 ds (λ n. omega arith))) (items-shallow station_for 1 sc.stations station-shallow) (items-shallow worker_for 1 sc.workers worker-shallow)
members-shallow (Rated rate floor) sc =
    rated (items_depth (items_of (map station_for sc.stations))) (items_depth (items_of (map worker_for sc.workers)))
    (items-shallow station_for 1 sc.stations station-shallow) (items-shallow worker_for 1 sc.workers worker-shallow)
  where
    rated : (b c : ℕ) → b ≤ 1 → c ≤ 1 → suc (max 0 (max 0 (max 0 (max (suc b) (max 0 (max 0 (max (suc c) 0))))))) ≤ 127
    rated b c middle high =
        let inner : suc (max 0 (max 0 (max (suc b) (max 0 (max 0 (max (suc c) 0)))))) ≤ 127 = within-three 0 b c (omega arith) middle high in
        let most : max 0 (max 0 (max (suc b) (max 0 (max 0 (max (suc c) 0))))) ≤ 126 = omega (arith, inner) in
        let all : max 0 (max 0 (max 0 (max (suc b) (max 0 (max 0 (max (suc c) 0)))))) ≤ 126 = at-most 0 (max 0 (max 0 (max (suc b) (max 0 (max 0 (max (suc c) 0)))))) 126 (omega arith) most in
        omega (arith, all)

pub data-shallow : (sc : Scenario) → depth (data_for sc) ≤ 127
data-shallow sc = members-shallow sc.fall sc

-- ---- reading members

then-reads : {A B : Type 0} (r : Result A ScenarioErr) (x : A) (f : A → Result B ScenarioErr) (answer : Result B ScenarioErr) → r ≡ Ok x → f x ≡ answer → (r >>= f) ≡ answer
then-reads r x f answer is next = ap (λ q. q >>= f) is ∙ next

within-passes : (name : Name) (at least most n : ℕ) → least ≤ n → n ≤ most → within_limits name at least most n ≡ Ok n
within-passes name at least most n low high = rw (le-ltb n least low, le-ltb most n high) refl

number-reads : (name : Name) (at least most : ℕ) (d : Data) (n : ℕ) → get (name_text name) d ≡ Some (whole_for n) → least ≤ n → n ≤ most → member_number name at least most d ≡ Ok n
number-reads name at least most d n found low high = rw found (within-passes name at least most n low high)

listed-items : (ds : List Data) → array_items (items_of ds) ≡ ds
listed-items [] = refl
listed-items (d ∷ ds) = ap (λ es. d ∷ es) (listed-items ds)

list-reads : {A : Type 0} (write : A → Data) (name : Name) (least most : ℕ) (d : Data) (xs : List A) → get (name_text name) d ≡ Some (list_for write xs) → least ≤ length xs → length xs ≤ most → list name least most d ≡ Ok (map write xs)
list-reads write name least most d xs found low high =
    let many : length (map write xs) ≡ length xs = length-map xs write in
    rw (found, listed-items (map write xs))
    (then-reads (within_limits name 0 least most (length (map write xs))) (length (map write xs)) _ _
    (within-passes name 0 least most (length (map write xs)) (omega (arith, many, low)) (omega (arith, many, high))) refl)

each-reads : {A B : Type 0} (P : B → Type 0) (read : ℕ → A → Result B ScenarioErr) (write : B → A) → ((at : ℕ) (x : B) → P x → read at (write x) ≡ Ok x) → (at : ℕ) (xs : List B) → All P xs → each_from read at (map write xs) ≡ Ok xs
each-reads P read write one at [] all = refl
each-reads P read write one at (x ∷ xs) all =
    rw (one at x (All-head P x xs all), each-reads P read write one (at + 1) xs (All-tail P x xs all)) refl

-- ---- how the price falls

decrement-reads : (at n : ℕ) → IsDecrement n → decrement_in at (whole_for n) ≡ Ok n
decrement-reads at n limits = within-passes names.Decrements at 1 1000000 n limits.0 limits.1

listed-reads : (opening : ℕ) (d : Data) (ds : List ℕ) → get (name_text names.Decrements) d ≡ Some (list_for whole_for ds) → AreDecrementsWithinLimits opening ds → listed_in opening d ≡ Ok (Listed ds)
unfolding listed_in decrements_in
listed-reads opening d ds found limits =
    then-reads _ ds _ _
    (then-reads (list names.Decrements 0 1000 d) (map whole_for ds) _ _ (list-reads whole_for names.Decrements 0 1000 d ds found (omega arith) limits.rounds)
    (then-reads (each_from decrement_in 1 (map whole_for ds)) ds _ _ (each-reads IsDecrement decrement_in whole_for decrement-reads 1 ds limits.each)
    (rw (le-leb (sum ds) opening limits.falls) refl)))
    refl

rated-reads : (d : Data) (rate floor : ℕ) → get (name_text names.Rate) d ≡ Some (whole_for rate) → get (name_text names.Floor) d ≡ Some (whole_for floor) → IsRateWithinLimits rate floor → rated_in d ≡ Ok (Rated rate floor)
unfolding rated_in
rated-reads d rate floor first second limits =
    then-reads (member_number names.Rate 0 1 1000 d) rate _ _ (number-reads names.Rate 0 1 1000 d rate first limits.some_rate limits.rate_most)
    (then-reads (member_number names.Floor 0 0 1000 d) floor _ _ (number-reads names.Floor 0 0 1000 d floor second (omega arith) limits.floor_most)
    refl)

-- ---- stations

value-reads : (at : ℕ) (v : Option ℕ) → MatchOption v ⊤ (λ n. n ≤ 1000000000000000) → value_from at (Some (value_for v)) ≡ Ok v
value-reads at None small = refl
value-reads at (Some n) small =
    then-reads (within_limits names.Value at 0 1000000000000000 n) n _ _ (within-passes names.Value at 0 1000000000000000 n (omega arith) small) refl

id-reads : (x : Station) → get (name_text names.Id) (station_for x) ≡ Some (whole_for x.id)
unfolding name_text station_for
id-reads x = refl

volume-reads : (x : Station) → get (name_text names.Volume) (station_for x) ≡ Some (whole_for x.volume)
unfolding name_text station_for
volume-reads x = refl

value-stands : (x : Station) → get (name_text names.Value) (station_for x) ≡ Some (value_for x.value)
unfolding name_text station_for
value-stands x = refl

station-object : (x : Station) → is_some (as_object (station_for x)) ≡ true
unfolding station_for
station-object x = refl

new-reads : (before : List Station) (id : ℕ) → has_id before id ≡ false → new_id before id ≡ Ok id
new-reads before id new = rw new refl

object-reads : (name : Name) (at : ℕ) (d : Data) → is_some (as_object d) ≡ true → object_in name at d ≡ Ok d
object-reads name at d is = rw is refl

station-reads : (before : List Station) (at : ℕ) (x : Station) → has_id before x.id ≡ false → IsFileNumber x → IsStationWithinLimits x → station_in before at (station_for x) ≡ Ok x
unfolding station_in
station-reads before at x new small limits =
    then-reads (object_in names.Stations at (station_for x)) (station_for x) _ _ (object-reads names.Stations at (station_for x) (station-object x))
    (then-reads (member_number names.Id at 0 4294967295 (station_for x)) x.id _ _ (number-reads names.Id at 0 4294967295 (station_for x) x.id (id-reads x) (omega arith) small)
    (then-reads (new_id before x.id) x.id _ _ (new-reads before x.id new)
    (then-reads (member_number names.Volume at 1 1000000 (station_for x)) x.volume _ _ (number-reads names.Volume at 1 1000000 (station_for x) x.volume (volume-reads x) limits.some_volume limits.volume)
    (then-reads (member_value at (station_for x)) x.value _ _ (ap (value_from at) (value-stands x) ∙ value-reads at x.value limits.value)
    refl))))

has-own : (ys : List Station) (x : Station) (rest : List Station) → is_in (ids (ys ++ x ∷ rest)) x.id ≡ true
has-own [] x rest = or_left (x.id == x.id) (is_in (ids rest) x.id) (eq-eqb x.id x.id refl)
has-own (y ∷ ys) x rest = or_right (y.id == x.id) (is_in (ids (ys ++ x ∷ rest)) x.id) (has-own ys x rest)

-- if stations ascend, each is new after those before it, and its place is the last
placed-last : (x : Station) (before rest : List Station) → is_ascending (ids (before ++ x ∷ rest)) ≡ true → (has_id before x.id ≡ false) × (placed x before ≡ before ++ x ∷ [])
placed-last x [] rest up = (refl, refl)
placed-last x (y ∷ ys) rest up =
    let less : y.id < x.id = below-later y.id (ids (ys ++ x ∷ rest)) x.id up (has-own ys x rest) in
    let later : (has_id ys x.id ≡ false) × (placed x ys ≡ ys ++ x ∷ []) = placed-last x ys rest (ascending-rest y.id (ids (ys ++ x ∷ rest)) up) in
    let apart : (y.id == x.id) ≡ false = ne_eqb y.id x.id (λ e. absurd (omega (arith, less, e))) in
    (or_from (y.id == x.id) (has_id ys x.id) apart later.0, rw (le-ltb x.id y.id (omega (arith, less))) (ap (λ zs. y ∷ zs) later.1))

stations-read : (before : List Station) (at : ℕ) (xs : List Station) → is_ascending (ids (before ++ xs)) ≡ true → All IsFileNumber xs → All IsStationWithinLimits xs → stations_from before at (map station_for xs) ≡ Ok (before ++ xs)
stations-read before at [] up numbers limits = ap (λ ys. Ok ys) (sym (append-nil before))
stations-read before at (x ∷ xs) up numbers limits =
    let last = placed-last x before xs up in
    let same : before ++ x ∷ [] ++ xs ≡ before ++ (x ∷ xs) = append_assoc before (x ∷ []) xs in
    let rises : is_ascending (ids (before ++ x ∷ [] ++ xs)) ≡ true = subst (λ ys. is_ascending (ids ys) ≡ true) (sym same) up in
    let rest : stations_from (before ++ x ∷ []) (at + 1) (map station_for xs) ≡ Ok (before ++ (x ∷ xs)) =
    stations-read (before ++ x ∷ []) (at + 1) xs rises (All-tail IsFileNumber x xs numbers) (All-tail IsStationWithinLimits x xs limits) ∙ ap (λ ys. Ok ys) same in
    then-reads (station_in before at (station_for x)) x _ _
    (station-reads before at x last.0 (All-head IsFileNumber x xs numbers) (All-head IsStationWithinLimits x xs limits))
    (subst (λ ys. stations_from ys (at + 1) (map station_for xs) ≡ Ok (before ++ (x ∷ xs))) (sym last.1) rest)

all-stations-read : (d : Data) (xs : List Station) → get (name_text names.Stations) d ≡ Some (list_for station_for xs) → length xs ≤ 8192 → is_ascending (ids xs) ≡ true → All IsFileNumber xs → All IsStationWithinLimits xs → stations_in d ≡ Ok xs
unfolding stations_in
all-stations-read d xs found few up numbers limits =
    then-reads (list names.Stations 0 8192 d) (map station_for xs) _ _ (list-reads station_for names.Stations 0 8192 d xs found (omega arith) few)
    (stations-read [] 1 xs up numbers limits)

-- ---- workers

kind-stands : (w : Worker) → get (name_text names.Kind) (worker_for w) ≡ Some (string (kind_text w.kind))
unfolding name_text worker_for
kind-stands w = refl

kind-reads : (at : ℕ) (d : Data) (k : Kind) → get (name_text names.Kind) d ≡ Some (string (kind_text k)) → kind_in at d ≡ Ok k
kind-reads at d Cdcl found = rw found refl
kind-reads at d Walk found = rw found refl

budget-reads : (w : Worker) → get (name_text names.Budget) (worker_for w) ≡ Some (whole_for w.budget)
unfolding name_text worker_for
budget-reads w = refl

seed-reads : (at : ℕ) (w : Worker) → seed_in at (worker_for w) ≡ Ok w.seed
unfolding name_text worker_for
seed-reads at w = refl

worker-object : (w : Worker) → is_some (as_object (worker_for w)) ≡ true
unfolding worker_for
worker-object w = refl

worker-reads : (at : ℕ) (w : Worker) → IsWorkerWithinLimits w → worker_in at (worker_for w) ≡ Ok w
unfolding worker_in
worker-reads at w limits =
    then-reads (object_in names.Workers at (worker_for w)) (worker_for w) _ _ (object-reads names.Workers at (worker_for w) (worker-object w))
    (then-reads (kind_in at (worker_for w)) w.kind _ _ (kind-reads at (worker_for w) w.kind (kind-stands w))
    (then-reads (member_number names.Budget at 1 (most_budget w.kind) (worker_for w)) w.budget _ _ (number-reads names.Budget at 1 (most_budget w.kind) (worker_for w) w.budget (budget-reads w) limits.some_budget limits.budget)
    (then-reads (seed_in at (worker_for w)) w.seed _ _ (seed-reads at w)
    refl)))

prover-reads : (ws : List Worker) → list_any is_prover ws ≡ true → with_prover ws ≡ Ok ws
prover-reads ws proves = rw proves refl

all-workers-read : (d : Data) (ws : List Worker) → get (name_text names.Workers) d ≡ Some (list_for worker_for ws) → 1 ≤ length ws → length ws ≤ 16 → All IsWorkerWithinLimits ws → list_any is_prover ws ≡ true → workers_in d ≡ Ok ws
unfolding workers_in
all-workers-read d ws found some few limits proves =
    then-reads (list names.Workers 1 16 d) (map worker_for ws) _ _ (list-reads worker_for names.Workers 1 16 d ws found some few)
    (then-reads (each_from worker_in 1 (map worker_for ws)) ws _ _ (each-reads IsWorkerWithinLimits worker_in worker_for worker-reads 1 ws limits)
    (prover-reads ws proves))

-- ---- the scenario

-- the value is an object that has all of the scenario except how the price falls
record Tells (sc : Scenario) (d : Data) : Type 0 where
  pub whole_number : is_some (as_object d) ≡ true
  pub version_is : get (name_text names.Version) d ≡ Some (whole_for sc.version)
  pub top_is : get (name_text names.Top) d ≡ Some (whole_for sc.top)
  pub opening_is : get (name_text names.Opening) d ≡ Some (whole_for sc.opening)
  pub stations_are : get (name_text names.Stations) d ≡ Some (list_for station_for sc.stations)
  pub workers_are : get (name_text names.Workers) d ≡ Some (list_for worker_for sc.workers)

members-tell : (f : Fall) (sc : Scenario) → Tells sc (object (members_for f sc))
unfolding members_for last_members name_text
members-tell (Listed ds) sc = record { whole_number = refl; version_is = refl; top_is = refl; opening_is = refl; stations_are = refl; workers_are = refl }
members-tell (Rated rate floor) sc = record { whole_number = refl; version_is = refl; top_is = refl; opening_is = refl; stations_are = refl; workers_are = refl }

decrements-stand : (ds : List ℕ) (sc : Scenario) → get (name_text names.Decrements) (object (members_for (Listed ds) sc)) ≡ Some (list_for whole_for ds)
unfolding members_for last_members name_text
decrements-stand ds sc = refl

rate-stands : (rate floor : ℕ) (sc : Scenario) → get (name_text names.Rate) (object (members_for (Rated rate floor) sc)) ≡ Some (whole_for rate)
unfolding members_for last_members name_text
rate-stands rate floor sc = refl

floor-stands : (rate floor : ℕ) (sc : Scenario) → get (name_text names.Floor) (object (members_for (Rated rate floor) sc)) ≡ Some (whole_for floor)
unfolding members_for last_members name_text
floor-stands rate floor sc = refl

fall-reads : (f : Fall) (sc : Scenario) (version opening : ℕ) → version ≡ version_of f → IsFallWithinLimits opening f → fall_in version opening (object (members_for f sc)) ≡ Ok f
fall-reads (Listed ds) sc version opening pairs_view limits =
    rw pairs_view (listed-reads opening (object (members_for (Listed ds) sc)) ds (decrements-stand ds sc) limits)
fall-reads (Rated rate floor) sc version opening pairs_view limits =
    rw pairs_view (rated-reads (object (members_for (Rated rate floor) sc)) rate floor (rate-stands rate floor sc) (floor-stands rate floor sc) limits)

-- the scenario is made of what is read
made : (sc : Scenario) (owners : Option (List OwnerLine)) → sc.owners ≡ owners
    → record { version = sc.version; top = sc.top; opening = sc.opening; fall = sc.fall; stations = sc.stations; workers = sc.workers; owners = owners } ≡ sc
made sc owners is = rw (← is) refl

-- a scenario is read if its members are
members-read : (d : Data) (version top opening : ℕ) (fall : Fall) (stations : List Station) (workers : List Worker) (sc : Scenario)
    → object_in names.Scenario 0 d ≡ Ok d → member_number names.Version 0 1 2 d ≡ Ok version → member_number names.Top 0 14 51 d ≡ Ok top → member_number names.Opening 0 1 1000000 d ≡ Ok opening
    → fall_in version opening d ≡ Ok fall → stations_in d ≡ Ok stations → workers_in d ≡ Ok workers
    → record { version = version; top = top; opening = opening; fall = fall; stations = stations; workers = workers; owners = None } ≡ sc
    → scenario_in d ≡ Ok sc
unfolding scenario_in
members-read d version top opening fall stations workers sc whole_number e f g h k l is =
    then-reads (object_in names.Scenario 0 d) d _ _ whole_number
    (then-reads (member_number names.Version 0 1 2 d) version _ _ e
    (then-reads (member_number names.Top 0 14 51 d) top _ _ f
    (then-reads (member_number names.Opening 0 1 1000000 d) opening _ _ g
    (then-reads (fall_in version opening d) fall _ _ h
    (then-reads (stations_in d) stations _ _ k
    (then-reads (workers_in d) workers _ _ l
    (ap (λ x. Ok x) is)))))))

pub data-reads : (sc : Scenario) → IsWithinLimits sc → All IsFileNumber sc.stations → sc.owners ≡ None → scenario_in (data_for sc) ≡ Ok sc
data-reads sc limits numbers by_value =
    let d : Data = data_for sc in
    let tells : Tells sc d = members-tell sc.fall sc in
    let rises : is_ascending (ids sc.stations) ≡ true = ascending-from (ids sc.stations) limits.ascend in
    let low : 1 ≤ sc.version = versions-from sc.fall sc.version limits.version in
    let high : sc.version ≤ 2 = versions-to sc.fall sc.version limits.version in
    members-read d sc.version sc.top sc.opening sc.fall sc.stations sc.workers sc
    (object-reads names.Scenario 0 d tells.whole_number)
    (number-reads names.Version 0 1 2 d sc.version tells.version_is low high)
    (number-reads names.Top 0 14 51 d sc.top tells.top_is limits.least_top limits.top)
    (number-reads names.Opening 0 1 1000000 d sc.opening tells.opening_is limits.some_opening limits.opening)
    (fall-reads sc.fall sc sc.version sc.opening limits.version limits.fall)
    (all-stations-read d sc.stations tells.stations_are limits.stations rises numbers limits.each_station)
    (all-workers-read d sc.workers tells.workers_are limits.some_worker limits.workers limits.each_worker limits.prover)
    (made sc None by_value)
  where
    versions-from : (f : Fall) (version : ℕ) → version ≡ version_of f → 1 ≤ version
    versions-from (Listed ds) version e = omega (arith, e)
    versions-from (Rated rate floor) version e = omega (arith, e)

    versions-to : (f : Fall) (version : ℕ) → version ≡ version_of f → version ≤ 2
    versions-to (Listed ds) version e = omega (arith, e)
    versions-to (Rated rate floor) version e = omega (arith, e)

-- a text of this value is a text of the scenario
pub text-reads : (sc : Scenario) (bytes : List ℕ) → IsWithinLimits sc → All IsFileNumber sc.stations → sc.owners ≡ None → json_in bytes ≡ Ok (data_for sc) → scenario_of bytes ≡ Ok sc
unfolding scenario_of
text-reads sc bytes limits numbers by_value is = then-reads (json_in bytes) (data_for sc) _ _ is (data-reads sc limits numbers by_value)

pub numbers-more : (xs : List Station) (i : ℕ) (d : Station) → i < length xs → (get_or xs i d).id ≤ 4294967295 → All IsFileNumber (take i xs) → All IsFileNumber (take (i + 1) xs)
numbers-more xs i d inside one all = All-more IsFileNumber xs i d inside all one

pub numbers-all : (xs : List Station) (i : ℕ) → length xs ≤ i → All IsFileNumber (take i xs) → All IsFileNumber xs
numbers-all xs i past all = subst (All IsFileNumber) (take_all i xs past) all

pub ok-both : {X E : Type 0} {P Q R : X → Type 0} (r : Result X E) → IfOk r P → IfOk r Q → ((x : X) → P x → Q x → R x) → IfOk r R
ok-both (Ok x) p q both = both x p q
ok-both (Err e) p q both = tt
