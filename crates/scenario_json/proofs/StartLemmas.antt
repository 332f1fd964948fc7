-- For `start_only`: the stations that start on air, and their scenario.
use Rattle.std.proofs.Common.{◌≡◌, ◌∙◌, ℕ, ◌≤◌, ◌*◌, Bool, true, not, cond, ltb, List, [], ◌∷◌, length, filter, find, Contains, Option, None, Ok, inl, inr, refl, sym, ap, subst, arith}
use Rattle.std.specs.Option.{is_some, option_map_or}
use Rattle.std.proofs.lemmas.Bool.{cases_Bool}
use Rattle.std.proofs.lemmas.List.Elements.{All-filter, All-nil}
use Rattle.constraint_files.specs.Domains.{channels_of}
use Rattle.pack_defs.proofs.Chains.{ascending-filter}
use Rattle.pack_defs.proofs.Members.{Contains-from_filter, Contains-from_map, Contains-here, Contains-there}
use Rattle.pack_defs.proofs.OwnerLaws.{filter_within}
use Rattle.pack_defs.proofs.PriceLaws.{value_own, volume_own}
use Rattle.pack_defs.proofs.Rounds.{first_price}
use Rattle.pack_defs.proofs.Words.{ascending-from}
use Rattle.pack_defs.specs.Book.{cut_book}
use Rattle.pack_defs.specs.Lists.{is_ascending}
use Rattle.pack_defs.specs.Prices.{declines, falls, offer, start_set, stays}
use Rattle.pack_defs.specs.Scenario.{IsStationWithinLimits, IsWithinLimits, StationsAscend, facilities, volume_of}
use Rattle.pack_defs.specs.declared.domain.Domain.{Domain}
use Rattle.pack_defs.specs.declared.fall.Fall.TheVariants.{Listed}
use Rattle.pack_defs.specs.declared.owners.OwnerLine.{OwnerLine}
use Rattle.pack_defs.specs.declared.pair.Pair.{Pair}
use Rattle.pack_defs.specs.declared.scenario.Scenario.{Scenario}
use Rattle.pack_defs.specs.declared.station.Station.{Station}
use Rattle.pack_defs.specs.declared.worker.Worker.{Worker}
use Rattle.pack_defs.proofs.ComponentLaws.{filter_no_longer}
use Rattle.scenario_json.proofs.StationsAscend.{ids, increasing-from_ascending}
use Rattle.scenario_json.specs.Join.{book_unless, first_missing, joined}
use Rattle.scenario_json.specs.StartOnly.{declines_opening, start_only}

-- ---- one station

-- a listed station declines the opening offer by its own members
pub declines-own : (sc : Scenario) (x : Station) → StationsAscend sc → Contains sc.stations x → declines sc x.id 0 ≡ declines_opening sc x
declines-own sc x ascend h =
    ap (λ b. option_map_or (λ lines. not (stays lines 0 x.id)) sc.owners b)
    (ap (λ o. option_map_or (λ v. ltb (offer sc x.id 0) v) o true) (value_own sc x ascend h)
    ∙ ap (λ p. option_map_or (λ v. ltb p v) x.value true)
    (ap (λ c. c * volume_of sc x.id) (first_price sc.opening (falls sc)) ∙ ap (λ n. sc.opening * n) (volume_own sc x ascend h)))

-- hence the listed stations that start are found one by one
pub starting-own : (sc : Scenario) → StationsAscend sc → filter (declines_opening sc) sc.stations ≡ filter (λ x. declines sc x.id 0) sc.stations
starting-own sc ascend =
    filter_within (declines_opening sc) (λ x. declines sc x.id 0) sc.stations (λ x h. sym (declines-own sc x ascend h))

-- ---- the stations

ids-filter : (p : ℕ → Bool) (xs : List Station) → ids (filter (λ x. p x.id) xs) ≡ filter p (ids xs)
ids-filter p [] = refl
ids-filter p (x ∷ xs) =
    elim (cases_Bool (p x.id)) [
      | inl t ↦ rw t (ap (λ ys. x.id ∷ ys) (ids-filter p xs))
      | inr f ↦ rw f (ids-filter p xs)
    ]

pub only-facilities : (sc : Scenario) (top : ℕ) → facilities (start_only sc top) ≡ start_set sc
only-facilities sc top = ids-filter (λ s. declines sc s 0) sc.stations

pub only-ascends : (sc : Scenario) (top : ℕ) → StationsAscend sc → StationsAscend (start_only sc top)
only-ascends sc top ascend =
    increasing-from_ascending (facilities (start_only sc top))
    (subst (λ xs. is_ascending xs ≡ true) (sym (only-facilities sc top)) (ascending-filter (λ s. declines sc s 0) (facilities sc) (ascending-from (facilities sc) ascend)))

-- each of them declines the opening offer in the new scenario as in the old one
declines-still : (sc : Scenario) (top : ℕ) (x : Station) → StationsAscend sc → Contains (start_only sc top).stations x → declines (start_only sc top) x.id 0 ≡ true
declines-still sc top x ascend h =
    let there = Contains-from_filter (λ (y : Station). declines sc y.id 0) sc.stations x h in
    declines-own (start_only sc top) x (only-ascends sc top ascend) h ∙ (sym (declines-own sc x ascend there.0) ∙ there.1)

pub keeps-all : (p : ℕ → Bool) (xs : List ℕ) → ((x : ℕ) → Contains xs x → p x ≡ true) → filter p xs ≡ xs
keeps-all p [] h = refl
keeps-all p (x ∷ xs) h =
    ap (λ b. cond b (x ∷ filter p xs) (filter p xs)) (h x (Contains-here x xs))
    ∙ ap (λ ys. x ∷ ys) (keeps-all p xs (λ y l. h y (Contains-there x y xs l)))

pub only-starts : (sc : Scenario) (top : ℕ) → StationsAscend sc → start_set (start_only sc top) ≡ start_set sc
only-starts sc top ascend =
    let only : Scenario = start_only sc top in
    keeps-all (λ s. declines only s 0) (facilities only) (λ s h.
    let (x, there, is) = Contains-from_map (λ (y : Station). y.id) only.stations s h in
    subst (λ z. declines only z 0 ≡ true) is (declines-still sc top x ascend there))
    ∙ only-facilities sc top

-- ---- the limits

pub only-limits : (sc : Scenario) (top : ℕ) → IsWithinLimits sc → 14 ≤ top → top ≤ 51 → IsWithinLimits (start_only sc top)
only-limits sc top limits least most =
    let fewer = filter_no_longer (λ (x : Station). declines sc x.id 0) sc.stations in
    let all : length sc.stations ≤ 8192 = limits.stations in
    record {
      least_top = least;
      top = most;
      some_opening = limits.some_opening;
      opening = limits.opening;
      version = refl;
      fall = record { rounds = omega arith; each = All-nil (λ d. (1 ≤ d) × (d ≤ 1000000)); falls = omega arith };
      stations = omega (arith, fewer, all);
      ascend = only-ascends sc top limits.ascend;
      each_station = All-filter (λ (x : Station). declines sc x.id 0) IsStationWithinLimits sc.stations limits.each_station;
      some_worker = limits.some_worker;
      workers = limits.workers;
      each_worker = limits.each_worker;
      prover = limits.prover;
    }

-- ---- the book

-- what a search does not find is not found among fewer
none-fewer : (p q : ℕ → Bool) (xs : List ℕ) → find p xs ≡ None → find p (filter q xs) ≡ None
none-fewer p q [] e = refl
none-fewer p q (x ∷ xs) e =
    elim (cases_Bool (p x)) [
      | inl t ↦ let no = rw t at e in cc
      | inr f ↦
          let later : find p xs ≡ None = rw f at e in
          elim (cases_Bool (q x)) [
            | inl t ↦ rw (t, f) (none-fewer p q xs later)
            | inr g ↦ rw g (none-fewer p q xs later)
          ]
    ]

pub only-joined : (sc : Scenario) (top : ℕ) (domains : List Domain) (pairs : List Pair) → first_missing (facilities sc) domains ≡ None
    → joined (start_only sc top) domains pairs ≡ Ok (cut_book top (start_set sc) domains pairs)
unfolding joined
only-joined sc top domains pairs none =
    ap (λ ss. book_unless (first_missing ss domains) (cut_book top ss domains pairs)) (only-facilities sc top)
    ∙ ap (λ o. book_unless o (cut_book top (start_set sc) domains pairs)) (none-fewer (λ s. not (is_some (channels_of domains s))) (λ s. declines sc s 0) (facilities sc) none)

-- ---- the scenario that the call returns

-- a scenario of these parts, which falls by these decrements
abbrev pub made_of : ℕ → ℕ → List ℕ → List Station → List Worker → Option (List OwnerLine) → Scenario
made_of top opening decrements stations workers owners =
    record { version = 1; top = top; opening = opening; fall = Listed decrements; stations = stations; workers = workers; owners = owners }

pub made-only : (sc : Scenario) (top : ℕ) (decrements : List ℕ) (stations : List Station) (workers : List Worker) (owners : Option (List OwnerLine)) → StationsAscend sc
    → decrements ≡ [] → stations ≡ filter (declines_opening sc) sc.stations → workers ≡ sc.workers → owners ≡ sc.owners
    → made_of top sc.opening decrements stations workers owners ≡ start_only sc top
made-only sc top decrements stations workers owners ascend none starting same said =
    let own = starting ∙ starting-own sc ascend in
    cc
