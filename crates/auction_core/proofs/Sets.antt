-- Tests that ask about the same stations as the same station's test one round before: the fit of that test still works.
use Rattle.std.proofs.Common.{◌≡◌, ℕ, ◌-◌, Bool, true, false, not, ◌==◌, nat_lt, ◌&&◌, ◌||◌, cond, if◌then◌else◌, List, [], ◌∷◌, ◌++◌, Option, Some, None, unwrap_or, Contains, refl, sym, ap, ◌∙◌, subst, ⊎_elim, inl, inr, ◌⊎◌, eqb-true, eq-eqb, ne_eqb, MatchOption}
use Rattle.std.specs.Option.{option_map_or}
use Rattle.std.proofs.lemmas.Bool.{and_parts, or_cases, or_left, or_right, both_ways, false_from_ne_true, cases_eq, cond-true, cond-false}
use Rattle.std.proofs.lemmas.List.Folds.{list_any-append}
use Rattle.pack_defs.proofs.Members.{is_in-gives, is_in-from, Contains-filter, Contains-from_filter}
use Rattle.pack_defs.proofs.Words.{ascending-from, same-ascending, list_any-map, swap_or}
use Rattle.pack_defs.proofs.ComponentLaws.{component-gives, component-from, component-within}
use Rattle.pack_defs.proofs.ClockSteps.{is_in-without}
use Rattle.pack_defs.specs.Book.{BookView, domain_of}
use Rattle.pack_defs.specs.ChannelMap.{channel_of, put, overlaid}
use Rattle.pack_defs.specs.Lists.{is_in, is_empty, is_ascending, has_station, same_list}
use Rattle.pack_defs.specs.declared.scenario.Scenario.{Scenario}
use Rattle.pack_defs.specs.Scenario.{facilities}
use Rattle.pack_defs.specs.Components.{Reaches}
use Rattle.pack_defs.specs.Components.Reaches.{here, next}
use Rattle.pack_defs.specs.ClockRule.{ClockTest, ClockState, OnAirSince, opening_state, is_active, is_on_air, asked_set, freezes, goes_on_air, exits, after_answer}
use Rattle.pack_defs.proofs.Chains.{ascending-filter}
use Rattle.assign_check.specs.Fault.{IsCleanOn}
use Rattle.auction_core.specs.declared.record.Shown.{Shown}
use Rattle.auction_core.specs.declared.record.Shown.TheVariants.{Empty, Fits, Same, NoChannel, Refuted, Outside, Undecided}
use Rattle.auction_core.specs.declared.record.Step.{Step}
use Rattle.auction_core.specs.State.{CoreState, test_of, shows_room, fit_of, last_fit, delta_of, settled, tested_set, set_in, is_same, settled_unasked, restricted, test_task}
use Rattle.auction_core.specs.Backed.{IsSettledBy, IsStepShown}
use Rattle.auction_core.specs.Rule.{IsAuction}
use Rattle.auction_core.specs.ClockProgress.{FitsStayClean, IsFitKept, clock_after}
use Rattle.auction_core.proofs.Answers.{filter-in, component-ascending}
use Rattle.auction_core.proofs.Overlay.{its-channel}
use Rattle.auction_core.proofs.Merged.{interferes-back}

-- ---- steps

-- the step of a test
abbrev pub step_of : ClockTest → Shown → Step
step_of t shown = record { round = t.round; station = t.station; shown = shown }

clock_after-push : (sc : Scenario) (c : ClockState) (xs : List Step) (x : Step) → clock_after sc c (xs ++ x ∷ []) ≡ after_answer sc (clock_after sc c xs) (test_of x) (shows_room x.shown)
clock_after-push sc c [] x = refl
clock_after-push sc c (y ∷ ys) x = clock_after-push sc (after_answer sc c (test_of y) (shows_room y.shown)) ys x

pub last_fit-push : (xs : List Step) (x : Step) (s : ℕ) (entries : List (ℕ × ℕ)) → last_fit (xs ++ x ∷ []) s entries ≡ (if x.station == s then unwrap_or (fit_of x.shown) (last_fit xs s entries) else last_fit xs s entries)
last_fit-push [] x s entries = refl
last_fit-push (y ∷ ys) x s entries = last_fit-push ys x s (if y.station == s then unwrap_or (fit_of y.shown) entries else entries)

last_fit-own : (xs : List Step) (x : Step) (s : ℕ) → x.station ≡ s → last_fit (xs ++ x ∷ []) s [] ≡ delta_of xs s x.shown
last_fit-own xs x s is = last_fit-push xs x s [] ∙ cond-true (x.station == s) (unwrap_or (fit_of x.shown) (last_fit xs s [])) (last_fit xs s []) (eq-eqb x.station s is)

last_fit-other : (xs : List Step) (x : Step) (s : ℕ) → (x.station ≡ s → ⊥) → last_fit (xs ++ x ∷ []) s [] ≡ last_fit xs s []
last_fit-other xs x s other = last_fit-push xs x s [] ∙ cond-false (x.station == s) (unwrap_or (fit_of x.shown) (last_fit xs s [])) (last_fit xs s []) (ne_eqb x.station s other)

-- a set that the steps with one more have is one that they had, or that of the last step
pub set_in-push : (sc : Scenario) (book : BookView) (c : ClockState) (xs : List Step) (x : Step) (r s : ℕ) (set : List ℕ) → set_in sc book c (xs ++ x ∷ []) r s ≡ Some set →
    (set_in sc book c xs r s ≡ Some set) ⊎ ((x.station ≡ s) × (tested_set sc book (clock_after sc c xs) s ≡ set))
set_in-push sc book c [] x r s set e =
    let go : (b : Bool) → ((x.round == r) && (x.station == s)) ≡ b → (if b then Some (tested_set sc book c s) else None) ≡ Some set → (set_in sc book c [] r s ≡ Some set) ⊎ ((x.station ≡ s) × (tested_set sc book c s ≡ set)) = λ b. elim b as (λ b. ((x.round == r) && (x.station == s)) ≡ b → (if b then Some (tested_set sc book c s) else None) ≡ Some set → (set_in sc book c [] r s ≡ Some set) ⊎ ((x.station ≡ s) × (tested_set sc book c s ≡ set))) [
      | true ↦ λ m f. let same : tested_set sc book c s ≡ set = cc in inr (eqb-true x.station s (and_parts (x.round == r) (x.station == s) m).1, same)
      | false ↦ λ m f. inl f
    ] in
    go ((x.round == r) && (x.station == s)) refl e
set_in-push sc book c (y ∷ ys) x r s set e =
    let next : ClockState = after_answer sc c (test_of y) (shows_room y.shown) in
    let go : (b : Bool) → (if b then Some (tested_set sc book c s) else set_in sc book next (ys ++ x ∷ []) r s) ≡ Some set → ((if b then Some (tested_set sc book c s) else set_in sc book next ys r s) ≡ Some set) ⊎ ((x.station ≡ s) × (tested_set sc book (clock_after sc next ys) s ≡ set)) = λ b. elim b as (λ b. (if b then Some (tested_set sc book c s) else set_in sc book next (ys ++ x ∷ []) r s) ≡ Some set → ((if b then Some (tested_set sc book c s) else set_in sc book next ys r s) ≡ Some set) ⊎ ((x.station ≡ s) × (tested_set sc book (clock_after sc next ys) s ≡ set))) [
      | true ↦ λ f. inl f
      | false ↦ λ f. set_in-push sc book next ys x r s set f
    ] in
    go ((y.round == r) && (y.station == s)) e

pub same_list-is : (xs ys : List ℕ) → same_list xs ys ≡ true → ys ≡ xs
same_list-is [] [] e = refl
same_list-is [] (y ∷ ys) e = cc
same_list-is (x ∷ xs) [] e = cc
same_list-is (x ∷ xs) (y ∷ ys) e =
    let parts = and_parts (x == y) (same_list xs ys) e in
    let first : x ≡ y = eqb-true x y parts.0 in
    let rest : ys ≡ xs = same_list-is xs ys parts.1 in
    cc

-- if a test asks about the same stations, the steps have its set for the round before
pub same-set : (sc : Scenario) (book : BookView) (state : CoreState) (t : ClockTest) → is_same sc book state t ≡ true → set_in sc book (opening_state sc) state.steps (t.round - 1) t.station ≡ Some (tested_set sc book state.clock t.station)
same-set sc book state t e =
    let set : List ℕ = tested_set sc book state.clock t.station in
    let go : (o : Option (List ℕ)) → option_map_or (same_list set) o false ≡ true → o ≡ Some set = λ o. elim o as (λ o. option_map_or (same_list set) o false ≡ true → o ≡ Some set) [
      | None ↦ λ f. cc
      | Some other ↦ λ f. ap Some (same_list-is set other f)
    ] in
    go (set_in sc book (opening_state sc) state.steps (t.round - 1) t.station) e

-- what settles a test without a query
pub unasked-cases : (sc : Scenario) (book : BookView) (state : CoreState) (t : ClockTest) (u : Shown) → settled_unasked sc book state t ≡ Some u →
    ((is_empty (domain_of book t.station) ≡ true) × (u ≡ NoChannel t.station)) ⊎ ((is_same sc book state t ≡ true) × (u ≡ Same))
unasked-cases sc book state t u e =
    let go : (a b : Bool) → is_empty (domain_of book t.station) ≡ a → is_same sc book state t ≡ b → (if a then Some (NoChannel t.station) else (if b then Some Same else None)) ≡ Some u → ((is_empty (domain_of book t.station) ≡ true) × (u ≡ NoChannel t.station)) ⊎ ((is_same sc book state t ≡ true) × (u ≡ Same)) =
    λ a b. elim a as (λ a. is_empty (domain_of book t.station) ≡ a → is_same sc book state t ≡ b → (if a then Some (NoChannel t.station) else (if b then Some Same else None)) ≡ Some u → ((is_empty (domain_of book t.station) ≡ true) × (u ≡ NoChannel t.station)) ⊎ ((is_same sc book state t ≡ true) × (u ≡ Same))) [
      | true ↦ λ m n f. let is : u ≡ NoChannel t.station = cc in inl (m, is)
      | false ↦ elim b as (λ b. is_empty (domain_of book t.station) ≡ false → is_same sc book state t ≡ b → (if b then Some Same else None) ≡ Some u → ((is_empty (domain_of book t.station) ≡ true) × (u ≡ NoChannel t.station)) ⊎ ((is_same sc book state t ≡ true) × (u ≡ Same))) [
        | true ↦ λ m n f. let is : u ≡ Same = cc in inr (n, is)
        | false ↦ λ m n f. cc
      ]
    ] in
    go (is_empty (domain_of book t.station)) (is_same sc book state t) refl refl e

-- ---- what a station reaches

pub reaches-more : (book : BookView) (few more : List ℕ) (s t : ℕ) → ((z : ℕ) → Contains few z → Contains more z) → Reaches book few s t → Reaches book more s t
reaches-more book few more s t sub here = here
reaches-more book few more s u sub (next {t = t} before there joined) = next (reaches-more book few more s t sub before) (sub u there) joined

pub reaches-then : (book : BookView) (set : List ℕ) (s t u : ℕ) → Reaches book set s t → Reaches book set t u → Reaches book set s u
reaches-then book set s t u first here = first
reaches-then book set s t u first (next {t = v} before there joined) = next (reaches-then book set s t v first before) there joined

pub reaches-back : (book : BookView) (set : List ℕ) (s t : ℕ) → Contains set s → Reaches book set s t → (Contains set t) × Reaches book set t s
reaches-back book set s t start here = (start, here)
reaches-back book set s u start (next {t = t} before there joined) =
    let back = reaches-back book set s t start before in
    (there, reaches-then book set u t s (next here back.0 (interferes-back t u book.pairs joined)) back.1)

-- ---- the clock

-- every station on air in the first state is on air in the second
abbrev pub IsLater : ClockState → ClockState → Type 0
IsLater c d = (f : ℕ) → is_on_air c f ≡ true → is_on_air d f ≡ true

answered-later : (sc : Scenario) (c : ClockState) (t : ClockTest) (b : Bool) → IsLater c (after_answer sc c t b)
answered-later sc c t false = λ f on. on
answered-later sc c t true =
    elim (exits sc t) as (λ b. IsLater c (if b then goes_on_air c t else c)) [
      | true ↦ λ f on. list_any-append (λ (x : OnAirSince). x.station == f) c.on_air (record { station = t.station; round = t.round } ∷ []) ∙ or_left (is_on_air c f) _ on
      | false ↦ λ f on. on
    ]

still-active : (sc : Scenario) (c : ClockState) (t : ClockTest) (b : Bool) (s : ℕ) → is_active (after_answer sc c t b) s ≡ true → is_active c s ≡ true
still-active sc c t false s h = (filter-in (λ y. not (y == t.station)) c.active s h).0
still-active sc c t true s h =
    (elim (exits sc t) as (λ b. is_active (if b then goes_on_air c t else c) s ≡ true → is_active c s ≡ true) [
      | true ↦ λ k. (filter-in (λ y. not (y == t.station)) c.active s k).0
      | false ↦ λ k. k
    ]) h

-- a station that is active after its own test fits, and the clock stays as it was
own-test : (sc : Scenario) (c : ClockState) (t : ClockTest) (b : Bool) → is_active (after_answer sc c t b) t.station ≡ true → (b ≡ true) × (after_answer sc c t b ≡ c)
own-test sc c t false h = absurd (both_ways (is_active (freezes sc c t) t.station) (is_in-without c.active t.station) h)
own-test sc c t true h =
    (elim (exits sc t) as (λ b. is_active (if b then goes_on_air c t else c) t.station ≡ true → (true ≡ true) × ((if b then goes_on_air c t else c) ≡ c)) [
      | true ↦ λ k. absurd (both_ways (is_active (goes_on_air c t) t.station) (is_in-without c.active t.station) k)
      | false ↦ λ k. (refl, refl)
    ]) h

pub tested-rises : (sc : Scenario) (book : BookView) (c : ClockState) (s : ℕ) → IsAuction sc book → is_ascending (tested_set sc book c s) ≡ true
tested-rises sc book c s a =
    component-ascending book (asked_set sc c s) s (ascending-filter (λ f. is_on_air c f || (f == s)) (facilities sc) (ascending-from (facilities sc) a.stations))

pub asked-more : (sc : Scenario) (c d : ClockState) (s : ℕ) → IsLater c d → (z : ℕ) → Contains (asked_set sc c s) z → Contains (asked_set sc d s) z
asked-more sc c d s later z h =
    let w = Contains-from_filter (λ f. is_on_air c f || (f == s)) (facilities sc) z h in
    Contains-filter (λ f. is_on_air d f || (f == s)) (facilities sc) z w.0
    (⊎_elim (λ on. or_left (is_on_air d z) (z == s) (later z on)) (λ e. or_right (is_on_air d z) (z == s) e) (or_cases (is_on_air c z) (z == s) w.1))

pub asked-own : (sc : Scenario) (c : ClockState) (s : ℕ) → Contains (facilities sc) s → Contains (asked_set sc c s) s
asked-own sc c s known = Contains-filter (λ f. is_on_air c f || (f == s)) (facilities sc) s known (or_right (is_on_air c s) (s == s) (eq-eqb s s refl))

-- the set that a test asks about only grows
pub tested-grows : (sc : Scenario) (book : BookView) (c d : ClockState) (s z : ℕ) → Contains (facilities sc) s → IsLater c d → is_in (tested_set sc book c s) z ≡ true → is_in (tested_set sc book d s) z ≡ true
tested-grows sc book c d s z known later h =
    is_in-from (tested_set sc book d s) z
    (component-from book (asked_set sc d s) s z (asked-own sc d s known)
    (reaches-more book (asked_set sc c s) (asked_set sc d s) s z (asked-more sc c d s later)
    (component-gives book (asked_set sc c s) s z (is_in-gives (tested_set sc book c s) z h))))

-- if u goes on air, and the sets that u and s ask about have a station in common, then s asks about u
meets : (sc : Scenario) (book : BookView) (c d : ClockState) (u s z : ℕ) → Contains (facilities sc) u → Contains (facilities sc) s → IsLater c d → is_on_air d u ≡ true → is_in (tested_set sc book c u) z ≡ true → is_in (tested_set sc book d s) z ≡ true → is_in (tested_set sc book d s) u ≡ true
meets sc book c d u s z known_u known_s later on of_u of_s =
    let all : List ℕ = asked_set sc d s in
    let sub : (w : ℕ) → Contains (asked_set sc c u) w → Contains all w = λ w h.
    let p = Contains-from_filter (λ f. is_on_air c f || (f == u)) (facilities sc) w h in
    Contains-filter (λ f. is_on_air d f || (f == s)) (facilities sc) w p.0
    (or_left (is_on_air d w) (w == s) (⊎_elim (λ on. later w on) (λ e. subst (λ v. is_on_air d v ≡ true) (sym (eqb-true w u e)) on) (or_cases (is_on_air c w) (w == u) p.1))) in
    let to_z = reaches-more book (asked_set sc c u) all u z sub (component-gives book (asked_set sc c u) u z (is_in-gives (tested_set sc book c u) z of_u)) in
    let back = reaches-back book all u z (sub u (asked-own sc c u known_u)) to_z in
    is_in-from (tested_set sc book d s) u
    (component-from book all s u (asked-own sc d s known_s)
    (reaches-then book all s z u (component-gives book all s z (is_in-gives (tested_set sc book d s) z of_s)) back.1))

-- ---- maps

twice : (a b r : Bool) → a ≡ b → (a || r) ≡ (a || (b || r))
twice true true r e = refl
twice true false r e = refl
twice false true r e = cc
twice false false r e = refl

put-has : (x : ℕ × ℕ) (m : List (ℕ × ℕ)) (z : ℕ) → has_station (put x m) z ≡ ((x.0 == z) || has_station m z)
put-has x [] z = refl
put-has x (y ∷ ys) z =
    let go : (a b : Bool) → (x.0 == y.0) ≡ b → has_station (if a then x ∷ y ∷ ys else (if b then x ∷ ys else y ∷ put x ys)) z ≡ ((x.0 == z) || ((y.0 == z) || has_station ys z)) =
    λ a b. elim a as (λ a. (x.0 == y.0) ≡ b → has_station (if a then x ∷ y ∷ ys else (if b then x ∷ ys else y ∷ put x ys)) z ≡ ((x.0 == z) || ((y.0 == z) || has_station ys z))) [
      | true ↦ λ e. refl
      | false ↦ elim b as (λ b. (x.0 == y.0) ≡ b → has_station (if b then x ∷ ys else y ∷ put x ys) z ≡ ((x.0 == z) || ((y.0 == z) || has_station ys z))) [
        | true ↦ λ e. twice (x.0 == z) (y.0 == z) (has_station ys z) (ap (λ w. w == z) (eqb-true x.0 y.0 e))
        | false ↦ λ e. ap (λ b. (y.0 == z) || b) (put-has x ys z) ∙ swap_or (y.0 == z) (x.0 == z) (has_station ys z)
      ]
    ] in
    go (nat_lt x.0 y.0) (x.0 == y.0) refl

overlaid-has : (m d : List (ℕ × ℕ)) (z : ℕ) → (has_station d z || has_station m z) ≡ true → has_station (overlaid m d) z ≡ true
overlaid-has m [] z h = h
overlaid-has m (x ∷ xs) z h =
    overlaid-has (put x m) xs z
    (⊎_elim
    (λ first. ⊎_elim
    (λ own. or_right (has_station xs z) (has_station (put x m) z) (put-has x m z ∙ or_left (x.0 == z) (has_station m z) own))
    (λ later. or_left (has_station xs z) (has_station (put x m) z) later)
    (or_cases (x.0 == z) (has_station xs z) first))
    (λ old. or_right (has_station xs z) (has_station (put x m) z) (put-has x m z ∙ or_right (x.0 == z) (has_station m z) old))
    (or_cases (has_station (x ∷ xs) z) (has_station m z) h))

-- an entry of a station outside the set does not change the restricted map
put-outside : (x : ℕ × ℕ) (m : List (ℕ × ℕ)) (set : List ℕ) → is_in set x.0 ≡ false → restricted (put x m) set ≡ restricted m set
put-outside x [] set out = cond-false (is_in set x.0) (x ∷ []) [] out
put-outside x (y ∷ ys) set out =
    let drop_x : (rest : List (ℕ × ℕ)) → restricted (x ∷ rest) set ≡ restricted rest set = λ rest. cond-false (is_in set x.0) (x ∷ restricted rest set) (restricted rest set) out in
    let go : (a b : Bool) → (x.0 == y.0) ≡ b → restricted (if a then x ∷ y ∷ ys else (if b then x ∷ ys else y ∷ put x ys)) set ≡ restricted (y ∷ ys) set =
    λ a b. elim a as (λ a. (x.0 == y.0) ≡ b → restricted (if a then x ∷ y ∷ ys else (if b then x ∷ ys else y ∷ put x ys)) set ≡ restricted (y ∷ ys) set) [
      | true ↦ λ e. drop_x (y ∷ ys)
      | false ↦ elim b as (λ b. (x.0 == y.0) ≡ b → restricted (if b then x ∷ ys else y ∷ put x ys) set ≡ restricted (y ∷ ys) set) [
        | true ↦ λ e. drop_x ys ∙ sym (cond-false (is_in set y.0) (y ∷ restricted ys set) (restricted ys set) (subst (λ w. is_in set w ≡ false) (eqb-true x.0 y.0 e) out))
        | false ↦ λ e. ap (λ rest. cond (is_in set y.0) (y ∷ rest) rest) (put-outside x ys set out)
      ]
    ] in
    go (nat_lt x.0 y.0) (x.0 == y.0) refl

overlaid-outside : (m d : List (ℕ × ℕ)) (set : List ℕ) → ((z : ℕ) → has_station d z ≡ true → is_in set z ≡ false) → restricted (overlaid m d) set ≡ restricted m set
overlaid-outside m [] set out = refl
overlaid-outside m (x ∷ xs) set out =
    overlaid-outside (put x m) xs set (λ z h. out z (or_right (x.0 == z) (has_station xs z) h))
    ∙ put-outside x m set (out x.0 (or_left (x.0 == x.0) (has_station xs x.0) (eq-eqb x.0 x.0 refl)))

-- a fit gives channels to stations of its set only
pub within-fit : (book : BookView) (set : List ℕ) (m d : List (ℕ × ℕ)) → IsCleanOn book set (overlaid m d) → (z : ℕ) → has_station d z ≡ true → is_in set z ≡ true
within-fit book set m d fit z h =
    let new : List (ℕ × ℕ) = overlaid m d in
    fit.only (z, unwrap_or (channel_of z new) 0) (its-channel new z (list_any-map (λ y. y == z) (λ y. y.0) new ∙ overlaid-has m d z (or_left (has_station d z) (has_station m z) h)))

-- ---- earlier fits still work

-- `FitsStayClean` depends on the clock, the map and the steps only
pub fits-stand-same : (sc : Scenario) (book : BookView) (a b : CoreState) → a.clock ≡ b.clock → a.map ≡ b.map → a.steps ≡ b.steps → FitsStayClean sc book a → FitsStayClean sc book b
fits-stand-same sc book a b e f g h =
    let at : ClockState → List (ℕ × ℕ) → List Step → CoreState = λ c m xs. record b { clock = c; map = m; steps = xs } in
    let moved : FitsStayClean sc book (at a.clock a.map a.steps) = record { clock = h.clock; grows = h.grows; fits = h.fits } in
    let done : FitsStayClean sc book (at b.clock b.map b.steps) = subst (λ xs. FitsStayClean sc book (at b.clock b.map xs)) g (subst (λ m. FitsStayClean sc book (at b.clock m a.steps)) f (subst (λ c. FitsStayClean sc book (at c a.map a.steps)) e moved)) in
    record { clock = done.clock; grows = done.grows; fits = done.fits }

-- `FitsStayClean` before the first step
pub fits-stand-first : (sc : Scenario) (book : BookView) (state : CoreState) → state.clock ≡ opening_state sc → state.steps ≡ [] → FitsStayClean sc book state
fits-stand-first sc book state e f =
    let first : FitsStayClean sc book (record state { steps = [] }) = record {
      clock = sym e;
      grows = λ r s set active is. cc;
      fits = λ r s active is. cc;
    } in
    fits-stand-same sc book (record state { steps = [] }) state refl refl (sym f) first

-- what a fitting test puts into the map makes the map clean on the set that the test asks about
pub delta-fits : (sc : Scenario) (book : BookView) (state : CoreState) (t : ClockTest) (shown : Shown) → FitsStayClean sc book state → is_active state.clock t.station ≡ true → IsStepShown sc book state (step_of t shown) → shows_room shown ≡ true →
    IsCleanOn book (test_task sc book state t).set (overlaid (test_task sc book state t).last (delta_of state.steps t.station shown))
delta-fits sc book state t shown f active h room =
    let go : (o : Option Shown) → settled_unasked sc book state t ≡ o → MatchOption o (IsSettledBy sc book (test_task sc book state t) shown) (λ unasked. shown ≡ unasked) → IsCleanOn book (test_task sc book state t).set (overlaid (test_task sc book state t).last (delta_of state.steps t.station shown)) = λ o. elim o as (λ o. settled_unasked sc book state t ≡ o → MatchOption o (IsSettledBy sc book (test_task sc book state t) shown) (λ unasked. shown ≡ unasked) → IsCleanOn book (test_task sc book state t).set (overlaid (test_task sc book state t).last (delta_of state.steps t.station shown))) [
      | None ↦ λ e k. by-query shown k room
      | Some u ↦ λ e k. ⊎_elim
          (λ bare. let no : false ≡ true = sym (ap shows_room (k ∙ bare.1)) ∙ room in cc)
          (λ same. subst (λ x. IsCleanOn book (test_task sc book state t).set (overlaid (test_task sc book state t).last (delta_of state.steps t.station x))) (sym (k ∙ same.1)) (f.fits (t.round - 1) t.station active (same-set sc book state t same.0)))
          (unasked-cases sc book state t u e)
    ] in
    go (settled_unasked sc book state t) refl h
  where
    by-query : (shown : Shown) → IsSettledBy sc book (test_task sc book state t) shown → shows_room shown ≡ true → IsCleanOn book (test_task sc book state t).set (overlaid (test_task sc book state t).last (delta_of state.steps t.station shown))
    by-query Empty k r = absurd k
    by-query (Fits delta) k r = k
    by-query Same k r = absurd k
    by-query (NoChannel s) k r = absurd k
    by-query (Refuted w how) k r = cc
    by-query (Outside proof) k r = cc
    by-query (Undecided receipts) k r = cc

-- ---- one more step

-- an active station is one of the scenario's and is not on air
abbrev pub AreOffAir : Scenario → ClockState → Type 0
AreOffAir sc clock = (s : ℕ) → is_active clock s ≡ true → Contains (facilities sc) s × (is_on_air clock s ≡ false)

module _ (sc : Scenario) (book : BookView) (state : CoreState) (t : ClockTest) (shown : Shown) (a : IsAuction sc book) (off : AreOffAir sc state.clock) (active : is_active state.clock t.station ≡ true) (f : FitsStayClean sc book state) (h : IsStepShown sc book state (step_of t shown)) where
  abbrev after : CoreState
  after = settled sc state t shown

  later : IsLater state.clock after.clock
  later = answered-later sc state.clock t (shows_room shown)

  was : (s : ℕ) → is_active after.clock s ≡ true → is_active state.clock s ≡ true
  was s = still-active sc state.clock t (shows_room shown) s

  clock-more : clock_after sc (opening_state sc) after.steps ≡ after.clock
  clock-more = clock_after-push sc (opening_state sc) state.steps (step_of t shown) ∙ ap (λ c. after_answer sc c t (shows_room shown)) f.clock

  grows-more : (r s : ℕ) (set : List ℕ) → is_active after.clock s ≡ true → set_in sc book (opening_state sc) after.steps r s ≡ Some set → (z : ℕ) → is_in set z ≡ true → is_in (tested_set sc book after.clock s) z ≡ true
  grows-more r s set still is z there =
      tested-grows sc book state.clock after.clock s z (off s (was s still)).0 later
      (⊎_elim
      (λ old. f.grows r s set (was s still) old z there)
      (λ own. subst (λ c. is_in (tested_set sc book c s) z ≡ true) f.clock (subst (λ xs. is_in xs z ≡ true) (sym own.1) there))
      (set_in-push sc book (opening_state sc) state.steps (step_of t shown) r s set is))

  -- the tested station itself
  own-fit : is_active after.clock t.station ≡ true → IsFitKept sc book after t.station
  own-fit still =
      let own = own-test sc state.clock t (shows_room shown) still in
      let quiet : is_on_air after.clock t.station ≡ false = subst (λ c. is_on_air c t.station ≡ false) (sym own.1) (off t.station active).1 in
      let same_map : after.map ≡ state.map = cond-false (is_on_air after.clock t.station) (overlaid state.map (delta_of state.steps t.station shown)) state.map quiet in
      let fit = delta-fits sc book state t shown f active h own.0 in
      let at : ClockState → List (ℕ × ℕ) → List (ℕ × ℕ) → Type 0 = λ c m d. IsCleanOn book (tested_set sc book c t.station) (overlaid (restricted m (tested_set sc book c t.station)) d) in
      subst (λ d. at after.clock after.map d) (sym (last_fit-own state.steps (step_of t shown) t.station refl))
      (subst (λ m. at after.clock m (delta_of state.steps t.station shown)) (sym same_map)
      (subst (λ c. at c state.map (delta_of state.steps t.station shown)) (sym own.1) fit))

  -- if the tested station goes on air, its test was answered with "it fits"
  went : is_on_air after.clock t.station ≡ true → shows_room shown ≡ true
  went on =
      (elim (shows_room shown) as (λ b. is_on_air (after_answer sc state.clock t b) t.station ≡ true → b ≡ true) [
        | true ↦ λ _. refl
        | false ↦ λ k. absurd (both_ways (is_on_air state.clock t.station) (off t.station active).1 k)
      ]) on

  -- another station
  other-fit : (r s : ℕ) → (t.station ≡ s → ⊥) → is_active after.clock s ≡ true → set_in sc book (opening_state sc) after.steps r s ≡ Some (tested_set sc book after.clock s) → IsFitKept sc book after s
  other-fit r s other still is =
      let before : is_active state.clock s ≡ true = was s still in
      let known : Contains (facilities sc) s = (off s before).0 in
      let old : List ℕ = tested_set sc book state.clock s in
      let new : List ℕ = tested_set sc book after.clock s in
      let had : set_in sc book (opening_state sc) state.steps r s ≡ Some new = ⊎_elim (λ e. e) (λ own. absurd (other own.0)) (set_in-push sc book (opening_state sc) state.steps (step_of t shown) r s new is) in
      let same : old ≡ new = same-ascending old new (tested-rises sc book state.clock s a) (tested-rises sc book after.clock s a)
      (λ z k. tested-grows sc book state.clock after.clock s z known later k)
      (λ z k. f.grows r s new before had z k) in
      let kept : IsFitKept sc book state s = f.fits r s before (had ∙ ap Some (sym same)) in
      let delta : List (ℕ × ℕ) = delta_of state.steps t.station shown in
      let apart : is_on_air after.clock t.station ≡ true → (z : ℕ) → has_station delta z ≡ true → is_in new z ≡ false = λ on z k.
      false_from_ne_true (is_in new z) (λ there.
      let in_test = within-fit book (tested_set sc book state.clock t.station) (restricted state.map (tested_set sc book state.clock t.station)) delta (delta-fits sc book state t shown f active h (went on)) z k in
      let tied = meets sc book state.clock after.clock t.station s z (off t.station active).0 known later on in_test there in
      let asked = Contains-from_filter (λ w. is_on_air state.clock w || (w == s)) (facilities sc) t.station (component-within book (asked_set sc state.clock s) s t.station (is_in-gives old t.station (subst (λ xs. is_in xs t.station ≡ true) (sym same) tied))) in
      ⊎_elim (λ yes. both_ways (is_on_air state.clock t.station) (off t.station active).1 yes) (λ e. other (eqb-true t.station s e)) (or_cases (is_on_air state.clock t.station) (t.station == s) asked.1)) in
      let same_map : restricted after.map new ≡ restricted state.map new =
      (elim (is_on_air after.clock t.station) as (λ b. is_on_air after.clock t.station ≡ b → restricted (if b then overlaid state.map delta else state.map) new ≡ restricted state.map new) [
        | true ↦ λ on. overlaid-outside state.map delta new (apart on)
        | false ↦ λ _. refl
      ]) refl in
      subst (λ d. IsCleanOn book new (overlaid (restricted after.map new) d)) (sym (last_fit-other state.steps (step_of t shown) s other))
      (subst (λ m. IsCleanOn book new (overlaid m (last_fit state.steps s []))) (sym same_map)
      (subst (λ set. IsCleanOn book set (overlaid (restricted state.map set) (last_fit state.steps s []))) same kept))

  -- earlier fits still work after the step, and so does its own
  pub fits-stand-step : FitsStayClean sc book after
  fits-stand-step = record {
    clock = clock-more;
    grows = grows-more;
    fits = λ r s still is. ⊎_elim
        (λ (e : t.station ≡ s). subst (λ w. IsFitKept sc book after w) e (own-fit (subst (λ w. is_active after.clock w ≡ true) (sym e) still)))
        (λ (n : t.station ≡ s → ⊥). other-fit r s n still is)
        (cases_eq t.station s);
  }
