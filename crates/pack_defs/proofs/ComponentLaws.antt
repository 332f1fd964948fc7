-- A component has exactly the stations that are reached. A set fits if its component and the stations that were on air fit.
use Rattle.std.proofs.Common.{◌≡◌, ℕ, zero, suc, ◌<◌, ◌≤◌, Bool, true, false, ◌&&◌, ◌||◌, cond, eqb, ◌⊎◌, inl, inr, List, [], ◌∷◌, map, length, refl, sym, ◌∙◌, subst, arith, Contains, filter}
use Rattle.std.specs.List.{list_any, list_all}
use Rattle.std.proofs.lemmas.Bool.{true≢false, eqb-true, eq-eqb, and_parts, and_from, and_cases, or_cases, or_left, or_right, true_from_ne_false, false_from_ne_true, cond-true, cond-false, cases_Bool}
use Rattle.pack_defs.specs.Lists.{is_in, is_ascending}
use Rattle.pack_defs.specs.Book.{BookView, is_forbidden, joins}
use Rattle.pack_defs.specs.Packing.{Fits, fits}
use Rattle.pack_defs.specs.declared.scenario.Scenario.{Scenario}
use Rattle.pack_defs.specs.Scenario.{facilities}
use Rattle.pack_defs.specs.ClockRule.{ClockState, is_on_air, on_air_set, asked_set}
use Rattle.pack_defs.specs.Components.{interferes, widened, within, component, Reaches}
use Rattle.pack_defs.specs.Components.Reaches.{here, next}
use Rattle.pack_defs.proofs.Members.{Contains-here, Contains-there, Contains-cons_cases, Contains-nil, Contains-from_map, Contains-filter, Contains-from_filter, is_in-from, is_in-gives, list_any-from, list_any-gives, list_all-gives}
use Rattle.pack_defs.proofs.FitsLaws.{fits-gives, fits-from, part_fits}
use Rattle.pack_defs.proofs.Chains.{ascending-filter}

-- ---- a set that grows within a list stops growing

list_all-fails : {X : Type 0} (p : X → Bool) (xs : List X) → list_all p xs ≡ false → (x : X) × Contains xs x × (p x ≡ false)
list_all-fails p [] h = absurd (true≢false h)
list_all-fails p (x ∷ xs) h =
    elim (and_cases (p x) (list_all p xs) h) [
      | inl e ↦ (x, Contains-here x xs, e)
      | inr l ↦ let r = list_all-fails p xs l in (r.0, Contains-there x r.0 xs r.1, r.2)
    ]

-- How many places of the set hold one of these numbers.
abbrev size_of : List ℕ → List ℕ → ℕ
size_of set among = length (filter (λ t. is_in among t) set)

pub filter_no_longer : {X : Type 0} (p : X → Bool) (xs : List X) → length (filter p xs) ≤ length xs
filter_no_longer p [] = omega arith
filter_no_longer p (x ∷ xs) =
    let rest = filter_no_longer p xs in
    elim (p x) as (λ b. length (cond b (x ∷ filter p xs) (filter p xs)) ≤ suc (length xs)) [ true ↦ omega arith | false ↦ omega arith ]

-- If each number that passes p passes q, no fewer pass q.
pub filter_grows : (p q : ℕ → Bool) (xs : List ℕ) → ((x : ℕ) → p x ≡ true → q x ≡ true) → length (filter p xs) ≤ length (filter q xs)
filter_grows p q [] h = omega arith
filter_grows p q (x ∷ xs) h =
    let rest = filter_grows p q xs h in
    (elim (p x) as (λ b. p x ≡ b → length (cond b (x ∷ filter p xs) (filter p xs)) ≤ length (cond (q x) (x ∷ filter q xs) (filter q xs))) [
      | true ↦ λ e. rw (cond-true (q x) (x ∷ filter q xs) (filter q xs) (h x e)) (omega arith)
      | false ↦ λ e. elim (q x) as (λ b. length (filter p xs) ≤ length (cond b (x ∷ filter q xs) (filter q xs))) [ true ↦ omega arith | false ↦ omega arith ]
    ]) refl

-- If moreover some element passes only q, more pass q.
pub filter_grows_by_one : (p q : ℕ → Bool) (xs : List ℕ) (y : ℕ) → ((x : ℕ) → p x ≡ true → q x ≡ true) → Contains xs y → p y ≡ false → q y ≡ true → length (filter p xs) < length (filter q xs)
filter_grows_by_one p q [] y h l out new = absurd (Contains-nil y l)
filter_grows_by_one p q (x ∷ xs) y h l out new =
    elim (Contains-cons_cases x y xs l) [
      | inl e ↦
          let grown = filter_grows p q xs h in
          let out_x : p x ≡ false = subst (λ z. p z ≡ false) (sym e) out in
          let new_x : q x ≡ true = subst (λ z. q z ≡ true) (sym e) new in
          rw (cond-false (p x) (x ∷ filter p xs) (filter p xs) out_x, cond-true (q x) (x ∷ filter q xs) (filter q xs) new_x) (omega arith)
      | inr later ↦
          let rest = filter_grows_by_one p q xs y h later out new in
          (elim (p x) as (λ b. p x ≡ b → length (cond b (x ∷ filter p xs) (filter p xs)) < length (cond (q x) (x ∷ filter q xs) (filter q xs))) [
            | true ↦ λ same. rw (cond-true (q x) (x ∷ filter q xs) (filter q xs) (h x same)) (omega arith)
            | false ↦ λ _. elim (q x) as (λ b. length (filter p xs) < length (cond b (x ∷ filter q xs) (filter q xs))) [ true ↦ omega arith | false ↦ omega arith ]
          ]) refl
    ]

-- If as many pass as the list has, each element passes.
all_pass : (p : ℕ → Bool) (xs : List ℕ) (x : ℕ) → length xs ≤ length (filter p xs) → Contains xs x → p x ≡ true
all_pass p xs x full there = true_from_ne_false _ (λ out.
    let more = filter_grows_by_one p (λ _. true) xs x (λ _ _. refl) there out refl in
    let most = filter_no_longer (λ _. true) xs in
    omega (arith, full, more, most))

module _ (book : BookView) (set : List ℕ) where
  -- Widening adds nothing.
  record Closed (among : List ℕ) : Type 0 where
    nothing_new : (t : ℕ) → Contains (widened book set among) t → Contains among t

  widened-gives : (among : List ℕ) (t : ℕ) → Contains (widened book set among) t → Contains set t × (Contains among t ⊎ ((s : ℕ) × Contains among s × (interferes book s t ≡ true)))
  widened-gives among t h =
      let (there, is) = Contains-from_filter (λ u. is_in among u || list_any (λ s. interferes book s u) among) set t h in (
        there,
        elim (or_cases (is_in among t) _ is) [
          | inl old ↦ inl (is_in-gives among t old)
          | inr new ↦ inr (list_any-gives (λ s. interferes book s t) among new)
        ],
      )

  widened-has : (among : List ℕ) (s t : ℕ) → Contains set t → Contains among s → interferes book s t ≡ true → Contains (widened book set among) t
  widened-has among s t there from joined =
      Contains-filter (λ u. is_in among u || list_any (λ w. interferes book w u) among) set t there (or_right (is_in among t) _ (list_any-from (λ w. interferes book w t) among s from joined))

  widened-keeps : (among : List ℕ) (t : ℕ) → Contains set t → Contains among t → Contains (widened book set among) t
  widened-keeps among t there old =
      Contains-filter (λ u. is_in among u || list_any (λ w. interferes book w u) among) set t there (or_left _ _ (is_in-from among t old))

  closed_still : (among : List ℕ) → Closed among → Closed (widened book set among)
  closed_still among closed = record {
    nothing_new = λ t h.
        let (there, how) = widened-gives (widened book set among) t h in
        elim how [
          | inl old ↦ old
          | inr (s, from, joined) ↦ widened-has among s t there (closed.nothing_new s from) joined
        ];
  }

  -- The stations of the set that s reaches are in the set.
  within-set : (s n t : ℕ) → Contains (within book set s n) t → Contains set t
  within-set s zero t h = (Contains-from_filter (λ u. eqb u s) set t h).0
  within-set s (suc n) t h = (widened-gives (within book set s n) t h).0

  closed_or_large : (s n : ℕ) → Closed (within book set s n) ⊎ (n ≤ size_of set (within book set s n))
  closed_or_large s zero = inr (omega arith)
  closed_or_large s (suc n) =
      let among : List ℕ = within book set s n in
      elim (closed_or_large s n) [
        | inl closed ↦ inl (closed_still among closed)
        | inr large ↦ elim (cases_Bool (list_all (λ t. is_in among t) (widened book set among))) [
          | inl all ↦ inl (closed_still among (record { nothing_new = λ t h. is_in-gives among t (list_all-gives (λ u. is_in among u) (widened book set among) t all h) }))
          | inr some ↦
              let (t, new, out) = list_all-fails (λ u. is_in among u) (widened book set among) some in
              let there = (widened-gives among t new).0 in
              let more = filter_grows_by_one (λ u. is_in among u) (λ u. is_in (widened book set among) u) set t (λ u old. is_in-from _ u (widened-keeps among u (within-set s n u (is_in-gives among u old)) (is_in-gives among u old))) there out (is_in-from _ t new) in
              inr (omega (arith, large, more))
        ]
      ]

  -- The component is closed.
  component-closed : (s : ℕ) → Closed (component book set s)
  unfolding component
  component-closed s =
      elim (closed_or_large s (length set)) [
        | inl closed ↦ closed
        | inr large ↦ record {
          nothing_new = λ t h.
              is_in-gives _ t (all_pass (λ u. is_in (within book set s (length set)) u) set t large (widened-gives _ t h).0);
        }
      ]

  pub component-within : (s t : ℕ) → Contains (component book set s) t → Contains set t
  unfolding component
  component-within s t h = within-set s (length set) t h

  within-start : (s n : ℕ) → Contains set s → Contains (within book set s n) s
  within-start s zero there = Contains-filter (λ u. eqb u s) set s there (eq-eqb s s refl)
  within-start s (suc n) there = widened-keeps (within book set s n) s there (within-start s n there)

  pub component-start : (s : ℕ) → Contains set s → Contains (component book set s) s
  unfolding component
  component-start s there = within-start s (length set) there

  -- A station of the set that interferes with one of the component is in it.
  pub component-next : (s t u : ℕ) → Contains (component book set s) t → Contains set u → interferes book t u ≡ true → Contains (component book set s) u
  component-next s t u from there joined = (component-closed s).nothing_new u (widened-has (component book set s) t u there from joined)

  within-reaches : (s n t : ℕ) → Contains (within book set s n) t → Reaches book set s t
  within-reaches s zero t h =
      let is = (Contains-from_filter (λ u. eqb u s) set t h).1 in subst (λ z. Reaches book set s z) (sym (eqb-true t s is)) here
  within-reaches s (suc n) t h =
      let (there, how) = widened-gives (within book set s n) t h in
      elim how [
        | inl old ↦ within-reaches s n t old
        | inr (u, from, joined) ↦ next (within-reaches s n u from) there joined
      ]

  -- The component has just the stations that s reaches.
  pub component-gives : (s t : ℕ) → Contains (component book set s) t → Reaches book set s t
  unfolding component
  component-gives s t h = within-reaches s (length set) t h

  pub component-from : (s t : ℕ) → Contains set s → Reaches book set s t → Contains (component book set s) t
  component-from s t start here = component-start s start
  component-from s t start (next {t = u} before there joined) = component-next s u t (component-from s u start before) there joined

-- A forbidden pair of entries belongs to two stations that interfere.
forbidden_interferes : (book : BookView) (x y : ℕ × ℕ) → is_forbidden book x y ≡ true → interferes book x.0 y.0 ≡ true
forbidden_interferes book x y h =
    let (p, listed, joined) = list_any-gives (λ q. joins q x y) book.pairs h in
    let ends : (f a g b : ℕ) (v w : ℕ × ℕ) → (eqb f v.0 && (eqb a v.1 && (eqb g w.0 && eqb b w.1))) ≡ true → (eqb f v.0 && eqb g w.0) ≡ true = λ f a g b v w t.
    let (ef, t1) = and_parts (eqb f v.0) _ t in
    let (ea, t2) = and_parts (eqb a v.1) _ t1 in
    and_from _ _ ef (and_parts (eqb g w.0) _ t2).0 in
    list_any-from (λ q. ((eqb q.f x.0) && (eqb q.g y.0)) || ((eqb q.f y.0) && (eqb q.g x.0))) book.pairs p listed
    (elim (or_cases ((eqb p.f x.0) && ((eqb p.a x.1) && ((eqb p.g y.0) && (eqb p.b y.1)))) _ joined) [
      | inl t ↦ or_left _ _ (ends p.f p.a p.g p.b x y t)
      | inr t ↦ or_right _ _ (ends p.f p.a p.g p.b y x t)
    ])

interferes_flips : (book : BookView) (s t : ℕ) → interferes book s t ≡ true → interferes book t s ≡ true
interferes_flips book s t h =
    let (p, listed, is) = list_any-gives (λ q. ((eqb q.f s) && (eqb q.g t)) || ((eqb q.f t) && (eqb q.g s))) book.pairs h in
    list_any-from (λ q. ((eqb q.f t) && (eqb q.g s)) || ((eqb q.f s) && (eqb q.g t))) book.pairs p listed
    (elim (or_cases ((eqb p.f s) && (eqb p.g t)) _ is) [ inl a ↦ or_right _ _ a | inr b ↦ or_left _ _ b ])

-- ---- a set fits where its component fits, and what was on air before

-- An entry of the component's map, or an entry of the other map whose station is outside the component.
record Chosen (inside : List ℕ) (set : List ℕ) (m n : List (ℕ × ℕ)) (x : ℕ × ℕ) : Type 0 where
  where_from : (Contains inside x.0 × Contains m x) ⊎ ((is_in inside x.0 ≡ false) × Contains n x × Contains set x.0)

chosen_map : (inside set : List ℕ) (m n : List (ℕ × ℕ)) (part : List ℕ) → ((t : ℕ) → Contains part t → Contains set t) →
    ((t : ℕ) → Contains inside t → Contains (map (λ x. x.0) m) t) →
    ((t : ℕ) → Contains set t → is_in inside t ≡ false → Contains (map (λ x. x.0) n) t) →
    (entries : List (ℕ × ℕ)) × (map (λ x. x.0) entries ≡ part) × ((x : ℕ × ℕ) → Contains entries x → Chosen inside set m n x)
chosen_map inside set m n [] sub has_m has_n = ([], refl, λ x l. absurd (Contains-nil x l))
chosen_map inside set m n (t ∷ part) sub has_m has_n =
    let there : Contains set t = sub t (Contains-here t part) in
    let (rest, stations, each) = chosen_map inside set m n part (λ u l. sub u (Contains-there t u part l)) has_m has_n in
    let one : (e : ℕ × ℕ) × (e.0 ≡ t) × Chosen inside set m n e =
    elim (cases_Bool (is_in inside t)) [
      | inl is ↦
          let (e, listed, own) = Contains-from_map (λ x. x.0) m t (has_m t (is_in-gives inside t is)) in
          (e, own, record { where_from = inl (subst (λ z. Contains inside z) (sym own) (is_in-gives inside t is), listed) })
      | inr out ↦
          let (e, listed, own) = Contains-from_map (λ x. x.0) n t (has_n t there out) in
          (e, own, record { where_from = inr (subst (λ z. is_in inside z ≡ false) (sym own) out, listed, subst (λ z. Contains set z) (sym own) there) })
    ] in
    let e : ℕ × ℕ = one.0 in
    let own : e.0 ≡ t = one.1 in (
      e ∷ rest,
      cc,
      λ x l. elim (Contains-cons_cases e x rest l) [
        | inl same ↦ subst (λ z. Chosen inside set m n z) same one.2
        | inr later ↦ each x later
      ],
    )

component_enough : (book : BookView) (on set : List ℕ) (s : ℕ) → Contains set s → ((t : ℕ) → Contains set t → (t ≡ s) ⊎ Contains on t) → Fits book on → Fits book (component book set s) → Fits book set
component_enough book on set s start before fit_on fit_in =
    let inside : List ℕ = component book set s in
    let m : List (ℕ × ℕ) = fit_in.entries in
    let n : List (ℕ × ℕ) = fit_on.entries in
    let (entries, stations, each) = chosen_map inside set m n set (λ t l. l)
    (λ t l. subst (λ z. Contains z t) (sym fit_in.stations) l)
    (λ t l out. subst (λ z. Contains z t) (sym fit_on.stations) (elim (before t l) [
      | inl is ↦ absurd (true≢false (sym (is_in-from inside t (subst (λ z. Contains inside z) (sym is) (component-start book set s start))) ∙ out))
      | inr old ↦ old
    ])) in
    let outside : (x y : ℕ × ℕ) → Contains inside x.0 → is_in inside y.0 ≡ false → Contains set y.0 → interferes book x.0 y.0 ≡ true → ⊥ = λ x y is out there joined.
    true≢false (sym (is_in-from inside y.0 (component-next book set s x.0 y.0 is there joined)) ∙ out) in
    record {
      entries = entries;
      stations = stations;
      clean = record {
        on_domain = λ x l. elim (each x l).where_from [
          | inl (is, listed) ↦ fit_in.clean.on_domain x listed
          | inr (out, listed, there) ↦ fit_on.clean.on_domain x listed
        ];
        apart = λ x y lx ly. elim (each x lx).where_from [
          | inl (is, listed) ↦ elim (each y ly).where_from [
            | inl (is', listed') ↦ fit_in.clean.apart x y listed listed'
            | inr (out', listed', there') ↦ false_from_ne_true _ (λ forbidden. outside x y is out' there' (forbidden_interferes book x y forbidden))
          ]
          | inr (out, listed, there) ↦ elim (each y ly).where_from [
            | inl (is', listed') ↦ false_from_ne_true _ (λ forbidden. outside y x is' out there (interferes_flips book x.0 y.0 (forbidden_interferes book x y forbidden)))
            | inr (out', listed', there') ↦ fit_on.clean.apart x y listed listed'
          ]
        ];
      };
    }

-- Where the set is what fits already and s, it fits just where the component of s does.
pub component_decides : (book : BookView) (on set : List ℕ) (s : ℕ) → Contains set s → ((t : ℕ) → Contains set t → (t ≡ s) ⊎ Contains on t) → fits book on ≡ true → fits book set ≡ fits book (component book set s)
component_decides book on set s start before on_fits =
    (elim (fits book (component book set s)) as (λ b. fits book (component book set s) ≡ b → fits book set ≡ b) [
      | true ↦ λ inside. fits-from book set (component_enough book on set s start before (fits-gives book on on_fits) (fits-gives book _ inside))
      | false ↦ λ inside. false_from_ne_true _ (λ whole.
          true≢false (sym (fits-from book _ (part_fits book set (component book set s) (component-within book set s) (fits-gives book set whole))) ∙ inside))
    ]) refl

-- A test of the clock asks no more than whether the component of its station fits.
pub test_by_component : (sc : Scenario) (book : BookView) (state : ClockState) (s : ℕ) → Contains (facilities sc) s → fits book (on_air_set sc state) ≡ true →
    fits book (asked_set sc state s) ≡ fits book (component book (asked_set sc state s) s)
test_by_component sc book state s there on_fits =
    component_decides book (on_air_set sc state) (asked_set sc state s) s
    (Contains-filter (λ f. is_on_air state f || (eqb f s)) (facilities sc) s there (or_right (is_on_air state s) _ (eq-eqb s s refl)))
    (λ t l.
    let (station, asked) = Contains-from_filter (λ f. is_on_air state f || (eqb f s)) (facilities sc) t l in
    elim (or_cases (is_on_air state t) _ asked) [
      | inl on_air ↦ inr (Contains-filter (λ f. is_on_air state f) (facilities sc) t station on_air)
      | inr same ↦ inl (eqb-true t s same)
    ])
    on_fits

-- A component ascends as its set does.
pub within-ascends : (book : BookView) (set : List ℕ) (s n : ℕ) → is_ascending set ≡ true → is_ascending (within book set s n) ≡ true
within-ascends book set s zero a = ascending-filter _ set a
within-ascends book set s (suc n) a = ascending-filter _ set a
