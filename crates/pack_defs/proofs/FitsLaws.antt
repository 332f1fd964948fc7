-- `fits` returns true exactly if some clean map has the stations, and a subset of what fits, fits.
use Rattle.std.proofs.Common.{◌≡◌, ℕ, Bool, true, false, cond, inl, inr, List, [], ◌∷◌, map, refl, sym, ap, subst, Contains}
use Rattle.std.specs.List.{list_any, list_all}
use Rattle.std.proofs.lemmas.Bool.{false≢true, true≢false}
use Rattle.pack_defs.specs.Book.{BookView, domain_of, is_forbidden}
use Rattle.pack_defs.specs.Packing.{Fits, assignments, is_apart, fits}
use Rattle.pack_defs.proofs.Members.{Contains-here, Contains-there, Contains-cons_cases, Contains-nil, Contains-map, Contains-from_map, Contains-flat_map, Contains-from_flat_map, list_any-from, list_any-gives, list_all-from, list_all-gives}

-- Each entry is on a channel of its station's domain.
pub record OnDomains (book : BookView) (entries : List (ℕ × ℕ)) : Type 0 where
  pub each : (x : ℕ × ℕ) → Contains entries x → Contains (domain_of book x.0) x.1

-- Each map of `assignments` has these stations, each on a channel of its domain.
pub assignments-gives : (book : BookView) (set : List ℕ) (m : List (ℕ × ℕ)) → Contains (assignments book set) m → (map (λ x. x.0) m ≡ set) × OnDomains book m
unfolding assignments
assignments-gives book [] m h =
    elim (Contains-cons_cases [] m [] h) [
      | inl e ↦ subst (λ z. (map (λ x. x.0) z ≡ []) × OnDomains book z) e (refl, record { each = λ x l. absurd (Contains-nil x l) })
      | inr l ↦ absurd (Contains-nil m l)
    ]
assignments-gives book (s ∷ set) m h =
    let (c, on, in_rest) = Contains-from_flat_map (λ c. map (λ rest. (s, c) ∷ rest) (assignments book set)) (domain_of book s) m h in
    let (rest, listed, is) = Contains-from_map (λ rest. (s, c) ∷ rest) (assignments book set) m in_rest in
    let before = assignments-gives book set rest listed in
    subst (λ z. (map (λ x. x.0) z ≡ s ∷ set) × OnDomains book z) is (
      ap (λ z. s ∷ z) before.0,
      record {
        each = λ x l.
            elim (Contains-cons_cases (s, c) x rest l) [
              | inl e ↦ subst (λ (z : ℕ × ℕ). Contains (domain_of book z.0) z.1) e on
              | inr k ↦ before.1.each x k
            ];
      },
    )

-- `assignments` lists every map whose entries are on channels of their domains.
assignments-has : (book : BookView) (m : List (ℕ × ℕ)) → OnDomains book m → Contains (assignments book (map (λ x. x.0) m)) m
unfolding assignments
assignments-has book [] h = Contains-here [] []
assignments-has book (x ∷ m) h =
    Contains-flat_map (λ c. map (λ rest. (x.0, c) ∷ rest) (assignments book (map (λ y. y.0) m))) (domain_of book x.0) x.1 (x ∷ m)
    (h.each x (Contains-here x m))
    (Contains-map (λ rest. (x.0, x.1) ∷ rest) (assignments book (map (λ y. y.0) m)) m
    (assignments-has book m (record { each = λ y l. h.each y (Contains-there x y m l) })))

-- The second half of the test of a clean map.
refused : (b : Bool) → (if_not : cond b false true ≡ true) → b ≡ false
refused true h = absurd (false≢true h)
refused false h = refl

allowed : (b : Bool) → b ≡ false → cond b false true ≡ true
allowed true h = absurd (true≢false h)
allowed false h = refl

pub is_apart-gives : (book : BookView) (m : List (ℕ × ℕ)) → is_apart book m ≡ true → (x y : ℕ × ℕ) → Contains m x → Contains m y → is_forbidden book x y ≡ false
unfolding is_apart
is_apart-gives book m h x y in_x in_y =
    refused (is_forbidden book x y) (list_all-gives (λ z. cond (is_forbidden book x z) false true) m y (list_all-gives (λ w. list_all (λ z. cond (is_forbidden book w z) false true) m) m x h in_x) in_y)

pub is_apart-from : (book : BookView) (m : List (ℕ × ℕ)) → ((x y : ℕ × ℕ) → Contains m x → Contains m y → is_forbidden book x y ≡ false) → is_apart book m ≡ true
unfolding is_apart
is_apart-from book m h =
    list_all-from (λ w. list_all (λ z. cond (is_forbidden book w z) false true) m) m (λ x in_x. list_all-from (λ z. cond (is_forbidden book x z) false true) m (λ y in_y. allowed (is_forbidden book x y) (h x y in_x in_y)))

-- If `fits` returns true, a clean map has these stations.
pub fits-gives : (book : BookView) (set : List ℕ) → fits book set ≡ true → Fits book set
unfolding fits
fits-gives book set h =
    let (m, listed, apart) = list_any-gives (is_apart book) (assignments book set) h in
    let is = assignments-gives book set m listed in
    record { entries = m; stations = is.0; clean = record { on_domain = is.1.each; apart = is_apart-gives book m apart } }

-- If a clean map has the stations, `fits` returns true.
pub fits-from : (book : BookView) (set : List ℕ) → Fits book set → fits book set ≡ true
unfolding fits
fits-from book set h =
    subst (λ z. list_any (is_apart book) (assignments book z) ≡ true) h.stations
    (list_any-from (is_apart book) (assignments book (map (λ x. x.0) h.entries)) h.entries
    (assignments-has book h.entries (record { each = h.clean.on_domain }))
    (is_apart-from book h.entries h.clean.apart))

-- The map's entries of these stations.
part_of : (m : List (ℕ × ℕ)) (part : List ℕ) → ((s : ℕ) → Contains part s → Contains (map (λ x. x.0) m) s) → (entries : List (ℕ × ℕ)) × (map (λ x. x.0) entries ≡ part) × ((x : ℕ × ℕ) → Contains entries x → Contains m x)
part_of m [] h = ([], refl, λ x l. absurd (Contains-nil x l))
part_of m (s ∷ part) h =
    let (rest, stations, within) = part_of m part (λ t l. h t (Contains-there s t part l)) in
    let (e, listed, is) = Contains-from_map (λ x. x.0) m s (h s (Contains-here s part)) in (
      e ∷ rest,
      cc,
      λ x l. elim (Contains-cons_cases e x rest l) [
        | inl same ↦ subst (λ z. Contains m z) same listed
        | inr k ↦ within x k
      ],
    )

-- Some of the stations of a set that fits, in any order, fit.
pub part_fits : (book : BookView) (set part : List ℕ) → ((s : ℕ) → Contains part s → Contains set s) → Fits book set → Fits book part
part_fits book set part h fit =
    let (entries, stations, within) = part_of fit.entries part (λ s l. subst (λ z. Contains z s) (sym fit.stations) (h s l)) in
    record {
      entries = entries;
      stations = stations;
      clean = record {
        on_domain = λ x l. fit.clean.on_domain x (within x l);
        apart = λ x y l k. fit.clean.apart x y (within x l) (within y k);
      };
    }

-- The same law for the test `fits`.
pub part_fits_test : (book : BookView) (set part : List ℕ) → ((s : ℕ) → Contains part s → Contains set s) → fits book set ≡ true → fits book part ≡ true
part_fits_test book set part h t = fits-from book part (part_fits book set part h (fits-gives book set t))
