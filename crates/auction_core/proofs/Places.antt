-- What a binary search finds among ascending stations. For `station_list`.
use Rattle.std.proofs.Common.{◌≡◌, ℕ, ◌<◌, ◌≤◌, false, List, map, length, get_or, Result, Ok, Err, None, MatchOption, sym, ◌∙◌, arith, inl, inr}
use Rattle.std.specs.List.Sorted.{IsBinarySearchResult, IsNonDecreasingBy, IsSearchInRange, IsStrictlyIncreasing}
use Rattle.std.specs.Ordering.{nat_cmp, ordering_index}
use Rattle.std.specs.Result.{result_ok}
use Rattle.std.proofs.lemmas.Bool.{cases_lt, false_from_ne_true}
use Rattle.std.proofs.lemmas.Bool.Decides.{nat_tests}
use Rattle.std.proofs.lemmas.Cmp.{ranked}
use Rattle.std.proofs.lemmas.List.{get_or-map, length-map}
use Rattle.std.proofs.lemmas.List.Kept.{AllPairs-from_increasing}
use Rattle.std.proofs.lemmas.List.Sorted.{IsNonDecreasingBy-from_default}
use Rattle.pack_defs.specs.declared.station.Station.{Station}
use Rattle.pack_defs.specs.Lists.{is_in}
use Rattle.pack_defs.proofs.Members.{is_in-gives}

-- a station with number 0
abbrev blank : Station
blank = record { id = 0; volume = 0; value = None }

module _ (xs : List Station) (up : IsStrictlyIncreasing (map (λ x. x.id) xs)) (id : ℕ) where
  numbers_rise : (i j : ℕ) → i ≤ j → j < length xs → (get_or xs i blank).id ≤ (get_or xs j blank).id
  numbers_rise i j le within =
      let a = get_or-map (λ (x : Station). x.id) xs i blank 0 (omega arith) in
      let b = get_or-map (λ (x : Station). x.id) xs j blank 0 within in
      let n = length-map xs (λ (x : Station). x.id) in
      elim (cases_lt i j) [
        | inl less ↦ omega (arith, a, b, AllPairs-from_increasing (map (λ (x : Station). x.id) xs) up i j 0 less (omega (arith, n)))
        | inr same ↦ let e : i ≡ j = omega arith in rw e (omega arith)
      ]

  -- the comparisons with a number rise along the list
  comparisons_rise : IsNonDecreasingBy (λ (x : Station). ordering_index (nat_cmp x.id id)) xs
  comparisons_rise = IsNonDecreasingBy-from_default (λ (x : Station). ordering_index (nat_cmp x.id id)) xs blank (λ i j le within.
      let rise = numbers_rise i j le within in grind (arith, nat_tests))

  pub place-found : (r : Result ℕ ℕ) → IsSearchInRange r (length xs) → IsBinarySearchResult (λ (x : Station). nat_cmp x.id id) xs r →
      MatchOption (result_ok r) (is_in (map (λ (x : Station). x.id) xs) id ≡ false) (λ i. (i < length xs) × (get_or (map (λ (x : Station). x.id) xs) i 0 ≡ id))
  place-found (Ok i) within equal = (within, get_or-map (λ (x : Station). x.id) xs i blank 0 within ∙ ranked _ id _ (sym (equal blank)))
  place-found (Err i) within is_split = false_from_ne_true _ (λ there.
      let (k, inside, is) = is_in-gives (map (λ (x : Station). x.id) xs) id there in
      let n = length-map xs (λ (x : Station). x.id) in
      let here : k < length xs = omega (arith, n) in
      let at = get_or-map (λ (x : Station). x.id) xs k blank id here in
      elim (cases_lt k i) [
        | inl less ↦ let below : (get_or xs k blank).id < id = ranked _ id _ (sym ((is_split comparisons_rise).0 k blank (omega arith) less)) in omega arith
        | inr from ↦ let above : id < (get_or xs k blank).id = ranked _ id _ (sym ((is_split comparisons_rise).1 k blank from here)) in omega arith
      ])
