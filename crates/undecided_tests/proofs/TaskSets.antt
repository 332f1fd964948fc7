-- The entries of an ascending set's stations, one by one, are the map on the set.
use Rattle.std.proofs.Common.{◌≡◌, ◌∙◌, ℕ, ◌<◌, true, false, ◌==◌, inl, inr, List, [], ◌∷◌, map, Some, None, refl, sym, ap, subst, arith}
use Rattle.std.proofs.lemmas.Bool.{both_ways, cases_Bool, cases_eq, cond-false, cond-true, eq-eqb, eqb-true, false_from_ne_true, ne_eqb, or_cases, or_left, or_right}
use Rattle.pack_defs.specs.ChannelMap.{IsAscending, channel_of}
use Rattle.pack_defs.specs.Lists.{is_ascending, is_in}
use Rattle.pack_defs.proofs.Words.{ascending-rest, below-later, pair_same}
use Rattle.auction_core.specs.State.{restricted}
use Rattle.auction_core.proofs.Merged.{restricted-ascending}
use Rattle.undecided_tests.specs.StepReplay.{entries_of_stations, entry_before}

-- A map whose stations are all above this one has no channel for it.
none-below : (s : ℕ) (es : List (ℕ × ℕ)) → ((y : ℕ) → is_in (map (λ e. e.0) es) y ≡ true → s < y) → channel_of s es ≡ None
none-below s [] above = refl
none-below s (e ∷ es) above =
    let less : s < e.0 = above e.0 (or_left (e.0 == e.0) (is_in (map (λ e. e.0) es) e.0) (eq-eqb e.0 e.0 refl)) in
    cond-false (e.0 == s) (Some e.1) (channel_of s es) (ne_eqb e.0 s (λ same. omega (arith, less, same)))
    ∙ none-below s es (λ y there. above y (or_right (e.0 == y) (is_in (map (λ e. e.0) es) y) there))

-- An entry of a station outside the set.
skipped : (e : ℕ × ℕ) (es : List (ℕ × ℕ)) (set : List ℕ) → is_in set e.0 ≡ false → entries_of_stations (e ∷ es) set ≡ entries_of_stations es set
skipped e es [] out = refl
skipped e es (s ∷ ss) out =
    let other : (e.0 == s) ≡ false = ne_eqb e.0 s (λ same. both_ways (is_in (s ∷ ss) e.0) out (or_left (s == e.0) (is_in ss e.0) (eq-eqb s e.0 (sym same)))) in
    let rest : is_in ss e.0 ≡ false = false_from_ne_true (is_in ss e.0) (λ there. both_ways (is_in (s ∷ ss) e.0) out (or_right (s == e.0) (is_in ss e.0) there)) in
    ap (λ o. entry_before s o (entries_of_stations (e ∷ es) ss)) (cond-false (e.0 == s) (Some e.1) (channel_of s es) other)
    ∙ ap (entry_before s (channel_of s es)) (skipped e es ss rest)

-- The first entry, if its station is in the set.
first-in : (e : ℕ × ℕ) (es : List (ℕ × ℕ)) (set : List ℕ) → IsAscending (e ∷ es) → is_ascending set ≡ true → is_in set e.0 ≡ true → entries_of_stations (e ∷ es) set ≡ e ∷ entries_of_stations es set
first-in e es [] up rises there = cc
first-in e es (s ∷ ss) up rises there =
    let above : (y : ℕ) → is_in (map (λ x. x.0) es) y ≡ true → e.0 < y = λ y. below-later e.0 (map (λ x. x.0) es) y up in
    elim (cases_eq s e.0) [
      | inl same ↦
          let out : is_in ss e.0 ≡ false = false_from_ne_true (is_in ss e.0) (λ later. let less = below-later s ss e.0 rises later in absurd (omega (arith, less, same))) in
          let bare : channel_of s es ≡ None = none-below s es (λ y k. let less = above y k in omega (arith, less, same)) in
          ap (λ o. entry_before s o (entries_of_stations (e ∷ es) ss)) (cond-true (e.0 == s) (Some e.1) (channel_of s es) (eq-eqb e.0 s (sym same)))
          ∙ (ap (λ xs. (s, e.1) ∷ xs) (skipped e es ss out)
          ∙ (ap (λ x. x ∷ entries_of_stations es ss) (pair_same (s, e.1) e same refl)
          ∙ ap (λ o. e ∷ entry_before s o (entries_of_stations es ss)) (sym bare)))
      | inr other ↦
          let later : is_in ss e.0 ≡ true = elim (or_cases (s == e.0) (is_in ss e.0) there) [
            | inl here ↦ absurd (other (eqb-true s e.0 here))
            | inr behind ↦ behind
          ] in
          let less : s < e.0 = below-later s ss e.0 rises later in
          let bare : channel_of s es ≡ None = none-below s es (λ y k. let more = above y k in omega (arith, less, more)) in
          let none : channel_of s (e ∷ es) ≡ None = cond-false (e.0 == s) (Some e.1) (channel_of s es) (ne_eqb e.0 s (λ same. other (sym same))) ∙ bare in
          ap (λ o. entry_before s o (entries_of_stations (e ∷ es) ss)) none
          ∙ (first-in e es ss up (ascending-rest s ss rises) later
          ∙ ap (λ o. e ∷ entry_before s o (entries_of_stations es ss)) (sym bare))
    ]

none-on : (set : List ℕ) → entries_of_stations [] set ≡ []
none-on [] = refl
none-on (s ∷ ss) = none-on ss

pub on-set : (es : List (ℕ × ℕ)) (set : List ℕ) → IsAscending es → is_ascending set ≡ true → entries_of_stations es set ≡ restricted es set
on-set [] set up rises = none-on set
on-set (e ∷ es) set up rises =
    let rest : entries_of_stations es set ≡ restricted es set = on-set es set (ascending-rest e.0 (map (λ x. x.0) es) up) rises in
    elim (cases_Bool (is_in set e.0)) [
      | inl there ↦ first-in e es set up rises there ∙ (ap (λ xs. e ∷ xs) rest ∙ sym (cond-true (is_in set e.0) (e ∷ restricted es set) (restricted es set) there))
      | inr out ↦ skipped e es set out ∙ (rest ∙ sym (cond-false (is_in set e.0) (e ∷ restricted es set) (restricted es set) out))
    ]

-- The entries are a map.
pub on-set-ascends : (es : List (ℕ × ℕ)) (set : List ℕ) → IsAscending es → is_ascending set ≡ true → IsAscending (entries_of_stations es set)
on-set-ascends es set up rises = subst IsAscending (sym (on-set es set up rises)) (restricted-ascending es set up)
