-- For `delta`: the entries of a map that another one lacks, written over that one, give the map.
use Rattle.std.proofs.Common.{◌≡◌, ℕ, ◌<◌, Bool, true, false, not, cond, ◌==◌, ◌||◌, nat_lt, List, [], ◌∷◌, filter, refl, sym, ap, ◌∙◌, subst, arith, ⊎_elim, inl, inr, eqb-true, eq-eqb, ne_eqb}
use Rattle.std.specs.List.{All}
use Rattle.std.proofs.lemmas.Bool.{and_left, and_from, and_parts, lt-ltb, or_cases, or_left, or_right, cases_order, cond-true, cond-false, false_from_ne_true, false≢true}
use Rattle.std.proofs.lemmas.List.Elements.{All-head, All-tail, All-cons, All-nil}
use Rattle.pack_defs.specs.ChannelMap.{IsAscending, overlaid}
use Rattle.pack_defs.specs.Lists.{is_in, is_ascending, has_entry, has_station, same_entry}
use Rattle.pack_defs.proofs.Chains.{ascending-skip}
use Rattle.pack_defs.proofs.MapLemmas.{stations, overlaid-none, overlaid-first, overlaid-same, overlaid-above}
use Rattle.pack_defs.proofs.Words.{below-later, ascending-rest, same_entry-same, list_any-map}

-- some entries of an ascending map ascend too
kept-above : (p : ℕ × ℕ → Bool) (b : ℕ) (xs : List (ℕ × ℕ)) → is_ascending (b ∷ stations xs) ≡ true → is_ascending (b ∷ stations (filter p xs)) ≡ true
kept-above p b [] a = refl
kept-above p b (x ∷ xs) a =
    elim (p x) as (λ t. is_ascending (b ∷ stations (cond t (x ∷ filter p xs) (filter p xs))) ≡ true) [
      | true ↦ first-kept (kept-above p x.0 xs (ascending-rest b (x.0 ∷ stations xs) a))
      | false ↦ kept-above p b xs (ascending-skip b x.0 (stations xs) a)
    ]
  where
    first-kept : is_ascending (x.0 ∷ stations (filter p xs)) ≡ true → is_ascending (b ∷ x.0 ∷ stations (filter p xs)) ≡ true
    first-kept h = and_from (nat_lt b x.0) (is_ascending (x.0 ∷ stations (filter p xs))) (and_parts (nat_lt b x.0) (is_ascending (x.0 ∷ stations xs)) a).0 h

pub kept-ascends : (p : ℕ × ℕ → Bool) (xs : List (ℕ × ℕ)) → IsAscending xs → IsAscending (filter p xs)
kept-ascends p [] a = refl
kept-ascends p (x ∷ xs) a =
    elim (p x) as (λ t. is_ascending (stations (cond t (x ∷ filter p xs) (filter p xs))) ≡ true) [
      | true ↦ kept-above p x.0 xs a
      | false ↦ kept-ascends p xs (ascending-rest x.0 (stations xs) a)
    ]

-- the test holds of an entry of the second map exactly if the first map lacks the entry
abbrev Lacks : (ℕ × ℕ → Bool) → List (ℕ × ℕ) → List (ℕ × ℕ) → Type 0
Lacks p last xs = All (λ (y : ℕ × ℕ). p y ≡ not (has_entry last y)) xs

-- each station of the first map is one of the second
abbrev HasAll : List (ℕ × ℕ) → List (ℕ × ℕ) → Type 0
HasAll last xs = (s : ℕ) → is_in (stations last) s ≡ true → is_in (stations xs) s ≡ true

entry-station : (xs : List (ℕ × ℕ)) (y : ℕ × ℕ) → has_entry xs y ≡ true → is_in (stations xs) y.0 ≡ true
entry-station [] y h = h
entry-station (x ∷ xs) y h =
    ⊎_elim
    (λ e. or_left (x.0 == y.0) (is_in (stations xs) y.0) (eq-eqb x.0 y.0 (ap (λ (z : ℕ × ℕ). z.0) (same_entry-same x y e))))
    (λ r. or_right (x.0 == y.0) (is_in (stations xs) y.0) (entry-station xs y r))
    (or_cases (same_entry x y) (has_entry xs y) h)

-- a map has no entry of a station below all of its own
none-below : (last : List (ℕ × ℕ)) (y : ℕ × ℕ) → is_ascending (y.0 ∷ stations last) ≡ true → has_entry last y ≡ false
none-below last y a =
    false_from_ne_true (has_entry last y) (λ h. let below : y.0 < y.0 = below-later y.0 (stations last) y.0 a (entry-station last y h) in absurd (omega arith))

-- after the first entry of the last map, the test says the same of later entries
lacks-rest : (p : ℕ × ℕ → Bool) (l : ℕ × ℕ) (ls xs : List (ℕ × ℕ)) → is_ascending (l.0 ∷ stations xs) ≡ true → Lacks p (l ∷ ls) xs → Lacks p ls xs
lacks-rest p l ls [] a k = All-nil (λ (y : ℕ × ℕ). p y ≡ not (has_entry ls y))
lacks-rest p l ls (x ∷ xs) a k =
    let below : l.0 < x.0 = below-later l.0 (stations (x ∷ xs)) x.0 a (or_left (x.0 == x.0) (is_in (stations xs) x.0) (eq-eqb x.0 x.0 refl)) in
    let other : same_entry l x ≡ false = and_left (l.0 == x.0) (l.1 == x.1) (ne_eqb l.0 x.0 (λ e. omega arith)) in
    All-cons (λ (y : ℕ × ℕ). p y ≡ not (has_entry ls y)) x xs
    (All-head (λ (y : ℕ × ℕ). p y ≡ not (has_entry (l ∷ ls) y)) x xs k ∙ ap (λ b. not (b || has_entry ls x)) other)
    (lacks-rest p l ls xs (ascending-skip l.0 x.0 (stations xs) a) (All-tail (λ (y : ℕ × ℕ). p y ≡ not (has_entry (l ∷ ls) y)) x xs k))

-- a station that is not the first is a later one
later-has : (x : ℕ × ℕ) (xs : List (ℕ × ℕ)) (s : ℕ) → x.0 < s → is_in (stations (x ∷ xs)) s ≡ true → is_in (stations xs) s ≡ true
later-has x xs s l h =
    ⊎_elim (λ e. let same : x.0 ≡ s = eqb-true x.0 s e in absurd (omega arith)) (λ r. r) (or_cases (x.0 == s) (is_in (stations xs) s) h)

above-all : (b : ℕ) (l : ℕ × ℕ) (ls : List (ℕ × ℕ)) (s : ℕ) → b < l.0 → IsAscending (l ∷ ls) → is_in (stations (l ∷ ls)) s ≡ true → b < s
above-all b l ls s below a h =
    ⊎_elim (λ e. let same : l.0 ≡ s = eqb-true l.0 s e in omega arith) (λ r. let more : l.0 < s = below-later l.0 (stations ls) s a r in omega arith) (or_cases (l.0 == s) (is_in (stations ls) s) h)

one-kept : (p : ℕ × ℕ → Bool) (x : ℕ × ℕ) (xs : List (ℕ × ℕ)) → p x ≡ true → filter p (x ∷ xs) ≡ x ∷ filter p xs
one-kept p x xs e = cond-true (p x) (x ∷ filter p xs) (filter p xs) e

one-dropped : (p : ℕ × ℕ → Bool) (x : ℕ × ℕ) (xs : List (ℕ × ℕ)) → p x ≡ false → filter p (x ∷ xs) ≡ filter p xs
one-dropped p x xs e = cond-false (p x) (x ∷ filter p xs) (filter p xs) e

pub lacking-gives : (p : ℕ × ℕ → Bool) (last xs : List (ℕ × ℕ)) → IsAscending last → IsAscending xs → HasAll last xs → Lacks p last xs → overlaid last (filter p xs) ≡ xs
lacking-gives p [] [] a b h k = refl
lacking-gives p (l ∷ ls) [] a b h k = absurd (false≢true (h l.0 (or_left (l.0 == l.0) (is_in (stations ls) l.0) (eq-eqb l.0 l.0 refl))))
lacking-gives p [] (x ∷ xs) a b h k =
    let rest = lacking-gives p [] xs a (ascending-rest x.0 (stations xs) b) (λ s m. absurd (false≢true m)) (All-tail (λ (y : ℕ × ℕ). p y ≡ not (has_entry [] y)) x xs k) in
    let up = kept-above p x.0 xs b in
    ap (λ (z : List (ℕ × ℕ)). overlaid [] z) (one-kept p x xs (All-head (λ (y : ℕ × ℕ). p y ≡ not (has_entry [] y)) x xs k))
    ∙ (overlaid-none (x ∷ filter p xs) up
    ∙ ap (λ (z : List (ℕ × ℕ)). x ∷ z) (sym (overlaid-none (filter p xs) (ascending-rest x.0 (stations (filter p xs)) up)) ∙ rest))
lacking-gives p (l ∷ ls) (x ∷ xs) a b h k =
    elim (cases_order x.0 l.0) [
      | inl same ↦
          let later : is_ascending (l.0 ∷ stations xs) ≡ true = subst (λ z. is_ascending (z ∷ stations xs) ≡ true) same b in
          let rest = lacking-gives p ls xs (ascending-rest l.0 (stations ls) a) (ascending-rest x.0 (stations xs) b)
          (λ s m. let more : l.0 < s = below-later l.0 (stations ls) s a m in later-has x xs s (omega arith) (h s (or_right (l.0 == s) (is_in (stations ls) s) m)))
          (lacks-rest p l ls xs later (All-tail (λ (y : ℕ × ℕ). p y ≡ not (has_entry (l ∷ ls) y)) x xs k)) in
          same-station same later rest (same_entry l x) refl
      | inr (inl below) ↦
          let none : has_entry (l ∷ ls) x ≡ false = none-below (l ∷ ls) x (and_from (nat_lt x.0 l.0) (is_ascending (stations (l ∷ ls))) (lt-ltb x.0 l.0 below) a) in
          let rest = lacking-gives p (l ∷ ls) xs a (ascending-rest x.0 (stations xs) b)
          (λ s m. later-has x xs s (above-all x.0 l ls s below a m) (h s m))
          (All-tail (λ (y : ℕ × ℕ). p y ≡ not (has_entry (l ∷ ls) y)) x xs k) in
          ap (λ (z : List (ℕ × ℕ)). overlaid (l ∷ ls) z) (one-kept p x xs (All-head (λ (y : ℕ × ℕ). p y ≡ not (has_entry (l ∷ ls) y)) x xs k ∙ ap not none))
          ∙ (overlaid-above l x ls (filter p xs) (kept-above p x.0 xs b) below ∙ ap (λ (z : List (ℕ × ℕ)). x ∷ z) rest)
      | inr (inr above) ↦
          let there : is_in (stations (x ∷ xs)) l.0 ≡ true = h l.0 (or_left (l.0 == l.0) (is_in (stations ls) l.0) (eq-eqb l.0 l.0 refl)) in
          absurd (⊎_elim (λ e. let same : x.0 ≡ l.0 = eqb-true x.0 l.0 e in let no : ⊥ = omega arith in no) (λ r. let more : x.0 < l.0 = below-later x.0 (stations xs) l.0 b r in let no : ⊥ = omega arith in no) (or_cases (x.0 == l.0) (is_in (stations xs) l.0) there))
    ]
  where
    same-station : x.0 ≡ l.0 → is_ascending (l.0 ∷ stations xs) ≡ true → overlaid ls (filter p xs) ≡ xs → (t : Bool) → same_entry l x ≡ t → overlaid (l ∷ ls) (filter p (x ∷ xs)) ≡ x ∷ xs
    same-station same later rest true e =
        let drop' : p x ≡ false = All-head (λ (y : ℕ × ℕ). p y ≡ not (has_entry (l ∷ ls) y)) x xs k ∙ ap (λ t. not (t || has_entry ls x)) e in
        ap (λ (z : List (ℕ × ℕ)). overlaid (l ∷ ls) z) (one-dropped p x xs drop')
        ∙ (overlaid-first l ls (filter p xs) (kept-above p l.0 xs later)
        ∙ (λ i. same_entry-same l x e i ∷ rest i))
    same-station same later rest false e =
        let absent : has_entry ls x ≡ false = none-below ls x (subst (λ z. is_ascending (z ∷ stations ls) ≡ true) (sym same) a) in
        let keep : p x ≡ true = All-head (λ (y : ℕ × ℕ). p y ≡ not (has_entry (l ∷ ls) y)) x xs k ∙ (λ i. not (e i || absent i)) in
        ap (λ (z : List (ℕ × ℕ)). overlaid (l ∷ ls) z) (one-kept p x xs keep)
        ∙ (overlaid-same l x ls (filter p xs) (kept-above p x.0 xs b) (sym same) ∙ ap (λ (z : List (ℕ × ℕ)). x ∷ z) rest)

-- the same in the terms of the contract
pub lacking-whole : (last xs d : List (ℕ × ℕ)) → IsAscending last → IsAscending xs → ((s : ℕ) → has_station last s ≡ true → has_station xs s ≡ true) → d ≡ filter (λ x. not (has_entry last x)) xs → overlaid last d ≡ xs
lacking-whole last xs d a b h e =
    ap (λ (z : List (ℕ × ℕ)). overlaid last z) e
    ∙ lacking-gives (λ x. not (has_entry last x)) last xs a b
    (λ s m. list_any-map (λ y. y == s) (λ (x : ℕ × ℕ). x.0) xs ∙ h s (sym (list_any-map (λ y. y == s) (λ (x : ℕ × ℕ). x.0) last) ∙ m))
    (λ i e l. refl)
