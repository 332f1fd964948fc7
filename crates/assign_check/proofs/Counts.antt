-- For `assignment`: how many pairs a map violates, of one station and of all, before and after a station moves.
use Rattle.std.proofs.Common.{◌≡◌, ℕ, ◌+◌, ◌-◌, ◌<◌, ◌≤◌, Bool, true, false, not, cond, ◌==◌, ◌&&◌, ◌||◌, nat_lt, List, [], ◌∷◌, filter, count_by, take, take_all, length, get_or, inl, inr, refl, sym, subst, ap, ◌∙◌, arith, eqb-true}
use Rattle.std.specs.List.{list_any}
use Rattle.std.proofs.lemmas.Bool.{and_parts, or_cases, or_parts, both_ways, false_from_ne_true, lt-ltb, true≢false}
use Rattle.std.proofs.lemmas.List.Sums.{sum_by-cons}
use Rattle.std.proofs.Math.Bool.{and-false}
use Rattle.pack_defs.specs.declared.pair.Pair.{Pair}
use Rattle.pack_defs.specs.Book.{BookView}
use Rattle.pack_defs.specs.ChannelMap.{IsAscending, put}
use Rattle.pack_defs.specs.Lists.{has_entry, has_station, same_entry}
use Rattle.pack_defs.proofs.MapLemmas.{put-ascending}
use Rattle.pack_defs.proofs.Words.{eq_swap}
use Rattle.assign_check.specs.Fault.{is_violated}
use Rattle.assign_check.specs.Assignment.{IsCounted, is_of, violations, violations_of}
use Rattle.assign_check.proofs.Moves.{has_station-more, station-fresh}
use Rattle.assign_check.proofs.Violations.{from_own, is_violated_from, own-channel, station-has}

-- ---- counts of any list

-- 1 for what passes
abbrev pub one_if : Bool → ℕ
one_if b = cond b 1 0

pub counted-cons : {X : Type 0} (p : X → Bool) (x : X) (xs : List X) → count_by p (x ∷ xs) ≡ one_if (p x) + count_by p xs
counted-cons p x xs = sum_by-cons (λ y. cond (p y) 1 0) x xs

-- two equal tests count the same
pub counts-agree : {X : Type 0} (p q : X → Bool) (xs : List X) → ((x : X) → p x ≡ q x) → count_by p xs ≡ count_by q xs
counts-agree p q [] same = refl
counts-agree p q (x ∷ xs) same =
    let here : one_if (p x) ≡ one_if (q x) = ap one_if (same x) in
    omega (arith, counted-cons p x xs, counted-cons q x xs, here, counts-agree p q xs same)

-- counting among the filtered items
pub counts-kept : {X : Type 0} (keep p : X → Bool) (xs : List X) → count_by p (filter keep xs) ≡ count_by (λ x. keep x && p x) xs
counts-kept keep p [] = refl
counts-kept keep p (x ∷ xs) =
    (elim (keep x) as (λ b. keep x ≡ b → count_by p (cond b (x ∷ filter keep xs) (filter keep xs)) ≡ count_by (λ x. keep x && p x) (x ∷ xs)) [
      | true ↦ λ e.
          let here : one_if (keep x && p x) ≡ one_if (p x) = ap (λ b. one_if (b && p x)) e in
          omega (arith, counted-cons p x (filter keep xs), counted-cons (λ x. keep x && p x) x xs, here, counts-kept keep p xs)
      | false ↦ λ e.
          let here : one_if (keep x && p x) ≡ 0 = ap (λ b. one_if (b && p x)) e in
          omega (arith, counted-cons (λ x. keep x && p x) x xs, here, counts-kept keep p xs)
    ]) refl

-- two tests that together equal two others count as much
pub counts-even : {X : Type 0} (p q r s : X → Bool) (xs : List X) → ((x : X) → one_if (p x) + one_if (q x) ≡ one_if (r x) + one_if (s x)) → count_by p xs + count_by q xs ≡ count_by r xs + count_by s xs
counts-even p q r s [] even = refl
counts-even p q r s (x ∷ xs) even =
    omega (arith, counted-cons p x xs, counted-cons q x xs, counted-cons r x xs, counted-cons s x xs, even x, counts-even p q r s xs even)

-- a test that is the sum of two
pub counts-split : {X : Type 0} (p q r : X → Bool) (xs : List X) → ((x : X) → one_if (p x) ≡ one_if (q x) + one_if (r x)) → count_by p xs ≡ count_by q xs + count_by r xs
counts-split p q r [] split = refl
counts-split p q r (x ∷ xs) split =
    omega (arith, counted-cons p x xs, counted-cons q x xs, counted-cons r x xs, split x, counts-split p q r xs split)

-- at most as many pass both tests as pass one
pub counts-fewer : {X : Type 0} (p q : X → Bool) (xs : List X) → count_by (λ x. p x && q x) xs ≤ count_by q xs
counts-fewer p q [] = omega arith
counts-fewer p q (x ∷ xs) =
    let here : one_if (p x && q x) ≤ one_if (q x) = elim (p x) as (λ b. one_if (b && q x) ≤ one_if (q x)) [
      | true ↦ omega arith
      | false ↦ omega arith
    ] in
    omega (arith, counted-cons (λ x. p x && q x) x xs, counted-cons q x xs, here, counts-fewer p q xs)

-- the count is above 0 if some item passes
pub counts-any : {X : Type 0} (p : X → Bool) (xs : List X) → nat_lt 0 (count_by p xs) ≡ list_any p xs
counts-any p [] = refl
counts-any p (x ∷ xs) =
    ap (nat_lt 0) (counted-cons p x xs)
    ∙ elim (p x) as (λ b. nat_lt 0 (one_if b + count_by p xs) ≡ (b || list_any p xs)) [
      | true ↦ lt-ltb 0 (1 + count_by p xs) (omega arith)
      | false ↦ let same : 0 + count_by p xs ≡ count_by p xs = omega arith in ap (nat_lt 0) same ∙ counts-any p xs
    ]

-- the count is 0 if no item passes
pub counts-none : {X : Type 0} (p : X → Bool) (xs : List X) → ((x : X) → p x ≡ false) → count_by p xs ≡ 0
counts-none p [] none = refl
counts-none p (x ∷ xs) none =
    let here : one_if (p x) ≡ 0 = ap one_if (none x) in
    omega (arith, counted-cons p x xs, here, counts-none p xs none)

guarded : (b u v : Bool) → (b ≡ true → u ≡ v) → (b && u) ≡ (b && v)
guarded true u v same = same refl
guarded false u v same = refl

-- ---- the pairs of one station and of all

-- a station's violated pairs are those from it, and those to it that are not also from it
split-test : (f g v : Bool) → one_if ((f || g) && v) ≡ one_if (f && v) + one_if (g && (not f && v))
split-test true true true = refl
split-test true true false = refl
split-test true false true = refl
split-test true false false = refl
split-test false true true = refl
split-test false true false = refl
split-test false false v = refl

pub from-and-to : (book : BookView) (entries : List (ℕ × ℕ)) (s : ℕ) → violations_of book entries s ≡ count_by (λ p. (p.f == s) && is_violated entries p) book.pairs + count_by (λ p. (p.g == s) && (not (p.f == s) && is_violated entries p)) book.pairs
from-and-to book entries s =
    counts-split (λ p. is_of s p && is_violated entries p) (λ p. (p.f == s) && is_violated entries p) (λ p. (p.g == s) && (not (p.f == s) && is_violated entries p)) book.pairs
    (λ p. split-test (p.f == s) (p.g == s) (is_violated entries p))

pub station-fewer : (book : BookView) (entries : List (ℕ × ℕ)) (s : ℕ) → violations_of book entries s ≤ violations book entries
station-fewer book entries s = counts-fewer (is_of s) (is_violated entries) book.pairs

-- ---- a station moves

-- an entry of another station stays
other-step : (x y z : ℕ × ℕ) (b : Bool) → (x.0 == z.0) ≡ false → (same_entry x z || b) ≡ b
other-step x y z b other = ap (λ c. (c && (x.1 == z.1)) || b) other

pub put-other : (x z : ℕ × ℕ) (xs : List (ℕ × ℕ)) → (x.0 == z.0) ≡ false → has_entry (put x xs) z ≡ has_entry xs z
put-other x z [] other = other-step x x z false other
put-other x z (y ∷ ys) other =
    (elim (nat_lt x.0 y.0) as (λ b. has_entry (cond b (x ∷ y ∷ ys) (cond (x.0 == y.0) (x ∷ ys) (y ∷ put x ys))) z ≡ has_entry (y ∷ ys) z) [
      | true ↦ other-step x y z (has_entry (y ∷ ys) z) other
      | false ↦
          (elim (x.0 == y.0) as (λ b. (x.0 == y.0) ≡ b → has_entry (cond b (x ∷ ys) (y ∷ put x ys)) z ≡ has_entry (y ∷ ys) z) [
            | true ↦ λ e.
                let same : x.0 ≡ y.0 = eqb-true x.0 y.0 e in
                let gone : (y.0 == z.0) ≡ false = subst (λ (n : ℕ). (n == z.0) ≡ false) same other in
                other-step x y z (has_entry ys z) other ∙ sym (other-step y x z (has_entry ys z) gone)
            | false ↦ λ e. ap (λ b. same_entry y z || b) (put-other x z ys other)
          ]) refl
    ])

-- a pair of other stations stays violated, or not
pub other-pair : (x : ℕ × ℕ) (xs : List (ℕ × ℕ)) (p : Pair) → is_of x.0 p ≡ false → is_violated (put x xs) p ≡ is_violated xs p
other-pair x xs p other =
    let parts = or_parts (p.f == x.0) (p.g == x.0) other in
    let first : (x.0 == p.f) ≡ false = eq_swap x.0 p.f ∙ parts.0 in
    let second : (x.0 == p.g) ≡ false = eq_swap x.0 p.g ∙ parts.1 in
    ap (λ b. b && has_entry (put x xs) (p.g, p.b)) (put-other x (p.f, p.a) xs first)
    ∙ ap (λ b. has_entry xs (p.f, p.a) && b) (put-other x (p.g, p.b) xs second)

even-test : (of new old : Bool) → (of ≡ false → new ≡ old) → one_if new + one_if (of && old) ≡ one_if old + one_if (of && new)
even-test true true true same = refl
even-test true true false same = refl
even-test true false true same = refl
even-test true false false same = refl
even-test false new old same = ap (λ b. one_if b + 0) (same refl)

-- the change of all violated pairs is the change of the station's own
pub moved : (book : BookView) (x : ℕ × ℕ) (xs : List (ℕ × ℕ)) → violations book (put x xs) + violations_of book xs x.0 ≡ violations book xs + violations_of book (put x xs) x.0
moved book x xs =
    counts-even (is_violated (put x xs)) (λ p. is_of x.0 p && is_violated xs p) (is_violated xs) (λ p. is_of x.0 p && is_violated (put x xs) p) book.pairs
    (λ p. even-test (is_of x.0 p) (is_violated (put x xs) p) (is_violated xs p) (other-pair x xs p))

-- a station has at most as many violated pairs as there are
pub at-most : (book : BookView) (xs : List (ℕ × ℕ)) (s n before : ℕ) → IsCounted book xs n → before ≡ violations_of book xs s → before ≤ n
at-most book xs s n before h is =
    let few = station-fewer book xs s in
    let all = h.violated in
    omega (arith, few, all, is)

-- the new count follows from the station's own pairs before and after
pub counted-moved : (book : BookView) (x : ℕ × ℕ) (xs : List (ℕ × ℕ)) (n before after : ℕ) → IsCounted book xs n → before ≡ violations_of book xs x.0 → after ≡ violations_of book (put x xs) x.0 → IsCounted book (put x xs) (n - before + after)
counted-moved book x xs n before after h was is =
    let even = moved book x xs in
    let few = at-most book xs x.0 n before h was in
    let all = h.violated in
    record {
      ascending = put-ascending x xs h.ascending;
      violated = omega (arith, even, few, all, was, is);
      few = h.few;
    }

-- ---- the pairs of one station

-- the violated pairs from an entry's station, by its channel
pub from-station : (entries : List (ℕ × ℕ)) (own : ℕ × ℕ) (pairs : List Pair) → IsAscending entries → has_entry entries own ≡ true → count_by (is_violated_from entries own) (filter (λ p. p.f == own.0) pairs) ≡ count_by (λ p. (p.f == own.0) && is_violated entries p) pairs
from-station entries own pairs a h =
    counts-kept (λ p. p.f == own.0) (is_violated_from entries own) pairs
    ∙ counts-agree (λ p. (p.f == own.0) && is_violated_from entries own p) (λ p. (p.f == own.0) && is_violated entries p) pairs
    (λ p. guarded (p.f == own.0) (is_violated_from entries own p) (is_violated entries p) (λ e. from_own entries own p a h (eqb-true p.f own.0 e)))

-- the violated pairs to an entry's station from another one
abbrev pub is_violated_to : List (ℕ × ℕ) → ℕ × ℕ → Pair → Bool
is_violated_to entries own p = (p.b == own.1) && (not (p.f == own.0) && has_entry entries (p.f, p.a))

shuffled : (b n h : Bool) → (b && (n && h)) ≡ (n && (h && b))
shuffled true true true = refl
shuffled true true false = refl
shuffled true false h = refl
shuffled false true true = refl
shuffled false true false = refl
shuffled false false h = refl

to_own : (entries : List (ℕ × ℕ)) (own : ℕ × ℕ) (p : Pair) → IsAscending entries → has_entry entries own ≡ true → p.g ≡ own.0 → is_violated_to entries own p ≡ (not (p.f == own.0) && is_violated entries p)
to_own entries own p a h e =
    let channel : has_entry entries (p.g, p.b) ≡ (p.b == own.1) = ap (λ (g : ℕ). has_entry entries (g, p.b)) e ∙ own-channel entries own p.b a h in
    shuffled (p.b == own.1) (not (p.f == own.0)) (has_entry entries (p.f, p.a))
    ∙ ap (λ b. not (p.f == own.0) && (has_entry entries (p.f, p.a) && b)) (sym channel)

pub to-station : (entries : List (ℕ × ℕ)) (own : ℕ × ℕ) (pairs : List Pair) → IsAscending entries → has_entry entries own ≡ true → count_by (is_violated_to entries own) (filter (λ p. p.g == own.0) pairs) ≡ count_by (λ p. (p.g == own.0) && (not (p.f == own.0) && is_violated entries p)) pairs
to-station entries own pairs a h =
    counts-kept (λ p. p.g == own.0) (is_violated_to entries own) pairs
    ∙ counts-agree (λ p. (p.g == own.0) && is_violated_to entries own p) (λ p. (p.g == own.0) && (not (p.f == own.0) && is_violated entries p)) pairs
    (λ p. guarded (p.g == own.0) (is_violated_to entries own p) (not (p.f == own.0) && is_violated entries p) (λ e. to_own entries own p a h (eqb-true p.g own.0 e)))

-- a station without an entry has no violated pair
pub none-of_station : (book : BookView) (entries : List (ℕ × ℕ)) (s : ℕ) → has_station entries s ≡ false → violations_of book entries s ≡ 0
none-of_station book entries s none =
    counts-none (λ p. is_of s p && is_violated entries p) book.pairs (λ p.
    false_from_ne_true (is_of s p && is_violated entries p) (λ both.
    let parts = and_parts (is_of s p) (is_violated entries p) both in
    let stand = and_parts (has_entry entries (p.f, p.a)) (has_entry entries (p.g, p.b)) parts.1 in
    elim (or_cases (p.f == s) (p.g == s) parts.0) [
      | inl e ↦ both_ways (has_station entries s) none (subst (λ (n : ℕ). has_station entries n ≡ true) (eqb-true p.f s e) (station-has entries (p.f, p.a) stand.0))
      | inr e ↦ both_ways (has_station entries s) none (subst (λ (n : ℕ). has_station entries n ≡ true) (eqb-true p.g s e) (station-has entries (p.g, p.b) stand.1))
    ]))

-- ---- station by station

-- the violated pairs from the first stations of a map
abbrev pub violated_among : List (ℕ × ℕ) → ℕ → Pair → Bool
violated_among entries i p = has_station (take i entries) p.f && is_violated entries p

more-test : (among next v : Bool) → (among ≡ true → next ≡ false) → one_if ((among || next) && v) ≡ one_if (among && v) + one_if (next && v)
more-test true true v apart = absurd (true≢false (apart refl))
more-test true false true apart = refl
more-test true false false apart = refl
more-test false true true apart = refl
more-test false true false apart = refl
more-test false false v apart = refl

pub none-among : (entries : List (ℕ × ℕ)) (pairs : List Pair) → 0 ≡ count_by (violated_among entries 0) pairs
none-among entries pairs = sym (counts-none (violated_among entries 0) pairs (λ p. refl))

pub one-more : (entries : List (ℕ × ℕ)) (pairs : List Pair) (i : ℕ) → IsAscending entries → i < length entries → count_by (violated_among entries (i + 1)) pairs ≡ count_by (violated_among entries i) pairs + count_by (λ p. (p.f == (get_or entries i (0, 0)).0) && is_violated entries p) pairs
one-more entries pairs i a l =
    let x = get_or entries i (0, 0) in
    counts-split (violated_among entries (i + 1)) (violated_among entries i) (λ p. (p.f == x.0) && is_violated entries p) pairs (λ p.
    ap (λ b. one_if (b && is_violated entries p)) (has_station-more entries i p.f (0, 0) l ∙ ap (λ b. has_station (take i entries) p.f || b) (eq_swap x.0 p.f))
    ∙ more-test (has_station (take i entries) p.f) (p.f == x.0) (is_violated entries p) (λ h. station-fresh entries i p.f (0, 0) a l h))

-- at the end of the pass: all violated pairs
all-test : (entries : List (ℕ × ℕ)) (p : Pair) → (has_station entries p.f && is_violated entries p) ≡ is_violated entries p
all-test entries p =
    (elim (is_violated entries p) as (λ b. is_violated entries p ≡ b → (has_station entries p.f && b) ≡ b) [
      | true ↦ λ v. ap (λ b. b && true) (station-has entries (p.f, p.a) (and_parts (has_entry entries (p.f, p.a)) (has_entry entries (p.g, p.b)) v).0)
      | false ↦ λ v. and-false (has_station entries p.f)
    ]) refl

pub all-among : (book : BookView) (entries : List (ℕ × ℕ)) (i : ℕ) → length entries ≤ i → count_by (violated_among entries i) book.pairs ≡ violations book entries
all-among book entries i l =
    counts-agree (violated_among entries i) (is_violated entries) book.pairs (λ p.
    ap (λ es. has_station es p.f && is_violated entries p) (take_all i entries l) ∙ all-test entries p)
