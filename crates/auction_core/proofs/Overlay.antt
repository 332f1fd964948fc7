-- A map that is overwritten on a component of the stations on air stays clean.
use Rattle.std.proofs.Common.{◌≡◌, ℕ, ◌<◌, Bool, true, false, cond, ◌==◌, nat_lt, if◌then◌else◌, List, [], ◌∷◌, map, Some, unwrap_or, refl, sym, ap, ◌∙◌, subst, ⊎_elim, inl, inr, eqb-true, eq-eqb, ne_eqb, arith, ◌⊎◌}
use Rattle.std.proofs.lemmas.Bool.{and_parts, and_from, or_cases, or_left, or_right, both_ways, cases_order, lt-ltb, ltb-false, false≢true}
use Rattle.pack_defs.specs.ChannelMap.{channel_of, put}
use Rattle.pack_defs.specs.Lists.{is_in, is_ascending, has_entry, same_entry}
use Rattle.auction_core.specs.State.{restricted}
use Rattle.pack_defs.proofs.Words.{below-later, ascending-rest, station-in}

restrict_one : (b : Bool) (s c : ℕ) (y : ℕ × ℕ) (rest m : List (ℕ × ℕ)) → (y.0 ≡ s → b ≡ true) → channel_of s rest ≡ channel_of s m → channel_of s (cond b (y ∷ rest) rest) ≡ channel_of s (y ∷ m)
restrict_one true s c y rest m f e = ap (λ o. if y.0 == s then Some y.1 else o) e
restrict_one false s c y rest m f e =
    let other : (y.0 == s) ≡ false = ne_eqb y.0 s (λ same. false≢true (f same)) in
    e ∙ ap (λ b. if b then Some y.1 else channel_of s m) (sym other)

-- a restricted map has the same channels on its set
pub restricted-channel : (s : ℕ) (m : List (ℕ × ℕ)) (set : List ℕ) → is_in set s ≡ true → channel_of s (restricted m set) ≡ channel_of s m
restricted-channel s [] set h = refl
restricted-channel s (y ∷ ys) set h =
    restrict_one (is_in set y.0) s 0 y (restricted ys set) ys (λ same. subst (λ z. is_in set z ≡ true) (sym same) h) (restricted-channel s ys set h)

-- entries and channels
pub entry-from_channel : (m : List (ℕ × ℕ)) (s c : ℕ) → channel_of s m ≡ Some c → has_entry m (s, c) ≡ true
entry-from_channel [] s c e = cc
entry-from_channel (y ∷ ys) s c e =
    let go : (b : Bool) → (y.0 == s) ≡ b → (if b then Some y.1 else channel_of s ys) ≡ Some c → has_entry (y ∷ ys) (s, c) ≡ true = λ b. elim b as (λ b. (y.0 == s) ≡ b → (if b then Some y.1 else channel_of s ys) ≡ Some c → has_entry (y ∷ ys) (s, c) ≡ true) [
      | true ↦ λ k f. let same : y.1 ≡ c = cc in or_left (same_entry y (s, c)) (has_entry ys (s, c)) (and_from (y.0 == s) (y.1 == c) k (eq-eqb y.1 c same))
      | false ↦ λ k f. or_right (same_entry y (s, c)) (has_entry ys (s, c)) (entry-from_channel ys s c f)
    ] in
    go (y.0 == s) refl e

pub channel-from_entry : (m : List (ℕ × ℕ)) (s c : ℕ) → is_ascending (map (λ y. y.0) m) ≡ true → has_entry m (s, c) ≡ true → channel_of s m ≡ Some c
channel-from_entry [] s c a h = cc
channel-from_entry (y ∷ ys) s c a h =
    let go : (b : Bool) → (y.0 == s) ≡ b → (if b then Some y.1 else channel_of s ys) ≡ Some c = λ b. elim b as (λ b. (y.0 == s) ≡ b → (if b then Some y.1 else channel_of s ys) ≡ Some c) [
      | true ↦ λ k. ⊎_elim
          (λ e. ap Some (eqb-true y.1 c (and_parts (y.0 == s) (y.1 == c) e).1))
          (λ r.
          let same : y.0 ≡ s = eqb-true y.0 s k in
          let less : y.0 < s = below-later y.0 (map (λ y. y.0) ys) s a (station-in ys (s, c) r) in
          absurd (omega arith))
          (or_cases (same_entry y (s, c)) (has_entry ys (s, c)) h)
      | false ↦ λ k. ⊎_elim
          (λ e. let yes : (y.0 == s) ≡ true = (and_parts (y.0 == s) (y.1 == c) e).0 in absurd (both_ways (y.0 == s) k yes))
          (λ r. channel-from_entry ys s c (ascending-rest y.0 (map (λ y. y.0) ys) a) r)
          (or_cases (same_entry y (s, c)) (has_entry ys (s, c)) h)
    ] in
    go (y.0 == s) refl

-- a map that has a station has an entry of the station
pub its-channel : (es : List (ℕ × ℕ)) (s : ℕ) → is_in (map (λ y. y.0) es) s ≡ true → has_entry es (s, unwrap_or (channel_of s es) 0) ≡ true
its-channel [] s h = h
its-channel (e ∷ es) s h =
    let go : (b : Bool) → (e.0 == s) ≡ b → has_entry (e ∷ es) (s, unwrap_or (if b then Some e.1 else channel_of s es) 0) ≡ true = λ b. elim b as (λ b. (e.0 == s) ≡ b → has_entry (e ∷ es) (s, unwrap_or (if b then Some e.1 else channel_of s es) 0) ≡ true) [
      | true ↦ λ k. or_left (same_entry e (s, e.1)) (has_entry es (s, e.1)) (and_from (e.0 == s) (e.1 == e.1) k (eq-eqb e.1 e.1 refl))
      | false ↦ λ k.
          let rest : is_in (map (λ y. y.0) es) s ≡ true = ⊎_elim (λ (yes : (e.0 == s) ≡ true). absurd (both_ways (e.0 == s) k yes)) (λ r. r) (or_cases (e.0 == s) (is_in (map (λ y. y.0) es) s) h) in
          or_right (same_entry e (s, unwrap_or (channel_of s es) 0)) (has_entry es (s, unwrap_or (channel_of s es) 0)) (its-channel es s rest)
    ] in
    go (e.0 == s) refl

-- an ascending list with a lesser number before it ascends
pub ascending-cons : (x : ℕ) (xs : List ℕ) → is_ascending xs ≡ true → ((y : ℕ) → is_in xs y ≡ true → x < y) → is_ascending (x ∷ xs) ≡ true
ascending-cons x [] a f = refl
ascending-cons x (z ∷ zs) a f =
    and_from (nat_lt x z) (is_ascending (z ∷ zs)) (lt-ltb x z (f z (or_left (z == z) (is_in zs z) (eq-eqb z z refl)))) a

put-station : (x : ℕ × ℕ) (m : List (ℕ × ℕ)) (s : ℕ) → is_in (map (λ y. y.0) (put x m)) s ≡ true → (x.0 ≡ s) ⊎ (is_in (map (λ y. y.0) m) s ≡ true)
put-station x [] s h = ⊎_elim (λ e. inl (eqb-true x.0 s e)) (λ (r : false ≡ true). absurd (false≢true r)) (or_cases (x.0 == s) false h)
put-station x (y ∷ ys) s h =
    let go : (a b : Bool) → (x.0 == y.0) ≡ b → is_in (map (λ y. y.0) (if a then x ∷ y ∷ ys else (if b then x ∷ ys else y ∷ put x ys))) s ≡ true → (x.0 ≡ s) ⊎ (is_in (map (λ y. y.0) (y ∷ ys)) s ≡ true) =
    λ a b. elim a as (λ a. (x.0 == y.0) ≡ b → is_in (map (λ y. y.0) (if a then x ∷ y ∷ ys else (if b then x ∷ ys else y ∷ put x ys))) s ≡ true → (x.0 ≡ s) ⊎ (is_in (map (λ y. y.0) (y ∷ ys)) s ≡ true)) [
      | true ↦ λ e k. ⊎_elim (λ l. inl (eqb-true x.0 s l)) (λ r. inr r) (or_cases (x.0 == s) (is_in (map (λ y. y.0) (y ∷ ys)) s) k)
      | false ↦ elim b as (λ b. (x.0 == y.0) ≡ b → is_in (map (λ y. y.0) (if b then x ∷ ys else y ∷ put x ys)) s ≡ true → (x.0 ≡ s) ⊎ (is_in (map (λ y. y.0) (y ∷ ys)) s ≡ true)) [
        | true ↦ λ e k. ⊎_elim (λ l. inl (eqb-true x.0 s l)) (λ r. inr (or_right (y.0 == s) (is_in (map (λ y. y.0) ys) s) r)) (or_cases (x.0 == s) (is_in (map (λ y. y.0) ys) s) k)
        | false ↦ λ e k. ⊎_elim (λ l. inr (or_left (y.0 == s) (is_in (map (λ y. y.0) ys) s) l)) (λ r. ⊎_elim (λ l. inl l) (λ q. inr (or_right (y.0 == s) (is_in (map (λ y. y.0) ys) s) q)) (put-station x ys s r)) (or_cases (y.0 == s) (is_in (map (λ y. y.0) (put x ys)) s) k)
      ]
    ] in
    go (nat_lt x.0 y.0) (x.0 == y.0) refl h

pub put-ascending : (x : ℕ × ℕ) (m : List (ℕ × ℕ)) → is_ascending (map (λ y. y.0) m) ≡ true → is_ascending (map (λ y. y.0) (put x m)) ≡ true
put-ascending x [] a = refl
put-ascending x (y ∷ ys) a =
    let rest = ascending-rest y.0 (map (λ y. y.0) ys) a in
    let go : (p q : Bool) → nat_lt x.0 y.0 ≡ p → (x.0 == y.0) ≡ q → is_ascending (map (λ y. y.0) (if p then x ∷ y ∷ ys else (if q then x ∷ ys else y ∷ put x ys))) ≡ true =
    λ p q. elim p as (λ p. nat_lt x.0 y.0 ≡ p → (x.0 == y.0) ≡ q → is_ascending (map (λ y. y.0) (if p then x ∷ y ∷ ys else (if q then x ∷ ys else y ∷ put x ys))) ≡ true) [
      | true ↦ λ e f. and_from (nat_lt x.0 y.0) (is_ascending (map (λ y. y.0) (y ∷ ys))) e a
      | false ↦ elim q as (λ q. nat_lt x.0 y.0 ≡ false → (x.0 == y.0) ≡ q → is_ascending (map (λ y. y.0) (if q then x ∷ ys else y ∷ put x ys)) ≡ true) [
        | true ↦ λ e f. subst (λ z. is_ascending (z ∷ map (λ y. y.0) ys) ≡ true) (sym (eqb-true x.0 y.0 f)) a
        | false ↦ λ e f. ascending-cons y.0 (map (λ y. y.0) (put x ys)) (put-ascending x ys rest) (λ z h. ⊎_elim
            (λ same.
            let other : x.0 ≡ y.0 → ⊥ = λ g. both_ways (x.0 == y.0) f (eq-eqb x.0 y.0 g) in
            let le = ltb-false x.0 y.0 e in
            ⊎_elim (λ g. absurd (other g)) (λ o. ⊎_elim (λ l. absurd (omega arith)) (λ m. subst (λ w. y.0 < w) same m) o) (cases_order x.0 y.0))
            (λ there. below-later y.0 (map (λ y. y.0) ys) z a there)
            (put-station x ys z h))
      ]
    ] in
    go (nat_lt x.0 y.0) (x.0 == y.0) refl refl
