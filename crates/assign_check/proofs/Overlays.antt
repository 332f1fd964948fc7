-- A map with entries written over it: the channels, the entries and the stations.
use Rattle.std.proofs.Common.{◌≡◌, ℕ, Bool, true, false, ◌==◌, nat_lt, if◌then◌else◌, List, [], ◌∷◌, Option, Some, None, ◌⊎◌, inl, inr, refl, sym, ap, ◌∙◌, subst, eqb-true}
use Rattle.std.specs.Option.{option_or, is_some}
use Rattle.std.proofs.lemmas.Bool.{cond-true, or_cases, or_left, or_right, false≢true}
use Rattle.pack_defs.specs.ChannelMap.{IsAscending, channel_of, overlaid, put}
use Rattle.pack_defs.specs.Lists.{has_entry, has_station, same_entry}
use Rattle.pack_defs.proofs.MapLemmas.{overlaid-none}
use Rattle.assign_check.proofs.Finds.{channel-known, stands-only, stands-where}

or_if : (b : Bool) (c : ℕ) (o : Option ℕ) → (if b then Some c else o) ≡ option_or (if b then Some c else None) o
or_if true c o = refl
or_if false c o = refl

-- x replaces y: both are of one station
replaces : (b d : Bool) (c e : ℕ) (o : Option ℕ) → (b ≡ false → d ≡ false) → (if b then Some c else o) ≡ option_or (if b then Some c else None) (if d then Some e else o)
replaces true d c e o f = refl
replaces false true c e o f = let no : true ≡ false = f refl in absurd (false≢true (sym no))
replaces false false c e o f = refl

-- y is before x: they are of two stations
passes : (b d : Bool) (c e : ℕ) (o : Option ℕ) → (d ≡ true → b ≡ false) → (if d then Some e else option_or (if b then Some c else None) o) ≡ option_or (if b then Some c else None) (if d then Some e else o)
passes true true c e o f = let no : true ≡ false = f refl in absurd (false≢true (sym no))
passes false true c e o f = refl
passes b false c e o f = refl

-- the channel of a station after an entry is put into a map
pub put-channel : (s : ℕ) (x : ℕ × ℕ) (m : List (ℕ × ℕ)) → channel_of s (put x m) ≡ option_or (channel_of s (x ∷ [])) (channel_of s m)
put-channel s x [] = or_if (x.0 == s) x.1 None
put-channel s x (y ∷ ys) =
    let go : (a b : Bool) → (x.0 == y.0) ≡ b → channel_of s (if a then x ∷ y ∷ ys else (if b then x ∷ ys else y ∷ put x ys)) ≡ option_or (channel_of s (x ∷ [])) (channel_of s (y ∷ ys)) =
    λ a b. elim a as (λ a. (x.0 == y.0) ≡ b → channel_of s (if a then x ∷ y ∷ ys else (if b then x ∷ ys else y ∷ put x ys)) ≡ option_or (channel_of s (x ∷ [])) (channel_of s (y ∷ ys))) [
      | true ↦ λ e. or_if (x.0 == s) x.1 (channel_of s (y ∷ ys))
      | false ↦ elim b as (λ b. (x.0 == y.0) ≡ b → channel_of s (if b then x ∷ ys else y ∷ put x ys) ≡ option_or (channel_of s (x ∷ [])) (channel_of s (y ∷ ys))) [
        | true ↦ λ e. replaces (x.0 == s) (y.0 == s) x.1 y.1 (channel_of s ys) (λ n. subst (λ z. (z == s) ≡ false) (eqb-true x.0 y.0 e) n)
        | false ↦ λ e.
            ap (λ o. if y.0 == s then Some y.1 else o) (put-channel s x ys) ∙
            passes (x.0 == s) (y.0 == s) x.1 y.1 (channel_of s ys) (λ t. subst (λ z. (x.0 == z) ≡ false) (eqb-true y.0 s t) e)
      ]
    ] in
    go (nat_lt x.0 y.0) (x.0 == y.0) refl

or_assoc : (a b c : Option ℕ) → option_or a (option_or b c) ≡ option_or (option_or a b) c
or_assoc None b c = refl
or_assoc (Some x) b c = refl

-- the channel of a station after entries are written over a map: the new one, or else the map's
pub overlaid-channel : (s : ℕ) (m d : List (ℕ × ℕ)) → channel_of s (overlaid m d) ≡ option_or (channel_of s (overlaid [] d)) (channel_of s m)
overlaid-channel s m [] = refl
overlaid-channel s m (x ∷ xs) =
    overlaid-channel s (put x m) xs ∙
    ap (option_or (channel_of s (overlaid [] xs))) (put-channel s x m) ∙
    or_assoc (channel_of s (overlaid [] xs)) (channel_of s (x ∷ [])) (channel_of s m) ∙
    ap (λ o. option_or o (channel_of s m)) (sym (overlaid-channel s (x ∷ []) xs))

-- if the new entries ascend, they are a map
pub over-channel : (s : ℕ) (m d : List (ℕ × ℕ)) → IsAscending d → channel_of s (overlaid m d) ≡ option_or (channel_of s d) (channel_of s m)
over-channel s m d a =
    overlaid-channel s m d ∙ ap (λ es. option_or (channel_of s es) (channel_of s m)) (overlaid-none d a)

-- the new map has each of the new entries
pub change-stands : (m d : List (ℕ × ℕ)) (own : ℕ × ℕ) → IsAscending d → has_entry d own ≡ true → has_entry (overlaid m d) own ≡ true
change-stands m d own a h =
    stands-where own.0 own.1 (overlaid m d) (over-channel own.0 m d a ∙ ap (λ o. option_or o (channel_of own.0 m)) (stands-only own.0 own.1 d a h))

-- ---- the source of an entry of the map

put-from : (y x : ℕ × ℕ) (m : List (ℕ × ℕ)) → has_entry (put y m) x ≡ true → (same_entry y x ≡ true) ⊎ (has_entry m x ≡ true)
put-from y x [] h = or_cases (same_entry y x) false h
put-from y x (z ∷ zs) h =
    let go : (a b : Bool) → has_entry (if a then y ∷ z ∷ zs else (if b then y ∷ zs else z ∷ put y zs)) x ≡ true → (same_entry y x ≡ true) ⊎ (has_entry (z ∷ zs) x ≡ true) =
    λ a b. elim a as (λ a. has_entry (if a then y ∷ z ∷ zs else (if b then y ∷ zs else z ∷ put y zs)) x ≡ true → (same_entry y x ≡ true) ⊎ (has_entry (z ∷ zs) x ≡ true)) [
      | true ↦ λ k. or_cases (same_entry y x) (has_entry (z ∷ zs) x) k
      | false ↦ elim b as (λ b. has_entry (if b then y ∷ zs else z ∷ put y zs) x ≡ true → (same_entry y x ≡ true) ⊎ (has_entry (z ∷ zs) x ≡ true)) [
        | true ↦ λ k. elim (or_cases (same_entry y x) (has_entry zs x) k) [
          | inl e ↦ inl e
          | inr l ↦ inr (or_right (same_entry z x) (has_entry zs x) l)
        ]
        | false ↦ λ k. elim (or_cases (same_entry z x) (has_entry (put y zs) x) k) [
          | inl e ↦ inr (or_left (same_entry z x) (has_entry zs x) e)
          | inr l ↦ elim (put-from y x zs l) [
            | inl e ↦ inl e
            | inr m ↦ inr (or_right (same_entry z x) (has_entry zs x) m)
          ]
        ]
      ]
    ] in
    go (nat_lt y.0 z.0) (y.0 == z.0) h

-- an entry of the new map is one of the new entries, or the map's
pub overlaid-from : (m d : List (ℕ × ℕ)) (x : ℕ × ℕ) → has_entry (overlaid m d) x ≡ true → (has_entry d x ≡ true) ⊎ (has_entry m x ≡ true)
overlaid-from m [] x h = inr h
overlaid-from m (y ∷ ys) x h =
    elim (overlaid-from (put y m) ys x h) [
      | inl l ↦ inl (or_right (same_entry y x) (has_entry ys x) l)
      | inr k ↦ elim (put-from y x m k) [
        | inl e ↦ inl (or_left (same_entry y x) (has_entry ys x) e)
        | inr r ↦ inr r
      ]
    ]

-- ---- the stations of the map

some-second : (a b : Option ℕ) → is_some b ≡ true → is_some (option_or a b) ≡ true
some-second None b h = h
some-second (Some c) b h = refl

some-first : (a b : Option ℕ) → is_some a ≡ true → is_some (option_or a b) ≡ true
some-first None b h = cc
some-first (Some c) b h = refl

put-has : (x : ℕ × ℕ) (m : List (ℕ × ℕ)) (s : ℕ) → (x.0 == s) ≡ true → has_station (put x m) s ≡ true
put-has x m s e =
    sym (channel-known s (put x m)) ∙ ap is_some (put-channel s x m)
    ∙ some-first (channel_of s (x ∷ [])) (channel_of s m) (ap is_some (cond-true (x.0 == s) (Some x.1) None e))

-- the old stations
pub overlaid-keeps : (m d : List (ℕ × ℕ)) (s : ℕ) → has_station m s ≡ true → has_station (overlaid m d) s ≡ true
overlaid-keeps m d s h =
    sym (channel-known s (overlaid m d)) ∙ ap is_some (overlaid-channel s m d)
    ∙ some-second (channel_of s (overlaid [] d)) (channel_of s m) (channel-known s m ∙ h)

-- and the new ones
pub overlaid-has : (m d : List (ℕ × ℕ)) (s : ℕ) → has_station d s ≡ true → has_station (overlaid m d) s ≡ true
overlaid-has m [] s h = cc
overlaid-has m (x ∷ xs) s h =
    elim (or_cases (x.0 == s) (has_station xs s) h) [
      | inl e ↦ overlaid-keeps (put x m) xs s (put-has x m s e)
      | inr later ↦ overlaid-has (put x m) xs s later
    ]
