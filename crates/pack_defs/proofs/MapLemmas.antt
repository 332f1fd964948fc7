-- What channel maps say about a station's channel, and about a map that overwrites another.
use Rattle.std.proofs.Common.{◌≡◌, ℕ, ◌+◌, ◌<◌, ◌≤◌, Bool, true, false, cond, ◌==◌, ◌&&◌, ◌||◌, nat_eq, nat_lt, List, [], ◌∷◌, ◌++◌, ◌-◌, map, take, take_all, drop, length, length-drop, get_or, Option, Some, None, Contains, ◌⊎◌, inl, inr, refl, sym, subst, ap, ap₂, ◌∙◌, append_assoc, append-nil, arith, ⊎_elim, eqb-true, eq-eqb, ne_eqb, ltb-true}
use Rattle.std.proofs.lemmas.Bool.{and_parts, and_from, cases_order, or_cases, or_left, or_right, or_parts, cond-true, cond-false, lt-ltb, le-ltb, false≢true, false_from_ne_true}
use Rattle.std.specs.Option.{option_eq}
use Rattle.std.proofs.lemmas.List.{drop_more}
use Rattle.std.proofs.Math.ListN.{drop_of_length-le}
use Rattle.pack_defs.specs.ChannelMap.{IsAscending, channel_of, overlaid, put}
use Rattle.pack_defs.specs.Lists.{has_entry, is_ascending, is_in}
use Rattle.pack_defs.proofs.Chains.{ascending-drop, ascending-skip}
use Rattle.pack_defs.proofs.Members.{Contains-cons_cases, Contains-map, Contains-nil, is_in-from}
use Rattle.pack_defs.proofs.Words.{Contains-from_has_entry, below-later, ascending-rest, entry}

-- The stations of a map.
abbrev pub stations : List (ℕ × ℕ) → List ℕ
stations xs = map (λ x. x.0) xs

-- The channel of an entry of an ascending map.
pub channel_of-at : (xs : List (ℕ × ℕ)) (x : ℕ × ℕ) → IsAscending xs → Contains xs x → channel_of x.0 xs ≡ Some x.1
channel_of-at [] x a h = absurd (Contains-nil x h)
channel_of-at (y ∷ ys) x a h =
    elim (Contains-cons_cases y x ys h) [
      | inl e ↦ cond-true (y.0 == x.0) (Some y.1) (channel_of x.0 ys) (eq-eqb y.0 x.0 (ap (λ z. z.0) e)) ∙ ap (λ z. Some z.1) e
      | inr l ↦
          let less : y.0 < x.0 = below-later y.0 (stations ys) x.0 a (is_in-from (stations ys) x.0 (Contains-map (λ z. z.0) ys x l)) in
          cond-false (y.0 == x.0) (Some y.1) (channel_of x.0 ys) (ne_eqb y.0 x.0 (λ e. omega arith))
          ∙ channel_of-at ys x (ascending-rest y.0 (stations ys) a) l
    ]

-- The channel of the entry at a place.
pub channel_of-found : (xs : List (ℕ × ℕ)) (f i : ℕ) (x : ℕ × ℕ) → IsAscending xs → i < length xs → x ≡ get_or xs i x → (get_or xs i x).0 ≡ f → Some x.1 ≡ channel_of f xs
channel_of-found xs f i x a l is own =
    let here : channel_of x.0 xs ≡ Some x.1 = channel_of-at xs x a (i, l, sym is) in
    let same : x.0 ≡ f = ap (λ y. y.0) is ∙ own in
    sym here ∙ ap (λ g. channel_of g xs) same

-- A map without the station has no channel of it.
pub channel_of-none : (xs : List (ℕ × ℕ)) (f : ℕ) → is_in (stations xs) f ≡ false → channel_of f xs ≡ None
channel_of-none [] f h = refl
channel_of-none (x ∷ xs) f h =
    let parts = or_parts (x.0 == f) (is_in (stations xs) f) h in
    cond-false (x.0 == f) (Some x.1) (channel_of f xs) parts.0 ∙ channel_of-none xs f parts.1

-- The three places of a put entry: before the first entry, in its place, or behind it.
pub put-before : (x y : ℕ × ℕ) (ys : List (ℕ × ℕ)) → x.0 < y.0 → put x (y ∷ ys) ≡ x ∷ y ∷ ys
put-before x y ys l = cond-true (nat_lt x.0 y.0) _ _ (lt-ltb x.0 y.0 l)

pub put-here : (x y : ℕ × ℕ) (ys : List (ℕ × ℕ)) → x.0 ≡ y.0 → put x (y ∷ ys) ≡ x ∷ ys
put-here x y ys e =
    cond-false (nat_lt x.0 y.0) _ _ (le-ltb x.0 y.0 (omega arith)) ∙ cond-true (x.0 == y.0) _ _ (eq-eqb x.0 y.0 e)

pub put-behind : (x y : ℕ × ℕ) (ys : List (ℕ × ℕ)) → y.0 < x.0 → put x (y ∷ ys) ≡ y ∷ put x ys
put-behind x y ys l =
    cond-false (nat_lt x.0 y.0) _ _ (le-ltb x.0 y.0 (omega arith)) ∙ cond-false (x.0 == y.0) _ _ (ne_eqb x.0 y.0 (λ e. omega arith))

-- An entry below all of the other map stays first.
pub overlaid-first : (x : ℕ × ℕ) (xs over : List (ℕ × ℕ)) → is_ascending (x.0 ∷ stations over) ≡ true → overlaid (x ∷ xs) over ≡ x ∷ overlaid xs over
overlaid-first x xs [] a = refl
overlaid-first x xs (y ∷ ys) a =
    let less : x.0 < y.0 = ltb-true x.0 y.0 (and_parts (nat_lt x.0 y.0) (is_ascending (stations (y ∷ ys))) a).0 in
    ap (λ m. overlaid m ys) (put-behind y x xs less) ∙ overlaid-first x (put y xs) ys (ascending-skip x.0 y.0 (stations ys) a)

-- Overwriting the empty map.
pub overlaid-none : (over : List (ℕ × ℕ)) → IsAscending over → overlaid [] over ≡ over
overlaid-none [] a = refl
overlaid-none (y ∷ ys) a =
    overlaid-first y [] ys a ∙ ap (λ (m : List (ℕ × ℕ)). y ∷ m) (overlaid-none ys (ascending-rest y.0 (stations ys) a))

-- The lower of two first entries stays first; if both have one station, the second map's entry stays.
pub overlaid-below : (x y : ℕ × ℕ) (xs ys : List (ℕ × ℕ)) → IsAscending (y ∷ ys) → x.0 < y.0 → overlaid (x ∷ xs) (y ∷ ys) ≡ x ∷ overlaid xs (y ∷ ys)
overlaid-below x y xs ys a l =
    overlaid-first x xs (y ∷ ys) (and_from (nat_lt x.0 y.0) (is_ascending (stations (y ∷ ys))) (lt-ltb x.0 y.0 l) a)

pub overlaid-same : (x y : ℕ × ℕ) (xs ys : List (ℕ × ℕ)) → IsAscending (y ∷ ys) → x.0 ≡ y.0 → overlaid (x ∷ xs) (y ∷ ys) ≡ y ∷ overlaid xs ys
overlaid-same x y xs ys a e = ap (λ m. overlaid m ys) (put-here y x xs (sym e)) ∙ overlaid-first y xs ys a

pub overlaid-above : (x y : ℕ × ℕ) (xs ys : List (ℕ × ℕ)) → IsAscending (y ∷ ys) → y.0 < x.0 → overlaid (x ∷ xs) (y ∷ ys) ≡ y ∷ overlaid (x ∷ xs) ys
overlaid-above x y xs ys a l = ap (λ m. overlaid m ys) (put-before y x xs l) ∙ overlaid-first y (x ∷ xs) ys a

-- An entry above b put among entries above b leaves all above b.
put-above : (b : ℕ) (x : ℕ × ℕ) (xs : List (ℕ × ℕ)) → is_ascending (b ∷ stations xs) ≡ true → b < x.0 → is_ascending (b ∷ stations (put x xs)) ≡ true
put-above b x [] a l = and_from (nat_lt b x.0) true (lt-ltb b x.0 l) refl
put-above b x (y ∷ ys) a l =
    let parts = and_parts (nat_lt b y.0) (is_ascending (stations (y ∷ ys))) a in
    let first : nat_lt b x.0 ≡ true = lt-ltb b x.0 l in
    elim (cases_order x.0 y.0) [
      | inl e ↦ subst (λ m. is_ascending (b ∷ stations m) ≡ true) (sym (put-here x y ys e))
          (and_from (nat_lt b x.0) (is_ascending (x.0 ∷ stations ys)) first (subst (λ n. is_ascending (n ∷ stations ys) ≡ true) (sym e) parts.1))
      | inr o ↦ elim o [
        | inl less ↦ subst (λ m. is_ascending (b ∷ stations m) ≡ true) (sym (put-before x y ys less))
            (and_from (nat_lt b x.0) (is_ascending (x.0 ∷ stations (y ∷ ys))) first (and_from (nat_lt x.0 y.0) (is_ascending (stations (y ∷ ys))) (lt-ltb x.0 y.0 less) parts.1))
        | inr more ↦ subst (λ m. is_ascending (b ∷ stations m) ≡ true) (sym (put-behind x y ys more))
            (and_from (nat_lt b y.0) (is_ascending (y.0 ∷ stations (put x ys))) parts.0 (put-above y.0 x ys parts.1 more))
      ]
    ]

pub put-ascending : (x : ℕ × ℕ) (xs : List (ℕ × ℕ)) → IsAscending xs → IsAscending (put x xs)
put-ascending x [] a = refl
put-ascending x (y ∷ ys) a =
    elim (cases_order x.0 y.0) [
      | inl e ↦ subst IsAscending (sym (put-here x y ys e)) (subst (λ n. is_ascending (n ∷ stations ys) ≡ true) (sym e) a)
      | inr o ↦ elim o [
        | inl less ↦ subst IsAscending (sym (put-before x y ys less)) (and_from (nat_lt x.0 y.0) (is_ascending (stations (y ∷ ys))) (lt-ltb x.0 y.0 less) a)
        | inr more ↦ subst IsAscending (sym (put-behind x y ys more)) (put-above y.0 x ys a more)
      ]
    ]

-- A map that is overwritten still ascends.
pub overlaid-ascending : (xs over : List (ℕ × ℕ)) → IsAscending xs → IsAscending (overlaid xs over)
overlaid-ascending xs [] a = a
overlaid-ascending xs (y ∷ ys) a = overlaid-ascending (put y xs) ys (put-ascending y xs a)

-- A greater station is later in the list.
later : (y : ℕ × ℕ) (ys : List (ℕ × ℕ)) (s : ℕ) → is_in (stations (y ∷ ys)) s ≡ true → y.0 < s → is_in (stations ys) s ≡ true
later y ys s h l =
    ⊎_elim (λ e. let same : y.0 ≡ s = eqb-true y.0 s e in absurd (omega arith)) (λ r. r) (or_cases (y.0 == s) (is_in (stations ys) s) h)

-- A map that is overwritten by a map with all its stations is that map.
pub overlaid-all : (xs over : List (ℕ × ℕ)) → IsAscending xs → IsAscending over → ((s : ℕ) → is_in (stations xs) s ≡ true → is_in (stations over) s ≡ true) → overlaid xs over ≡ over
overlaid-all [] over a b has = overlaid-none over b
overlaid-all (x ∷ xs) [] a b has = absurd (false≢true (has x.0 (or_left (x.0 == x.0) (is_in (stations xs) x.0) (eq-eqb x.0 x.0 refl))))
overlaid-all (x ∷ xs) (y ∷ ys) a b has =
    let own : is_in (stations (y ∷ ys)) x.0 ≡ true = has x.0 (or_left (x.0 == x.0) (is_in (stations xs) x.0) (eq-eqb x.0 x.0 refl)) in
    let rest : IsAscending ys = ascending-rest y.0 (stations ys) b in
    elim (cases_order x.0 y.0) [
      | inl e ↦ overlaid-same x y xs ys b e
          ∙ ap (λ (m : List (ℕ × ℕ)). y ∷ m) (overlaid-all xs ys (ascending-rest x.0 (stations xs) a) rest (λ s h.
          let more : x.0 < s = below-later x.0 (stations xs) s a h in
          later y ys s (has s (or_right (x.0 == s) (is_in (stations xs) s) h)) (omega arith)))
      | inr o ↦ elim o [
        | inl less ↦
            let above : y.0 < x.0 = below-later y.0 (stations ys) x.0 b (⊎_elim (λ e. let same : y.0 ≡ x.0 = eqb-true y.0 x.0 e in absurd (omega arith)) (λ r. r) (or_cases (y.0 == x.0) (is_in (stations ys) x.0) own)) in
            absurd (omega arith)
        | inr more ↦ overlaid-above x y xs ys b more
            ∙ ap (λ (m : List (ℕ × ℕ)). y ∷ m) (overlaid-all (x ∷ xs) ys a rest (λ s h.
            let above : y.0 < s = ⊎_elim (λ e. let same : x.0 ≡ s = eqb-true x.0 s e in omega arith) (λ r. let next : x.0 < s = below-later x.0 (stations xs) s a r in omega arith) (or_cases (x.0 == s) (is_in (stations xs) s) h) in
            later y ys s (has s h) above))
      ]
    ]

-- The rest of a list from j on begins with the list's element at j, and ascends if the list does.
left-ascends : (ys : List (ℕ × ℕ)) (j : ℕ) → IsAscending ys → j < length ys → IsAscending (get_or ys j (0, 0) ∷ drop (j + 1) ys)
left-ascends ys j a l = subst IsAscending (drop_more ys j (0, 0) l) (ascending-drop (λ x. x.0) j ys a)

lefts : (xs ys : List (ℕ × ℕ)) (i j : ℕ) → i < length xs → j < length ys → overlaid (drop i xs) (drop j ys) ≡ overlaid (get_or xs i (0, 0) ∷ drop (i + 1) xs) (get_or ys j (0, 0) ∷ drop (j + 1) ys)
lefts xs ys i j l m = ap₂ overlaid (drop_more xs i (0, 0) l) (drop_more ys j (0, 0) m)

one-more : (done left rest all : List (ℕ × ℕ)) (x : ℕ × ℕ) → left ≡ x ∷ rest → done ++ left ≡ all → (done ++ x ∷ []) ++ rest ≡ all
one-more done left rest all x e h = append_assoc done (x ∷ []) rest ∙ ap (λ r. done ++ r) (sym e) ∙ h

-- One step of a merge: the lower of the two first entries is done next; if both have one station, the second list's entry.
pub merged-below : (done xs ys all : List (ℕ × ℕ)) (i j : ℕ) → IsAscending ys → i < length xs → j < length ys → (get_or xs i (0, 0)).0 < (get_or ys j (0, 0)).0 → done ++ overlaid (drop i xs) (drop j ys) ≡ all → (done ++ get_or xs i (0, 0) ∷ []) ++ overlaid (drop (i + 1) xs) (drop j ys) ≡ all
merged-below done xs ys all i j a l m less h =
    let x = get_or xs i (0, 0) in
    let y = get_or ys j (0, 0) in
    let step = lefts xs ys i j l m ∙ overlaid-below x y (drop (i + 1) xs) (drop (j + 1) ys) (left-ascends ys j a m) less in
    let back = ap (λ r. x ∷ overlaid (drop (i + 1) xs) r) (sym (drop_more ys j (0, 0) m)) in
    one-more done (overlaid (drop i xs) (drop j ys)) (overlaid (drop (i + 1) xs) (drop j ys)) all x (step ∙ back) h

pub merged-same : (done xs ys all : List (ℕ × ℕ)) (i j : ℕ) → IsAscending ys → i < length xs → j < length ys → (get_or xs i (0, 0)).0 ≡ (get_or ys j (0, 0)).0 → done ++ overlaid (drop i xs) (drop j ys) ≡ all → (done ++ get_or ys j (0, 0) ∷ []) ++ overlaid (drop (i + 1) xs) (drop (j + 1) ys) ≡ all
merged-same done xs ys all i j a l m same h =
    let x = get_or xs i (0, 0) in
    let y = get_or ys j (0, 0) in
    let step = lefts xs ys i j l m ∙ overlaid-same x y (drop (i + 1) xs) (drop (j + 1) ys) (left-ascends ys j a m) same in
    one-more done (overlaid (drop i xs) (drop j ys)) (overlaid (drop (i + 1) xs) (drop (j + 1) ys)) all y step h

pub merged-above : (done xs ys all : List (ℕ × ℕ)) (i j : ℕ) → IsAscending ys → i < length xs → j < length ys → (get_or ys j (0, 0)).0 < (get_or xs i (0, 0)).0 → done ++ overlaid (drop i xs) (drop j ys) ≡ all → (done ++ get_or ys j (0, 0) ∷ []) ++ overlaid (drop i xs) (drop (j + 1) ys) ≡ all
merged-above done xs ys all i j a l m more h =
    let x = get_or xs i (0, 0) in
    let y = get_or ys j (0, 0) in
    let step = lefts xs ys i j l m ∙ overlaid-above x y (drop (i + 1) xs) (drop (j + 1) ys) (left-ascends ys j a m) more in
    let back = ap (λ r. y ∷ overlaid r (drop (j + 1) ys)) (sym (drop_more xs i (0, 0) l)) in
    one-more done (overlaid (drop i xs) (drop j ys)) (overlaid (drop i xs) (drop (j + 1) ys)) all y (step ∙ back) h

whole-left : (xs : List (ℕ × ℕ)) (i : ℕ) → take (length xs - i) (drop i xs) ≡ drop i xs
whole-left xs i = take_all (length xs - i) (drop i xs) (omega (arith, length-drop i xs))

-- The end of a merge: the rest of the one list or of the other.
pub merged-end : (done xs ys all : List (ℕ × ℕ)) (i j : ℕ) → IsAscending ys → (length xs ≤ i) ⊎ (length ys ≤ j) → done ++ overlaid (drop i xs) (drop j ys) ≡ all → (done ++ take (length xs - i) (drop i xs)) ++ take (length ys - j) (drop j ys) ≡ all
merged-end done xs ys all i j a past h =
    let rest : overlaid (drop i xs) (drop j ys) ≡ drop i xs ++ drop j ys = elim past [
      | inl l ↦ rw (drop_of_length-le xs l) (overlaid-none (drop j ys) (ascending-drop (λ x. x.0) j ys a))
      | inr l ↦ rw (drop_of_length-le ys l) (sym (append-nil (drop i xs)))
    ] in
    rw (whole-left xs i, whole-left ys j) (append_assoc done (drop i xs) (drop j ys) ∙ ap (λ r. done ++ r) (sym rest) ∙ h)

-- ---- whether a map has an entry

-- The map has the entry if its channel is the station's, and lacks it if the station has another channel or none.
pub stands-where : (s c : ℕ) (m : List (ℕ × ℕ)) → channel_of s m ≡ Some c → has_entry m (s, c) ≡ true
stands-where s c [] e = cc
stands-where s c (x ∷ xs) e =
    (elim (x.0 == s) as (λ b. cond b (Some x.1) (channel_of s xs) ≡ Some c → ((b && (x.1 == c)) || has_entry xs (s, c)) ≡ true) [
      | true ↦ λ (h : Some x.1 ≡ Some c). or_left (x.1 == c) (has_entry xs (s, c)) (eq-eqb x.1 c cc)
      | false ↦ λ h. stands-where s c xs h
    ]) e

pub stands-only : (s c : ℕ) (m : List (ℕ × ℕ)) → IsAscending m → has_entry m (s, c) ≡ true → channel_of s m ≡ Some c
stands-only s c m a h = channel_of-at m (entry s c) a (Contains-from_has_entry m (entry s c) h)

same-option : (o : Option ℕ) (c : ℕ) → option_eq nat_eq o (Some c) ≡ true → o ≡ Some c
same-option None c h = cc
same-option (Some d) c h = ap Some (eqb-true d c h)

stands-if : (s c : ℕ) (m : List (ℕ × ℕ)) (b : Bool) → IsAscending m → (b ≡ true → channel_of s m ≡ Some c) → (channel_of s m ≡ Some c → b ≡ true) → b ≡ has_entry m (s, c)
stands-if s c m true a f g = sym (stands-where s c m (f refl))
stands-if s c m false a f g =
    sym (false_from_ne_true (has_entry m (s, c)) (λ h. false≢true (g (stands-only s c m a h))))

pub stands-exactly : (s c : ℕ) (m : List (ℕ × ℕ)) → IsAscending m → option_eq nat_eq (channel_of s m) (Some c) ≡ has_entry m (s, c)
stands-exactly s c m a =
    stands-if s c m (option_eq nat_eq (channel_of s m) (Some c)) a (same-option (channel_of s m) c)
    (λ e. ap (λ o. option_eq nat_eq o (Some c)) e ∙ eq-eqb c c refl)
