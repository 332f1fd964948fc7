-- What a visit of some neighbours reaches, neighbour by neighbour.
use Rattle.std.proofs.Common.{◌≡◌, ℕ, ◌+◌, ◌<◌, ◌≤◌, Bool, true, false, not, cond, ◌==◌, ◌||◌, List, [], ◌∷◌, ◌++◌, take, ◌⊎◌, inl, inr, length, get_or, refl, sym, subst, ap, ◌∙◌, arith, length-append, eqb-true, eq-eqb}
use Rattle.std.specs.BTreeSet.{BTreeSet, Updates, contains}
use Rattle.std.specs.List.{list_any}
use Rattle.std.specs.Ordering.{nat_cmp, is_eq}
use Rattle.std.proofs.lemmas.Bool.{cases_Bool, both_ways, false≢true, or_cases, or_left, or_right, not_from_true}
use Rattle.std.proofs.lemmas.Bool.Decides.{nat_tests}
use Rattle.std.proofs.lemmas.List.{take_more}
use Rattle.std.proofs.lemmas.List.Folds.{list_any-append}
use Rattle.std.proofs.Math.Bool.{or-false}
use Rattle.pack_defs.specs.Lists.{is_in}
use Rattle.pack_defs.proofs.BookLemmas.{list_any-same}
use Rattle.pack_defs.proofs.ComponentLaws.{filter_grows, filter_grows_by_one}
use Rattle.pack_defs.proofs.Members.{is_in-gives}
use Rattle.packing_graph.specs.Reach.{IsVisited, count_unseen}

-- One more station is reached, or none.
pub record HasMore (x : ℕ) (seen more : ℕ → Bool) : Type 0 where
  pub same : (t : ℕ) → more t ≡ ((x == t) || seen t)

eq_by_cmp : (x t : ℕ) → is_eq (nat_cmp x t) ≡ (x == t)
eq_by_cmp x t = grind (arith, nat_tests)

swapped : (k t : ℕ) → (k == t) ≡ is_eq (nat_cmp t k)
swapped k t = grind (arith, nat_tests)

or_cond : (a b : Bool) → cond a true b ≡ (a || b)
or_cond true b = refl
or_cond false b = refl

-- How an insertion changes a set.
pub has_more : (old new : BTreeSet ℕ) (x : ℕ) → Updates nat_cmp old new x true → HasMore x (contains nat_cmp old) (contains nat_cmp new)
has_more old new x u = record {
  same = λ t. u.0 t ∙ or_cond (is_eq (nat_cmp x t)) (contains nat_cmp old t) ∙ ap (λ b. b || contains nat_cmp old t) (eq_by_cmp x t);
}

-- An empty set has no member.
pub none-in : (s : BTreeSet ℕ) → s.keys ≡ [] → (t : ℕ) → contains nat_cmp s t ≡ false
none-in s e t = ap (list_any (λ k. is_eq (nat_cmp t k))) e

-- The members of a set are its keys.
pub key-in : (s : BTreeSet ℕ) (t : ℕ) → is_in s.keys t ≡ contains nat_cmp s t
key-in s t = list_any-same (λ k. k == t) (λ k. is_eq (nat_cmp t k)) (λ k. swapped k t) s.keys

-- What an insertion says about the set before it.
pub was_out : (b added : Bool) → added ≡ not b → added ≡ true → b ≡ false
was_out true added e h = absurd (false≢true (sym e ∙ h))
was_out false added e h = refl

pub was_in : (b added : Bool) → added ≡ not b → added ≡ false → b ≡ true
was_in true added e h = refl
was_in false added e h = absurd (false≢true (sym h ∙ e))

more-kept : (x t : ℕ) (seen more : ℕ → Bool) → HasMore x seen more → seen t ≡ true → more t ≡ true
more-kept x t seen more m h = m.same t ∙ or_right (x == t) (seen t) h

more-itself : (x : ℕ) (seen more : ℕ → Bool) → HasMore x seen more → more x ≡ true
more-itself x seen more m = m.same x ∙ or_left (x == x) (seen x) (eq-eqb x x refl)

more-gives : (x t : ℕ) (seen more : ℕ → Bool) → HasMore x seen more → more t ≡ true → (x ≡ t) ⊎ (seen t ≡ true)
more-gives x t seen more m h =
    elim (or_cases (x == t) (seen t) (sym (m.same t) ∙ h)) [ inl e ↦ inl (eqb-true x t e) | inr old ↦ inr old ]

is_in-more : (xs : List ℕ) (x t : ℕ) → is_in (xs ++ x ∷ []) t ≡ (is_in xs t || (x == t))
is_in-more xs x t = list_any-append (λ y. y == t) xs (x ∷ []) ∙ ap (λ b. is_in xs t || b) (or-false (x == t))

pub last-in : (xs : List ℕ) (x : ℕ) → is_in (xs ++ x ∷ []) x ≡ true
last-in xs x = is_in-more xs x x ∙ or_right (is_in xs x) (x == x) (eq-eqb x x refl)

pub still-in : (xs : List ℕ) (x t : ℕ) → is_in xs t ≡ true → is_in (xs ++ x ∷ []) t ≡ true
still-in xs x t h = is_in-more xs x t ∙ or_left (is_in xs t) (x == t) h

pub in-gives : (xs : List ℕ) (x t : ℕ) → is_in (xs ++ x ∷ []) t ≡ true → (is_in xs t ≡ true) ⊎ (x ≡ t)
in-gives xs x t h =
    elim (or_cases (is_in xs t) (x == t) (sym (is_in-more xs x t) ∙ h)) [ inl old ↦ inl old | inr e ↦ inr (eqb-true x t e) ]

-- The number of unreached stations falls.
unseen-falls : (on : List ℕ) (x : ℕ) (seen more : ℕ → Bool) → HasMore x seen more → count_unseen on more ≤ count_unseen on seen
unseen-falls on x seen more m =
    filter_grows (λ t. not (more t)) (λ t. not (seen t)) on (λ t out. elim (cases_Bool (seen t)) [
      | inl is ↦ absurd (both_ways (not (more t)) (not_from_true (more t) (more-kept x t seen more m is)) out)
      | inr out_too ↦ ap not out_too
    ])

unseen-fewer : (on : List ℕ) (x : ℕ) (seen more : ℕ → Bool) → HasMore x seen more → is_in on x ≡ true → seen x ≡ false → count_unseen on more < count_unseen on seen
unseen-fewer on x seen more m there new =
    filter_grows_by_one (λ t. not (more t)) (λ t. not (seen t)) on x
    (λ t out. elim (cases_Bool (seen t)) [
      | inl is ↦ absurd (both_ways (not (more t)) (not_from_true (more t) (more-kept x t seen more m is)) out)
      | inr out_too ↦ ap not out_too
    ])
    (is_in-gives on x there) (not_from_true (more x) (more-itself x seen more m)) (ap not new)

pub visit-start : (on : List ℕ) (seen : ℕ → Bool) (waiting : List ℕ) → IsVisited on [] seen waiting seen waiting
visit-start on seen waiting = record {
  kept = λ t h. h;
  reached = λ t h k. absurd (false≢true h);
  new = λ t h. inl h;
  still = λ t h. h;
  led = λ t h. inl h;
  counted = omega arith;
}

-- A neighbour that is off air.
visit-off : (on near : List ℕ) (x : ℕ) (seen after : ℕ → Bool) (waiting longer : List ℕ) → IsVisited on near seen waiting after longer → is_in on x ≡ false → IsVisited on (near ++ x ∷ []) seen waiting after longer
visit-off on near x seen after waiting longer v off = record {
  kept = v.kept;
  reached = λ t h k. elim (in-gives near x t h) [
    | inl old ↦ v.reached t old k
    | inr e ↦ absurd (both_ways (is_in on x) off (subst (λ z. is_in on z ≡ true) (sym e) k))
  ];
  new = λ t h. elim (v.new t h) [ inl old ↦ inl old | inr r ↦ inr (still-in near x t r.0, r.1, r.2) ];
  still = v.still;
  led = v.led;
  counted = v.counted;
}

-- A neighbour that was reached before.
visit-known : (on near : List ℕ) (x : ℕ) (seen after more : ℕ → Bool) (waiting longer : List ℕ) → IsVisited on near seen waiting after longer → HasMore x after more → after x ≡ true → IsVisited on (near ++ x ∷ []) seen waiting more longer
visit-known on near x seen after more waiting longer v m known =
    let counted : length longer + count_unseen on after ≤ length waiting + count_unseen on seen = v.counted in
    let fewer = unseen-falls on x after more m in
    let before : (t : ℕ) → more t ≡ true → after t ≡ true = λ t h. elim (more-gives x t after more m h) [
      | inl e ↦ subst (λ z. after z ≡ true) e known
      | inr old ↦ old
    ] in
    record {
      kept = λ t h. more-kept x t after more m (v.kept t h);
      reached = λ t h k. elim (in-gives near x t h) [
        | inl old ↦ more-kept x t after more m (v.reached t old k)
        | inr e ↦ subst (λ z. more z ≡ true) e (more-itself x after more m)
      ];
      new = λ t h. elim (v.new t (before t h)) [ inl old ↦ inl old | inr r ↦ inr (still-in near x t r.0, r.1, r.2) ];
      still = v.still;
      led = λ t h. elim (v.led t h) [ inl old ↦ inl old | inr r ↦ inr (more-kept x t after more m r) ];
      counted = omega (arith, counted, fewer);
    }

-- A new neighbour.
visit-new : (on near : List ℕ) (x : ℕ) (seen after more : ℕ → Bool) (waiting longer : List ℕ) → IsVisited on near seen waiting after longer → HasMore x after more → is_in on x ≡ true → after x ≡ false → IsVisited on (near ++ x ∷ []) seen waiting more (longer ++ x ∷ [])
visit-new on near x seen after more waiting longer v m there new =
    let counted : length longer + count_unseen on after ≤ length waiting + count_unseen on seen = v.counted in
    let fewer = unseen-fewer on x after more m there new in
    let size : length (longer ++ x ∷ []) ≡ length longer + 1 = length-append longer (x ∷ []) in
    record {
      kept = λ t h. more-kept x t after more m (v.kept t h);
      reached = λ t h k. elim (in-gives near x t h) [
        | inl old ↦ more-kept x t after more m (v.reached t old k)
        | inr e ↦ subst (λ z. more z ≡ true) e (more-itself x after more m)
      ];
      new = λ t h. elim (more-gives x t after more m h) [
        | inl e ↦ inr (subst (λ z. (is_in (near ++ x ∷ []) z ≡ true) × (is_in on z ≡ true) × (is_in (longer ++ x ∷ []) z ≡ true)) e (last-in near x, there, last-in longer x))
        | inr old ↦ elim (v.new t old) [ inl before ↦ inl before | inr r ↦ inr (still-in near x t r.0, r.1, still-in longer x t r.2) ]
      ];
      still = λ t h. still-in longer x t (v.still t h);
      led = λ t h. elim (in-gives longer x t h) [
        | inl old ↦ elim (v.led t old) [ inl before ↦ inl before | inr r ↦ inr (more-kept x t after more m r) ]
        | inr e ↦ inr (subst (λ z. more z ≡ true) e (more-itself x after more m))
      ];
      counted = omega (arith, counted, fewer, size);
    }

-- ---- the same, at the current place of the loop

pub step-off : (on near : List ℕ) (i : ℕ) (seen after : ℕ → Bool) (waiting longer : List ℕ) → i < length near → IsVisited on (take i near) seen waiting after longer → is_in on (get_or near i 0) ≡ false → IsVisited on (take (i + 1) near) seen waiting after longer
step-off on near i seen after waiting longer l v off =
    subst (λ ts. IsVisited on ts seen waiting after longer) (sym (take_more near i 0 l)) (visit-off on (take i near) (get_or near i 0) seen after waiting longer v off)

pub step-known : (on near : List ℕ) (i : ℕ) (seen after more : ℕ → Bool) (waiting longer : List ℕ) → i < length near → IsVisited on (take i near) seen waiting after longer → HasMore (get_or near i 0) after more → after (get_or near i 0) ≡ true → IsVisited on (take (i + 1) near) seen waiting more longer
step-known on near i seen after more waiting longer l v m known =
    subst (λ ts. IsVisited on ts seen waiting more longer) (sym (take_more near i 0 l)) (visit-known on (take i near) (get_or near i 0) seen after more waiting longer v m known)

pub step-new : (on near : List ℕ) (i : ℕ) (seen after more : ℕ → Bool) (waiting longer : List ℕ) → i < length near → IsVisited on (take i near) seen waiting after longer → HasMore (get_or near i 0) after more → is_in on (get_or near i 0) ≡ true → after (get_or near i 0) ≡ false → IsVisited on (take (i + 1) near) seen waiting more (longer ++ get_or near i 0 ∷ [])
step-new on near i seen after more waiting longer l v m there new =
    subst (λ ts. IsVisited on ts seen waiting more (longer ++ get_or near i 0 ∷ [])) (sym (take_more near i 0 l)) (visit-new on (take i near) (get_or near i 0) seen after more waiting longer v m there new)
