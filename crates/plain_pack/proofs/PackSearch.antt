-- One step of the depth-first search: one more entry beside those chosen, and what remains.
use Rattle.std.proofs.Common.{◌≡◌, ◌∙◌, ℕ, Bool, true, false, not, ◌&&◌, ◌||◌, ◌==◌, inl, inr, List, [], ◌∷◌, ◌++◌, map, refl, sym, ap, subst, append_assoc, Contains}
use Rattle.std.specs.List.{list_any, list_all, flat_map}
use Rattle.std.proofs.lemmas.Bool.{cases_Bool, both_ways, not-true, and_parts, and_from}
use Rattle.std.proofs.Math.Bool.{or_comm}
use Rattle.std.proofs.lemmas.List.{append-nil}
use Rattle.std.proofs.lemmas.List.Elements.{Contains-append_left, Contains-append_right, Contains-append_cases}
use Rattle.pack_defs.specs.declared.pair.Pair.{Pair}
use Rattle.pack_defs.specs.Book.{BookView, domain_of, is_forbidden, joins}
use Rattle.pack_defs.specs.Packing.{IsPacking, assignments, fits, is_apart}
use Rattle.pack_defs.proofs.FitsLaws.{assignments-gives, is_apart-gives, is_apart-from}
use Rattle.pack_defs.proofs.Members.{Contains-here, Contains-cons_cases, Contains-nil, Contains-map, Contains-from_map, Contains-flat_map, Contains-from_flat_map, list_any-from, list_all-from, list_all-gives}
use Rattle.pack_defs.proofs.Words.{list_any-from_each}
use Rattle.plain_pack.specs.Search.{Extends, NoneExtends, NoneExtendsBy, is_compatible_with}

-- A pair forbids its entries in either order.
forbids-sym : (pairs : List Pair) (x y : ℕ × ℕ) → list_any (λ p. joins p x y) pairs ≡ list_any (λ p. joins p y x) pairs
forbids-sym [] x y = refl
forbids-sym (p ∷ ps) x y =
    let a = (p.f == x.0) && ((p.a == x.1) && ((p.g == y.0) && (p.b == y.1))) in
    let b = (p.f == y.0) && ((p.a == y.1) && ((p.g == x.0) && (p.b == x.1))) in
    let here : (a || b) ≡ (b || a) = or_comm a b in
    rw (here, forbids-sym ps x y) refl

-- If no element passes a test, a given element doesn't.
none-of : {X : Type 0} (p : X → Bool) (xs : List X) (x : X) → list_any p xs ≡ false → Contains xs x → p x ≡ false
none-of p xs x h l =
    elim (cases_Bool (p x)) [
      | inl passes ↦ absurd (both_ways (list_any p xs) h (list_any-from p xs x l passes))
      | inr no_pass ↦ no_pass
    ]

-- An entry that is forbidden beside the chosen ones is in no clean map that has them.
pub not-beside : (book : BookView) (chosen : List (ℕ × ℕ)) (x : ℕ × ℕ) (more : List (ℕ × ℕ)) → is_compatible_with book chosen x ≡ false → is_apart book (chosen ++ x ∷ more) ≡ false
not-beside book chosen x more h =
    elim (cases_Bool (is_apart book (chosen ++ x ∷ more))) [
      | inl passes ↦
          let apart = is_apart-gives book (chosen ++ x ∷ more) passes in
          let at_x = Contains-append_right chosen (x ∷ more) x (Contains-here x more) in
          let each : list_all (λ y. not (is_forbidden book x y)) chosen ≡ true =
          list_all-from (λ y. not (is_forbidden book x y)) chosen (λ y l. ap not (apart x y at_x (Contains-append_left chosen (x ∷ more) y l))) in
          absurd (both_ways (is_compatible_with book chosen x) h (and_from (list_all (λ y. not (is_forbidden book x y)) chosen) (not (is_forbidden book x x)) each (ap not (apart x x at_x at_x))))
      | inr none ↦ none
    ]

-- An entry that is allowed beside the chosen ones is apart from them.
pub beside : (book : BookView) (chosen : List (ℕ × ℕ)) (x : ℕ × ℕ) → is_apart book chosen ≡ true → is_compatible_with book chosen x ≡ true → is_apart book (chosen ++ x ∷ []) ≡ true
beside book chosen x a h =
    let parts = and_parts (list_all (λ y. not (is_forbidden book x y)) chosen) (not (is_forbidden book x x)) h in
    let from_x : (y : ℕ × ℕ) → Contains (chosen ++ x ∷ []) y → is_forbidden book x y ≡ false = λ y l.
    elim (Contains-append_cases chosen (x ∷ []) y l) [
      | inl m ↦ not-true (is_forbidden book x y) (list_all-gives (λ y. not (is_forbidden book x y)) chosen y parts.0 m)
      | inr m ↦ elim (Contains-cons_cases x y [] m) [
        | inl e ↦ subst (λ z. is_forbidden book x z ≡ false) e (not-true (is_forbidden book x x) parts.1)
        | inr n ↦ absurd (Contains-nil y n)
      ]
    ] in
    is_apart-from book (chosen ++ x ∷ []) (λ y z l m.
    elim (Contains-append_cases chosen (x ∷ []) y l) [
      | inl y_chosen ↦ elim (Contains-append_cases chosen (x ∷ []) z m) [
        | inl z_chosen ↦ is_apart-gives book chosen a y z y_chosen z_chosen
        | inr z_new ↦ elim (Contains-cons_cases x z [] z_new) [
          | inl e ↦ subst (λ w. is_forbidden book y w ≡ false) e (forbids-sym book.pairs y x ∙ from_x y l)
          | inr n ↦ absurd (Contains-nil z n)
        ]
      ]
      | inr y_new ↦ elim (Contains-cons_cases x y [] y_new) [
        | inl e ↦ subst (λ w. is_forbidden book w z ≡ false) e (from_x z m)
        | inr n ↦ absurd (Contains-nil y n)
      ]
    ])

-- No station is left.
pub extends-nil : (book : BookView) (chosen : List (ℕ × ℕ)) → is_apart book chosen ≡ true → Extends book chosen [] chosen
unfolding assignments
extends-nil book chosen a = record { more = []; listed = Contains-here [] []; whole = sym (append-nil chosen); apart = a }

-- An extension after one more entry is an extension.
pub extends-by : (book : BookView) (chosen : List (ℕ × ℕ)) (s c : ℕ) (left : List ℕ) (all : List (ℕ × ℕ)) → Contains (domain_of book s) c → Extends book (chosen ++ (s, c) ∷ []) left all → Extends book chosen (s ∷ left) all
unfolding assignments
extends-by book chosen s c left all on h = record {
  more = (s, c) ∷ h.more;
  listed = Contains-flat_map (λ c. map (λ rest. (s, c) ∷ rest) (assignments book left)) (domain_of book s) c ((s, c) ∷ h.more) on
      (Contains-map (λ rest. (s, c) ∷ rest) (assignments book left) h.more h.listed);
  whole = h.whole ∙ append_assoc {A = ℕ × ℕ} chosen ((s, c) ∷ []) h.more;
  apart = h.apart;
}

-- No extension after one more entry, stated for the entries before it.
pub none-beyond : (book : BookView) (chosen : List (ℕ × ℕ)) (x : ℕ × ℕ) (left : List ℕ) → NoneExtends book (chosen ++ x ∷ []) left → (more : List (ℕ × ℕ)) → Contains (assignments book left) more → is_apart book (chosen ++ x ∷ more) ≡ false
none-beyond book chosen x left h more l =
    subst (λ z. is_apart book z ≡ false) (append_assoc {A = ℕ × ℕ} chosen (x ∷ []) more)
    (none-of (λ more. is_apart book ((chosen ++ x ∷ []) ++ more)) (assignments book left) more h l)

-- One more channel without an extension.
pub none-by : (book : BookView) (chosen : List (ℕ × ℕ)) (s : ℕ) (channels : List ℕ) (c : ℕ) (left : List ℕ) → NoneExtendsBy book chosen s channels left → ((more : List (ℕ × ℕ)) → Contains (assignments book left) more → is_apart book (chosen ++ (s, c) ∷ more) ≡ false) → NoneExtendsBy book chosen s (channels ++ c ∷ []) left
none-by book chosen s channels c left before here =
    let ways = λ (d : ℕ). map (λ rest. (s, d) ∷ rest) (assignments book left) in
    list_any-from_each (λ more. is_apart book (chosen ++ more)) (flat_map ways (channels ++ c ∷ [])) (λ more l.
    let (d, among, is) = Contains-from_flat_map ways (channels ++ c ∷ []) more l in
    elim (Contains-append_cases channels (c ∷ []) d among) [
      | inl m ↦ none-of (λ more. is_apart book (chosen ++ more)) (flat_map ways channels) more before (Contains-flat_map ways channels d more m is)
      | inr m ↦ elim (Contains-cons_cases c d [] m) [
        | inl e ↦
            let (rest, listed, same) = Contains-from_map (λ rest. (s, d) ∷ rest) (assignments book left) more is in
            let at_d : is_apart book (chosen ++ (s, d) ∷ rest) ≡ false = subst (λ z. is_apart book (chosen ++ (s, z) ∷ rest) ≡ false) e (here rest listed) in
            subst (λ z. is_apart book (chosen ++ z) ≡ false) same at_d
        | inr n ↦ absurd (Contains-nil d n)
      ]
    ])

-- No channel of the station's domain has an extension.
pub none-whole : (book : BookView) (chosen : List (ℕ × ℕ)) (s : ℕ) (left : List ℕ) → NoneExtendsBy book chosen s (domain_of book s) left → NoneExtends book chosen (s ∷ left)
unfolding assignments
none-whole book chosen s left h = h

-- No entries are apart.
pub nothing-apart : (book : BookView) → is_apart book [] ≡ true
unfolding is_apart
nothing-apart book = refl

-- An extension of no entries is a packing.
pub packs : (book : BookView) (set : List ℕ) (all : List (ℕ × ℕ)) → Extends book [] set all → IsPacking book set all
packs book set all h =
    let is = assignments-gives book set h.more h.listed in
    let packing : IsPacking book set h.more = record {
      stations = is.0;
      clean = record { on_domain = is.1.each; apart = is_apart-gives book h.more (subst (λ z. is_apart book z ≡ true) h.whole h.apart) };
    } in
    subst (λ z. IsPacking book set z) (sym h.whole) packing

-- If no entries have no extension, the set doesn't fit.
pub fits-none : (book : BookView) (set : List ℕ) → NoneExtends book [] set → fits book set ≡ false
unfolding fits
fits-none book set h = h
