-- For `laws`: a refuted set does not fit.
use Rattle.std.proofs.Common.{◌≡◌, ℕ, true, false, ◌==◌, ◌&&◌, List, [], ◌∷◌, Contains, sym, ap₂, ◌∙◌, subst, ⊎_elim, eqb-true}
use Rattle.std.specs.List.{list_all, list_any}
use Rattle.std.proofs.lemmas.Bool.{and_parts, both_ways, or_cases}
use Rattle.pack_defs.specs.declared.pair.Pair.{Pair}
use Rattle.pack_defs.specs.Book.{BookView, IsInOrder, domain_of, is_forbidden}
use Rattle.pack_defs.specs.Lists.{is_in, is_only, is_ascending}
use Rattle.pack_defs.specs.Packing.{Fits}
use Rattle.pack_defs.proofs.FitsLaws.{part_fits}
use Rattle.pack_defs.proofs.Members.{Contains-nil, Contains-from_map, is_in-from, is_in-gives, list_all-gives, list_any-gives}
use Rattle.pack_defs.proofs.Words.{entry, pair_same, pair-forbids}
use Rattle.cnf_encode.specs.Formula.{packing_formula, variables_in}
use Rattle.cnf_encode.specs.Decode.{model_of}
use Rattle.cnf_encode.proofs.Encoding.{packing-satisfies}
use Rattle.rup_check.proofs.Sound.{log-sound}
use Rattle.cert_types.specs.Refutes.{Refutes, ByLog, ByPair, ByStation, is_dead, same_pair}

-- a subset of a set that fits, fits
pub subset-fits : (book : BookView) (set subset : List ℕ) → list_all (is_in set) subset ≡ true → Fits book set → Fits book subset
subset-fits book set subset a f = part_fits book set subset (λ s c. is_in-gives set s (list_all-gives (is_in set) subset s a c)) f

-- a set with a station without a channel does not fit
bare-unfit : (book : BookView) (set : List ℕ) (s : ℕ) → is_in set s ≡ true → domain_of book s ≡ [] → Fits book set → ⊥
bare-unfit book set s h e f =
    let x = Contains-from_map (λ y. y.0) f.entries s (subst (λ z. Contains z s) (sym f.stations) (is_in-gives set s h)) in
    let on : Contains (domain_of book s) x.0.1 = subst (λ z. Contains (domain_of book z) x.0.1) x.2 (f.clean.on_domain x.0 x.1) in
    Contains-nil x.0.1 (subst (λ z. Contains z x.0.1) e on)

only-is : (cs : List ℕ) (x c : ℕ) → is_only cs x ≡ true → is_in cs c ≡ true → c ≡ x
only-is [] x c o h = cc
only-is (d ∷ []) x c o h = ⊎_elim (λ e. sym (eqb-true d c e) ∙ eqb-true d x o) (λ (r : false ≡ true). cc) (or_cases (d == c) false h)
only-is (d ∷ e ∷ es) x c o h = cc

-- a station with one channel is on that channel if its set fits
on-only : (book : BookView) (set : List ℕ) (s c : ℕ) (f : Fits book set) → is_in set s ≡ true → is_only (domain_of book s) c ≡ true → Contains f.entries (entry s c)
on-only book set s c f h only =
    let x = Contains-from_map (λ y. y.0) f.entries s (subst (λ z. Contains z s) (sym f.stations) (is_in-gives set s h)) in
    let on : Contains (domain_of book s) x.0.1 = subst (λ z. Contains (domain_of book z) x.0.1) x.2 (f.clean.on_domain x.0 x.1) in
    let there : x.0.1 ≡ c = only-is (domain_of book s) c x.0.1 only (is_in-from (domain_of book s) x.0.1 on) in
    subst (Contains f.entries) (pair_same x.0 (entry s c) x.2 there) x.1

abbrev pair_of : ℕ → ℕ → ℕ → ℕ → Pair
pair_of f a g b = record { f = f; a = a; g = g; b = b }

pub same_pair-same : (p q : Pair) → same_pair p q ≡ true → p ≡ q
same_pair-same p q h =
    let outer = and_parts ((p.f == q.f) && (p.a == q.a)) ((p.g == q.g) && (p.b == q.b)) h in
    let first = and_parts (p.f == q.f) (p.a == q.a) outer.0 in
    let second = and_parts (p.g == q.g) (p.b == q.b) outer.1 in
    let e : p.f ≡ q.f = eqb-true p.f q.f first.0 in
    let f : p.a ≡ q.a = eqb-true p.a q.a first.1 in
    let g : p.g ≡ q.g = eqb-true p.g q.g second.0 in
    let k : p.b ≡ q.b = eqb-true p.b q.b second.1 in
    ap₂ (λ x y. pair_of x y p.g p.b) e f ∙ ap₂ (λ x y. pair_of q.f q.a x y) g k

has-pair : (ps : List Pair) (p : Pair) → list_any (λ q. same_pair q p) ps ≡ true → Contains ps p
has-pair ps p h =
    let q = list_any-gives (λ q. same_pair q p) ps h in
    subst (Contains ps) (same_pair-same q.0 p q.2) q.1

-- a set with a dead pair does not fit
dead-unfit : (book : BookView) (set : List ℕ) (p : Pair) → is_dead book set p ≡ true → Fits book set → ⊥
dead-unfit book set p h f =
    let outer = and_parts (list_any (λ q. same_pair q p) book.pairs) ((is_in set p.f && is_in set p.g) && (is_only (domain_of book p.f) p.a && is_only (domain_of book p.g) p.b)) h in
    let inner = and_parts (is_in set p.f && is_in set p.g) (is_only (domain_of book p.f) p.a && is_only (domain_of book p.g) p.b) outer.1 in
    let both = and_parts (is_in set p.f) (is_in set p.g) inner.0 in
    let only = and_parts (is_only (domain_of book p.f) p.a) (is_only (domain_of book p.g) p.b) inner.1 in
    let apart = f.clean.apart (p.f, p.a) (p.g, p.b) (on-only book set p.f p.a f both.0 only.0) (on-only book set p.g p.b f both.1 only.1) in
    both_ways (is_forbidden book (p.f, p.a) (p.g, p.b)) apart (pair-forbids book p (has-pair book.pairs p outer.0))

-- a set that is refuted does not fit
pub refuted-unfit : (book : BookView) (set : List ℕ) → IsInOrder book → Refutes book set → Fits book set → ⊥
refuted-unfit book set order (ByLog subset lines sub follows ends) f =
    let parts = and_parts (is_ascending subset) (list_all (is_in set) subset) sub in
    let g : Fits book subset = subset-fits book set subset parts.1 f in
    log-sound (model_of book subset g.entries) (variables_in book subset) (packing_formula book subset) 1 lines follows ends
    (packing-satisfies book subset g.entries order parts.0 (record { stations = g.stations; clean = g.clean }))
refuted-unfit book set order (ByPair p dead) f = dead-unfit book set p dead f
refuted-unfit book set order (ByStation s m e) f = bare-unfit book set s m e f
