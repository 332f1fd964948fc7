-- The tables of domains and pairs, as lists.
use Rattle.std.proofs.Common.{◌≡◌, ◌<◌, ◌∷◌, [], ℕ, List, true, false, Ordering, refl, sym, ap, arith, map, eqb, ltb}
use Rattle.std.specs.declared.cmp.Ordering.TheVariants.{Less, Equal, Greater}
use Rattle.std.specs.Option.{is_some}
use Rattle.std.specs.Ordering.{nat_cmp}
use Rattle.std.specs.Map.{lookup}
use Rattle.std.specs.BTreeMap.{insert_entry, is_at}
use Rattle.std.proofs.lemmas.Bool.{eq-eqb, ne_eqb, le-ltb, lt-ltb}
use Rattle.std.proofs.lemmas.Cmp.{by_ranked, ranked}
use Rattle.pack_defs.specs.declared.domain.Domain.{Domain}
use Rattle.constraint_files.specs.Domains.{channels_of, with_domain}

-- An entry of the table as a domain.
abbrev pub as_domain : ℕ × List ℕ → Domain
as_domain e = record { station = e.0; channels = e.1 }

-- The station of an entry is s, or comes after s, or before s.
abbrev Ranks : ℕ → ℕ → Ordering → Type 0
Ranks s x Less = (eqb x s ≡ false) × (ltb x s ≡ false)
Ranks s x Equal = (eqb x s ≡ true)
Ranks s x Greater = (eqb x s ≡ false) × (ltb x s ≡ true)

ranks : (s x : ℕ) → Ranks s x (nat_cmp s x)
ranks s x = by_ranked (s < x) (s ≡ x) (x < s) (nat_cmp s x) (ranked s x (nat_cmp s x) refl)
    (λ is below. rw is (ne_eqb x s (λ e. absurd (omega arith)), le-ltb x s (omega arith)))
    (λ is same. rw is (eq-eqb x s (sym same)))
    (λ is above. rw is (ne_eqb x s (λ e. absurd (omega arith)), lt-ltb x s above))

-- A station has a row exactly if the table has its entry.
pub has-row : (es : List (ℕ × List ℕ)) (s : ℕ) → is_some (channels_of (map as_domain es) s) ≡ is_some (lookup (is_at (nat_cmp s)) es)
has-row [] s = refl
has-row (e ∷ es) s = go (nat_cmp s e.0) refl (ranks s e.0) (has-row es s)
  where
    go : (o : Ordering) → nat_cmp s e.0 ≡ o → Ranks s e.0 o → is_some (channels_of (map as_domain es) s) ≡ is_some (lookup (is_at (nat_cmp s)) es)
        → is_some (channels_of (map as_domain (e ∷ es)) s) ≡ is_some (lookup (is_at (nat_cmp s)) (e ∷ es))
    go Less is r later = rw (is, r.0) later
    go Equal is r later = rw (is, r) refl
    go Greater is r later = rw (is, r.0) later

-- A new entry goes where a new domain goes.
pub with-row : (es : List (ℕ × List ℕ)) (s : ℕ) (v : List ℕ) → is_some (lookup (is_at (nat_cmp s)) es) ≡ false
    → map as_domain (insert_entry nat_cmp es s v) ≡ with_domain (as_domain (s, v)) (map as_domain es)
with-row [] s v none = refl
with-row (e ∷ es) s v none = go (nat_cmp s e.0) refl (ranks s e.0) none (with-row es s v)
  where
    go : (o : Ordering) → nat_cmp s e.0 ≡ o → Ranks s e.0 o → is_some (lookup (is_at (nat_cmp s)) (e ∷ es)) ≡ false
        → (is_some (lookup (is_at (nat_cmp s)) es) ≡ false → map as_domain (insert_entry nat_cmp es s v) ≡ with_domain (as_domain (s, v)) (map as_domain es))
        → map as_domain (insert_entry nat_cmp (e ∷ es) s v) ≡ with_domain (as_domain (s, v)) (map as_domain (e ∷ es))
    go Less is r gone later = rw (is, r.1) refl
    go Equal is r gone later = cc (rw is at gone)
    go Greater is r gone later = rw (is, r.1) (ap (λ (ds : List Domain). as_domain e ∷ ds) (later (rw is at gone)))
