-- An element at a place of a list is in the list; if the stations of entries ascend, a station has only one channel.
use Rattle.std.proofs.Common.{◌≡◌, ℕ, zero, suc, Bool, true, false, ◌||◌, ◌==◌, List, [], ◌∷◌, Some, refl, sym, ap, ◌∙◌, arith, eqb-true}
use Rattle.std.specs.Prelude.{slice_get}
use Rattle.std.proofs.lemmas.Bool.Decides.{nat_tests}
use Rattle.pack_defs.specs.ChannelMap.{IsAscending}
use Rattle.pack_defs.specs.Lists.{has_entry, is_in, same_entry}
use Rattle.pack_defs.proofs.Words.{one-entry, same_entry-itself}

or-true : (b : Bool) → (b || true) ≡ true
or-true true = refl
or-true false = refl

same-self : (n : ℕ) → (n == n) ≡ true
same-self n = grind (arith, nat_tests)

pub number-stands : (xs : List ℕ) (p n : ℕ) → slice_get xs p ≡ Some n → is_in xs n ≡ true
number-stands [] p n h = cc
number-stands (x ∷ xs) zero n h =
    let same : x ≡ n = cc in
    ap (λ (m : ℕ). (m == n) || is_in xs n) same ∙ ap (λ (b : Bool). b || is_in xs n) (same-self n)
number-stands (x ∷ xs) (suc p) n h = ap (λ (b : Bool). (x == n) || b) (number-stands xs p n h) ∙ or-true (x == n)

entry-stands : (es : List (ℕ × ℕ)) (p : ℕ) (x : ℕ × ℕ) → slice_get es p ≡ Some x → has_entry es x ≡ true
entry-stands [] p x h = cc
entry-stands (e ∷ es) zero x h =
    let same : e ≡ x = cc in
    ap (λ (y : ℕ × ℕ). same_entry y x || has_entry es x) same ∙ ap (λ (b : Bool). b || has_entry es x) (same_entry-itself x)
entry-stands (e ∷ es) (suc p) x h = ap (λ (b : Bool). same_entry e x || b) (entry-stands es p x h) ∙ or-true (same_entry e x)

-- The channel at the station's place decides whether the map has its entry.
pub channel-tells : (es : List (ℕ × ℕ)) (p s c d : ℕ) → IsAscending es → slice_get es p ≡ Some (s, d) → (d == c) ≡ has_entry es (s, c)
channel-tells es p s c d up h =
    let there = entry-stands es p (s, d) h in
    (elim (d == c) as (λ b. (d == c) ≡ b → b ≡ has_entry es (s, c)) [
      | true ↦ λ e. sym (entry-stands es p (s, c) (h ∙ ap (λ (n : ℕ). Some (s, n)) (eqb-true d c e)))
      | false ↦ λ e. (elim (has_entry es (s, c)) as (λ b. has_entry es (s, c) ≡ b → false ≡ b) [
        | true ↦ λ has.
            let same : c ≡ d = one-entry es s c d up has there in
            sym e ∙ (ap (λ (n : ℕ). d == n) same ∙ same-self d)
        | false ↦ λ lacks. refl
      ]) refl
    ]) refl
