-- For `signature`: the bits of a subset of a line are among the line's.
use Rattle.std.proofs.Common.{◌≡◌, ℕ, ◌≤◌, Bool, true, ◌||◌, List, [], ◌∷◌, sym, ap, ◌∙◌, subst, arith, eq-eqb}
use Rattle.std.specs.Prelude.{bit_and, bit_or}
use Rattle.std.specs.Int.{bit_at}
use Rattle.std.proofs.Math.Nat.{le_trans, le-max_left, le-max_right, max-le, min-eq_left}
use Rattle.std.proofs.lemmas.Nat.Bits.{bit_at_and, bit_at_or, same_from_bits}
use Rattle.std.proofs.lemmas.Bool.{and_parts}
use Rattle.clause_db.specs.declared.lit.Lit.{Lit}
use Rattle.clause_db.specs.Clause.{has_lit}
use Rattle.clause_db.proofs.Literals.{lit_cases, same_lit-apart}
use Rattle.cert_types.specs.Fresh.{is_subclause}
use Rattle.cert_types.specs.Signature.{bit_of, signed, signature, covers}

-- each bit of one number is a bit of the other
abbrev pub Among : ℕ → ℕ → Type 0
Among a b = (i : ℕ) → bit_at a i ≤ bit_at b i

pub among-both : (a b c : ℕ) → Among a b → Among b c → Among a c
among-both a b c f g = λ i. le_trans (f i) (g i)

pub among-first : (a b : ℕ) → Among a (bit_or a b)
among-first a b = λ i. subst (λ (n : ℕ). bit_at a i ≤ n) (sym (bit_at_or a b i)) (le-max_left (bit_at a i) (bit_at b i))

pub among-second : (a b : ℕ) → Among b (bit_or a b)
among-second a b = λ i. subst (λ (n : ℕ). bit_at b i ≤ n) (sym (bit_at_or a b i)) (le-max_right (bit_at a i) (bit_at b i))

pub among-all : (a b c : ℕ) → Among a c → Among b c → Among (bit_or a b) c
among-all a b c f g = λ i. subst (λ (n : ℕ). n ≤ bit_at c i) (sym (bit_at_or a b i)) (max-le (f i) (g i))

signed-keeps : (lits : List Lit) (bits : ℕ) → Among bits (signed bits lits)
signed-keeps [] bits = λ i. omega arith
signed-keeps (l ∷ ls) bits = among-both bits (bit_or bits (bit_of l)) (signed (bit_or bits (bit_of l)) ls) (among-first bits (bit_of l)) (signed-keeps ls (bit_or bits (bit_of l)))

-- these have a literal: as the first one or among the others
pub has-parts : (m : Lit) (ms : List Lit) (l : Lit) (P : Type 0) → has_lit (m ∷ ms) l ≡ true → (l ≡ m → P) → (has_lit ms l ≡ true → P) → P
has-parts m ms l P h first rest = lit_cases l m P first (λ n. rest (ap (λ (b : Bool). b || has_lit ms l) (sym (same_lit-apart l m n)) ∙ h))

signed-has : (lits : List Lit) (l : Lit) (bits : ℕ) → has_lit lits l ≡ true → Among (bit_of l) (signed bits lits)
signed-has [] l bits h = cc
signed-has (m ∷ ms) l bits h =
    let more : ℕ = bit_or bits (bit_of m) in
    has-parts m ms l (Among (bit_of l) (signed more ms)) h
    (λ e. subst (λ (z : Lit). Among (bit_of z) (signed more ms)) (sym e) (among-both (bit_of m) more (signed more ms) (among-second bits (bit_of m)) (signed-keeps ms more)))
    (λ r. signed-has ms l more r)

signed-among : (lits clause : List Lit) (bits : ℕ) → Among bits (signature lits) → is_subclause lits clause ≡ true → Among (signed bits clause) (signature lits)
signed-among lits [] bits h s = h
signed-among lits (l ∷ ls) bits h s =
    let parts = and_parts (has_lit lits l) (is_subclause lits ls) s in
    signed-among lits ls (bit_or bits (bit_of l)) (among-all bits (bit_of l) (signature lits) h (signed-has lits l 0 parts.0)) parts.1

pub among-covers : (these bits : ℕ) → Among bits these → covers these bits ≡ true
among-covers these bits h = eq-eqb (bit_and bits these) bits (same_from_bits (bit_and bits these) bits (λ i. bit_at_and bits these i ∙ min-eq_left (h i)))

-- the bits of a subset of the literals are among theirs
pub within-covers : (lits clause : List Lit) → is_subclause lits clause ≡ true → covers (signature lits) (signature clause) ≡ true
within-covers lits clause s = among-covers (signature lits) (signature clause) (signed-among lits clause 0 (signed-keeps lits 0) s)
