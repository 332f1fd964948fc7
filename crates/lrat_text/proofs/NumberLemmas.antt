-- Numbers that are written are read back.
use Rattle.std.proofs.Common.{◌≡◌, ◌<◌, ◌≤◌, ◌^◌, ◌∷◌, [], ℕ, List, Bool, true, false, Some, refl, arith, ne_eqb, decimal}
use Rattle.std.specs.Char.{is_ascii_digit}
use Rattle.std.specs.Str.{all_ascii_digits}
use Rattle.std.specs.Str.Parse.{digits_value}
use Rattle.std.proofs.lemmas.Bool.{and_parts, leb-true, le-leb}
use Rattle.std.proofs.lemmas.Fmt.{decimal_nonempty, digits_decimal, digits_value-decimal}
use Rattle.pack_defs.specs.Lists.{is_empty}
use Rattle.clause_db.specs.declared.lit.Lit.{Lit}
use Rattle.lrat_text.specs.declared.field.Field.TheVariants.{End, Number}
use Rattle.lrat_text.specs.Write.{greatest, lit_text, zero_field, IsLitSpelled}
use Rattle.lrat_text.specs.Read.{natural, field_of, signed_of}
use Rattle.lrat_text.proofs.LineLemmas.{IsWord, IsField}
use Rattle.pack_defs.proofs.Words.{not-empty}
use Rattle.pack_defs.proofs.Digits.{own-numerals}

pub all-digits : (n : ℕ) → n < 2 ^ 64 → all_ascii_digits (decimal n) ≡ true
all-digits n h = digits_decimal own-numerals n h

pub value-again : (n : ℕ) → n < 2 ^ 64 → digits_value 10 (decimal n) ≡ n
value-again n h = digits_value-decimal own-numerals n h

pub decimal-not-empty : (n : ℕ) → n < 2 ^ 64 → is_empty (decimal n) ≡ false
decimal-not-empty n h = not-empty (decimal n) (decimal_nonempty n h)

digit-word : (c : ℕ) → is_ascii_digit c ≡ true → 32 < c
digit-word c h = let low = leb-true 48 c (and_parts _ _ h).0 in omega (arith, low)

digits-word : (ds : List ℕ) → all_ascii_digits ds ≡ true → IsWord ds
digits-word [] h = tt
digits-word (c ∷ ds) h = let parts = and_parts _ _ h in (digit-word c parts.0, digits-word ds parts.1)

pub decimal-field : (n : ℕ) → n < 2 ^ 64 → IsField (decimal n)
decimal-field n h = (digits-word (decimal n) (all-digits n h), decimal-not-empty n h)

pub natural-again : (most n : ℕ) → n ≤ most → n < 2 ^ 64 → natural most (decimal n) ≡ Some n
unfolding natural
natural-again most n le h = rw (decimal-not-empty n h, all-digits n h, value-again n h, le-leb n most le) refl

-- Digits are read without a sign.
pub digits-signed : (ds : List ℕ) → all_ascii_digits ds ≡ true → is_empty ds ≡ false → field_of ds ≡ signed_of true (natural greatest ds)
unfolding field_of
digits-signed [] h e = absurd cc
digits-signed (c ∷ ds) h e =
    let low = leb-true 48 c (and_parts _ _ (and_parts _ _ h).0).0 in
    rw (ne_eqb c 45 (λ q. absurd (omega (arith, low, q)))) refl

pub number-again : (n : ℕ) → 1 ≤ n → n ≤ greatest → field_of (decimal n) ≡ Some (Number (record { var = n; positive = true }))
number-again n low le =
    let h : n < 2 ^ 64 = omega arith in
    rw (digits-signed (decimal n) (all-digits n h) (decimal-not-empty n h), natural-again greatest n le h, ne_eqb n 0 (λ e. absurd (omega (arith, e)))) refl

pub zero-again : field_of zero_field ≡ Some End
unfolding field_of natural
zero-again = refl

pub lit-again : (l : Lit) → IsLitSpelled l → field_of (lit_text l) ≡ Some (Number l)
unfolding field_of
lit-again l h = go l.positive refl
  where
    small : l.var < 2 ^ 64
    small = omega (arith, h.1)

    go : (b : Bool) → l.positive ≡ b → field_of (lit_text l) ≡ Some (Number l)
    go true e = rw (e, number-again l.var h.0 h.1) (rw (← e) refl)
    go false e = rw (e, natural-again greatest l.var h.1 small, ne_eqb l.var 0 (λ q. absurd (omega (arith, h.0, q)))) (rw (← e) refl)

pub lit-field : (l : Lit) → IsLitSpelled l → IsField (lit_text l)
lit-field l h = go l.positive refl
  where
    small : l.var < 2 ^ 64
    small = omega (arith, h.1)

    go : (b : Bool) → l.positive ≡ b → IsField (lit_text l)
    go true e = rw e (decimal-field l.var small)
    go false e = rw e ((omega arith, (decimal-field l.var small).0), refl)
