-- For `laws`: the generated domain file is read back, with the channels 14 to 17 for each station.
use Rattle.std.proofs.Common.{◌≡◌, ◌∙◌, ◌<◌, ◌≤◌, ◌+◌, ◌==◌, ◌∷◌, ◌++◌, [], ℕ, zero, suc, Bool, List, Some, None, true, false, not, nat_le, find, length, map, decimal, ne_eqb, eq-eqb, inl, inr, refl, sym, ap, arith}
use Rattle.std.specs.Prelude.{Result, Ok, codes}
use Rattle.std.specs.List.{flat_map, range_with_len}
use Rattle.std.specs.Option.{is_some}
use Rattle.std.proofs.lemmas.Bool.{cases_Bool, lt-leb, lt-ltb, or_right}
use Rattle.std.proofs.lemmas.List.FromFn.{length-map-range_with_len}
use Rattle.pack_defs.specs.Lists.{is_in}
use Rattle.constraint_files.specs.Domains.{add_domain_row, channels_of, channels_to_keep, domain_from, domain_with_channels, domain_row, domains_of, put_domain, with_domain}
use Rattle.constraint_files.specs.Field.{number, numbers}
use Rattle.constraint_files.specs.Records.{after_lines, after_records, lines_of}
use Rattle.constraint_files.specs.declared.error.RowWhy.{RowWhy}
use Rattle.scenario_make.specs.GeneratedFiles.{key_line, generated_domain, generated_domain_line, generated_domains, generated_facilities}
use Rattle.scenario_make.proofs.LineReadings.{AreSmall, IsKey, domain-key, line-first, line-record, number-again, numbers-again}
use Rattle.scenario_make.proofs.RangeLemmas.{map-more}

-- the state after the first line of a text
pub line-adds : {S : Type 0} (add : S → List (List ℕ) → Result S RowWhy) (state next : S) (line : ℕ) (key : List ℕ) (n : ℕ) (ns rest : List ℕ) → IsKey key → AreSmall (n ∷ ns)
    → add state (key ∷ map decimal (n ∷ ns)) ≡ Ok next
    → after_lines add state line (lines_of (key_line key (n ∷ ns) ++ rest)) ≡ after_lines add next (line + 1) (lines_of rest)
unfolding after_lines after_records
line-adds add state next line key n ns rest k h made =
    rw (line-first key (n ∷ ns) rest k h, line-record key n ns k h, made) refl

-- ---- a row

from-fields : (facility : List ℕ) (channels : List (List ℕ)) (s : ℕ) (named : List ℕ) → number facility ≡ Some s → numbers channels ≡ Some named → domain_from facility channels ≡ domain_with_channels s named
from-fields facility channels s named a b = rw (a, b) refl

row-is : (s : ℕ) → s ≤ 4294967295 → domain_row (codes "DOMAIN" ∷ map decimal (s ∷ 14 ∷ 15 ∷ 16 ∷ 17 ∷ [])) ≡ Ok (generated_domain s)
unfolding domain_row channels_to_keep
row-is s h =
    from-fields (decimal s) (map decimal (14 ∷ 15 ∷ 16 ∷ 17 ∷ [])) s (14 ∷ 15 ∷ 16 ∷ 17 ∷ []) (number-again s h)
    (numbers-again (14 ∷ 15 ∷ 16 ∷ 17 ∷ []) (omega arith, (omega arith, (omega arith, (omega arith, tt)))))

no-row : (a n s : ℕ) → a + n ≤ s → channels_of (map generated_domain (range_with_len a n)) s ≡ None
no-row a zero s h = refl
no-row a (suc n) s h =
    let other : a ≡ s → ⊥ = λ e. absurd (omega (arith, h, e)) in
    rw (ne_eqb a s other) (no-row (a + 1) n s (omega (arith, h)))

put-last : (a n s : ℕ) → a + n ≤ s → with_domain (generated_domain s) (map generated_domain (range_with_len a n)) ≡ map generated_domain (range_with_len a n) ++ generated_domain s ∷ []
put-last a zero s h = refl
put-last a (suc n) s h =
    rw (lt-ltb a s (omega (arith, h))) (ap (λ ds. generated_domain a ∷ ds) (put-last (a + 1) n s (omega (arith, h))))

put-next : (n s : ℕ) → n < 65536 → 1 + n ≡ s → put_domain (map generated_domain (range_with_len 1 n)) (generated_domain s) ≡ Ok (map generated_domain (range_with_len 1 (n + 1)))
put-next n s few e =
    let many = length-map-range_with_len generated_domain 1 n in
    let room : nat_le 65536 (length (map generated_domain (range_with_len 1 n))) ≡ false = lt-leb 65536 (length (map generated_domain (range_with_len 1 n))) (omega (arith, few, many)) in
    rw (no-row 1 n s (omega (arith, e)), room, put-last 1 n s (omega (arith, e)), map-more generated_domain 1 n s e) refl

row-adds : (n s : ℕ) → n < 65536 → 1 + n ≡ s → add_domain_row (map generated_domain (range_with_len 1 n)) (codes "DOMAIN" ∷ map decimal (s ∷ 14 ∷ 15 ∷ 16 ∷ 17 ∷ [])) ≡ Ok (map generated_domain (range_with_len 1 (n + 1)))
row-adds n s few e = rw (row-is s (omega (arith, few, e)), put-next n s few e) refl

-- ---- the file

lines-add : (n i line : ℕ) → i + n ≤ 65536 → after_lines add_domain_row (map generated_domain (range_with_len 1 i)) line (lines_of (flat_map generated_domain_line (range_with_len (1 + i) n))) ≡ Ok (map generated_domain (range_with_len 1 (i + n)))
unfolding after_lines lines_of
lines-add zero i line h = let e : i ≡ i + 0 = omega arith in ap (λ k. Ok (map generated_domain (range_with_len 1 k))) e
lines-add (suc n) i line h =
    let s = 1 + i in
    let small : AreSmall (s ∷ 14 ∷ 15 ∷ 16 ∷ 17 ∷ []) = (omega (arith, h), (omega arith, (omega arith, (omega arith, (omega arith, tt))))) in
    let next : 1 + (i + 1) ≡ 1 + i + 1 = omega arith in
    let all : i + 1 + n ≡ i + suc n = omega arith in
    line-adds add_domain_row (map generated_domain (range_with_len 1 i)) (map generated_domain (range_with_len 1 (i + 1))) line (codes "DOMAIN") s (14 ∷ 15 ∷ 16 ∷ 17 ∷ []) (flat_map generated_domain_line (range_with_len (1 + i + 1) n)) domain-key small (row-adds i s (omega (arith, h)) refl)
    ∙ (ap (λ k. after_lines add_domain_row (map generated_domain (range_with_len 1 (i + 1))) (line + 1) (lines_of (flat_map generated_domain_line (range_with_len k n)))) (sym next)
    ∙ (lines-add n (i + 1) (line + 1) (omega (arith, h)) ∙ ap (λ k. Ok (map generated_domain (range_with_len 1 k))) all))

pub domains-read : (size : ℕ) → size ≤ 4096 → domains_of (generated_domains size) ≡ Ok (map generated_domain (generated_facilities size))
unfolding domains_of
domains-read size h =
    let all : 0 + size ≡ size = omega arith in
    lines-add size 0 1 (omega (arith, h)) ∙ ap (λ k. Ok (map generated_domain (range_with_len 1 k))) all

-- ---- each station has a row

pub has-row : (xs : List ℕ) (s : ℕ) → is_in xs s ≡ true → channels_of (map generated_domain xs) s ≡ Some (14 ∷ 15 ∷ 16 ∷ 17 ∷ [])
has-row [] s h = cc h
has-row (x ∷ xs) s h = elim (cases_Bool (x == s)) [
  | inl t ↦ rw t refl
  | inr f ↦ rw f (has-row xs s (rw f at h))
]

none-found : (p : ℕ → Bool) (xs : List ℕ) → ((s : ℕ) → is_in xs s ≡ true → p s ≡ false) → find p xs ≡ None
none-found p [] h = refl
none-found p (x ∷ xs) h =
    let same : (x == x) ≡ true = eq-eqb x x refl in
    let here : is_in (x ∷ xs) x ≡ true = rw same refl in
    rw (h x here) (none-found p xs (λ s i. h s (or_right (x == s) (is_in xs s) i)))

pub none-missing : (xs : List ℕ) → find (λ s. not (is_some (channels_of (map generated_domain xs) s))) xs ≡ None
none-missing xs = none-found (λ s. not (is_some (channels_of (map generated_domain xs) s))) xs (λ s i. ap (λ o. not (is_some o)) (has-row xs s i))
