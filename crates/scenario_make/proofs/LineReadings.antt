-- For `laws`: a line of the two constraint files is read back as one record with the key and the numbers.
use Rattle.std.proofs.Common.{◌≡◌, ◌∙◌, ◌<◌, ◌≤◌, ◌∷◌, ◌++◌, [], ℕ, Bool, List, Some, true, false, not, filter, length, map, reverse, decimal, ne_eqb, refl, sym, ap, subst, arith, append_assoc}
use Rattle.std.specs.Prelude.{codes}
use Rattle.std.specs.List.{AllByRecursion}
use Rattle.std.specs.Str.{all_ascii_digits}
use Rattle.std.specs.Str.Parse.{digits_value}
use Rattle.std.proofs.lemmas.Bool.{and_parts}
use Rattle.std.proofs.lemmas.Fmt.{decimal_nonempty, digits_decimal, digits_value-decimal}
use Rattle.std.proofs.lemmas.List.{append-nil, reverse-append, reverse-reverse}
use Rattle.csv.specs.Reading.{default_config, records, strip_bom}
use Rattle.csv.specs.declared.parser.State.TheVariants as st
use Rattle.pack_defs.specs.Lists.{is_empty}
use Rattle.pack_defs.proofs.Digits.{digit-value, own-numerals}
use Rattle.constraint_files.specs.Field.{number, numbers}
use Rattle.constraint_files.specs.Records.{is_blank, kept_fields, line_records, lines_of, trimmed, without_leading, without_trailing}
use Rattle.constraint_files.proofs.CsvLemmas.{records-rows, rows, rows_from}
use Rattle.constraint_files.proofs.NumberLemmas.{all-digits}
use Rattle.scenario_make.specs.GeneratedFiles.{comma_prefixed, key_line}
use Rattle.pack_defs.proofs.Words.{not-empty}

-- ---- numbers

-- numbers that a field may have
abbrev pub AreSmall : List ℕ → Type 0
AreSmall = AllByRecursion (λ n. n ≤ 4294967295)

digits : (n : ℕ) → n ≤ 4294967295 → all_ascii_digits (decimal n) ≡ true
digits n h = digits_decimal own-numerals n (omega (arith, h))

value : (n : ℕ) → n ≤ 4294967295 → digits_value 10 (decimal n) ≡ n
value n h = digits_value-decimal own-numerals n (omega (arith, h))

some-digit : (n : ℕ) → n ≤ 4294967295 → 0 < length (decimal n)
some-digit n h = decimal_nonempty n (omega (arith, h))

pub number-again : (n : ℕ) → n ≤ 4294967295 → number (decimal n) ≡ Some n
number-again n h =
    all-digits (decimal n) (some-digit n h) (digits n h) (omega (arith, h, value n h)) ∙ ap Some (value n h)

pub numbers-again : (ns : List ℕ) → AreSmall ns → numbers (map decimal ns) ≡ Some ns
unfolding numbers
numbers-again [] h = refl
numbers-again (n ∷ ns) h = rw (number-again n h.0, numbers-again ns h.1) refl

-- ---- fields without blanks around them

leading-keeps : {A : Type 0} (p : A → Bool) (xs : List A) → AllByRecursion (λ x. p x ≡ false) xs → without_leading p xs ≡ xs
leading-keeps p [] h = refl
leading-keeps p (x ∷ xs) h = rw h.0 refl

all-append : {A : Type 0} (P : A → Type 0) (xs ys : List A) → AllByRecursion P xs → AllByRecursion P ys → AllByRecursion P (xs ++ ys)
all-append P [] ys hx hy = hy
all-append P (x ∷ xs) ys hx hy = (hx.0, all-append P xs ys hx.1 hy)

all-reverse : {A : Type 0} (P : A → Type 0) (xs : List A) → AllByRecursion P xs → AllByRecursion P (reverse xs)
all-reverse P [] h = tt
all-reverse P (x ∷ xs) h =
    subst (AllByRecursion P) (sym (reverse-append (x ∷ []) xs)) (all-append P (reverse xs) (x ∷ []) (all-reverse P xs h.1) (h.0, tt))

trailing-keeps : {A : Type 0} (p : A → Bool) (xs : List A) → AllByRecursion (λ x. p x ≡ false) xs → without_trailing p xs ≡ xs
unfolding without_trailing
trailing-keeps p xs h = rw (leading-keeps p (reverse xs) (all-reverse (λ x. p x ≡ false) xs h)) (reverse-reverse xs)

no-blank : (ds : List ℕ) → all_ascii_digits ds ≡ true → AllByRecursion (λ c. is_blank c ≡ false) ds
no-blank [] h = tt
no-blank (c ∷ ds) h =
    let parts = and_parts _ _ h in
    let d = digit-value c parts.0 in
    let space : c ≡ 32 → ⊥ = λ e. absurd (omega (arith, d.0, e)) in
    let tab : c ≡ 9 → ⊥ = λ e. absurd (omega (arith, d.0, e)) in
    (rw (ne_eqb c 32 space, ne_eqb c 9 tab) refl, no-blank ds parts.1)

trimmed-digits : (ds : List ℕ) → all_ascii_digits ds ≡ true → trimmed ds ≡ ds
trimmed-digits ds h =
    let plain = no-blank ds h in
    rw (leading-keeps is_blank ds plain) (trailing-keeps is_blank ds plain)

trimmed-numbers : (ns : List ℕ) → AreSmall ns → map trimmed (map decimal ns) ≡ map decimal ns
trimmed-numbers [] h = refl
trimmed-numbers (n ∷ ns) h = rw (trimmed-digits (decimal n) (digits n h.0), trimmed-numbers ns h.1) refl

none-empty : (ns : List ℕ) → AreSmall ns → AllByRecursion (λ f. is_empty f ≡ false) (map decimal ns)
none-empty [] h = tt
none-empty (n ∷ ns) h = (not-empty (decimal n) (some-digit n h.0), none-empty ns h.1)

-- ---- one record

-- a key: what the readers make of a line that begins with it
pub record IsKey (key : List ℕ) : Type 0 where
  pub begins : (xs : List ℕ) → rows (key ++ xs) ≡ rows_from st.InField [] key xs
  pub unmarked : (xs : List ℕ) → strip_bom (key ++ 44 ∷ xs) ≡ key ++ 44 ∷ xs
  pub plain : AllByRecursion (λ c. 13 < c) key
  pub trim : trimmed key ≡ key
  pub some : is_empty key ≡ false

kept : (key : List ℕ) (ns : List ℕ) → IsKey key → AreSmall ns → kept_fields (key ∷ map decimal ns) ≡ key ∷ map decimal ns
kept key ns k h =
    rw (k.trim, trimmed-numbers ns h) (trailing-keeps is_empty (key ∷ map decimal ns) (k.some, none-empty ns h))

-- digits in a field
copies : (fields : List (List ℕ)) (field ds rest : List ℕ) → all_ascii_digits ds ≡ true → rows_from st.InField fields field (ds ++ rest) ≡ rows_from st.InField fields (field ++ ds) rest
unfolding rows_from
copies fields field [] rest h = ap (λ f. rows_from st.InField fields f rest) (sym (append-nil field))
copies fields field (c ∷ ds) rest h =
    let parts = and_parts _ _ h in
    let d = digit-value c parts.0 in
    let comma : c ≡ 44 → ⊥ = λ e. absurd (omega (arith, d.0, e)) in
    let return : c ≡ 13 → ⊥ = λ e. absurd (omega (arith, d.0, e)) in
    let feed : c ≡ 10 → ⊥ = λ e. absurd (omega (arith, d.0, e)) in
    rw (ne_eqb c 44 comma, ne_eqb c 13 return, ne_eqb c 10 feed)
    (copies fields (field ++ c ∷ []) ds rest parts.1 ∙ ap (λ f. rows_from st.InField fields f rest) (append_assoc field (c ∷ []) ds))

-- digits that begin a field
starts : (fields : List (List ℕ)) (ds rest : List ℕ) → all_ascii_digits ds ≡ true → 0 < length ds → rows_from st.StartField fields [] (ds ++ rest) ≡ rows_from st.InField fields ds rest
unfolding rows_from
starts fields [] rest h l = absurd (omega arith)
starts fields (c ∷ ds) rest h l =
    let parts = and_parts _ _ h in
    let d = digit-value c parts.0 in
    let quote : c ≡ 34 → ⊥ = λ e. absurd (omega (arith, d.0, e)) in
    let comma : c ≡ 44 → ⊥ = λ e. absurd (omega (arith, d.0, e)) in
    let return : c ≡ 13 → ⊥ = λ e. absurd (omega (arith, d.0, e)) in
    let feed : c ≡ 10 → ⊥ = λ e. absurd (omega (arith, d.0, e)) in
    rw (ne_eqb c 34 quote, ne_eqb c 44 comma, ne_eqb c 13 return, ne_eqb c 10 feed) (copies fields (c ∷ []) ds rest parts.1)

-- a comma ends a field
at-comma : (fields : List (List ℕ)) (field rest : List ℕ) → rows_from st.InField fields field (44 ∷ rest) ≡ rows_from st.StartField (fields ++ field ∷ []) [] rest
unfolding rows_from
at-comma fields field rest = refl

at-end : (fields : List (List ℕ)) (field : List ℕ) → rows_from st.InField fields field [] ≡ (fields ++ field ∷ []) ∷ []
unfolding rows_from
at-end fields field = refl

one-record : (fields : List (List ℕ)) (field : List ℕ) (ns : List ℕ) → AreSmall ns → rows_from st.InField fields field (comma_prefixed ns) ≡ (fields ++ field ∷ map decimal ns) ∷ []
one-record fields field [] h = at-end fields field
one-record fields field (n ∷ ns) h =
    at-comma fields field (decimal n ++ comma_prefixed ns)
    ∙ (starts (fields ++ field ∷ []) (decimal n) (comma_prefixed ns) (digits n h.0) (some-digit n h.0)
    ∙ (one-record (fields ++ field ∷ []) (decimal n) ns h.1
    ∙ ap (λ r. r ∷ []) (append_assoc fields (field ∷ []) (decimal n ∷ map decimal ns))))

-- the one record of a line
pub line-record : (key : List ℕ) (n : ℕ) (ns : List ℕ) → IsKey key → AreSmall (n ∷ ns) → line_records (key ++ comma_prefixed (n ∷ ns)) ≡ (key ∷ map decimal (n ∷ ns)) ∷ []
line-record key n ns k h =
    let raw : records default_config (strip_bom (key ++ comma_prefixed (n ∷ ns))) ≡ (key ∷ map decimal (n ∷ ns)) ∷ [] =
    ap (records default_config) (k.unmarked (decimal n ++ comma_prefixed ns))
    ∙ (records-rows (key ++ comma_prefixed (n ∷ ns)) ∙ (k.begins (comma_prefixed (n ∷ ns)) ∙ one-record [] key (n ∷ ns) h)) in
    ap (λ rs. filter (λ (r : List (List ℕ)). not (is_empty r)) (map kept_fields rs)) raw
    ∙ ap (λ r. filter (λ (q : List (List ℕ)). not (is_empty q)) (r ∷ [])) (kept key (n ∷ ns) k h)

-- ---- one line

abbrev IsPlainLine : List ℕ → Type 0
IsPlainLine = AllByRecursion (λ c. 13 < c)

digits-plain : (ds : List ℕ) → all_ascii_digits ds ≡ true → IsPlainLine ds
digits-plain [] h = tt
digits-plain (c ∷ ds) h =
    let parts = and_parts _ _ h in
    let d = digit-value c parts.0 in
    (omega (arith, d.0), digits-plain ds parts.1)

commas-plain : (ns : List ℕ) → AreSmall ns → IsPlainLine (comma_prefixed ns)
commas-plain [] h = tt
commas-plain (n ∷ ns) h =
    (omega arith, all-append (λ c. 13 < c) (decimal n) (comma_prefixed ns) (digits-plain (decimal n) (digits n h.0)) (commas-plain ns h.1))

first-line : (line rest : List ℕ) → IsPlainLine line → lines_of (line ++ 10 ∷ rest) ≡ line ∷ lines_of rest
unfolding lines_of
first-line [] rest h = refl
first-line (c ∷ line) rest h =
    let feed : c ≡ 10 → ⊥ = λ e. absurd (omega (arith, h.0, e)) in
    rw (ne_eqb c 10 feed, first-line line rest h.1) refl

-- a line before the rest of a text
pub line-first : (key ns rest : List ℕ) → IsKey key → AreSmall ns → lines_of (key_line key ns ++ rest) ≡ (key ++ comma_prefixed ns) ∷ lines_of rest
line-first key ns rest k h =
    let parts : key_line key ns ++ rest ≡ (key ++ comma_prefixed ns) ++ 10 ∷ rest =
    append_assoc key (comma_prefixed ns ++ 10 ∷ []) rest
    ∙ (ap (λ t. key ++ t) (append_assoc (comma_prefixed ns) (10 ∷ []) rest) ∙ sym (append_assoc key (comma_prefixed ns) (10 ∷ rest))) in
    ap lines_of parts ∙ first-line (key ++ comma_prefixed ns) rest (all-append (λ c. 13 < c) key (comma_prefixed ns) k.plain (commas-plain ns h))

-- ---- the keys

pub domain-key : IsKey (codes "DOMAIN")
unfolding rows_from strip_bom without_trailing
domain-key = record {
  begins = λ xs. refl;
  unmarked = λ xs. refl;
  plain = (omega arith, (omega arith, (omega arith, (omega arith, (omega arith, (omega arith, tt))))));
  trim = refl;
  some = refl;
}

pub same-key : IsKey (codes "CO")
unfolding rows_from strip_bom without_trailing
same-key = record {
  begins = λ xs. refl;
  unmarked = λ xs. refl;
  plain = (omega arith, (omega arith, tt));
  trim = refl;
  some = refl;
}

pub adjacent-key : IsKey (codes "ADJ+1")
unfolding rows_from strip_bom without_trailing
adjacent-key = record {
  begins = λ xs. refl;
  unmarked = λ xs. refl;
  plain = (omega arith, (omega arith, (omega arith, (omega arith, (omega arith, tt)))));
  trim = refl;
  some = refl;
}
