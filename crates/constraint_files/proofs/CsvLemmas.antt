-- The records of bytes without quotes are those of their lines, one after the other: after a line feed the machine of `csv` is at the
-- start of a record.
use Rattle.std.proofs.Common.{◌≡◌, ◌∙◌, ◌<◌, ◌+◌, ◌∷◌, ◌++◌, [], ℕ, List, Option, Some, None, true, false, not, cond, refl, ap, arith, zero, suc, length, eqb, inl, inr}
use Rattle.std.specs.List.{flat_map, list_all}
use Rattle.std.proofs.lemmas.Bool.{and_parts, cases_Bool, eqb-true, not-true}
use Rattle.std.proofs.lemmas.List.{append-nil}
use Rattle.csv.specs.Machine.{Read, next_record, ends_at_end, in_field, is_end, start_field, start_record, step, fields_after, field_after}
use Rattle.csv.specs.Reading.{default_config, records, records_from, records_next}
use Rattle.csv.specs.declared.parser.State.{State}
use Rattle.csv.specs.declared.parser.State.TheVariants as st
use Rattle.constraint_files.specs.Records.{lines_of, prepend_to_first}
use Rattle.constraint_files.proofs.WholeLineLemmas.{reads-end, reads-less}

-- The records of some bytes from a state, with the current fields and the bytes of the current field.
unfoldable pub rows_from : State → List (List ℕ) → List ℕ → List ℕ → List (List (List ℕ))
rows_from s fields field [] = cond (ends_at_end s) ((fields ++ (field ∷ [])) ∷ []) []
rows_from s fields field (c ∷ rest) =
    cond (is_end (step default_config s c).1)
    (fields_after (step default_config s c).1 fields field ∷ rows_from (step default_config s c).0 [] [] rest)
    (rows_from (step default_config s c).0 (fields_after (step default_config s c).1 fields field) (field_after (step default_config s c).1 c field) rest)

-- The records of some bytes.
abbrev pub rows : List ℕ → List (List (List ℕ))
rows bytes = rows_from st.StartRecord [] [] bytes

pub rows-next : (s : State) (fields : List (List ℕ)) (field xs : List ℕ)
    → rows_from s fields field xs ≡ records_next (λ t ys. rows_from t [] [] ys) (next_record default_config s fields field xs)
unfolding rows_from next_record
rows-next s fields field [] = elim (cases_Bool (ends_at_end s)) [
  | inl t ↦ rw t refl
  | inr f ↦ rw f refl
]
rows-next s fields field (c ∷ rest) = elim (cases_Bool (is_end (step default_config s c).1)) [
  | inl t ↦ rw t refl
  | inr f ↦ rw f (rows-next (step default_config s c).0 (fields_after (step default_config s c).1 fields field) (field_after (step default_config s c).1 c field) rest)
]

rows-none : (m : ℕ) → records_from default_config m st.StartRecord [] ≡ rows []
unfolding records_from next_record rows_from
rows-none zero = refl
rows-none (suc m) = refl

-- A sufficient bound on the number of records yields all records.
rows-all : (n : ℕ) (s : State) (xs : List ℕ) → length xs < n → records_from default_config n s xs ≡ rows_from s [] [] xs
unfolding records_from
rows-all zero s xs h = absurd (omega arith)
rows-all (suc n) s [] h = rw (rows-next s [] [] []) (go (next_record default_config s [] [] []) (λ p e. reads-end default_config s p e))
  where
    go : (o : Option Read) → ((p : Read) → o ≡ Some p → (p.1 ≡ st.StartRecord) × (p.2 ≡ []))
        → records_next (records_from default_config n) o ≡ records_next (λ t ys. rows_from t [] [] ys) o
    go None end = refl
    go (Some p) end = rw ((end p refl).0, (end p refl).1) (ap (λ (t : List (List (List ℕ))). p.0 ∷ t) (rows-none n))
rows-all (suc n) s (c ∷ xs) h = rw (rows-next s [] [] (c ∷ xs))
    (go (next_record default_config s [] [] (c ∷ xs)) (λ p e. let less = reads-less default_config s c xs p e in rows-all n p.1 p.2 (omega arith)))
  where
    go : (o : Option Read) → ((p : Read) → o ≡ Some p → records_from default_config n p.1 p.2 ≡ rows_from p.1 [] [] p.2)
        → records_next (records_from default_config n) o ≡ records_next (λ t ys. rows_from t [] [] ys) o
    go None later = refl
    go (Some p) later = ap (λ (t : List (List (List ℕ))). p.0 ∷ t) (later p refl)

pub records-rows : (xs : List ℕ) → records default_config xs ≡ rows xs
records-rows xs = rows-all (length xs + 1) st.StartRecord xs (omega arith)

-- A state outside quotes. At the start of a record no field has begun.
abbrev Plain : State → List (List ℕ) → List ℕ → Type 0
Plain st.StartRecord fields field = (fields ≡ []) × (field ≡ [])
Plain st.AfterCr fields field = (fields ≡ []) × (field ≡ [])
Plain st.StartField fields field = Unit {0}
Plain st.InField fields field = Unit {0}
Plain st.InQuoted fields field = ⊥
Plain st.AfterQuote fields field = ⊥
Plain st.InEscape fields field = ⊥
Plain st.InComment fields field = ⊥

-- A byte that is no quote, in a field.
in-field-end : (c : ℕ) → is_end (in_field default_config c).1 ≡ true → Plain (in_field default_config c).0 [] []
in-field-end c e = elim (cases_Bool (eqb c 44)) [
  | inl comma ↦ cc (rw comma at e)
  | inr f ↦ elim (cases_Bool (eqb c 13)) [
    | inl cr ↦ rw (f, cr) (refl, refl)
    | inr g ↦ elim (cases_Bool (eqb c 10)) [
      | inl lf ↦ rw (f, g, lf) (refl, refl)
      | inr h ↦ cc (rw (f, g, h) at e)
    ]
  ]
]

in-field-goes : (c : ℕ) (fields : List (List ℕ)) (field : List ℕ) → is_end (in_field default_config c).1 ≡ false
    → Plain (in_field default_config c).0 (fields_after (in_field default_config c).1 fields field) (field_after (in_field default_config c).1 c field)
in-field-goes c fields field e = elim (cases_Bool (eqb c 44)) [
  | inl comma ↦ rw comma tt
  | inr f ↦ elim (cases_Bool (eqb c 13)) [
    | inl cr ↦ cc (rw (f, cr) at e)
    | inr g ↦ elim (cases_Bool (eqb c 10)) [
      | inl lf ↦ cc (rw (f, g, lf) at e)
      | inr h ↦ rw (f, g, h) tt
    ]
  ]
]

-- A byte that is no quote, at the start of a field.
start-field-end : (c : ℕ) → eqb c 34 ≡ false → is_end (start_field default_config c).1 ≡ true → Plain (start_field default_config c).0 [] []
start-field-end c none e = rw none (in-field-end c (rw none at e))

start-field-goes : (c : ℕ) (fields : List (List ℕ)) (field : List ℕ) → eqb c 34 ≡ false → is_end (start_field default_config c).1 ≡ false
    → Plain (start_field default_config c).0 (fields_after (start_field default_config c).1 fields field) (field_after (start_field default_config c).1 c field)
start-field-goes c fields field none e = rw none (in-field-goes c fields field (rw none at e))

-- A byte that is no quote, at the start of a record.
start-record-end : (c : ℕ) → eqb c 34 ≡ false → is_end (start_record default_config c).1 ≡ true → Plain (start_record default_config c).0 [] []
start-record-end c none e = elim (cases_Bool (eqb c 13)) [
  | inl cr ↦ cc (rw cr at e)
  | inr g ↦ elim (cases_Bool (eqb c 10)) [
    | inl lf ↦ cc (rw (g, lf) at e)
    | inr h ↦ let same : start_record default_config c ≡ start_field default_config c = rw (g, h) refl in rw same (start-field-end c none (rw same at e))
  ]
]

start-record-goes : (c : ℕ) → eqb c 34 ≡ false → is_end (start_record default_config c).1 ≡ false
    → Plain (start_record default_config c).0 (fields_after (start_record default_config c).1 [] []) (field_after (start_record default_config c).1 c [])
start-record-goes c none e = elim (cases_Bool (eqb c 13)) [
  | inl cr ↦ rw cr (refl, refl)
  | inr g ↦ elim (cases_Bool (eqb c 10)) [
    | inl lf ↦ rw (g, lf) (refl, refl)
    | inr h ↦ let same : start_record default_config c ≡ start_field default_config c = rw (g, h) refl in rw same (start-field-goes c [] [] none (rw same at e))
  ]
]

-- A byte that is no quote leads from a state outside quotes to another one.
step-end : (s : State) (c : ℕ) (fields : List (List ℕ)) (field : List ℕ) → Plain s fields field → eqb c 34 ≡ false
    → is_end (step default_config s c).1 ≡ true → Plain (step default_config s c).0 [] []
step-end st.StartRecord c fields field at none e = start-record-end c none e
step-end st.StartField c fields field at none e = start-field-end c none e
step-end st.InField c fields field at none e = in-field-end c e
step-end st.AfterCr c fields field at none e = elim (cases_Bool (eqb c 10)) [
  | inl lf ↦ cc (rw lf at e)
  | inr h ↦ let same : step default_config st.AfterCr c ≡ start_record default_config c = rw h refl in rw same (start-record-end c none (rw same at e))
]
step-end st.InQuoted c fields field at none e = absurd at
step-end st.AfterQuote c fields field at none e = absurd at
step-end st.InEscape c fields field at none e = absurd at
step-end st.InComment c fields field at none e = absurd at

step-goes : (s : State) (c : ℕ) (fields : List (List ℕ)) (field : List ℕ) → Plain s fields field → eqb c 34 ≡ false
    → is_end (step default_config s c).1 ≡ false
    → Plain (step default_config s c).0 (fields_after (step default_config s c).1 fields field) (field_after (step default_config s c).1 c field)
step-goes st.StartRecord c fields field at none e = rw (at.0, at.1) (start-record-goes c none e)
step-goes st.StartField c fields field at none e = start-field-goes c fields field none e
step-goes st.InField c fields field at none e = in-field-goes c fields field e
step-goes st.AfterCr c fields field at none e = elim (cases_Bool (eqb c 10)) [
  | inl lf ↦ rw lf at
  | inr h ↦ let same : step default_config st.AfterCr c ≡ start_record default_config c = rw h refl in rw (same, at.0, at.1) (start-record-goes c none (rw same at e))
]
step-goes st.InQuoted c fields field at none e = absurd at
step-goes st.AfterQuote c fields field at none e = absurd at
step-goes st.InEscape c fields field at none e = absurd at
step-goes st.InComment c fields field at none e = absurd at

-- After a line feed outside quotes the machine is at the start of a record.
line-feed : (s : State) (fields : List (List ℕ)) (field xs : List ℕ) → Plain s fields field → rows_from s fields field (10 ∷ xs) ≡ rows_from s fields field [] ++ rows xs
unfolding rows_from
line-feed st.StartRecord fields field xs at = rw (at.0, at.1) refl
line-feed st.StartField fields field xs at = refl
line-feed st.InField fields field xs at = refl
line-feed st.AfterCr fields field xs at = rw (at.0, at.1) refl
line-feed st.InQuoted fields field xs at = absurd at
line-feed st.AfterQuote fields field xs at = absurd at
line-feed st.InEscape fields field xs at = absurd at
line-feed st.InComment fields field xs at = absurd at

-- The records of lines, the first of which is read from a state.
abbrev joined_rows : State → List (List ℕ) → List ℕ → List (List ℕ) → List (List (List ℕ))
joined_rows s fields field [] = rows_from s fields field []
joined_rows s fields field (l ∷ ls) = rows_from s fields field l ++ flat_map rows ls

joined-flat : (ls : List (List ℕ)) → joined_rows st.StartRecord [] [] ls ≡ flat_map rows ls
unfolding rows_from
joined-flat [] = refl
joined-flat (l ∷ ls) = refl

ended : (s : State) (fields : List (List ℕ)) (field : List ℕ) (c : ℕ) (xs : List ℕ) (ls : List (List ℕ)) → is_end (step default_config s c).1 ≡ true
    → rows_from (step default_config s c).0 [] [] xs ≡ joined_rows (step default_config s c).0 [] [] ls
    → rows_from s fields field (c ∷ xs) ≡ joined_rows s fields field (prepend_to_first c ls)
unfolding rows_from
ended s fields field c xs [] t e = rw (t, e, append-nil (rows_from (step default_config s c).0 [] [] [])) refl
ended s fields field c xs (l ∷ ls) t e = rw (t, e) refl

goes : (s : State) (fields : List (List ℕ)) (field : List ℕ) (c : ℕ) (xs : List ℕ) (ls : List (List ℕ)) → is_end (step default_config s c).1 ≡ false
    → rows_from (step default_config s c).0 (fields_after (step default_config s c).1 fields field) (field_after (step default_config s c).1 c field) xs
    ≡ joined_rows (step default_config s c).0 (fields_after (step default_config s c).1 fields field) (field_after (step default_config s c).1 c field) ls
    → rows_from s fields field (c ∷ xs) ≡ joined_rows s fields field (prepend_to_first c ls)
unfolding rows_from
goes s fields field c xs [] t e = rw (t, e, append-nil (rows_from (step default_config s c).0 (fields_after (step default_config s c).1 fields field) (field_after (step default_config s c).1 c field) [])) refl
goes s fields field c xs (l ∷ ls) t e = rw (t, e) refl

lines-joined : (xs : List ℕ) (s : State) (fields : List (List ℕ)) (field : List ℕ) → Plain s fields field → list_all (λ c. not (eqb c 34)) xs ≡ true
    → rows_from s fields field xs ≡ joined_rows s fields field (lines_of xs)
unfolding lines_of
lines-joined [] s fields field at plain = refl
lines-joined (c ∷ xs) s fields field at plain =
    let parts = and_parts _ _ plain in
    let none : eqb c 34 ≡ false = not-true (eqb c 34) parts.0 in
    elim (cases_Bool (eqb c 10)) [
      | inl lf ↦
          let is : c ≡ 10 = eqb-true c 10 lf in
          let rest = lines-joined xs st.StartRecord [] [] (refl, refl) parts.1 ∙ joined-flat (lines_of xs) in
          rw (is, line-feed s fields field xs at, rest) refl
      | inr f ↦ elim (cases_Bool (is_end (step default_config s c).1)) [
        | inl t ↦ rw f (ended s fields field c xs (lines_of xs) t (lines-joined xs (step default_config s c).0 [] [] (step-end s c fields field at none t) parts.1))
        | inr g ↦ rw f (goes s fields field c xs (lines_of xs) g
            (lines-joined xs (step default_config s c).0 (fields_after (step default_config s c).1 fields field) (field_after (step default_config s c).1 c field) (step-goes s c fields field at none g) parts.1))
      ]
    ]

-- The records of bytes without a quote are those of their lines.
pub rows-of-lines : (xs : List ℕ) → list_all (λ c. not (eqb c 34)) xs ≡ true → rows xs ≡ flat_map rows (lines_of xs)
rows-of-lines xs plain = lines-joined xs st.StartRecord [] [] (refl, refl) plain ∙ joined-flat (lines_of xs)
