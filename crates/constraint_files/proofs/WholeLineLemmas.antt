-- The records reached up to the end of a text are `records` of the text.
use Rattle.std.proofs.Common.{◌≡◌, ◌<◌, ◌≤◌, ◌+◌, ◌∷◌, ◌++◌, [], ℕ, List, Some, None, refl, ap, arith, zero, suc, length}
use Rattle.std.proofs.Common.{inl, inr}
use Rattle.std.proofs.lemmas.Bool.{cases_Bool}
use Rattle.csv.specs.Machine.{Read, next_record, ends_at_end, is_end, step, fields_after, field_after}
use Rattle.csv.specs.Reading.{AreRecords, Reached, records, records_from}
use Rattle.csv.specs.declared.parser.Config.{Config}
use Rattle.csv.specs.declared.parser.State.{State}
use Rattle.csv.specs.declared.parser.State.TheVariants as st

pub some_is : {A : Type 0} (a b : A) → Some a ≡ Some b → a ≡ b
some_is a b e = cc

-- A read leaves no more bytes than it was given.
reads-le : (cfg : Config) (s : State) (fields : List (List ℕ)) (field xs : List ℕ) (p : Read) → next_record cfg s fields field xs ≡ Some p → length p.2 ≤ length xs
unfolding next_record
reads-le cfg s fields field [] p e = elim (cases_Bool (ends_at_end s)) [
  | inl t ↦ let q : (fields ++ (field ∷ []), st.StartRecord, []) ≡ p = some_is _ _ (rw t at e) in rw (← q) (omega arith)
  | inr f ↦ cc (rw f at e)
]
reads-le cfg s fields field (c ∷ rest) p e = elim (cases_Bool (is_end (step cfg s c).1)) [
  | inl t ↦ let q = some_is _ _ (rw t at e) in rw (← q) (omega arith)
  | inr f ↦ let le = reads-le cfg (step cfg s c).0 (fields_after (step cfg s c).1 fields field) (field_after (step cfg s c).1 c field) rest p (rw f at e) in omega arith
]

-- A read of some bytes leaves fewer.
pub reads-less : (cfg : Config) (s : State) (c : ℕ) (rest : List ℕ) (p : Read) → next_record cfg s [] [] (c ∷ rest) ≡ Some p → length p.2 ≤ length rest
unfolding next_record
reads-less cfg s c rest p e = elim (cases_Bool (is_end (step cfg s c).1)) [
  | inl t ↦ let q = some_is _ _ (rw t at e) in rw (← q) (omega arith)
  | inr f ↦ reads-le cfg (step cfg s c).0 (fields_after (step cfg s c).1 [] []) (field_after (step cfg s c).1 c []) rest p (rw f at e)
]

-- A read at the end leaves the machine at the start of a record.
pub reads-end : (cfg : Config) (s : State) (p : Read) → next_record cfg s [] [] [] ≡ Some p → (p.1 ≡ st.StartRecord) × (p.2 ≡ [])
unfolding next_record
reads-end cfg s p e = elim (cases_Bool (ends_at_end s)) [
  | inl t ↦ let q = some_is _ _ (rw t at e) in rw (← q) (refl, refl)
  | inr f ↦ cc (rw f at e)
]

none-left : (cfg : Config) (n : ℕ) → records_from cfg n st.StartRecord [] ≡ []
unfolding records_from next_record
none-left cfg zero = refl
none-left cfg (suc n) = refl

no-more : (cfg : Config) (s2 : State) (ys : List ℕ) (rows : List (List (List ℕ))) → Reached cfg st.StartRecord [] rows s2 ys → rows ≡ []
unfolding Reached next_record
no-more cfg s2 ys [] r = refl
no-more cfg s2 ys (x ∷ rows) r = cc r.1

whole : (cfg : Config) (n : ℕ) (s s2 : State) (xs ys : List ℕ) (rows : List (List (List ℕ))) → length xs < n
    → Reached cfg s xs rows s2 ys → next_record cfg s2 [] [] ys ≡ None → rows ≡ records_from cfg n s xs
unfolding Reached records_from
whole cfg zero s s2 xs ys rows h r e = absurd (omega arith)
whole cfg (suc n) s s2 xs ys [] h r e = rw (r.0, r.1, e) refl
whole cfg (suc n) s s2 [] ys (x ∷ rows) h r e =
    let q = reads-end cfg s r.0 r.1 in
    let none = no-more cfg s2 ys rows (rw (q.0, q.1) at r.3) in
    rw (r.1, r.2, none, q.0, q.1, none-left cfg n) refl
whole cfg (suc n) s s2 (c ∷ xs) ys (x ∷ rows) h r e =
    let less = reads-less cfg s c xs r.0 r.1 in
    rw (r.1, r.2) (ap (λ (t : List (List (List ℕ))). r.0.0 ∷ t) (whole cfg n r.0.1 s2 r.0.2 ys rows (omega arith) r.3 e))

pub are-records : (cfg : Config) (xs : List ℕ) (rows : List (List (List ℕ))) → AreRecords cfg st.StartRecord xs rows → rows ≡ records cfg xs
are-records cfg xs rows h = whole cfg (length xs + 1) st.StartRecord h.0 xs h.1 rows (omega arith) h.2 h.3
