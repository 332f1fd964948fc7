-- Lines that are read at once: the effect of their records is the effect line by line.
use Rattle.std.proofs.Common.{◌≡◌, ◌∙◌, ◌<◌, ◌≤◌, ◌+◌, ◌-◌, ◌∷◌, ◌++◌, ◌||◌, ◌⊎◌, [], ℕ, List, Bool, Result, Ok, Err, true, false, not, refl, sym, arith, append_assoc, length, filter, map, eqb, inl, inr}
use Rattle.std.specs.List.{flat_map, list_all}
use Rattle.std.proofs.lemmas.Bool.{and_from, and_parts, cases_Bool, le-ltb, lt-ltb}
use Rattle.std.proofs.lemmas.List.{length-append}
use Rattle.csv.specs.Reading.{Reached, default_config, records, strip_bom}
use Rattle.csv.specs.declared.parser.State.{State}
use Rattle.csv.specs.declared.parser.State.TheVariants as st
use Rattle.pack_defs.specs.Lists.{is_empty}
use Rattle.constraint_files.specs.Records.{after_lines, after_records, kept_fields, lines_of, prepend_to_first, after_read_line}
use Rattle.constraint_files.specs.PlainLines.{IsRefusedBehind, Runs, RunsNext, after_raw, after_raws, is_plain, is_special, line_number_at, raw_records}
use Rattle.pack_defs.specs.Steps.{◌>>=◌}
use Rattle.constraint_files.specs.declared.error.ReadErr.TheVariants.{Row}
use Rattle.constraint_files.specs.declared.error.RowWhy.{RowWhy}
use Rattle.constraint_files.specs.declared.plain_lines.RecordsErr.{RecordsErr}
use Rattle.constraint_files.specs.declared.plain_lines.RecordsErr.TheVariants.{NoMemory, Refused}
use Rattle.constraint_files.proofs.CsvLemmas.{records-rows, rows, rows-next, rows-of-lines, rows_from}

-- Two runs of records, one after the other.
pub raws-bind : {S : Type 0} (add : S → List (List ℕ) → Result S RowWhy) (s : S) (xs ys : List (List (List ℕ)))
    → after_raws add s (xs ++ ys) ≡ (after_raws add s xs >>= (λ m. after_raws add m ys))
unfolding after_raws
raws-bind add s [] ys = refl
raws-bind {S = S} add s (x ∷ xs) ys = go (after_raw add s x) (λ m. raws-bind add m xs ys)
  where
    go : (o : Result S RowWhy) → ((m : S) → after_raws add m (xs ++ ys) ≡ (after_raws add m xs >>= (λ k. after_raws add k ys)))
        → (o >>= (λ m. after_raws add m (xs ++ ys))) ≡ ((o >>= (λ m. after_raws add m xs)) >>= (λ k. after_raws add k ys))
    go (Err why) later = refl
    go (Ok m) later = later m

pub raws-more : {S : Type 0} (add : S → List (List ℕ) → Result S RowWhy) (s m t : S) (done : List (List (List ℕ))) (r : List (List ℕ))
    → after_raws add s done ≡ Ok m → after_raw add m r ≡ Ok t → after_raws add s (done ++ (r ∷ [])) ≡ Ok t
unfolding after_raws
raws-more add s m t done r taken is = rw (raws-bind add s done (r ∷ []), taken, is) refl

-- A record that is not added ends the run: it is invalid, or memory ran out.
pub next-stops : {S : Type 0} (add : S → List (List ℕ) → Result S RowWhy) (s m new : S) (raws done left : List (List (List ℕ))) (r : List (List ℕ)) (before : ℕ) (e : RecordsErr)
    → raws ≡ done ++ (r ∷ left) → length done ≡ before → after_raws add s done ≡ Ok m → RunsNext add m r before new (Err e) → Runs add s raws (Err e)
next-stops add s m new raws done left r before (Refused n why) all count taken h =
    record { done = done; refused = r; left = left; all = all; count = count ∙ sym h.0; made = m; taken = taken; is = h.1 }
next-stops add s m new raws done left r before NoMemory all count taken h = tt

raws-refused : {S : Type 0} (add : S → List (List ℕ) → Result S RowWhy) (s m : S) (done left : List (List (List ℕ))) (r : List (List ℕ)) (why : RowWhy)
    → after_raws add s done ≡ Ok m → after_raw add m r ≡ Err why → after_raws add s (done ++ (r ∷ left)) ≡ Err why
unfolding after_raws
raws-refused add s m done left r why taken is = rw (raws-bind add s done (r ∷ left), taken, is) refl

-- The records of a line, with and without those that have no field.
raws-records : {S : Type 0} (add : S → List (List ℕ) → Result S RowWhy) (s : S) (raws : List (List (List ℕ)))
    → after_records add s (filter (λ r. not (is_empty r)) (map kept_fields raws)) ≡ after_raws add s raws
unfolding after_records after_raws
raws-records add s [] = refl
raws-records {S = S} add s (r ∷ rs) = elim (cases_Bool (is_empty (kept_fields r))) [
  | inl t ↦ rw t (raws-records add s rs)
  | inr f ↦ rw f (go (add s (kept_fields r)) (λ m. raws-records add m rs))
]
  where
    go : (o : Result S RowWhy) → ((m : S) → after_records add m (filter (λ r. not (is_empty r)) (map kept_fields rs)) ≡ after_raws add m rs)
        → (o >>= (λ m. after_records add m (filter (λ r. not (is_empty r)) (map kept_fields rs)))) ≡ (o >>= (λ m. after_raws add m rs))
    go (Err why) later = refl
    go (Ok m) later = later m

-- Lines whose records are all added.
pub lines-added : {S : Type 0} (add : S → List (List ℕ) → Result S RowWhy) (s t : S) (n : ℕ) (lines : List (List ℕ))
    → after_raws add s (flat_map raw_records lines) ≡ Ok t → after_lines add s n lines ≡ Ok t
unfolding after_lines after_raws
lines-added add s t n [] e =
    let same : s ≡ t = cc in
    rw same refl
lines-added {S = S} add s t n (line ∷ lines) e =
    rw (raws-records add s (raw_records line))
    (go (after_raws add s (raw_records line)) (λ m h. lines-added add m t (n + 1) lines h) (rw (raws-bind add s (raw_records line) (flat_map raw_records lines)) at e))
  where
    go : (o : Result S RowWhy) → ((m : S) → after_raws add m (flat_map raw_records lines) ≡ Ok t → after_lines add m (n + 1) lines ≡ Ok t)
        → (o >>= (λ m. after_raws add m (flat_map raw_records lines))) ≡ Ok t → after_read_line n o (λ m. after_lines add m (n + 1) lines) ≡ Ok t
    go (Err why) later h = cc
    go (Ok m) later h = later m h

-- The place of a record: in the first of two lists, or in the second.
split : (xs ys done left : List (List (List ℕ))) (r : List (List ℕ)) → xs ++ ys ≡ done ++ (r ∷ left)
    → ((more : List (List (List ℕ))) × (xs ≡ done ++ (r ∷ more))) ⊎ ((rest : List (List (List ℕ))) × (done ≡ xs ++ rest) × (ys ≡ rest ++ (r ∷ left)))
split [] ys done left r e = inr (done, refl, e)
split (x ∷ xs) ys [] left r e =
    let same : x ≡ r = cc in
    inl (xs, rw same refl)
split (x ∷ xs) ys (d ∷ done) left r e =
    let same : x ≡ d = cc in
    let rest : xs ++ ys ≡ done ++ (r ∷ left) = cc in
    elim (split xs ys done left r rest) [
      | inl p ↦ inl (p.0, rw (same, p.1) refl)
      | inr q ↦ inr (q.0, rw (same, q.1) refl, q.2)
    ]

-- The line of a record, by the first line.
pub line_at-stops : (n before : ℕ) (line : List ℕ) (lines : List (List ℕ)) → before < length (raw_records line) → line_number_at n before (line ∷ lines) ≡ n
unfolding line_number_at
line_at-stops n before line lines h = rw (lt-ltb before (length (raw_records line)) h) refl

pub line_at-next : (n before : ℕ) (line : List ℕ) (lines : List (List ℕ)) → length (raw_records line) ≤ before
    → line_number_at n before (line ∷ lines) ≡ line_number_at (n + 1) (before - length (raw_records line)) lines
unfolding line_number_at
line_at-next n before line lines h = rw (le-ltb before (length (raw_records line)) h) refl

pub line_at-none : (n before : ℕ) → line_number_at n before (lines_of []) ≡ n
unfolding line_number_at lines_of
line_at-none n before = refl

no-rows : (done left : List (List (List ℕ))) (r : List (List ℕ)) → [] ≡ done ++ (r ∷ left) → ⊥
no-rows [] left r e = cc
no-rows (d ∷ done) left r e = cc

-- Lines with an invalid record.
lines-stop : {S : Type 0} (add : S → List (List ℕ) → Result S RowWhy) (s m : S) (n : ℕ) (lines : List (List ℕ)) (done left : List (List (List ℕ))) (r : List (List ℕ)) (why : RowWhy)
    → flat_map raw_records lines ≡ done ++ (r ∷ left) → after_raws add s done ≡ Ok m → after_raw add m r ≡ Err why
    → after_lines add s n lines ≡ Err (Row (line_number_at n (length done) lines) why)
unfolding after_lines
lines-stop add s m n [] done left r why all taken is = absurd (no-rows done left r all)
lines-stop {S = S} add s m n (line ∷ lines) done left r why all taken is = elim (split (raw_records line) (flat_map raw_records lines) done left r all) [
  | inl p ↦
      let count : length done < length (raw_records line) = rw (p.1, length-append done (r ∷ p.0)) (omega arith) in
      let stops : after_raws add s (raw_records line) ≡ Err why = rw p.1 (raws-refused add s m done p.0 r why taken is) in
      rw (raws-records add s (raw_records line), stops, line_at-stops n (length done) line lines count) refl
  | inr q ↦
      let count : length done ≡ length (raw_records line) + length q.0 = rw q.1 (length-append (raw_records line) q.0) in
      let before : length done - length (raw_records line) ≡ length q.0 = omega (arith, count) in
      rw (line_at-next n (length done) line lines (omega (arith, count)), before, raws-records add s (raw_records line))
      (go q.0 (after_raws add s (raw_records line)) (λ k h. lines-stop add k m (n + 1) lines q.0 left r why q.2 h is) (rw (q.1, raws-bind add s (raw_records line) q.0) at taken))
]
  where
    go : (rest : List (List (List ℕ))) (o : Result S RowWhy)
        → ((k : S) → after_raws add k rest ≡ Ok m → after_lines add k (n + 1) lines ≡ Err (Row (line_number_at (n + 1) (length rest) lines) why))
        → (o >>= (λ k. after_raws add k rest)) ≡ Ok m → after_read_line n o (λ k. after_lines add k (n + 1) lines) ≡ Err (Row (line_number_at (n + 1) (length rest) lines) why)
    go rest (Err w) later h = cc
    go rest (Ok k) later h = later k h

-- Plain bytes do not begin with a byte order mark.
strip-none : (xs : List ℕ) → is_plain xs ≡ true → strip_bom xs ≡ xs
unfolding strip_bom
strip-none [] plain = refl
strip-none (a ∷ []) plain = refl
strip-none (a ∷ b ∷ []) plain = refl
strip-none (a ∷ b ∷ c ∷ rest) plain = rw (no-mark (eqb a 34) (eqb a 239) (and_parts _ _ plain).0) refl
  where
    no-mark : (q m : Bool) → not (q || m) ≡ true → m ≡ false
    no-mark true m e = cc
    no-mark false true e = cc
    no-mark false false e = refl

plain-quotes : (xs : List ℕ) → is_plain xs ≡ true → list_all (λ c. not (eqb c 34)) xs ≡ true
plain-quotes [] plain = refl
plain-quotes (c ∷ xs) plain =
    let parts = and_parts _ _ plain in
    and_from _ _ (no-quote (eqb c 34) (eqb c 239) parts.0) (plain-quotes xs parts.1)
  where
    no-quote : (q m : Bool) → not (q || m) ≡ true → not q ≡ true
    no-quote true m e = cc
    no-quote false m e = refl

-- The lines of plain bytes are plain.
lines-plain : (xs : List ℕ) → is_plain xs ≡ true → list_all is_plain (lines_of xs) ≡ true
unfolding lines_of
lines-plain [] plain = refl
lines-plain (c ∷ xs) plain =
    let parts = and_parts _ _ plain in
    elim (cases_Bool (eqb c 10)) [
      | inl t ↦ rw t (lines-plain xs parts.1)
      | inr f ↦ rw f (go (lines_of xs) parts.0 (lines-plain xs parts.1))
    ]
  where
    go : (ls : List (List ℕ)) → not (is_special c) ≡ true → list_all is_plain ls ≡ true → list_all is_plain (prepend_to_first c ls) ≡ true
    go [] one all = rw one refl
    go (l ∷ ls) one all = let parts = and_parts _ _ all in and_from _ _ (and_from _ _ one parts.0) parts.1

raws-of : (lines : List (List ℕ)) → list_all is_plain lines ≡ true → flat_map rows lines ≡ flat_map raw_records lines
raws-of [] plain = refl
raws-of (line ∷ lines) plain =
    let parts = and_parts _ _ plain in
    rw (strip-none line parts.0, records-rows line, raws-of lines parts.1) refl

-- The records of plain bytes are those of their lines.
plain-lines : (bytes : List ℕ) → is_plain bytes ≡ true → raw_records bytes ≡ flat_map raw_records (lines_of bytes)
plain-lines bytes plain =
    rw (strip-none bytes plain) (records-rows bytes ∙ rows-of-lines bytes (plain-quotes bytes plain) ∙ raws-of (lines_of bytes) (lines-plain bytes plain))

pub plain-added : {S : Type 0} (add : S → List (List ℕ) → Result S RowWhy) (s t : S) (n : ℕ) (bytes : List ℕ) → is_plain bytes ≡ true
    → after_raws add s (raw_records bytes) ≡ Ok t → after_lines add s n (lines_of bytes) ≡ Ok t
plain-added add s t n bytes plain e = lines-added add s t n (lines_of bytes) (rw (plain-lines bytes plain) at e)

pub plain-stops : {S : Type 0} (add : S → List (List ℕ) → Result S RowWhy) (s : S) (n before : ℕ) (bytes : List ℕ) (why : RowWhy) → is_plain bytes ≡ true
    → IsRefusedBehind add s (raw_records bytes) before why → after_lines add s n (lines_of bytes) ≡ Err (Row (line_number_at n before (lines_of bytes)) why)
plain-stops add s n before bytes why plain h =
    rw (← h.count) (lines-stop add s h.made n (lines_of bytes) h.done h.left h.refused why (sym (plain-lines bytes plain) ∙ h.all) h.taken h.is)

-- The records reached so far are the first of all records.
reached-rows : (s t : State) (xs ys : List ℕ) (done : List (List (List ℕ))) → Reached default_config s xs done t ys → rows_from s [] [] xs ≡ done ++ rows_from t [] [] ys
unfolding Reached
reached-rows s t xs ys [] h = rw (h.0, h.1) refl
reached-rows s t xs ys (r ∷ done) h = rw (rows-next s [] [] xs, h.1, h.2, reached-rows h.0.1 t h.0.2 ys done h.3) refl

pub refused-row : (t : State) (xs ys : List ℕ) (done : List (List (List ℕ))) (r : List (List ℕ)) → Reached default_config st.StartRecord xs (done ++ (r ∷ [])) t ys
    → records default_config xs ≡ done ++ (r ∷ rows_from t [] [] ys)
refused-row t xs ys done r h = records-rows xs ∙ (reached-rows st.StartRecord t xs ys (done ++ (r ∷ [])) h ∙ append_assoc done (r ∷ []) (rows_from t [] [] ys))
