-- The fields of a line that was read equal those that are written of the result.
use Rattle.std.proofs.Common.{◌≡◌, ◌≤◌, ◌+◌, ◌∙◌, ◌∷◌, ◌++◌, [], ℕ, List, Bool, true, false, not, ◌==◌, if◌then◌else◌, Option, Some, None, Result, Ok, Err, refl, sym, ap, arith, length, eqb-true, eq-eqb, ne_eqb, decimal, inl, inr}
use Rattle.std.specs.Prelude.{nat_le, nat_lt}
use Rattle.std.specs.Str.{all_ascii_digits, bytes_eq}
use Rattle.std.specs.Str.Parse.{digits_value}
use Rattle.std.proofs.lemmas.Bool.{and_parts, cases_eq, leb-true, le-leb, or_right}
use Rattle.std.proofs.lemmas.Slice.Eq.{bytes_eq-Decides}
use Rattle.pack_defs.specs.Lists.{is_empty, is_in}
use Rattle.pack_defs.specs.declared.scenario.Scenario.{Scenario}
use Rattle.pack_defs.specs.Scenario.{facilities}
use Rattle.lrat_text.specs.Lines.{fields_of, is_space, with_spaces, line_of, prepend_to_piece, pieces}
use Rattle.lrat_text.specs.Read.{field_of, natural}
use Rattle.lrat_text.specs.Write.{greatest}
use Rattle.lrat_text.specs.OneSpelling.{has_no_leading_zero, is_shortest}
use Rattle.lrat_text.proofs.OneSpelling.{IsNatural, IsWrittenAs, ended, natural-is, word-of-natural, written, empty-is}
use Rattle.transcript_text.specs.declared.error.TextErr.{TextErr}
use Rattle.transcript_text.specs.declared.error.TextErr.TheVariants.{BadLine, Truncated}
use Rattle.transcript_text.specs.Fields.{RemainingFields, RemainingLines, channel_at, exact_number_at, found_or, greatest_u32, is_above, is_plainly_spelled, line_end, next_field, next_line, number_at, plain_field, plain_number, station_above, station_at, word_at, worker_at}
use Rattle.transcript_text.proofs.CursorLemmas.{some-piece}
use Rattle.transcript_text.proofs.Rising.{after-ok}

-- ---- results

pub err-ok : {A : Type 0} (e : TextErr) (x : A) → Err e ≡ Ok x → ⊥
err-ok e x q = cc

abbrev same-result : {A : Type 0} → Result A TextErr → Result A TextErr → Type 0
same-result a b = a ≡ b

pub ok-same : {A : Type 0} (x y : A) → same-result (Ok x) (Ok y) → x ≡ y
ok-same x y e = cc

pub if-ok : {A : Type 0} (b : Bool) (x y : A) (e : TextErr) → (if b then Ok x else Err e) ≡ Ok y → (b ≡ true) × (x ≡ y)
if-ok true x y e h = (refl, ok-same x y h)
if-ok false x y e h = absurd (err-ok e y h)

-- ---- lines

joined-none : (ps : List (List ℕ)) → is_empty ps ≡ false → with_spaces ([] ∷ ps) ≡ 32 ∷ with_spaces ps
unfolding with_spaces
joined-none [] h = absurd cc
joined-none (p ∷ ps) h = refl

joined-onto : (c : ℕ) (ps : List (List ℕ)) → is_empty ps ≡ false → with_spaces (prepend_to_piece c ps) ≡ c ∷ with_spaces ps
unfolding with_spaces
joined-onto c [] h = absurd cc
joined-onto c (p ∷ []) h = refl
joined-onto c (p ∷ q ∷ ps) h = refl

-- The fields of a line, joined with spaces, are the line.
pub joined-fields : (line : List ℕ) → with_spaces (fields_of line) ≡ line
unfolding pieces with_spaces
joined-fields [] = refl
joined-fields (c ∷ line) = elim (cases_eq c 32) [
  | inl e ↦ rw (eq-eqb c 32 e) (joined-none (pieces is_space line) (some-piece is_space line) ∙ ap (λ (r : List ℕ). 32 ∷ r) (joined-fields line) ∙ ap (λ (x : ℕ). x ∷ line) (sym e))
  | inr ne ↦ rw (ne_eqb c 32 ne) (joined-onto c (pieces is_space line) (some-piece is_space line) ∙ ap (λ (r : List ℕ). c ∷ r) (joined-fields line))
]

-- The text of the lines that are left.
abbrev pub left_text : RemainingLines → List ℕ
left_text lines = ended lines.left

pub next-said : (lines : RemainingLines) (x : RemainingFields × RemainingLines) → next_line lines ≡ Ok x → left_text lines ≡ line_of x.0.fields ++ left_text x.1
next-said lines x e = go lines.number lines.left e
  where
    go : (n : ℕ) (left : List (List ℕ)) → next_line (record { number = n; left = left }) ≡ Ok x → ended left ≡ line_of x.0.fields ++ left_text x.1
    go n [] h = absurd (err-ok Truncated x h)
    go n (line ∷ left) h =
        let same = ok-same (record { number = n; fields = fields_of line }, record { number = n + 1; left = left }) x h in
        ap (λ (l : List ℕ). (l ++ 10 ∷ []) ++ ended left) (sym (joined-fields line)) ∙ ap (λ (y : RemainingFields × RemainingLines). line_of y.0.fields ++ left_text y.1) same

-- ---- words

pub field-said : (line : RemainingFields) (x : List ℕ × RemainingFields) → next_field line ≡ Ok x → line.fields ≡ x.0 ∷ x.1.fields
field-said line x e = go line.number line.fields e
  where
    go : (n : ℕ) (fields : List (List ℕ)) → next_field (record { number = n; fields = fields }) ≡ Ok x → fields ≡ x.0 ∷ x.1.fields
    go n [] h = absurd (err-ok (BadLine n) x h)
    go n (field ∷ fields) h = ap (λ (y : List ℕ × RemainingFields). y.0 ∷ y.1.fields) (ok-same (field, record { number = n; fields = fields }) x h)

pub same-bytes-said : (a b : List ℕ) → bytes_eq a b ≡ true → a ≡ b
same-bytes-said a b e = (bytes_eq-Decides a b).0 e

pub word-said : (word : List ℕ) (line rest : RemainingFields) → word_at word line ≡ Ok rest → line.fields ≡ word ∷ rest.fields
unfolding word_at
word-said word line rest e =
    let a = after-ok (next_field line) (λ field. if bytes_eq field.0 word then Ok field.1 else Err (BadLine line.number)) rest e in
    let b = if-ok (bytes_eq a.0.0 word) a.0.1 rest (BadLine line.number) a.2 in
    field-said line a.0 a.1 ∙ ap (λ (w : List ℕ). w ∷ a.0.1.fields) (same-bytes-said a.0.0 word b.0) ∙ ap (λ (l : RemainingFields). word ∷ l.fields) b.1

pub end-said : (line : RemainingFields) (u : Unit {0}) → line_end line ≡ Ok u → line.fields ≡ []
unfolding line_end
end-said line u e = empty-is line.fields (if-ok (is_empty line.fields) tt u (BadLine line.number) e).0

-- ---- numbers

-- A plain spelling is the shortest.
pub plain-shortest : (field : List ℕ) → is_plainly_spelled field ≡ true → is_shortest field ≡ true
unfolding is_shortest
plain-shortest [] h = absurd cc
plain-shortest (c ∷ []) h = elim (cases_eq c 45) [
  | inl e ↦ rw (eq-eqb c 45 e) refl
  | inr ne ↦ rw (ne_eqb c 45 ne) refl
]
plain-shortest (c ∷ d ∷ rest) h = elim (cases_eq c 45) [
  | inl e ↦ let k : not (d == 48) ≡ true = rw (eq-eqb c 45 e) at h in rw (eq-eqb c 45 e) (or_right (is_empty rest) (not (d == 48)) k)
  | inr ne ↦ let k : not (c == 48) ≡ true = rw (ne_eqb c 45 ne) at h in rw (ne_eqb c 45 ne) k
]

digits-short : (word : List ℕ) → all_ascii_digits word ≡ true → is_shortest word ≡ true → has_no_leading_zero word ≡ true
unfolding is_shortest
digits-short [] h s = s
digits-short (c ∷ rest) h s =
    let low = leb-true 48 c (and_parts _ _ (and_parts _ _ h).0).0 in
    rw (ne_eqb c 45 (λ q. absurd (omega (arith, low, q)))) at s

natural-greatest : (most n : ℕ) (word : List ℕ) → most ≤ greatest → IsNatural most word n → natural greatest word ≡ Some n
unfolding natural
natural-greatest most n word le is =
    rw (is.some, is.digits, le-leb (digits_value 10 word) greatest (omega (arith, le, is.within)), is.value) refl

-- A number that was read has one spelling.
pub plain-number-said : (most n : ℕ) (field : List ℕ) → most ≤ greatest → plain_number most field ≡ Some n → field ≡ decimal n
unfolding plain_number
plain-number-said most n field le e = go (is_plainly_spelled field) refl e
  where
    go : (b : Bool) → is_plainly_spelled field ≡ b → (if b then natural most field else None) ≡ Some n → field ≡ decimal n
    go false p h = absurd cc
    go true p h =
        let is = natural-is most field n h in
        word-of-natural field n (natural-greatest most n field le is) (digits-short field is.digits (plain-shortest field p))

pub found-said : {A B : Type 0} (n : ℕ) (o : Option A) (rest : B) (x : A × B) → found_or n o rest ≡ Ok x → (o ≡ Some x.0) × (rest ≡ x.1)
found-said n None rest x e = absurd (err-ok (BadLine n) x e)
found-said n (Some v) rest x e = let same = ok-same (v, rest) x e in (ap (λ y. Some y.0) same, ap (λ y. y.1) same)

pub number-said : (most : ℕ) (line : RemainingFields) (x : ℕ × RemainingFields) → most ≤ greatest → number_at most line ≡ Ok x → line.fields ≡ decimal x.0 ∷ x.1.fields
unfolding number_at
number-said most line x le e =
    let a = after-ok (next_field line) (λ field. found_or line.number (plain_number most field.0) field.1) x e in
    let b = found-said line.number (plain_number most a.0.0) a.0.1 x a.2 in
    field-said line a.0 a.1 ∙ ap (λ (w : List ℕ). w ∷ a.0.1.fields) (plain-number-said most x.0 a.0.0 le b.0) ∙ ap (λ (l : RemainingFields). decimal x.0 ∷ l.fields) b.1

-- A number that is read and then checked.
tested-said : (most : ℕ) (test : ℕ → Bool) (line : RemainingFields) (x : ℕ × RemainingFields) (a : (y : ℕ × RemainingFields) × (number_at most line ≡ Ok y) × ((if test y.0 then Ok y else Err (BadLine line.number)) ≡ Ok x)) → most ≤ greatest
    → line.fields ≡ decimal x.0 ∷ x.1.fields
tested-said most test line x a le =
    let b = if-ok (test a.0.0) a.0 x (BadLine line.number) a.2 in
    number-said most line a.0 le a.1 ∙ ap (λ (y : ℕ × RemainingFields). decimal y.0 ∷ y.1.fields) b.1

pub station-said : (sc : Scenario) (line : RemainingFields) (x : ℕ × RemainingFields) → station_at sc line ≡ Ok x → line.fields ≡ decimal x.0 ∷ x.1.fields
unfolding station_at
station-said sc line x e =
    tested-said greatest_u32 (is_in (facilities sc)) line x (after-ok (number_at greatest_u32 line) (λ s. if is_in (facilities sc) s.0 then Ok s else Err (BadLine line.number)) x e) (omega arith)

pub channel-said : (line : RemainingFields) (x : ℕ × RemainingFields) → channel_at line ≡ Ok x → line.fields ≡ decimal x.0 ∷ x.1.fields
unfolding channel_at
channel-said line x e =
    tested-said 51 (nat_le 14) line x (after-ok (number_at 51 line) (λ c. if nat_le 14 c.0 then Ok c else Err (BadLine line.number)) x e) (omega arith)

pub worker-said : (sc : Scenario) (line : RemainingFields) (x : ℕ × RemainingFields) → worker_at sc line ≡ Ok x → line.fields ≡ decimal x.0 ∷ x.1.fields
unfolding worker_at
worker-said sc line x e =
    tested-said greatest_u32 (λ w. nat_lt w (length sc.workers)) line x (after-ok (number_at greatest_u32 line) (λ w. if nat_lt w.0 (length sc.workers) then Ok w else Err (BadLine line.number)) x e) (omega arith)

pub above-said : (sc : Scenario) (above : Option ℕ) (line : RemainingFields) (x : ℕ × RemainingFields) → station_above sc above line ≡ Ok x → line.fields ≡ decimal x.0 ∷ x.1.fields
unfolding station_above
above-said sc above line x e =
    let a = after-ok (station_at sc line) (λ s. if is_above above s.0 then Ok s else Err (BadLine line.number)) x e in
    let b = if-ok (is_above above a.0.0) a.0 x (BadLine line.number) a.2 in
    station-said sc line a.0 a.1 ∙ ap (λ (y : ℕ × RemainingFields). decimal y.0 ∷ y.1.fields) b.1

pub exactly-said : (n : ℕ) (line rest : RemainingFields) → n ≤ greatest → exact_number_at n line ≡ Ok rest → line.fields ≡ decimal n ∷ rest.fields
unfolding exact_number_at
exactly-said n line rest le e =
    let a = after-ok (number_at n line) (λ m. if m.0 == n then Ok m.1 else Err (BadLine line.number)) rest e in
    let b = if-ok (a.0.0 == n) a.0.1 rest (BadLine line.number) a.2 in
    number-said n line a.0 le a.1 ∙ ap (λ (m : ℕ). decimal m ∷ a.0.1.fields) (eqb-true a.0.0 n b.0) ∙ ap (λ (l : RemainingFields). decimal n ∷ l.fields) b.1

-- ---- fields of a log's line

-- A field of a log's line is what is written of its meaning.
pub plain-field-said : (field : List ℕ) → IsWrittenAs field (plain_field field)
unfolding plain_field
plain-field-said field = go (is_plainly_spelled field) refl
  where
    go : (b : Bool) → is_plainly_spelled field ≡ b → IsWrittenAs field (if b then field_of field else None)
    go false p = tt
    go true p = written field (plain-shortest field p)
