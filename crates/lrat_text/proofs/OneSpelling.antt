-- A plain text is the text of the log that it spells.
use Rattle.std.proofs.Common.{◌≡◌, ◌≤◌, ◌+◌, ◌∙◌, ◌∷◌, ◌++◌, [], ℕ, zero, suc, List, Bool, true, false, Option, Some, None, Result, Ok, Err, refl, sym, ap, subst, arith, length, map, get_or, ne_eqb, eq-eqb, decimal, inl, inr, if◌then◌else◌, not, ◌&&◌, ◌==◌, append-nil, append_assoc}
use Rattle.std.specs.Prelude.{codes, nat_le}
use Rattle.std.specs.Fmt.{digits}
use Rattle.std.specs.List.{flat_map, list_all}
use Rattle.std.specs.Str.{all_ascii_digits, bytes_eq}
use Rattle.std.specs.Str.Parse.{digits_value}
use Rattle.std.proofs.lemmas.Bool.{and_parts, cases_eq, eqb-true, leb-true, le-leb, lt-leb, cases_lt, not-true}
use Rattle.std.proofs.lemmas.Fmt.{decimal-digits_value}
use Rattle.pack_defs.specs.Lists.{is_empty}
use Rattle.clause_db.specs.declared.lit.Lit.{Lit}
use Rattle.rup_check.specs.declared.line.Line.{Line}
use Rattle.rup_check.specs.declared.line.Log.{Log}
use Rattle.lrat_text.specs.declared.error.LratErr.{LratErr}
use Rattle.lrat_text.specs.declared.error.LratErr.TheVariants.{Truncated, BadLine, RatStep}
use Rattle.lrat_text.specs.declared.field.Field.{Field}
use Rattle.lrat_text.specs.declared.field.Field.TheVariants.{End, Number}
use Rattle.pack_defs.specs.Steps.{◌>>=◌}
use Rattle.lrat_text.specs.Lines.{ended_lines, is_whole, prepend_to_first_line, with_spaces, words_of, without_return, line_of}
use Rattle.lrat_text.specs.Write.{greatest, lit_text, zero_field, log_fields, log_text}
use Rattle.lrat_text.specs.Read.{LogRead, natural, signed_of, field_of, log_lits_at, log_lits_or, place_in, hint_place, place_or, log_hints_at, log_hints_or, with_line, after_words, after_log_lines, log_of, log_read, empty_log_read}
use Rattle.lrat_text.specs.OneSpelling.{has_no_leading_zero, is_shortest, IsNumberedLine, ArePlain}
use Rattle.lrat_text.proofs.LogLemmas.{run, run-more, is-next, not-letter}
use Rattle.lrat_text.proofs.NumberLemmas.{digits-signed}
use Rattle.pack_defs.proofs.Digits.{own-numerals}
use Rattle.pack_defs.proofs.Words.{some-length}

-- ---- lines with their ends

abbrev pub ended : List (List ℕ) → List ℕ
ended lines = flat_map (λ line. line ++ 10 ∷ []) lines

onto-ended : (c d : ℕ) (rest : List ℕ) (lines : List (List ℕ)) → ended lines ≡ d ∷ rest → ended (prepend_to_first_line c lines) ≡ c ∷ d ∷ rest
onto-ended c d rest [] e = absurd cc
onto-ended c d rest (line ∷ lines) e = ap (λ (r : List ℕ). c ∷ r) e

-- A text of complete lines is these lines with their ends.
pub whole-text : (text : List ℕ) → is_whole text ≡ true → ended (ended_lines text) ≡ text
unfolding is_whole ended_lines
whole-text [] h = refl
whole-text (c ∷ []) h = rw h (ap (λ (x : ℕ). x ∷ []) (sym (eqb-true c 10 h)))
whole-text (c ∷ d ∷ rest) h = elim (cases_eq c 10) [
  | inl e ↦ rw (eq-eqb c 10 e, e) (ap (λ (r : List ℕ). 10 ∷ r) (whole-text (d ∷ rest) h))
  | inr ne ↦ rw (ne_eqb c 10 ne) (onto-ended c d rest (ended_lines (d ∷ rest)) (whole-text (d ∷ rest) h))
]

-- ---- words

-- What is known of a number's word.
pub record IsNatural (most : ℕ) (word : List ℕ) (n : ℕ) : Type 0 where
  pub some : is_empty word ≡ false
  pub digits : all_ascii_digits word ≡ true
  pub within : digits_value 10 word ≤ most
  pub value : digits_value 10 word ≡ n

pub none-some : (n : ℕ) → None ≡ Some n → ⊥
none-some n e = cc

if-some : (b : Bool) (m n : ℕ) → (if b then Some m else None) ≡ Some n → (b ≡ true) × (m ≡ n)
if-some true m n e = (refl, cc)
if-some false m n e = absurd (none-some n e)

pub natural-is : (most : ℕ) (word : List ℕ) (n : ℕ) → natural most word ≡ Some n → IsNatural most word n
unfolding natural
natural-is most word n e =
    let both = if-some _ _ n e in
    let parts = and_parts (not (is_empty word)) (all_ascii_digits word && nat_le (digits_value 10 word) most) both.0 in
    let more = and_parts (all_ascii_digits word) (nat_le (digits_value 10 word) most) parts.1 in
    record { some = not-true _ parts.0; digits = more.0; within = leb-true _ most more.1; value = both.1 }

lone : (word : List ℕ) → has_no_leading_zero word ≡ true → get_or word 0 0 ≡ 48 → is_empty word ≡ false → length word ≡ 1
lone [] h e s = absurd cc
lone (c ∷ []) h e s = refl
lone (c ∷ d ∷ rest) h e s = absurd (differ (not-true (c == 48) h) (eq-eqb c 48 e))
  where
    differ : (c == 48) ≡ false → (c == 48) ≡ true → ⊥
    differ p q = cc

-- A number's word without leading zeros is what is written of the number.
pub word-of-natural : (word : List ℕ) (n : ℕ) → natural greatest word ≡ Some n → has_no_leading_zero word ≡ true → word ≡ decimal n
word-of-natural word n e h =
    let is = natural-is greatest word n e in
    let again = decimal-digits_value own-numerals word is.digits (some-length word is.some) (λ z. lone word h z is.some) (omega (arith, is.within)) in
    sym again ∙ ap decimal is.value

-- ---- fields

-- Whether a word is what is written of its meaning.
abbrev pub IsWrittenAs : List ℕ → Option Field → Type 0
IsWrittenAs word None = Unit {0}
IsWrittenAs word (Some End) = word ≡ zero_field
IsWrittenAs word (Some (Number l)) = word ≡ lit_text l

zero-text : decimal 0 ≡ zero_field
unfolding digits
zero-text = refl

positive-written : (word : List ℕ) (o : Option ℕ) → ((n : ℕ) → o ≡ Some n → word ≡ decimal n) → IsWrittenAs word (signed_of true o)
positive-written word None f = tt
positive-written word (Some n) f = elim (cases_eq n 0) [
  | inl e ↦ rw (eq-eqb n 0 e) (f n refl ∙ ap decimal e ∙ zero-text)
  | inr ne ↦ rw (ne_eqb n 0 ne) (f n refl)
]

negative-written : (word rest : List ℕ) (o : Option ℕ) → word ≡ 45 ∷ rest → ((n : ℕ) → o ≡ Some n → rest ≡ decimal n) → IsWrittenAs word (signed_of false o)
negative-written word rest None e f = tt
negative-written word rest (Some n) e f = elim (cases_eq n 0) [
  | inl z ↦ rw (eq-eqb n 0 z) tt
  | inr ne ↦ rw (ne_eqb n 0 ne) (e ∙ ap (λ (r : List ℕ). 45 ∷ r) (f n refl))
]

pub written : (word : List ℕ) → is_shortest word ≡ true → IsWrittenAs word (field_of word)
unfolding field_of is_shortest
written [] h = tt
written (c ∷ rest) h = elim (cases_eq c 45) [
  | inl e ↦
      let short : has_no_leading_zero rest ≡ true = rw (eq-eqb c 45 e) at h in
      rw (eq-eqb c 45 e) (negative-written (c ∷ rest) rest (natural greatest rest) (ap (λ (x : ℕ). x ∷ rest) e) (λ n q. word-of-natural rest n q short))
  | inr ne ↦
      let short : has_no_leading_zero (c ∷ rest) ≡ true = rw (ne_eqb c 45 ne) at h in
      rw (ne_eqb c 45 ne) (positive-written (c ∷ rest) (natural greatest (c ∷ rest)) (λ n q. word-of-natural (c ∷ rest) n q short))
]

-- ---- literals and hints

-- Whether the words are what is written of the literals, and of the rest after them.
pub record AreLits (words : List (List ℕ)) (lits : List Lit) (rest : List (List ℕ)) : Type 0 where
  pub are : words ≡ map lit_text lits ++ zero_field ∷ rest
  pub shortest : list_all is_shortest rest ≡ true

pub err-ok : {A : Type 0} (e : LratErr) (x : A) → Err e ≡ Ok x → ⊥
err-ok e x q = cc

abbrev pub same-result : {A : Type 0} → Result A LratErr → Result A LratErr → Type 0
same-result a b = a ≡ b

pub ok-same : {A : Type 0} (x y : A) → same-result (Ok x) (Ok y) → x ≡ y
ok-same x y e = cc

abbrev more-lits : Lit → Result (List Lit × List (List ℕ)) LratErr → Result (List Lit × List (List ℕ)) LratErr
more-lits l read = read >>= λ x. Ok (l ∷ x.0, x.1)

pub lits-said : (n : ℕ) (words : List (List ℕ)) (lits : List Lit) (rest : List (List ℕ)) → log_lits_at n words ≡ Ok (lits, rest) → list_all is_shortest words ≡ true → AreLits words lits rest
unfolding log_lits_at
lits-said n [] lits rest e h = absurd (err-ok _ _ e)
lits-said n (word ∷ words) lits rest e h = go (field_of word) (written word parts.0) (λ ls r q. lits-said n words ls r q parts.1) e
  where
    parts : (is_shortest word ≡ true) × (list_all is_shortest words ≡ true)
    parts = and_parts _ _ h

    more : (l : Lit) → word ≡ lit_text l → ((ls : List Lit) (r : List (List ℕ)) → log_lits_at n words ≡ Ok (ls, r) → AreLits words ls r) → (r : Result (List Lit × List (List ℕ)) LratErr) → log_lits_at n words ≡ r → more-lits l r ≡ Ok (lits, rest) → AreLits (word ∷ words) lits rest
    more l w rec (Err why) q e = absurd (err-ok _ _ e)
    more l w rec (Ok x) q e =
        let both = ok-same (l ∷ x.0, x.1) (lits, rest) e in
        let these : l ∷ x.0 ≡ lits = ap (λ b. b.0) both in
        let behind : x.1 ≡ rest = ap (λ b. b.1) both in
        let tail = rec x.0 x.1 q in
        record {
          are = rw (← these) (ap (λ (v : List ℕ). v ∷ words) w ∙ ap (λ (r : List (List ℕ)). lit_text l ∷ r) (tail.are ∙ ap (λ (b : List (List ℕ)). map lit_text x.0 ++ zero_field ∷ b) behind));
          shortest = rw (← behind) tail.shortest;
        }

    go : (o : Option Field) → IsWrittenAs word o → ((ls : List Lit) (r : List (List ℕ)) → log_lits_at n words ≡ Ok (ls, r) → AreLits words ls r) → log_lits_or n o words (log_lits_at n words) ≡ Ok (lits, rest) → AreLits (word ∷ words) lits rest
    go None w rec e = absurd (err-ok _ _ e)
    go (Some End) w rec e =
        let both = ok-same ([], words) (lits, rest) e in
        let none : [] ≡ lits = ap (λ b. b.0) both in
        let behind : words ≡ rest = ap (λ b. b.1) both in
        record {
          are = rw (← none) (ap (λ (v : List ℕ). v ∷ words) w ∙ ap (λ (b : List (List ℕ)). zero_field ∷ b) behind);
          shortest = rw (← behind) parts.1;
        }
    go (Some (Number l)) w rec e = more l w rec (log_lits_at n words) refl e

-- If the lines are numbered after the clauses, a hint's place is its number.
place-said : (next k h p : ℕ) → place_in next (run next k) h ≡ Some p → p ≡ h
place-said next zero h p e = absurd (none-some p e)
place-said next (suc k) h p e = elim (cases_eq next h) [
  | inl q ↦ let here : Some next ≡ Some p = rw (eq-eqb next h q) at e in let same : next ≡ p = cc in sym same ∙ q
  | inr ne ↦ place-said (next + 1) k h p (rw (ne_eqb next h ne) at e)
]

hint-said : (clauses k h p : ℕ) → hint_place clauses (run (clauses + 1) k) h ≡ Some p → p ≡ h
unfolding hint_place
hint-said clauses k h p e = elim (cases_lt clauses h) [
  | inl above ↦ place-said (clauses + 1) k h p (rw (lt-leb h clauses above) at e)
  | inr le ↦ let here : Some h ≡ Some p = rw (le-leb h clauses le) at e in let same : h ≡ p = cc in sym same
]

abbrev more-hints : ℕ → Result (List ℕ) LratErr → Result (List ℕ) LratErr
more-hints place read = read >>= λ hints. Ok (place ∷ hints)

pub positive-text : (l : Lit) → l.positive ≡ true → lit_text l ≡ decimal l.var
positive-text l e = rw e refl

pub empty-is : (xs : List (List ℕ)) → is_empty xs ≡ true → xs ≡ []
empty-is [] e = refl
empty-is (x ∷ xs) e = absurd cc

pub hints-said : (n clauses k : ℕ) (words : List (List ℕ)) (hints : List ℕ) → log_hints_at n clauses (run (clauses + 1) k) words ≡ Ok hints → list_all is_shortest words ≡ true
    → words ≡ map decimal hints ++ zero_field ∷ []
unfolding log_hints_at
hints-said n clauses k [] hints e h = absurd (err-ok _ _ e)
hints-said n clauses k (word ∷ words) hints e h = go (field_of word) (written word parts.0) (λ hs q. hints-said n clauses k words hs q parts.1) e
  where
    parts : (is_shortest word ≡ true) × (list_all is_shortest words ≡ true)
    parts = and_parts _ _ h

    more : (v place : ℕ) → word ≡ decimal v → place ≡ v → ((hs : List ℕ) → log_hints_at n clauses (run (clauses + 1) k) words ≡ Ok hs → words ≡ map decimal hs ++ zero_field ∷ []) → (r : Result (List ℕ) LratErr) → log_hints_at n clauses (run (clauses + 1) k) words ≡ r → more-hints place r ≡ Ok hints
        → word ∷ words ≡ map decimal hints ++ zero_field ∷ []
    more v place w p rec (Err why) q e = absurd (err-ok _ _ e)
    more v place w p rec (Ok x) q e =
        let these : place ∷ x ≡ hints = cc in
        let tail = rec x q in
        rw (← these) (ap (λ (u : List ℕ). u ∷ words) (w ∙ ap decimal (sym p)) ∙ ap (λ (r : List (List ℕ)). decimal place ∷ r) tail)

    named : (l : Lit) → word ≡ decimal l.var → ((hs : List ℕ) → log_hints_at n clauses (run (clauses + 1) k) words ≡ Ok hs → words ≡ map decimal hs ++ zero_field ∷ []) → (o : Option ℕ) → hint_place clauses (run (clauses + 1) k) l.var ≡ o
        → (place_or n o >>= λ place. more-hints place (log_hints_at n clauses (run (clauses + 1) k) words)) ≡ Ok hints → word ∷ words ≡ map decimal hints ++ zero_field ∷ []
    named l w rec None q e = absurd (err-ok _ _ e)
    named l w rec (Some place) q e = more l.var place w (hint-said clauses k l.var place q) rec (log_hints_at n clauses (run (clauses + 1) k) words) refl e

    signed : (l : Lit) (b : Bool) → l.positive ≡ b → word ≡ lit_text l → ((hs : List ℕ) → log_hints_at n clauses (run (clauses + 1) k) words ≡ Ok hs → words ≡ map decimal hs ++ zero_field ∷ [])
        → ((if b then place_or n (hint_place clauses (run (clauses + 1) k) l.var) else Err (RatStep n)) >>= λ place. more-hints place (log_hints_at n clauses (run (clauses + 1) k) words)) ≡ Ok hints
        → word ∷ words ≡ map decimal hints ++ zero_field ∷ []
    signed l false p w rec e = absurd (err-ok _ _ e)
    signed l true p w rec e = named l (w ∙ positive-text l p) rec (hint_place clauses (run (clauses + 1) k) l.var) refl e

    last : (b : Bool) → is_empty words ≡ b → word ≡ zero_field → (if b then Ok [] else Err (BadLine n)) ≡ Ok hints → word ∷ words ≡ map decimal hints ++ zero_field ∷ []
    last false p w e = absurd (err-ok _ _ e)
    last true p w e =
        let none : [] ≡ hints = cc in
        rw (← none, empty-is words p) (ap (λ (v : List ℕ). v ∷ []) w)

    go : (o : Option Field) → IsWrittenAs word o → ((hs : List ℕ) → log_hints_at n clauses (run (clauses + 1) k) words ≡ Ok hs → words ≡ map decimal hs ++ zero_field ∷ []) → log_hints_or n clauses (run (clauses + 1) k) o words (log_hints_at n clauses (run (clauses + 1) k) words) ≡ Ok hints
        → word ∷ words ≡ map decimal hints ++ zero_field ∷ []
    go None w rec e = absurd (err-ok _ _ e)
    go (Some End) w rec e = last (is_empty words) refl w e
    go (Some (Number l)) w rec e = signed l l.positive refl w rec e

-- ---- a line

-- Whether one more line was read, and these words are what is written of it.
pub record IsLineSaid (clauses k : ℕ) (before : List Line) (words : List (List ℕ)) (next : LogRead) : Type 0 where
  pub line : Line
  pub next_is : next ≡ record { numbers = run (clauses + 1) (suc k); lines = before ++ line ∷ [] }
  pub words_are : words ≡ log_fields (clauses + 1 + k) line

number-said : (word : List ℕ) (number : ℕ) → 1 ≤ number → natural greatest word ≡ Some number → field_of word ≡ Some (Number (record { var = number; positive = true }))
number-said word number low e =
    let is = natural-is greatest word number e in
    rw (digits-signed word is.digits is.some, e, ne_eqb number 0 (λ q. absurd (omega (arith, low, q)))) refl

no-comment : (word : List ℕ) (number : ℕ) → natural greatest word ≡ Some number → bytes_eq word (codes "c") ≡ false
no-comment word number e = let is = natural-is greatest word number e in not-letter 99 word (omega arith) is.digits is.some

digits-short : (word : List ℕ) → all_ascii_digits word ≡ true → is_shortest word ≡ has_no_leading_zero word
unfolding is_shortest
digits-short [] h = refl
digits-short (c ∷ rest) h =
    let low = leb-true 48 c (and_parts _ _ (and_parts _ _ h).0).0 in
    rw (ne_eqb c 45 (λ q. absurd (omega (arith, low, q)))) refl

pub line-said : (n clauses k : ℕ) (before : List Line) (words : List (List ℕ)) (next : LogRead)
    → after_words n clauses (record { numbers = run (clauses + 1) k; lines = before }) words ≡ Ok next
    → list_all is_shortest words ≡ true → IsNumberedLine (clauses + 1 + k) words → IsLineSaid clauses k before words next
unfolding after_words with_line
line-said n clauses k before [] next e h numbered = absurd numbered
line-said n clauses k before (word ∷ words) next e h numbered = lits (log_lits_at n words) refl step
  where
    parts : (is_shortest word ≡ true) × (list_all is_shortest words ≡ true)
    parts = and_parts _ _ h

    first : word ≡ decimal (clauses + 1 + k)
    first =
        let is = natural-is greatest word (clauses + 1 + k) numbered.0 in
        word-of-natural word (clauses + 1 + k) numbered.0 (sym (digits-short word is.digits) ∙ parts.0)

    step : (log_lits_at n words >>= λ lits. log_hints_at n clauses (run (clauses + 1) k) lits.1 >>= λ hints. Ok (record { numbers = run (clauses + 1) k ++ (clauses + 1 + k) ∷ []; lines = before ++ record { lits = lits.0; hints = hints } ∷ [] })) ≡ Ok next
    step =
        rw (no-comment word (clauses + 1 + k) numbered.0, numbered.1, number-said word (clauses + 1 + k) (omega arith) numbered.0, is-next clauses k) at e

    hints : (x : List Lit × List (List ℕ)) → AreLits words x.0 x.1 → (r : Result (List ℕ) LratErr) → log_hints_at n clauses (run (clauses + 1) k) x.1 ≡ r
        → (r >>= λ hints. Ok (record { numbers = run (clauses + 1) k ++ (clauses + 1 + k) ∷ []; lines = before ++ record { lits = x.0; hints = hints } ∷ [] })) ≡ Ok next → IsLineSaid clauses k before (word ∷ words) next
    hints x are (Err why) q e = absurd (err-ok _ _ e)
    hints x are (Ok hs) q e = record {
      line = record { lits = x.0; hints = hs };
      next_is =
          let same : record { numbers = run (clauses + 1) k ++ (clauses + 1 + k) ∷ []; lines = before ++ record { lits = x.0; hints = hs } ∷ [] } ≡ next = cc in
          sym same ∙ ap (λ (ns : List ℕ). record { numbers = ns; lines = before ++ record { lits = x.0; hints = hs } ∷ [] }) (run-more (clauses + 1) k);
      words_are = ap (λ (v : List ℕ). v ∷ words) first ∙ ap (λ (r : List (List ℕ)). decimal (clauses + 1 + k) ∷ r) (are.are ∙ ap (λ (r : List (List ℕ)). map lit_text x.0 ++ zero_field ∷ r) (hints-said n clauses k x.1 hs q are.shortest));
    }

    lits : (r : Result (List Lit × List (List ℕ)) LratErr) → log_lits_at n words ≡ r
        → (r >>= λ lits. log_hints_at n clauses (run (clauses + 1) k) lits.1 >>= λ hints. Ok (record { numbers = run (clauses + 1) k ++ (clauses + 1 + k) ∷ []; lines = before ++ record { lits = lits.0; hints = hints } ∷ [] })) ≡ Ok next → IsLineSaid clauses k before (word ∷ words) next
    lits (Err why) q e = absurd (err-ok _ _ e)
    lits (Ok x) q e = hints x (lits-said n words x.0 x.1 q parts.1) (log_hints_at n clauses (run (clauses + 1) k) x.1) refl e

-- ---- lines

-- Whether these lines were read, and these bytes are their text.
pub record AreLinesSaid (number : ℕ) (before : List Line) (lines : List (List ℕ)) (state : LogRead) : Type 0 where
  pub more : List Line
  pub lines_are : state.lines ≡ before ++ more
  pub text : ended lines ≡ log_text number more

pub lines-said : (n clauses k : ℕ) (before : List Line) (lines : List (List ℕ)) (state : LogRead)
    → after_log_lines n clauses (record { numbers = run (clauses + 1) k; lines = before }) lines ≡ Ok state
    → ArePlain (clauses + 1 + k) lines → AreLinesSaid (clauses + 1 + k) before lines state
unfolding after_log_lines log_text
lines-said n clauses k before [] state e plain = record {
  more = [];
  lines_are = let same : record { numbers = run (clauses + 1) k; lines = before } ≡ state = cc in sym (ap (λ s. s.lines) same) ∙ sym (append-nil before);
  text = refl;
}
lines-said n clauses k before (line ∷ lines) state e plain = go (after_words n clauses (record { numbers = run (clauses + 1) k; lines = before }) (words_of (without_return line))) refl (λ before q. lines-said (n + 1) clauses (suc k) before lines state q (subst (λ m. ArePlain m lines) next-number plain.1)) e
  where
    next-number : clauses + 1 + k + 1 ≡ clauses + 1 + suc k
    next-number = omega arith

    more : (next : LogRead) → IsLineSaid clauses k before (words_of (without_return line)) next → ((before : List Line) → after_log_lines (n + 1) clauses (record { numbers = run (clauses + 1) (suc k); lines = before }) lines ≡ Ok state → AreLinesSaid (clauses + 1 + suc k) before lines state) → after_log_lines (n + 1) clauses next lines ≡ Ok state → AreLinesSaid (clauses + 1 + k) before (line ∷ lines) state
    more next parsed rec e =
        let rest = rec (before ++ parsed.line ∷ []) (rw parsed.next_is at e) in
        let first : line ≡ with_spaces (log_fields (clauses + 1 + k) parsed.line) = plain.0.spaced ∙ ap with_spaces parsed.words_are in
        record {
          more = parsed.line ∷ rest.more;
          lines_are = rest.lines_are ∙ append_assoc before (parsed.line ∷ []) rest.more;
          text =
              ap (λ (l : List ℕ). (l ++ 10 ∷ []) ++ ended lines) first
              ∙ ap (λ (t : List ℕ). line_of (log_fields (clauses + 1 + k) parsed.line) ++ t) (rest.text ∙ ap (λ (m : ℕ). log_text m rest.more) (sym next-number));
        }

    go : (r : Result LogRead LratErr) → after_words n clauses (record { numbers = run (clauses + 1) k; lines = before }) (words_of (without_return line)) ≡ r → ((before : List Line) → after_log_lines (n + 1) clauses (record { numbers = run (clauses + 1) (suc k); lines = before }) lines ≡ Ok state → AreLinesSaid (clauses + 1 + suc k) before lines state)
        → (r >>= λ next. after_log_lines (n + 1) clauses next lines) ≡ Ok state → AreLinesSaid (clauses + 1 + k) before (line ∷ lines) state
    go (Err why) q rec e = absurd (err-ok _ _ e)
    go (Ok next) q rec e = more next (line-said n clauses k before (words_of (without_return line)) next q plain.0.shortest plain.0.numbered) rec e

-- A plain text is the text of the log that was read.
pub plain-said : (clauses : ℕ) (text : List ℕ) (log : Log) → ArePlain (clauses + 1) (ended_lines text) → log_of text clauses ≡ Ok log → text ≡ log_text (clauses + 1) log.lines
unfolding log_of
plain-said clauses text log plain e = whole (is_whole text) refl e
  where
    first : clauses + 1 ≡ clauses + 1 + 0
    first = omega arith

    parsed : is_whole text ≡ true → (r : Result LogRead LratErr) → after_log_lines 1 clauses empty_log_read (ended_lines text) ≡ r → (r >>= log_read) ≡ Ok log → text ≡ log_text (clauses + 1) log.lines
    parsed w (Err why) q e = absurd (err-ok _ _ e)
    parsed w (Ok state) q e =
        let are = lines-said 1 clauses 0 [] (ended_lines text) state q (subst (λ m. ArePlain m (ended_lines text)) first plain) in
        let lines : state.lines ≡ log.lines = ap (λ (l : Log). l.lines) (let same : record { lines = state.lines } ≡ log = cc in same) in
        sym (whole-text text w) ∙ are.text ∙ ap (λ (m : ℕ). log_text m are.more) (sym first) ∙ ap (λ (ls : List Line). log_text (clauses + 1) ls) (sym are.lines_are ∙ lines)

    whole : (b : Bool) → is_whole text ≡ b → (if b then (after_log_lines 1 clauses empty_log_read (ended_lines text) >>= log_read) else Err Truncated) ≡ Ok log → text ≡ log_text (clauses + 1) log.lines
    whole false w e = absurd (err-ok _ _ e)
    whole true w e = parsed w (after_log_lines 1 clauses empty_log_read (ended_lines text)) refl e
