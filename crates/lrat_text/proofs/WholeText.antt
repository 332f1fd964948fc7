-- A log that was read accounts for the complete text.
use Rattle.std.proofs.Common.{◌≡◌, ◌<◌, ◌≤◌, ◌+◌, ◌-◌, ◌∙◌, ◌∷◌, ◌++◌, [], ℕ, suc, List, Bool, true, false, Option, Some, None, Result, Ok, Err, refl, sym, ap, arith, length, map, get_or, ne_eqb, eq-eqb, inl, inr, if◌then◌else◌, ◌&&◌, ◌⊎◌, append-nil, append_assoc}
use Rattle.std.specs.Prelude.{codes, is_some}
use Rattle.std.specs.Str.{bytes_eq}
use Rattle.std.proofs.lemmas.Bool.{and_parts, cases_eq, cases_lt, le-leb, lt-leb}
use Rattle.std.proofs.lemmas.List.{get_or_append_left}
use Rattle.pack_defs.specs.Lists.{is_ascending, is_empty}
use Rattle.clause_db.specs.declared.lit.Lit.{Lit}
use Rattle.rup_check.specs.declared.line.Line.{Line}
use Rattle.rup_check.specs.declared.line.Log.{Log}
use Rattle.lrat_text.specs.declared.error.LratErr.{LratErr}
use Rattle.lrat_text.specs.declared.error.LratErr.TheVariants.{Truncated, BadLine, RatStep}
use Rattle.lrat_text.specs.declared.field.Field.{Field}
use Rattle.lrat_text.specs.declared.field.Field.TheVariants.{End, Number}
use Rattle.pack_defs.specs.Steps.{◌>>=◌}
use Rattle.lrat_text.specs.Lines.{ended_lines, is_whole, words_of, without_return}
use Rattle.lrat_text.specs.Write.{greatest}
use Rattle.lrat_text.specs.Read.{LogRead, natural, field_of, log_lits_at, log_lits_or, place_in, place_or, hint_place, hint_at, log_hints_at, log_hints_or, is_next, number_or, with_line, deleted_at, deletion, after_deletion_mark, by_second_word, after_words, after_log_lines, log_of, log_read, empty_log_read}
use Rattle.lrat_text.specs.WholeText.{is_passed_over, kept_lines, literal_field, number_field, end_field, line_has_words, lines_have_words, number_in_text, IsWholeText}
use Rattle.lrat_text.proofs.OneSpelling.{err-ok, ok-same, none-some, empty-is}
use Rattle.lrat_text.proofs.ReadLemmas.{next-rises}

-- ---- literals

abbrev more-lits : Lit → Result (List Lit × List (List ℕ)) LratErr → Result (List Lit × List (List ℕ)) LratErr
more-lits l read = read >>= λ x. Ok (l ∷ x.0, x.1)

abbrev pub AreLits : List (List ℕ) → List Lit → List (List ℕ) → Type 0
AreLits words lits rest = map field_of words ≡ map literal_field lits ++ end_field ∷ map field_of rest

pub lits-whole : (n : ℕ) (words : List (List ℕ)) (lits : List Lit) (rest : List (List ℕ)) → log_lits_at n words ≡ Ok (lits, rest) → AreLits words lits rest
unfolding log_lits_at
lits-whole n [] lits rest e = absurd (err-ok _ _ e)
lits-whole n (word ∷ words) lits rest e = go (field_of word) refl (λ ls r q. lits-whole n words ls r q) e
  where
    more : (l : Lit) → field_of word ≡ Some (Number l) → ((ls : List Lit) (r : List (List ℕ)) → log_lits_at n words ≡ Ok (ls, r) → AreLits words ls r)
        → (r : Result (List Lit × List (List ℕ)) LratErr) → log_lits_at n words ≡ r → more-lits l r ≡ Ok (lits, rest) → AreLits (word ∷ words) lits rest
    more l f rec (Err why) q e = absurd (err-ok _ _ e)
    more l f rec (Ok x) q e =
        let both = ok-same (l ∷ x.0, x.1) (lits, rest) e in
        let tail = rec x.0 x.1 q in
        ap (λ (o : Option Field). o ∷ map field_of words) f
        ∙ ap (λ (t : List (Option Field)). literal_field l ∷ t) tail
        ∙ ap (λ b. map literal_field b.0 ++ end_field ∷ map field_of b.1) both

    go : (o : Option Field) → field_of word ≡ o → ((ls : List Lit) (r : List (List ℕ)) → log_lits_at n words ≡ Ok (ls, r) → AreLits words ls r)
        → log_lits_or n o words (log_lits_at n words) ≡ Ok (lits, rest) → AreLits (word ∷ words) lits rest
    go None f rec e = absurd (err-ok _ _ e)
    go (Some End) f rec e =
        let both = ok-same ([], words) (lits, rest) e in
        ap (λ (o : Option Field). o ∷ map field_of words) f ∙ ap (λ b. map literal_field b.0 ++ end_field ∷ map field_of b.1) both
    go (Some (Number l)) f rec e = more l f rec (log_lits_at n words) refl e

-- ---- hints

placed-at : (next : ℕ) (ms : List ℕ) (h p : ℕ) → place_in next ms h ≡ Some p → (next ≤ p) × (p - next < length ms) × (get_or ms (p - next) 0 ≡ h)
placed-at next [] h p e = absurd (none-some p e)
placed-at next (m ∷ ms) h p e = elim (cases_eq m h) [
  | inl q ↦
      let here : Some next ≡ Some p = rw (eq-eqb m h q) at e in
      let same : next ≡ p = cc in
      let none : p - next ≡ 0 = omega (arith, same) in
      (omega (arith, same), omega (arith, same), rw none q)
  | inr ne ↦
      let rest = placed-at (next + 1) ms h p (rw (ne_eqb m h ne) at e) in
      let less : p - next ≡ suc (p - (next + 1)) = omega (arith, rest.0) in
      (omega (arith, rest.0), omega (arith, rest.0, rest.1), rw less rest.2)
]

-- The place of a hint has the number that the hint names.
pub hint-named : (clauses : ℕ) (ns tail : List ℕ) (h p : ℕ) → hint_place clauses ns h ≡ Some p → number_in_text clauses (ns ++ tail) p ≡ h
unfolding hint_place
hint-named clauses ns tail h p e = elim (cases_lt clauses h) [
  | inl above ↦
      let at = placed-at (clauses + 1) ns h p (rw (lt-leb h clauses above) at e) in
      let less : p - clauses - 1 ≡ p - (clauses + 1) = omega (arith, at.0) in
      rw (lt-leb p clauses (omega (arith, at.0)), less) (get_or_append_left ns tail 0 (p - (clauses + 1)) at.1 ∙ at.2)
  | inr le ↦
      let here : Some h ≡ Some p = rw (le-leb h clauses le) at e in
      let same : h ≡ p = cc in
      rw (le-leb p clauses (omega (arith, le, same))) (sym same)
]

-- A positive literal is a number.
pub positive-is : (l : Lit) (n : ℕ) → l.positive ≡ true → l.var ≡ n → literal_field l ≡ number_field n
positive-is l n p e =
    ap (λ (b : Bool). Some (Number (record { var = l.var; positive = b }))) p ∙ ap (λ (v : ℕ). number_field v) e

abbrev more-hints : ℕ → Result (List ℕ) LratErr → Result (List ℕ) LratErr
more-hints place read = read >>= λ hints. Ok (place ∷ hints)

abbrev pub AreHints : (ℕ → ℕ) → List (List ℕ) → List ℕ → Type 0
AreHints named words hints = map field_of words ≡ map (λ place. number_field (named place)) hints ++ end_field ∷ []

-- A hint that was read has its place, and means that place's number.
pub hint-whole : (n clauses : ℕ) (ns tail : List ℕ) (l : Lit) (place : ℕ) → hint_at n clauses ns l ≡ Ok place → literal_field l ≡ number_field (number_in_text clauses (ns ++ tail) place)
hint-whole n clauses ns tail l place e = signed l.positive refl e
  where
    named : l.positive ≡ true → (o : Option ℕ) → hint_place clauses ns l.var ≡ o → place_or n o ≡ Ok place → literal_field l ≡ number_field (number_in_text clauses (ns ++ tail) place)
    named p None q e = absurd (err-ok _ _ e)
    named p (Some at) q e =
        let same = ok-same at place e in
        positive-is l (number_in_text clauses (ns ++ tail) at) p (sym (hint-named clauses ns tail l.var at q)) ∙ ap (λ (k : ℕ). number_field (number_in_text clauses (ns ++ tail) k)) same

    signed : (b : Bool) → l.positive ≡ b → (if b then place_or n (hint_place clauses ns l.var) else Err (RatStep n)) ≡ Ok place → literal_field l ≡ number_field (number_in_text clauses (ns ++ tail) place)
    signed false p e = absurd (err-ok _ _ e)
    signed true p e = named p (hint_place clauses ns l.var) refl e

pub hints-whole : (n clauses : ℕ) (ns tail : List ℕ) (words : List (List ℕ)) (hints : List ℕ) → log_hints_at n clauses ns words ≡ Ok hints → AreHints (number_in_text clauses (ns ++ tail)) words hints
unfolding log_hints_at
hints-whole n clauses ns tail [] hints e = absurd (err-ok _ _ e)
hints-whole n clauses ns tail (word ∷ words) hints e = go (field_of word) refl (λ hs q. hints-whole n clauses ns tail words hs q) e
  where
    more : (l : Lit) (place : ℕ) → field_of word ≡ Some (Number l) → hint_at n clauses ns l ≡ Ok place
        → ((hs : List ℕ) → log_hints_at n clauses ns words ≡ Ok hs → AreHints (number_in_text clauses (ns ++ tail)) words hs)
        → (r : Result (List ℕ) LratErr) → log_hints_at n clauses ns words ≡ r → more-hints place r ≡ Ok hints → AreHints (number_in_text clauses (ns ++ tail)) (word ∷ words) hints
    more l place f at rec (Err why) q e = absurd (err-ok _ _ e)
    more l place f at rec (Ok x) q e =
        let same = ok-same (place ∷ x) hints e in
        ap (λ (o : Option Field). o ∷ map field_of words) (f ∙ hint-whole n clauses ns tail l place at)
        ∙ ap (λ (t : List (Option Field)). number_field (number_in_text clauses (ns ++ tail) place) ∷ t) (rec x q)
        ∙ ap (λ (hs : List ℕ). map (λ k. number_field (number_in_text clauses (ns ++ tail) k)) hs ++ end_field ∷ []) same

    placed : (l : Lit) → field_of word ≡ Some (Number l) → ((hs : List ℕ) → log_hints_at n clauses ns words ≡ Ok hs → AreHints (number_in_text clauses (ns ++ tail)) words hs)
        → (r : Result ℕ LratErr) → hint_at n clauses ns l ≡ r → (r >>= λ place. more-hints place (log_hints_at n clauses ns words)) ≡ Ok hints → AreHints (number_in_text clauses (ns ++ tail)) (word ∷ words) hints
    placed l f rec (Err why) q e = absurd (err-ok _ _ e)
    placed l f rec (Ok place) q e = more l place f q rec (log_hints_at n clauses ns words) refl e

    last : (b : Bool) → is_empty words ≡ b → field_of word ≡ end_field → (if b then Ok [] else Err (BadLine n)) ≡ Ok hints → AreHints (number_in_text clauses (ns ++ tail)) (word ∷ words) hints
    last false p f e = absurd (err-ok _ _ e)
    last true p f e =
        let same = ok-same [] hints e in
        ap (λ (o : Option Field). o ∷ map field_of words) f
        ∙ ap (λ (ws : List (List ℕ)). end_field ∷ map field_of ws) (empty-is words p)
        ∙ ap (λ (hs : List ℕ). map (λ k. number_field (number_in_text clauses (ns ++ tail) k)) hs ++ end_field ∷ []) same

    go : (o : Option Field) → field_of word ≡ o → ((hs : List ℕ) → log_hints_at n clauses ns words ≡ Ok hs → AreHints (number_in_text clauses (ns ++ tail)) words hs)
        → log_hints_or n clauses ns o words (log_hints_at n clauses ns words) ≡ Ok hints → AreHints (number_in_text clauses (ns ++ tail)) (word ∷ words) hints
    go None f rec e = absurd (err-ok _ _ e)
    go (Some End) f rec e = last (is_empty words) refl f e
    go (Some (Number l)) f rec e = placed l f rec (hint_at n clauses ns l) refl e

-- ---- a line

-- Whether a line was skipped and changed nothing.
pub record IsPassed (ns : List ℕ) (before : List Line) (words : List (List ℕ)) (next : LogRead) : Type 0 where
  pub over : is_passed_over words ≡ true
  pub same : next ≡ record { numbers = ns; lines = before }

-- Whether a line that was not skipped is one line of the log, which has the meaning of all its words.
pub record IsKept (clauses : ℕ) (ns : List ℕ) (before : List Line) (words : List (List ℕ)) (next : LogRead) : Type 0 where
  pub kept : is_passed_over words ≡ false
  pub number : ℕ
  pub line : Line
  pub same : next ≡ record { numbers = ns ++ number ∷ []; lines = before ++ line ∷ [] }
  pub rising : is_ascending (clauses ∷ ns ++ number ∷ []) ≡ true
  pub says : (tail : List ℕ) → map field_of words ≡ line_has_words (number_in_text clauses (ns ++ tail)) number line

-- Whether the number of a line is the meaning of its first word, and may be the next.
pub record IsNumber (clauses : ℕ) (ns : List ℕ) (word : List ℕ) (number : ℕ) : Type 0 where
  pub parsed : field_of word ≡ number_field number
  pub next : is_next clauses ns number ≡ true

pub number-whole : (n clauses : ℕ) (ns : List ℕ) (word : List ℕ) (number : ℕ) → number_or n clauses ns (field_of word) ≡ Ok number → IsNumber clauses ns word number
number-whole n clauses ns word number e = go (field_of word) refl e
  where
    tested : (l : Lit) (b : Bool) → (l.positive && is_next clauses ns l.var) ≡ b → field_of word ≡ literal_field l → (if b then Ok l.var else Err (BadLine n)) ≡ Ok number → IsNumber clauses ns word number
    tested l false q f e = absurd (err-ok _ _ e)
    tested l true q f e =
        let same = ok-same l.var number e in
        let parts = and_parts l.positive (is_next clauses ns l.var) q in
        record { parsed = f ∙ positive-is l number parts.0 same; next = rw (← same) parts.1 }

    go : (o : Option Field) → field_of word ≡ o → number_or n clauses ns o ≡ Ok number → IsNumber clauses ns word number
    go None f e = absurd (err-ok _ _ e)
    go (Some End) f e = absurd (err-ok _ _ e)
    go (Some (Number l)) f e = tested l (l.positive && is_next clauses ns l.var) refl f e

-- A line of the log.
pub with-line-whole : (n clauses : ℕ) (ns : List ℕ) (before : List Line) (word : List ℕ) (words : List (List ℕ)) (next : LogRead)
    → with_line n clauses (record { numbers = ns; lines = before }) word words ≡ Ok next → is_ascending (clauses ∷ ns) ≡ true → is_passed_over (word ∷ words) ≡ false
    → IsKept clauses ns before (word ∷ words) next
unfolding with_line
with-line-whole n clauses ns before word words next e up kept = number (number_or n clauses ns (field_of word)) refl e
  where
    hints : (k : ℕ) → IsNumber clauses ns word k → (x : List Lit × List (List ℕ)) → AreLits words x.0 x.1 → (r : Result (List ℕ) LratErr) → log_hints_at n clauses ns x.1 ≡ r
        → (r >>= λ hs. Ok (record { numbers = ns ++ k ∷ []; lines = before ++ record { lits = x.0; hints = hs } ∷ [] })) ≡ Ok next → IsKept clauses ns before (word ∷ words) next
    hints k is x are (Err why) q e = absurd (err-ok _ _ e)
    hints k is x are (Ok hs) q e = record {
      kept = kept;
      number = k;
      line = record { lits = x.0; hints = hs };
      same = sym (ok-same (record { numbers = ns ++ k ∷ []; lines = before ++ record { lits = x.0; hints = hs } ∷ [] }) next e);
      rising = next-rises clauses ns k up is.next;
      says = λ tail.
          ap (λ (o : Option Field). o ∷ map field_of words) is.parsed
          ∙ ap (λ (t : List (Option Field)). number_field k ∷ t) (are ∙ ap (λ (t : List (Option Field)). map literal_field x.0 ++ end_field ∷ t) (hints-whole n clauses ns tail x.1 hs q));
    }

    lits : (k : ℕ) → IsNumber clauses ns word k → (r : Result (List Lit × List (List ℕ)) LratErr) → log_lits_at n words ≡ r
        → (r >>= λ x. log_hints_at n clauses ns x.1 >>= λ hs. Ok (record { numbers = ns ++ k ∷ []; lines = before ++ record { lits = x.0; hints = hs } ∷ [] })) ≡ Ok next → IsKept clauses ns before (word ∷ words) next
    lits k is (Err why) q e = absurd (err-ok _ _ e)
    lits k is (Ok x) q e = hints k is x (lits-whole n words x.0 x.1 q) (log_hints_at n clauses ns x.1) refl e

    number : (r : Result ℕ LratErr) → number_or n clauses ns (field_of word) ≡ r
        → (r >>= λ k. log_lits_at n words >>= λ x. log_hints_at n clauses ns x.1 >>= λ hs. Ok (record { numbers = ns ++ k ∷ []; lines = before ++ record { lits = x.0; hints = hs } ∷ [] })) ≡ Ok next → IsKept clauses ns before (word ∷ words) next
    number (Err why) q e = absurd (err-ok _ _ e)
    number (Ok k) q e = lits k (number-whole n clauses ns word k q) (log_lits_at n words) refl e

-- A deletion changes nothing.
deletion-whole : (n : ℕ) (state : LogRead) (word : List ℕ) (words : List (List ℕ)) (next : LogRead) → deletion n state word words ≡ Ok next → next ≡ state
unfolding deletion
deletion-whole n state word words next e = go (is_some (natural greatest word)) e
  where
    rest : (r : Result (Unit {0}) LratErr) → (r >>= λ u. Ok state) ≡ Ok next → next ≡ state
    rest (Err why) e = absurd (err-ok _ _ e)
    rest (Ok u) e = sym (ok-same state next e)

    go : (b : Bool) → (if b then (deleted_at n words >>= λ u. Ok state) else Err (BadLine n)) ≡ Ok next → next ≡ state
    go false e = absurd (err-ok _ _ e)
    go true e = rest (deleted_at n words) e

pub line-whole : (n clauses : ℕ) (ns : List ℕ) (before : List Line) (words : List (List ℕ)) (next : LogRead)
    → after_words n clauses (record { numbers = ns; lines = before }) words ≡ Ok next → is_ascending (clauses ∷ ns) ≡ true
    → IsPassed ns before words next ⊎ IsKept clauses ns before words next
unfolding after_words
line-whole n clauses ns before [] next e up = inl (record { over = refl; same = sym (ok-same (record { numbers = ns; lines = before }) next e) })
line-whole n clauses ns before (word ∷ words) next e up = comment (bytes_eq word (codes "c")) refl e
  where
    second : bytes_eq word (codes "c") ≡ false → (o : Option (List (List ℕ))) → after_deletion_mark words ≡ o → by_second_word n clauses (record { numbers = ns; lines = before }) word words o ≡ Ok next
        → IsPassed ns before (word ∷ words) next ⊎ IsKept clauses ns before (word ∷ words) next
    second c None d e = inr (with-line-whole n clauses ns before word words next e up (rw (c, d) refl))
    second c (Some gone) d e = inl (record { over = rw (c, d) refl; same = deletion-whole n (record { numbers = ns; lines = before }) word gone next e })

    comment : (b : Bool) → bytes_eq word (codes "c") ≡ b → (if b then Ok (record { numbers = ns; lines = before }) else by_second_word n clauses (record { numbers = ns; lines = before }) word words (after_deletion_mark words)) ≡ Ok next
        → IsPassed ns before (word ∷ words) next ⊎ IsKept clauses ns before (word ∷ words) next
    comment true c e = inl (record { over = rw c refl; same = sym (ok-same (record { numbers = ns; lines = before }) next e) })
    comment false c e = second c (after_deletion_mark words) refl e

-- ---- lines

-- Whether what was read with these lines accounts for each line that is not skipped.
pub record AreWhole (clauses : ℕ) (ns : List ℕ) (before : List Line) (lines : List (List ℕ)) (state : LogRead) : Type 0 where
  pub numbers : List ℕ
  pub more : List Line
  pub many : length numbers ≡ length more
  pub same : state ≡ record { numbers = ns ++ numbers; lines = before ++ more }
  pub rising : is_ascending (clauses ∷ ns ++ numbers) ≡ true
  pub says : map (map field_of) (kept_lines lines) ≡ lines_have_words (number_in_text clauses (ns ++ numbers)) numbers more

over-lines : (line : List ℕ) (lines : List (List ℕ)) → is_passed_over (words_of (without_return line)) ≡ true → kept_lines (line ∷ lines) ≡ kept_lines lines
unfolding kept_lines
over-lines line lines e = rw e refl

kept-line : (line : List ℕ) (lines : List (List ℕ)) → is_passed_over (words_of (without_return line)) ≡ false → kept_lines (line ∷ lines) ≡ words_of (without_return line) ∷ kept_lines lines
unfolding kept_lines
kept-line line lines e = rw e refl

-- Another line in front.
join-kept : (clauses : ℕ) (ns : List ℕ) (before : List Line) (line : List ℕ) (lines : List (List ℕ)) (next state : LogRead) (kept : IsKept clauses ns before (words_of (without_return line)) next)
    → AreWhole clauses (ns ++ kept.number ∷ []) (before ++ kept.line ∷ []) lines state → AreWhole clauses ns before (line ∷ lines) state
join-kept clauses ns before line lines next state kept rest =
    let numbers = append_assoc ns (kept.number ∷ []) rest.numbers in
    let these = append_assoc before (kept.line ∷ []) rest.more in
    record {
      numbers = kept.number ∷ rest.numbers;
      more = kept.line ∷ rest.more;
      many = ap (λ (k : ℕ). suc k) rest.many;
      same = rest.same ∙ (rw (numbers, these) refl);
      rising = rw numbers at rest.rising;
      says =
          ap (map (map field_of)) (kept-line line lines kept.kept)
          ∙ ap (λ (f : List (Option Field)). f ∷ map (map field_of) (kept_lines lines)) (kept.says (kept.number ∷ rest.numbers))
          ∙ ap (λ (t : List (List (Option Field))). line_has_words (number_in_text clauses (ns ++ kept.number ∷ rest.numbers)) kept.number kept.line ∷ t)
          (rest.says ∙ ap (λ (all : List ℕ). lines_have_words (number_in_text clauses all) rest.numbers rest.more) numbers);
    }

pub lines-whole : (n clauses : ℕ) (ns : List ℕ) (before : List Line) (lines : List (List ℕ)) (state : LogRead)
    → after_log_lines n clauses (record { numbers = ns; lines = before }) lines ≡ Ok state → is_ascending (clauses ∷ ns) ≡ true → AreWhole clauses ns before lines state
unfolding after_log_lines kept_lines
lines-whole n clauses ns before [] state e up = record {
  numbers = [];
  more = [];
  many = refl;
  same = sym (ok-same (record { numbers = ns; lines = before }) state e) ∙ (rw (append-nil ns, append-nil before) refl);
  rising = rw (append-nil ns) up;
  says = refl;
}
lines-whole n clauses ns before (line ∷ lines) state e up =
    go (after_words n clauses (record { numbers = ns; lines = before }) (words_of (without_return line))) refl (λ ms bs q u. lines-whole (n + 1) clauses ms bs lines state q u) e
  where
    one : (next : LogRead) → IsPassed ns before (words_of (without_return line)) next ⊎ IsKept clauses ns before (words_of (without_return line)) next
        → ((ms : List ℕ) (bs : List Line) → after_log_lines (n + 1) clauses (record { numbers = ms; lines = bs }) lines ≡ Ok state → is_ascending (clauses ∷ ms) ≡ true → AreWhole clauses ms bs lines state)
        → after_log_lines (n + 1) clauses next lines ≡ Ok state → AreWhole clauses ns before (line ∷ lines) state
    one next (inl passed) rec e =
        let rest = rec ns before (rw passed.same at e) up in
        record {
          numbers = rest.numbers;
          more = rest.more;
          many = rest.many;
          same = rest.same;
          rising = rest.rising;
          says = ap (map (map field_of)) (over-lines line lines passed.over) ∙ rest.says;
        }
    one next (inr kept) rec e =
        let rest = rec (ns ++ kept.number ∷ []) (before ++ kept.line ∷ []) (rw kept.same at e) kept.rising in
        join-kept clauses ns before line lines next state kept rest

    go : (r : Result LogRead LratErr) → after_words n clauses (record { numbers = ns; lines = before }) (words_of (without_return line)) ≡ r
        → ((ms : List ℕ) (bs : List Line) → after_log_lines (n + 1) clauses (record { numbers = ms; lines = bs }) lines ≡ Ok state → is_ascending (clauses ∷ ms) ≡ true → AreWhole clauses ms bs lines state)
        → (r >>= λ next. after_log_lines (n + 1) clauses next lines) ≡ Ok state → AreWhole clauses ns before (line ∷ lines) state
    go (Err why) q rec e = absurd (err-ok _ _ e)
    go (Ok next) q rec e = one next (line-whole n clauses ns before (words_of (without_return line)) next q up) rec e

-- A log that was read accounts for the complete text.
pub text-whole : (clauses : ℕ) (text : List ℕ) (log : Log) → log_of text clauses ≡ Ok log → IsWholeText clauses text log
unfolding log_of
text-whole clauses text log e = whole (is_whole text) e
  where
    parsed : (r : Result LogRead LratErr) → after_log_lines 1 clauses empty_log_read (ended_lines text) ≡ r → (r >>= log_read) ≡ Ok log → IsWholeText clauses text log
    parsed (Err why) q e = absurd (err-ok _ _ e)
    parsed (Ok state) q e =
        let are = lines-whole 1 clauses [] [] (ended_lines text) state q refl in
        let lines : are.more ≡ log.lines = sym (ap (λ s. s.lines) are.same) ∙ ap (λ (l : Log). l.lines) (ok-same (record { lines = state.lines }) log e) in
        record {
          numbers = are.numbers;
          many = are.many ∙ ap (λ (ls : List Line). length ls) lines;
          rising = are.rising;
          parsed = are.says ∙ ap (λ (ls : List Line). lines_have_words (number_in_text clauses are.numbers) are.numbers ls) lines;
        }

    whole : (b : Bool) → (if b then (after_log_lines 1 clauses empty_log_read (ended_lines text) >>= log_read) else Err Truncated) ≡ Ok log → IsWholeText clauses text log
    whole false e = absurd (err-ok _ _ e)
    whole true e = parsed (after_log_lines 1 clauses empty_log_read (ended_lines text)) refl e
