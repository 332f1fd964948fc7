-- The lines of logs, maps and receipts that were read equal those that are written of the result.
use Rattle.std.proofs.Common.{◌≡◌, ◌+◌, ◌∙◌, ◌∷◌, ◌++◌, [], ℕ, zero, suc, List, Bool, true, false, ◌==◌, if◌then◌else◌, Option, Some, None, Result, Ok, Err, refl, sym, ap, subst, arith, length, map, eqb-true, decimal, append_assoc}
use Rattle.std.specs.Prelude.{codes}
use Rattle.std.specs.List.{flat_map}
use Rattle.pack_defs.specs.Lists.{is_empty}
use Rattle.pack_defs.specs.declared.scenario.Scenario.{Scenario}
use Rattle.clause_db.specs.declared.lit.Lit.{Lit}
use Rattle.rup_check.specs.declared.line.Line.{Line}
use Rattle.lrat_text.specs.declared.field.Field.{Field}
use Rattle.lrat_text.specs.declared.field.Field.TheVariants.{End, Number}
use Rattle.lrat_text.specs.Lines.{line_of}
use Rattle.lrat_text.specs.Write.{greatest, lit_text, log_fields, log_text, zero_field}
use Rattle.lrat_text.proofs.OneSpelling.{IsWrittenAs, empty-is, positive-text}
use Rattle.transcript_text.specs.declared.error.TextErr.{TextErr}
use Rattle.transcript_text.specs.declared.error.TextErr.TheVariants.{BadLine}
use Rattle.pack_defs.specs.Steps.{◌>>=◌}
use Rattle.transcript_text.specs.Spelling.{entry_text}
use Rattle.transcript_text.specs.Fields.{RemainingFields, RemainingLines, channel_at, line_end, next_line, number_at, plain_field, station_above, word_at}
use Rattle.transcript_text.specs.LogLines.{entries_at, entry_at, hints_at, hints_or, lits_at, lits_or, log_at, log_line, moves_at, stations_at}
use Rattle.transcript_text.proofs.FieldReadLemmas.{above-said, channel-said, end-said, err-ok, left_text, next-said, number-said, ok-same, plain-field-said, word-said}
use Rattle.transcript_text.proofs.Rising.{after-ok}

-- ---- literals and hints

abbrev more-lits : Lit → Result (List Lit × List (List ℕ)) TextErr → Result (List Lit × List (List ℕ)) TextErr
more-lits l read = read >>= λ x. Ok (l ∷ x.0, x.1)

lits-said : (n : ℕ) (fields : List (List ℕ)) (x : List Lit × List (List ℕ)) → lits_at n fields ≡ Ok x → fields ≡ map lit_text x.0 ++ zero_field ∷ x.1
unfolding lits_at
lits-said n [] x e = absurd (err-ok (BadLine n) x e)
lits-said n (field ∷ fields) x e = go (plain_field field) (plain-field-said field) (λ y q. lits-said n fields y q) e
  where
    more : (l : Lit) → field ≡ lit_text l → ((y : List Lit × List (List ℕ)) → lits_at n fields ≡ Ok y → fields ≡ map lit_text y.0 ++ zero_field ∷ y.1) → more-lits l (lits_at n fields) ≡ Ok x → field ∷ fields ≡ map lit_text x.0 ++ zero_field ∷ x.1
    more l w rec e =
        let a = after-ok (lits_at n fields) (λ y. Ok (l ∷ y.0, y.1)) x e in
        let same = ok-same (l ∷ a.0.0, a.0.1) x a.2 in
        ap (λ (v : List ℕ). v ∷ fields) w ∙ ap (λ (r : List (List ℕ)). lit_text l ∷ r) (rec a.0 a.1) ∙ ap (λ (y : List Lit × List (List ℕ)). map lit_text y.0 ++ zero_field ∷ y.1) same

    go : (o : Option Field) → IsWrittenAs field o → ((y : List Lit × List (List ℕ)) → lits_at n fields ≡ Ok y → fields ≡ map lit_text y.0 ++ zero_field ∷ y.1) → lits_or n o fields (lits_at n fields) ≡ Ok x → field ∷ fields ≡ map lit_text x.0 ++ zero_field ∷ x.1
    go None w rec e = absurd (err-ok (BadLine n) x e)
    go (Some End) w rec e =
        let same = ok-same ([], fields) x e in
        ap (λ (v : List ℕ). v ∷ fields) w ∙ ap (λ (y : List Lit × List (List ℕ)). map lit_text y.0 ++ zero_field ∷ y.1) same
    go (Some (Number l)) w rec e = more l w rec e

hints-said : (n : ℕ) (fields : List (List ℕ)) (hints : List ℕ) → hints_at n fields ≡ Ok hints → fields ≡ map decimal hints ++ zero_field ∷ []
unfolding hints_at
hints-said n [] hints e = absurd (err-ok (BadLine n) hints e)
hints-said n (field ∷ fields) hints e = go (plain_field field) (plain-field-said field) (λ hs q. hints-said n fields hs q) e
  where
    last : (b : Bool) → is_empty fields ≡ b → field ≡ zero_field → (if b then Ok [] else Err (BadLine n)) ≡ Ok hints → field ∷ fields ≡ map decimal hints ++ zero_field ∷ []
    last false p w e = absurd (err-ok (BadLine n) hints e)
    last true p w e =
        let none = ok-same [] hints e in
        rw (← none, empty-is fields p) (ap (λ (v : List ℕ). v ∷ []) w)

    more : (l : Lit) (b : Bool) → l.positive ≡ b → field ≡ lit_text l → ((hs : List ℕ) → hints_at n fields ≡ Ok hs → fields ≡ map decimal hs ++ zero_field ∷ [])
        → (if b then (hints_at n fields >>= λ hs. Ok (l.var ∷ hs)) else Err (BadLine n)) ≡ Ok hints → field ∷ fields ≡ map decimal hints ++ zero_field ∷ []
    more l false p w rec e = absurd (err-ok (BadLine n) hints e)
    more l true p w rec e =
        let a = after-ok (hints_at n fields) (λ hs. Ok (l.var ∷ hs)) hints e in
        let same = ok-same (l.var ∷ a.0) hints a.2 in
        ap (λ (v : List ℕ). v ∷ fields) (w ∙ positive-text l p) ∙ ap (λ (r : List (List ℕ)). decimal l.var ∷ r) (rec a.0 a.1) ∙ ap (λ (hs : List ℕ). map decimal hs ++ zero_field ∷ []) same

    go : (o : Option Field) → IsWrittenAs field o → ((hs : List ℕ) → hints_at n fields ≡ Ok hs → fields ≡ map decimal hs ++ zero_field ∷ []) → hints_or n o fields (hints_at n fields) ≡ Ok hints → field ∷ fields ≡ map decimal hints ++ zero_field ∷ []
    go None w rec e = absurd (err-ok (BadLine n) hints e)
    go (Some End) w rec e = last (is_empty fields) refl w e
    go (Some (Number l)) w rec e = more l l.positive refl w rec e

-- ---- logs

log-line-said : (number : ℕ) (line : RemainingFields) (said : Line) → log_line number line ≡ Ok said → line.fields ≡ log_fields number said
unfolding log_line
log-line-said number line said e =
    let own = after-ok (number_at greatest line) _ said e in
    let lits = after-ok (if own.0.0 == number then lits_at line.number own.0.1.fields else Err (BadLine line.number)) _ said own.2 in
    let hints = after-ok (hints_at line.number lits.0.1) _ said lits.2 in
    let same = ok-same (record { lits = lits.0.0; hints = hints.0 }) said hints.2 in
    let tested = go own.0.0 own.0.1.fields (own.0.0 == number) refl lits.0 lits.1 in
    number-said greatest line own.0 (omega arith) own.1
    ∙ ap (λ (m : ℕ). decimal m ∷ own.0.1.fields) tested.0
    ∙ ap (λ (r : List (List ℕ)). decimal number ∷ r) (lits-said line.number own.0.1.fields lits.0 tested.1)
    ∙ ap (λ (r : List (List ℕ)). decimal number ∷ (map lit_text lits.0.0 ++ zero_field ∷ r)) (hints-said line.number lits.0.1 hints.0 hints.1)
    ∙ ap (λ (l : Line). log_fields number l) same
  where
    go : (m : ℕ) (fields : List (List ℕ)) (b : Bool) → (m == number) ≡ b → (x : List Lit × List (List ℕ)) → (if b then lits_at line.number fields else Err (BadLine line.number)) ≡ Ok x → (m ≡ number) × (lits_at line.number fields ≡ Ok x)
    go m fields false p x h = absurd (err-ok (BadLine line.number) x h)
    go m fields true p x h = (eqb-true m number p, h)

-- A line, and then more lines.
pub line-then : (lines : RemainingLines) (next : RemainingFields × RemainingLines) (fields : List (List ℕ)) (text : List ℕ) (rest : RemainingLines) → next_line lines ≡ Ok next → next.0.fields ≡ fields → left_text next.1 ≡ text ++ left_text rest
    → left_text lines ≡ (line_of fields ++ text) ++ left_text rest
line-then lines next fields text rest e f h =
    next-said lines next e ∙ ap (λ (fs : List (List ℕ)). line_of fs ++ left_text next.1) f ∙ ap (λ (t : List ℕ). line_of fields ++ t) h ∙ sym (append_assoc (line_of fields) text (left_text rest))

-- Whether this is the text of a list of `k` elements.
pub record IsListSaid {A : Type 0} (k : ℕ) (lines : RemainingLines) (xs : List A) (text : List ℕ) (rest : RemainingLines) : Type 0 where
  pub count : length xs ≡ k
  pub said : left_text lines ≡ text ++ left_text rest

pub log-said : (number k : ℕ) (lines : RemainingLines) (x : List Line × RemainingLines) → log_at number k lines ≡ Ok x → IsListSaid k lines x.0 (log_text number x.0) x.1
unfolding log_at log_text
log-said number zero lines x e =
    let same = ok-same ([], lines) x e in
    subst (λ (y : List Line × RemainingLines). IsListSaid 0 lines y.0 (log_text number y.0) y.1) same (record { count = refl; said = refl })
log-said number (suc k) lines x e =
    let next = after-ok (next_line lines) _ x e in
    let line = after-ok (log_line number next.0.0) _ x next.2 in
    let rest = after-ok (log_at (number + 1) k next.0.1) _ x line.2 in
    let same = ok-same (line.0 ∷ rest.0.0, rest.0.1) x rest.2 in
    let more = log-said (number + 1) k next.0.1 rest.0 rest.1 in
    subst (λ (y : List Line × RemainingLines). IsListSaid (suc k) lines y.0 (log_text number y.0) y.1) same (record {
      count = ap suc more.count;
      said = line-then lines next.0 (log_fields number line.0) (log_text (number + 1) rest.0.0) rest.0.1 next.1 (log-line-said number next.0.0 line.0 line.1) more.said;
    })

-- ---- entries and moves

entry-said : (sc : Scenario) (word : List ℕ) (above : Option ℕ) (line : RemainingFields) (x : ℕ × ℕ) → entry_at sc word above line ≡ Ok x → line.fields ≡ word ∷ decimal x.0 ∷ decimal x.1 ∷ []
unfolding entry_at
entry-said sc word above line x e =
    let a = after-ok (word_at word line) _ x e in
    let s = after-ok (station_above sc above a.0) _ x a.2 in
    let c = after-ok (channel_at s.0.1) _ x s.2 in
    let u = after-ok (line_end c.0.1) _ x c.2 in
    let same = ok-same (s.0.0, c.0.0) x u.2 in
    word-said word line a.0 a.1
    ∙ ap (λ (r : List (List ℕ)). word ∷ r) (above-said sc above a.0 s.0 s.1)
    ∙ ap (λ (r : List (List ℕ)). word ∷ decimal s.0.0 ∷ r) (channel-said s.0.1 c.0 c.1)
    ∙ ap (λ (r : List (List ℕ)). word ∷ decimal s.0.0 ∷ decimal c.0.0 ∷ r) (end-said c.0.1 u.0 u.1)
    ∙ ap (λ (y : ℕ × ℕ). word ∷ decimal y.0 ∷ decimal y.1 ∷ []) same

pub entries-said : (sc : Scenario) (above : Option ℕ) (k : ℕ) (lines : RemainingLines) (x : List (ℕ × ℕ) × RemainingLines) → entries_at sc above k lines ≡ Ok x → IsListSaid k lines x.0 (flat_map (entry_text (codes "at")) x.0) x.1
unfolding entries_at
entries-said sc above zero lines x e =
    let same = ok-same ([], lines) x e in
    subst (λ (y : List (ℕ × ℕ) × RemainingLines). IsListSaid 0 lines y.0 (flat_map (entry_text (codes "at")) y.0) y.1) same (record { count = refl; said = refl })
entries-said sc above (suc k) lines x e =
    let next = after-ok (next_line lines) _ x e in
    let entry = after-ok (entry_at sc (codes "at") above next.0.0) _ x next.2 in
    let rest = after-ok (entries_at sc (Some entry.0.0) k next.0.1) _ x entry.2 in
    let same = ok-same (entry.0 ∷ rest.0.0, rest.0.1) x rest.2 in
    let more = entries-said sc (Some entry.0.0) k next.0.1 rest.0 rest.1 in
    subst (λ (y : List (ℕ × ℕ) × RemainingLines). IsListSaid (suc k) lines y.0 (flat_map (entry_text (codes "at")) y.0) y.1) same (record {
      count = ap suc more.count;
      said = line-then lines next.0 (codes "at" ∷ decimal entry.0.0 ∷ decimal entry.0.1 ∷ []) (flat_map (entry_text (codes "at")) rest.0.0) rest.0.1 next.1 (entry-said sc (codes "at") above next.0.0 entry.0 entry.1) more.said;
    })

pub moves-said : (sc : Scenario) (k : ℕ) (lines : RemainingLines) (x : List (ℕ × ℕ) × RemainingLines) → moves_at sc k lines ≡ Ok x → IsListSaid k lines x.0 (flat_map (entry_text (codes "move")) x.0) x.1
unfolding moves_at
moves-said sc zero lines x e =
    let same = ok-same ([], lines) x e in
    subst (λ (y : List (ℕ × ℕ) × RemainingLines). IsListSaid 0 lines y.0 (flat_map (entry_text (codes "move")) y.0) y.1) same (record { count = refl; said = refl })
moves-said sc (suc k) lines x e =
    let next = after-ok (next_line lines) _ x e in
    let move = after-ok (entry_at sc (codes "move") None next.0.0) _ x next.2 in
    let rest = after-ok (moves_at sc k next.0.1) _ x move.2 in
    let same = ok-same (move.0 ∷ rest.0.0, rest.0.1) x rest.2 in
    let more = moves-said sc k next.0.1 rest.0 rest.1 in
    subst (λ (y : List (ℕ × ℕ) × RemainingLines). IsListSaid (suc k) lines y.0 (flat_map (entry_text (codes "move")) y.0) y.1) same (record {
      count = ap suc more.count;
      said = line-then lines next.0 (codes "move" ∷ decimal move.0.0 ∷ decimal move.0.1 ∷ []) (flat_map (entry_text (codes "move")) rest.0.0) rest.0.1 next.1 (entry-said sc (codes "move") None next.0.0 move.0 move.1) more.said;
    })

-- ---- stations of a line

pub stations-said : (sc : Scenario) (n : ℕ) (above : Option ℕ) (fields : List (List ℕ)) (ss : List ℕ) → stations_at sc n above fields ≡ Ok ss → fields ≡ map decimal ss
unfolding stations_at
stations-said sc n above [] ss e = ap (λ (xs : List ℕ). map decimal xs) (ok-same [] ss e)
stations-said sc n above (field ∷ fields) ss e =
    let line : RemainingFields = record { number = n; fields = field ∷ [] } in
    let s = after-ok (station_above sc above line) _ ss e in
    let rest = after-ok (stations_at sc n (Some s.0.0) fields) _ ss s.2 in
    let same = ok-same (s.0.0 ∷ rest.0) ss rest.2 in
    let first = first-of (above-said sc above line s.0 s.1) in
    ap (λ (w : List ℕ). w ∷ fields) first ∙ ap (λ (r : List (List ℕ)). decimal s.0.0 ∷ r) (stations-said sc n (Some s.0.0) fields rest.0 rest.1) ∙ ap (λ (xs : List ℕ). map decimal xs) same
  where
    first-of : {word : List ℕ} {more : List (List ℕ)} → field ∷ [] ≡ word ∷ more → field ≡ word
    first-of {word} {more} h = cc
