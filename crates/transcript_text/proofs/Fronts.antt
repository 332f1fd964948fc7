-- What was read before a loop's turn, joined with what is still read; for the loops of the readers.
use Rattle.std.proofs.Common.{◌≡◌, ◌<◌, ◌≤◌, ◌+◌, ◌-◌, ◌∙◌, arith, subst, ℕ, suc, true, false, List, [], ◌∷◌, ◌++◌, Option, Some, None, Result, Ok, Err, refl, sym, ap, append_assoc, append-nil}
use Rattle.pack_defs.specs.Lists.{is_empty}
use Rattle.pack_defs.specs.declared.scenario.Scenario.{Scenario}
use Rattle.clause_db.specs.declared.lit.Lit.{Lit}
use Rattle.rup_check.specs.declared.line.Line.{Line}
use Rattle.lrat_text.specs.declared.field.Field.TheVariants.{End, Number}
use Rattle.transcript_text.specs.declared.error.TextErr.{TextErr}
use Rattle.transcript_text.specs.declared.error.TextErr.TheVariants.{Version, BadLine, Truncated, NoMemory}
use Rattle.pack_defs.specs.Steps.{◌>>=◌}
use Rattle.transcript_text.specs.Steps.{Fails}
use Rattle.transcript_text.specs.Fields.{RemainingLines, RemainingFields, next_line, plain_field, station_above}
use Rattle.transcript_text.specs.LogLines.{lits_at, hints_at, hints_or, log_at, log_line, numbered_line, with_remaining, entries_at, entry_at, entry_line, moves_at, station_field, stations_at}
use Rattle.std.specs.Prelude.{codes}
use Rattle.cert_types.specs.declared.answer.Receipt.{Receipt}
use Rattle.transcript_text.specs.Reading.{FoundReceipt, receipt_at, receipts_at}

-- What is read, with these elements in front.
abbrev pub in_front : {A S : Type 0} → List A → Result (List A × S) TextErr → Result (List A × S) TextErr
in_front front read = read >>= λ x. Ok (front ++ x.0, x.1)

abbrev pub before_all : {A : Type 0} → List A → Result (List A) TextErr → Result (List A) TextErr
before_all front read = read >>= λ xs. Ok (front ++ xs)

-- ---- steps in a row

pub joined-steps : {A B C : Type 0} (r : Result A TextErr) (f : A → Result B TextErr) (g : B → Result C TextErr) → ((r >>= f) >>= g) ≡ (r >>= λ x. f x >>= g)
joined-steps (Ok x) f g = refl
joined-steps (Err e) f g = refl

-- An error of a step is the error of the complete reading.
pub stops : {A B : Type 0} (f : A → Result B TextErr) (e : TextErr) (read : Result A TextErr) (whole : Result B TextErr) → whole ≡ (read >>= f) → Fails e read → Fails e whole
stops f Version read whole w h = w ∙ ap (λ r. r >>= f) h
stops f (BadLine n) read whole w h = w ∙ ap (λ r. r >>= f) h
stops f Truncated read whole w h = w ∙ ap (λ r. r >>= f) h
stops f NoMemory read whole w h = tt

-- Another element in front of what is read.
pub front-more : {A S : Type 0} (front : List A) (x : A) (rest : Result (List A × S) TextErr) → in_front (front ++ x ∷ []) rest ≡ in_front front (rest >>= λ r. Ok (x ∷ r.0, r.1))
front-more front x (Ok r) = ap (λ xs. Ok (xs, r.1)) (append_assoc front (x ∷ []) r.0)
front-more front x (Err e) = refl

pub before-more : {A : Type 0} (front : List A) (x : A) (rest : Result (List A) TextErr) → before_all (front ++ x ∷ []) rest ≡ before_all front (rest >>= λ r. Ok (x ∷ r))
before-more front x (Ok r) = ap (λ xs. Ok xs) (append_assoc front (x ∷ []) r)
before-more front x (Err e) = refl

-- No element in front.
pub front-none : {A S : Type 0} (read : Result (List A × S) TextErr) → in_front [] read ≡ read
front-none (Ok r) = refl
front-none (Err e) = refl

-- A step and then the rest: the step succeeds, or it fails.
pub goes-on : {A S : Type 0} (front : List A) (x : A) (s : S) (one : Result (A × S) TextErr) (many : S → Result (List A × S) TextErr) (now total : Result (List A × S) TextErr)
    → now ≡ (one >>= λ r. many r.1 >>= λ more. Ok (r.0 ∷ more.0, more.1)) → one ≡ Ok (x, s) → in_front front now ≡ total → in_front (front ++ x ∷ []) (many s) ≡ total
goes-on front x s one many now total step e so =
    front-more front x (many s) ∙ sym (ap (in_front front) (step ∙ ap (λ r. r >>= λ r. many r.1 >>= λ more. Ok (r.0 ∷ more.0, more.1)) e)) ∙ so

pub stops-there : {A S : Type 0} (front : List A) (e : TextErr) (one : Result (A × S) TextErr) (many : S → Result (List A × S) TextErr) (now total : Result (List A × S) TextErr)
    → now ≡ (one >>= λ r. many r.1 >>= λ more. Ok (r.0 ∷ more.0, more.1)) → Fails e one → in_front front now ≡ total → Fails e total
stops-there {A} {S} front e one many now total step fails so =
    stops {A = List A × S} (λ r. Ok (front ++ r.0, r.1)) e now total (sym so) (stops (λ r. many r.1 >>= λ more. Ok (r.0 ∷ more.0, more.1)) e one now step fails)

-- Nothing is left to read.
pub ends : {A S : Type 0} (front : List A) (s : S) (now total : Result (List A × S) TextErr) → now ≡ Ok ([], s) → in_front front now ≡ total → total ≡ Ok (front, s)
ends front s now total e so = sym so ∙ ap (in_front front) e ∙ ap (λ xs. Ok (xs, s)) (append-nil front)

-- ---- literals and hints

lits-step : (n : ℕ) (field : List ℕ) (fields more : List (List ℕ)) (l : Lit) → fields ≡ field ∷ more → plain_field field ≡ Some (Number l) → lits_at n fields ≡ (lits_at n more >>= λ x. Ok (l ∷ x.0, x.1))
unfolding lits_at
lits-step n field fields more l e f = rw (e, f) refl

pub lits-more : (front : List Lit) (n : ℕ) (field : List ℕ) (fields more : List (List ℕ)) (l : Lit) (total : Result (List Lit × List (List ℕ)) TextErr) → fields ≡ field ∷ more → plain_field field ≡ Some (Number l)
    → in_front front (lits_at n fields) ≡ total → in_front (front ++ l ∷ []) (lits_at n more) ≡ total
lits-more front n field fields more l total e f so = front-more front l (lits_at n more) ∙ sym (ap (in_front front) (lits-step n field fields more l e f)) ∙ so

pub lits-end : (front : List Lit) (n : ℕ) (field : List ℕ) (fields more : List (List ℕ)) (total : Result (List Lit × List (List ℕ)) TextErr) → fields ≡ field ∷ more → plain_field field ≡ Some End
    → in_front front (lits_at n fields) ≡ total → total ≡ Ok (front, more)
unfolding lits_at
lits-end front n field fields more total e f so = sym so ∙ (rw (e, f) (ap (λ (ls : List Lit). Ok (ls, more)) (append-nil front)))

pub lits-bad : (front : List Lit) (n : ℕ) (field : List ℕ) (fields more : List (List ℕ)) (total : Result (List Lit × List (List ℕ)) TextErr) → fields ≡ field ∷ more → plain_field field ≡ None
    → in_front front (lits_at n fields) ≡ total → total ≡ Err (BadLine n)
unfolding lits_at
lits-bad front n field fields more total e f so = sym so ∙ rw (e, f) refl

pub lits-none : (front : List Lit) (n : ℕ) (fields : List (List ℕ)) (total : Result (List Lit × List (List ℕ)) TextErr) → fields ≡ [] → in_front front (lits_at n fields) ≡ total → total ≡ Err (BadLine n)
unfolding lits_at
lits-none front n fields total e so = sym so ∙ rw e refl

hint-step : (n : ℕ) (field : List ℕ) (fields more : List (List ℕ)) → fields ≡ field ∷ more → hints_at n fields ≡ hints_or n (plain_field field) more (hints_at n more)
unfolding hints_at
hint-step n field fields more e = rw e refl

pub hints-more : (front : List ℕ) (n : ℕ) (field : List ℕ) (fields more : List (List ℕ)) (l : Lit) (total : Result (List ℕ) TextErr) → fields ≡ field ∷ more → plain_field field ≡ Some (Number l) → l.positive ≡ true
    → before_all front (hints_at n fields) ≡ total → before_all (front ++ l.var ∷ []) (hints_at n more) ≡ total
hints-more front n field fields more l total e f p so =
    let step : hints_at n fields ≡ (hints_at n more >>= λ hints. Ok (l.var ∷ hints)) = hint-step n field fields more e ∙ rw (f, p) refl in
    before-more front l.var (hints_at n more) ∙ sym (ap (before_all front) step) ∙ so

pub hints-negative : (front : List ℕ) (n : ℕ) (field : List ℕ) (fields more : List (List ℕ)) (l : Lit) (total : Result (List ℕ) TextErr) → fields ≡ field ∷ more → plain_field field ≡ Some (Number l) → l.positive ≡ false
    → before_all front (hints_at n fields) ≡ total → total ≡ Err (BadLine n)
hints-negative front n field fields more l total e f p so =
    let step : hints_at n fields ≡ Err (BadLine n) = hint-step n field fields more e ∙ rw (f, p) refl in
    sym so ∙ ap (before_all front) step

pub hints-end : (front : List ℕ) (n : ℕ) (field : List ℕ) (fields more : List (List ℕ)) (total : Result (List ℕ) TextErr) → fields ≡ field ∷ more → plain_field field ≡ Some End → is_empty more ≡ true
    → before_all front (hints_at n fields) ≡ total → total ≡ Ok front
hints-end front n field fields more total e f p so =
    let step : hints_at n fields ≡ Ok [] = hint-step n field fields more e ∙ rw (f, p) refl in
    sym so ∙ (ap (before_all front) step ∙ ap (λ (hs : List ℕ). Ok hs) (append-nil front))

pub hints-behind : (front : List ℕ) (n : ℕ) (field : List ℕ) (fields more : List (List ℕ)) (total : Result (List ℕ) TextErr) → fields ≡ field ∷ more → plain_field field ≡ Some End → is_empty more ≡ false
    → before_all front (hints_at n fields) ≡ total → total ≡ Err (BadLine n)
hints-behind front n field fields more total e f p so =
    let step : hints_at n fields ≡ Err (BadLine n) = hint-step n field fields more e ∙ rw (f, p) refl in
    sym so ∙ ap (before_all front) step

pub hints-bad : (front : List ℕ) (n : ℕ) (field : List ℕ) (fields more : List (List ℕ)) (total : Result (List ℕ) TextErr) → fields ≡ field ∷ more → plain_field field ≡ None
    → before_all front (hints_at n fields) ≡ total → total ≡ Err (BadLine n)
hints-bad front n field fields more total e f so =
    let step : hints_at n fields ≡ Err (BadLine n) = hint-step n field fields more e ∙ rw f refl in
    sym so ∙ ap (before_all front) step

pub hints-none : (front : List ℕ) (n : ℕ) (fields : List (List ℕ)) (total : Result (List ℕ) TextErr) → fields ≡ [] → before_all front (hints_at n fields) ≡ total → total ≡ Err (BadLine n)
unfolding hints_at
hints-none front n fields total e so = sym so ∙ rw e refl

-- ---- logs, entries and moves

-- A line is read, and then the lines after it.
tail-steps : {A B : Type 0} (r : Result (RemainingFields × RemainingLines) TextErr) (one : RemainingFields → Result A TextErr) (f : A → RemainingLines → Result B TextErr)
    → ((r >>= λ next. with_remaining next.1 (one next.0)) >>= λ x. f x.0 x.1) ≡ (r >>= λ next. one next.0 >>= λ x. f x next.1)
tail-steps (Ok next) one f = go (one next.0)
  where
    go : (r : Result _ TextErr) → (with_remaining next.1 r >>= λ x. f x.0 x.1) ≡ (r >>= λ x. f x next.1)
    go (Ok x) = refl
    go (Err e) = refl
tail-steps (Err e) one f = refl

pub log-step : (number k m : ℕ) (lines : RemainingLines) → k ≡ suc m → log_at number k lines ≡ (numbered_line number lines >>= λ r. log_at (number + 1) m r.1 >>= λ more. Ok (r.0 ∷ more.0, more.1))
unfolding log_at
log-step number k m lines e = rw e (sym (tail-steps (next_line lines) (log_line number) (λ line left. log_at (number + 1) m left >>= λ more. Ok (line ∷ more.0, more.1))))

pub log-none : (number k : ℕ) (lines : RemainingLines) → k ≡ 0 → log_at number k lines ≡ Ok ([], lines)
unfolding log_at
log-none number k lines e = rw e refl

pub entries-step : (sc : Scenario) (above : Option ℕ) (k m : ℕ) (lines : RemainingLines) → k ≡ suc m
    → entries_at sc above k lines ≡ (entry_line sc (codes "at") above lines >>= λ r. entries_at sc (Some r.0.0) m r.1 >>= λ more. Ok (r.0 ∷ more.0, more.1))
unfolding entries_at
entries-step sc above k m lines e = rw e (sym (tail-steps (next_line lines) (entry_at sc (codes "at") above) (λ entry left. entries_at sc (Some entry.0) m left >>= λ more. Ok (entry ∷ more.0, more.1))))

pub entries-none : (sc : Scenario) (above : Option ℕ) (k : ℕ) (lines : RemainingLines) → k ≡ 0 → entries_at sc above k lines ≡ Ok ([], lines)
unfolding entries_at
entries-none sc above k lines e = rw e refl

pub moves-step : (sc : Scenario) (k m : ℕ) (lines : RemainingLines) → k ≡ suc m
    → moves_at sc k lines ≡ (entry_line sc (codes "move") None lines >>= λ r. moves_at sc m r.1 >>= λ more. Ok (r.0 ∷ more.0, more.1))
unfolding moves_at
moves-step sc k m lines e = rw e (sym (tail-steps (next_line lines) (entry_at sc (codes "move") None) (λ entry left. moves_at sc m left >>= λ more. Ok (entry ∷ more.0, more.1))))

pub moves-none : (sc : Scenario) (k : ℕ) (lines : RemainingLines) → k ≡ 0 → moves_at sc k lines ≡ Ok ([], lines)
unfolding moves_at
moves-none sc k lines e = rw e refl

-- ---- the loops

pub log-goes-on : (front : List Line) (line : Line) (number count i : ℕ) (rest after : RemainingLines) (total : Result (List Line × RemainingLines) TextErr) → i < count → numbered_line (number + i) rest ≡ Ok (line, after)
    → in_front front (log_at (number + i) (count - i) rest) ≡ total → in_front (front ++ line ∷ []) (log_at (number + (i + 1)) (count - (i + 1)) after) ≡ total
log-goes-on front line number count i rest after total l e so =
    let next : number + i + 1 ≡ number + (i + 1) = omega arith in
    subst (λ n. in_front (front ++ line ∷ []) (log_at n (count - (i + 1)) after) ≡ total) next
    (goes-on front line after (numbered_line (number + i) rest) (log_at (number + i + 1) (count - (i + 1))) (log_at (number + i) (count - i) rest) total (log-step (number + i) (count - i) (count - (i + 1)) rest (omega arith)) e so)

pub log-stops : (front : List Line) (e : TextErr) (number count i : ℕ) (rest : RemainingLines) (total : Result (List Line × RemainingLines) TextErr) → i < count → Fails e (numbered_line (number + i) rest)
    → in_front front (log_at (number + i) (count - i) rest) ≡ total → Fails e total
log-stops front e number count i rest total l fails so =
    stops-there front e (numbered_line (number + i) rest) (log_at (number + i + 1) (count - (i + 1))) (log_at (number + i) (count - i) rest) total (log-step (number + i) (count - i) (count - (i + 1)) rest (omega arith)) fails so

pub log-ends : (front : List Line) (number count i : ℕ) (rest : RemainingLines) (total : Result (List Line × RemainingLines) TextErr) → count ≤ i → in_front front (log_at (number + i) (count - i) rest) ≡ total → total ≡ Ok (front, rest)
log-ends front number count i rest total l so = ends front rest (log_at (number + i) (count - i) rest) total (log-none (number + i) (count - i) rest (omega arith)) so

pub entries-goes-on : (sc : Scenario) (front : List (ℕ × ℕ)) (x : ℕ × ℕ) (above : Option ℕ) (count i : ℕ) (rest after : RemainingLines) (total : Result (List (ℕ × ℕ) × RemainingLines) TextErr) → i < count → entry_line sc (codes "at") above rest ≡ Ok (x, after)
    → in_front front (entries_at sc above (count - i) rest) ≡ total → in_front (front ++ x ∷ []) (entries_at sc (Some x.0) (count - (i + 1)) after) ≡ total
entries-goes-on sc front x above count i rest after total l e so =
    front-more front x (entries_at sc (Some x.0) (count - (i + 1)) after)
    ∙ sym (ap (in_front front) (entries-step sc above (count - i) (count - (i + 1)) rest (omega arith) ∙ ap (λ r. r >>= λ r. entries_at sc (Some r.0.0) (count - (i + 1)) r.1 >>= λ more. Ok (r.0 ∷ more.0, more.1)) e)) ∙ so

pub entries-stops : (sc : Scenario) (front : List (ℕ × ℕ)) (e : TextErr) (above : Option ℕ) (count i : ℕ) (rest : RemainingLines) (total : Result (List (ℕ × ℕ) × RemainingLines) TextErr) → i < count → Fails e (entry_line sc (codes "at") above rest)
    → in_front front (entries_at sc above (count - i) rest) ≡ total → Fails e total
entries-stops sc front e above count i rest total l fails so =
    stops {A = List (ℕ × ℕ) × RemainingLines} (λ r. Ok (front ++ r.0, r.1)) e (entries_at sc above (count - i) rest) total (sym so)
    (stops (λ r. entries_at sc (Some r.0.0) (count - (i + 1)) r.1 >>= λ more. Ok (r.0 ∷ more.0, more.1)) e (entry_line sc (codes "at") above rest) (entries_at sc above (count - i) rest) (entries-step sc above (count - i) (count - (i + 1)) rest (omega arith)) fails)

pub entries-ends : (sc : Scenario) (front : List (ℕ × ℕ)) (above : Option ℕ) (count i : ℕ) (rest : RemainingLines) (total : Result (List (ℕ × ℕ) × RemainingLines) TextErr) → count ≤ i → in_front front (entries_at sc above (count - i) rest) ≡ total → total ≡ Ok (front, rest)
entries-ends sc front above count i rest total l so = ends front rest (entries_at sc above (count - i) rest) total (entries-none sc above (count - i) rest (omega arith)) so

pub moves-goes-on : (sc : Scenario) (front : List (ℕ × ℕ)) (x : ℕ × ℕ) (count i : ℕ) (rest after : RemainingLines) (total : Result (List (ℕ × ℕ) × RemainingLines) TextErr) → i < count → entry_line sc (codes "move") None rest ≡ Ok (x, after)
    → in_front front (moves_at sc (count - i) rest) ≡ total → in_front (front ++ x ∷ []) (moves_at sc (count - (i + 1)) after) ≡ total
moves-goes-on sc front x count i rest after total l e so =
    goes-on front x after (entry_line sc (codes "move") None rest) (moves_at sc (count - (i + 1))) (moves_at sc (count - i) rest) total (moves-step sc (count - i) (count - (i + 1)) rest (omega arith)) e so

pub moves-stops : (sc : Scenario) (front : List (ℕ × ℕ)) (e : TextErr) (count i : ℕ) (rest : RemainingLines) (total : Result (List (ℕ × ℕ) × RemainingLines) TextErr) → i < count → Fails e (entry_line sc (codes "move") None rest)
    → in_front front (moves_at sc (count - i) rest) ≡ total → Fails e total
moves-stops sc front e count i rest total l fails so =
    stops-there front e (entry_line sc (codes "move") None rest) (moves_at sc (count - (i + 1))) (moves_at sc (count - i) rest) total (moves-step sc (count - i) (count - (i + 1)) rest (omega arith)) fails so

pub moves-ends : (sc : Scenario) (front : List (ℕ × ℕ)) (count i : ℕ) (rest : RemainingLines) (total : Result (List (ℕ × ℕ) × RemainingLines) TextErr) → count ≤ i → in_front front (moves_at sc (count - i) rest) ≡ total → total ≡ Ok (front, rest)
moves-ends sc front count i rest total l so = ends front rest (moves_at sc (count - i) rest) total (moves-none sc (count - i) rest (omega arith)) so

-- ---- stations of a line

abbrev pub station_or : Scenario → ℕ → Option ℕ → List ℕ → List (List ℕ) → Result (List ℕ) TextErr
station_or sc n above field more = station_field sc n above field >>= λ s. stations_at sc n (Some s) more >>= λ rest. Ok (s ∷ rest)

stations-step : (sc : Scenario) (n : ℕ) (above : Option ℕ) (field : List ℕ) (fields more : List (List ℕ)) → fields ≡ field ∷ more → stations_at sc n above fields ≡ station_or sc n above field more
unfolding stations_at
stations-step sc n above field fields more e = rw e (go (station_above sc above (record { number = n; fields = field ∷ [] })))
  where
    go : (r : Result (ℕ × RemainingFields) TextErr) → (r >>= λ s. stations_at sc n (Some s.0) more >>= λ rest. Ok (s.0 ∷ rest)) ≡ ((r >>= λ s. Ok s.0) >>= λ s. stations_at sc n (Some s) more >>= λ rest. Ok (s ∷ rest))
    go (Ok s) = refl
    go (Err e) = refl

pub stations-more : (sc : Scenario) (n : ℕ) (above : Option ℕ) (front : List ℕ) (s : ℕ) (field : List ℕ) (fields more : List (List ℕ)) (total : Result (List ℕ) TextErr) → fields ≡ field ∷ more → station_field sc n above field ≡ Ok s
    → before_all front (stations_at sc n above fields) ≡ total → before_all (front ++ s ∷ []) (stations_at sc n (Some s) more) ≡ total
stations-more sc n above front s field fields more total e f so =
    before-more front s (stations_at sc n (Some s) more)
    ∙ sym (ap (before_all front) (stations-step sc n above field fields more e ∙ ap (λ r. r >>= λ s. stations_at sc n (Some s) more >>= λ rest. Ok (s ∷ rest)) f)) ∙ so

pub stations-stop : (sc : Scenario) (n : ℕ) (above : Option ℕ) (front : List ℕ) (why : TextErr) (field : List ℕ) (fields more : List (List ℕ)) (total : Result (List ℕ) TextErr) → fields ≡ field ∷ more → Fails why (station_field sc n above field)
    → before_all front (stations_at sc n above fields) ≡ total → Fails why total
stations-stop sc n above front why field fields more total e fails so =
    stops (λ (xs : List ℕ). Ok (front ++ xs)) why (stations_at sc n above fields) total (sym so)
    (stops (λ s. stations_at sc n (Some s) more >>= λ rest. Ok (s ∷ rest)) why (station_field sc n above field) (stations_at sc n above fields) (stations-step sc n above field fields more e) fails)

pub stations-end : (sc : Scenario) (n : ℕ) (above : Option ℕ) (front : List ℕ) (fields : List (List ℕ)) (total : Result (List ℕ) TextErr) → fields ≡ [] → before_all front (stations_at sc n above fields) ≡ total → total ≡ Ok front
unfolding stations_at
stations-end sc n above front fields total e so = sym so ∙ rw e (ap (λ (xs : List ℕ). Ok xs) (append-nil front))

-- ---- receipts

abbrev pub both_in_front : List Receipt × List ℕ → Result ((List Receipt × List ℕ) × RemainingLines) TextErr → Result ((List Receipt × List ℕ) × RemainingLines) TextErr
both_in_front front read = read >>= λ x. Ok ((front.0 ++ x.0.0, front.1 ++ x.0.1), x.1)

abbrev pub receipt_or : Scenario → ℕ → ℕ → RemainingLines → Result ((List Receipt × List ℕ) × RemainingLines) TextErr
receipt_or sc worker m lines =
    receipt_at sc worker lines >>= λ found. receipts_at sc (worker + 1) m found.1 >>= λ rest. Ok ((found.0.receipt ∷ rest.0.0, found.0.first ∷ rest.0.1), rest.1)

receipts-step : (sc : Scenario) (worker k m : ℕ) (lines : RemainingLines) → k ≡ suc m → receipts_at sc worker k lines ≡ receipt_or sc worker m lines
unfolding receipts_at
receipts-step sc worker k m lines e = rw e refl

both-more : (front : List Receipt × List ℕ) (found : FoundReceipt) (rest : Result ((List Receipt × List ℕ) × RemainingLines) TextErr)
    → both_in_front (front.0 ++ found.receipt ∷ [], front.1 ++ found.first ∷ []) rest ≡ both_in_front front (rest >>= λ r. Ok ((found.receipt ∷ r.0.0, found.first ∷ r.0.1), r.1))
both-more front found (Ok r) = rw (append_assoc front.0 (found.receipt ∷ []) r.0.0, append_assoc front.1 (found.first ∷ []) r.0.1) refl
both-more front found (Err e) = refl

pub receipts-goes-on : (sc : Scenario) (front next : List Receipt × List ℕ) (found : FoundReceipt) (count i : ℕ) (rest after : RemainingLines) (total : Result ((List Receipt × List ℕ) × RemainingLines) TextErr) → i < count
    → receipt_at sc i rest ≡ Ok (found, after) → next ≡ (front.0 ++ found.receipt ∷ [], front.1 ++ found.first ∷ []) → both_in_front front (receipts_at sc i (count - i) rest) ≡ total → both_in_front next (receipts_at sc (i + 1) (count - (i + 1)) after) ≡ total
receipts-goes-on sc front next found count i rest after total l e n so =
    rw n (both-more front found (receipts_at sc (i + 1) (count - (i + 1)) after)
    ∙ sym (ap (both_in_front front) (receipts-step sc i (count - i) (count - (i + 1)) rest (omega arith) ∙ ap (λ r. r >>= λ found. receipts_at sc (i + 1) (count - (i + 1)) found.1 >>= λ rest. Ok ((found.0.receipt ∷ rest.0.0, found.0.first ∷ rest.0.1), rest.1)) e)) ∙ so)

pub receipts-stop : (sc : Scenario) (front : List Receipt × List ℕ) (why : TextErr) (count i : ℕ) (rest : RemainingLines) (total : Result ((List Receipt × List ℕ) × RemainingLines) TextErr) → i < count
    → Fails why (receipt_at sc i rest) → both_in_front front (receipts_at sc i (count - i) rest) ≡ total → Fails why total
receipts-stop sc front why count i rest total l fails so =
    stops {A = (List Receipt × List ℕ) × RemainingLines} (λ x. Ok ((front.0 ++ x.0.0, front.1 ++ x.0.1), x.1)) why (receipts_at sc i (count - i) rest) total (sym so)
    (stops (λ found. receipts_at sc (i + 1) (count - (i + 1)) found.1 >>= λ rest. Ok ((found.0.receipt ∷ rest.0.0, found.0.first ∷ rest.0.1), rest.1)) why (receipt_at sc i rest) (receipts_at sc i (count - i) rest) (receipts-step sc i (count - i) (count - (i + 1)) rest (omega arith)) fails)

receipts-none : (sc : Scenario) (i k : ℕ) (rest : RemainingLines) → k ≡ 0 → receipts_at sc i k rest ≡ Ok (([], []), rest)
unfolding receipts_at
receipts-none sc i k rest e = rw e refl

pub receipts-end : (sc : Scenario) (front : List Receipt × List ℕ) (count i : ℕ) (rest : RemainingLines) (total : Result ((List Receipt × List ℕ) × RemainingLines) TextErr) → count ≤ i
    → both_in_front front (receipts_at sc i (count - i) rest) ≡ total → total ≡ Ok (front, rest)
receipts-end sc front count i rest total l so = sym so ∙ ap (both_in_front front) (receipts-none sc i (count - i) rest (omega arith)) ∙ rw (append-nil front.0, append-nil front.1) refl
