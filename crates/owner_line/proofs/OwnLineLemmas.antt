-- When a station of a live auction goes on air, by its owner's lines and the answers to its tests. An owners' file has no line of a
-- round after the last fall.
use Rattle.std.proofs.Common.{◌≡◌, ◌↔◌, ℕ, ◌+◌, ◌-◌, ◌<◌, ◌≤◌, Bool, true, false, not, ◌&&◌, ◌||◌, cond, eqb, ltb, ◌⊎◌, inl, inr, List, [], ◌∷◌, ◌++◌, Option, Some, None, Result, Ok, Err, Contains, refl, sym, ap, ◌∙◌, subst, arith, le_refl}
use Rattle.std.specs.Bool.{MatchBool}
use Rattle.std.specs.Option.{ok_or, option_map}
use Rattle.std.proofs.lemmas.Bool.{false≢true, true≢false, eqb-true, eqb-false, and_from, and_right, and_parts, or_parts, or_cases, cond-true, cond-false, not-true, not-false, false_from_ne_true, ltb-false}
use Rattle.std.proofs.lemmas.List.Elements.{Contains-push_cases}
use Rattle.constraint_files.specs.Field.{number}
use Rattle.constraint_files.specs.Records.{line_records, lines_of}
use Rattle.pack_defs.specs.Book.{BookView}
use Rattle.pack_defs.specs.Lists.{is_in}
use Rattle.pack_defs.specs.declared.order.Order.{Order}
use Rattle.pack_defs.specs.declared.owners.OwnerLine.{OwnerLine}
use Rattle.pack_defs.specs.declared.scenario.Scenario.{Scenario}
use Rattle.pack_defs.specs.Scenario.{StationsAscend, facilities, with_owners}
use Rattle.pack_defs.specs.Prices.{offer, stays, has_line_for, declines, bidders, last_round}
use Rattle.pack_defs.specs.ClockRule.{ClockTest, ClockState, bidders_in_order, clock_tests, opening_state, is_active, is_listed, has_room, after_test, clock_rule}
use Rattle.pack_defs.specs.ResultRows.{Outcome, Start, Exit, Frozen, Undecided, ResultRow, on_air_row, row_of}
use Rattle.pack_defs.specs.TestAnswer.{TestAnswer, answers_from, test_answers, row_from_answers}
use Rattle.pack_defs.proofs.Members.{Contains-here, Contains-there, Contains-nil, Contains-cons_cases, Contains-filter, is_in-from, list_any-gives}
use Rattle.pack_defs.proofs.ClockSteps.{stays_inactive}
use Rattle.pack_defs.proofs.Rivals.{OneEachRound}
use Rattle.pack_defs.proofs.Rounds.{one_each_round}
use Rattle.pack_defs.proofs.RoundOrderLemmas.{bidders-apart, bidder-comes}
use Rattle.pack_defs.proofs.OneRow.{row-by_answers}
use Rattle.owner_line.specs.OwnersOf.{stay_of_word, line_on, line_from, owner_line, with_owner_line, with_record, with_records, after_owner_line, with_file_lines, owners_of}
use Rattle.owner_line.specs.OwnLines.{LeavesIn, FitsUpTo}
use Rattle.pack_defs.specs.Steps.{◌>>=◌}
use Rattle.owner_line.specs.declared.error.OwnerWhy.{OwnerWhy}
use Rattle.owner_line.specs.declared.error.OwnerWhy.TheVariants.{BadNumber, RoundRange, UnknownStation, BadWord, Repeated}

-- ---- a station gets one answer a round, from round 1 on, until it is settled

-- The answers are to tests of consecutive rounds, from round k on.
abbrev CountsFrom : ℕ → List TestAnswer → Type 0
CountsFrom k [] = Unit {0}
CountsFrom k (x ∷ xs) = (x.round ≡ k) × CountsFrom (k + 1) xs

module _ (book : BookView) (undecided : List ClockTest) (sc : Scenario) (s : ℕ) where
  -- A test that gives the station no answer.
  untold : (t : ClockTest) (ts : List ClockTest) (st : ClockState) → (is_active st s && (eqb t.station s)) ≡ false → answers_from sc book undecided (t ∷ ts) st s ≡ answers_from sc book undecided ts (after_test sc book undecided st t) s
  untold t ts st unasked = cond-false (is_active st s && (eqb t.station s)) _ _ unasked

  -- A station that isn't active gets no answer.
  none-told : (ts : List ClockTest) (st : ClockState) → is_active st s ≡ false → answers_from sc book undecided ts st s ≡ []
  none-told [] st idle = refl
  none-told (t ∷ ts) st idle =
      untold t ts st (ap (λ b. b && (eqb t.station s)) idle) ∙ none-told ts (after_test sc book undecided st t) (stays_inactive book undecided sc st t s idle)

  -- The answers to one test a round are of consecutive rounds.
  counts : (k : ℕ) (ts : List ClockTest) (st : ClockState) → OneEachRound s k ts → CountsFrom (k + 1) (answers_from sc book undecided ts st s)
  counts k [] st each = tt
  counts k (t ∷ ts) st each =
      let next : ClockState = after_test sc book undecided st t in
      let now : TestAnswer = record { round = t.round; room = has_room sc book undecided st t; undecided = is_listed undecided t } in
      (elim (is_active st s) as (λ b. is_active st s ≡ b → CountsFrom (k + 1) (answers_from sc book undecided (t ∷ ts) st s)) [
        | true ↦ λ active. (elim (eqb t.station s) as (λ b. eqb t.station s ≡ b → MatchBool b ((t.round ≡ k + 1) × OneEachRound s (k + 1) ts) (OneEachRound s k ts) → CountsFrom (k + 1) (answers_from sc book undecided (t ∷ ts) st s)) [
          | true ↦ λ own one.
              let is : answers_from sc book undecided (t ∷ ts) st s ≡ now ∷ answers_from sc book undecided ts next s = cond-true (is_active st s && (eqb t.station s)) _ _ (and_from _ _ active own) in
              subst (λ xs. CountsFrom (k + 1) xs) (sym is) (one.0, counts (k + 1) ts next one.1)
          | false ↦ λ other one. subst (λ xs. CountsFrom (k + 1) xs) (sym (untold t ts st (and_right _ _ other))) (counts k ts next one)
        ]) refl each
        | false ↦ λ idle. subst (λ xs. CountsFrom (k + 1) xs) (sym (none-told (t ∷ ts) st idle)) tt
      ]) refl

-- The answers to a bidder's tests are of consecutive rounds, from the first on.
told-counts : (sc : Scenario) (book : BookView) (order : Order) (undecided : List ClockTest) (s : ℕ) → StationsAscend sc → Contains (facilities sc) s → declines sc s 0 ≡ false → CountsFrom 1 (test_answers sc book order undecided s)
unfolding test_answers
told-counts sc book order undecided s ascend known bids =
    counts book undecided sc s 0 (clock_tests sc order) (opening_state sc)
    (one_each_round s 0 (last_round sc) (bidders_in_order sc order) (bidders-apart sc order ascend)
    (bidder-comes sc order s (is_in-from (bidders sc) s (Contains-filter (λ t. not (declines sc t 0)) (facilities sc) s known (ap not bids)))))

-- ---- the first round without a line to stay, among the rounds from k on

-- `LeavesIn` and `FitsUpTo`, with k in place of 1.
record LeavesFrom (sc : Scenario) (lines : List OwnerLine) (s k r : ℕ) : Type 0 where
  pub begun : k ≤ r
  pub ended : r ≤ last_round sc
  pub leaves : (r ≡ last_round sc) ⊎ (stays lines r s ≡ false)
  pub stayed : (q : ℕ) → k ≤ q → q < r → stays lines q s ≡ true

abbrev FitsFrom : List TestAnswer → ℕ → ℕ → Type 0
FitsFrom xs k r = (q : ℕ) → k ≤ q → q ≤ r → (x : TestAnswer) × Contains xs x × (x.round ≡ q) × (x.room ≡ true)

-- By these lines the station leaves in this round.
abbrev is_out : Scenario → List OwnerLine → ℕ → ℕ → Bool
is_out sc lines s r = (eqb r (last_round sc)) || not (stays lines r s)

from-next : (k q : ℕ) → k ≤ q → (k ≡ q) ⊎ (k + 1 ≤ q)
from-next k q within =
    (elim (eqb k q) as (λ b. eqb k q ≡ b → (k ≡ q) ⊎ (k + 1 ≤ q)) [
      | true ↦ λ same. inl (eqb-true k q same)
      | false ↦ λ other. let apart = eqb-false k q other in inr (omega (arith, apart, within))
    ]) refl

-- The station goes on air at the first of some answers.
out-now : (sc : Scenario) (lines : List OwnerLine) (s k r : ℕ) (x : TestAnswer) (xs : List TestAnswer) → k ≤ last_round sc → x.round ≡ k → x.room ≡ true → is_out sc lines s x.round ≡ true → x.round ≡ r → LeavesFrom sc lines s k r × FitsFrom (x ∷ xs) k r
out-now sc lines s k r x xs within at room out here = (
  record {
    begun = omega (arith, at, here);
    ended = omega (arith, at, here, within);
    leaves = subst (λ z. (z ≡ last_round sc) ⊎ (stays lines z s ≡ false)) here
        (elim (or_cases (eqb x.round (last_round sc)) (not (stays lines x.round s)) out) [
          | inl last ↦ inl (eqb-true x.round (last_round sc) last)
          | inr away ↦ inr (not-true (stays lines x.round s) away)
        ]);
    stayed = λ q from before. absurd (omega (arith, at, here, from, before));
  },
  λ q from to. (x, Contains-here x xs, omega (arith, at, here, from, to), room),
)

-- The station stays at the first of some answers.
out-later : (sc : Scenario) (lines : List OwnerLine) (s k r : ℕ) (x : TestAnswer) (xs : List TestAnswer) → x.round ≡ k → x.room ≡ true → is_out sc lines s x.round ≡ false → LeavesFrom sc lines s (k + 1) r × FitsFrom xs (k + 1) r → LeavesFrom sc lines s k r × FitsFrom (x ∷ xs) k r
out-later sc lines s k r x xs at room out later =
    let parts = or_parts (eqb x.round (last_round sc)) (not (stays lines x.round s)) out in
    let begun = later.0.begun in (
      record {
        begun = omega (arith, begun);
        ended = later.0.ended;
        leaves = later.0.leaves;
        stayed = λ q from before. elim (from-next k q from) [
          | inl here ↦ subst (λ z. stays lines z s ≡ true) (at ∙ here) (not-false (stays lines x.round s) parts.1)
          | inr after ↦ later.0.stayed q after before
        ];
      },
      λ q from to. elim (from-next k q from) [
        | inl here ↦ (x, Contains-here x xs, at ∙ here, room)
        | inr after ↦ let (y, there, is, fit) = later.1 q after to in (y, Contains-there x y xs there, is, fit)
      ],
    )

-- ---- a row on air and a row of a frozen station

abbrev is_frozen_outcome : Outcome → Bool
is_frozen_outcome Start = false
is_frozen_outcome Exit = false
is_frozen_outcome Frozen = true
is_frozen_outcome Undecided = true

abbrev froze : Option ResultRow → Bool
froze None = false
froze (Some row) = is_frozen_outcome row.outcome

abbrev round_in : Option ResultRow → ℕ
round_in None = 0
round_in (Some row) = row.round

abbrev is_row : Option ResultRow → Bool
is_row None = false
is_row (Some row) = true

abbrev air : ℕ → ℕ → Option ResultRow
air s r = Some (on_air_row (record { station = s; round = r }))

on-air : (b : Bool) → is_frozen_outcome (cond b Start Exit) ≡ false
on-air true = refl
on-air false = refl

in-frost : (b : Bool) → is_frozen_outcome (cond b Undecided Frozen) ≡ true
in-frost true = refl
in-frost false = refl

not-both : (s r : ℕ) (b : Bool) (row : ResultRow) → row.outcome ≡ cond b Undecided Frozen → Some row ≡ air s r → ⊥
not-both s r b row outcome is = false≢true (sym (on-air (eqb r 0)) ∙ (sym (ap froze is) ∙ (ap is_frozen_outcome outcome ∙ in-frost b)))

-- ---- the row that the answers determine

-- A station that goes on air leaves in that round, and each of its tests fits.
went : (sc : Scenario) (lines : List OwnerLine) (s k r : ℕ) (xs : List TestAnswer) → k ≤ last_round sc → CountsFrom k xs → row_from_answers (with_owners sc (Some lines)) s xs ≡ air s r → LeavesFrom sc lines s k r × FitsFrom xs k r
went sc lines s k r [] within counts is = absurd (false≢true (ap is_row is))
went sc lines s k r (x ∷ xs) within counts is =
    let live : Scenario = with_owners sc (Some lines) in
    let out : Bool = is_out sc lines s x.round in
    let rest : Option ResultRow = row_from_answers live s xs in
    let frozen : ResultRow = record { facility = s; outcome = cond x.undecided Undecided Frozen; round = x.round; price = offer live s (x.round - 1) } in
    (elim x.room as (λ b. x.room ≡ b → cond b (cond out (air s x.round) rest) (Some frozen) ≡ air s r → LeavesFrom sc lines s k r × FitsFrom (x ∷ xs) k r) [
      | true ↦ λ room. (elim out as (λ b. out ≡ b → cond b (air s x.round) rest ≡ air s r → LeavesFrom sc lines s k r × FitsFrom (x ∷ xs) k r) [
        | true ↦ λ leaves here. out-now sc lines s k r x xs within counts.0 room leaves (ap round_in here)
        | false ↦ λ on later.
            let other = eqb-false x.round (last_round sc) (or_parts (eqb x.round (last_round sc)) (not (stays lines x.round s)) on).0 in
            let at = counts.0 in
            out-later sc lines s k r x xs at room on (went sc lines s (k + 1) r xs (omega (arith, other, at, within)) counts.1 later)
      ]) refl
      | false ↦ λ _ froze_now. absurd (not-both s r x.undecided frozen refl froze_now)
    ]) refl is

rounds-from : (k : ℕ) (xs : List TestAnswer) (y : TestAnswer) → CountsFrom k xs → Contains xs y → k ≤ y.round
rounds-from k [] y counts there = absurd (Contains-nil y there)
rounds-from k (x ∷ xs) y counts there =
    elim (Contains-cons_cases x y xs there) [
      | inl is ↦ let same : x.round ≡ y.round = ap (λ (t : TestAnswer). t.round) is in let at = counts.0 in omega (arith, same, at)
      | inr later ↦ let above = rounds-from (k + 1) xs y counts.1 later in omega (arith, above)
    ]

-- No other answer has the first answer's round.
first-fits : (k r : ℕ) (x : TestAnswer) (xs : List TestAnswer) → CountsFrom k (x ∷ xs) → k ≤ r → FitsFrom (x ∷ xs) k r → x.room ≡ true
first-fits k r x xs counts begun fits =
    let (y, there, is, fit) = fits k (le_refl k) begun in
    elim (Contains-cons_cases x y xs there) [
      | inl same ↦ ap (λ (t : TestAnswer). t.room) same ∙ fit
      | inr later ↦ let above = rounds-from (k + 1) xs y counts.1 later in absurd (omega (arith, above, is))
    ]

later-fits : (k r : ℕ) (x : TestAnswer) (xs : List TestAnswer) → x.round ≡ k → FitsFrom (x ∷ xs) k r → FitsFrom xs (k + 1) r
later-fits k r x xs at fits q from to =
    let (y, there, is, fit) = fits q (omega (arith, from)) to in
    elim (Contains-cons_cases x y xs there) [
      | inl same ↦ let round : x.round ≡ y.round = ap (λ (t : TestAnswer). t.round) same in absurd (omega (arith, round, at, is, from))
      | inr later ↦ (y, later, is, fit)
    ]

-- If the station leaves here, this is the round.
out-here : (sc : Scenario) (lines : List OwnerLine) (s k r : ℕ) (x : TestAnswer) → x.round ≡ k → LeavesFrom sc lines s k r → is_out sc lines s x.round ≡ true → x.round ≡ r
out-here sc lines s k r x at leaving out =
    elim (from-next k r leaving.begun) [
      | inl here ↦ at ∙ here
      | inr after ↦ elim (or_cases (eqb x.round (last_round sc)) (not (stays lines x.round s)) out) [
        | inl last ↦ let is = eqb-true x.round (last_round sc) last in let ended = leaving.ended in absurd (omega (arith, is, at, after, ended))
        | inr away ↦ absurd (true≢false (sym (leaving.stayed k (le_refl k) (omega (arith, after))) ∙ subst (λ z. stays lines z s ≡ false) at (not-true (stays lines x.round s) away)))
      ]
    ]

-- If the station stays here, the round comes later.
out-after : (sc : Scenario) (lines : List OwnerLine) (s k r : ℕ) (x : TestAnswer) → x.round ≡ k → LeavesFrom sc lines s k r → is_out sc lines s x.round ≡ false → LeavesFrom sc lines s (k + 1) r
out-after sc lines s k r x at leaving out =
    let parts = or_parts (eqb x.round (last_round sc)) (not (stays lines x.round s)) out in
    let other = eqb-false x.round (last_round sc) parts.0 in
    record {
      begun = elim (from-next k r leaving.begun) [
        | inl here ↦ elim leaving.leaves [
          | inl last ↦ absurd (other (at ∙ (here ∙ last)))
          | inr away ↦ absurd (true≢false (sym (not-false (stays lines x.round s) parts.1) ∙ subst (λ z. stays lines z s ≡ false) (sym (at ∙ here)) away))
        ]
        | inr after ↦ after
      ];
      ended = leaving.ended;
      leaves = leaving.leaves;
      stayed = λ q from before. leaving.stayed q (omega (arith, from)) before;
    }

-- A station that leaves in a round, and each of whose tests fits, goes on air.
goes : (sc : Scenario) (lines : List OwnerLine) (s k r : ℕ) (xs : List TestAnswer) → CountsFrom k xs → LeavesFrom sc lines s k r → FitsFrom xs k r → row_from_answers (with_owners sc (Some lines)) s xs ≡ air s r
goes sc lines s k r [] counts leaving fits = let (y, there, is, fit) = fits k (le_refl k) leaving.begun in absurd (Contains-nil y there)
goes sc lines s k r (x ∷ xs) counts leaving fits =
    let out : Bool = is_out sc lines s x.round in
    cond-true x.room _ _ (first-fits k r x xs counts leaving.begun fits)
    ∙ (elim out as (λ b. out ≡ b → cond b (air s x.round) (row_from_answers (with_owners sc (Some lines)) s xs) ≡ air s r) [
      | true ↦ λ now. ap (air s) (out-here sc lines s k r x counts.0 leaving now)
      | false ↦ λ on. goes sc lines s (k + 1) r xs counts.1 (out-after sc lines s k r x counts.0 leaving on) (later-fits k r x xs counts.0 fits)
    ]) refl

-- A station outside the start set goes on air in a round exactly if two conditions hold. The round is the first from 1 in which no
-- line has the station stay, or else the last round. Each of its tests up to the round fits.
pub exits-by_lines : (sc : Scenario) (lines : List OwnerLine) (book : BookView) (order : Order) (undecided : List ClockTest) (s r : ℕ) → StationsAscend sc → Contains (facilities sc) s → stays lines 0 s ≡ true →
    (row_of undecided (clock_rule (with_owners sc (Some lines)) book order undecided) s ≡ Some (on_air_row (record { station = s; round = r })))
    ↔ (LeavesIn sc lines s r × FitsUpTo (test_answers (with_owners sc (Some lines)) book order undecided s) r)
exits-by_lines sc lines book order undecided s r ascend known stay =
    let live : Scenario = with_owners sc (Some lines) in
    let row = row-by_answers live book order undecided s known (ap not stay) in
    let counted = told-counts live book order undecided s ascend known (ap not stay) in (
      λ on_air.
          let both = went sc lines s 1 r (test_answers live book order undecided s) (omega arith) counted (sym row ∙ on_air) in
          (record { begun = both.0.begun; ended = both.0.ended; leaves = both.0.leaves; stayed = both.0.stayed }, both.1),
      λ both. row ∙ goes sc lines s 1 r (test_answers live book order undecided s) counted (record { begun = both.0.begun; ended = both.0.ended; leaves = both.0.leaves; stayed = both.0.stayed }) both.1,
    )

-- ---- the lines of a file

-- Each line is of a round up to R.
abbrev WithinRounds : ℕ → List OwnerLine → Type 0
WithinRounds R lines = (x : OwnerLine) → Contains lines x → x.round ≤ R

abbrev is_ok : {A E : Type 0} → Result A E → Bool
is_ok (Ok x) = true
is_ok (Err e) = false

abbrev round_of : Result OwnerLine OwnerWhy → ℕ
round_of (Ok line) = line.round
round_of (Err why) = 0

refused : {A E : Type 0} (e : E) (x : A) → Err e ≡ Ok x → ⊥
refused e x is = false≢true (ap is_ok is)

on-within : (R : ℕ) (ids : List ℕ) (round station : ℕ) (word : List ℕ) (line : OwnerLine) → line_on R ids round station word ≡ Ok line → line.round ≤ R
on-within R ids round station word line is =
    let made : Option Bool → Result OwnerLine OwnerWhy = λ o. ok_or (option_map (λ b. record { round = round; station = station; stays = b }) o) BadWord in
    (elim (ltb R round) as (λ b. ltb R round ≡ b → cond b (Err RoundRange) (cond (is_in ids station) (made (stay_of_word word)) (Err UnknownStation)) ≡ Ok line → line.round ≤ R) [
      | true ↦ λ _ bad. absurd (refused RoundRange line bad)
      | false ↦ λ within. elim (is_in ids station) as (λ b. cond b (made (stay_of_word word)) (Err UnknownStation) ≡ Ok line → line.round ≤ R) [
        | true ↦ elim (stay_of_word word) as (λ o. made o ≡ Ok line → line.round ≤ R) [
          | None ↦ λ bad. absurd (refused BadWord line bad)
          | Some b ↦ λ yes. subst (λ n. n ≤ R) (ap round_of yes) (ltb-false R round within)
        ]
        | false ↦ λ bad. absurd (refused UnknownStation line bad)
      ]
    ]) refl is

from-within : (R : ℕ) (ids round station word : List ℕ) (line : OwnerLine) → line_from R ids round station word ≡ Ok line → line.round ≤ R
from-within R ids round station word line is =
    (elim (number round) as (λ o. (ok_or o BadNumber >>= (λ r. ok_or (number station) BadNumber >>= (λ s. line_on R ids r s word))) ≡ Ok line → line.round ≤ R) [
      | None ↦ λ bad. absurd (refused BadNumber line bad)
      | Some r ↦ elim (number station) as (λ o. (ok_or o BadNumber >>= (λ s. line_on R ids r s word)) ≡ Ok line → line.round ≤ R) [
        | None ↦ λ bad. absurd (refused BadNumber line bad)
        | Some s ↦ λ yes. on-within R ids r s word line yes
      ]
    ]) is

line-within : (R : ℕ) (ids : List ℕ) (fields : List (List ℕ)) (line : OwnerLine) → owner_line R ids fields ≡ Ok line → line.round ≤ R
unfolding owner_line
line-within R ids [] line is = absurd (refused _ line is)
line-within R ids (a ∷ []) line is = absurd (refused _ line is)
line-within R ids (a ∷ b ∷ []) line is = absurd (refused _ line is)
line-within R ids (a ∷ b ∷ c ∷ []) line is = from-within R ids a b c line is
line-within R ids (a ∷ b ∷ c ∷ d ∷ more) line is = absurd (refused _ line is)

push-within : (R : ℕ) (said next : List OwnerLine) (line : OwnerLine) → WithinRounds R said → line.round ≤ R → said ++ line ∷ [] ≡ next → WithinRounds R next
push-within R said next line within low is =
    subst (λ z. WithinRounds R z) is (λ x there. elim (Contains-push_cases said line x there) [
      | inl old ↦ within x old
      | inr new ↦ subst (λ (z : OwnerLine). z.round ≤ R) new low
    ])

lines_in : {E : Type 0} → Result (List OwnerLine) E → List OwnerLine
lines_in (Ok lines) = lines
lines_in (Err e) = []

record-within : (R : ℕ) (ids : List ℕ) (said next : List OwnerLine) (fields : List (List ℕ)) → WithinRounds R said → with_record R ids said fields ≡ Ok next → WithinRounds R next
unfolding lines_in
record-within R ids said next fields within is =
    (elim (owner_line R ids fields) as (λ o. owner_line R ids fields ≡ o → (o >>= (λ line. with_owner_line said line)) ≡ Ok next → WithinRounds R next) [
      | Ok line ↦ λ made. elim (has_line_for said line.round line.station) as (λ b. cond b (Err Repeated) (Ok (said ++ line ∷ [])) ≡ Ok next → WithinRounds R next) [
        | true ↦ λ bad. absurd (refused Repeated next bad)
        | false ↦ λ yes. push-within R said next line within (line-within R ids fields line made) (ap lines_in yes)
      ]
      | Err why ↦ λ _ bad. absurd (refused why next bad)
    ]) refl is

records-within : (R : ℕ) (ids : List ℕ) (said next : List OwnerLine) (rs : List (List (List ℕ))) → WithinRounds R said → with_records R ids said rs ≡ Ok next → WithinRounds R next
unfolding with_records lines_in
records-within R ids said next [] within is = subst (λ z. WithinRounds R z) (ap lines_in is) within
records-within R ids said next (r ∷ rs) within is =
    (elim (with_record R ids said r) as (λ o. with_record R ids said r ≡ o → (o >>= (λ then. with_records R ids then rs)) ≡ Ok next → WithinRounds R next) [
      | Ok then ↦ λ first later. records-within R ids then next rs (record-within R ids said then r within first) later
      | Err why ↦ λ _ bad. absurd (refused why next bad)
    ]) refl is

file-within : (R : ℕ) (ids : List ℕ) (said next : List OwnerLine) (at : ℕ) (lines : List (List ℕ)) → WithinRounds R said → with_file_lines R ids said at lines ≡ Ok next → WithinRounds R next
unfolding with_file_lines lines_in
file-within R ids said next at [] within is = subst (λ z. WithinRounds R z) (ap lines_in is) within
file-within R ids said next at (line ∷ lines) within is =
    (elim (with_records R ids said (line_records line)) as (λ o. with_records R ids said (line_records line) ≡ o → after_owner_line at o (λ then. with_file_lines R ids then (at + 1) lines) ≡ Ok next → WithinRounds R next) [
      | Ok then ↦ λ first later. file-within R ids then next (at + 1) lines (records-within R ids said then (line_records line) within first) later
      | Err why ↦ λ _ bad. absurd (refused _ next bad)
    ]) refl is

-- A file has no line of a round after the last one in which the price falls.
pub no_line_after : (bytes : List ℕ) (R : ℕ) (ids : List ℕ) (lines : List OwnerLine) (r s : ℕ) → owners_of bytes R ids ≡ Ok lines → R < r → stays lines r s ≡ false
unfolding owners_of
no_line_after bytes R ids lines r s is above = false_from_ne_true _ (λ stay.
    let (x, there, says) = list_any-gives (λ (x : OwnerLine). ((eqb x.round r) && (eqb x.station s)) && x.stays) lines stay in
    let parts = and_parts ((eqb x.round r) && (eqb x.station s)) x.stays says in
    let at = eqb-true x.round r (and_parts (eqb x.round r) (eqb x.station s) parts.0).0 in
    let low = file-within R ids [] lines 1 (lines_of bytes) (λ y none. absurd (Contains-nil y none)) is x there in
    omega (arith, at, low, above))
