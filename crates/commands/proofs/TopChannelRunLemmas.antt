-- The auctions of the start set alone, and which of their records are picked.
use Rattle.std.proofs.Common.{◌≡◌, ◌≢◌, ◌⊎◌, ◌≤◌, ◌<◌, ◌∙◌, ◌-◌, ◌&&◌, ◌||◌, ◌==◌, if◌then◌else◌, ℕ, Bool, true, false, not, inl, inr, List, [], ◌∷◌, ◌++◌, length, filter, map, refl, sym, ap, subst, arith, Option, Some, None}
use Rattle.std.specs.Prelude.{Contains, IsFalse, MatchOption, Ok}
use Rattle.std.specs.List.{list_any}
use Rattle.std.specs.Cmp.Derive.{both_true}
use Rattle.std.proofs.lemmas.Bool.{cases_Bool, cases_lt, eq-eqb, eqb-true, false_from_ne_true, false≢true}
use Rattle.std.proofs.lemmas.List.Elements.{All-contains}
use Rattle.std.proofs.lemmas.List.Folds.{list_any-append}
use Rattle.pack_defs.proofs.Members.{Contains-from_map, Contains-map, list_any-from}
use Rattle.pack_defs.specs.Book.{BookView}
use Rattle.pack_defs.specs.ClockRule.{ClockState, ClockTest, OnAirSince, after_answer, after_test, after_tests, clock_rule, clock_tests, has_room, is_active, on_air_set, opening_state}
use Rattle.pack_defs.specs.Lists.{is_in}
use Rattle.pack_defs.specs.Packing.{IsPacking, fits}
use Rattle.pack_defs.specs.Prices.{bidders, declines, start_set}
use Rattle.pack_defs.specs.Scenario.{IsWithinLimits, StationsAscend, facilities}
use Rattle.pack_defs.specs.declared.order.Order.{Order}
use Rattle.pack_defs.specs.declared.scenario.Scenario.{Scenario}
use Rattle.pack_defs.proofs.ComponentLaws.{filter_no_longer}
use Rattle.auction_core.specs.Setup.{IsOfAuction}
use Rattle.auction_core.specs.declared.record.Ending.{Ending}
use Rattle.auction_core.specs.declared.record.Ending.TheVariants.{Done, StartRefuted, StartUndecided}
use Rattle.auction_core.specs.declared.record.Record.{Record}
use Rattle.auction_core.specs.Backed.{undecided_of}
use Rattle.scenario_json.specs.Join.{joined}
use Rattle.scenario_json.specs.StartOnly.{start_only}
use Rattle.scenario_json.proofs.StartLemmas.{keeps-all, only-facilities, only-joined, only-limits, only-starts}
use Rattle.target_seek.specs.TopChannels.{AreTrue, AskedTop, IsTrueAt, SeekBase, WasAnswered, book_at, fits_at}
use Rattle.target_seek.specs.declared.top_test.TopAnswer.{TopAnswer}
use Rattle.target_seek.specs.declared.top_test.TopAnswer.TheVariants.{Fits, Unfit, Open}
use Rattle.commands.specs.declared.inputs.Inputs.{Inputs}
use Rattle.commands.specs.declared.top_channel_runs.LeastTop.{LeastTop}
use Rattle.commands.specs.declared.top_channel_runs.TopRecord.{TopRecord}
use Rattle.commands.specs.Records.{IsRecordBy, IsRecordOf, run_order}
use Rattle.commands.specs.Seek.{AreTopRecords, IsOneBelow, IsLeastTop, IsSeekable, IsTopRecord, Picks, answer_of, asked_of, ending_by, inputs_at, same_answer, has_top_answer}
use Rattle.commands.proofs.ReadingLemmas.{joined-stations}

-- ---- an auction of the start set alone

-- Their inputs are those of an auction.
pub seek-auction : (base : SeekBase) (top : ℕ) → IsSeekable base → 14 ≤ top → top ≤ 51 → IsOfAuction (inputs_at base top).scenario (inputs_at base top).book
seek-auction base top can least most = record {
  limits = only-limits base.scenario top can.limits least most;
  stations = joined-stations (start_only base.scenario top) base.domains base.pairs (book_at base top) (only-joined base.scenario top base.domains base.pairs can.whole);
}

ascends : (base : SeekBase) → IsSeekable base → StationsAscend base.scenario
ascends base can = let limits : IsWithinLimits base.scenario = can.limits in limits.ascend

-- The inputs that a call builds.
module _ (base : SeekBase) (top : ℕ) (scenario : Scenario) (book : BookView) (can : IsSeekable base) (only : scenario ≡ start_only base.scenario top) (made : joined scenario base.domains base.pairs ≡ Ok book) where
  made-book : book ≡ book_at base top
  made-book =
      let whole : joined scenario base.domains base.pairs ≡ Ok (book_at base top) = ap (λ sc. joined sc base.domains base.pairs) only ∙ only-joined base.scenario top base.domains base.pairs can.whole in
      let both = sym made ∙ whole in
      cc

  pub made-inputs : record { scenario = scenario; book = book; self_pairs = 0; strangers = 0 } ≡ inputs_at base top
  made-inputs = λ i. record { scenario = only i; book = made-book i; self_pairs = 0; strangers = 0 }

  pub built-auction : 14 ≤ top → top ≤ 51 → IsOfAuction scenario book
  built-auction least most = subst (λ (z : Inputs). IsOfAuction z.scenario z.book) (sym made-inputs) (seek-auction base top can least most)

-- The start set is the scenario's, so the start test asks whether that set fits.
pub starts-fit : (base : SeekBase) (top : ℕ) (b : Bool) → IsSeekable base → fits (inputs_at base top).book (start_set (inputs_at base top).scenario) ≡ b → fits_at base top ≡ b
starts-fit base top b can h = subst (λ set. fits (book_at base top) set ≡ b) (only-starts base.scenario top (ascends base can)) h

-- A record of such an auction answers truly.
pub true-record : (base : SeekBase) (top : ℕ) (rec : Record) (ending : Ending) → IsSeekable base → IsRecordBy (inputs_at base top) rec ending → IsTrueAt base top (answer_of ending)
true-record base top rec Done can of = starts-fit base top true can of.starts
true-record base top rec StartRefuted can of = starts-fit base top false can of.starts
true-record base top rec StartUndecided can of = tt

-- ---- all its stations are on air at the end

-- If all stations start on air, no station is asked.
nobody : (p : ℕ → Bool) (xs : List ℕ) → filter p xs ≡ xs → filter (λ x. not (p x)) xs ≡ []
nobody p [] e = refl
nobody p (x ∷ xs) e =
    elim (cases_Bool (p x)) [
      | inl t ↦
          let all : x ∷ filter p xs ≡ x ∷ xs = rw t at e in
          let rest : filter p xs ≡ xs = cc in
          rw t (nobody p xs rest)
      | inr f ↦
          let fewer : filter p xs ≡ x ∷ xs = rw f at e in
          let most = filter_no_longer p xs in
          let same = ap length fewer in
          absurd (omega (arith, most, same))
    ]

-- A state in which no station is asked stays.
stays-so : (sc : Scenario) (book : BookView) (U tests : List ClockTest) (state : ClockState) → state.active ≡ [] → after_tests sc book U tests state ≡ state
stays-so sc book U [] state none = refl
stays-so sc book U (t ∷ ts) state none =
    let idle : is_active state t.station ≡ false = ap (λ active. is_in active t.station) none in
    let same : after_test sc book U state t ≡ state = ap (λ b. if b then after_answer sc state t (has_room sc book U state t) else state) idle in
    ap (after_tests sc book U ts) same ∙ stays-so sc book U ts state none

-- Each of the stations that start is on air.
all-on-air : (xs ys : List ℕ) → xs ≡ ys → filter (λ f. list_any (λ (x : OnAirSince). x.station == f) (map (λ s. record { station = s; round = 0 }) ys)) xs ≡ xs
all-on-air xs ys same =
    let since : ℕ → OnAirSince = λ s. record { station = s; round = 0 } in
    keeps-all (λ f. list_any (λ (x : OnAirSince). x.station == f) (map since ys)) xs (λ f h.
    list_any-from (λ (x : OnAirSince). x.station == f) (map since ys) (since f) (Contains-map since ys f (subst (λ zs. Contains zs f) same h)) (eq-eqb f f refl))

-- The stations on air at the end of an auction whose stations all start.
pub all-start : (sc : Scenario) (book : BookView) (order : Order) (U : List ClockTest) → start_set sc ≡ facilities sc → on_air_set sc (clock_rule sc book order U) ≡ facilities sc
unfolding clock_rule
all-start sc book order U all =
    let none : bidders sc ≡ [] = nobody (λ s. declines sc s 0) (facilities sc) all in
    subst (λ state. on_air_set sc state ≡ facilities sc) (sym (stays-so sc book U (clock_tests sc order) (opening_state sc) none))
    (all-on-air (facilities sc) (start_set sc) (sym all))

-- So the map of such an auction has a channel for exactly the stations of the start set.
pub seek-channels : (base : SeekBase) (top : ℕ) (rec : Record) → IsSeekable base → IsRecordOf (inputs_at base top) rec → IsPacking (book_at base top) (start_set base.scenario) rec.map
seek-channels base top rec can of =
    let sc : Scenario = start_only base.scenario top in
    let all : start_set sc ≡ facilities sc = only-starts base.scenario top (ascends base can) ∙ sym (only-facilities base.scenario top) in
    subst (λ set. IsPacking (book_at base top) set rec.map)
    (all-start sc (book_at base top) run_order (undecided_of rec.steps) all ∙ only-facilities base.scenario top) of.packing

-- ---- the records that are picked

-- Each answer that was given has its record.
pub told-there : (kept : List TopRecord) (top : ℕ) (answer : TopAnswer) → WasAnswered (asked_of kept) top answer → list_any (has_top_answer top answer) kept ≡ true
told-there kept top answer h =
    let (x, there, is) = Contains-from_map (λ (x : TopRecord). record { top = x.top; answer = answer_of x.rec.ending }) kept (record { top = top; answer = answer }) h in
    let own : x.top ≡ top = ap (λ (a : AskedTop). a.top) is in
    let says : answer_of x.rec.ending ≡ answer = ap (λ (a : AskedTop). a.answer) is in
    list_any-from (has_top_answer top answer) kept x there (both_true (eq-eqb x.top top own) (subst (λ a. same_answer (answer_of x.rec.ending) a ≡ true) says (self x.rec.ending)))
  where
    self : (e : Ending) → same_answer (answer_of e) (answer_of e) ≡ true
    self Done = refl
    self StartRefuted = refl
    self StartUndecided = refl

-- The ending of a record with this answer.
same-ending : (e : Ending) (answer : TopAnswer) → same_answer (answer_of e) answer ≡ true → e ≡ ending_by answer
same-ending Done Fits h = refl
same-ending Done Unfit h = absurd (false≢true h)
same-ending Done Open h = absurd (false≢true h)
same-ending StartRefuted Fits h = absurd (false≢true h)
same-ending StartRefuted Unfit h = refl
same-ending StartRefuted Open h = absurd (false≢true h)
same-ending StartUndecided Fits h = absurd (false≢true h)
same-ending StartUndecided Unfit h = absurd (false≢true h)
same-ending StartUndecided Open h = refl

-- If both tests pass, each passes.
first-passes : (a b : Bool) → (a && b) ≡ true → a ≡ true
first-passes true b h = refl
first-passes false b h = absurd (false≢true h)

second-passes : (a b : Bool) → (a && b) ≡ true → b ≡ true
second-passes true b h = h
second-passes false b h = absurd (false≢true h)

-- The next record is the one that is asked for.
pub pick-here : (base : SeekBase) (x : TopRecord) (top : ℕ) (answer : TopAnswer) → IsTopRecord base x → has_top_answer top answer x ≡ true → IsRecordBy (inputs_at base top) x.rec (ending_by answer)
pick-here base x top answer of answered =
    let same : x.top ≡ top = eqb-true x.top top (first-passes (x.top == top) (same_answer (answer_of x.rec.ending) answer) answered) in
    let ended : x.rec.ending ≡ ending_by answer = same-ending x.rec.ending answer (second-passes (x.top == top) (same_answer (answer_of x.rec.ending) answer) answered) in
    subst (λ e. IsRecordBy (inputs_at base top) x.rec e) ended (subst (λ t. IsRecordBy (inputs_at base t) x.rec x.rec.ending) same of.auction)

-- The next record is another one.
pub pick-past : (base : SeekBase) (all left : List TopRecord) (x : TopRecord) (top : ℕ) (answer : TopAnswer) (picked : Option Record) → has_top_answer top answer x ≡ false →
    Picks base all (left ++ x ∷ []) top answer picked → Picks base all left top answer picked
pick-past base all left x top answer (Some rec) other h = h
pick-past base all left x top answer None other h =
    let p : TopRecord → Bool = has_top_answer top answer in
    let last : list_any p (x ∷ []) ≡ false = ap (λ b. b || false) other in
    let drop : (list_any p left || list_any p (x ∷ [])) ≡ list_any p left = ap (λ b. list_any p left || b) last ∙ or_false (list_any p left) in
    sym (list_any-append p left (x ∷ []) ∙ drop) ∙ h
  where
    or_false : (b : Bool) → (b || false) ≡ b
    or_false true = refl
    or_false false = refl

-- A record of one top channel is none of another.
pub told-apart : (x : TopRecord) (top other : ℕ) (a b : TopAnswer) → top ≢ other → has_top_answer top a x ≡ true → has_top_answer other b x ≡ false
told-apart x top other a b ne answered = false_from_ne_true (has_top_answer other b x) (λ both.
    ne (sym (eqb-true x.top top (first-passes (x.top == top) (same_answer (answer_of x.rec.ending) a) answered))
    ∙ eqb-true x.top other (first-passes (x.top == other) (same_answer (answer_of x.rec.ending) b) both)))

-- Once no record is left, the one that is asked for was picked, if it existed.
pub pick-found : (base : SeekBase) (all : List TopRecord) (top : ℕ) (answer : TopAnswer) (picked : Option Record) → list_any (has_top_answer top answer) all ≡ true → Picks base all [] top answer picked →
    MatchOption picked ⊥ (λ rec. IsRecordBy (inputs_at base top) rec (ending_by answer))
pick-found base all top answer (Some rec) there h = h
pick-found base all top answer None there h = absurd (false≢true (h ∙ there))

-- ---- what is found

-- Whether the start set fits up to no top channel from 14 on that is less.
abbrev pub NoneLess : SeekBase → ℕ → Type 0
NoneLess base top = (less : ℕ) → 14 ≤ less → less < top → IsFalse (fits_at base less)

pub above-first : (top : ℕ) → 14 ≤ top → top ≢ 14 → 14 < top
above-first top least other = elim (cases_lt 14 top) [
  | inl above ↦ above
  | inr within ↦ absurd (other (omega arith))
]

-- The record of one channel less, by the answer about it.
pub below-unfit : (base : SeekBase) (top : ℕ) (o : Option Record) → 14 < top → MatchOption o ⊥ (λ rec. IsRecordBy (inputs_at base (top - 1)) rec StartRefuted) → IsOneBelow base top false o
below-unfit base top (Some rec) above of = (above, of)
below-unfit base top None above of = absurd of

pub below-open : (base : SeekBase) (top : ℕ) (o : Option Record) → 14 < top → MatchOption o ⊥ (λ rec. IsRecordBy (inputs_at base (top - 1)) rec StartUndecided) → IsOneBelow base top true o
below-open base top (Some rec) above of = (above, of)
below-open base top None above of = absurd of

pub below-none : (base : SeekBase) (o : Option Record) → o ≡ None → IsOneBelow base 14 false o
below-none base o none = subst (λ z. IsOneBelow base 14 false z) (sym none) refl

pub least-top : (base : SeekBase) (x : LeastTop) (top : ℕ) (open_below : Bool) → x.top ≡ top → x.is_open ≡ open_below → 14 ≤ top → top ≤ base.scenario.top →
    IsRecordOf (inputs_at base top) x.rec → IsOneBelow base top open_below x.below → (IsFalse open_below → NoneLess base top) → IsLeastTop base x
least-top base x top open_below at is least most of lower none = record {
  least = subst (λ t. 14 ≤ t) (sym at) least;
  most = subst (λ t. t ≤ base.scenario.top) (sym at) most;
  auction = subst (λ t. IsRecordOf (inputs_at base t) x.rec) (sym at) of;
  lower = subst (λ t. IsOneBelow base t x.is_open x.below) (sym at) (subst (λ b. IsOneBelow base top b x.below) (sym is) lower);
  none_less = λ shut less from under. none (sym is ∙ shut) less from (subst (λ t. less < t) at under);
}

-- The answer about the top below a least top that is not the first.
pub told-less : (asked : List AskedTop) (top : ℕ) → top ≢ 14 → (top ≡ 14) ⊎ WasAnswered asked (top - 1) Unfit → WasAnswered asked (top - 1) Unfit
told-less asked top other (inl first) = absurd (other first)
told-less asked top other (inr unfit) = unfit

pub none-below-first : (base : SeekBase) → NoneLess base 14
none-below-first base less from under = absurd (omega arith)

-- The answers of the records are true.
pub records-true : (base : SeekBase) (kept : List TopRecord) → AreTopRecords base kept → AreTrue base (asked_of kept)
records-true base kept are = λ x there.
    let (y, within, is) = Contains-from_map (λ (y : TopRecord). record { top = y.top; answer = answer_of y.rec.ending }) kept x there in
    let of : IsTopRecord base y = All-contains (IsTopRecord base) kept y are.each within in
    subst (λ (z : AskedTop). IsTrueAt base z.top z.answer) is (true-record base y.top y.rec y.rec.ending are.seekable of.auction)
