-- The records that the tests build are backed.
use Rattle.std.proofs.Common.{◌≡◌, ℕ, zero, suc, ◌+◌, ◌<◌, ◌≤◌, true, List, [], ◌∷◌, ◌++◌, length, None, refl, sym, ap, ◌∙◌, subst, rules, arith}
use Rattle.std.specs.Prelude.{slice_index}
use Rattle.pack_defs.specs.declared.fall.Fall.TheVariants.{Listed}
use Rattle.pack_defs.specs.declared.order.Order.TheVariants.{ByFacility}
use Rattle.pack_defs.specs.declared.scenario.Scenario.{Scenario}
use Rattle.pack_defs.specs.declared.station.Station.{Station}
use Rattle.pack_defs.specs.declared.worker.Worker.{Worker}
use Rattle.pack_defs.specs.Scenario.{IsWithinLimits}
use Rattle.pack_defs.specs.Book.{BookView}
use Rattle.pack_defs.specs.ClockRule.{asked_tests, clock_rule}
use Rattle.pack_defs.specs.Components.{component}
use Rattle.pack_defs.specs.Examples.{three_bids, three_stations}
use Rattle.assign_check.specs.Fault.{first_fault}
use Rattle.cnf_encode.specs.Formula.{packing_formula}
use Rattle.rup_check.specs.Follows.{line_fault}
use Rattle.cert_types.specs.Examples.{learner}
use Rattle.cert_types.specs.Valid.{answer_fault}
use Rattle.auction_core.specs.declared.record.Record.{Record}
use Rattle.auction_core.specs.declared.record.Shown.{Shown}
use Rattle.auction_core.specs.declared.record.Shown.TheVariants.{Empty}
use Rattle.auction_core.specs.declared.record.Step.{Step}
use Rattle.auction_core.specs.declared.record.Ending.TheVariants.{Done}
use Rattle.auction_core.specs.Backed.{IsBacked, record_of}
use Rattle.auction_core.specs.Examples.{auction_of_three, four_fits, no_station, one_line, posting, refuted, state_after}
use Rattle.auction_core.specs.Rule.{IsAuction}
use Rattle.auction_core.specs.Setup.{IsOfAuction}
use Rattle.auction_core.specs.State.{has_ended, opening, task_of}
use Rattle.auction_core.specs.Take.{PostingView, take}
use Rattle.auction_core.proofs.Ended.{ended-backed}
use Rattle.auction_core.proofs.Keeps.{opening-keeps, postings-keep}
use Rattle.auction_core.proofs.Orders.{opening-order, postings-order}
use Rattle.result_text.specs.Examples.{record_of_none, record_of_three, refuted_set, spent_on, steps_of_three, three_with}

abbrev numbers : List ℕ
numbers = 1 ∷ 2 ∷ 3 ∷ []

three : (k : ℕ) → k + 1 < length numbers → slice_index numbers k < slice_index numbers (k + 1)
three zero l = omega arith
three (suc zero) l = omega arith
three (suc (suc k)) l = absurd (omega arith)

three-auction : (budget : ℕ) → IsAuction (auction_of_three (learner budget ∷ [])) three_stations
unfolding three_stations three_bids
three-auction budget = record {
  stations = three;
  in_order = record { domains = record { stations = refl; channels = refl }; pairs = refl; of_two = refl; on_domains = refl };
  workers = omega arith;
}

-- The record of an ended auction of three stations.
ended-three : (budget : ℕ) (postings : List PostingView) → has_ended (state_after (learner budget ∷ []) postings) ≡ true → IsBacked (auction_of_three (learner budget ∷ [])) three_stations ByFacility (record_of (auction_of_three (learner budget ∷ [])) (state_after (learner budget ∷ []) postings))
ended-three budget postings e =
    let sc : Scenario = auction_of_three (learner budget ∷ []) in
    let first = opening sc three_stations ByFacility in
    let kept = postings-keep sc three_stations postings first (three-auction budget) (opening-keeps sc three_stations ByFacility (three-auction budget)) in
    let order = postings-order sc three_stations postings first ∙ opening-order sc three_stations ByFacility in
    subst (λ o. IsBacked sc three_stations o (record_of sc (state_after (learner budget ∷ []) postings))) order (ended-backed sc three_stations (state_after (learner budget ∷ []) postings) kept e)

refuted-ends : has_ended (state_after (learner 1000 ∷ []) (four_fits ++ posting 0 5 refuted ∷ [])) ≡ true
unfolding take task_of opening component answer_fault first_fault packing_formula line_fault three_stations three_bids
refuted-ends = refl

refuted-is : record_of (auction_of_three (learner 1000 ∷ [])) (state_after (learner 1000 ∷ []) (four_fits ++ posting 0 5 refuted ∷ [])) ≡ record_of_three 1000 refuted_set
unfolding take task_of opening component answer_fault first_fault packing_formula line_fault three_stations three_bids
refuted-is = refl

pub refuted-backed : IsBacked (auction_of_three (learner 1000 ∷ [])) three_stations ByFacility (record_of_three 1000 refuted_set)
refuted-backed = subst (IsBacked (auction_of_three (learner 1000 ∷ [])) three_stations ByFacility) refuted-is (ended-three 1000 (four_fits ++ posting 0 5 refuted ∷ []) refuted-ends)

undecided-ends : has_ended (state_after (learner 1 ∷ []) (four_fits ++ posting 0 5 one_line ∷ [])) ≡ true
unfolding take task_of opening component answer_fault first_fault packing_formula line_fault three_stations three_bids
undecided-ends = refl

undecided-is : record_of (auction_of_three (learner 1 ∷ [])) (state_after (learner 1 ∷ []) (four_fits ++ posting 0 5 one_line ∷ [])) ≡ record_of_three 1 spent_on
unfolding take task_of opening component answer_fault first_fault packing_formula line_fault three_stations three_bids
undecided-is = refl

pub undecided-backed : IsBacked (auction_of_three (learner 1 ∷ [])) three_stations ByFacility (record_of_three 1 spent_on)
undecided-backed = subst (IsBacked (auction_of_three (learner 1 ∷ [])) three_stations ByFacility) undecided-is (ended-three 1 (four_fits ++ posting 0 5 one_line ∷ []) undecided-ends)

pub none-backed : (book : BookView) → IsBacked no_station book ByFacility record_of_none
unfolding asked_tests clock_rule three_bids
none-backed book = record {
  scenario = refl;
  order_is = refl;
  start = refl;
  ending = refl;
  rest = record { tests = refl; shown = tt; map = refl; total = refl };
}

pub with-limits : (budget value volume : ℕ) → 1 ≤ budget → budget ≤ 1000 → value ≤ 1000 → 1 ≤ volume → volume ≤ 1000 → IsWithinLimits (record (auction_of_three (learner budget ∷ [])) { stations = three_with value volume })
unfolding three_bids
with-limits budget value volume some most value_most some_volume volume_most = record {
  least_top = omega arith;
  top = omega arith;
  some_opening = omega arith;
  opening = omega arith;
  version = refl;
  fall = record { rounds = omega arith; each = search rules; falls = omega arith };
  stations = omega arith;
  ascend = three;
  each_station = search rules;
  some_worker = omega arith;
  workers = omega arith;
  each_worker = search rules;
  prover = refl;
}

-- The bids of the three stations.
pub with-three : (workers : List Worker) → record (auction_of_three workers) { stations = three_with 70 1 } ≡ auction_of_three workers
unfolding three_bids
with-three workers = refl

pub three-limits : (budget : ℕ) → 1 ≤ budget → budget ≤ 1000 → IsWithinLimits (auction_of_three (learner budget ∷ []))
three-limits budget some most =
    subst IsWithinLimits (with-three (learner budget ∷ [])) (with-limits budget 70 1 some most (omega arith) (omega arith) (omega arith))

pub none-limits : IsWithinLimits no_station
unfolding three_bids
none-limits = record {
  least_top = omega arith;
  top = omega arith;
  some_opening = omega arith;
  opening = omega arith;
  version = refl;
  fall = record { rounds = omega arith; each = search rules; falls = omega arith };
  stations = omega arith;
  ascend = λ k l. absurd (omega arith);
  each_station = search rules;
  some_worker = omega arith;
  workers = omega arith;
  each_worker = search rules;
  prover = refl;
}

-- ---- what the tests build

-- An auction of these stations.
pub scenario-is : (budget : ℕ) (decrements : List ℕ) (stations : List Station) (workers : List Worker) → decrements ≡ 40 ∷ 40 ∷ [] → workers ≡ learner budget ∷ [] →
    record { version = 1; top = 15; opening = 100; fall = Listed decrements; stations = stations; workers = workers; owners = None } ≡ record (auction_of_three (learner budget ∷ [])) { stations = stations }
unfolding three_bids
scenario-is budget decrements stations workers e f = rw (e, f) refl

-- A record of three stations.
pub three-is : (budget : ℕ) (last : Shown) (sc : Scenario) (steps : List Step) → sc ≡ auction_of_three (learner budget ∷ []) → steps ≡ steps_of_three last →
    record { scenario = sc; order = ByFacility; ending = Done; start = Empty; steps = steps; map = (1, 15) ∷ (2, 14) ∷ []; total = 60 } ≡ record_of_three budget last
three-is budget last sc steps e f = rw (e, f) refl

-- A record of no station.
pub none-is : (sc : Scenario) (stations : List Station) (steps : List Step) → sc ≡ record (auction_of_three (learner 1000 ∷ [])) { stations = stations } → stations ≡ [] → steps ≡ [] →
    record { scenario = sc; order = ByFacility; ending = Done; start = Empty; steps = steps; map = []; total = 0 } ≡ record_of_none
unfolding three_bids
none-is sc stations steps e f g = rw (e, f, g) refl

abbrev IsHeld : BookView → Record → Type 0
IsHeld book rec = IsBacked rec.scenario book rec.order rec × IsWithinLimits rec.scenario

held : {book : BookView} {rec : Record} (want : BookView) (like : Record) → IsHeld want like → book ≡ want → rec ≡ like → IsHeld book rec
held {book} {rec} want like h e f = subst (λ b. IsHeld b rec) (sym e) (subst (λ r. IsHeld want r) (sym f) h)

pub refuted-held : {book : BookView} {rec : Record} (last : Shown) → book ≡ three_stations → last ≡ refuted_set → rec ≡ record_of_three 1000 last → IsHeld book rec
refuted-held last e f g = held three_stations (record_of_three 1000 refuted_set) (refuted-backed, three-limits 1000 (omega arith) (omega arith)) e (g ∙ ap (record_of_three 1000) f)

pub undecided-held : {book : BookView} {rec : Record} (last : Shown) → book ≡ three_stations → last ≡ spent_on → rec ≡ record_of_three 1 last → IsHeld book rec
undecided-held last e f g = held three_stations (record_of_three 1 spent_on) (undecided-backed, three-limits 1 (omega arith) (omega arith)) e (g ∙ ap (record_of_three 1) f)

pub none-held : {rec : Record} (book : BookView) → rec ≡ record_of_none → IsHeld book rec
none-held book e = held book record_of_none (none-backed book, none-limits) refl e

-- The auctions that the tests run.
pub three-of_auction : (sc : Scenario) (book : BookView) (value volume : ℕ) → value ≤ 1000 → 1 ≤ volume → volume ≤ 1000 → sc ≡ record (auction_of_three (learner 1000 ∷ [])) { stations = three_with value volume } → book ≡ three_stations → IsOfAuction sc book
unfolding three_stations three_bids
three-of_auction sc book value volume value_most some_volume volume_most e f =
    rw (e, f) (record { limits = with-limits 1000 value volume (omega arith) (omega arith) value_most some_volume volume_most; stations = refl })
