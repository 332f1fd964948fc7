-- One more station, which starts on air or does not.
use Rattle.std.proofs.Common.{◌≡◌, ◌∙◌, ℕ, ◌+◌, ◌<◌, None, arith, ap, sym, subst, get_or, length, true}
use Rattle.std.proofs.lemmas.List.{length-map}
use Rattle.std.proofs.lemmas.List.Elements.{Contains-get_or}
use Rattle.pack_defs.specs.declared.station.Station.{Station}
use Rattle.pack_defs.specs.Lists.{is_in}
use Rattle.pack_defs.specs.Scenario.{facilities}
use Rattle.pack_defs.proofs.Members.{is_in-from}
use Rattle.auction_core.specs.declared.clock.StationStatus.{StationStatus}
use Rattle.auction_core.specs.declared.clock.StationStatus.TheVariants.{Active}
use Rattle.auction_core.specs.Clock.{is_status_on_air}
use Rattle.auction_core.specs.ComponentLabels.{label_of, labelled, relabelled}
use Rattle.auction_core.specs.TestHistory.{TestHistoryView}
use Rattle.auction_core.proofs.ClockLemmas.{facility_at}
use Rattle.auction_core.proofs.Starters.{aired-few, aired-more, aired-none}
use Rattle.auction_core.proofs.clock_run.put_all_on_air.Goals as goal

abbrev none : Station
none = record { id = 0; volume = 0; value = None }

pub loop-i-init : goal.loop-i-init
loop-i-init c =
    let s = c.args.setup.now in
    (aired-none s.scenario s.book c.args.test_history.now.component_labels c.requires.stations c.requires.none, c.requires.on_air, (λ i. c.args.test_history.now), ap length (c.as_slice-stations.ensures ∙ ap (λ z. z.stations) c.scenario.ensures.value))

pub label_if_on_air-requires-clause-known : goal.label_if_on_air-requires-clause-known
label_if_on_air-requires-clause-known c =
    let s = c.args.setup.now in
    let k : ℕ = c.loop-i.i in
    let all : c.as_slice-stations.result.now ≡ s.scenario.stations = c.as_slice-stations.ensures ∙ ap (λ z. z.stations) c.scenario.ensures.value in
    let inside : k < length s.scenario.stations = subst (λ n. k < n) c.loop-i.invariant.3 c.loop-i-test.true in
    let own : (get_or c.as_slice-stations.result.now k none).id ≡ get_or (facilities s.scenario) k 0 = ap (λ xs. (get_or xs k none).id) all ∙ sym (facility_at s.scenario k none inside) in
    let there : is_in (facilities s.scenario) (get_or (facilities s.scenario) k 0) ≡ true = is_in-from (facilities s.scenario) _ (Contains-get_or (facilities s.scenario) k 0 (rw (length-map s.scenario.stations (λ (x : Station). x.id)) inside)) in
    let same : c.loop-i.test_history.component_labels.stations ≡ facilities s.scenario = c.loop-i.invariant.0.stations in
    rw (same, own) there

pub label_if_on_air-requires-clause-few : goal.label_if_on_air-requires-clause-few
label_if_on_air-requires-clause-few c =
    let s = c.args.setup.now in
    let k : ℕ = c.loop-i.i in
    let inside : k < length s.scenario.stations = subst (λ n. k < n) c.loop-i.invariant.3 c.loop-i-test.true in
    let few = aired-few s.scenario k in
    let count = c.loop-i.invariant.1 in
    let most = c.scenario.ensures.sound.auction.limits.stations in
    omega (arith, few, count, inside, most)

pub loop-i-preserved : goal.loop-i-preserved
loop-i-preserved c =
    let s = c.args.setup.now in
    let sc = s.scenario in
    let k : ℕ = c.loop-i.i in
    let all : c.as_slice-stations.result.now ≡ sc.stations = c.as_slice-stations.ensures ∙ ap (λ z. z.stations) c.scenario.ensures.value in
    let inside : k < length sc.stations = subst (λ n. k < n) c.loop-i.invariant.3 c.loop-i-test.true in
    let own : (get_or c.as_slice-stations.result.now k none).id ≡ get_or (facilities sc) k 0 = ap (λ xs. (get_or xs k none).id) all ∙ sym (facility_at sc k none inside) in
    let standing : StationStatus = get_or c.args.station_statuses.now k Active in
    let old : TestHistoryView = c.loop-i.test_history in
    let new : TestHistoryView = c.label_if_on_air.new.test_history in
    let went : is_status_on_air standing ≡ true → (new.on_air ≡ old.on_air + 1) × ((z : ℕ) → label_of new.component_labels z ≡ relabelled s.book (labelled old.component_labels) (label_of old.component_labels) (get_or (facilities sc) k 0) (old.on_air + 1) z) = λ on.
    let w = c.label_if_on_air.ensures.went on in (w.0, λ z. w.1 z ∙ (λ j. relabelled (c.book.ensures j) (labelled old.component_labels) (label_of old.component_labels) (own j) (old.on_air + 1) z)) in
    let more = aired-more sc s.book c.args.station_statuses.now k old new c.scenario.ensures.sound.auction.limits.ascend c.requires.station_statuses inside c.loop-i.invariant.0 c.loop-i.invariant.1 c.label_if_on_air.ensures.stations went c.label_if_on_air.ensures.stood in
    (more.0, more.1, c.label_if_on_air.ensures.same ∙ ap (λ (z : TestHistoryView). record z { component_labels = new.component_labels; on_air = new.on_air }) c.loop-i.invariant.2, c.loop-i.invariant.3)
