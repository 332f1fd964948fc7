-- One more station, and its entry.
use Rattle.std.proofs.Common.{◌≡◌, ◌<◌, ◌∙◌, ℕ, Bool, None, ap, false, filter, get_or, length, refl, rules, subst, sym, take, true}
use Rattle.std.proofs.lemmas.List.{take_all}
use Rattle.auction_core.specs.AirMap.{placed_entries}
use Rattle.auction_core.specs.ComponentLabels.{is_asked, label_in}
use Rattle.auction_core.proofs.AskedEntries.{asked-here, entries-done, entries-of, entry-none, entry-off, entry-taken}
use Rattle.auction_core.proofs.Merged.{restricted-ascending}
use Rattle.auction_core.proofs.LabelLemmas.{label-at}
use Rattle.auction_core.proofs.Placed.{placed-ascending}
use Rattle.auction_core.proofs.Touched.{asked-passed, asked-taken}
use Rattle.auction_core.proofs.component_labels.tested_stations_on.Goals as goal

pub is_asked-requires : goal.is_asked-requires
is_asked-requires c =
    let fs = c.args.stations.now in
    let at = c.loop-place.place in
    subst (λ l. l < length c.args.marks.now) (label-at fs c.args.labels.now at (get_or fs at 0) 0 c.requires.ascending c.requires.places c.loop-place-test.true refl) (c.requires.marks (get_or fs at 0))

pub loop-place-preserved-then-not-is_asked : goal.loop-place-preserved-then-not-is_asked
loop-place-preserved-then-not-is_asked c =
    let fs = c.args.stations.now in
    let ls = c.args.labels.now in
    let cs = c.args.channels.now in
    let at = c.loop-place.place in
    let off = sym c.if-not-is_asked.ensures in
    record {
      set = asked-passed c.args.station (get_or fs at 0) (get_or ls at 0) at 0 c.args.marks.now fs ls c.loop-place.set.items c.requires.ascending c.requires.places c.loop-place-test.true refl refl c.loop-place.invariant.set off;
      entries = entry-off fs cs c.loop-place.entries.items _ (λ z. is_asked c.args.station c.args.marks.now z (label_in fs ls z)) at (get_or fs at 0) c.requires.channels c.loop-place-test.true refl (asked-here c.args.station (get_or ls at 0) at 0 c.args.marks.now fs ls false c.requires.ascending c.requires.places c.loop-place-test.true refl off) c.loop-place.invariant.entries;
    }

pub loop-place-preserved-in_default : goal.loop-place-preserved-in_default
loop-place-preserved-in_default c =
    let fs = c.args.stations.now in
    let ls = c.args.labels.now in
    let cs = c.args.channels.now in
    let at = c.loop-place.place in
    let on = sym c.if-not-is_asked.ensures in
    record {
      set = c.in_ok-push.ensures.items ∙ asked-taken c.args.station (get_or fs at 0) (get_or ls at 0) at 0 c.args.marks.now fs ls c.loop-place.set.items c.requires.ascending c.requires.places c.loop-place-test.true refl refl c.loop-place.invariant.set on;
      entries = entry-none fs cs c.loop-place.entries.items _ (λ z. is_asked c.args.station c.args.marks.now z (label_in fs ls z)) at (get_or fs at 0) c.requires.channels c.loop-place-test.true refl None (search rules) (asked-here c.args.station (get_or ls at 0) at 0 c.args.marks.now fs ls true c.requires.ascending c.requires.places c.loop-place-test.true refl on) refl c.loop-place.invariant.entries;
    }

pub loop-place-preserved : goal.loop-place-preserved
loop-place-preserved c =
    let fs = c.args.stations.now in
    let ls = c.args.labels.now in
    let cs = c.args.channels.now in
    let at = c.loop-place.place in
    let on = sym c.if-not-is_asked.ensures in
    record {
      set = c.in_ok-push.ensures.items ∙ asked-taken c.args.station (get_or fs at 0) (get_or ls at 0) at 0 c.args.marks.now fs ls c.loop-place.set.items c.requires.ascending c.requires.places c.loop-place-test.true refl refl c.loop-place.invariant.set on;
      entries = rw c.in_ok-push-2.ensures.items (entry-taken fs cs c.loop-place.entries.items _ (λ z. is_asked c.args.station c.args.marks.now z (label_in fs ls z)) at (get_or fs at 0) c.requires.channels c.loop-place-test.true refl _ c.in-Some.channel (search rules) (asked-here c.args.station (get_or ls at 0) at 0 c.args.marks.now fs ls true c.requires.ascending c.requires.places c.loop-place-test.true refl on) c.in-Some.is c.loop-place.invariant.entries);
    }

pub returns-clause-entries : goal.returns-clause-entries
returns-clause-entries c =
    let fs = c.args.stations.now in
    let cs = c.args.channels.now in
    let asked : ℕ → Bool = λ z. is_asked c.args.station c.args.marks.now z (label_in fs c.args.labels.now z) in
    let all : take c.loop-place.place fs ≡ fs = take_all _ _ c.loop-place-test.false in
    entries-done fs cs c.loop-place.entries.items _ asked c.loop-place.place c.loop-place-test.false c.loop-place.invariant.entries
    ∙ entries-of asked fs cs c.loop-place.set.items (c.loop-place.invariant.set ∙ ap (filter asked) all)

pub returns-clause-ascending : goal.returns-clause-ascending
returns-clause-ascending c =
    let fs = c.args.stations.now in
    let cs = c.args.channels.now in
    let asked : ℕ → Bool = λ z. is_asked c.args.station c.args.marks.now z (label_in fs c.args.labels.now z) in
    let all : take c.loop-place.place fs ≡ fs = take_all _ _ c.loop-place-test.false in
    rw (entries-done fs cs c.loop-place.entries.items _ asked c.loop-place.place c.loop-place-test.false c.loop-place.invariant.entries
    ∙ entries-of asked fs cs c.loop-place.set.items (c.loop-place.invariant.set ∙ ap (filter asked) all))
    (restricted-ascending (placed_entries fs cs) c.loop-place.set.items (placed-ascending fs cs c.requires.ascending))
