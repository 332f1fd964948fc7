-- By the lemmas on marks.
use Rattle.std.proofs.Common.{◌≡◌, ◌+◌, ◌∙◌, false, ap, replicate, rules, subst}
use Rattle.auction_core.specs.AirMap.{placed_entries}
use Rattle.auction_core.specs.ComponentLabels.{label_of, marked, touched_set}
use Rattle.auction_core.specs.State.{restricted}
use Rattle.auction_core.proofs.Touched.{asked-is, marks-kept, marks-made}
use Rattle.auction_core.proofs.component_labels.ComponentLabels.touched_stations_on.Goals as goal

pub mark-requires : goal.mark-requires
mark-requires c =
    let none : c.in_ok-marks.marks.items ≡ replicate (c.args.most + 1) false = search rules in
    marks-made (label_of c.args.self.now) c.args.most c.in_ok-marks.marks.items c.requires.most none

pub marked_on-requires-clause-marks : goal.marked_on-requires-clause-marks
marked_on-requires-clause-marks c =
    let label = label_of c.args.self.now in
    let none : c.in_ok-marks.marks.items ≡ replicate (c.args.most + 1) false = search rules in
    marks-kept label c.neighbours.result.now c.in_ok-marks.marks.items c.deref.result.now (marks-made label c.args.most c.in_ok-marks.marks.items c.requires.most none) (c.deref.ensures.value ∙ c.mark.ensures)

pub returns-clause-set : goal.returns-clause-set
returns-clause-set c =
    let now = c.args.self.now in
    let none : c.in_ok-marks.marks.items ≡ replicate (c.args.most + 1) false = search rules in
    asked-is c.args.book.now now c.args.station c.args.most c.neighbours.result.now c.deref.result.now c.in_ok-asked.asked.set.items c.neighbours.ensures.interfere c.requires.most (c.deref.ensures.value ∙ (c.mark.ensures ∙ ap (marked (label_of now) c.neighbours.result.now) none)) c.in_ok-asked.ensures.set

pub returns-clause-last : goal.returns-clause-last
returns-clause-last c =
    let now = c.args.self.now in
    let none : c.in_ok-marks.marks.items ≡ replicate (c.args.most + 1) false = search rules in
    let set : c.in_ok-asked.asked.set.items ≡ touched_set c.args.book.now now c.args.station = asked-is c.args.book.now now c.args.station c.args.most c.neighbours.result.now c.deref.result.now c.in_ok-asked.asked.set.items c.neighbours.ensures.interfere c.requires.most (c.deref.ensures.value ∙ (c.mark.ensures ∙ ap (marked (label_of now) c.neighbours.result.now) none)) c.in_ok-asked.ensures.set in
    let entries : c.in_ok-asked.asked.entries.items ≡ restricted (placed_entries now.stations c.channels.result.now) c.in_ok-asked.asked.set.items = c.in_ok-asked.ensures.entries in
    let placed : placed_entries now.stations c.channels.result.now ≡ c.args.map.now.entries = subst (λ ss. placed_entries ss c.channels.result.now ≡ c.args.map.now.entries) c.requires.stations c.channels.ensures.entries in
    c.in_ok-last.ensures ∙ (c.deref-2.ensures.value ∙ (entries ∙ (λ i. restricted (placed i) (set i))))
