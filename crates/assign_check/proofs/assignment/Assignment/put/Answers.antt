use Rattle.std.proofs.Common.{◌∙◌, ap, ap₂, sym, subst}
use Rattle.pack_defs.specs.ChannelMap.{IsAscending}
use Rattle.pack_defs.proofs.MapLemmas.{put-ascending}
use Rattle.assign_check.specs.Assignment.{violations_of}
use Rattle.assign_check.proofs.Counts.{at-most, counted-moved}
use Rattle.assign_check.proofs.assignment.Assignment.put.Goals as goal

pub violated_of-after-requires : goal.violated_of-after-requires
violated_of-after-requires c =
    let items = c.self.inside.entries.items in
    subst IsAscending (sym (c.deref-2.ensures.value ∙ c.set_channel.ensures)) (put-ascending (c.args.station, c.args.c) items c.self.invariant.ascending)

pub overflow_sub-self : goal.overflow_sub-self
overflow_sub-self c =
    let book = c.requires.book ∙ ap (λ a. a.book) (sym c.self.view_is) in
    let before = c.violated_of-before.ensures ∙ ap₂ (λ b es. violations_of b es c.args.station) book c.deref.ensures.value in
    at-most c.self.inside.book.value c.self.inside.entries.items c.args.station c.self.inside.violations c.violated_of-before.result c.self.invariant before

pub invariant_of-self : goal.invariant_of-self
invariant_of-self c =
    let items = c.self.inside.entries.items in
    let book = c.requires.book ∙ ap (λ a. a.book) (sym c.self.view_is) in
    let before = c.violated_of-before.ensures ∙ ap₂ (λ b es. violations_of b es c.args.station) book c.deref.ensures.value in
    let after = c.violated_of-after.ensures ∙ ap₂ (λ b es. violations_of b es c.args.station) book (c.deref-2.ensures.value ∙ c.set_channel.ensures) in
    let moved = counted-moved c.self.inside.book.value (c.args.station, c.args.c) items c.self.inside.violations c.violated_of-before.result c.violated_of-after.result c.self.invariant before after in
    rw c.set_channel.ensures moved
