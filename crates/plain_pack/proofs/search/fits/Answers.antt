use Rattle.plain_pack.proofs.PackSearch.{fits-none, nothing-apart, packs}
use Rattle.plain_pack.proofs.search.fits.Goals as goal

pub extend-requires : goal.extend-requires
extend-requires c = rw c.new-chosen.ensures.items (nothing-apart c.args.book.now)

pub returns-then-not-branch : goal.returns-then-not-branch
returns-then-not-branch c =
    let none = rw (c.if-not-branch.true, c.new-chosen.ensures.items) at c.in_ok-extend.ensures in
    fits-none c.args.book.now c.args.set.now none.1

pub of-requires : goal.of-requires
of-requires c =
    let found = rw (c.if-not-branch.false, c.new-chosen.ensures.items) at c.in_ok-extend.ensures in
    let packing = packs c.args.book.now c.args.set.now c.extend.new.chosen.items found in
    rw (c.deref.ensures.value, packing.stations) c.requires

pub returns : goal.returns
returns c =
    let found = rw (c.if-not-branch.false, c.new-chosen.ensures.items) at c.in_ok-extend.ensures in
    rw (c.in_ok-of.ensures, c.deref.ensures.value) (packs c.args.book.now c.args.set.now c.extend.new.chosen.items found)
