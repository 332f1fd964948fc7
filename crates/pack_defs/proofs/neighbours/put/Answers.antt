use Rattle.std.proofs.Common.{◌≡◌, [], ◌∷◌, map-id, true, subst, sym, Ok}
use Rattle.pack_defs.specs.Lists.{is_ascending, is_in}
use Rattle.pack_defs.specs.Neighbours.{HasInserted}
use Rattle.pack_defs.proofs.NeighbourLemmas.{also-new, also-there}
use Rattle.pack_defs.proofs.Searches.{found-number, rising-keys}
use Rattle.pack_defs.proofs.neighbours.put.Goals as goal

pub returns-in-Ok : goal.returns-in-Ok
returns-in-Ok c =
    let xs = c.deref.result.now in
    let up : is_ascending xs ≡ true = rw c.deref.ensures.value c.requires in
    let there : is_in xs c.args.station ≡ true = sym (found-number xs c.args.station (Ok c.in-Ok.field-0) c.in-Ok.ensures.bound c.in-Ok.ensures.position up) in
    subst (λ ys. HasInserted ys (c.args.station ∷ []) ys) c.deref.ensures.value (also-there xs c.args.station up there)

pub returns-in_ok-insert-in-Err : goal.returns-in_ok-insert-in-Err
returns-in_ok-insert-in-Err c =
    let xs = c.deref.result.now in
    let up : is_ascending xs ≡ true = rw c.deref.ensures.value c.requires in
    let is_split = c.in-Err.ensures.position (rising-keys (λ y. y) xs c.args.station (rw map-id up)) in
    let one = also-new xs c.args.station c.in-Err.place c.in-Err.ensures.bound is_split up in
    rw c.in_ok-insert-in-Err.ensures.items (rw c.deref.ensures.value at one)
