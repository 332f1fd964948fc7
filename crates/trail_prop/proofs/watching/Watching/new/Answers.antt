use Rattle.std.proofs.Common.{◌≡◌, ◌*◌, ℕ, List, [], replicate, length, sym, ap, ◌∙◌, subst, arith}
use Rattle.std.proofs.lemmas.List.{length-replicate}
use Rattle.trail_prop.specs.declared.watches.Watch.{Watch}
use Rattle.trail_prop.specs.Trails.{TrailView}
use Rattle.trail_prop.specs.Watching.{AllPending, IsWatchInvariant}
use Rattle.trail_prop.proofs.Settling.{watchful-new}
use Rattle.trail_prop.proofs.watching.Watching.new.Goals as goal

pub invariant_of-result : goal.invariant_of-result
invariant_of-result c =
    let clauses = c.args.clauses in
    let many : c.vars.result ≡ clauses.vars = c.vars.ensures in
    let range = c.vars.type_inv in
    let lists = c.in_ok-watches.watches in
    let e : lists ≡ replicate (2 * clauses.vars) [] = c.in_ok-watches.ensures ∙ ap (λ (n : ℕ). replicate (2 * n) []) many in
    let n : length lists ≡ 2 * clauses.vars = ap (λ (z : List (List Watch)). length z) e ∙ length-replicate (2 * clauses.vars) [] in
    let p : length c.in_ok-places.places.items ≡ length clauses.list = c.in_ok-places.ensures ∙ c.len-count.ensures in
    let w : AllPending (length clauses.list) c.in_ok-pending.pending.items = subst (λ (k : ℕ). AllPending k c.in_ok-pending.pending.items) c.len-count.ensures c.in_ok-pending.ensures in
    subst (λ (t : TrailView). IsWatchInvariant (record { trail = t; lists = lists; places = c.in_ok-places.places.items; pending = c.in_ok-pending.pending.items; head = 0 })) (sym c.in_ok-plain.ensures) (watchful-new clauses lists c.in_ok-places.places.items c.in_ok-pending.pending.items (omega arith) c.requires e n p w)
