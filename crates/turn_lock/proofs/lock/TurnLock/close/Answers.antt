use Rattle.std.proofs.Common.{◌≡◌, ◌∙◌, ℕ, ◌<◌, [], ◌∷◌, length, map, ap, sym, subst, rules}
use Rattle.std.specs.Prelude.{unwrap_or}
use Rattle.std.proofs.lemmas.List.{append-nil, nil_from_length}
use Rattle.std.specs.Vec.Iter.{into_iter_items}
use Rattle.turn_lock.specs.Passes.{known_of, pass_identity}
use Rattle.turn_lock.specs.Turns.{Knows}
use Rattle.turn_lock.proofs.Lists.{length_map}
use Rattle.turn_lock.proofs.Makes.{map_again}
use Rattle.turn_lock.proofs.lock.TurnLock.close.Goals as goal

pub close_joined-requires-clause-many : goal.close_joined-requires-clause-many
close_joined-requires-clause-many g c =
    let l = c.loop-other in
    let ps = c.args.passes.items in
    let none : into_iter_items l.other-iterator ≡ [] = nil_from_length (into_iter_items l.other-iterator) (search rules) in
    let all : l.one.seat.me.0.own ∷ l.one.seat.me.0.joined ≡ map known_of ps = sym (append-nil (l.one.seat.me.0.own ∷ l.one.seat.me.0.joined)) ∙ rw none at l.invariant.known in
    ap length all ∙ (length_map known_of ps ∙ sym (ap (λ o. unwrap_or o 0) l.invariant.passes_made))

pub close_joined-requires-clause-all : goal.close_joined-requires-clause-all
close_joined-requires-clause-all g c =
    let l = c.loop-other in
    let ps = c.args.passes.items in
    let none : into_iter_items l.other-iterator ≡ [] = nil_from_length (into_iter_items l.other-iterator) (search rules) in
    let all : l.one.seat.me.0.own ∷ l.one.seat.me.0.joined ≡ map known_of ps = sym (append-nil (l.one.seat.me.0.own ∷ l.one.seat.me.0.joined)) ∙ rw none at l.invariant.known in
    let numbers : map (λ s. s.number) (map pass_identity ps) ≡ map (λ k. k.number) (l.one.seat.me.0.own ∷ l.one.seat.me.0.joined) =
    map_again pass_identity (λ s. s.number) ps ∙ sym (map_again known_of (λ k. k.number) ps) ∙ ap (map (λ k. k.number)) (sym all) in
    λ n below. subst (Knows n) numbers (c.requires.all.all n (subst (λ (k : ℕ). n < k) (ap (λ o. unwrap_or o 0) l.invariant.passes_made ∙ sym (length_map pass_identity ps)) below))
