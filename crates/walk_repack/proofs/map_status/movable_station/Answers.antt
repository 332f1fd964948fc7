use Rattle.std.proofs.Common.{◌≡◌, ◌≤◌, ℕ, List, length, subst}
use Rattle.pack_defs.specs.Book.{BookView, IsInOrder, domain_of}
use Rattle.walk_repack.proofs.MapStatusLemmas.{violated-dead}
use Rattle.walk_repack.proofs.map_status.movable_station.Goals as goal

pub returns : goal.returns
returns c =
    let few : (s : ℕ) (channels : List ℕ) → channels ≡ domain_of c.args.book.now s → length channels ≤ 1 → length (domain_of c.args.walk_state.now.book s) ≤ 1 =
    λ s channels e l. subst (λ (b : BookView). length (domain_of b s) ≤ 1) c.requires.book (subst (λ (xs : List ℕ). length xs ≤ 1) e l) in
    violated-dead c.args.walk_state.now.book c.args.walk_state.now.entries c.args.pair
    (subst IsInOrder c.requires.book c.keeps_order.ensures) c.requires.violated
    (few c.args.pair.f c.domain-choices.result.now c.domain-choices.ensures c.if-choices-gt1.false)
    (few c.args.pair.g c.domain-other_choices.result.now c.domain-other_choices.ensures c.if-other_choices-gt1.false)
