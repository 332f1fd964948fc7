use Rattle.std.proofs.Common.{◌≡◌, ℕ, map, take}
use Rattle.pack_defs.specs.Components.{neighbours_of}
use Rattle.pack_defs.proofs.neighbours.neighbour_lists.Given as goal

abbrev pub invariant-loop-domain : goal.invariant-loop-domain
invariant-loop-domain l =
    (top : ℕ) → l.lists.items ≡ map (λ d. neighbours_of (record { top = top; domains = l.domains; pairs = l.pairs }) d.station) (take l.domain-index l.domains)
