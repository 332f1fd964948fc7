-- A channel is found if one of those so far is free.
use Rattle.std.proofs.Common.{◌≡◌, ◌||◌, true, drop}
use Rattle.std.specs.Prelude.{IfSome}
use Rattle.std.specs.List.{list_any}
use Rattle.std.specs.Option.{is_some}
use Rattle.pack_defs.specs.Lists.{is_in}
use Rattle.quick_fits.specs.Obstacles.{is_channel_open, obstacles_at}
use Rattle.quick_fits.proofs.obstacles.free_channel.Given as goal

abbrev pub invariant-loop-c : goal.invariant-loop-c
invariant-loop-c l = record {
  some : (is_some l.best || list_any (λ c. is_channel_open (obstacles_at l.ways c)) (drop l.c-index l.domain)) ≡ list_any (λ c. is_channel_open (obstacles_at l.ways c)) l.domain;
  free : IfSome l.best (λ c. (is_in l.domain c ≡ true) × (is_channel_open (obstacles_at l.ways c) ≡ true));
}
