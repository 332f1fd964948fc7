-- The pairs that are left decide the rest.
use Rattle.std.proofs.Common.{◌≡◌, ℕ, ◌&&◌, not, drop, length}
use Rattle.std.specs.List.{list_any}
use Rattle.quick_fits.specs.Obstacles.{blocks_second, is_channel_open, moved_map, obstacles_at}
use Rattle.quick_fits.proofs.obstacles.count_second.Given as goal

abbrev pub invariant-loop-p : goal.invariant-loop-p
invariant-loop-p l = record {
  size : length l.ways ≡ 256;
  way : (c : ℕ) → (is_channel_open (obstacles_at l.ways c) && not (list_any (blocks_second (moved_map l.stands.map.now l.stands.moved) c) (drop l.p-index l.p-items))) ≡ (is_channel_open (obstacles_at l.initial.ways c) && not (list_any (blocks_second (moved_map l.stands.map.now l.stands.moved) c) l.p-items));
}
