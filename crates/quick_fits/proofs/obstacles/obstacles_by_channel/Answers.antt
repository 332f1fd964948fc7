-- All pairs of the station are recorded.
use Rattle.quick_fits.specs.Obstacles.{moved_map}
use Rattle.quick_fits.proofs.FreeLemmas.{all-ways}
use Rattle.quick_fits.proofs.obstacles.obstacles_by_channel.Goals as goal

pub returns : goal.returns
returns c =
    all-ways c.args.book.now (moved_map c.args.stands.map.now c.args.stands.moved) c.args.station c.in_ok-ways.ways.len c.in_ok-ways.ways.items c.deref_mut.result.now c.count_first.new.ways _ c.deref_mut-2.result.now c.count_second.new.ways _
    (c.in_ok-ways.ensures.items_if_clones_equal (λ y same. same)) c.in_ok-ways.ensures.len c.deref_mut.ensures.value c.count_first.ensures.size c.count_second.ensures.size c.count_first.ensures.way c.deref_mut-2.ensures.value c.count_second.ensures.way
