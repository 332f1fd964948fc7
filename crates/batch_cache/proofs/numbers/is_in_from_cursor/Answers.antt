use Rattle.std.proofs.Common.{sym}
use Rattle.batch_cache.proofs.PlaceLemmas.{number-stands}
use Rattle.batch_cache.proofs.numbers.is_in_from_cursor.Goals as goal

pub returns-then-is_at_place : goal.returns-then-is_at_place
returns-then-is_at_place c = sym (number-stands c.args.numbers.now c.args.next.now c.args.number c.if-is_at_place.ensures)
