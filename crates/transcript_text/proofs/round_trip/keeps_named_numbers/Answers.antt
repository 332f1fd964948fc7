-- The facts of the calls are the preconditions of the round-trip law, if the channels are those of a file.
use Rattle.transcript_text.proofs.round_trip.keeps_named_numbers.Goals as goal

pub returns : goal.returns
returns c = λ channels. record {
  numbers = rw (← c.as_slice.ensures) c.keeps_short_numbers.ensures;
  in_order = c.keeps_order_and_memory.ensures.order;
  channels = channels;
  pairs = c.keeps_order_and_memory.ensures.pairs;
}
