use Rattle.std.proofs.Common.{◌≡◌, ◌++◌, take}
use Rattle.std.specs.List.{flat_map}
use Rattle.result_text.specs.ChannelsText.{channel_line, channels_header}
use Rattle.result_text.specs.ResultText.{IsBetweenRows, text_held}
use Rattle.result_text.proofs.channels.channels_csv.Given as goal

abbrev pub invariant-loop-entry : goal.invariant-loop-entry
invariant-loop-entry l = record {
  idle : IsBetweenRows l.writer;
  text : text_held l.writer ≡ channels_header ++ flat_map channel_line (take l.entry-index l.rec.map);
}
