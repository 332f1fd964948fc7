use Rattle.std.proofs.Common.{◌≡◌, ◌<◌, ℕ, true, false, length, get_or, take}
use Rattle.std.specs.List.{list_all}
use Rattle.pack_defs.specs.Lists.{is_in}
use Rattle.constraint_files.specs.Field.{is_channel}
use Rattle.constraint_files.proofs.domain_row.named_channels.Given as goal

abbrev pub invariant-loop-number : goal.invariant-loop-number
invariant-loop-number l = record {
  flags : length l.is_named ≡ 52;
  channels : list_all is_channel (take l.number-index l.numbers) ≡ true;
  named : (c : ℕ) → c < 52 → get_or l.is_named c false ≡ is_in (take l.number-index l.numbers) c;
}
