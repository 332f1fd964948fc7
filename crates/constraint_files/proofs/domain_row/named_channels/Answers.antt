use Rattle.std.proofs.Common.{refl, false}
use Rattle.std.proofs.lemmas.List.{get_or-replicate}
use Rattle.constraint_files.proofs.domain_row.named_channels.Goals as goal

pub loop-number-init : goal.loop-number-init
loop-number-init c = record {
  flags = refl;
  channels = refl;
  named = λ k h. get_or-replicate 52 k false false h;
}
