use Rattle.std.proofs.Common.{refl, false, get_or}
use Rattle.pack_defs.specs.Lists.{is_in}
use Rattle.constraint_files.proofs.DomainLemmas.{same-kept}
use Rattle.constraint_files.proofs.domain_row.domain_with_channels.Goals as goal

pub returns : goal.returns
returns c =
    let named = c.in-Some.ensures in
    let kept = c.in_ok-kept_channels.ensures in
    let same = same-kept (λ k. get_or c.in-Some.is_named k false) (λ k. is_in c.args.named.now k) named.1 in
    rw (named.0, kept, same) refl
