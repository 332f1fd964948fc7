use Rattle.std.proofs.Common.{◌++◌, ◌∷◌, ◌∙◌, [], ℕ, List, Vec, Global, false, ap, get_or, sym, arith}
use Rattle.std.proofs.lemmas.List.{append-nil}
use Rattle.constraint_files.proofs.DomainLemmas.{kept-all, kept-more}
use Rattle.constraint_files.proofs.domain_row.kept_channels.Goals as goal
use Rattle.constraint_files.proofs.domain_row.kept_channels.Goals.{then-is_named-channel+in_ok-push, else-is_named-channel}

pub loop-channel-preserved : goal.loop-channel-preserved
loop-channel-preserved c =
    let step = kept-more (λ k. get_or c.args.is_named.now k false) c.loop-channel.channel (omega arith) in
    elim c.if-is_named-channel.branch [
      | then-is_named-channel+in_ok-push w ↦
          ap (λ (v : Vec ℕ Global). v.items) w.kept-is ∙ w.in_ok-push.ensures.items
          ∙ ap (λ (l : List ℕ). l ++ (c.loop-channel.channel ∷ [])) c.loop-channel.invariant ∙ sym (rw w.if-is_named-channel.true at step)
      | else-is_named-channel w ↦
          ap (λ (v : Vec ℕ Global). v.items) w.kept-is ∙ c.loop-channel.invariant ∙ sym (rw (w.if-is_named-channel.false, append-nil) at step)
    ]

pub returns : goal.returns
returns c =
    let all = kept-all (λ k. get_or c.args.is_named.now k false) c.loop-channel.channel (omega arith) in
    rw (c.from_vec.ensures, c.loop-channel.invariant) all
