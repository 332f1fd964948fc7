use Rattle.std.proofs.Common.{ℕ, List, ap, ◌∙◌}
use Rattle.batch_cache.specs.Cache.{key_of}
use Rattle.batch_cache.proofs.AnswerLemmas.{refutation-put}
use Rattle.batch_cache.proofs.EntryLemmas.{put-cache}
use Rattle.batch_cache.proofs.cache.Cache.put_refutation.Goals as goal

pub returns-in-Ok-clause-put : goal.returns-in-Ok-clause-put
returns-in-Ok-clause-put c =
    refutation-put c.args.self.now c.self.inside.maps c.self.inside.refutations c.put.new.self _ _ c.self.view_is c.self.invariant
    (put-cache c.self.inside.refutations c.put.new.self c.in_ok-key.key (key_of c.args.top c.args.task.now) c.in_ok-kept.kept _ c.keeps_keys_and_room.ensures c.in-Ok.ensures.entries (c.in_ok-key.ensures ∙ ap (λ (set : List ℕ). record { top = c.args.top; set = set }) c.as_slice.ensures) c.in_ok-kept.ensures)
