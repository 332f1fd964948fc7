-- One more record was passed.
use Rattle.std.proofs.Common.{List, Some, subst}
use Rattle.std.proofs.lemmas.List.Elements.{All-pop}
use Rattle.commands.specs.declared.top_channel_runs.TopRecord.{TopRecord}
use Rattle.commands.specs.Seek.{IsTopRecord, Picks}
use Rattle.commands.proofs.top_channel_runs.pick_records.Goals as goal

pub loop-x-preserved : goal.loop-x-preserved
loop-x-preserved c =
    let base = c.args.records.base in
    let all = c.args.records.kept in
    let left = c.pop.new.self.items in
    let x = c.in-Some.x in
    let kept = c.loop-x.invariant in
    let of = All-pop (IsTopRecord base) c.loop-x.kept.items left (Some x) c.in-Some.ensures.items kept.0 in (
      of.0,
      c.pick_from-picked.ensures.first base all left of.1
          (subst (λ (ys : List TopRecord). Picks base all ys c.args.first.top c.args.first.answer c.loop-x.picked.first) c.in-Some.ensures.items kept.1),
      c.pick_from-picked.ensures.second base all left of.1
          (subst (λ (ys : List TopRecord). Picks base all ys c.args.second.top c.args.second.answer c.loop-x.picked.second) c.in-Some.ensures.items kept.2),
    )
