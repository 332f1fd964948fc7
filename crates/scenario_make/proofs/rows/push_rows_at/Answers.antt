use Rattle.scenario_make.proofs.DrawLemmas.{after-both}
use Rattle.scenario_make.proofs.rows.push_rows_at.Goals as goal

pub returns-clause-next : goal.returns-clause-next
returns-clause-next c =
    after-both c.args.words.now c.draw_links.new.words c.draw_adjacent-adjacent.new.words c.args.station c.args.end c.in_ok-links.ensures.next c.draw_adjacent-adjacent.ensures.next
