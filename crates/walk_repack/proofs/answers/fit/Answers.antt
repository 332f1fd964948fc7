use Rattle.std.proofs.Common.{◌≡◌, ◌∙◌, ℕ, List, true, sym, subst}
use Rattle.pack_defs.specs.Book.{BookView}
use Rattle.pack_defs.specs.Lists.{has_station}
use Rattle.cert_types.specs.Moves.{start_map}
use Rattle.walk_repack.specs.Steps.{map_stations}
use Rattle.cert_types.proofs.QueryLaws.{query-kept}
use Rattle.walk_repack.proofs.AnswerLemmas.{walk_state-stations, fit-valid}
use Rattle.walk_repack.proofs.answers.fit.Goals as goal

pub returns : goal.returns
returns c worker clean =
    let book = c.args.book.now in
    let task = c.args.task.now in
    let same : c.in_ok-map.map ≡ c.args.walk_state.entries = c.in_ok-map.ensures ∙ c.deref.ensures.value ∙ c.into_entries.ensures.entries in
    let start : c.args.walk_state.start ≡ start_map c.args.walk_state.book task.last task.set = subst (λ (b : BookView). c.args.walk_state.start ≡ start_map b task.last task.set) (sym c.requires.book) c.requires.start in
    let stations : map_stations c.args.walk_state.entries ≡ task.set = walk_state-stations c.args.walk_state.book task c.args.walk_state c.into_entries.ensures.walk_state start in
    let kept : (s : ℕ) → has_station task.last s ≡ true → has_station c.in_ok-map.map s ≡ true =
    λ s h. subst (λ (m : List (ℕ × ℕ)). has_station m s ≡ true) (sym same) (query-kept book task c.args.walk_state.entries c.requires.query stations s h) in
    fit-valid book task worker c.args.walk_state c.in_ok-delta.field-0 c.into_entries.ensures.walk_state c.requires.book stations clean (c.in_ok-delta.ensures.whole kept ∙ same)
