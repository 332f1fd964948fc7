use Rattle.std.proofs.Common.{◌≡◌, ◌+◌, ◌-◌, ◌<◌, ℕ, List, [], ◌∷◌, ◌++◌, length, get_or, false, refl, sym, ap, ◌∙◌, subst, arith, Some, length-append}
use Rattle.std.specs.List.{All}
use Rattle.std.proofs.lemmas.List.{take_all}
use Rattle.std.proofs.lemmas.List.Elements.{All-more}
use Rattle.clause_db.specs.declared.lit.Lit.{Lit}
use Rattle.clause_db.specs.Clauses.{Clauses}
use Rattle.trail_prop.specs.declared.entry.TrailEntry.{TrailEntry}
use Rattle.trail_prop.specs.Entries.{Assigned, lits_of, level_of, is_decision}
use Rattle.trail_prop.specs.Open.{IsClauseSettled}
use Rattle.trail_prop.specs.Steps.{with_trail, PendingScanKeeps}
use Rattle.trail_prop.specs.Trails.{IsTrail, TrailView}
use Rattle.trail_prop.specs.Watching.{WatchView, clause_of}
use Rattle.trail_prop.proofs.Settling.{watchful-complete}
use Rattle.trail_prop.proofs.Trailing.{grows-trans, grows-push, fits-opens, no-more-entries}
use Rattle.trail_prop.proofs.propagate.scan_pending.Goals as goal
use Rattle.trail_prop.proofs.propagate.scan_pending.Goals.{in-Forces, in-Settled}

after-settled : (start was now : WatchView) (at end n : ℕ) → PendingScanKeeps start was at end → now ≡ was → at < length was.pending → n ≡ get_or was.pending at n → IsClauseSettled (lits_of was.trail.entries) (clause_of was.trail.clauses.list (n - 1)) → PendingScanKeeps start now (at + 1) end
after-settled start was now at end n k e b r s =
    let here : PendingScanKeeps start was (at + 1) end = record {
      count = k.count;
      clauses = k.clauses;
      head = k.head;
      grows = k.grows;
      quiet = λ q. All-more (λ (m : ℕ). IsClauseSettled (lits_of was.trail.entries) (clause_of was.trail.clauses.list (m - 1))) was.pending at n b (k.quiet q) (subst (λ (m : ℕ). IsClauseSettled (lits_of was.trail.entries) (clause_of was.trail.clauses.list (m - 1))) r s);
    } in
    subst (λ (v : WatchView). PendingScanKeeps start v (at + 1) end) (sym e) here

after-forced : (start was now : WatchView) (at end : ℕ) (x : TrailEntry) → PendingScanKeeps start was at end → is_decision x ≡ false → x.level ≡ level_of was.trail.entries → now ≡ with_trail was (record { clauses = was.trail.clauses; entries = was.trail.entries ++ x ∷ [] }) → PendingScanKeeps start now (at + 1) end
after-forced start was now at end x k d l e =
    let es = was.trail.entries in
    let first : length es ≡ length start.trail.entries + length k.grows.more = ap (λ (z : List TrailEntry). length z) k.grows.follows ∙ length-append start.trail.entries k.grows.more in
    let longer = length-append es (x ∷ []) in
    let here : PendingScanKeeps start (with_trail was (record { clauses = was.trail.clauses; entries = es ++ x ∷ [] })) (at + 1) end = record {
      count = k.count;
      clauses = k.clauses;
      head = k.head;
      grows = grows-trans start.trail.entries es (es ++ x ∷ []) k.grows (grows-push es x d l);
      quiet = λ q. absurd (omega (arith, q, first, longer));
    } in
    subst (λ (v : WatchView). PendingScanKeeps start v (at + 1) end) (sym e) here

pub loop-at-preserved : goal.loop-at-preserved
loop-at-preserved c =
    let v = c.loop-at.watching in
    let n = c.waiting-number.result in
    elim c.match-clause_status_of.branch [
      | in-Forces w ↦ after-forced c.args.watching.now v c.match-clause_status_of.watching c.loop-at.at c.pending-at-end.result (record { lit = w.in-Forces.lit; level = level_of v.trail.entries; reason = Some n }) c.loop-at.invariant refl refl (w.watching-is ∙ w.force.ensures.pushed)
      | in-Settled w ↦
          let read : c.get.result.now ≡ clause_of v.trail.clauses.list (n - 1) = c.get.ensures.at ∙ ap (λ (z : Clauses). clause_of z.list (n - 1)) c.clauses.ensures.clauses ∙ ap (λ (t : TrailView). clause_of t.clauses.list (n - 1)) c.plain-plain.ensures.plain in
          let known : lits_of c.assigned.result.now.entries ≡ lits_of v.trail.entries = ap (λ (a : Assigned). lits_of a.entries) c.assigned.ensures ∙ ap (λ (t : TrailView). lits_of t.entries) c.plain-plain.ensures.plain in
          let one : IsClauseSettled (lits_of v.trail.entries) c.get.result.now = subst (λ (z : List Lit). IsClauseSettled z c.get.result.now) known w.in-Settled.ensures in
          let two : IsClauseSettled (lits_of v.trail.entries) (clause_of v.trail.clauses.list (n - 1)) = subst (λ (z : List Lit). IsClauseSettled (lits_of v.trail.entries) z) read one in
          let more = c.loop-at-test.true in
          let count = c.loop-at.invariant.count in
          after-settled c.args.watching.now v c.match-clause_status_of.watching c.loop-at.at c.pending-at-end.result n c.loop-at.invariant w.watching-is (omega arith) c.waiting-number.ensures.waits.number two
    ]

pub returns-then-entries-before-clause-step : goal.returns-then-entries-before-clause-step
returns-then-entries-before-clause-step c =
    let v = c.loop-at.watching in
    let trail : IsTrail v.trail.clauses v.trail.entries = subst (λ (t : TrailView). IsTrail t.clauses t.entries) c.plain-plain-2.ensures.plain c.keeps_reasons.ensures in
    let few = no-more-entries v.trail.clauses v.trail.entries trail in
    let low = c.plain-plain-2.ensures.watch_invariant.head in
    let now : length c.entries.result.now ≡ length v.trail.entries = ap (λ (z : List TrailEntry). length z) c.entries.ensures ∙ ap (λ (t : TrailView). length t.entries) c.plain-plain-2.ensures.plain in
    let before : length c.entries-before.result.now ≡ length c.args.watching.now.trail.entries = ap (λ (z : List TrailEntry). length z) c.entries-before.ensures ∙ ap (λ (t : TrailView). length t.entries) c.plain.ensures.plain in
    let more = c.if-entries-before.true in
    let head = c.loop-at.invariant.head in
    (omega arith, omega arith)

pub returns-else-entries-before-clause-step : goal.returns-else-entries-before-clause-step
returns-else-entries-before-clause-step c =
    let v = c.loop-at.watching in
    let start = c.args.watching.now in
    let i = c.loop-at.invariant in
    let trail : IsTrail v.trail.clauses v.trail.entries = subst (λ (t : TrailView). IsTrail t.clauses t.entries) c.plain-plain-2.ensures.plain c.keeps_reasons.ensures in
    let now : length c.entries.result.now ≡ length v.trail.entries = ap (λ (z : List TrailEntry). length z) c.entries.ensures ∙ ap (λ (t : TrailView). length t.entries) c.plain-plain-2.ensures.plain in
    let before : length c.entries-before.result.now ≡ length start.trail.entries = ap (λ (z : List TrailEntry). length z) c.entries-before.ensures ∙ ap (λ (t : TrailView). length t.entries) c.plain.ensures.plain in
    let grown : length v.trail.entries ≡ length start.trail.entries + length i.grows.more = ap (λ (z : List TrailEntry). length z) i.grows.follows ∙ length-append start.trail.entries i.grows.more in
    let no-more = c.if-entries-before.false in
    let same : length v.trail.entries ≡ length start.trail.entries = omega arith in
    let head : v.head ≡ length v.trail.entries = i.head ∙ (c.requires ∙ sym same) in
    let over = c.loop-at-test.false in
    let count = i.count in
    let all = subst (λ (z : List ℕ). All (λ (n : ℕ). IsClauseSettled (lits_of v.trail.entries) (clause_of v.trail.clauses.list (n - 1))) z) (take_all c.loop-at.at v.pending (omega arith)) (i.quiet same) in
    watchful-complete v c.plain-plain-2.ensures.watch_invariant (fits-opens v.trail.clauses [] v.trail.entries trail) head all
