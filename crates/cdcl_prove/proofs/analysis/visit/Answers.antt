use Rattle.std.proofs.Common.{ℕ, ◌≡◌, ◌<◌, ◌≤◌, Some, None, true, false, length, sym, subst, arith, List, [], get_or, ◌⊎◌}
use Rattle.clause_db.specs.declared.lit.Lit.{Lit}
use Rattle.clause_db.specs.Clause.{clause_at}
use Rattle.clause_db.specs.Clauses.{Clauses, LitWithin}
use Rattle.trail_prop.specs.Open.{LitsWithin}
use Rattle.trail_prop.specs.Trails.{IsTrail}
use Rattle.trail_prop.specs.declared.entry.TrailEntry.{TrailEntry}
use Rattle.cdcl_prove.specs.Analysis.{resolves}
use Rattle.cdcl_prove.proofs.TrailLemmas.{fits-at, reason-number, reason-within}
use Rattle.cdcl_prove.proofs.AnalysisLemmas.{closed-after}
use Rattle.cdcl_prove.proofs.analysis.visit.Goals as goal

abbrev none-yet : TrailEntry
none-yet = record { lit = record { var = 0; positive = false }; level = 0; reason = None }

-- the literal at a place of a trail is of its variables
within-at : (c : Clauses) (es list : List TrailEntry) (at : ℕ) → list ≡ es → IsTrail c es → at < length es → LitWithin c.vars (get_or list at none-yet).lit
within-at c es list at e t l = subst (λ (z : List TrailEntry). LitWithin c.vars (get_or z at none-yet).lit) (sym e) (fits-at c [] es at none-yet t l).within

number-at : (c : Clauses) (es list : List TrailEntry) (at n : ℕ) → list ≡ es → IsTrail c es → at < length es → (get_or list at none-yet).reason ≡ Some n → (1 ≤ n) × (n ≤ length c.list)
number-at c es list at n e t l r = reason-number c es at n none-yet t l (subst (λ (z : List TrailEntry). (get_or z at none-yet).reason ≡ Some n) e r)

clause-at : (c : Clauses) (es list : List TrailEntry) (at n size : ℕ) (clause : List Lit) → list ≡ es → IsTrail c es → at < length es → (get_or list at none-yet).reason ≡ Some n → clause_at c.list n ≡ Some clause → size ≡ c.vars → LitsWithin size clause
clause-at c es list at n size clause e t l r k s = subst (λ (v : ℕ). LitsWithin v clause) (sym s) (reason-within c es at n none-yet clause t l (subst (λ (z : List TrailEntry). (get_or z at none-yet).reason ≡ Some n) e r) k)

pub get-requires-clause-from_one : goal.get-requires-clause-from_one
get-requires-clause-from_one c = (within-at c.args.trail.now.clauses c.args.trail.now.entries c.entries-entries.result.now c.args.at c.entries-entries.ensures c.keeps_reasons.ensures c.requires.within).0

pub get-requires-clause-within : goal.get-requires-clause-within
get-requires-clause-within c =
    let w = (within-at c.args.trail.now.clauses c.args.trail.now.entries c.entries-entries.result.now c.args.at c.entries-entries.ensures c.keeps_reasons.ensures c.requires.within).1 in
    let s = c.requires.closed.size in
    omega arith

pub get-clause-requires-clause-from_one : goal.get-clause-requires-clause-from_one
get-clause-requires-clause-from_one c = (number-at c.args.trail.now.clauses c.args.trail.now.entries c.entries-entries.result.now c.args.at c.in-Some.reason c.entries-entries.ensures c.keeps_reasons.ensures c.requires.within c.in-Some.is).0

pub get-clause-requires-clause-to_len : goal.get-clause-requires-clause-to_len
get-clause-requires-clause-to_len c =
    let w = (number-at c.args.trail.now.clauses c.args.trail.now.entries c.entries-entries.result.now c.args.at c.in-Some.reason c.entries-entries.ensures c.keeps_reasons.ensures c.requires.within c.in-Some.is).1 in
    subst (λ (z : Clauses). c.in-Some.reason ≤ length z.list) (sym c.clauses.ensures.clauses) w

pub is_redundant-requires : goal.is_redundant-requires
is_redundant-requires c = clause-at c.args.trail.now.clauses c.args.trail.now.entries c.entries-entries.result.now c.args.at c.in-Some.reason (length c.args.marks.now) c.get-clause.result.now c.entries-entries.ensures c.keeps_reasons.ensures c.requires.within c.in-Some.is (subst (λ (z : Clauses). clause_at z.list c.in-Some.reason ≡ Some c.get-clause.result.now) c.clauses.ensures.clauses c.get-clause.ensures.clause) c.requires.closed.size

pub mark_seen-more-requires : goal.mark_seen-more-requires
mark_seen-more-requires c = clause-at c.args.trail.now.clauses c.args.trail.now.entries c.entries-entries.result.now c.args.at c.in-Some.reason (length c.args.marks.now) c.get-clause.result.now c.entries-entries.ensures c.keeps_reasons.ensures c.requires.within c.in-Some.is (subst (λ (z : Clauses). clause_at z.list c.in-Some.reason ≡ Some c.get-clause.result.now) c.clauses.ensures.clauses c.get-clause.ensures.clause) c.requires.closed.size

pub resolve-requires-clause-from_one : goal.resolve-requires-clause-from_one
resolve-requires-clause-from_one c = (within-at c.args.trail.now.clauses c.args.trail.now.entries c.entries-entries.result.now c.args.at c.entries-entries.ensures c.keeps_reasons.ensures c.requires.within).0

pub returns-clause-closed : goal.returns-clause-closed
returns-clause-closed c =
    closed-after c.args.trail.now.clauses c.args.trail.now.entries c.args.at c.in-Some.reason none-yet c.get-clause.result.now c.args.marks.now c.mark_seen-more.new.marks c.resolve.new.self
    c.keeps_reasons.ensures c.requires.within
    (subst (λ (z : List TrailEntry). (get_or z c.args.at none-yet).reason ≡ Some c.in-Some.reason) c.entries-entries.ensures c.in-Some.is)
    (subst (λ (z : Clauses). clause_at z.list c.in-Some.reason ≡ Some c.get-clause.result.now) c.clauses.ensures.clauses c.get-clause.ensures.clause)
    c.requires.closed c.mark_seen-more.ensures.more c.mark_seen-more.ensures.seen_variables c.resolve.ensures.size c.resolve.ensures.still
    (subst (λ (z : List TrailEntry). (v : ℕ) → 1 ≤ v → resolves c.resolve.new.self v ≡ true → (v ≡ (get_or z c.args.at none-yet).lit.var) ⊎ (resolves c.mark_seen-more.new.marks v ≡ true)) c.entries-entries.ensures c.resolve.ensures.others)
