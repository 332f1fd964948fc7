use Rattle.std.proofs.Common.{◌≡◌, ◌+◌, ◌<◌, ◌≤◌, ℕ, ap, ◌∙◌, sym, subst, List, ◌++◌, ◌∷◌, [], arith, true, false, Some, length, get_or, refl, below_more, Bool, ◌-◌, length-append}
use Rattle.std.proofs.lemmas.Bool.{false≢true}
use Rattle.clause_db.specs.Clauses.{Clauses}
use Rattle.std.proofs.lemmas.List.{get_or_default}
use Rattle.clause_db.specs.declared.lit.Lit.{Lit}
use Rattle.trail_prop.specs.Open.{IsClauseSettled}
use Rattle.trail_prop.specs.declared.entry.TrailEntry.{TrailEntry}
use Rattle.trail_prop.specs.Entries.{lits_of, level_of, is_decision}
use Rattle.trail_prop.specs.Plain.{PassKeeps}
use Rattle.trail_prop.specs.Trails.{Grows, TrailView}
use Rattle.trail_prop.proofs.Trailing.{grows-trans, grows-push}
use Rattle.trail_prop.proofs.plain.PlainTrail.pass.Goals as goal
use Rattle.trail_prop.proofs.plain.PlainTrail.pass.Goals.{in-Forces, in-Settled}

pub returns-else-moved-clause-found : goal.returns-else-moved-clause-found
returns-else-moved-clause-found c = λ k d h.
    let b : k < c.loop-at.at = omega (arith, c.loop-at.invariant.count) in
    let e = get_or_default c.loop-at.self.clauses.list k [] d h in
    subst (λ (z : List Lit). IsClauseSettled (lits_of c.loop-at.self.entries) z) e (c.loop-at.invariant.quiet c.if-moved.false k b)

after-settled : (start was now : TrailView) (b moved : Bool) (at end : ℕ) → PassKeeps start was b at end → now ≡ was → moved ≡ b → IsClauseSettled (lits_of was.entries) (get_or was.clauses.list at []) → PassKeeps start now moved (at + 1) end
after-settled start was now b moved at end k e m s =
    let here : PassKeeps start was b (at + 1) end = record {
      count = k.count;
      clauses = k.clauses;
      grows = k.grows;
      quiet = λ q. below_more (λ (j : ℕ). IsClauseSettled (lits_of was.entries) (get_or was.clauses.list j [])) at (k.quiet q) s;
      moves = k.moves;
      room = k.room;
    } in
    subst (λ (v : TrailView). PassKeeps start v moved (at + 1) end) (sym e) (subst (λ (d : Bool). PassKeeps start was d (at + 1) end) (sym m) here)

after-forced : (start was now : TrailView) (b moved : Bool) (at end : ℕ) (e : TrailEntry) → PassKeeps start was b at end → is_decision e ≡ false → e.level ≡ level_of was.entries → now ≡ record { clauses = was.clauses; entries = was.entries ++ e ∷ [] } → length now.entries ≤ now.clauses.vars → moved ≡ true → PassKeeps start now moved (at + 1) end
after-forced start was now b moved at end e k d l n r m =
    let same : now.clauses ≡ was.clauses = ap (λ (v : TrailView). v.clauses) n in
    let longer : now.entries ≡ was.entries ++ e ∷ [] = ap (λ (v : TrailView). v.entries) n in
    let one : Grows was.entries now.entries = subst (λ (es : List TrailEntry). Grows was.entries es) (sym longer) (grows-push was.entries e d l) in
    let so : length now.entries ≡ length was.entries + 1 = ap (λ (es : List TrailEntry). length es) longer ∙ length-append was.entries (e ∷ []) in
    let first : length was.entries ≡ length start.entries + length k.grows.more = ap (λ (es : List TrailEntry). length es) k.grows.follows ∙ length-append start.entries k.grows.more in
    record {
      count = k.count ∙ ap (λ (v : Clauses). length v.list) (sym same);
      clauses = same ∙ k.clauses;
      grows = grows-trans start.entries was.entries now.entries k.grows one;
      quiet = λ q. absurd (false≢true (sym q ∙ m));
      moves = λ q. omega arith;
      room = λ q. r;
    }

pub loop-at-preserved : goal.loop-at-preserved
loop-at-preserved c =
    elim c.match-clause_status_of.branch [
      | in-Forces w ↦ after-forced c.args.self.now c.loop-at.self c.match-clause_status_of.self c.loop-at.moved c.match-clause_status_of.moved c.loop-at.at c.len-at-end.result (record { lit = w.in-Forces.lit; level = level_of c.loop-at.self.entries; reason = Some (c.loop-at.at + 1) }) c.loop-at.invariant refl refl (w.self-is ∙ w.force.ensures.pushed) (subst (λ (v : TrailView). length v.entries ≤ v.clauses.vars) (sym w.self-is) w.force.ensures.room) w.moved-is
      | in-Settled w ↦
          let at : c.loop-at.at + 1 - 1 ≡ c.loop-at.at = omega arith in
          let one : IsClauseSettled (lits_of c.self-in-loop-at.inside.assigned.entries) (get_or c.self-in-loop-at.inside.clauses.list c.loop-at.at []) =
          subst (λ (n : ℕ). IsClauseSettled (lits_of c.self-in-loop-at.inside.assigned.entries) (get_or c.self-in-loop-at.inside.clauses.list n [])) at (subst (λ (z : List Lit). IsClauseSettled (lits_of c.self-in-loop-at.inside.assigned.entries) z) c.get.ensures.at w.in-Settled.ensures) in
          let two : IsClauseSettled (lits_of c.loop-at.self.entries) (get_or c.loop-at.self.clauses.list c.loop-at.at []) =
          subst (λ (v : TrailView). IsClauseSettled (lits_of v.entries) (get_or v.clauses.list c.loop-at.at [])) c.self-in-loop-at.view_is one in
          after-settled c.args.self.now c.loop-at.self c.match-clause_status_of.self c.loop-at.moved c.match-clause_status_of.moved c.loop-at.at c.len-at-end.result c.loop-at.invariant w.self-is w.moved-is two
    ]
