-- For `search`: a decision leaves fewer variables without a value, and a clause is empty if its length is 0.
use Rattle.std.proofs.Common.{◌≡◌, ◌-◌, ◌<◌, ◌≤◌, ◌==◌, None, List, [], ◌∷◌, ◌++◌, length, refl, sym, ap, subst, arith, eqb-true, length-append}
use Rattle.std.proofs.lemmas.Bool.{false_from_ne_true}
use Rattle.clause_db.specs.declared.lit.Lit.{Lit}
use Rattle.clause_db.specs.Clause.{is_empty_clause}
use Rattle.clause_db.specs.Clauses.{Clauses, LitWithin}
use Rattle.trail_prop.specs.declared.entry.TrailEntry.{TrailEntry}
use Rattle.trail_prop.specs.Open.{value_known}
use Rattle.trail_prop.specs.Entries.{lits_of}
use Rattle.trail_prop.specs.Trails.{TrailView, IsTrail}
use Rattle.trail_prop.proofs.Opening.{room-for-one}
use Rattle.trail_prop.proofs.Trailing.{fits-opens}
use Rattle.cdcl_prove.proofs.PickLemmas.{open-either}

pub decision-smaller : (c : Clauses) (before now after : List TrailEntry) (e : TrailEntry) → IsTrail c now → LitWithin c.vars e.lit → value_known (lits_of now) e.lit.var ≡ None → length before ≤ length now → after ≡ now ++ e ∷ [] → c.vars - length after < c.vars - length before
decision-smaller c before now after e t w o grows is =
    let room = room-for-one c.vars now e (fits-opens c [] now t) w (open-either (lits_of now) e.lit.var e.lit.positive o) in
    let l = length-append now (e ∷ []) in
    let a = ap length is in
    omega arith

-- a trail, seen through a view of it
pub trail-of : (view : TrailView) (c : Clauses) (es : List TrailEntry) → view ≡ record { clauses = c; entries = es } → IsTrail view.clauses view.entries → IsTrail c es
trail-of view c es e t = subst (λ (v : TrailView). IsTrail v.clauses v.entries) e t

pub empty-length : (lits : List Lit) → is_empty_clause lits ≡ (length lits == 0)
empty-length [] = refl
empty-length (l ∷ ls) = sym (false_from_ne_true (length (l ∷ ls) == 0) (λ e. let z = eqb-true (length (l ∷ ls)) 0 e in absurd (omega arith)))
