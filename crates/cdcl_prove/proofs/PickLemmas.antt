-- For `search`: variables without a value, and their literals.
use Rattle.std.proofs.Common.{◌≡◌, ℕ, Bool, true, false, not, if◌then◌else◌, List, Some, None, refl, ap}
use Rattle.std.proofs.lemmas.Bool.{and_from}
use Rattle.clause_db.specs.declared.lit.Lit.{Lit}
use Rattle.clause_db.specs.Clause.{has_lit, pos_lit, neg_lit}
use Rattle.trail_prop.specs.Open.{is_open, value_known}

-- neither literal of a variable without a value is known
pub both-unknown : (known : List Lit) (v : ℕ) → value_known known v ≡ None → (has_lit known (pos_lit v) ≡ false) × (has_lit known (neg_lit v) ≡ false)
both-unknown known v e = step (has_lit known (pos_lit v)) refl (has_lit known (neg_lit v)) refl e
  where
    step : (a : Bool) → has_lit known (pos_lit v) ≡ a → (b : Bool) → has_lit known (neg_lit v) ≡ b → (if a then Some true else (if b then Some false else None)) ≡ None → (has_lit known (pos_lit v) ≡ false) × (has_lit known (neg_lit v) ≡ false)
    step true p b q e = cc
    step false p true q e = cc
    step false p false q e = (p, q)

pub open-either : (known : List Lit) (v : ℕ) (b : Bool) → value_known known v ≡ None → is_open known (record { var = v; positive = b }) ≡ true
open-either known v true e =
    let r = both-unknown known v e in
    and_from (not (has_lit known (pos_lit v))) (not (has_lit known (neg_lit v))) (ap not r.0) (ap not r.1)
open-either known v false e =
    let r = both-unknown known v e in
    and_from (not (has_lit known (neg_lit v))) (not (has_lit known (pos_lit v))) (ap not r.1) (ap not r.0)
