use Rattle.std.proofs.Common.{◌≡◌, ◌∙◌, ◌+◌, ◌++◌, ◌∷◌, [], sym, ap, take, drop, map, length, arith, false}
use Rattle.std.proofs.lemmas.List.{take_more, take_all, length-drop}
use Rattle.clause_db.specs.declared.lit.Lit.{Lit}
use Rattle.clause_db.specs.Clause.{opposite}
use Rattle.rup_check.specs.Follows.{has_bad_lits}
use Rattle.rup_check.proofs.Denying.{bad-out, bad-used, denied-push, good-push, in-range, is_out, is_used, out-above, out-zero, unused, used-denied, used-stated}
use Rattle.rup_check.proofs.Reading.{taken}
use Rattle.rup_check.proofs.hints.deny.Goals as goal
use Rattle.rup_check.proofs.hints.deny.Goals.{then-has-via-then-has, then-has-via-else-has+then-has-2, then-lit-eq0-via-then-lit-eq0, then-lit-eq0-via-else-lit-eq0+then-lit-vars}

abbrev is_zero : Lit
is_zero = record { var = 0; positive = false }

pub returns-then-lit-eq0-clause-good : goal.returns-then-lit-eq0-clause-good
returns-then-lit-eq0-clause-good c =
    let lits = c.args.lits in
    let vars = c.args.known.now.vars in
    let i = c.loop-lit.invariant.0 in
    let t = taken lits c.next.new.self i c.in-Some.lit is_zero (sym c.loop-lit.invariant.1 ∙ c.in-Some.ensures) in
    elim c.then-lit-eq0.branch [
      | then-lit-eq0-via-then-lit-eq0 w ↦ bad-out vars lits i is_zero t.0 (ap (is_out vars) t.1 ∙ out-zero vars c.in-Some.lit w.if-lit-eq0.true)
      | then-lit-eq0-via-else-lit-eq0+then-lit-vars w ↦ bad-out vars lits i is_zero t.0 (ap (is_out vars) t.1 ∙ out-above vars c.in-Some.lit (omega (arith, c.vars-vars.ensures, c.loop-lit.invariant.3, w.if-lit-vars.true)))
    ]

pub returns-then-has-clause-good : goal.returns-then-has-clause-good
returns-then-has-clause-good c =
    let lits = c.args.lits in
    let vars = c.args.known.now.vars in
    let i = c.loop-lit.invariant.0 in
    let before = take i lits in
    let lit = c.in-Some.lit in
    let t = taken lits c.next.new.self i lit is_zero (sym c.loop-lit.invariant.1 ∙ c.in-Some.ensures) in
    let same = ap (λ (l : Lit). is_used before l.var) t.1 in
    elim c.then-has.branch [
      | then-has-via-then-has w ↦ bad-used vars lits i is_zero t.0 (same ∙ used-denied c.loop-lit.known.lits before lit c.loop-lit.invariant.2 (sym c.has.ensures ∙ w.if-has.true))
      | then-has-via-else-has+then-has-2 w ↦ bad-used vars lits i is_zero t.0 (same ∙ used-stated c.loop-lit.known.lits before lit w.opposite.result c.loop-lit.invariant.2 w.opposite.ensures (sym w.has-else-has.ensures ∙ w.if-has-2.true))
    ]

pub loop-lit-preserved : goal.loop-lit-preserved
loop-lit-preserved c =
    let lits = c.args.lits in
    let vars = c.vars-vars.result in
    let i = c.loop-lit.invariant.0 in
    let before = take i lits in
    let lit = c.in-Some.lit in
    let t = taken lits c.next.new.self i lit is_zero (sym c.loop-lit.invariant.1 ∙ c.in-Some.ensures) in
    let more : take (i + 1) lits ≡ before ++ lit ∷ [] = take_more lits i is_zero t.0 ∙ ap (λ (z : Lit). before ++ z ∷ []) t.1 in (
      i + 1,
      t.2,
      c.in_ok-put.ensures.put ∙ (λ j. c.loop-lit.invariant.2 j ++ c.opposite-in-Some.ensures j ∷ []) ∙ sym (denied-push before lit) ∙ ap (map opposite) (sym more),
      c.put.ensures.vars ∙ c.loop-lit.invariant.3,
      ap (has_bad_lits vars) more
          ∙ good-push vars before lit c.loop-lit.invariant.4 (in-range vars lit c.if-lit-eq0.false c.if-lit-vars.false)
          (unused c.loop-lit.known.lits before lit c.opposite.result c.loop-lit.invariant.2 c.opposite.ensures (sym c.has.ensures ∙ c.if-has.false) (sym c.has-else-has.ensures ∙ c.if-has-2.false)),
    )

pub returns-clause-good : goal.returns-clause-good
returns-clause-good c =
    let lits = c.args.lits in
    let i = c.loop-lit.invariant.0 in
    let none : drop i lits ≡ [] = sym c.loop-lit.invariant.1 ∙ c.in_default.ensures.0 in
    let all : take i lits ≡ lits = take_all i lits (omega (arith, ap length none, length-drop i lits)) in (
      sym (ap (has_bad_lits c.args.known.now.vars) all) ∙ ap (λ n. has_bad_lits n (take i lits)) (sym c.vars-vars.ensures) ∙ c.loop-lit.invariant.4,
      c.loop-lit.invariant.2 ∙ ap (map opposite) all,
    )
