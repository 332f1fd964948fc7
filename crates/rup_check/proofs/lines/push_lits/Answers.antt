use Rattle.std.proofs.Common.{◌≡◌, ℕ, List, ◌++◌, ◌∷◌, [], sym, subst, map, take, get_or, false}
use Rattle.std.proofs.lemmas.List.{map_more}
use Rattle.clause_db.specs.declared.lit.Lit.{Lit}
use Rattle.rup_check.specs.Packed.{Spells, number_of_lit}
use Rattle.rup_check.proofs.Packing.{spells-more}
use Rattle.rup_check.proofs.lines.push_lits.Goals as goal

abbrev is_zero : Lit
is_zero = record { var = 0; positive = false }

pub loop-lit-preserved : goal.loop-lit-preserved
loop-lit-preserved c =
    let old = c.args.bytes.now.items in
    let lits = c.args.lits.now in
    let i = c.loop-lit.lit-index in
    let before = c.loop-lit.invariant in
    let one = c.in_ok-push_number.ensures in
    let same = c.in-Some.ensures in
    subst (λ (z : List ℕ). (more : List ℕ) × (c.push_number.new.bytes.items ≡ old ++ more) × Spells more z) (sym (map_more number_of_lit lits i is_zero c.loop-lit-test.true))
    (spells-more old c.loop-lit.bytes.items c.push_number.new.bytes.items before.0 one.0 (map number_of_lit (take i lits)) (number_of_lit (get_or lits i is_zero)) before.1 one.1 before.2 (subst (λ z. Spells one.0 (z ∷ [])) same one.2))
