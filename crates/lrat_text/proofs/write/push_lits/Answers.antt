-- If memory runs out at a literal, a first part of the literals was appended.
use Rattle.std.proofs.Common.{◌∷◌, [], ℕ, List, ap, map, refl, sym}
use Rattle.clause_db.specs.declared.lit.Lit.{Lit}
use Rattle.lrat_text.specs.Write.{lit_text, spaced}
use Rattle.lrat_text.proofs.CutLemmas.{none-begins, step-begins, then-begins}
use Rattle.lrat_text.proofs.write.push_lits.Goals as goal

pub returns-in_err-extend_from_slice-clause-begins : goal.returns-in_err-extend_from_slice-clause-begins
returns-in_err-extend_from_slice-clause-begins c =
    let i = c.loop-lit.invariant in
    let text : List ℕ = c.loop-lit.text.items in
    let new : List ℕ = c.extend_from_slice.new.self.items in
    let left : List ℕ = spaced (map lit_text c.loop-lit.left) in
    step-begins c.args.text.now.items text new [] left left (spaced (map lit_text c.args.lits)) i.begins i.left refl
    (none-begins text new [] c.in_err-extend_from_slice.ensures.items)

pub returns-in_err-push_lit-clause-begins : goal.returns-in_err-push_lit-clause-begins
returns-in_err-push_lit-clause-begins c =
    let i = c.loop-lit.invariant in
    let text : List ℕ = c.loop-lit.text.items in
    let new : List ℕ = c.push_lit.new.text.items in
    let lit : List ℕ = lit_text c.in-Some.lit in
    step-begins c.args.text.now.items text new (32 ∷ lit) _ (spaced (map lit_text c.loop-lit.left)) (spaced (map lit_text c.args.lits)) i.begins i.left
    (ap (λ (lits : List Lit). spaced (map lit_text lits)) (sym c.in-Some.ensures))
    (then-begins text c.extend_from_slice.new.self.items new (32 ∷ []) lit c.in_ok-extend_from_slice.ensures.items c.in_err-push_lit.ensures.begins)
