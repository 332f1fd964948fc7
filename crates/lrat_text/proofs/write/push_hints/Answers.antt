-- If memory runs out at a hint, a first part of the hints was appended.
use Rattle.std.proofs.Common.{◌∙◌, ◌∷◌, [], ℕ, List, ap, decimal, map, refl, sym}
use Rattle.lrat_text.specs.Write.{spaced}
use Rattle.lrat_text.proofs.CutLemmas.{all-begins, none-begins, step-begins}
use Rattle.lrat_text.proofs.write.push_hints.Goals as goal

pub returns-in_err-extend_from_slice-clause-begins : goal.returns-in_err-extend_from_slice-clause-begins
returns-in_err-extend_from_slice-clause-begins c =
    let i = c.loop-hint.invariant in
    let text : List ℕ = c.loop-hint.text.items in
    let new : List ℕ = c.extend_from_slice.new.self.items in
    let left : List ℕ = spaced (map decimal c.loop-hint.left) in
    step-begins c.args.text.now.items text new [] left left (spaced (map decimal c.args.hints)) i.begins i.left refl
    (none-begins text new [] c.in_err-extend_from_slice.ensures.items)

pub returns-in_err-push_number-clause-begins : goal.returns-in_err-push_number-clause-begins
returns-in_err-push_number-clause-begins c =
    let i = c.loop-hint.invariant in
    let text : List ℕ = c.loop-hint.text.items in
    let new : List ℕ = c.push_number.new.text.items in
    step-begins c.args.text.now.items text new (32 ∷ []) _ (spaced (map decimal c.loop-hint.left)) (spaced (map decimal c.args.hints)) i.begins i.left
    (ap (λ (hints : List ℕ). spaced (map decimal hints)) (sym c.in-Some.ensures.next))
    (all-begins text new (32 ∷ []) (c.in_err-push_number.ensures.kept ∙ c.in_ok-extend_from_slice.ensures.items))
