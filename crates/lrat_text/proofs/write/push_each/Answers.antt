-- If memory runs out at a number, a first part of the numbers was appended.
use Rattle.std.proofs.Common.{◌∙◌, ◌+◌, ◌<◌, ◌∷◌, ◌++◌, [], ℕ, List, ap, arith, decimal, drop, get_or, length, map, sym, take}
use Rattle.std.proofs.lemmas.List.{drop_more}
use Rattle.lrat_text.specs.Write.{spaced}
use Rattle.lrat_text.proofs.CutLemmas.{all-begins, none-begins, numbers-cut, part-begins}
use Rattle.lrat_text.proofs.write.push_each.Goals as goal

pub returns-in_err-extend_from_slice-clause-begins : goal.returns-in_err-extend_from_slice-clause-begins
returns-in_err-extend_from_slice-clause-begins c =
    let ns : List ℕ = c.args.numbers.now in
    let i : ℕ = c.loop-n.n-index in
    let text : List ℕ = c.loop-n.text.items in
    let new : List ℕ = c.extend_from_slice.new.self.items in
    part-begins c.args.text.now.items text new (spaced (map decimal (take i ns))) [] (spaced (map decimal (drop i ns))) (spaced (map decimal ns)) c.loop-n.invariant
    (none-begins text new [] c.in_err-extend_from_slice.ensures.items)
    (numbers-cut ns i)

pub returns-in_err-push_number-clause-begins : goal.returns-in_err-push_number-clause-begins
returns-in_err-push_number-clause-begins c =
    let ns : List ℕ = c.args.numbers.now in
    let i : ℕ = c.loop-n.n-index in
    let h : i < length ns = omega (arith, c.loop-n-test.true) in
    let text : List ℕ = c.loop-n.text.items in
    let new : List ℕ = c.push_number.new.text.items in
    let front : List ℕ = spaced (map decimal (take i ns)) in
    part-begins c.args.text.now.items text new front (32 ∷ []) (decimal (get_or ns i 0) ++ spaced (map decimal (drop (i + 1) ns))) (spaced (map decimal ns)) c.loop-n.invariant
    (all-begins text new (32 ∷ []) (c.in_err-push_number.ensures.kept ∙ c.in_ok-extend_from_slice.ensures.items))
    (ap (λ (xs : List ℕ). front ++ spaced (map decimal xs)) (sym (drop_more ns i 0 h)) ∙ numbers-cut ns i)
