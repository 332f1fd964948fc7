use Rattle.std.proofs.Common.{◌≡◌, ℕ, ◌-◌, ◌≤◌, true, List, [], ◌∷◌, length, drop, map, refl, sym, ◌∙◌, arith, length-drop}
use Rattle.pack_defs.specs.Lists.{is_ascending}
use Rattle.incremental_search.proofs.query.ascends.Goals as goal

-- At most one entry ascends.
saturating_u32-ascends : (xs : List (ℕ × ℕ)) → length xs ≤ 1 → is_ascending (map (λ x. x.0) xs) ≡ true
saturating_u32-ascends [] h = refl
saturating_u32-ascends (x ∷ []) h = refl
saturating_u32-ascends (x ∷ y ∷ ys) h = absurd (omega arith)

ascending-end : (xs : List (ℕ × ℕ)) (i : ℕ) → 1 ≤ i → length xs ≤ i → is_ascending (map (λ x. x.0) (drop (i - 1) xs)) ≡ is_ascending (map (λ x. x.0) xs) → is_ascending (map (λ x. x.0) xs) ≡ true
ascending-end xs i one h w =
    let short : length (drop (i - 1) xs) ≤ 1 = simp length-drop (omega arith) in
    sym w ∙ saturating_u32-ascends (drop (i - 1) xs) short

pub returns : goal.returns
returns c = ascending-end c.args.entries.now c.loop-i.i c.loop-i.auto.i c.loop-i-test.false c.loop-i.invariant
