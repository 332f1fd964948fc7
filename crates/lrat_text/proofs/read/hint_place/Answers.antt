use Rattle.std.proofs.lemmas.Option.{get_or_from_slice_get, slice_get_cases}
use Rattle.std.specs.List.{slice_get}
use Rattle.std.proofs.Common.{ℕ, List, Some, None, inl, inr, ◌<◌, ◌-◌, length, ◌≡◌, ◌+◌, ◌∙◌, rules, sym, arith, ap, refl, get_or, false}
use Rattle.std.specs.Result.{is_ok}
use Rattle.std.proofs.lemmas.Bool.{le-leb, lt-leb}
use Rattle.pack_defs.specs.Lists.{is_in}
use Rattle.pack_defs.proofs.Searches.{found-number}
use Rattle.pack_defs.proofs.Words.{ascending-rest}
use Rattle.lrat_text.specs.Read.{hint_place}
use Rattle.lrat_text.proofs.ReadLemmas.{placed, nowhere, room}
use Rattle.lrat_text.proofs.read.hint_place.Goals as goal

some-none : (x : ℕ) → Some x ≡ None → ⊥
some-none x e = cc

-- The element at a place.
standing : (xs : List ℕ) (i x : ℕ) → slice_get xs i ≡ Some x → (i < length xs) × (get_or xs i 0 ≡ x)
standing xs i x e = elim (slice_get_cases xs i).1 [
  | inl at ↦ (at.1, get_or_from_slice_get xs i x 0 e)
  | inr past ↦ absurd (some-none x (sym e ∙ past.1))
]

pub returns-then-h-clauses : goal.returns-then-h-clauses
unfolding hint_place
returns-then-h-clauses c = rw (le-leb c.args.h c.args.clauses (omega (arith, c.if-h-clauses.true))) refl

pub returns-then-is_at_place : goal.returns-then-is_at_place
unfolding hint_place
returns-then-is_at_place c =
    let numbers = c.args.numbers.now in
    let i = c.args.h - c.args.clauses - 1 in
    let some = c.if-is_at_place.ensures in
    let at : c.args.clauses + 1 + i ≡ c.args.h = omega (arith, c.if-h-clauses.false) in
    let here = standing numbers i c.args.h some in
    rw (lt-leb c.args.h c.args.clauses (omega (arith, c.if-h-clauses.false)))
    (sym (placed (c.args.clauses + 1) numbers i c.args.h (ascending-rest c.args.clauses numbers c.requires) here.0 here.1 ∙ ap Some at))

pub returns-in-Ok : goal.returns-in-Ok
unfolding hint_place
returns-in-Ok c =
    let here : get_or c.args.numbers.now c.in-Ok.i 0 ≡ c.args.h = search rules in
    rw (lt-leb c.args.h c.args.clauses (omega (arith, c.if-h-clauses.false)))
    (sym (placed (c.args.clauses + 1) c.args.numbers.now c.in-Ok.i c.args.h (ascending-rest c.args.clauses c.args.numbers.now c.requires) c.in-Ok.ensures.bound here))

pub returns-in-Err : goal.returns-in-Err
unfolding hint_place
returns-in-Err c =
    let numbers = c.args.numbers.now in
    let found = found-number numbers c.args.h c.binary_search.result c.binary_search.ensures.bound c.binary_search.ensures.position (ascending-rest c.args.clauses numbers c.requires) in
    let none : is_in numbers c.args.h ≡ false = sym found ∙ ap is_ok c.in-Err.is in
    rw (lt-leb c.args.h c.args.clauses (omega (arith, c.if-h-clauses.false))) (sym (nowhere (c.args.clauses + 1) numbers c.args.h none))

pub overflow_add-result-in-Ok : goal.overflow_add-result-in-Ok
overflow_add-result-in-Ok c =
    let here : get_or c.args.numbers.now c.in-Ok.i 0 ≡ c.args.h = search rules in
    let below = room c.args.clauses c.args.numbers.now c.in-Ok.i c.args.h c.requires c.in-Ok.ensures.bound here in
    omega (arith, below, c.ranges.h.fits)
