-- Steps that move an auction alike: two lists that differ only in how steps without room are settled.
use Rattle.std.proofs.Common.{◌≡◌, ℕ, ◌-◌, ◌==◌, ◌&&◌, false, if◌then◌else◌, List, [], ◌∷◌, ◌++◌, Option, Some, None, refl, sym, ap, subst, ◌∙◌}
use Rattle.std.specs.Option.{option_map_or, unwrap_or}
use Rattle.pack_defs.specs.declared.scenario.Scenario.{Scenario}
use Rattle.pack_defs.specs.Book.{BookView, domain_of}
use Rattle.pack_defs.specs.ChannelMap.{overlaid}
use Rattle.pack_defs.specs.Lists.{is_empty, same_list}
use Rattle.pack_defs.specs.ClockRule.{ClockState, ClockTest, after_answer, is_on_air, opening_state}
use Rattle.auction_core.specs.declared.record.Shown.{Shown}
use Rattle.auction_core.specs.declared.record.Shown.TheVariants.{NoChannel, Same}
use Rattle.auction_core.specs.declared.record.Step.{Step}
use Rattle.auction_core.specs.State.{CoreState, fit_of, last_fit, set_in, settled, settled_unasked, shows_room, test_of, tested_set}
use Rattle.auction_core.specs.Backed.{after_steps}

-- Whether the steps, pair by pair, have the same test, both show room or neither, and have the same fit.
abbrev pub AreAlike : List Step → List Step → Type 0
AreAlike [] [] = Unit {0}
AreAlike [] (y ∷ ys) = ⊥
AreAlike (x ∷ xs) [] = ⊥
AreAlike (x ∷ xs) (y ∷ ys) =
    (test_of x ≡ test_of y) × (shows_room x.shown ≡ shows_room y.shown) × (fit_of x.shown ≡ fit_of y.shown) × AreAlike xs ys

pub alike-same : (xs : List Step) → AreAlike xs xs
alike-same [] = tt
alike-same (x ∷ xs) = (refl, refl, refl, alike-same xs)

pub alike-push : (xs ys : List Step) (x y : Step) → AreAlike xs ys → AreAlike (x ∷ []) (y ∷ []) → AreAlike (xs ++ x ∷ []) (ys ++ y ∷ [])
alike-push [] [] x y a b = b
alike-push [] (z ∷ ys) x y a b = absurd a
alike-push (z ∷ xs) [] x y a b = absurd a
alike-push (z ∷ xs) (w ∷ ys) x y a b = (a.0, a.1, a.2, alike-push xs ys x y a.3 b)

-- ---- what is read of them

-- The set that a test asked about is the same.
same-set : (sc : Scenario) (book : BookView) (clock : ClockState) (xs ys : List Step) (r s : ℕ) → AreAlike xs ys → set_in sc book clock xs r s ≡ set_in sc book clock ys r s
same-set sc book clock [] [] r s a = refl
same-set sc book clock [] (y ∷ ys) r s a = absurd a
same-set sc book clock (x ∷ xs) [] r s a = absurd a
same-set sc book clock (x ∷ xs) (y ∷ ys) r s a =
    (λ i. if ((a.0 i).round == r) && ((a.0 i).station == s) then Some (tested_set sc book clock s) else set_in sc book (after_answer sc clock (a.0 i) (a.1 i)) xs r s)
    ∙ ap (λ (o : Option (List ℕ)). if (y.round == r) && (y.station == s) then Some (tested_set sc book clock s) else o)
    (same-set sc book (after_answer sc clock (test_of y) (shows_room y.shown)) xs ys r s a.3)

-- A station's last fit is the same.
same-fit : (xs ys : List Step) (s : ℕ) (entries : List (ℕ × ℕ)) → AreAlike xs ys → last_fit xs s entries ≡ last_fit ys s entries
same-fit [] [] s entries a = refl
same-fit [] (y ∷ ys) s entries a = absurd a
same-fit (x ∷ xs) [] s entries a = absurd a
same-fit (x ∷ xs) (y ∷ ys) s entries a =
    (λ i. last_fit xs s (if (a.0 i).station == s then unwrap_or (a.2 i) entries else entries))
    ∙ same-fit xs ys s (if y.station == s then unwrap_or (fit_of y.shown) entries else entries) a.3

-- ---- states with alike steps

-- The state with other steps.
abbrev pub with_steps : CoreState → List Step → CoreState
with_steps state ys = record state { steps = ys }

-- The same tests need no query.
pub same-unasked : (sc : Scenario) (book : BookView) (state : CoreState) (ys : List Step) (t : ClockTest) → AreAlike state.steps ys → settled_unasked sc book state t ≡ settled_unasked sc book (with_steps state ys) t
same-unasked sc book state ys t a =
    ap (λ (o : Option (List ℕ)). if is_empty (domain_of book t.station) then Some (NoChannel t.station) else (if option_map_or (same_list (tested_set sc book state.clock t.station)) o false then Some Same else None))
    (same-set sc book (opening_state sc) state.steps ys (t.round - 1) t.station a)

-- A settled test moves both states alike.
pub same-settled : (sc : Scenario) (state : CoreState) (ys : List Step) (t : ClockTest) (shown : Shown) → AreAlike state.steps ys
    → settled sc (with_steps state ys) t shown ≡ with_steps (settled sc state t shown) (ys ++ record { round = t.round; station = t.station; shown = shown } ∷ [])
same-settled sc state ys t shown a =
    ap (λ (entries : List (ℕ × ℕ)). record state {
      clock = after_answer sc state.clock t (shows_room shown);
      map = if is_on_air (after_answer sc state.clock t (shows_room shown)) t.station then overlaid state.map (unwrap_or (fit_of shown) entries) else state.map;
      steps = ys ++ record { round = t.round; station = t.station; shown = shown } ∷ [];
    }) (sym (same-fit state.steps ys t.station [] a))

-- Their steps stay alike.
pub alike-settled : (sc : Scenario) (state : CoreState) (ys : List Step) (t : ClockTest) (shown : Shown) → AreAlike state.steps ys
    → AreAlike (settled sc state t shown).steps (ys ++ record { round = t.round; station = t.station; shown = shown } ∷ [])
alike-settled sc state ys t shown a =
    let x : Step = record { round = t.round; station = t.station; shown = shown } in
    alike-push state.steps ys x x a (alike-same (x ∷ []))

-- Whether two states have the same clock and the same map.
pub record HaveMoved (a b : CoreState) : Type 0 where
  pub clock : a.clock ≡ b.clock
  pub map : a.map ≡ b.map

pub same-moves : (sc : Scenario) (state : CoreState) (ys xs : List Step) → AreAlike state.steps ys → HaveMoved (after_steps sc state xs) (after_steps sc (with_steps state ys) xs)
same-moves sc state ys [] a = record { clock = refl; map = refl }
same-moves sc state ys (x ∷ xs) a =
    subst (λ (q : CoreState). HaveMoved (after_steps sc (settled sc state (test_of x) x.shown) xs) (after_steps sc q xs)) (sym (same-settled sc state ys (test_of x) x.shown a))
    (same-moves sc (settled sc state (test_of x) x.shown) (ys ++ x ∷ []) xs (alike-settled sc state ys (test_of x) x.shown a))
