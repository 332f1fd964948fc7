-- The channel map entries of the stations that a test asks about, in one pass over the slots. For `component_labels::tested_stations_on`.
use Rattle.std.proofs.Common.{◌≡◌, ◌∙◌, ℕ, ◌+◌, ◌<◌, ◌≤◌, Bool, true, false, cond, List, [], ◌∷◌, ◌++◌, ◌==◌, filter, drop, length, get_or, Option, Some, None, refl, sym, ap, arith, eq-eqb, append-nil, append_assoc}
use Rattle.std.proofs.lemmas.Bool.{both_ways, cond-false, cond-true, false_from_ne_true, or_left, or_right}
use Rattle.std.proofs.lemmas.List.{get_or_default}
use Rattle.std.proofs.Math.ListN.{drop_of_length-le}
use Rattle.pack_defs.specs.Lists.{is_ascending, is_in}
use Rattle.auction_core.specs.AirMap.{placed_entries}
use Rattle.auction_core.specs.ComponentLabels.{is_asked, label_in}
use Rattle.auction_core.specs.State.{restricted}
use Rattle.auction_core.proofs.Answers.{filter-in, in-filter}
use Rattle.auction_core.proofs.LabelLemmas.{label-at}
use Rattle.auction_core.proofs.Placed.{places-more, with_own}

-- the entries of the stations that satisfy p, in the slots from i on
abbrev pub passing : (ℕ → Bool) → List ℕ → List (Option ℕ) → ℕ → List (ℕ × ℕ)
passing p ss cs i = filter (λ e. p e.0) (placed_entries (drop i ss) (drop i cs))

own-off : (p : ℕ → Bool) (s : ℕ) (o : Option ℕ) (es : List (ℕ × ℕ)) → p s ≡ false → filter (λ e. p e.0) (with_own s o es) ≡ filter (λ e. p e.0) es
own-off p s None es h = refl
own-off p s (Some c) es h = cond-false (p s) ((s, c) ∷ filter (λ e. p e.0) es) (filter (λ e. p e.0) es) h

own-on : (p : ℕ → Bool) (s : ℕ) (o : Option ℕ) (es : List (ℕ × ℕ)) → p s ≡ true → filter (λ e. p e.0) (with_own s o es) ≡ with_own s o (filter (λ e. p e.0) es)
own-on p s None es h = refl
own-on p s (Some c) es h = cond-true (p s) ((s, c) ∷ filter (λ e. p e.0) es) (filter (λ e. p e.0) es) h

-- ---- one more slot

module _ (ss : List ℕ) (cs : List (Option ℕ)) (done all : List (ℕ × ℕ)) (p : ℕ → Bool) (i z : ℕ) (same : length cs ≡ length ss) (inside : i < length ss) (here : get_or ss i 0 ≡ z) where
  abbrev rest : List (ℕ × ℕ)
  rest = placed_entries (drop (i + 1) ss) (drop (i + 1) cs)

  more : (o : Option ℕ) → o ≡ get_or cs i o → placed_entries (drop i ss) (drop i cs) ≡ with_own z o rest
  more o is = places-more ss cs i o same inside is ∙ ap (λ t. with_own t o rest) here

  pub entry-off : p z ≡ false → done ++ passing p ss cs i ≡ all → done ++ passing p ss cs (i + 1) ≡ all
  entry-off off h =
      let o : Option ℕ = get_or cs i None in
      ap (λ xs. done ++ xs) (sym (ap (filter (λ e. p e.0)) (more o (get_or_default cs i None o (omega arith))) ∙ own-off p z o rest off)) ∙ h

  pub entry-none : (o : Option ℕ) → o ≡ get_or cs i o → p z ≡ true → o ≡ None → done ++ passing p ss cs i ≡ all → done ++ passing p ss cs (i + 1) ≡ all
  entry-none o is on none h =
      ap (λ xs. done ++ xs) (sym (ap (filter (λ e. p e.0)) (more o is) ∙ (own-on p z o rest on ∙ ap (λ q. with_own z q (passing p ss cs (i + 1))) none))) ∙ h

  pub entry-taken : (o : Option ℕ) (c : ℕ) → o ≡ get_or cs i o → p z ≡ true → o ≡ Some c → done ++ passing p ss cs i ≡ all → (done ++ (z, c) ∷ []) ++ passing p ss cs (i + 1) ≡ all
  entry-taken o c is on some h =
      append_assoc done ((z, c) ∷ []) (passing p ss cs (i + 1))
      ∙ (ap (λ xs. done ++ xs) (sym (ap (filter (λ e. p e.0)) (more o is) ∙ (own-on p z o rest on ∙ ap (λ q. with_own z q (passing p ss cs (i + 1))) some))) ∙ h)

-- no slot is left
pub entries-done : (ss : List ℕ) (cs : List (Option ℕ)) (done all : List (ℕ × ℕ)) (p : ℕ → Bool) (i : ℕ) → length ss ≤ i → done ++ passing p ss cs i ≡ all → done ≡ all
entries-done ss cs done all p i l h =
    sym (append-nil done) ∙ ap (λ xs. done ++ xs) (sym (ap (λ xs. filter (λ e. p e.0) (placed_entries xs (drop i cs))) (drop_of_length-le ss l))) ∙ h

-- ---- the entries of the set

kept-in : (p : ℕ → Bool) (ss : List ℕ) (z : ℕ) → is_in ss z ≡ true → is_in (filter p ss) z ≡ p z
kept-in p ss z h =
    (elim (p z) as (λ b. p z ≡ b → is_in (filter p ss) z ≡ b) [
      | true ↦ λ e. in-filter p ss z h e
      | false ↦ λ e. false_from_ne_true (is_in (filter p ss) z) (λ k. both_ways (p z) e (filter-in p ss z k).1)
    ]) refl

within-set : (p : ℕ → Bool) (set ss : List ℕ) (cs : List (Option ℕ)) → ((z : ℕ) → is_in ss z ≡ true → is_in set z ≡ p z) → filter (λ e. p e.0) (placed_entries ss cs) ≡ restricted (placed_entries ss cs) set
within-set p set [] cs h = refl
within-set p set (s ∷ ss) [] h = refl
within-set p set (s ∷ ss) (None ∷ cs) h = within-set p set ss cs (λ z k. h z (or_right (s == z) (is_in ss z) k))
within-set p set (s ∷ ss) (Some c ∷ cs) h =
    let more = within-set p set ss cs (λ z k. h z (or_right (s == z) (is_in ss z) k)) in
    ap (λ xs. cond (p s) ((s, c) ∷ xs) xs) more
    ∙ ap (λ b. cond b ((s, c) ∷ restricted (placed_entries ss cs) set) (restricted (placed_entries ss cs) set)) (sym (h s (or_left (s == s) (is_in ss s) (eq-eqb s s refl))))

-- the entries of the stations that satisfy p are the entries restricted to the set of these stations
pub entries-of : (p : ℕ → Bool) (ss : List ℕ) (cs : List (Option ℕ)) (set : List ℕ) → set ≡ filter p ss → filter (λ e. p e.0) (placed_entries ss cs) ≡ restricted (placed_entries ss cs) set
entries-of p ss cs set is = within-set p (filter p ss) ss cs (kept-in p ss) ∙ ap (restricted (placed_entries ss cs)) (sym is)

-- what a test asks about at one slot
pub asked-here : (s l i d : ℕ) (marks : List Bool) (fs ls : List ℕ) (b : Bool) → is_ascending fs ≡ true → length ls ≡ length fs → i < length fs → get_or ls i d ≡ l → is_asked s marks (get_or fs i 0) l ≡ b → is_asked s marks (get_or fs i 0) (label_in fs ls (get_or fs i 0)) ≡ b
asked-here s l i d marks fs ls b up long inside own is = ap (is_asked s marks (get_or fs i 0)) (label-at fs ls i (get_or fs i 0) d up long inside refl ∙ own) ∙ is
