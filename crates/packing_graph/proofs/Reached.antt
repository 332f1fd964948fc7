-- The invariant of the search: what is reached is reached by pairs, and each reached station waits or has been visited.
use Rattle.std.proofs.Common.{◌≡◌, ℕ, Bool, true, false, ◌==◌, List, [], ◌∷◌, ◌++◌, ◌⊎◌, inl, inr, length, refl, sym, subst, arith, ◌∙◌, eq-eqb, eqb-true}
use Rattle.std.proofs.lemmas.Bool.{both_ways, cases_Bool, false≢true, false_from_ne_true, or_cases, or_left}
use Rattle.pack_defs.specs.Book.{BookView}
use Rattle.pack_defs.specs.Components.{component, interferes, Reaches}
use Rattle.pack_defs.specs.Components.Reaches.{here, next}
use Rattle.pack_defs.specs.Lists.{is_ascending, is_in}
use Rattle.pack_defs.proofs.ComponentLaws.{component-from, component-gives, within-ascends}
use Rattle.pack_defs.proofs.Members.{is_in-from, is_in-gives}
use Rattle.packing_graph.specs.Sets.{with_station}
use Rattle.packing_graph.specs.Reach.{IsVisited}
use Rattle.packing_graph.proofs.SetLemmas.{with_station-has, with_station-gives, with_station-ascending, with_station-keeps}
use Rattle.packing_graph.proofs.WalkLemmas.{HasMore, in-gives, last-in, still-in}

pub record IsWalk (book : BookView) (on : List ℕ) (s : ℕ) (seen : ℕ → Bool) (waiting : List ℕ) : Type 0 where
  pub begun : seen s ≡ true
  pub known : (t : ℕ) → is_in waiting t ≡ true → seen t ≡ true
  pub done : (t : ℕ) → seen t ≡ true → (is_in waiting t ≡ true) ⊎ ((u : ℕ) → interferes book t u ≡ true → is_in on u ≡ true → seen u ≡ true)
  pub least : (t : ℕ) → seen t ≡ true → Reaches book (with_station on s) s t

pub walk-start : (book : BookView) (on : List ℕ) (s : ℕ) (none seen : ℕ → Bool) → ((t : ℕ) → none t ≡ false) → HasMore s none seen → IsWalk book on s seen (s ∷ [])
walk-start book on s none seen empty m =
    let only : (t : ℕ) → seen t ≡ true → s ≡ t = λ t h. elim (or_cases (s == t) (none t) (sym (m.same t) ∙ h)) [
      | inl e ↦ eqb-true s t e
      | inr never ↦ absurd (both_ways (none t) (empty t) never)
    ] in
    let itself : is_in (s ∷ []) s ≡ true = or_left (s == s) false (eq-eqb s s refl) in
    record {
      begun = m.same s ∙ or_left (s == s) (none s) (eq-eqb s s refl);
      known = λ t h. elim (or_cases (s == t) false h) [
        | inl e ↦ m.same t ∙ or_left (s == t) (none t) e
        | inr never ↦ absurd (false≢true never)
      ];
      done = λ t h. inl (subst (λ z. is_in (s ∷ []) z ≡ true) (only t h) itself);
      least = λ t h. subst (λ z. Reaches book (with_station on s) s z) (only t h) here;
    }

-- The last of the waiting stations is visited.
pub walk-step : (book : BookView) (on near : List ℕ) (s x : ℕ) (seen after : ℕ → Bool) (rest longer : List ℕ) → IsWalk book on s seen (rest ++ x ∷ []) → ((t : ℕ) → is_in near t ≡ interferes book x t) → IsVisited on near seen rest after longer → IsWalk book on s after longer
walk-step book on near s x seen after rest longer w same v =
    let reached_x : Reaches book (with_station on s) s x = w.least x (w.known x (last-in rest x)) in
    record {
      begun = v.kept s w.begun;
      known = λ t h. elim (v.led t h) [
        | inl old ↦ v.kept t (w.known t (still-in rest x t old))
        | inr r ↦ r
      ];
      done = λ t h. elim (v.new t h) [
        | inl old ↦ elim (w.done t old) [
          | inl waits ↦ elim (in-gives rest x t waits) [
            | inl later ↦ inl (v.still t later)
            | inr e ↦ inr (λ u joined air. v.reached u (same u ∙ subst (λ z. interferes book z u ≡ true) (sym e) joined) air)
          ]
          | inr closed ↦ inr (λ u joined air. v.kept u (closed u joined air))
        ]
        | inr r ↦ inl r.2
      ];
      least = λ t h. elim (v.new t h) [
        | inl old ↦ w.least t old
        | inr r ↦ next reached_x (with_station-keeps on s t (is_in-gives on t r.1)) (sym (same t) ∙ r.0)
      ];
    }

reaches-seen : (book : BookView) (on : List ℕ) (s : ℕ) (seen : ℕ → Bool) → IsWalk book on s seen [] → (t : ℕ) → Reaches book (with_station on s) s t → seen t ≡ true
reaches-seen book on s seen w t here = w.begun
reaches-seen book on s seen w t (next {t = u} before there joined) =
    elim (with_station-gives on s t there) [
      | inl e ↦ subst (λ z. seen z ≡ true) (sym e) w.begun
      | inr on_air ↦ elim (w.done u (reaches-seen book on s seen w u before)) [
        | inl waits ↦ absurd (false≢true waits)
        | inr closed ↦ closed t joined (is_in-from on t on_air)
      ]
    ]

-- If no station waits, the component is reached.
walk-end : (book : BookView) (on : List ℕ) (s : ℕ) (seen : ℕ → Bool) → IsWalk book on s seen [] → (t : ℕ) → seen t ≡ is_in (component book (with_station on s) s) t
walk-end book on s seen w t =
    let set : List ℕ = with_station on s in
    elim (cases_Bool (seen t)) [
      | inl is ↦ is ∙ sym (is_in-from (component book set s) t (component-from book set s t (with_station-has on s) (w.least t is)))
      | inr out ↦ out ∙ sym (false_from_ne_true (is_in (component book set s) t) (λ h.
          both_ways (seen t) out (reaches-seen book on s seen w t (component-gives book set s t (is_in-gives (component book set s) t h)))))
    ]

pub walk-done : (book : BookView) (on : List ℕ) (s : ℕ) (seen : ℕ → Bool) (waiting : List ℕ) → length waiting ≡ 0 → IsWalk book on s seen waiting → (t : ℕ) → seen t ≡ is_in (component book (with_station on s) s) t
walk-done book on s seen [] e w = walk-end book on s seen w
walk-done book on s seen (x ∷ xs) e w = absurd (omega arith)

pub component-ascends : (book : BookView) (on : List ℕ) (s : ℕ) → is_ascending on ≡ true → is_ascending (component book (with_station on s) s) ≡ true
unfolding component
component-ascends book on s a = within-ascends book (with_station on s) s _ (with_station-ascending on s a)
