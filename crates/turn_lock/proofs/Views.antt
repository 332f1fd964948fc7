-- The views of a table: which belong to passes, and which of them wait or have the turn.
use Rattle.std.proofs.Common.{◌≡◌, ◌≢◌, ◌∙◌, ◌⊎◌, ℕ, ◌==◌, List, [], ◌∷◌, set, true, false, Some, None, refl, sym, ap, subst, inl, inr, zero, suc, eq-eqb, ne_eqb}
use Rattle.std.specs.Prelude.{if◌then◌else◌}
use mathlib.Core.Logic.{dite}
use mathlib.Core.Option.{some, some-injective, some-ne-none}
use native.Mathlib.Decide.{ℕ_discrete}
use lib.ListN.{get_elem?}
use Rattle.std.proofs.lemmas.Bool.{false≢true}
use Rattle.atomic_table.proofs.Lists.{set_here, set_else}
use Rattle.turn_lock.specs.declared.chronicle.View.{View}
use Rattle.turn_lock.specs.Turns.{HasCount, HasTicket, Live, Moment, nobody}
use Rattle.turn_lock.proofs.Lists.{inside, none_is}

-- a function with one value changed
abbrev pub put_at : ℕ → ℕ → (ℕ → ℕ) → ℕ → ℕ
put_at n seat f t = if t == n then seat else f t

pub put_else : (n seat : ℕ) (f : ℕ → ℕ) (t : ℕ) → t ≢ n → put_at n seat f t ≡ f t
put_else n seat f t ne = rw (ne_eqb t n ne) refl

pub put_here : (n seat : ℕ) (f : ℕ → ℕ) → put_at n seat f n ≡ seat
put_here n seat f = rw (eq-eqb n n refl) refl

pub one_view : {V : Type 0} (Q : ℕ → V → Type 0) (w : V) → Q 0 w → (j : ℕ) (a : V) → get_elem? (w ∷ []) j ≡ some a → Q j a
one_view Q w q zero a e = subst (Q 0) (some-injective w a e) q
one_view Q w q (suc j) a e = absurd (some-ne-none a (sym e))

module _ {B E : Type 0} {base : B} {start : List (ℕ × E)} where
  -- what the rule says of a view
  abbrev pub Fit : Moment base start → ℕ → View B E → Type 0
  Fit m seat v = (v ≡ nobody) ⊎ Live base start m seat v

  -- a view with a base belongs to a pass, and so does one that has the turn or a ticket
  pub living : (m : Moment base start) (seat : ℕ) (v : View B E) → Fit m seat v → (b : B) → v.base ≡ Some b → Live base start m seat v
  living m seat v (inl e) b is = absurd (none_is (ap (λ (x : View B E). x.base) (sym e) ∙ is))
  living m seat v (inr l) b is = l

  pub turning : (m : Moment base start) (seat : ℕ) (v : View B E) → Fit m seat v → v.turn ≡ true → Live base start m seat v
  turning m seat v (inl e) is = absurd (false≢true (ap (λ (x : View B E). x.turn) (sym e) ∙ is))
  turning m seat v (inr l) is = l

module _ {B E : Type 0} (views : List (View B E)) where
  -- a view that has the turn is at another place than one that has not
  pub apart : (id : ℕ) (v w : View B E) → get_elem? views id ≡ some v → v.turn ≡ false → (at : ℕ) → get_elem? views at ≡ some w → w.turn ≡ true → at ≢ id
  apart id v w here out at there has e = let same : some w ≡ some v = sym there ∙ ap (get_elem? views) e ∙ here in
      false≢true (sym out ∙ (ap (λ (x : View B E). x.turn) (sym (some-injective w v same)) ∙ has))

  -- a view with a ticket is at another place than one without
  pub elsewhere : (id : ℕ) (v w : View B E) → get_elem? views id ≡ some v → v.ticket ≡ None → (at t : ℕ) → get_elem? views at ≡ some w → w.ticket ≡ Some t → at ≢ id
  elsewhere id v w here out at t there has e = let same : some w ≡ some v = sym there ∙ ap (get_elem? views) e ∙ here in
      none_is (sym out ∙ (ap (λ (x : View B E). x.ticket) (sym (some-injective w v same)) ∙ has))

  -- a ticket stays if another view changes, or if its own view changes and keeps the ticket
  pub still_else : (id : ℕ) (w : View B E) (at t : ℕ) → at ≢ id → HasTicket views at t → HasTicket (set views id w) at t
  still_else id w at t ne h = (h.0, set_else views id at w ne ∙ h.1, h.2)

  pub still : (id : ℕ) (v w : View B E) → get_elem? views id ≡ some v → w.ticket ≡ v.ticket → (at t : ℕ) → HasTicket views at t → HasTicket (set views id w) at t
  still id v w here same at t h = dite (ℕ_discrete at id)
      (λ is. (w, ap (get_elem? (set views id w)) is ∙ set_here views id w (inside views id v here), same ∙ (ap (λ (x : View B E). x.ticket) (some-injective v h.0 (sym here ∙ (ap (get_elem? views) (sym is) ∙ h.1))) ∙ h.2)))
      (λ ne. still_else id w at t ne h)

  -- a count stays if another view changes, or if its own view changes and has the same count
  pub counts_else : (id : ℕ) (w : View B E) (at n : ℕ) → at ≢ id → HasCount views at n → HasCount (set views id w) at n
  counts_else id w at n ne h = (h.0, set_else views id at w ne ∙ h.1, h.2)

  pub counts_still : (id : ℕ) (v w : View B E) → get_elem? views id ≡ some v → ((n : ℕ) → v.passes_made ≡ Some n → w.passes_made ≡ Some n) → (at n : ℕ) → HasCount views at n → HasCount (set views id w) at n
  counts_still id v w here same at n h = dite (ℕ_discrete at id)
      (λ is. (w, ap (get_elem? (set views id w)) is ∙ set_here views id w (inside views id v here), same n (ap (λ (x : View B E). x.passes_made) (some-injective v h.0 (sym here ∙ (ap (get_elem? views) (sym is) ∙ h.1))) ∙ h.2)))
      (λ ne. counts_else id w at n ne h)
