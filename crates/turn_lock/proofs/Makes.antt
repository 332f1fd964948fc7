-- The passes of a new lock, and those of one that is closed. For `make` and `close`.
use Rattle.std.proofs.Common.{◌≡◌, ◌∙◌, ◌<◌, ◌≤◌, ◌⊎◌, ℕ, List, [], ◌∷◌, ◌++◌, length, map, Option, Some, refl, sym, ap, subst, arith, inl, inr, ⊎_elim, zero, suc}
use mathlib.Core.Logic.{dite}
use native.Mathlib.Decide.{ℕ_discrete}
use Rattle.turn_lock.specs.declared.chronicle.Chronicle.{Ghosts}
use Rattle.turn_lock.specs.declared.chronicle.PassKnowledge.{PassKnowledge}
use Rattle.turn_lock.specs.declared.lock.Pass.{Pass}
use Rattle.turn_lock.specs.declared.lock.TurnLock.{TurnLock}
use Rattle.turn_lock.specs.declared.chronicle.View.{View}
use Rattle.atomic_table.specs.Table.{Me}
use Rattle.turn_lock.specs.Passes.{AreAllOf, IsPassIdle, PassIdentity, PassStandsAt, known_of, value_under, pass_identity}
use Rattle.turn_lock.specs.Turns.{AllOf, CountsPasses, IsSeatIdle, Knows, each_new, known, made_of, newcomer, newcomers}
use Rattle.turn_lock.proofs.Lists.{all_more, length_map, length_more, map_more, numbered}

-- a fact about the image of each element
pub all_to : {X Y : Type 0} (f : X → Y) (Q : Y → Type 0) (xs : List X) → AllOf (λ x. Q (f x)) xs → AllOf Q (map f xs)
all_to f Q [] h = tt
all_to f Q (x ∷ xs) h = (h.0, all_to f Q xs h.1)

pub all_from : {X Y : Type 0} (f : X → Y) (Q : Y → Type 0) (xs : List X) → AllOf Q (map f xs) → AllOf (λ x. Q (f x)) xs
all_from f Q [] h = tt
all_from f Q (x ∷ xs) h = (h.0, all_from f Q xs h.1)

pub all_two : {X : Type 0} {P Q R : X → Type 0} → ((x : X) → P x → Q x → R x) → (xs : List X) → AllOf P xs → AllOf Q xs → AllOf R xs
all_two f [] h g = tt
all_two f (x ∷ xs) h g = (f x h.0 g.0, all_two f xs h.1 g.1)

pub map_again : {X Y Z : Type 0} (f : X → Y) (g : Y → Z) (xs : List X) → map g (map f xs) ≡ map (λ x. g (f x)) xs
map_again f g [] = refl
map_again f g (x ∷ xs) = ap (λ l. g (f x) ∷ l) (map_again f g xs)

knows_left : (p : ℕ) (xs ys : List ℕ) → Knows p xs → Knows p (xs ++ ys)
knows_left p [] ys h = absurd h
knows_left p (x ∷ xs) ys h = ⊎_elim inl (λ r. inr (knows_left p xs ys r)) h

knows_last : (p : ℕ) (xs : List ℕ) → Knows p (xs ++ p ∷ [])
knows_last p [] = inl refl
knows_last p (x ∷ xs) = inr (knows_last p xs)

below_last : (p n : ℕ) → p < suc n → (suc p ≤ n) ⊎ (p ≡ n)
below_last p n below = dite (ℕ_discrete p n) (λ e. inr e) (λ ne. inl (omega arith))

-- the new passes are those with numbers below n
knows_new : {E : Type 0} (start : List (ℕ × E)) (n p : ℕ) → p < n → Knows p (map numbered (each_new start n))
knows_new start zero p below = absurd (omega arith)
knows_new start (suc n) p below = subst (Knows p) (sym (map_more numbered (each_new start n) (known n start [])))
    (⊎_elim
    (λ (h : suc p ≤ n). knows_left p (map numbered (each_new start n)) (n ∷ []) (knows_new start n p h))
    (λ (e : p ≡ n). subst (λ k. Knows p (map numbered (each_new start n) ++ k ∷ [])) e (knows_last p (map numbered (each_new start n))))
    (below_last p n below))

abbrev pub seat_of : {T B E : Type 0} {G : Ghosts T B E} → Pass T B E G → Me (Option T) (View B E)
seat_of p = p.seat.me

abbrev own_of : {T B E : Type 0} → Me (Option T) (View B E) → PassKnowledge E
own_of m = m.0.own

abbrev made_by : {T B E : Type 0} → Me (Option T) (View B E) → Option ℕ
made_by m = m.0.passes_made

-- how each new pass begins
record IsNew {T B E : Type 0} (base : B) (start : List (ℕ × E)) (m : Me (Option T) (View B E)) : Type 0 where
  base_is : m.0.base ≡ Some base
  start_is : m.0.start ≡ start
  alone : m.0.joined ≡ []
  idle : IsSeatIdle m

module _ (T : Type 0) {B E : Type 0} (base : B) (start : List (ℕ × E)) where
  abbrev news : ℕ → List (Me (Option T) (View B E))
  news n = newcomers base start n

  abbrev all : ℕ → List (Me (Option T) (View B E))
  all n = made_of base start n

  all_newcomers : (n : ℕ) → AllOf (IsNew base start) (news n)
  all_newcomers zero = tt
  all_newcomers (suc n) = all_more (IsNew base start) (news n) ((newcomer base start (suc n), []) ∷ []) (all_newcomers n) (record { base_is = refl; start_is = refl; alone = refl; idle = record { ticket = refl; turn = refl; carries = refl } }, tt)

  all_made : (n : ℕ) → AllOf (IsNew base start) (all n)
  all_made zero = tt
  all_made (suc n) = (record { base_is = refl; start_is = refl; alone = refl; idle = record { ticket = refl; turn = refl; carries = refl } }, all_newcomers n)

  first_known : (n : ℕ) → known 0 start [] ∷ map own_of (news n) ≡ each_new start (suc n)
  first_known zero = refl
  first_known (suc n) = ap (λ l. known 0 start [] ∷ l) (map_more own_of (news n) (newcomer base start (suc n), [])) ∙ ap (λ l. l ++ known (suc n) start [] ∷ []) (first_known n)

  made_known : (n : ℕ) → map own_of (all n) ≡ each_new start n
  made_known zero = refl
  made_known (suc n) = first_known n

  made_first : (n : ℕ) → 0 < n → CountsPasses n (map made_by (all n))
  made_first zero some = absurd (omega arith)
  made_first (suc n) some = refl

  news_length : (n : ℕ) → length (news n) ≡ n
  news_length zero = refl
  news_length (suc n) = length_more (news n) (newcomer base start (suc n), []) ∙ ap suc (news_length n)

  made_length : (n : ℕ) → length (all n) ≡ n
  made_length zero = refl
  made_length (suc n) = ap suc (news_length n)

module _ {T B E : Type 0} {G : Ghosts T B E} (base_of : T → B) (entries : T → List (ℕ × E)) where
  -- what is known of the passes of a new lock
  pub makes : (lock : TurnLock T B E) (ps : List (Pass T B E G)) (n : ℕ) (value : T) → 0 < n → value_under lock ≡ value → AllOf (λ p. p.seat.table_id ≡ lock.table.shared.table_id) ps → map seat_of ps ≡ made_of (base_of value) (entries value) n
      → AreAllOf base_of entries lock (map pass_identity ps) × AllOf IsPassIdle ps × (map known_of ps ≡ each_new (entries value) n)
  makes lock ps n value some over own passes_made =
      let base = base_of value in
      let start = entries value in
      let new : AllOf (λ p. IsNew base start (seat_of p)) ps = all_from seat_of (IsNew base start) ps (subst (AllOf (IsNew base start)) (sym passes_made) (all_made T base start n)) in
      let known_as : map known_of ps ≡ each_new start n = sym (map_again seat_of own_of ps) ∙ (ap (map own_of) passes_made ∙ made_known T base start n) in
      let many : length ps ≡ n = sym (length_map seat_of ps) ∙ (ap length passes_made ∙ made_length T base start n) in (
        record {
          own = all_to pass_identity (PassStandsAt base_of entries lock) ps (all_two (λ p t i. record { table = t; base = i.base_is ∙ ap (λ v. Some (base_of v)) (sym over); start = i.start_is ∙ ap entries (sym over) }) ps own new);
          alone = all_to pass_identity (λ s. s.joined ≡ []) ps (all_two (λ p t i. i.alone) ps own new);
          first = subst (λ (k : ℕ). CountsPasses k (map (λ (s : PassIdentity B E). s.passes_made) (map pass_identity ps))) (sym (length_map pass_identity ps ∙ many))
              (subst (CountsPasses n) (sym (map_again pass_identity (λ (s : PassIdentity B E). s.passes_made) ps ∙ (sym (map_again seat_of made_by ps) ∙ ap (map made_by) passes_made))) (made_first T base start n some));
          all = λ p below. subst (Knows p) (sym (map_again pass_identity (λ (s : PassIdentity B E). s.number) ps ∙ (sym (map_again known_of numbered ps) ∙ ap (map numbered) known_as))) (knows_new start n p (subst (λ (k : ℕ). p < k) (length_map pass_identity ps ∙ many) below));
        },
        all_two (λ p t i. i.idle) ps own new,
        known_as,
      )
