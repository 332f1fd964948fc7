-- Lists of the passes of one lock, after one or all of them took turns. For callers of the lock.
use Rattle.std.proofs.Common.{◌≡◌, ◌∙◌, ◌<◌, ℕ, zero, suc, List, [], ◌∷◌, length, map, get_or, slice_set, refl, sym, ap, subst, arith}
use Rattle.turn_lock.specs.declared.chronicle.Chronicle.{Ghosts}
use Rattle.turn_lock.specs.declared.lock.Pass.{Pass}
use Rattle.turn_lock.specs.declared.lock.TurnLock.{TurnLock}
use Rattle.turn_lock.specs.Passes.{AreAllOf, IsPassOf, PassStandsAt, pass_identity}
use Rattle.turn_lock.specs.Turns.{AllOf}
use Rattle.turn_lock.proofs.Makes.{all_from}

pub all_at : {X : Type 0} (P : X → Type 0) (xs : List X) (i : ℕ) (d : X) → AllOf P xs → i < length xs → P (get_or xs i d)
all_at P [] i d h lt = absurd (omega arith)
all_at P (x ∷ xs) zero d h lt = h.0
all_at P (x ∷ xs) (suc i) d h lt = all_at P xs i d h.1 (omega arith)

pub all_set : {X : Type 0} (P : X → Type 0) (xs : List X) (i : ℕ) (y : X) → AllOf P xs → P y → AllOf P (slice_set xs i y)
all_set P [] zero y h k = tt
all_set P [] (suc i) y h k = tt
all_set P (x ∷ xs) zero y h k = (k, h.1)
all_set P (x ∷ xs) (suc i) y h k = (h.0, all_set P xs i y h.1 k)

-- a fact that holds at each place of a list holds of each element
pub all_each : {X : Type 0} (P : X → Type 0) (xs ys : List X) → length ys ≡ length xs → ((i : ℕ) (d : X) → i < length xs → P (get_or ys i d)) → AllOf P ys
all_each P xs [] len each = tt
all_each P [] (y ∷ ys) len each = absurd (omega arith)
all_each P (x ∷ xs) (y ∷ ys) len each = (each 0 y (omega arith), all_each P xs ys (omega arith) (λ i d lt. each (suc i) d (omega arith)))

pub map_set : {X Y : Type 0} (f : X → Y) (xs : List X) (i : ℕ) (y d : X) → f y ≡ f (get_or xs i d) → map f (slice_set xs i y) ≡ map f xs
map_set f [] zero y d same = refl
map_set f [] (suc i) y d same = refl
map_set f (x ∷ xs) zero y d same = ap (λ z. z ∷ map f xs) same
map_set f (x ∷ xs) (suc i) y d same = ap (λ zs. f x ∷ zs) (map_set f xs i y d same)

pub map_each : {X Y : Type 0} (f : X → Y) (xs ys : List X) → length ys ≡ length xs → ((i : ℕ) (d : X) → i < length xs → f (get_or ys i d) ≡ f (get_or xs i d)) → map f ys ≡ map f xs
map_each f [] [] len each = refl
map_each f [] (y ∷ ys) len each = absurd (omega arith)
map_each f (x ∷ xs) [] len each = absurd (omega arith)
map_each f (x ∷ xs) (y ∷ ys) len each = ap (λ z. z ∷ map f ys) (each 0 x (omega arith)) ∙ ap (λ zs. f x ∷ zs) (map_each f xs ys (omega arith) (λ i d lt. each (suc i) d (omega arith)))

module _ {T B E : Type 0} {G : Ghosts T B E} (base_of : T → B) (entries : T → List (ℕ × E)) (lock : TurnLock T B E) where
  pub own_at : (ps : List (Pass T B E G)) (i : ℕ) (d : Pass T B E G) → AreAllOf base_of entries lock (map pass_identity ps) → i < length ps → IsPassOf base_of entries lock (get_or ps i d)
  own_at ps i d h lt = all_at (λ p. IsPassOf base_of entries lock p) ps i d (all_from pass_identity (PassStandsAt base_of entries lock) ps h.own) lt

  pub set_all : (ps : List (Pass T B E G)) (i : ℕ) (y d : Pass T B E G) → pass_identity y ≡ pass_identity (get_or ps i d) → AreAllOf base_of entries lock (map pass_identity ps) → AreAllOf base_of entries lock (map pass_identity (slice_set ps i y))
  set_all ps i y d same h = subst (λ ss. AreAllOf base_of entries lock ss) (sym (map_set pass_identity ps i y d same)) h

  pub each_all : (ps qs : List (Pass T B E G)) → length qs ≡ length ps → ((i : ℕ) (d : Pass T B E G) → i < length ps → pass_identity (get_or qs i d) ≡ pass_identity (get_or ps i d)) → AreAllOf base_of entries lock (map pass_identity ps) → AreAllOf base_of entries lock (map pass_identity qs)
  each_all ps qs len each h = subst (λ ss. AreAllOf base_of entries lock ss) (sym (map_each pass_identity ps qs len each)) h
