-- A text that is written in parts.
use Rattle.std.proofs.Common.{◌≡◌, ◌∙◌, ◌≤◌, ◌+◌, ℕ, inl, inr, List, ◌++◌, length, take, sym, ap, arith, append_assoc}
use Rattle.std.specs.Prelude.{Option, Some, None, Result, Ok, Err, OnErr}
use Rattle.std.proofs.lemmas.Bool.{cases_lt}
use Rattle.std.proofs.Math.Seq.{take-append-add}
use Rattle.std.proofs.lemmas.List.{take-append-le, take_all}
use Rattle.outside_io.specs.Faults.{HasRisen}
use Rattle.outside_io.specs.Loads.{Writes}
use Rattle.outside_io.specs.declared.sink.Failed.{Failed}
use Rattle.commands.specs.Messages.{PrintsText}

-- The first bytes of a text are the first bytes of a longer one.
first_part : (n : ℕ) (t u : List ℕ) → (m : ℕ) × (take m (t ++ u) ≡ take n t)
first_part n t u = elim (cases_lt n (length t)) [
  | inl within ↦ (n, take-append-le n t u (omega arith))
  | inr past ↦ (length t, take-append-le (length t) t u (omega arith) ∙ (take_all (length t) t (omega arith) ∙ sym (take_all n t past)))
]

pub rises-before : (a b c : ℕ) → a ≤ b → HasRisen b c → HasRisen a c
rises-before a b c h k = omega arith

-- A write that fails is a failed write of its bytes and of those that were to follow.
pub writes-cut : (old new : Option (List ℕ)) (t u : List ℕ) (e f : Failed) → Writes old new t (Err e) → Writes old new (t ++ u) (Err f)
writes-cut None None t u e f w = tt
writes-cut None (Some new) t u e f w = w
writes-cut (Some old) None t u e f w = w
writes-cut (Some old) (Some new) t u e f w =
    let (m, same) = first_part w.0 t u in
    (m, w.1 ∙ ap (λ z. old ++ z) (sym same))

-- A successful write and one after it are a write of both texts.
pub writes-then : (a b c : Option (List ℕ)) (t u : List ℕ) (x : Unit {0}) (r : Result (Unit {0}) Failed) → Writes a b t (Ok x) → Writes b c u r → Writes a c (t ++ u) r
writes-then None None None t u x r w s = tt
writes-then None None (Some c) t u x r w s = s
writes-then None (Some b) c t u x r w s = absurd w
writes-then (Some a) None c t u x r w s = absurd w
writes-then (Some a) (Some b) None t u x r w s = s
writes-then (Some a) (Some b) (Some c) t u x (Ok y) w s = s ∙ (ap (λ z. z ++ u) w ∙ append_assoc a t u)
writes-then (Some a) (Some b) (Some c) t u x (Err e) w s =
    (length t + s.0, s.1 ∙ (ap (λ z. z ++ take s.0 u) w ∙ (append_assoc a t (take s.0 u) ∙ ap (λ z. a ++ z) (sym (take-append-add t u s.0)))))

-- One write prints its bytes.
pub says-write : (old new : Option (List ℕ)) (before now : ℕ) (bytes : List ℕ) (r : Result (Unit {0}) Failed) → Writes old new bytes r → OnErr r (HasRisen before now) → PrintsText old new before now bytes
says-write None None before now bytes r w f = tt
says-write None (Some new) before now bytes r w f = w
says-write (Some old) None before now bytes r w f = w
says-write (Some old) (Some new) before now bytes (Ok u) w f = inl w
says-write (Some old) (Some new) before now bytes (Err e) w f = inr (f, w.0, w.1)
