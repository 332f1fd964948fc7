-- A fact that holds in each of the eight outcomes of a posting holds of its result.
use Rattle.std.proofs.Common.{◌≡◌, ℕ, ◌+◌, ◌==◌, Bool, true, false, if◌then◌else◌, List, length, map, Option, Some, None, refl}
use Rattle.std.specs.Option.{option_map_or}
use Rattle.pack_defs.specs.Book.{BookView}
use Rattle.pack_defs.specs.declared.scenario.Scenario.{Scenario}
use Rattle.cert_types.specs.declared.answer.Answer.{Answer}
use Rattle.cert_types.specs.declared.answer.Answer.TheVariants.{Fit, Refuted as Refutes, Spent}
use Rattle.cert_types.specs.declared.answer.Refutation.{Refutation}
use Rattle.cert_types.specs.declared.answer.Receipt.{Receipt}
use Rattle.cert_types.specs.declared.answer.Place.{Place}
use Rattle.auction_core.specs.declared.record.Shown.TheVariants.{Fits, Refuted, Undecided}
use Rattle.auction_core.specs.declared.posting.Reply.{Reply}
use Rattle.auction_core.specs.declared.posting.Reply.TheVariants.{Rejected, AlreadySpent, Noted}
use Rattle.auction_core.specs.State.{CoreState, NotedSpent}
use Rattle.auction_core.specs.Take.{PostingView, unjudged_reply, fault_of, judged, accepted, advanced, is_noted, noted_with, take}

-- a worker's receipt as a pending one
abbrev pub noted_as : ℕ → Receipt → NotedSpent
noted_as w receipt = record { worker = w; receipt = receipt }

-- the state with one more pending receipt
abbrev pub with_noted : CoreState → NotedSpent → CoreState
with_noted state x = record state { noted = noted_with x state.noted }

-- all receipts, once the last worker's has come
abbrev pub all_spent : CoreState → NotedSpent → List Receipt
all_spent state x = map (λ n. n.receipt) (noted_with x state.noted)

-- P holds in each of the eight outcomes
pub record HoldsInEach (sc : Scenario) (book : BookView) (state : CoreState) (p : PostingView) (P : Reply × CoreState → Type 0) : Type 0 where
  pub turned : (reply : Reply) → unjudged_reply sc state p.worker p.number ≡ Some reply → P (reply, state)
  pub rejected : (place : Place) → unjudged_reply sc state p.worker p.number ≡ None → fault_of sc book state p ≡ Some place → P (Rejected place, state)
  pub fit : (delta : List (ℕ × ℕ)) → unjudged_reply sc state p.worker p.number ≡ None → fault_of sc book state p ≡ None → p.answer ≡ Fit delta → P (advanced sc book state (Fits delta))
  pub refuted : (how : Refutation) → unjudged_reply sc state p.worker p.number ≡ None → fault_of sc book state p ≡ None → p.answer ≡ Refutes how → P (advanced sc book state (Refuted p.worker how))
  pub already : (receipt : Receipt) → unjudged_reply sc state p.worker p.number ≡ None → fault_of sc book state p ≡ None → p.answer ≡ Spent receipt → is_noted state.noted p.worker ≡ true → P (AlreadySpent, state)
  pub last : (receipt : Receipt) → unjudged_reply sc state p.worker p.number ≡ None → fault_of sc book state p ≡ None → p.answer ≡ Spent receipt → is_noted state.noted p.worker ≡ false → (length state.noted + 1 == length sc.workers) ≡ true → P (advanced sc book state (Undecided (all_spent state (noted_as p.worker receipt))))
  pub more : (receipt : Receipt) → unjudged_reply sc state p.worker p.number ≡ None → fault_of sc book state p ≡ None → p.answer ≡ Spent receipt → is_noted state.noted p.worker ≡ false → (length state.noted + 1 == length sc.workers) ≡ false → P (Noted, with_noted state (noted_as p.worker receipt))

by_if : {A : Type 0} (P : A → Type 0) (b : Bool) (x y : A) → (b ≡ true → P x) → (b ≡ false → P y) → P (if b then x else y)
by_if P true x y f g = f refl
by_if P false x y f g = g refl

by_answer : (sc : Scenario) (book : BookView) (state : CoreState) (p : PostingView) (P : Reply × CoreState → Type 0) → HoldsInEach sc book state p P → unjudged_reply sc state p.worker p.number ≡ None → fault_of sc book state p ≡ None → (answer : Answer) → p.answer ≡ answer → P (accepted sc book state p.worker answer)
by_answer sc book state p P h t f (Fit delta) e = h.fit delta t f e
by_answer sc book state p P h t f (Refutes how) e = h.refuted how t f e
by_answer sc book state p P h t f (Spent receipt) e =
    by_if P (is_noted state.noted p.worker) (AlreadySpent, state) (if length state.noted + 1 == length sc.workers then advanced sc book state (Undecided (all_spent state (noted_as p.worker receipt))) else (Noted, with_noted state (noted_as p.worker receipt)))
    (h.already receipt t f e)
    (λ new. by_if P (length state.noted + 1 == length sc.workers) (advanced sc book state (Undecided (all_spent state (noted_as p.worker receipt)))) (Noted, with_noted state (noted_as p.worker receipt)) (h.last receipt t f e new) (h.more receipt t f e new))

by_fault : (sc : Scenario) (book : BookView) (state : CoreState) (p : PostingView) (P : Reply × CoreState → Type 0) → HoldsInEach sc book state p P → unjudged_reply sc state p.worker p.number ≡ None → (o : Option Place) → fault_of sc book state p ≡ o → P (judged sc book state p o)
by_fault sc book state p P h t None e = by_answer sc book state p P h t e p.answer refl
by_fault sc book state p P h t (Some place) e = h.rejected place t e

by_turned : (sc : Scenario) (book : BookView) (state : CoreState) (p : PostingView) (P : Reply × CoreState → Type 0) → HoldsInEach sc book state p P → (o : Option Reply) → unjudged_reply sc state p.worker p.number ≡ o → P (option_map_or (λ reply. (reply, state)) o (judged sc book state p (fault_of sc book state p)))
by_turned sc book state p P h None e = by_fault sc book state p P h e (fault_of sc book state p) refl
by_turned sc book state p P h (Some reply) e = h.turned reply e

-- a fact that holds in each outcome holds of the result of the posting
pub take-cases : (sc : Scenario) (book : BookView) (state : CoreState) (p : PostingView) (P : Reply × CoreState → Type 0) → HoldsInEach sc book state p P → P (take sc book state p)
unfolding take
take-cases sc book state p P h = by_turned sc book state p P h (unjudged_reply sc state p.worker p.number) refl
