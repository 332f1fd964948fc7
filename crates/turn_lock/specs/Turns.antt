-- The rule of a ticket lock (`RuleKept`), and what a pass learns from each step.
--
-- Word 0 is the next ticket and word 1 the ticket that is served, both modulo 2 ^ 64. Word 2 is the length of the value's history.
-- Each number from the ticket served up to, but not including, the next ticket is the ticket of exactly one view. Only the view
-- with the ticket served may have the turn. If no view has the turn, the value is in the slot and has the counted history. The view
-- that has the turn has seen all of that history. Each pass has seen a beginning of the history. The entries after the first
-- history that have a pass's number are its own, in order, and no number is known at two views.
use Rattle.std.specs.Prelude.{◌≡◌, ◌≢◌, ◌⊎◌, ℕ, zero, suc, ◌+◌, ◌%◌, ◌^◌, ◌<◌, ◌≤◌, ◌==◌, List, [], ◌∷◌, ◌++◌, length, Bool, true, false, Option, Some, None, IfSome, option_map, unwrap_or, if◌then◌else◌, ⊤}
use mathlib.Core.Option.{some}
use lib.ListN.{get_elem?}
use Rattle.atomic_table.specs.Table.{State, Me, Step}
use Rattle.turn_lock.specs.declared.chronicle.PassKnowledge.{PassKnowledge}
use Rattle.turn_lock.specs.declared.chronicle.View.{View}

-- Whether the list begins with `seen`.
abbrev pub StartsWith : {X : Type 0} → List X → List X → Type 0
StartsWith {X} log seen = (rest : List X) × (log ≡ seen ++ rest)

-- Whether P holds of each element.
abbrev pub AllOf : {X : Type 0} → (X → Type 0) → List X → Type 0
AllOf P [] = ⊤
AllOf P (x ∷ xs) = P x × AllOf P xs

-- The entries of one pass, in their order.
abbrev pub by : {E : Type 0} → ℕ → List (ℕ × E) → List (ℕ × E)
by n [] = []
by n (e ∷ es) = if e.0 == n then e ∷ by n es else by n es

-- Whether the history that the pass has seen begins with `start`, and the later entries with the number of the pass are its own.
pub record IsLegalFor {E : Type 0} (start : List (ℕ × E)) (k : PassKnowledge E) : Type 0 where
  pub tail : List (ℕ × E)
  pub knows_seen : k.seen ≡ start ++ tail
  pub knows_mine : by k.number tail ≡ k.mine

-- The sum of the weights of the elements.
abbrev pub total_weight : {X : Type 0} → (X → ℕ) → List X → ℕ
total_weight weight [] = 0
total_weight weight (x ∷ xs) = weight x + total_weight weight xs

-- The number of values in an option: 0 or 1.
abbrev pub one_if : {X : Type 0} → Option X → ℕ
one_if None = 0
one_if (Some x) = 1

-- The first option, or the second if the first is empty.
abbrev pub either_of : {X : Type 0} → Option X → Option X → Option X
either_of None o = o
either_of (Some x) o = Some x

-- The last element.
abbrev pub last : {X : Type 0} → List X → Option X
last [] = None
last (x ∷ []) = Some x
last (x ∷ y ∷ rest) = last (y ∷ rest)

module _ {E : Type 0} where
  -- The knowledge of a pass, from its three fields.
  abbrev pub known : ℕ → List (ℕ × E) → List (ℕ × E) → PassKnowledge E
  known number seen mine = record { number = number; seen = seen; mine = mine }

  -- What is known of the passes of a new lock: those below `n`, in order, each of which has seen the first history and made no
  -- entry.
  abbrev pub each_new : List (ℕ × E) → ℕ → List (PassKnowledge E)
  each_new start zero = []
  each_new start (suc n) = each_new start n ++ known n start [] ∷ []

module _ {B E : Type 0} where
  -- The view that is left of a pass that was joined into another.
  abbrev pub nobody : View B E
  nobody = record { ticket = None; turn = false; passes_made = None; base = None; start = []; own = known 0 [] []; joined = [] }

  -- The first view of a lock made over this base and history.
  abbrev pub founder : B → List (ℕ × E) → View B E
  founder base start = record { ticket = None; turn = false; passes_made = Some 1; base = Some base; start = start; own = known 0 start []; joined = [] }

  -- The view of the pass that counts passes, once it has made one more.
  abbrev pub one_pass_more : View B E → View B E
  one_pass_more v = record v { passes_made = option_map (λ n. suc n) v.passes_made }

  -- The view of a new pass, made from that of the pass that counts passes.
  abbrev pub copy_of : View B E → View B E
  copy_of v = record { ticket = None; turn = false; passes_made = None; base = v.base; start = v.start; own = known (unwrap_or v.passes_made 0) v.own.seen []; joined = [] }

  -- The view of pass `n` of a new lock.
  abbrev pub newcomer : B → List (ℕ × E) → ℕ → View B E
  newcomer base start n = record { ticket = None; turn = false; passes_made = None; base = Some base; start = start; own = known n start []; joined = [] }

  -- The views of the passes 1 to `n` of a new lock.
  abbrev pub newcomers : {S : Type 0} → B → List (ℕ × E) → ℕ → List (Me S (View B E))
  newcomers base start zero = []
  newcomers base start (suc n) = newcomers base start n ++ (newcomer base start (suc n), []) ∷ []

  -- The views of the first `n` passes of a new lock; the first one counts them.
  abbrev pub made_of : {S : Type 0} → B → List (ℕ × E) → ℕ → List (Me S (View B E))
  made_of base start zero = []
  made_of base start (suc n) = (record (founder base start) { passes_made = Some (suc n) }, []) ∷ newcomers base start n

  -- The first view once the second is joined into it.
  abbrev pub joined_view : View B E → View B E → View B E
  joined_view v w = record v { passes_made = either_of v.passes_made w.passes_made; joined = v.joined ++ w.own ∷ w.joined }

  -- The number of views that wait or have the turn.
  abbrev pub waiting_in : List (View B E) → ℕ
  waiting_in [] = 0
  waiting_in (v ∷ vs) = one_if v.ticket + waiting_in vs

  -- Whether the view at this seat waits or has the turn with this ticket.
  abbrev pub HasTicket : List (View B E) → ℕ → ℕ → Type 0
  HasTicket views seat ticket = (v : View B E) × (get_elem? views seat ≡ some v) × (v.ticket ≡ Some ticket)

  -- Whether the view at this seat counts the passes that were made, and has counted `n`.
  abbrev pub HasCount : List (View B E) → ℕ → ℕ → Type 0
  HasCount views seat n = (v : View B E) × (get_elem? views seat ≡ some v) × (v.passes_made ≡ Some n)

  module _ (base : B) (start : List (ℕ × E)) where
    -- Whether this knowledge of a pass is right for the history after `start`: the pass has seen a beginning, and its own entries
    -- are those with its number.
    pub record FitsKnown (passes_made : ℕ) (tail : List (ℕ × E)) (holder : ℕ → ℕ) (seat : ℕ) (k : PassKnowledge E) : Type 0 where
      pub prefix : StartsWith (start ++ tail) k.seen
      pub below : k.number < passes_made
      pub holds : holder k.number ≡ seat
      pub mine : by k.number tail ≡ k.mine

    -- A moment between two steps: the next ticket, the ticket served, how many passes were made and which seat makes them, and the
    -- history after `start`. It also has the seat of each ticket and of each pass, and whether some seat has the turn, and the
    -- value with it.
    pub record Moment : Type 0 where
      pub issued : ℕ
      pub served : ℕ
      pub passes_made : ℕ
      pub keeper : ℕ
      pub tail : List (ℕ × E)
      pub owner : ℕ → ℕ
      pub holder : ℕ → ℕ
      pub taken : Bool

    -- What holds of the view of a pass. Its ticket lies between the one served and the next, and belongs to no other view. With the
    -- turn, its ticket is the one served, and it has seen the complete history. Only one view makes passes. What it knows of itself
    -- and of the passes joined into it is right, and these have other numbers.
    pub record Live (m : Moment) (seat : ℕ) (v : View B E) : Type 0 where
      pub base_is : v.base ≡ Some base
      pub start_is : v.start ≡ start
      pub ticket : (t : ℕ) → v.ticket ≡ Some t → (m.served ≤ t) × (t < m.issued) × (m.owner t ≡ seat)
      pub turn : v.turn ≡ true → (v.ticket ≡ Some m.served) × (v.own.seen ≡ start ++ m.tail) × (m.taken ≡ true)
      pub passes_made : (n : ℕ) → v.passes_made ≡ Some n → (n ≡ m.passes_made) × (m.keeper ≡ seat)
      pub own : FitsKnown m.passes_made m.tail m.holder seat v.own
      pub others : AllOf (λ k. FitsKnown m.passes_made m.tail m.holder seat k × (k.number ≢ v.own.number)) v.joined

    -- The rule. Each view is that of a pass, or what is left of a pass that was joined into another. Exactly one counts the passes:
    -- the keeper's view does (`count`), and no other may (`passes_made` of `Live`).
    pub record RuleKept {T : Type 0} (base_of : T → B) (entries : T → List (ℕ × E)) (s : State (Option T) (View B E)) : Type 0 where
      pub at : Moment
      pub words : s.words ≡ at.issued % 2 ^ 64 ∷ at.served % 2 ^ 64 ∷ length (start ++ at.tail) ∷ []
      pub crowd : length s.views ≡ at.passes_made
      pub few : at.passes_made < 2 ^ 32
      pub count : HasCount s.views at.keeper at.passes_made
      pub waiting : at.served + waiting_in s.views ≡ at.issued
      pub ticketed : (t : ℕ) → at.served ≤ t → t < at.issued → HasTicket s.views (at.owner t) t
      pub authors : AllOf (λ e. e.0 < at.passes_made) at.tail
      pub fits : (seat : ℕ) (v : View B E) → get_elem? s.views seat ≡ some v → (v ≡ nobody) ⊎ Live at seat v
      pub home : at.taken ≡ false → (value : T) × (s.homes ≡ some (Some value) ∷ []) × (entries value ≡ start ++ at.tail) × (base_of value ≡ base)
      pub held : at.taken ≡ true → (v : View B E) × (get_elem? s.views (at.owner at.served) ≡ some v) × (v.turn ≡ true)

module _ {T B E : Type 0} (base_of : T → B) (entries : T → List (ℕ × E)) where
  -- A seat and what it carries, for values of this lock.
  abbrev Sat : Type 0
  Sat = Me (Option T) (View B E)

  -- A ticket was drawn; the word returned the ticket modulo 2 ^ 64.
  abbrev pub drawn : Step (Option T) → Sat → ℕ → Sat → Type 0
  drawn st m n w = (t : ℕ) × (n ≡ t % 2 ^ 64) × (w ≡ (record m.0 { ticket = Some t }, m.1))

  -- If the ticket read is the seat's own, the seat has the turn and the value, which has the lock's base and the complete history;
  -- otherwise nothing changes.
  abbrev pub looked : Step (Option T) → Sat → ℕ → Sat → Type 0
  looked st m n w = (t : ℕ) → m.0.ticket ≡ Some t → (n ≡ t % 2 ^ 64 → (value : T)
      × (w ≡ (record m.0 { turn = true; own = known m.0.own.number (entries value) m.0.own.mine }, (0, Some value) ∷ m.1))
      × StartsWith (entries value) m.0.own.seen × (m.0.base ≡ Some (base_of value)) × IsLegalFor m.0.start (known m.0.own.number (entries value) m.0.own.mine))
      × (n ≢ t % 2 ^ 64 → w ≡ m)

  -- The history is longer by one entry of this pass.
  abbrev pub counted : Option (ℕ × E) → Step (Option T) → Sat → ℕ → Sat → Type 0
  counted said st m n w = IfSome said (λ e. w ≡ (record m.0 { own = known m.0.own.number (m.0.own.seen ++ e ∷ []) (m.0.own.mine ++ e ∷ []) }, m.1))

  -- The turn was given up.
  abbrev pub left : Step (Option T) → Sat → ℕ → Sat → Type 0
  left st m n w = w ≡ (record m.0 { ticket = None; turn = false }, [])

-- ---- a seat outside a turn, one that waits, and one that has the turn
module _ {T B E : Type 0} where
  -- Whether the seat is outside a turn: it has no ticket, no turn and no value.
  pub record IsSeatIdle (m : Me (Option T) (View B E)) : Type 0 where
    pub ticket : m.0.ticket ≡ None
    pub turn : m.0.turn ≡ false
    pub carries : m.1 ≡ []

  -- Whether the seat is `v` waiting with a ticket that equals `ticket` modulo 2 ^ 64.
  pub record Waits (ticket : ℕ) (v : View B E) (m : Me (Option T) (View B E)) : Type 0 where
    pub number : ℕ
    pub ticket_is : ticket ≡ number % 2 ^ 64
    pub is : m ≡ (record v { ticket = Some number }, [])

  -- Whether the seat has the turn, with a ticket that equals `ticket` modulo 2 ^ 64, and the value is out with it.
  pub record IsSeatInTurn (ticket : ℕ) (m : Me (Option T) (View B E)) : Type 0 where
    pub number : ℕ
    pub ticket_is : ticket ≡ number % 2 ^ 64
    pub ticket_of : m.0.ticket ≡ Some number
    pub turn : m.0.turn ≡ true
    pub carries : m.1 ≡ (0, None) ∷ []

-- Whether the number p is in the list.
abbrev pub Knows : ℕ → List ℕ → Type 0
Knows p [] = ⊥
Knows p (k ∷ ks) = (k ≡ p) ⊎ Knows p ks

-- Whether the knowledge of a pass is right at the end: it has seen a beginning of the history, and its own entries are those with
-- its number after the start.
pub record IsKnownAs {E : Type 0} (start tail : List (ℕ × E)) (k : PassKnowledge E) : Type 0 where
  pub prefix : StartsWith (start ++ tail) k.seen
  pub mine : by k.number tail ≡ k.mine

-- Whether this is the history of a closed lock with `n` passes, all of them known: it begins with the first history, and each later
-- entry has the number of a pass.
pub record IsClosedHistory {E : Type 0} (n : ℕ) (start log : List (ℕ × E)) (passes : List (PassKnowledge E)) : Type 0 where
  pub tail : List (ℕ × E)
  pub log_is : log ≡ start ++ tail
  pub authors : AllOf (λ e. e.0 < n) tail
  pub known_as : AllOf (IsKnownAs start tail) passes
  -- for any weight, the entries after the first history weigh as much as the passes' own entries together: each entry belongs to
  -- one pass, once
  pub once : (weight : ℕ × E → ℕ) → total_weight weight tail ≡ total_weight (λ k. total_weight weight k.mine) passes

-- Whether the first pass counts the passes that were made, and there are `n` of them.
abbrev pub CountsPasses : ℕ → List (Option ℕ) → Type 0
CountsPasses n [] = ⊥
CountsPasses n (o ∷ os) = o ≡ Some n
