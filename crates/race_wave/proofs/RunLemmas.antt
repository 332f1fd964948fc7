-- The workers of a wave, before and after it.
use Rattle.std.proofs.Common.{◌≡◌, ◌∙◌, ℕ, zero, suc, ◌+◌, ◌<◌, ◌≤◌, List, [], ◌∷◌, ◌++◌, append-nil, length, map, take, drop, get_or, Some, refl, sym, ap, subst, arith, All}
use Rattle.std.specs.Prelude.{Err, IfOk, Ok, Result, slice_get}
use Rattle.std.specs.List.{AllZip}
use Rattle.std.proofs.lemmas.Option.{slice_get-get_or}
use mathlib.Core.Logic.{dite}
use native.Mathlib.Decide.{ℕ_discrete}
use Rattle.pack_defs.specs.declared.worker.Worker.{Worker}
use Rattle.auction_core.specs.QuerySession.{QuerySessionView}
use Rattle.auction_core.specs.Replay.{EntryView}
use Rattle.turn_lock.specs.declared.chronicle.PassKnowledge.{PassKnowledge}
use Rattle.turn_lock.specs.Passes.{IsPassIdle, PassStandsAt, known_of, pass_number, pass_identity}
use Rattle.turn_lock.specs.Turns.{AllOf, each_new, known}
use Rattle.answer_board.specs.contracts.kept.KeptChronicle.TheImpl.{ghosts}
use Rattle.answer_board.specs.declared.board.Board.{Board}
use Rattle.answer_board.specs.declared.kept.Kept.{Kept}
use Rattle.turn_lock.specs.declared.lock.Pass.{Pass}
use Rattle.auction_core.specs.Auction.{AuctionView}
use Rattle.answer_board.specs.Boards.{AreAllOn, IsPassOn, kept_base, kept_entries, raised}
use Rattle.answer_board.specs.Entries.{numbered}
use Rattle.turn_lock.proofs.Lists.{length_map}
use Rattle.turn_lock.proofs.Makes.{map_again}
use Rattle.turn_lock.proofs.PassLists.{all_at}
use Rattle.race_wave.specs.declared.runner.Runner.{Runner}
use Rattle.race_wave.specs.Wave.{HasRaced, IsRunner}

-- ---- lists

get-map : {X Y : Type 0} (f : X → Y) (xs : List X) (i : ℕ) (d : X) → get_or (map f xs) i (f d) ≡ f (get_or xs i d)
get-map f [] i d = refl
get-map f (x ∷ xs) zero d = refl
get-map f (x ∷ xs) (suc i) d = get-map f xs i d

-- The images of a list, one by one.
pub image-at : {X Y : Type 0} (f : X → Y) (xs : List X) (ys : List Y) (i : ℕ) (d : X) → map f xs ≡ ys → i < length ys → slice_get ys i ≡ Some (f (get_or xs i d))
image-at f xs ys i d e lt =
    subst (λ l. slice_get l i ≡ Some (f (get_or xs i d))) e (slice_get-get_or (map f xs) i (f d) (subst (λ l. i < length l) (sym e) lt) ∙ ap (λ x. Some x) (get-map f xs i d))

get-left : {X : Type 0} (xs ys : List X) (i : ℕ) (d : X) → i < length xs → get_or (xs ++ ys) i d ≡ get_or xs i d
get-left [] ys i d lt = absurd (omega arith)
get-left (x ∷ xs) ys zero d lt = refl
get-left (x ∷ xs) ys (suc i) d lt = get-left xs ys i d (omega arith)

get-last : {X : Type 0} (xs : List X) (y d : X) → get_or (xs ++ y ∷ []) (length xs) d ≡ y
get-last [] y d = refl
get-last (x ∷ xs) y d = get-last xs y d

long-new : (start : List (ℕ × EntryView)) (n : ℕ) → length (each_new start n) ≡ n
long-new start zero = refl
long-new start (suc n) = long-more (each_new start n) (known n start []) ∙ ap suc (long-new start n)
  where
    long-more : {A : Type 0} (xs : List A) (x : A) → length (xs ++ x ∷ []) ≡ suc (length xs)
    long-more [] x = refl
    long-more (y ∷ ys) x = ap suc (long-more ys x)

pub new-many : {X : Type 0} (f : X → PassKnowledge EntryView) (xs : List X) (start : List (ℕ × EntryView)) (n : ℕ) → map f xs ≡ each_new start n → length xs ≡ n
new-many f xs start n e = sym (length_map f xs) ∙ (ap length e ∙ long-new start n)

-- The new pass at a place has the place as its number.
new-at : (start : List (ℕ × EntryView)) (n i : ℕ) (d : PassKnowledge EntryView) → i < n → (get_or (each_new start n) i d).number ≡ i
new-at start zero i d lt = absurd (omega arith)
new-at start (suc n) i d lt = dite (ℕ_discrete i n)
    (λ e. ap (λ (k : ℕ). (get_or (each_new start n ++ known n start [] ∷ []) k d).number) (e ∙ sym (long-new start n)) ∙ (ap (λ (k : PassKnowledge EntryView). k.number) (get-last (each_new start n) (known n start []) d) ∙ sym e))
    (λ ne. let below : i < n = omega arith in
    let long = long-new start n in
    ap (λ (k : PassKnowledge EntryView). k.number) (get-left (each_new start n) (known n start [] ∷ []) i d (omega arith)) ∙ new-at start n i d below)

take-left : {X : Type 0} (xs ys : List X) → take (length xs) (xs ++ ys) ≡ xs
take-left [] ys = refl
take-left (x ∷ xs) ys = ap (λ l. x ∷ l) (take-left xs ys)

-- A list that was changed in place throughout.
pub spliced : {X : Type 0} (n : ℕ) (xs ys zs : List X) → n ≡ length xs → length ys ≡ length xs → take n (ys ++ zs) ≡ ys
spliced n xs ys zs e f = ap (λ k. take k (ys ++ zs)) (e ∙ sym f) ∙ take-left ys zs

-- A property of a value holds for a result that is the value.
pub ok-gives : {A E : Type 0} (v : A) (r : Result A E) (P : A → Type 0) → P v → IfOk r (λ x. x ≡ v) → IfOk r P
ok-gives v (Ok x) P h is = subst P (sym is) h
ok-gives v (Err e) P h is = is

-- A list that was lent and whose elements have the same images as before.
pub turned-list : {X Y : Type 0} (f : X → Y) (n : ℕ) (xs ys : List X) → n ≡ length xs → map f ys ≡ map f xs → take n (ys ++ drop (length ys) xs) ≡ ys
turned-list f n xs ys e h = spliced n xs ys (drop (length ys) xs) e (sym (length_map f ys) ∙ (ap (λ l. length l) h ∙ length_map f xs))

module _ {R : Type 0} (w : R → Worker) (board : Board) where
  -- The passes of a new board, each with the racer of its worker.
  pub runners-of : (start : List (ℕ × EntryView)) (n : ℕ) (workers : List Worker) (xs : List (Runner R))
      → AreAllOn board (map pass_identity (map (λ r. r.pass) xs)) → AllOf IsPassIdle (map (λ r. r.pass) xs) → map known_of (map (λ r. r.pass) xs) ≡ each_new start n → map w (map (λ r. r.racer) xs) ≡ workers → (raised board).scenario.workers ≡ workers
      → All (λ r. IsRunner board r.pass (w r.racer)) xs
  runners-of start n workers xs all idle new racers of k d lt =
      let r : Runner R = get_or xs k d in
      let own : AllOf (λ (x : Runner R). IsPassOn board x.pass) xs = all-from xs all.own in
      let rest : AllOf (λ (x : Runner R). IsPassIdle x.pass) xs = idle-from xs idle in
      let knowns : map (λ (x : Runner R). known_of x.pass) xs ≡ each_new start n = sym (map_again (λ (x : Runner R). x.pass) known_of xs) ∙ new in
      let many : length xs ≡ n = sym (length_map (λ (x : Runner R). known_of x.pass) xs) ∙ (ap length knowns ∙ long-new start n) in
      let number : pass_number r.pass ≡ k = ap (λ (x : PassKnowledge EntryView). x.number) (sym (get-map (λ (x : Runner R). known_of x.pass) xs k d)) ∙ (ap (λ l. (get_or l k (known_of d.pass)).number) knowns ∙ new-at start n k (known_of d.pass) (omega arith)) in
      let mine : map (λ (x : Runner R). w x.racer) xs ≡ (raised board).scenario.workers = sym (map_again (λ (x : Runner R). x.racer) w xs) ∙ (racers ∙ sym of) in
      let at : slice_get (map (λ (x : Runner R). w x.racer) xs) k ≡ Some (w r.racer) = slice_get-get_or (map (λ (x : Runner R). w x.racer) xs) k (w d.racer) (let long = length_map (λ (x : Runner R). w x.racer) xs in omega arith) ∙ ap (λ x. Some x) (get-map (λ (x : Runner R). w x.racer) xs k d) in
      record {
        own = all_at (λ (x : Runner R). IsPassOn board x.pass) xs k d own lt;
        idle = all_at (λ (x : Runner R). IsPassIdle x.pass) xs k d rest lt;
        of = ap (slice_get (raised board).scenario.workers) number ∙ (ap (λ l. slice_get l k) (sym mine) ∙ at);
      }
    where
      all-from : (ys : List (Runner R)) → AllOf (PassStandsAt kept_base kept_entries board.lock) (map pass_identity (map (λ r. r.pass) ys)) → AllOf (λ (x : Runner R). IsPassOn board x.pass) ys
      all-from [] h = tt
      all-from (y ∷ ys) h = (h.0, all-from ys h.1)

      idle-from : (ys : List (Runner R)) → AllOf IsPassIdle (map (λ r. r.pass) ys) → AllOf (λ (x : Runner R). IsPassIdle x.pass) ys
      idle-from [] h = tt
      idle-from (y ∷ ys) h = (h.0, idle-from ys h.1)

  -- What a wave does not change.
  pub raced-standing : (xs ys : List (Runner R)) → AllZip (HasRaced w board) xs ys → map pass_identity (map (λ r. r.pass) ys) ≡ map pass_identity (map (λ r. r.pass) xs)
  raced-standing [] [] h = refl
  raced-standing [] (y ∷ ys) h = absurd h
  raced-standing (x ∷ xs) [] h = absurd h
  raced-standing (x ∷ xs) (y ∷ ys) h = cong-cons h.0.same.stands (raced-standing xs ys h.1)
    where
      cong-cons : {A : Type 0} {a b : A} {l m : List A} → a ≡ b → l ≡ m → a ∷ l ≡ b ∷ m
      cong-cons e f = λ i. e i ∷ f i

  pub raced-workers : (xs ys : List (Runner R)) → AllZip (HasRaced w board) xs ys → map w (map (λ r. r.racer) ys) ≡ map w (map (λ r. r.racer) xs)
  raced-workers [] [] h = refl
  raced-workers [] (y ∷ ys) h = absurd h
  raced-workers (x ∷ xs) [] h = absurd h
  raced-workers (x ∷ xs) (y ∷ ys) h = let e = h.0.worker in let f = raced-workers xs ys h.1 in λ i. e i ∷ f i

  pub raced-idle : (xs ys : List (Runner R)) → AllZip (HasRaced w board) xs ys → AllOf IsPassIdle (map (λ r. r.pass) ys)
  raced-idle [] [] h = tt
  raced-idle [] (y ∷ ys) h = absurd h
  raced-idle (x ∷ xs) [] h = absurd h
  raced-idle (x ∷ xs) (y ∷ ys) h = (h.0.runner.idle, raced-idle xs ys h.1)

  pub raced-long : (xs ys : List (Runner R)) → AllZip (HasRaced w board) xs ys → length ys ≡ length xs
  raced-long [] [] h = refl
  raced-long [] (y ∷ ys) h = absurd h
  raced-long (x ∷ xs) [] h = absurd h
  raced-long (x ∷ xs) (y ∷ ys) h = ap suc (raced-long xs ys h.1)

-- ---- lists that are filled from another one

-- Nothing was moved yet.
pub put-none : {X Y : Type 0} (f : X → Y) (done : List Y) (rest all : List X) → done ≡ [] → rest ≡ all → done ++ map f rest ≡ map f all
put-none f done rest all e g = λ i. e i ++ map f (g i)

-- All was moved.
pub put-all : {X Y : Type 0} (f : X → Y) (done : List Y) (rest all : List X) (n : ℕ) → n ≡ length rest → n ≡ 0 → done ++ map f rest ≡ map f all → done ≡ map f all
put-all f done [] all n e z h = sym (append-nil done) ∙ h
put-all f done (x ∷ rest) all n e z h = absurd (omega (arith, e, z))

-- The capacity suffices for what is left.
pub room-none : {X Y : Type 0} (done : List Y) (rest all : List X) (n : ℕ) → done ≡ [] → rest ≡ all → length all ≤ n → length done + length rest ≤ n
room-none done rest all n e g h =
    let none : length done ≡ 0 = ap (λ l. length l) e in
    let same : length rest ≡ length all = ap (λ l. length l) g in
    omega (arith, none, same, h)

-- ---- over the passes of a board

abbrev BoardPass : Type 0
BoardPass = Pass Kept QuerySessionView EntryView ghosts

module _ {R : Type 0} (w : R → Worker) (board : Board) where
  -- The workers of a new board before the wave.
  pub before : (n : ℕ) (ps : List BoardPass) (rs : List R) (xs : List (Runner R))
      → AreAllOn board (map pass_identity ps) → AllOf IsPassIdle ps → map known_of ps ≡ each_new (numbered (raised board).history) n → map w rs ≡ (raised board).scenario.workers
      → map (λ (r : Runner R). r.pass) xs ≡ ps → map (λ (r : Runner R). r.racer) xs ≡ rs
      → All (λ r. IsRunner board r.pass (w r.racer)) xs
  before n ps rs xs all idle new racers passes solvers =
      runners-of w board (numbered (raised board).history) n (raised board).scenario.workers xs
      (subst (λ (l : List BoardPass). AreAllOn board (map pass_identity l)) (sym passes) all)
      (subst (λ (l : List BoardPass). AllOf IsPassIdle l) (sym passes) idle)
      (subst (λ (l : List BoardPass). map known_of l ≡ each_new (numbered (raised board).history) n) (sym passes) new)
      (ap (map w) solvers ∙ racers)
      refl

  pub as-many : (ps : List BoardPass) (n : ℕ) → map known_of ps ≡ each_new (numbered (raised board).history) n → length ps ≡ n
  as-many ps n e = new-many known_of ps (numbered (raised board).history) n e

  -- The workers after the wave, in the list that was lent to it.
  pub after-wave : (n : ℕ) (xs zs ys rest : List (Runner R)) → n ≡ length xs → zs ≡ xs → AllZip (HasRaced w board) zs ys
      → (AllZip (HasRaced w board) xs (take n (ys ++ rest))) × (take n (ys ++ rest) ≡ ys)
  after-wave n xs zs ys rest long same raced =
      let zip : AllZip (HasRaced w board) xs ys = subst (λ (l : List (Runner R)). AllZip (HasRaced w board) l ys) same raced in
      let is : take n (ys ++ rest) ≡ ys = spliced n xs ys rest long (raced-long w board xs ys zip) in
      (subst (λ (l : List (Runner R)). AllZip (HasRaced w board) xs l) (sym is) zip, is)

  -- The wave keeps their number.
  pub after-many : (rs : List R) (xs ys : List (Runner R)) → map (λ (r : Runner R). r.racer) xs ≡ rs → AllZip (HasRaced w board) xs ys → length ys ≡ length rs
  after-many rs xs ys solvers raced =
      raced-long w board xs ys raced ∙ (sym (length_map (λ (r : Runner R). r.racer) xs) ∙ ap (λ (l : List R). length l) solvers)

  -- The wave keeps all passes.
  pub after-all : (ps ls : List BoardPass) (xs ys : List (Runner R)) → AreAllOn board (map pass_identity ps)
      → map (λ (r : Runner R). r.pass) xs ≡ ps → AllZip (HasRaced w board) xs ys → ls ≡ map (λ (r : Runner R). r.pass) ys
      → AreAllOn board (map pass_identity ls)
  after-all ps ls xs ys all passes raced left =
      let e : map pass_identity ls ≡ map pass_identity ps = ap (λ (l : List BoardPass). map pass_identity l) left ∙ (raced-standing w board xs ys raced
      ∙ ap (λ (l : List BoardPass). map pass_identity l) passes) in
      subst (λ ss. AreAllOn board ss) (sym e) all

  pub after-idle : (ls : List BoardPass) (xs ys : List (Runner R)) → AllZip (HasRaced w board) xs ys → ls ≡ map (λ (r : Runner R). r.pass) ys → AllOf IsPassIdle ls
  after-idle ls xs ys raced left = subst (λ (l : List BoardPass). AllOf IsPassIdle l) (sym left) (raced-idle w board xs ys raced)

  pub after-workers : (rs ls : List R) (xs ys : List (Runner R)) → map (λ (r : Runner R). r.racer) xs ≡ rs → AllZip (HasRaced w board) xs ys → ls ≡ map (λ (r : Runner R). r.racer) ys → map w ls ≡ map w rs
  after-workers rs ls xs ys solvers raced left =
      ap (map w) left ∙ (raced-workers w board xs ys raced ∙ ap (map w) solvers)

-- The passes of a new board.
pub new-passes : (made auction : AuctionView) (ks : List (PassKnowledge EntryView)) (n m : ℕ) → ks ≡ each_new (numbered auction.history) n → n ≡ m → made ≡ auction → ks ≡ each_new (numbered made.history) m
new-passes made auction ks n m e same over = e ∙ (ap (λ k. each_new (numbered auction.history) k) same ∙ ap (λ (a : AuctionView). each_new (numbered a.history) m) (sym over))

-- There are as many workers as racers.
pub as-many-workers : {R : Type 0} (w : R → Worker) (rs : List R) (workers : List Worker) → map w rs ≡ workers → length workers ≡ length rs
as-many-workers w rs workers e = sym (ap (λ (l : List Worker). length l) e) ∙ length_map w rs
