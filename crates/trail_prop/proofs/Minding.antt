-- For `watching`: what each change keeps of the invariant.
use Rattle.std.proofs.Common.{◌≡◌, ◌≢◌, ℕ, ◌+◌, ◌-◌, ◌<◌, ◌≤◌, false, ◌==◌, List, [], ◌∷◌, ◌++◌, length, get_or, refl, sym, ap, ◌∙◌, subst, inl, inr, ◌⊎◌, arith, length-append, length-set, eq-eqb}
use Rattle.std.specs.Prelude.{slice_set, swap_remove}
use Rattle.std.specs.List.{All}
use Rattle.std.proofs.lemmas.List.{get_or_append_left, get_or-set_same, get_or-set_other}
use Rattle.std.proofs.lemmas.List.Elements.{All-push, All-set, All-weaker}
use Rattle.clause_db.specs.declared.lit.Lit.{Lit}
use Rattle.clause_db.specs.Clauses.{LitWithin}
use Rattle.clause_db.specs.Clause.{code_of}
use Rattle.trail_prop.specs.declared.entry.TrailEntry.{TrailEntry}
use Rattle.trail_prop.specs.declared.watch_update.WatchPlaces.{WatchPlaces}
use Rattle.trail_prop.specs.declared.watches.Watch.{Watch}
use Rattle.trail_prop.specs.Open.{LitsWithin}
use Rattle.trail_prop.specs.Steps.{with_trail, with_watch_list}
use Rattle.trail_prop.specs.Watching.{lit_at, clause_of, watches_at, places_of, IsFixed, IsSafe, watches_of, IsGuarded, IsWatched, WatchFits, WatchView, pending_count, IsNumber, AreClauseNumbers, IsWatchOf, IsWatchInvariant}
use Rattle.trail_prop.proofs.Counting.{count-push, count-pushed, count-set, count-removed, all-removed, not-same}
use Rattle.trail_prop.proofs.Safety.{safe-grows, fixed-grows, safe-cut, fixed-cut}
use Rattle.clause_db.proofs.Literals.{code-is, code-below}

pub same-or-not : (m n : ℕ) → (m ≡ n) ⊎ (m ≢ n)
same-or-not m n = grind arith

-- the clause is pending, true at level 0, or watched
abbrev pub Minds : List TrailEntry → ℕ → List (List Watch) → List ℕ → ℕ → List Lit → WatchPlaces → Type 0
Minds entries head lists pending k clause p = (0 < pending_count (k + 1) pending) ⊎ (IsFixed entries clause ⊎ IsWatched entries head lists (k + 1) clause p)

pub minds-safe : (es es' : List TrailEntry) (head head' : ℕ) (lists : List (List Watch)) (pending : List ℕ) (k : ℕ) (clause : List Lit) (p : WatchPlaces) → (IsFixed es clause → IsFixed es' clause) → ((i : ℕ) → IsGuarded es head lists (k + 1) clause i → IsSafe es' head' clause (lit_at clause i)) → Minds es head lists pending k clause p → Minds es' head' lists pending k clause p
minds-safe es es' head head' lists pending k clause p f s m = elim m [
  | inl w ↦ inl w
  | inr r ↦ inr (elim r [
    | inl x ↦ inl (f x)
    | inr w ↦ inr (record {
      first = record { within = w.first.within; safe = s p.first w.first; held = w.first.held };
      second = record { within = w.second.within; safe = s p.second w.second; held = w.second.held };
      apart = w.apart;
    })
  ])
]

pub minds-more : (es : List TrailEntry) (head : ℕ) (lists lists' : List (List Watch)) (pending pending' : List ℕ) (k : ℕ) (clause : List Lit) (p p' : WatchPlaces) → pending_count (k + 1) pending ≤ pending_count (k + 1) pending' → ((m : Lit) → watches_of (k + 1) (watches_at lists m) ≤ watches_of (k + 1) (watches_at lists' m)) → p' ≡ p → Minds es head lists pending k clause p → Minds es head lists' pending' k clause p'
minds-more es head lists lists' pending pending' k clause p p' w f e m = elim m [
  | inl h ↦ inl (omega arith)
  | inr r ↦ inr (elim r [
    | inl x ↦ inl x
    | inr g ↦ inr (subst (λ (q : WatchPlaces). IsWatched es head lists' (k + 1) clause q) (sym e) (record {
      first = record { within = g.first.within; safe = g.first.safe; held = omega (arith, f (lit_at clause p.first), g.first.held) };
      second = record { within = g.second.within; safe = g.second.safe; held = omega (arith, f (lit_at clause p.second), g.second.held) };
      apart = g.apart;
    }))
  ])
]

-- the trail grows, or is cut
pub watchful-grown : (v : WatchView) (more : List TrailEntry) → IsWatchInvariant v → IsWatchInvariant (with_trail v (record { clauses = v.trail.clauses; entries = v.trail.entries ++ more }))
watchful-grown v more h = record {
  small = h.small;
  within = h.within;
  head = omega (arith, length-append v.trail.entries more, h.head);
  sized = h.sized;
  listed = h.listed;
  numbers = h.numbers;
  fits = h.fits;
  accounted_for = λ k b. let c = clause_of v.trail.clauses.list k in minds-safe v.trail.entries (v.trail.entries ++ more) v.head v.head v.lists v.pending k c (places_of v.places k) (fixed-grows v.trail.entries more c) (λ i g. safe-grows v.trail.entries more v.head c (lit_at c i) h.head g.safe) (h.accounted_for k b);
}

pub watchful-cut : (v : WatchView) (later gone : List TrailEntry) (level now : ℕ) → IsWatchInvariant v → v.trail.entries ≡ later ++ gone → All (λ (e : TrailEntry). e.level ≤ level) later → All (λ (e : TrailEntry). level < e.level) gone → now ≤ v.head → now ≤ length later → IsWatchInvariant (record { trail = record { clauses = v.trail.clauses; entries = later }; lists = v.lists; places = v.places; pending = v.pending; head = now })
watchful-cut v later gone level now h e low high m n = record {
  small = h.small;
  within = h.within;
  head = n;
  sized = h.sized;
  listed = h.listed;
  numbers = h.numbers;
  fits = h.fits;
  accounted_for = λ k b. let c = clause_of v.trail.clauses.list k in minds-safe v.trail.entries later v.head now v.lists v.pending k c (places_of v.places k) (λ f. fixed-cut later gone level c high (subst (λ (es : List TrailEntry). IsFixed es c) e f)) (λ i g. safe-cut later gone level v.head now c (lit_at c i) low high m n (subst (λ (es : List TrailEntry). IsSafe es v.head c (lit_at c i)) e g.safe)) (h.accounted_for k b);
}

-- a clause is added
list-left : (list : List (List Lit)) (clause : List Lit) (k : ℕ) → k < length list → clause_of (list ++ clause ∷ []) k ≡ clause_of list k
list-left list clause k b = get_or_append_left list (clause ∷ []) [] k b

fits-longer : (list : List (List Lit)) (clause : List Lit) (l : Lit) (w : Watch) → WatchFits list l w → WatchFits (list ++ clause ∷ []) l w
fits-longer list clause l w f =
    let one = f.from_one in
    let last = f.to_last in
    let same = list-left list clause (w.clause - 1) (omega arith) in
    record {
      from_one = f.from_one;
      to_last = omega (arith, length-append list (clause ∷ []), f.to_last);
      blocks = rw same f.blocks;
      pairs = rw same f.pairs;
    }

pub watchful-added : (v : WatchView) (clause : List Lit) (p : WatchPlaces) (n : ℕ) → IsWatchInvariant v → LitsWithin v.trail.clauses.vars clause → n ≡ length v.trail.clauses.list + 1 → IsWatchInvariant (record { trail = record { clauses = record { vars = v.trail.clauses.vars; list = v.trail.clauses.list ++ clause ∷ [] }; entries = v.trail.entries }; lists = v.lists; places = v.places ++ p ∷ []; pending = v.pending ++ n ∷ []; head = v.head })
watchful-added v clause p n h x e =
    let list = v.trail.clauses.list in
    let longer = length-append list (clause ∷ []) in
    let more : AreClauseNumbers (length (list ++ clause ∷ [])) v.pending = All-weaker (IsNumber (length list)) (IsNumber (length (list ++ clause ∷ []))) (λ m b. let t = b.to_last in record { from_one = b.from_one; to_last = omega arith }) v.pending h.numbers in
    record {
      small = h.small;
      within = All-push (λ (c : List Lit). All (LitWithin v.trail.clauses.vars) c) v.trail.clauses.list clause h.within x;
      head = h.head;
      sized = omega (arith, longer, length-append v.places (p ∷ []), h.sized);
      listed = h.listed;
      numbers = All-push (IsNumber (length (list ++ clause ∷ []))) v.pending n more (record { from_one = omega arith; to_last = omega arith });
      fits = λ l w. All-weaker (WatchFits list l) (WatchFits (list ++ clause ∷ []) l) (λ x. fits-longer list clause l x) (watches_at v.lists l) (h.fits l w);
      accounted_for = λ k b. elim (split k (length list)) [
        | inl old ↦
            let there : k < length v.places = omega (arith, h.sized) in
            rw (list-left list clause k old) (minds-more v.trail.entries v.head v.lists v.lists v.pending (v.pending ++ n ∷ []) k (clause_of list k) (places_of v.places k) (places_of (v.places ++ p ∷ []) k) (count-push (λ (m : ℕ). m == k + 1) v.pending n) (λ m. omega arith) (get_or_append_left v.places (p ∷ []) (record { first = 0; second = 0 }) k there) (h.accounted_for k old))
        | inr new ↦
            let same : n ≡ k + 1 = omega arith in
            inl (count-pushed (λ (m : ℕ). m == k + 1) v.pending n (eq-eqb n (k + 1) same))
      ];
    }
  where
    split : (j n : ℕ) → (j < n) ⊎ (n ≤ j)
    split j n = grind arith

-- the watches of one literal change
at-code : (lists : List (List Watch)) (c d : ℕ) (ws : List Watch) (P : List Watch → Type 0) → c < length lists → (d ≡ c → P ws) → (d ≢ c → P (get_or lists d [])) → P (get_or (slice_set lists c ws) d [])
at-code lists c d ws P b same other = elim (same-or-not d c) [
  | inl e ↦ subst (λ (n : ℕ). P (get_or (slice_set lists c ws) n [])) (sym e) (subst P (sym (get_or-set_same lists c ws [] b)) (same e))
  | inr n ↦ subst P (sym (get_or-set_other lists c d ws [] n)) (other n)
]

pub relisted-same : (lists : List (List Watch)) (l : Lit) (ws : List Watch) → code_of l < length lists → watches_at (slice_set lists (code_of l) ws) l ≡ ws
relisted-same lists l ws b = get_or-set_same lists (code_of l) ws [] b

pub relisted-other : (lists : List (List Watch)) (l m : Lit) (ws : List Watch) → code_of m ≢ code_of l → watches_at (slice_set lists (code_of l) ws) m ≡ watches_at lists m
relisted-other lists l m ws n = get_or-set_other lists (code_of l) (code_of m) ws [] n

pub relisted-more : (lists : List (List Watch)) (l : Lit) (ws : List Watch) (n : ℕ) → code_of l < length lists → watches_of n (watches_at lists l) ≤ watches_of n ws → (m : Lit) → watches_of n (watches_at lists m) ≤ watches_of n (watches_at (slice_set lists (code_of l) ws) m)
relisted-more lists l ws n b h m =
    at-code lists (code_of l) (code_of m) ws (λ (z : List Watch). watches_of n (watches_at lists m) ≤ watches_of n z) b
    (λ e. subst (λ (c : ℕ). watches_of n (get_or lists c []) ≤ watches_of n ws) (sym e) h)
    (λ d. omega arith)

pub relisted-fits : (vars : ℕ) (list : List (List Lit)) (lists : List (List Watch)) (l : Lit) (ws : List Watch) → code_of l < length lists → LitWithin vars l → All (WatchFits list l) ws → ((m : Lit) → LitWithin vars m → All (WatchFits list m) (watches_at lists m)) → (m : Lit) → LitWithin vars m → All (WatchFits list m) (watches_at (slice_set lists (code_of l) ws) m)
relisted-fits vars list lists l ws b w a f m x =
    at-code lists (code_of l) (code_of m) ws (λ (z : List Watch). All (WatchFits list m) z) b
    (λ e. subst (λ (k : Lit). All (WatchFits list k) ws) (sym (code-is vars m l x w e)) a)
    (λ d. f m x)

pub code-listed : (v : WatchView) (l : Lit) → IsWatchInvariant v → LitWithin v.trail.clauses.vars l → code_of l < length v.lists
code-listed v l h w = omega (arith, code-below v.trail.clauses.vars l w, h.listed)

-- other watches of a literal, no fewer of any clause
pub watchful-relisted : (v : WatchView) (l : Lit) (ws : List Watch) → IsWatchInvariant v → LitWithin v.trail.clauses.vars l → All (WatchFits v.trail.clauses.list l) ws → ((n : ℕ) → watches_of n (watches_at v.lists l) ≤ watches_of n ws) → IsWatchInvariant (with_watch_list v l ws)
watchful-relisted v l ws h w a more =
    let b = code-listed v l h w in
    record {
      small = h.small;
      within = h.within;
      head = h.head;
      sized = h.sized;
      listed = length-set v.lists (code_of l) ws ∙ h.listed;
      numbers = h.numbers;
      fits = relisted-fits v.trail.clauses.vars v.trail.clauses.list v.lists l ws b w a h.fits;
      accounted_for = λ k t. minds-more v.trail.entries v.head v.lists (slice_set v.lists (code_of l) ws) v.pending v.pending k (clause_of v.trail.clauses.list k) (places_of v.places k) (places_of v.places k) (omega arith) (relisted-more v.lists l ws (k + 1) b (more (k + 1))) refl (h.accounted_for k t);
    }

pub watchful-hung : (v : WatchView) (l : Lit) (w : Watch) → IsWatchInvariant v → LitWithin v.trail.clauses.vars l → WatchFits v.trail.clauses.list l w → IsWatchInvariant (with_watch_list v l (watches_at v.lists l ++ w ∷ []))
watchful-hung v l w h x f = watchful-relisted v l (watches_at v.lists l ++ w ∷ []) h x (All-push (WatchFits v.trail.clauses.list l) (watches_at v.lists l) w (h.fits l x) f) (λ n. count-push (λ (y : Watch). y.clause == n) (watches_at v.lists l) w)

pub watchful-put : (v : WatchView) (l : Lit) (at : ℕ) (w : Watch) → IsWatchInvariant v → IsWatchOf v l at w.clause → WatchFits v.trail.clauses.list l w → IsWatchInvariant (with_watch_list v l (slice_set (watches_at v.lists l) at w))
watchful-put v l at w h stands f =
    watchful-relisted v l (slice_set (watches_at v.lists l) at w) h stands.within (All-set (WatchFits v.trail.clauses.list l) (watches_at v.lists l) at w f (h.fits l stands.within))
    (λ n. let same = count-set (λ (y : Watch). y.clause == n) (watches_at v.lists l) at w w stands.place (ap (λ (c : ℕ). c == n) (sym (stands.clause w))) in omega arith)

-- a watch is removed, and none of the others
pub others-stay : (ws : List Watch) (at n k : ℕ) (d : Watch) → at < length ws → (get_or ws at d).clause ≡ n → k + 1 ≢ n → watches_of (k + 1) ws ≤ watches_of (k + 1) (swap_remove ws at d)
others-stay ws at n k d b e o =
    let apart : ((get_or ws at d).clause == k + 1) ≡ false = ap (λ (c : ℕ). c == k + 1) e ∙ not-same n (k + 1) (λ q. o (sym q)) in
    let same = count-removed (λ (y : Watch). y.clause == k + 1) ws at d b apart in
    omega arith

pub watchful-shelved : (v : WatchView) (gone : Lit) (at n : ℕ) (d : Watch) → IsWatchInvariant v → IsWatchOf v gone at n → IsNumber (length v.trail.clauses.list) n → IsWatchInvariant (record { trail = v.trail; lists = slice_set v.lists (code_of gone) (swap_remove (watches_at v.lists gone) at d); places = v.places; pending = v.pending ++ n ∷ []; head = v.head })
watchful-shelved v gone at n d h stands number =
    let w = stands.within in
    let b = stands.place in
    let e = stands.clause d in
    let c = code-listed v gone h w in
    let ws = watches_at v.lists gone in
    record {
      small = h.small;
      within = h.within;
      head = h.head;
      sized = h.sized;
      listed = length-set v.lists (code_of gone) (swap_remove ws at d) ∙ h.listed;
      numbers = All-push (IsNumber (length v.trail.clauses.list)) v.pending n h.numbers number;
      fits = relisted-fits v.trail.clauses.vars v.trail.clauses.list v.lists gone (swap_remove ws at d) c w (all-removed (WatchFits v.trail.clauses.list gone) ws at d b (h.fits gone w)) h.fits;
      accounted_for = λ k t. elim (same-or-not (k + 1) n) [
        | inl s ↦ inl (count-pushed (λ (m : ℕ). m == k + 1) v.pending n (eq-eqb n (k + 1) (sym s)))
        | inr o ↦ minds-more v.trail.entries v.head v.lists (slice_set v.lists (code_of gone) (swap_remove ws at d)) v.pending (v.pending ++ n ∷ []) k (clause_of v.trail.clauses.list k) (places_of v.places k) (places_of v.places k) (count-push (λ (m : ℕ). m == k + 1) v.pending n) (relisted-more v.lists gone (swap_remove ws at d) (k + 1) c (others-stay ws at n k d b e o)) refl (h.accounted_for k t)
      ];
    }
