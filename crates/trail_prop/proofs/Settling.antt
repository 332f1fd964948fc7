-- What stays true when a clause is watched at other places or is no longer pending, and what holds at the end.
use Rattle.std.proofs.Common.{◌≡◌, ◌≢◌, ℕ, zero, ◌+◌, ◌-◌, ◌*◌, ◌<◌, ◌≤◌, true, false, ◌==◌, suc, ◌^◌, List, [], ◌∷◌, ◌++◌, length, take, get_or, replicate, refl, sym, ap, ◌∙◌, subst, inl, inr, arith, length-set, eqb-true, eq-eqb}
use Rattle.std.specs.Prelude.{slice_set, swap_remove}
use Rattle.std.specs.List.{All}
use Rattle.std.proofs.lemmas.Bool.{false≢true}
use Rattle.std.proofs.lemmas.List.{get_or_default, get_or-set_same, get_or-set_other}
use Rattle.std.proofs.lemmas.List.Elements.{All-nil, All-push, All-weaker}
use Rattle.clause_db.specs.declared.lit.Lit.{Lit}
use Rattle.clause_db.specs.Clause.{opposite, has_lit, code_of}
use Rattle.clause_db.specs.Clauses.{Clauses, LitWithin, ClausesWithin}
use Rattle.trail_prop.specs.declared.entry.TrailEntry.{TrailEntry}
use Rattle.trail_prop.specs.declared.watch_update.Moved.{Moved}
use Rattle.trail_prop.specs.declared.watch_update.WatchPlaces.{WatchPlaces}
use Rattle.trail_prop.specs.declared.watches.Watch.{Watch}
use Rattle.trail_prop.specs.Entries.{lits_of, EachOpens, IsTrailEntry}
use Rattle.trail_prop.specs.Open.{IsClauseSettled, IsComplete}
use Rattle.trail_prop.specs.Steps.{IsWatchHeld, Shrinks}
use Rattle.trail_prop.specs.WatchUpdate.{IsWatchMove, IsOneOf}
use Rattle.trail_prop.specs.Watching.{lit_at, clause_of, watches_at, places_of, IsHeadOpposite, HasTrue, IsFixed, IsSafe, watches_of, IsGuarded, IsWatched, WatchFits, WatchView, pending_count, IsNumber, IsWatchOf, IsPendingAt, AllPending, IsWatchInvariant}
use Rattle.trail_prop.proofs.Counting.{count-push, count-pushed, take-removed, length-removed, count-removed, found, all-removed, not-same}
use Rattle.trail_prop.proofs.Minding.{Minds, minds-safe, minds-more, others-stay, relisted-same, relisted-other, relisted-more, relisted-fits, code-listed, same-or-not}
use Rattle.trail_prop.proofs.Safety.{safe-open, safe-step, safe-other, opposite-twice, true-settled, fixed-true, watched-settled}
use Rattle.clause_db.proofs.Literals.{code-is}

-- a clause watches another literal
guard-stays : (es : List TrailEntry) (head : ℕ) (lists : List (List Watch)) (gone : Lit) (ws : List Watch) (n : ℕ) (clause : List Lit) (i : ℕ) → code_of (lit_at clause i) ≢ code_of gone → IsGuarded es head lists n clause i → IsGuarded es head (slice_set lists (code_of gone) ws) n clause i
guard-stays es head lists gone ws n clause i apart g = record {
  within = g.within;
  safe = g.safe;
  held = subst (λ (z : List Watch). 0 < watches_of n z) (sym (relisted-other lists gone (lit_at clause i) ws apart)) g.held;
}

guard-new : (es : List TrailEntry) (head : ℕ) (lists : List (List Watch)) (gone : Lit) (ws : List Watch) (n : ℕ) (clause : List Lit) (i : ℕ) → code_of (lit_at clause i) ≢ code_of gone → i < length clause → has_lit (lits_of es) (opposite (lit_at clause i)) ≡ false → 0 < watches_of n (watches_at lists (lit_at clause i)) → IsGuarded es head (slice_set lists (code_of gone) ws) n clause i
guard-new es head lists gone ws n clause i apart b f h = record {
  within = b;
  safe = safe-open es head clause (lit_at clause i) f;
  held = subst (λ (z : List Watch). 0 < watches_of n z) (sym (relisted-other lists gone (lit_at clause i) ws apart)) h;
}

guard-old : (es : List TrailEntry) (head : ℕ) (lists : List (List Watch)) (n : ℕ) (clause : List Lit) (p : WatchPlaces) (i : ℕ) → IsOneOf i p → IsWatched es head lists n clause p → IsGuarded es head lists n clause i
guard-old es head lists n clause p i o w = elim o [
  | inl e ↦ subst (λ (j : ℕ). IsGuarded es head lists n clause j) (sym e) w.first
  | inr e ↦ subst (λ (j : ℕ). IsGuarded es head lists n clause j) (sym e) w.second
]

moved-minds : (vars : ℕ) (es : List TrailEntry) (head : ℕ) (lists : List (List Watch)) (gone : Lit) (ws : List Watch) (pending : List ℕ) (k : ℕ) (clause : List Lit) (p : WatchPlaces) (m : Moved) → LitWithin vars gone → LitWithin vars m.lit → LitWithin vars m.other → has_lit (lits_of es) (opposite gone) ≡ true → IsWatchMove (lits_of es) clause p gone m → 0 < watches_of (k + 1) (watches_at lists m.lit) → Minds es head lists pending k clause p → Minds es head (slice_set lists (code_of gone) ws) pending k clause m.places
moved-minds vars es head lists gone ws pending k clause p m wg wl wo false' mv h old = elim old [
  | inl w ↦ inl w
  | inr r ↦ inr (elim r [
    | inl f ↦ inl f
    | inr w ↦
        let new-apart : m.lit ≢ gone = λ e. false≢true (sym mv.not_false ∙ (ap (λ (l : Lit). has_lit (lits_of es) (opposite l)) e ∙ false')) in
        let first-apart : code_of (lit_at clause m.places.first) ≢ code_of gone = λ e. new-apart (code-is vars m.lit gone wl wg (ap (λ (l : Lit). code_of l) mv.lit ∙ e)) in
        let second-apart : code_of (lit_at clause m.places.second) ≢ code_of gone = λ e. mv.stays (code-is vars m.other gone wo wg (ap (λ (l : Lit). code_of l) mv.other ∙ e)) in
        let open-first = ap (λ (l : Lit). has_lit (lits_of es) (opposite l)) (sym mv.lit) ∙ mv.not_false in
        let hung = subst (λ (l : Lit). 0 < watches_of (k + 1) (watches_at lists l)) mv.lit h in
        inr (record {
          first = guard-new es head lists gone ws (k + 1) clause m.places.first first-apart mv.new_within open-first hung;
          second = guard-stays es head lists gone ws (k + 1) clause m.places.second second-apart (guard-old es head lists (k + 1) clause p m.places.second mv.old w);
          apart = λ e. mv.apart (mv.lit ∙ (e ∙ sym mv.other));
        })
  ])
]

-- only its places change
placed-same : (places : List WatchPlaces) (k : ℕ) (p : WatchPlaces) → k < length places → places_of (slice_set places k p) k ≡ p
placed-same places k p b = get_or-set_same places k p (record { first = 0; second = 0 }) b

placed-other : (places : List WatchPlaces) (j k : ℕ) (p : WatchPlaces) → k ≢ j → places_of (slice_set places j p) k ≡ places_of places k
placed-other places j k p n = get_or-set_other places j k p (record { first = 0; second = 0 }) n

pub watchful-left : (v : WatchView) (gone : Lit) (at n : ℕ) (d : Watch) (m : Moved) → IsWatchInvariant v → IsWatchOf v gone at n → IsNumber (length v.trail.clauses.list) n → LitWithin v.trail.clauses.vars m.lit → LitWithin v.trail.clauses.vars m.other → has_lit (lits_of v.trail.entries) (opposite gone) ≡ true → IsWatchMove (lits_of v.trail.entries) (clause_of v.trail.clauses.list (n - 1)) (places_of v.places (n - 1)) gone m → 0 < watches_of n (watches_at v.lists m.lit) → IsWatchInvariant (record { trail = v.trail; lists = slice_set v.lists (code_of gone) (swap_remove (watches_at v.lists gone) at d); places = slice_set v.places (n - 1) m.places; pending = v.pending; head = v.head })
watchful-left v gone at n d m h stands number wl wo f mv hung =
    let w = stands.within in
    let b = stands.place in
    let e = stands.clause d in
    let one = number.from_one in
    let last = number.to_last in
    let c = code-listed v gone h w in
    let ws = watches_at v.lists gone in
    let ws' = swap_remove ws at d in
    let es = v.trail.entries in
    record {
      small = h.small;
      within = h.within;
      head = h.head;
      sized = length-set v.places (n - 1) m.places ∙ h.sized;
      listed = length-set v.lists (code_of gone) ws' ∙ h.listed;
      numbers = h.numbers;
      fits = relisted-fits v.trail.clauses.vars v.trail.clauses.list v.lists gone ws' c w (all-removed (WatchFits v.trail.clauses.list gone) ws at d b (h.fits gone w)) h.fits;
      accounted_for = λ k t. elim (same-or-not k (n - 1)) [
        | inl s ↦
            let next : n ≡ k + 1 = omega arith in
            let there : k < length v.places = omega (arith, h.sized) in
            let mv' = subst (λ (j : ℕ). IsWatchMove (lits_of es) (clause_of v.trail.clauses.list j) (places_of v.places j) gone m) (sym s) mv in
            let hung' = subst (λ (j : ℕ). 0 < watches_of j (watches_at v.lists m.lit)) next hung in
            let now = moved-minds v.trail.clauses.vars es v.head v.lists gone ws' v.pending k (clause_of v.trail.clauses.list k) (places_of v.places k) m w wl wo f mv' hung' (h.accounted_for k t) in
            let at-k : Minds es v.head (slice_set v.lists (code_of gone) ws') v.pending k (clause_of v.trail.clauses.list k) (places_of (slice_set v.places k m.places) k) = subst (λ (q : WatchPlaces). Minds es v.head (slice_set v.lists (code_of gone) ws') v.pending k (clause_of v.trail.clauses.list k) q) (sym (placed-same v.places k m.places there)) now in
            subst (λ (j : ℕ). Minds es v.head (slice_set v.lists (code_of gone) ws') v.pending k (clause_of v.trail.clauses.list k) (places_of (slice_set v.places j m.places) k)) s at-k
        | inr o ↦
            let other : k + 1 ≢ n = λ q. o (omega arith) in
            minds-more es v.head v.lists (slice_set v.lists (code_of gone) ws') v.pending v.pending k (clause_of v.trail.clauses.list k) (places_of v.places k) (places_of (slice_set v.places (n - 1) m.places) k) (omega arith) (relisted-more v.lists gone ws' (k + 1) c (others-stay ws at n k d b e other)) (placed-other v.places (n - 1) k m.places o) (h.accounted_for k t)
      ];
    }

-- a clause is no longer pending
others-wait : (pending : List ℕ) (at k : ℕ) (d : ℕ) → at < length pending → get_or pending at d ≢ k + 1 → pending_count (k + 1) pending ≤ pending_count (k + 1) (swap_remove pending at d)
others-wait pending at k d b o =
    let same = count-removed (λ (m : ℕ). m == k + 1) pending at d b (not-same (get_or pending at d) (k + 1) o) in
    omega arith

pub watchful-forgot : (v : WatchView) (at d : ℕ) → IsWatchInvariant v → at < length v.pending → IsFixed v.trail.entries (clause_of v.trail.clauses.list (get_or v.pending at d - 1)) → IsWatchInvariant (record { trail = v.trail; lists = v.lists; places = v.places; pending = swap_remove v.pending at d; head = v.head })
watchful-forgot v at d h b f = record {
  small = h.small;
  within = h.within;
  head = h.head;
  sized = h.sized;
  listed = h.listed;
  numbers = all-removed (IsNumber (length v.trail.clauses.list)) v.pending at d b h.numbers;
  fits = h.fits;
  accounted_for = λ k t. elim (same-or-not (get_or v.pending at d) (k + 1)) [
    | inl s ↦
        let there : get_or v.pending at d - 1 ≡ k = omega arith in
        inr (inl (subst (λ (j : ℕ). IsFixed v.trail.entries (clause_of v.trail.clauses.list j)) there f))
    | inr o ↦ minds-more v.trail.entries v.head v.lists v.lists v.pending (swap_remove v.pending at d) k (clause_of v.trail.clauses.list k) (places_of v.places k) (places_of v.places k) (others-wait v.pending at k d b o) (λ m. omega arith) refl (h.accounted_for k t)
  ];
}

pub watchful-settled : (v : WatchView) (at n d : ℕ) (p : WatchPlaces) → IsWatchInvariant v → IsPendingAt v at n → IsNumber (length v.trail.clauses.list) n → IsWatched v.trail.entries v.head v.lists n (clause_of v.trail.clauses.list (n - 1)) p → IsWatchInvariant (record { trail = v.trail; lists = v.lists; places = slice_set v.places (n - 1) p; pending = swap_remove v.pending at d; head = v.head })
watchful-settled v at n d p h pending_count number w =
    let b = pending_count.place in
    let e : get_or v.pending at d ≡ n = sym (pending_count.number ∙ get_or_default v.pending at n d b) in
    let one = number.from_one in
    let last = number.to_last in
    record {
      small = h.small;
      within = h.within;
      head = h.head;
      sized = length-set v.places (n - 1) p ∙ h.sized;
      listed = h.listed;
      numbers = all-removed (IsNumber (length v.trail.clauses.list)) v.pending at d b h.numbers;
      fits = h.fits;
      accounted_for = λ k t. elim (same-or-not k (n - 1)) [
        | inl s ↦
            let next : n ≡ k + 1 = omega arith in
            let there : k < length v.places = omega (arith, h.sized) in
            let w' : IsWatched v.trail.entries v.head v.lists (k + 1) (clause_of v.trail.clauses.list (n - 1)) p = subst (λ (j : ℕ). IsWatched v.trail.entries v.head v.lists j (clause_of v.trail.clauses.list (n - 1)) p) next w in
            let w'' : IsWatched v.trail.entries v.head v.lists (k + 1) (clause_of v.trail.clauses.list k) p = subst (λ (j : ℕ). IsWatched v.trail.entries v.head v.lists (k + 1) (clause_of v.trail.clauses.list j) p) (sym s) w' in
            let placed : places_of (slice_set v.places (n - 1) p) k ≡ p = subst (λ (j : ℕ). places_of (slice_set v.places j p) k ≡ p) s (placed-same v.places k p there) in
            inr (inr (subst (λ (q : WatchPlaces). IsWatched v.trail.entries v.head v.lists (k + 1) (clause_of v.trail.clauses.list k) q) (sym placed) w''))
        | inr o ↦
            let other : get_or v.pending at d ≢ k + 1 = λ q. o (omega arith) in
            minds-more v.trail.entries v.head v.lists v.lists v.pending (swap_remove v.pending at d) k (clause_of v.trail.clauses.list k) (places_of v.places k) (places_of (slice_set v.places (n - 1) p) k) (others-wait v.pending at k d b other) (λ m. omega arith) (placed-other v.places (n - 1) k p o) (h.accounted_for k t)
      ];
    }

-- the head moves past its entry
held-true : (v : WatchView) (gone l : Lit) (k : ℕ) → code_of l ≡ code_of gone → 0 < watches_of (k + 1) (watches_at v.lists l) → All (IsWatchHeld v) (watches_at v.lists gone) → HasTrue (lits_of v.trail.entries) (clause_of v.trail.clauses.list k)
held-true v gone l k e h a =
    let h' : 0 < watches_of (k + 1) (watches_at v.lists gone) = subst (λ (c : ℕ). 0 < watches_of (k + 1) (get_or v.lists c [])) e h in
    let r = found (λ (w : Watch). w.clause == k + 1) (IsWatchHeld v) (watches_at v.lists gone) h' a in
    let n : r.0.clause ≡ k + 1 = eqb-true r.0.clause (k + 1) r.1 in
    let there : r.0.clause - 1 ≡ k = omega arith in
    subst (λ (j : ℕ). HasTrue (lits_of v.trail.entries) (clause_of v.trail.clauses.list j)) there r.2

pub watchful-advanced : (v : WatchView) (gone : Lit) (level : ℕ) → IsWatchInvariant v → IsHeadOpposite v.trail.entries v.head level gone → All (λ (e : TrailEntry). e.level ≤ level) v.trail.entries → All (IsWatchHeld v) (watches_at v.lists gone) → IsWatchInvariant (record { trail = v.trail; lists = v.lists; places = v.places; pending = v.pending; head = v.head + 1 })
watchful-advanced v gone level h s low a =
    let es = v.trail.entries in
    let e = s.0 in
    let i = s.1 in
    let here = i.0 in
    let top : (j : ℕ) (t : TrailEntry) → IsTrailEntry es j t → t.level ≤ e.level = λ j t q.
    let under : t.level ≤ level = subst (λ (z : TrailEntry). z.level ≤ level) q.1 (low j t q.0) in
    let up = s.3 in
    omega arith in
    record {
      small = h.small;
      within = h.within;
      head = omega arith;
      sized = h.sized;
      listed = h.listed;
      numbers = h.numbers;
      fits = h.fits;
      accounted_for = λ k t. let c = clause_of v.trail.clauses.list k in
          minds-safe es es v.head (v.head + 1) v.lists v.pending k c (places_of v.places k) (λ f. f)
          (λ j g. elim (same-or-not (code_of (lit_at c j)) (code_of gone)) [
            | inl q ↦ safe-step es v.head c (lit_at c j) e g.safe i (held-true v gone (lit_at c j) k q g.held a) top
            | inr o ↦ safe-other es v.head c (lit_at c j) e g.safe i (λ q. o (ap (λ (z : Lit). code_of z) (opposite-twice (lit_at c j) ∙ (ap (λ (z : Lit). opposite z) (sym q ∙ s.2) ∙ sym (opposite-twice gone)))))
          ]) (h.accounted_for k t);
    }

-- no clause is watched yet
abbrev none-yet : List Watch
none-yet = []

no-watches : (n c : ℕ) → get_or (replicate n none-yet) c [] ≡ none-yet
no-watches zero c = refl
no-watches (suc n) zero = refl
no-watches (suc n) (suc c) = no-watches n c

-- once no entry is left and each pending clause is settled, all clauses are
pub watchful-complete : (v : WatchView) → IsWatchInvariant v → EachOpens v.trail.clauses.vars [] v.trail.entries → v.head ≡ length v.trail.entries → All (λ (n : ℕ). IsClauseSettled (lits_of v.trail.entries) (clause_of v.trail.clauses.list (n - 1))) v.pending → IsComplete v.trail.clauses.list (lits_of v.trail.entries)
watchful-complete v h o last a = λ k d b.
    let es = v.trail.entries in
    let known = lits_of es in
    let c = clause_of v.trail.clauses.list k in
    let settled : IsClauseSettled known c = elim (h.accounted_for k b) [
      | inl w ↦
          let r = found (λ (m : ℕ). m == k + 1) (λ (n : ℕ). IsClauseSettled known (clause_of v.trail.clauses.list (n - 1))) v.pending w a in
          let n : r.0 ≡ k + 1 = eqb-true r.0 (k + 1) r.1 in
          let there : r.0 - 1 ≡ k = omega arith in
          subst (λ (j : ℕ). IsClauseSettled known (clause_of v.trail.clauses.list j)) there r.2
      | inr r ↦ elim r [
        | inl f ↦ true-settled v.trail.clauses.vars es c o (fixed-true es c f)
        | inr w ↦
            let p = places_of v.places k in
            let s = subst (λ (n : ℕ). IsSafe es n c (lit_at c p.first)) last w.first.safe in
            let t = subst (λ (n : ℕ). IsSafe es n c (lit_at c p.second)) last w.second.safe in
            watched-settled v.trail.clauses.vars es c p.first p.second o w.first.within w.second.within w.apart s t
      ]
    ] in
    subst (λ (z : List Lit). IsClauseSettled known z) (get_or_default v.trail.clauses.list k [] d b) settled

pub watchful-new : (clauses : Clauses) (lists : List (List Watch)) (places : List WatchPlaces) (pending : List ℕ) → clauses.vars < 2 ^ 32 → ClausesWithin clauses.vars clauses.list → lists ≡ replicate (2 * clauses.vars) [] → length lists ≡ 2 * clauses.vars → length places ≡ length clauses.list → AllPending (length clauses.list) pending → IsWatchInvariant (record { trail = record { clauses = clauses; entries = [] }; lists = lists; places = places; pending = pending; head = 0 })
watchful-new clauses lists places pending small x e n p w = record {
  small = small;
  within = x;
  head = omega arith;
  sized = p;
  listed = n;
  numbers = w.0;
  fits = λ l x. subst (λ (z : List (List Watch)). All (WatchFits clauses.list l) (watches_at z l)) (sym e) (subst (λ (z : List Watch). All (WatchFits clauses.list l) z) (sym (no-watches (2 * clauses.vars) (code_of l))) (All-nil (WatchFits clauses.list l)));
  accounted_for = λ k t. inl (w.1 k t);
}

-- this many clauses are pending
pub all-wait-more : (count : ℕ) (pending : List ℕ) → AllPending count pending → AllPending (count + 1) (pending ++ (count + 1) ∷ [])
all-wait-more count pending w = (
  All-push (IsNumber (count + 1)) pending (count + 1) (All-weaker (IsNumber count) (IsNumber (count + 1)) (λ n b. let t = b.to_last in record { from_one = b.from_one; to_last = omega arith }) pending w.0) (record { from_one = omega arith; to_last = omega arith }),
  λ k b. elim (same-or-not k count) [
    | inl e ↦ count-pushed (λ (m : ℕ). m == k + 1) pending (count + 1) (eq-eqb (count + 1) (k + 1) (ap (λ (n : ℕ). n + 1) (sym e)))
    | inr o ↦
        let before = w.1 k (omega arith) in
        let more = count-push (λ (m : ℕ). m == k + 1) pending (count + 1) in
        omega arith
  ],
)

-- a watch is removed
pub shrinks-removed : (v : WatchView) (lists : List (List Watch)) (places : List WatchPlaces) (pending : List ℕ) (gone : Lit) (at : ℕ) (d : Watch) → code_of gone < length v.lists → at < length (watches_at v.lists gone) → lists ≡ slice_set v.lists (code_of gone) (swap_remove (watches_at v.lists gone) at d) → Shrinks v (record { trail = v.trail; lists = lists; places = places; pending = pending; head = v.head }) gone at
shrinks-removed v lists places pending gone at d c b e =
    let ws = watches_at v.lists gone in
    let now : watches_at lists gone ≡ swap_remove ws at d = ap (λ (ls : List (List Watch)). watches_at ls gone) e ∙ relisted-same v.lists gone (swap_remove ws at d) c in
    record {
      trail = refl;
      head = refl;
      kept = ap (λ (z : List Watch). take at z) now ∙ take-removed ws at d b;
      left = ap (λ (z : List Watch). length z + 1) now ∙ length-removed ws at d b;
    }
