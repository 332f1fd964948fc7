-- For `propagate`: what stays true while the watches of a literal that became false are visited.
use Rattle.std.proofs.Common.{◌≡◌, ◌≢◌, ℕ, ◌+◌, ◌-◌, ◌<◌, ◌≤◌, true, false, not, ◌==◌, List, [], ◌∷◌, ◌++◌, length, get_or, take, sym, ap, ◌∙◌, subst, inl, inr, ◌⊎◌, arith, length-set, eq-eqb}
use Rattle.std.specs.Prelude.{slice_set}
use Rattle.std.specs.List.{All}
use Rattle.std.proofs.lemmas.Bool.{or_cases, and_from, false≢true}
use Rattle.std.proofs.lemmas.Grind.{common_steps}
use Rattle.std.proofs.lemmas.List.{take_more_set, get_or_default, get_or-set_same}
use Rattle.std.proofs.lemmas.List.Elements.{All-more, All-push, All-weaker, All-head, All-tail}
use Rattle.clause_db.specs.declared.lit.Lit.{Lit}
use Rattle.clause_db.specs.Clause.{opposite, has_lit, same_lit, code_of}
use Rattle.clause_db.specs.Clauses.{LitWithin}
use Rattle.clause_db.proofs.Literals.{same_lit-is, code-is}
use Rattle.trail_prop.specs.declared.entry.TrailEntry.{TrailEntry}
use Rattle.trail_prop.specs.declared.watch_update.Moved.{Moved}
use Rattle.trail_prop.specs.declared.watch_update.WatchPlaces.{WatchPlaces}
use Rattle.trail_prop.specs.declared.watches.Watch.{Watch}
use Rattle.trail_prop.specs.Entries.{lits_of, level_of, IsTrailEntry}
use Rattle.trail_prop.specs.Watchable.{AreWatchable}
use Rattle.trail_prop.specs.Open.{LitsWithin, is_open}
use Rattle.trail_prop.specs.Steps.{with_trail, with_watch_list, IsWatchHeld, AreHeld, IsNextWatch, Shrinks}
use Rattle.trail_prop.specs.Trails.{TrailView, Grows}
use Rattle.trail_prop.specs.WatchUpdate.{IsWatchMove}
use Rattle.trail_prop.specs.Watching.{lit_of, lit_at, clause_of, watches_at, IsSafe, IsHeadOpposite, HasTrue, IsFixed, watches_of, IsWatched, WatchFits, WatchView}
use Rattle.trail_prop.proofs.Counting.{count-push, count-pushed}
use Rattle.trail_prop.proofs.Minding.{relisted-same, relisted-other, relisted-more}
use Rattle.trail_prop.proofs.Trailing.{grows-level}
use Rattle.trail_prop.proofs.Places.{known-entry, entry-known, entry-left}

pub within-has : (vars : ℕ) (clause : List Lit) (l : Lit) → LitsWithin vars clause → has_lit clause l ≡ true → LitWithin vars l
within-has vars [] l w h = absurd (false≢true h)
within-has vars (x ∷ xs) l w h = elim (or_cases (same_lit l x) (has_lit xs l) h) [
  | inl s ↦ subst (λ (z : Lit). LitWithin vars z) (sym (same_lit-is l x s)) (All-head (LitWithin vars) x xs w)
  | inr r ↦ within-has vars xs l (All-tail (LitWithin vars) x xs w) r
]

pub both-open : (known : List Lit) (l : Lit) → has_lit known l ≡ false → has_lit known (opposite l) ≡ false → is_open known l ≡ true
both-open known l p q = and_from (not (has_lit known l)) (not (has_lit known (opposite l))) (ap not p) (ap not q)

pub known-more : (es more : List TrailEntry) (l : Lit) → has_lit (lits_of es) l ≡ true → has_lit (lits_of (es ++ more)) l ≡ true
known-more es more l h =
    let k = known-entry es l h in
    ap (λ (z : Lit). has_lit (lits_of (es ++ more)) z) (sym k.3) ∙ entry-known (es ++ more) k.0 k.1 (entry-left es more k.0 k.1 k.2)

true-grows : (es more : List TrailEntry) (clause : List Lit) → HasTrue (lits_of es) clause → HasTrue (lits_of (es ++ more)) clause
true-grows es more clause t = (t.0, t.1, known-more es more t.0 t.2)

-- the watch at a place, whatever the default is
pub same-watch : (ws : List Watch) (at : ℕ) (w : Watch) → at < length ws → w ≡ get_or ws at w → (d : Watch) → (get_or ws at d).clause ≡ w.clause
same-watch ws at w b e d = ap (λ (x : Watch). x.clause) (get_or_default ws at d w b ∙ sym e)

-- the clause of the watch has a true literal
pub held-stays : (v : WatchView) (gone : Lit) (at : ℕ) (w : Watch) → AreHeld v gone at → at < length (watches_at v.lists gone) → w ≡ get_or (watches_at v.lists gone) at w → IsWatchHeld v w → AreHeld v gone (at + 1)
held-stays v gone at w a b e h = All-more (IsWatchHeld v) (watches_at v.lists gone) at w b a (subst (λ (x : Watch). IsWatchHeld v x) e h)

-- the watch forces a literal
pub held-forced : (v : WatchView) (gone : Lit) (at : ℕ) (w : Watch) (x : TrailEntry) → AreHeld v gone at → at < length (watches_at v.lists gone) → w ≡ get_or (watches_at v.lists gone) at w → has_lit (clause_of v.trail.clauses.list (w.clause - 1)) x.lit ≡ true → AreHeld (with_trail v (record { clauses = v.trail.clauses; entries = v.trail.entries ++ x ∷ [] })) gone (at + 1)
held-forced v gone at w x a b e h =
    let es = v.trail.entries in
    let new : WatchView = with_trail v (record { clauses = v.trail.clauses; entries = es ++ x ∷ [] }) in
    let there : IsTrailEntry (es ++ x ∷ []) (length es) x = grind (arith, common_steps) in
    let now : IsWatchHeld new w = (x.lit, h, entry-known (es ++ x ∷ []) (length es) x there) in
    held-stays new gone at w (All-weaker (IsWatchHeld v) (IsWatchHeld new) (λ y t. true-grows es (x ∷ []) (clause_of v.trail.clauses.list (y.clause - 1)) t) (take at (watches_at v.lists gone)) a) b e now

-- the watch replaces another one of the same clause
pub held-before : (v : WatchView) (gone : Lit) (at : ℕ) (w : Watch) → code_of gone < length v.lists → AreHeld v gone at → at < length (watches_at v.lists gone) → AreHeld (with_watch_list v gone (slice_set (watches_at v.lists gone) at w)) gone at
held-before v gone at w c a b =
    let ws = watches_at v.lists gone in
    let same : take at (slice_set ws at w) ≡ take at ws = grind (arith, common_steps) in
    subst (λ (z : List Watch). All (IsWatchHeld v) (take at z)) (sym (relisted-same v.lists gone (slice_set ws at w) c)) (subst (λ (z : List Watch). All (IsWatchHeld v) z) (sym same) a)

pub held-put : (v : WatchView) (gone : Lit) (at : ℕ) (w : Watch) → code_of gone < length v.lists → AreHeld v gone at → at < length (watches_at v.lists gone) → IsWatchHeld v w → AreHeld (with_watch_list v gone (slice_set (watches_at v.lists gone) at w)) gone (at + 1)
held-put v gone at w c a b h =
    let ws = watches_at v.lists gone in
    subst (λ (z : List Watch). All (IsWatchHeld v) (take (at + 1) z)) (sym (relisted-same v.lists gone (slice_set ws at w) c)) (subst (λ (z : List Watch). All (IsWatchHeld v) z) (sym (take_more_set ws at w b)) (All-push (IsWatchHeld v) (take at ws) w a h))

pub length-put : (v : WatchView) (gone : Lit) (at : ℕ) (w : Watch) → code_of gone < length v.lists → length (watches_at (with_watch_list v gone (slice_set (watches_at v.lists gone) at w)).lists gone) ≡ length (watches_at v.lists gone)
length-put v gone at w c =
    let ws = watches_at v.lists gone in
    ap (λ (z : List Watch). length z) (relisted-same v.lists gone (slice_set ws at w) c) ∙ length-set ws at w

-- the watch that was put there is the next one
pub next-put : (v : WatchView) (gone : Lit) (at : ℕ) (w : Watch) → code_of gone < length v.lists → at < length (watches_at v.lists gone) → WatchFits v.trail.clauses.list gone w → AreHeld v gone at → IsNextWatch (with_watch_list v gone (slice_set (watches_at v.lists gone) at w)) gone at w
next-put v gone at w c b f a =
    let ws = watches_at v.lists gone in
    let now : watches_at (slice_set v.lists (code_of gone) (slice_set ws at w)) gone ≡ slice_set ws at w = relisted-same v.lists gone (slice_set ws at w) c in
    record {
      place = subst (λ (n : ℕ). at < n) (sym (length-put v gone at w c)) b;
      watch = sym (ap (λ (z : List Watch). get_or z at w) now ∙ get_or-set_same ws at w w b);
      fits = f;
      held = held-before v gone at w c a b;
    }

-- a watch that names another literal of its clause, which is not a pair
pub fits-named : (list : List (List Lit)) (gone other : Lit) (w named : Watch) → WatchFits list gone w → w.pair ≡ false → (named.clause ≡ w.clause) × (named.pair ≡ w.pair) → (lit_of named.blocker ≡ other) ⊎ (named.blocker ≡ w.blocker) → has_lit (clause_of list (w.clause - 1)) other ≡ true → WatchFits list gone named
fits-named list gone other w named f long same blocker has = record {
  from_one = subst (λ (n : ℕ). 1 ≤ n) (sym same.0) f.from_one;
  to_last = subst (λ (n : ℕ). n ≤ length list) (sym same.0) f.to_last;
  blocks = subst (λ (n : ℕ). has_lit (clause_of list (n - 1)) (lit_of named.blocker) ≡ true) (sym same.0) (elim blocker [
    | inl e ↦ subst (λ (l : Lit). has_lit (clause_of list (w.clause - 1)) l ≡ true) (sym e) has
    | inr e ↦ subst (λ (b : ℕ). has_lit (clause_of list (w.clause - 1)) (lit_of b) ≡ true) (sym e) f.blocks
  ]);
  pairs = λ p. absurd (false≢true (sym (same.1 ∙ long) ∙ p));
}

-- the watch is removed
pub held-shrunk : (old new : WatchView) (gone : Lit) (at : ℕ) → Shrinks old new gone at → AreHeld old gone at → AreHeld new gone at
held-shrunk old new gone at s a =
    subst (λ (z : List Watch). All (IsWatchHeld new) z) (sym s.kept) (subst (λ (t : TrailView). All (λ (w : Watch). HasTrue (lits_of t.entries) (clause_of t.clauses.list (w.clause - 1))) (take at (watches_at old.lists gone))) (sym s.trail) a)

-- the watches of another literal change
pub moved-apart : (vars : ℕ) (es : List TrailEntry) (clause : List Lit) (p : WatchPlaces) (gone : Lit) (m : Moved) → LitWithin vars gone → LitWithin vars m.lit → has_lit (lits_of es) (opposite gone) ≡ true → IsWatchMove (lits_of es) clause p gone m → code_of gone ≢ code_of m.lit
moved-apart vars es clause p gone m wg wl f mv = λ e.
    let same : gone ≡ m.lit = code-is vars gone m.lit wg wl e in
    false≢true (sym mv.not_false ∙ (ap (λ (l : Lit). has_lit (lits_of es) (opposite l)) (sym same) ∙ f))

pub hung-gone : (v h : WatchView) (l gone : Lit) (ws : List Watch) → h ≡ with_watch_list v l ws → code_of gone ≢ code_of l → watches_at h.lists gone ≡ watches_at v.lists gone
hung-gone v h l gone ws e n = ap (λ (x : WatchView). watches_at x.lists gone) e ∙ relisted-other v.lists l gone ws n

pub hung-held : (v h : WatchView) (l gone : Lit) (at : ℕ) (ws : List Watch) → h ≡ with_watch_list v l ws → code_of gone ≢ code_of l → AreHeld v gone at → AreHeld h gone at
hung-held v h l gone at ws e n a = subst (λ (x : WatchView). AreHeld x gone at) (sym e) (subst (λ (z : List Watch). All (IsWatchHeld v) (take at z)) (sym (relisted-other v.lists l gone ws n)) a)

pub hung-new : (v h : WatchView) (l : Lit) (w : Watch) (n : ℕ) → code_of l < length v.lists → h ≡ with_watch_list v l (watches_at v.lists l ++ w ∷ []) → w.clause ≡ n → 0 < watches_of n (watches_at h.lists l)
hung-new v h l w n c e s =
    let there : watches_at h.lists l ≡ watches_at v.lists l ++ w ∷ [] = ap (λ (x : WatchView). watches_at x.lists l) e ∙ relisted-same v.lists l (watches_at v.lists l ++ w ∷ []) c in
    subst (λ (z : List Watch). 0 < watches_of n z) (sym there) (count-pushed (λ (y : Watch). y.clause == n) (watches_at v.lists l) w (eq-eqb w.clause n s))

-- at level 0, a clause with a true literal stays true
pub fixed-first : (es : List TrailEntry) (clause : List Lit) (level : ℕ) → level ≡ 0 → All (λ (e : TrailEntry). e.level ≤ level) es → HasTrue (lits_of es) clause → IsFixed es clause
fixed-first es clause level z top t =
    let q = known-entry es t.0 t.2 in
    let has : has_lit clause q.1.lit ≡ true = ap (λ (l : Lit). has_lit clause l) q.3 ∙ t.1 in
    let low : q.1.level ≤ level = subst (λ (x : TrailEntry). x.level ≤ level) q.2.1 (top q.0 q.1 q.2.0) in
    (q.0, q.1, q.2, has, omega arith)

-- two watches are appended, one for each of two literals
pub watched-both : (v : WatchView) (n : ℕ) (clause : List Lit) (p : WatchPlaces) (one two : Watch) → code_of (lit_at clause p.first) < length v.lists → code_of (lit_at clause p.second) < length v.lists → one.clause ≡ n → two.clause ≡ n → AreWatchable v.trail.entries clause p → (h : WatchView) → h ≡ with_watch_list v (lit_at clause p.first) (watches_at v.lists (lit_at clause p.first) ++ one ∷ []) → IsWatched h.trail.entries h.head (slice_set h.lists (code_of (lit_at clause p.second)) (watches_at h.lists (lit_at clause p.second) ++ two ∷ [])) n clause p
watched-both v n clause p one two c d s t g h e =
    let first = lit_at clause p.first in
    let second = lit_at clause p.second in
    let es : h.trail.entries ≡ v.trail.entries = ap (λ (x : WatchView). x.trail.entries) e in
    let long : length h.lists ≡ length v.lists = ap (λ (x : WatchView). length x.lists) e ∙ length-set v.lists (code_of first) (watches_at v.lists first ++ one ∷ []) in
    let ws = watches_at h.lists second ++ two ∷ [] in
    let d' : code_of second < length h.lists = omega arith in
    let more = count-push (λ (y : Watch). y.clause == n) (watches_at h.lists second) two in
    let before = hung-new v h first one n c e s in
    let after = relisted-more h.lists second ws n d' more first in
    record {
      first = record { within = g.first_within; safe = subst (λ (z : List TrailEntry). IsSafe z h.head clause first) (sym es) (g.first_safe h.head); held = omega arith };
      second = record { within = g.second_within; safe = subst (λ (z : List TrailEntry). IsSafe z h.head clause second) (sym es) (g.second_safe h.head); held = subst (λ (z : List Watch). 0 < watches_of n z) (sym (relisted-same h.lists second ws d')) (count-pushed (λ (y : Watch). y.clause == n) (watches_at h.lists second) two (eq-eqb two.clause n t)) };
      apart = g.apart;
    }

-- the entry at the head stays there, at the last level
pub stands-grows : (es later : List TrailEntry) (head : ℕ) (gone : Lit) → Grows es later → IsHeadOpposite es head (level_of es) gone → IsHeadOpposite later head (level_of later) gone
stands-grows es later head gone g s =
    let same = grows-level es later g in
    let up = s.3 in
    (s.0, subst (λ (z : List TrailEntry). IsTrailEntry z head s.0) (sym g.follows) (entry-left es g.more head s.0 s.1), s.2, omega arith)

pub stands-false : (es : List TrailEntry) (head level : ℕ) (gone : Lit) → IsHeadOpposite es head level gone → has_lit (lits_of es) (opposite gone) ≡ true
stands-false es head level gone s = ap (λ (l : Lit). has_lit (lits_of es) l) (sym s.2) ∙ entry-known es head s.0 s.1
