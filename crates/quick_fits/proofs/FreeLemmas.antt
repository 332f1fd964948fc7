-- A channel on which no pair of a station has its other entry in the last map makes a fit by itself, and `obstacles` finds it.
use Rattle.std.proofs.Common.{◌≡◌, ◌≢◌, ℕ, zero, suc, ◌+◌, ◌<◌, Bool, true, false, not, ◌&&◌, ◌||◌, ◌==◌, nat_eq, cond, List, [], ◌∷◌, ◌++◌, ◌≤◌, drop, filter, length, get_or, replicate, set, take, Option, Some, None, is_none, ◌⊎◌, inl, inr, arith, refl, sym, ap, ap₂, subst, ◌∙◌, eqb-true, eq-eqb, ne_eqb}
use Rattle.std.specs.Prelude.{IfSome}
use Rattle.std.specs.List.{list_any, list_all}
use Rattle.std.specs.Option.{is_some}
use Rattle.std.proofs.lemmas.Bool.{and_from, and_parts, cases_lt, cond-true, cond-false, or_left, or_right, false≢true, not-true}
use Rattle.std.proofs.lemmas.List.{drop_more, get_or-replicate, get_or-set_same, get_or-set_other, length-replicate}
use Rattle.std.proofs.Math.Seq.{take-append_seam}
use Rattle.pack_defs.specs.declared.pair.Pair.{Pair}
use Rattle.pack_defs.specs.Book.{BookView, IsInOrder, domain_of, has_two_stations}
use Rattle.pack_defs.specs.ChannelMap.{IsAscending, overlaid}
use Rattle.pack_defs.specs.Lists.{has_entry, is_in}
use Rattle.pack_defs.proofs.MapLemmas.{put-before, put-behind, put-here}
use Rattle.assign_check.specs.Changes.{violates_at_some}
use Rattle.assign_check.specs.Fault.{is_violated}
use Rattle.assign_check.proofs.Changed.{changed-from, changed-to, is_violated_to, stands-changed, stands-unchanged}
use Rattle.assign_check.proofs.Violations.{is_violated_from}
use Rattle.cert_types.specs.declared.task.Task.{Task}
use Rattle.cert_types.specs.Query.{IsQuery, is_named, is_on_domains}
use Rattle.cert_types.specs.Valid.{fit_fault}
use Rattle.cert_types.proofs.ChangeLemmas.{fits-changed, fit-on_domains, fit-violates_none}
use Rattle.quick_fits.specs.declared.local_repair.Proposal.{Proposal}
use Rattle.quick_fits.specs.declared.obstacles.Blocker.TheVariants.{No}
use Rattle.quick_fits.specs.declared.obstacles.ChannelObstacles.{ChannelObstacles}
use Rattle.quick_fits.specs.Obstacles.{AreObstacles, IsFreeProposal, IsFreeChannel, blocks_first, blocks_second, changed, is_free, is_channel_open, moved_map, obstacles_at}
use Rattle.pack_defs.proofs.Words.{list_any-at}

-- ---- where the others are

pub stands-moved : (s c : ℕ) (last : List (ℕ × ℕ)) (moved : Option (ℕ × ℕ)) (x : ℕ × ℕ) → IsAscending last → moved ≡ Some x → x.0 ≡ s → nat_eq x.1 c ≡ has_entry (moved_map last moved) (s, c)
stands-moved s c last moved x a is e =
    subst (λ m. nat_eq x.1 c ≡ has_entry (moved_map last m) (s, c)) (sym is)
    (stands-changed s c x.1 last (x ∷ []) a refl (cond-true (x.0 == s) (Some x.1) None (eq-eqb x.0 s e)))

pub stays : (s c : ℕ) (last : List (ℕ × ℕ)) (moved : Option (ℕ × ℕ)) (x : ℕ × ℕ) → IsAscending last → moved ≡ Some x → x.0 ≢ s → has_entry last (s, c) ≡ has_entry (moved_map last moved) (s, c)
stays s c last moved x a is n =
    subst (λ m. has_entry last (s, c) ≡ has_entry (moved_map last m) (s, c)) (sym is)
    (stands-unchanged s c last (x ∷ []) a refl (cond-false (x.0 == s) (Some x.1) None (ne_eqb x.0 s n)))

pub stands-all : (s c : ℕ) (last : List (ℕ × ℕ)) (moved : Option (ℕ × ℕ)) → moved ≡ None → has_entry last (s, c) ≡ has_entry (moved_map last moved) (s, c)
stands-all s c last moved is = subst (λ m. has_entry last (s, c) ≡ has_entry (moved_map last m) (s, c)) (sym is) refl

-- The ruleset for `is_on`.
pub ruleset moved = (stands-moved, stays, stands-all)

-- ---- what a station meets

-- One more pair on a channel.
pub met-at : (ways : List ChannelObstacles) (k : ℕ) (v d : ChannelObstacles) (blocks : Bool) (c : ℕ) → k < length ways → is_channel_open v ≡ (is_channel_open (get_or ways k d) && not blocks) → is_channel_open (get_or (set ways k v) c d) ≡ (is_channel_open (get_or ways c d) && not ((k == c) && blocks))
met-at ways k v d blocks c l e =
    (elim (k == c) as (λ b. (k == c) ≡ b → is_channel_open (get_or (set ways k v) c d) ≡ (is_channel_open (get_or ways c d) && not (b && blocks))) [
      | true ↦ λ h.
          let same : k ≡ c = eqb-true k c h in
          subst (λ n. is_channel_open (get_or (set ways k v) n d) ≡ (is_channel_open (get_or ways n d) && not blocks)) same
          (ap is_channel_open (get_or-set_same ways k v d l) ∙ e)
      | false ↦ λ h.
          ap is_channel_open (get_or-set_other ways k c v d (λ z. false≢true (sym h ∙ eq-eqb k c (sym z)))) ∙ sym (and-true (is_channel_open (get_or ways c d)))
    ]) refl
  where
    and-true : (b : Bool) → (b && true) ≡ b
    and-true true = refl
    and-true false = refl

and-not : (o t r : Bool) → ((o && not t) && not r) ≡ (o && not (t || r))
and-not true true r = refl
and-not true false r = refl
and-not false t r = refl

pub open-step : (t : Pair → Bool) (ps : List Pair) (i : ℕ) (d : Pair) (o n w : Bool) → i < length ps → (o && not (list_any t (drop i ps))) ≡ w → n ≡ (o && not (t (get_or ps i d))) → (n && not (list_any t (drop (i + 1) ps))) ≡ w
open-step t ps i d o n w l h e =
    ap (λ b. b && not (list_any t (drop (i + 1) ps))) e ∙ and-not o (t (get_or ps i d)) (list_any t (drop (i + 1) ps))
    ∙ ap (λ (z : List Pair). o && not (list_any t z)) (sym (drop_more ps i d l)) ∙ h

beyond : (ways : List ChannelObstacles) (c : ℕ) (d : ChannelObstacles) → length ways ≤ c → get_or ways c d ≡ d
beyond [] zero d l = refl
beyond [] (suc c) d l = refl
beyond (w ∷ ws) zero d l = absurd (omega (arith, l))
beyond (w ∷ ws) (suc c) d l = beyond ws c d (omega (arith, l))

-- At first nobody blocks.
open-all : (way : ChannelObstacles) (n c : ℕ) → is_channel_open way ≡ true → is_channel_open (get_or (replicate n way) c way) ≡ true
open-all way n c open_ =
    elim (cases_lt c n) [
      | inl l ↦ ap is_channel_open (get_or-replicate n c way way l) ∙ open_
      | inr m ↦ ap is_channel_open (beyond (replicate n way) c way (omega (arith, m, length-replicate n way))) ∙ open_
    ]

-- What a call has written into a list.
written : {A : Type 0} (n : ℕ) (new old : List A) → length new ≡ n → take n (new ++ drop (length new) old) ≡ new
written n new old e =
    ap (λ k. take k (new ++ drop (length new) old)) (sym e) ∙ take-append_seam new (drop (length new) old)

pub all-ways : (book : BookView) (entries : List (ℕ × ℕ)) (s n : ℕ) (start before first old middle second older : List ChannelObstacles) → start ≡ replicate 256 (record { blocker = No; pairs = 0 }) → n ≡ 256 → before ≡ start → length first ≡ 256 → length second ≡ 256 → ((c : ℕ) → is_channel_open (obstacles_at first c) ≡ (is_channel_open (obstacles_at before c) && not (list_any (blocks_first entries c) (filter (λ p. p.f == s) book.pairs)))) → middle ≡ take n (first ++ drop (length first) old) → ((c : ℕ) → is_channel_open (obstacles_at second c) ≡ (is_channel_open (obstacles_at middle c) && not (list_any (blocks_second entries c) (filter (λ p. p.g == s) book.pairs)))) → AreObstacles book entries s (take n (second ++ drop (length second) older))
all-ways book entries s n start before first old middle second older new size same few many f is g =
    subst (AreObstacles book entries s) (sym (written n second older (many ∙ sym size)))
    (record {
      size = many;
      free = λ c.
          let a = list_any (blocks_first entries c) (filter (λ p. p.f == s) book.pairs) in
          let b = list_any (blocks_second entries c) (filter (λ p. p.g == s) book.pairs) in
          let fresh : is_channel_open (obstacles_at before c) ≡ true = ap (λ (z : List ChannelObstacles). is_channel_open (obstacles_at z c)) (same ∙ new) ∙ open-all (record { blocker = No; pairs = 0 }) 256 c refl in
          let kept : is_channel_open (obstacles_at middle c) ≡ is_channel_open (obstacles_at first c) = ap (λ (z : List ChannelObstacles). is_channel_open (obstacles_at z c)) (is ∙ written n first old (few ∙ sym size)) in
          g c ∙ ap (λ o. o && not b) (kept ∙ f c ∙ ap (λ o. o && not a) fresh);
    })

-- ---- a free channel

or-more : (o t r : Bool) → ((o || t) || r) ≡ (o || (t || r))
or-more true t r = refl
or-more false t r = refl

pub some-step : (t : ℕ → Bool) (cs : List ℕ) (i d : ℕ) (o n w : Bool) → i < length cs → (o || list_any t (drop i cs)) ≡ w → n ≡ (o || t (get_or cs i d)) → (n || list_any t (drop (i + 1) cs)) ≡ w
some-step t cs i d o n w l h e =
    ap (λ b. b || list_any t (drop (i + 1) cs)) e ∙ or-more o (t (get_or cs i d)) (list_any t (drop (i + 1) cs))
    ∙ ap (λ (z : List ℕ). o || list_any t z) (sym (drop_more cs i d l)) ∙ h

is_in-at : (cs : List ℕ) (i d : ℕ) → i < length cs → is_in cs (get_or cs i d) ≡ true
is_in-at [] i d l = absurd (omega (arith, l))
is_in-at (c ∷ cs) zero d l = or_left (c == c) (is_in cs c) (eq-eqb c c refl)
is_in-at (c ∷ cs) (suc i) d l = or_right (c == get_or cs i d) (is_in cs (get_or cs i d)) (is_in-at cs i d (omega (arith, l)))

pub which-step : (t : ℕ → Bool) (cs : List ℕ) (i d : ℕ) (best new : Option ℕ) → i < length cs → IfSome best (λ c. (is_in cs c ≡ true) × (t c ≡ true)) → (new ≡ best) ⊎ ((new ≡ Some (get_or cs i d)) × (t (get_or cs i d) ≡ true)) → IfSome new (λ c. (is_in cs c ≡ true) × (t c ≡ true))
which-step t cs i d best new l h (inl e) = subst (λ o. IfSome o (λ c. (is_in cs c ≡ true) × (t c ≡ true))) (sym e) h
which-step t cs i d best new l h (inr e) =
    subst (λ o. IfSome o (λ c. (is_in cs c ≡ true) × (t c ≡ true))) (sym e.0) (is_in-at cs i d l, e.1)

-- If a channel of the domain is free, one is found.
pub found-free : (book : BookView) (entries : List (ℕ × ℕ)) (s c : ℕ) (ways : List ChannelObstacles) (domain : List ℕ) (none : Bool) → AreObstacles book entries s ways → domain ≡ domain_of book s → none ≡ list_any (λ z. is_channel_open (obstacles_at ways z)) domain → is_in (domain_of book s) c ≡ true → is_free book entries s c ≡ true → none ≡ true
found-free book entries s c ways domain none are is n h f =
    n ∙ list_any-at (λ z. is_channel_open (obstacles_at ways z)) domain c (ap (λ (z : List ℕ). is_in z c) is ∙ h) (are.free c ∙ f)

-- ---- a channel alone as a fit

other-stands : (s c g b : ℕ) (last : List (ℕ × ℕ)) → IsAscending last → s ≢ g → has_entry (overlaid last ((s, c) ∷ [])) (g, b) ≡ has_entry last (g, b)
other-stands s c g b last a n =
    sym (stands-unchanged g b last ((s, c) ∷ []) a refl (cond-false (s == g) (Some c) None (ne_eqb s g n)))

any-kept : (keep t u : Pair → Bool) (ps : List Pair) → list_all has_two_stations ps ≡ true → ((p : Pair) → has_two_stations p ≡ true → keep p ≡ true → t p ≡ u p) → list_any t (filter keep ps) ≡ list_any u (filter keep ps)
any-kept keep t u [] two h = refl
any-kept keep t u (p ∷ ps) two h =
    let parts = and_parts (has_two_stations p) (list_all has_two_stations ps) two in
    (elim (keep p) as (λ b. keep p ≡ b → list_any t (cond b (p ∷ filter keep ps) (filter keep ps)) ≡ list_any u (cond b (p ∷ filter keep ps) (filter keep ps))) [
      | true ↦ λ e. ap₂ (λ a b. a || b) (h p parts.0 e) (any-kept keep t u ps parts.1 h)
      | false ↦ λ e. any-kept keep t u ps parts.1 h
    ]) refl

of-two : (p : Pair) → has_two_stations p ≡ true → p.f ≢ p.g
of-two p h e = false≢true (sym (ap not (eq-eqb p.f p.g e)) ∙ h)

own-entry : (s c : ℕ) → has_entry ((s, c) ∷ []) (s, c) ≡ true
own-entry s c = or_left ((s == s) && (c == c)) false (and_from (s == s) (c == c) (eq-eqb s s refl) (eq-eqb c c refl))

first-violated : (s c : ℕ) (last : List (ℕ × ℕ)) (pairs : List Pair) → IsAscending last → list_all has_two_stations pairs ≡ true → list_any (is_violated (overlaid last ((s, c) ∷ []))) (filter (λ p. p.f == s) pairs) ≡ list_any (blocks_first last c) (filter (λ p. p.f == s) pairs)
first-violated s c last pairs a two =
    sym (changed-from last ((s, c) ∷ []) (s, c) pairs a refl (own-entry s c))
    ∙ any-kept (λ p. p.f == s) (is_violated_from (overlaid last ((s, c) ∷ [])) (s, c)) (blocks_first last c) pairs two
    (λ p t k. ap (λ b. (p.a == c) && b) (other-stands s c p.g p.b last a (λ e. of-two p t (eqb-true p.f s k ∙ e))))

pub second-violated : (s c : ℕ) (last : List (ℕ × ℕ)) (pairs : List Pair) → IsAscending last → list_all has_two_stations pairs ≡ true → list_any (is_violated (overlaid last ((s, c) ∷ []))) (filter (λ p. p.g == s) pairs) ≡ list_any (blocks_second last c) (filter (λ p. p.g == s) pairs)
second-violated s c last pairs a two =
    sym (changed-to last ((s, c) ∷ []) (s, c) pairs a refl (own-entry s c))
    ∙ any-kept (λ p. p.g == s) (is_violated_to (overlaid last ((s, c) ∷ [])) (s, c)) (blocks_second last c) pairs two
    (λ p t k. ap (λ b. (p.b == c) && b) (other-stands s c p.f p.a last a (λ e. of-two p t (sym e ∙ sym (eqb-true p.g s k)))))

neither : (a b : Bool) → not ((a || b) || false) ≡ (not a && not b)
neither true b = refl
neither false true = refl
neither false false = refl

free-violates : (book : BookView) (last : List (ℕ × ℕ)) (s c : ℕ) → IsInOrder book → IsAscending last → not (violates_at_some book (overlaid last ((s, c) ∷ [])) ((s, c) ∷ [])) ≡ is_free book last s c
free-violates book last s c order a =
    neither (list_any (is_violated (overlaid last ((s, c) ∷ []))) (filter (λ p. p.f == s) book.pairs)) (list_any (is_violated (overlaid last ((s, c) ∷ []))) (filter (λ p. p.g == s) book.pairs))
    ∙ ap₂ (λ x y. not x && not y) (first-violated s c last book.pairs a order.of_two) (second-violated s c last book.pairs a order.of_two)

-- What a fit of one channel proves.
pub record OneFits (book : BookView) (task : Task) (s c : ℕ) : Type 0 where
  pub of_set : is_in task.set s ≡ true
  pub of_domain : is_in (domain_of book s) c ≡ true
  pub free : is_free book task.last s c ≡ true

pub one-fits : (book : BookView) (task : Task) (s c : ℕ) → IsInOrder book → IsAscending task.last → fit_fault book task ((s, c) ∷ []) ≡ None → OneFits book task s c
one-fits book task s c order a e =
    let on = and_parts (is_in task.set s && is_in (domain_of book s) c) true (fit-on_domains book task ((s, c) ∷ []) refl e) in
    let parts = and_parts (is_in task.set s) (is_in (domain_of book s) c) on.0 in
    record { of_set = parts.0; of_domain = parts.1; free = sym (free-violates book task.last s c order a) ∙ ap not (fit-violates_none book task ((s, c) ∷ []) e) }

-- A free channel is a fit of one channel.
fits-one : (book : BookView) (task : Task) (s c : ℕ) → IsQuery book task → IsInOrder book → IsAscending task.last → task.station ≡ Some s → OneFits book task s c → (is_named task.station ((s, c) ∷ []) && is_none (fit_fault book task ((s, c) ∷ []))) ≡ true
fits-one book task s c query order a tested one =
    let delta : List (ℕ × ℕ) = (s, c) ∷ [] in
    let named : is_named task.station delta ≡ true = ap (λ o. is_named o delta) tested ∙ or_left (s == s) false (eq-eqb s s refl) in
    let on : is_on_domains book task.set delta ≡ true = and_from (is_in task.set s && is_in (domain_of book s) c) true (and_from (is_in task.set s) (is_in (domain_of book s) c) one.of_set one.of_domain) refl in
    let apart : violates_at_some book (overlaid task.last delta) delta ≡ false = not-true (violates_at_some book (overlaid task.last delta) delta) (free-violates book task.last s c order a ∙ one.free) in
    and_from (is_named task.station delta) (is_none (fit_fault book task delta)) named (ap is_none (fits-changed book task delta query named on apart))

pub free-fits : (book : BookView) (task : Task) (s : ℕ) (proposal : Proposal) (delta : List (ℕ × ℕ)) (fits : Bool) → IsQuery book task → IsInOrder book → IsAscending task.last → task.station ≡ Some s → is_in task.set s ≡ true → IsFreeChannel book task.last s proposal → delta ≡ changed proposal.own proposal.moved → fits ≡ (is_named task.station delta && is_none (fit_fault book task delta)) → fits ≡ true
free-fits book task s proposal delta fits query order a tested there way is e =
    let c = proposal.own.1 in
    let one : delta ≡ (s, c) ∷ [] = is ∙ ap (changed proposal.own) way.alone ∙ ap (λ f. (f, c) ∷ []) way.own in
    e ∙ ap (λ (z : List (ℕ × ℕ)). is_named task.station z && is_none (fit_fault book task z)) one
    ∙ fits-one book task s c query order a tested (record { of_set = there; of_domain = way.of_domain; free = way.free })

-- ---- the quick fits, if a channel of the tested station makes a fit by itself

same-some : {A : Type 0} (o : Option A) (x y : A) → o ≡ Some x → o ≡ Some y → x ≡ y
same-some o x y e f = cc

proposed : (book : BookView) (task : Task) (t s c : ℕ) (o : Option Proposal) → IsInOrder book → IsAscending task.last → task.station ≡ Some t → task.station ≡ Some s → fit_fault book task ((s, c) ∷ []) ≡ None → ((d : ℕ) → is_in (domain_of book t) d ≡ true → is_free book task.last t d ≡ true → IsFreeProposal book task.last t o) → (is_in task.set s ≡ true) × IsFreeProposal book task.last s o
proposed book task t s c o order a is tested e f =
    let one = one-fits book task s c order a e in
    let same : t ≡ s = same-some task.station t s is tested in
    let g = subst (λ z. (d : ℕ) → is_in (domain_of book z) d ≡ true → is_free book task.last z d ≡ true → IsFreeProposal book task.last z o) same f in
    (one.of_set, g c one.of_domain one.free)

-- Something is proposed.
pub not-unproposed : (book : BookView) (task : Task) (t s c : ℕ) (o : Option Proposal) → IsInOrder book → IsAscending task.last → task.station ≡ Some t → task.station ≡ Some s → fit_fault book task ((s, c) ∷ []) ≡ None → ((d : ℕ) → is_in (domain_of book t) d ≡ true → is_free book task.last t d ≡ true → IsFreeProposal book task.last t o) → o ≡ None → false ≡ true
not-unproposed book task t s c o order a is tested e f none =
    absurd (subst (IsFreeProposal book task.last s) none (proposed book task t s c o order a is tested e f).1)

-- The proposal fits.
pub not-refused : {A : Type 0} (book : BookView) (task : Task) (t s c : ℕ) (o : Option Proposal) (p : Proposal) (r : Option A) → IsInOrder book → IsAscending task.last → task.station ≡ Some t → task.station ≡ Some s → fit_fault book task ((s, c) ∷ []) ≡ None → ((d : ℕ) → is_in (domain_of book t) d ≡ true → is_free book task.last t d ≡ true → IsFreeProposal book task.last t o) → o ≡ Some p → ((z : ℕ) → task.station ≡ Some z → is_in task.set z ≡ true → IsFreeChannel book task.last z p → is_some r ≡ true) → r ≡ None → false ≡ true
not-refused book task t s c o p r order a is tested e f some judged none =
    let both = proposed book task t s c o order a is tested e f in
    sym (ap is_some none) ∙ judged s tested both.0 (subst (IsFreeProposal book task.last s) some both.1)

-- ---- the changes of a proposal, in order

pub changed-none : (own : ℕ × ℕ) (moved : Option (ℕ × ℕ)) → moved ≡ None → own ∷ [] ≡ changed own moved
changed-none own moved e = ap (changed own) (sym e)

pub changed-later : (own x : ℕ × ℕ) (moved : Option (ℕ × ℕ)) → moved ≡ Some x → own.0 < x.0 → own ∷ x ∷ [] ≡ changed own moved
changed-later own x moved e l = sym (ap (changed own) e ∙ put-before own x [] l)

pub changed-same : (own x : ℕ × ℕ) (moved : Option (ℕ × ℕ)) → moved ≡ Some x → own.0 ≡ x.0 → own ∷ [] ≡ changed own moved
changed-same own x moved e l = sym (ap (changed own) e ∙ put-here own x [] l)

pub changed-earlier : (own x : ℕ × ℕ) (moved : Option (ℕ × ℕ)) → moved ≡ Some x → x.0 < own.0 → x ∷ own ∷ [] ≡ changed own moved
changed-earlier own x moved e l = sym (ap (changed own) e ∙ put-behind own x [] l)

-- The ruleset for `changes`.
pub ruleset changing = (changed-none, changed-later, changed-same, changed-earlier)
