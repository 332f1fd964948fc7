-- How passes are made and joined, and what is left once all passes are joined into one. For `make` and `close`.
use Rattle.std.proofs.Common.{◌≡◌, ◌≢◌, ◌∙◌, ◌⊎◌, ℕ, ◌+◌, ◌^◌, ◌<◌, ◌==◌, List, [], ◌∷◌, ◌++◌, length, map, set, false, Option, Some, None, refl, sym, ap, subst, arith, inl, inr, ⊎_elim, suc, length-set, length-append, eq-eqb, ne_eqb}
use Rattle.std.specs.Prelude.{if◌then◌else◌, unwrap_or, option_map}
use mathlib.Core.Logic.{dite}
use mathlib.Core.Option.{some, some-injective}
use native.Mathlib.Decide.{ℕ_discrete}
use lib.ListN.{get_elem?}
use Rattle.std.proofs.lemmas.Bool.{cases_Bool, false≢true}
use Rattle.atomic_table.specs.Table.{State, Final, Joins, Seen, Splits}
use Rattle.atomic_table.proofs.Lists.{at_longer, set_else, set_here}
use Rattle.turn_lock.specs.declared.chronicle.PassKnowledge.{PassKnowledge}
use Rattle.turn_lock.specs.declared.chronicle.View.{View}
use Rattle.turn_lock.specs.Turns.{AllOf, FitsKnown, HasCount, IsKnownAs, IsClosedHistory, Knows, Moment, RuleKept, by, copy_of, either_of, joined_view, nobody, one_if, one_pass_more}
use Rattle.turn_lock.proofs.Lists.{all_map, all_more, at_more, by_none, each_set, inside, none_is, numbered, some_is, waiting_more, waiting_set}
use Rattle.turn_lock.proofs.Views.{Fit, apart, counts_else, counts_still, elsewhere, living, put_at, put_else, put_here, still, still_else, turning}
use Rattle.turn_lock.proofs.Weighs.{weighs_once}

-- a function with one value changed
abbrev moved : ℕ → ℕ → (ℕ → ℕ) → ℕ → ℕ
moved from to f t = if f t == from then to else f t

moved_here : (from to : ℕ) (f : ℕ → ℕ) (t : ℕ) → f t ≡ from → moved from to f t ≡ to
moved_here from to f t e = rw (eq-eqb (f t) from e) refl

moved_else : (from to : ℕ) (f : ℕ → ℕ) (t seat : ℕ) → f t ≡ seat → seat ≢ from → moved from to f t ≡ seat
moved_else from to f t seat e ne = rw (ne_eqb (f t) from (λ q. ne (sym e ∙ q))) e

module _ {T B E : Type 0} (base_of : T → B) (entries : T → List (ℕ × E)) (base : B) (start : List (ℕ × E)) where
  abbrev V : Type 0
  V = View B E

  abbrev At : Type 0
  At = Moment base start

  abbrev Rule : State (Option T) V → Type 0
  Rule = RuleKept base start base_of entries

  -- a pass is made
  pub splits : (id : ℕ) (v : V) (b : B) (n : ℕ) → v.base ≡ Some b → v.passes_made ≡ Some n → v.ticket ≡ None → v.turn ≡ false → n + 1 < 2 ^ 32 → Splits Rule id v (one_pass_more v) (copy_of v)
  splits id v b n based makes no_ticket out room s r at =
      let m = r.at in
      let mine = living m id v (r.fits id v at) b based in
      let is : n ≡ m.passes_made = (mine.passes_made n makes).0 in
      let keeps_it : m.keeper ≡ id = (mine.passes_made n makes).1 in
      let left : V = one_pass_more v in
      let right : V = copy_of v in
      let place : ℕ = length s.views in
      let m' : At = record m { passes_made = m.passes_made + 1; holder = put_at m.passes_made place m.holder } in
      let number : unwrap_or v.passes_made 0 ≡ m.passes_made = ap (λ (o : Option ℕ). unwrap_or o 0) makes ∙ is in
      let same_place : length (set s.views id left) ≡ place = length-set s.views id left in
      let one_more : suc m.passes_made ≡ m.passes_made + 1 = omega arith in
      let wider : (seat : ℕ) (k : PassKnowledge E) → FitsKnown base start m.passes_made m.tail m.holder seat k → FitsKnown base start m'.passes_made m.tail m'.holder seat k =
      λ seat k f. let below : k.number < m.passes_made = f.below in record { prefix = f.prefix; below = omega arith; holds = put_else m.passes_made place m.holder k.number (λ q. absurd (omega arith)) ∙ f.holds; mine = f.mine } in record {
        at = m';
        words = r.words;
        crowd = let c = r.crowd in omega (arith, length-append (set s.views id left) (right ∷ []), same_place);
        few = let c : n ≡ m.passes_made = is in omega arith;
        count = (
          left,
          at_longer (set s.views id left) (right ∷ []) m.keeper left (ap (get_elem? (set s.views id left)) keeps_it ∙ set_here s.views id left (inside s.views id v at)),
          ap (option_map (λ (a : ℕ). suc a)) makes ∙ ap (λ (k : ℕ). Some (suc k)) is ∙ ap (λ (k : ℕ). Some k) one_more,
        );
        waiting = let waits = waiting_set s.views id v left at in let more = waiting_more (set s.views id left) right in let before = r.waiting in omega arith;
        ticketed = λ t from lt. let h = still s.views id v left at refl (m.owner t) t (r.ticketed t from lt) in (h.0, at_longer (set s.views id left) (right ∷ []) (m.owner t) h.0 h.1, h.2);
        authors = all_map (λ e h. let below : e.0 < m.passes_made = h in omega arith) m.tail r.authors;
        fits = λ seat x e. ⊎_elim
            (each_set (Fit m') s.views id left
            (inr record {
              base_is = mine.base_is;
              start_is = mine.start_is;
              ticket = mine.ticket;
              turn = mine.turn;
              passes_made = λ k f. let q : suc n ≡ k = some_is (sym (ap (option_map (λ (a : ℕ). suc a)) makes) ∙ f) in (omega arith, keeps_it);
              own = wider id v.own mine.own;
              others = all_map (λ k f. (wider id k f.0, f.1)) v.joined mine.others;
            })
            (λ seat y ne q. ⊎_elim inl (λ l. inr record {
              base_is = l.base_is;
              start_is = l.start_is;
              ticket = l.ticket;
              turn = l.turn;
              passes_made = λ k f. absurd (ne (sym (l.passes_made k f).1 ∙ keeps_it));
              own = wider seat y.own l.own;
              others = all_map (λ k f. (wider seat k f.0, f.1)) y.joined l.others;
            }) (r.fits seat y q)) seat x)
            (λ (t : (seat ≡ length (set s.views id left)) × (right ≡ x)). subst (λ (p : ℕ × V). Fit m' p.0 p.1) (λ i. (sym (t.0 ∙ same_place) i, t.1 i)) (inr record {
              base_is = mine.base_is;
              start_is = mine.start_is;
              ticket = λ u f. absurd (none_is f);
              turn = λ f. absurd (false≢true f);
              passes_made = λ k f. absurd (none_is f);
              own = record {
                prefix = mine.own.prefix;
                below = subst (λ (k : ℕ). k < m.passes_made + 1) (sym number) (omega arith);
                holds = ap (put_at m.passes_made place m.holder) number ∙ put_here m.passes_made place m.holder;
                mine = ap (λ (k : ℕ). by k m.tail) number ∙ by_none m.passes_made m.tail r.authors;
              };
              others = tt;
            }))
            (at_more (set s.views id left) right x seat e);
        home = r.home;
        held = λ e. let h = r.held e in (h.0, at_longer (set s.views id left) (right ∷ []) (m.owner m.served) h.0 (set_else s.views id (m.owner m.served) left (apart s.views id v h.0 at out (m.owner m.served) h.1 h.2) ∙ h.1), h.2);
      }

  either_is : (a b : Option ℕ) (n : ℕ) → either_of a b ≡ Some n → (a ≡ Some n) ⊎ (b ≡ Some n)
  either_is None b n e = inr e
  either_is (Some k) b n e = inl e

  either_has : (a b : Option ℕ) (n : ℕ) → ((k : ℕ) → a ≡ Some k → k ≡ n) → b ≡ Some n → either_of a b ≡ Some n
  either_has None b n same e = e
  either_has (Some k) b n same e = ap (λ (j : ℕ). Some j) (same k refl)

  -- one pass is joined into another and becomes `nobody`
  pub joins : (id : ℕ) (v : V) (other : ℕ) (w : V) (a b : B) → v.base ≡ Some a → w.base ≡ Some b → v.ticket ≡ None → w.ticket ≡ None → v.turn ≡ false → w.turn ≡ false → Joins Rule id v other w (joined_view v w) nobody
  joins id v other w a b based w_based no_ticket w_none out w_out s r at apart_from there =
      let m = r.at in
      let both : V = joined_view v w in
      let w_at : get_elem? s.views other ≡ some w = sym (set_else s.views id other both apart_from) ∙ there in
      let lv = living m id v (r.fits id v at) a based in
      let lw = living m other w (r.fits other w w_at) b w_based in
      let id_not : id ≢ other = λ e. apart_from (sym e) in
      let m' : At = record m { keeper = moved other id (λ _. m.keeper) 0; holder = moved other id m.holder } in
      let stays : (seat : ℕ) (k : PassKnowledge E) → seat ≢ other → FitsKnown base start m.passes_made m.tail m.holder seat k → FitsKnown base start m.passes_made m.tail m'.holder seat k =
      λ seat k ne f. record { prefix = f.prefix; below = f.below; holds = moved_else other id m.holder k.number seat f.holds ne; mine = f.mine } in
      let comes : (k : PassKnowledge E) → FitsKnown base start m.passes_made m.tail m.holder other k → FitsKnown base start m.passes_made m.tail m'.holder id k × (k.number ≢ v.own.number) =
      λ k f. (record { prefix = f.prefix; below = f.below; holds = moved_here other id m.holder k.number f.holds; mine = f.mine }, λ same. apart_from (sym f.holds ∙ (ap m.holder same ∙ lv.own.holds))) in record {
        at = m';
        words = r.words;
        crowd = length-set (set s.views id both) other nobody ∙ (length-set s.views id both ∙ r.crowd);
        few = r.few;
        count = dite (ℕ_discrete m.keeper other)
            (λ is. let counted : w.passes_made ≡ Some m.passes_made = ap (λ (x : V). x.passes_made) (some-injective w r.count.0 (sym w_at ∙ (ap (get_elem? s.views) (sym is) ∙ r.count.1))) ∙ r.count.2 in (
              both,
              ap (get_elem? (set (set s.views id both) other nobody)) (moved_here other id (λ _. m.keeper) 0 is) ∙ (set_else (set s.views id both) other id nobody id_not ∙ set_here s.views id both (inside s.views id v at)),
              either_has v.passes_made w.passes_made m.passes_made (λ k q. (lv.passes_made k q).0) counted,
            ))
            (λ ne. subst (λ (k : ℕ). HasCount (set (set s.views id both) other nobody) k m.passes_made) (sym (moved_else other id (λ _. m.keeper) 0 m.keeper refl ne))
            (counts_else (set s.views id both) other nobody m.keeper m.passes_made ne
            (counts_still s.views id v both at (λ n q. ap (λ (o : Option ℕ). either_of o w.passes_made) q) m.keeper m.passes_made r.count)));
        waiting = let one = waiting_set s.views id v both at in let two = waiting_set (set s.views id both) other w nobody there in let zero_before : one_if w.ticket ≡ 0 = ap one_if w_none in let before = r.waiting in omega arith;
        ticketed = λ t from lt. let h = r.ticketed t from lt in
            still_else (set s.views id both) other nobody (m.owner t) t (elsewhere s.views other w h.0 w_at w_none (m.owner t) t h.1 h.2) (still s.views id v both at refl (m.owner t) t h);
        authors = r.authors;
        fits = each_set (Fit m') (set s.views id both) other nobody (inl refl)
            (λ seat x ne e. each_set (λ j y. j ≢ other → Fit m' j y) s.views id both
            (λ _. inr record {
              base_is = lv.base_is;
              start_is = lv.start_is;
              ticket = lv.ticket;
              turn = lv.turn;
              passes_made = λ n f. ⊎_elim
                  (λ q. ((lv.passes_made n q).0, moved_else other id (λ _. m.keeper) 0 id (lv.passes_made n q).1 id_not))
                  (λ q. ((lw.passes_made n q).0, moved_here other id (λ _. m.keeper) 0 (lw.passes_made n q).1))
                  (either_is v.passes_made w.passes_made n f);
              own = stays id v.own id_not lv.own;
              others = all_more (λ (k : PassKnowledge E). FitsKnown base start m.passes_made m.tail m'.holder id k × (k.number ≢ v.own.number)) v.joined (w.own ∷ w.joined)
                  (all_map (λ k f. (stays id k id_not f.0, f.1)) v.joined lv.others)
                  (comes w.own lw.own, all_map (λ k f. comes k f.0) w.joined lw.others);
            })
            (λ j y not_id q ne_other. ⊎_elim inl (λ l. inr record {
              base_is = l.base_is;
              start_is = l.start_is;
              ticket = l.ticket;
              turn = l.turn;
              passes_made = λ n f. ((l.passes_made n f).0, moved_else other id (λ _. m.keeper) 0 j (l.passes_made n f).1 ne_other);
              own = stays j y.own ne_other l.own;
              others = all_map (λ k f. (stays j k ne_other f.0, f.1)) y.joined l.others;
            }) (r.fits j y q))
            seat x e ne);
        home = r.home;
        held = λ e. let h = r.held e in let place : ℕ = m.owner m.served in
            (h.0, set_else (set s.views id both) other place nobody (apart s.views other w h.0 w_at w_out place h.1 h.2) ∙ (set_else s.views id place both (apart s.views id v h.0 at out place h.1 h.2) ∙ h.1), h.2);
      }

  held_by : (passes_made : ℕ) (tail : List (ℕ × E)) (holder : ℕ → ℕ) (seat n p : ℕ) (ks : List (PassKnowledge E)) → AllOf (λ k. FitsKnown base start passes_made tail holder seat k × (k.number ≢ n)) ks → Knows p (map numbered ks) → holder p ≡ seat
  held_by passes_made tail holder seat n p [] h g = absurd g
  held_by passes_made tail holder seat n p (k ∷ ks) h g = ⊎_elim (λ e. ap holder (sym e) ∙ h.0.0.holds) (held_by passes_made tail holder seat n p ks h.1) g

  -- a view that has taken in every pass and has no turn leaves the value in the slot, with the lock's base and the complete history
  pub settles : (id : ℕ) (v : V) (b : B) (n : ℕ) → v.base ≡ Some b → v.passes_made ≡ Some n → v.turn ≡ false → ((p : ℕ) → p < n → Knows p (map numbered (v.own ∷ v.joined))) → (s : State (Option T) V) → Seen Rule id v s
      → (value : T) × (tail : List (ℕ × E)) × (s.homes ≡ some (Some value) ∷ []) × (base_of value ≡ base) × (entries value ≡ start ++ tail) × AllOf (λ e. e.0 < n) tail × AllOf (IsKnownAs start tail) (v.own ∷ v.joined)
  settles id v b n based makes out all s seen =
      let r = seen.0 in
      let m = r.at in
      let mine = living m id v (r.fits id v seen.1) b based in
      let is : n ≡ m.passes_made = (mine.passes_made n makes).0 in
      let mine_all : (p : ℕ) → p < m.passes_made → m.holder p ≡ id = λ p h. ⊎_elim (λ e. ap m.holder (sym e) ∙ mine.own.holds) (held_by m.passes_made m.tail m.holder id v.own.number p v.joined mine.others) (all p (omega arith)) in
      let free : m.taken ≡ false = elim (cases_Bool m.taken) [
        | inl e ↦ let h = r.held e in let l = turning m (m.owner m.served) h.0 (r.fits (m.owner m.served) h.0 h.1) h.2 in
            absurd (apart s.views id v h.0 seen.1 out (m.owner m.served) h.1 h.2 (sym l.own.holds ∙ mine_all h.0.own.number l.own.below))
        | inr e ↦ e
      ] in
      let home = r.home free in (
        home.0,
        m.tail,
        home.1,
        home.3,
        home.2,
        subst (λ (k : ℕ). AllOf (λ (e : ℕ × E). e.0 < k) m.tail) (sym is) r.authors,
        (record { prefix = mine.own.prefix; mine = mine.own.mine }, all_map (λ k f. record { prefix = f.0.prefix; mine = f.0.mine }) v.joined mine.others),
      )

  -- the slot of a closed table has the value
  pub ends : (id : ℕ) (v : V) (b : B) (n : ℕ) → v.base ≡ Some b → v.passes_made ≡ Some n → v.turn ≡ false → length (v.own ∷ v.joined) ≡ n → ((p : ℕ) → p < n → Knows p (map numbered (v.own ∷ v.joined))) → (ws : List ℕ) (xs : List (Option T)) → Final (Seen Rule id v) ws xs
      → (slot : Option T) → get_elem? xs 0 ≡ some slot → (value : T) × (slot ≡ Some value) × (base_of value ≡ base) × IsClosedHistory n start (entries value) (v.own ∷ v.joined)
  ends id v b n based makes out many all ws xs f slot at =
      let t = settles id v b n based makes out all f.0 f.1 in
      (t.0, some-injective slot (Some t.0) (sym at ∙ f.4 0 (Some t.0) (ap (λ hs. get_elem? hs 0) t.2)), t.3, record { tail = t.1; log_is = t.4; authors = t.5; known_as = t.6; once = λ weight. weighs_once weight start t.1 n (v.own ∷ v.joined) many all t.5 t.6 })
