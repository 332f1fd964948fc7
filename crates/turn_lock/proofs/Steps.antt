-- Each step on the words keeps the rule. For `turns`.
use Rattle.std.proofs.Common.{◌≡◌, ◌≢◌, ◌∙◌, ℕ, ◌+◌, ◌%◌, ◌^◌, ◌<◌, ◌≤◌, List, [], ◌∷◌, ◌++◌, length, get_or, set, true, false, Option, Some, None, refl, sym, ap, subst, arith, inl, inr, ⊎_elim, length-set, append_assoc, length-append}
use mathlib.Core.Logic.{dite}
use mathlib.Core.Option.{none, some, some-injective}
use native.Mathlib.Decide.{ℕ_discrete}
use lib.ListN.{get_elem?}
use lib.Seq.{set-get_or}
use Rattle.std.proofs.lemmas.Bool.{cases_Bool, false≢true, true≢false}
use Rattle.std.proofs.lemmas.List.{append-nil}
use Rattle.atomic_table.specs.Table.{State, Me, step, keeps, takes, gives, opening, put_back, rest, Allows}
use Rattle.atomic_table.proofs.Lists.{set_again, set_here, set_else, one_turn}
use Rattle.turn_lock.specs.declared.chronicle.PassKnowledge.{PassKnowledge}
use Rattle.turn_lock.specs.declared.chronicle.View.{View}
use Rattle.turn_lock.specs.Turns.{FitsKnown, Moment, RuleKept, StartsWith, counted, drawn, founder, known, left, looked, one_if}
use Rattle.turn_lock.proofs.Lists.{all_map, all_more, by_more, by_other, each_set, inside, mod_more, none_is, one_slot, some_is, waiting_le, waiting_set}
use Rattle.turn_lock.proofs.Views.{Fit, apart, counts_still, elsewhere, living, one_view, put_at, put_else, put_here, still, still_else, turning}

module _ {T B E : Type 0} (base_of : T → B) (entries : T → List (ℕ × E)) (base : B) (start : List (ℕ × E)) where
  abbrev V : Type 0
  V = View B E

  abbrev M : Type 0
  M = Me (Option T) V

  abbrev At : Type 0
  At = Moment base start

  abbrev Rule : State (Option T) V → Type 0
  Rule = RuleKept base start base_of entries

  -- at most one view has the turn
  alone : (s : State (Option T) V) (r : Rule s) (i j : ℕ) (v w : V) → get_elem? s.views i ≡ some v → v.turn ≡ true → get_elem? s.views j ≡ some w → w.turn ≡ true → i ≡ j
  alone s r i j v w a p b q =
      let f = turning r.at i v (r.fits i v a) p in
      let g = turning r.at j w (r.fits j w b) q in
      sym (f.ticket r.at.served (f.turn p).0).2 ∙ (g.ticket r.at.served (g.turn q).0).2

  few : (s : State (Option T) V) (r : Rule s) → r.at.issued < r.at.served + 2 ^ 64
  few s r = let c = r.crowd in let f = r.few in let w = r.waiting in let l = waiting_le s.views in omega arith

  pub opens : (value : T) → entries value ≡ start → base_of value ≡ base → (count : ℕ) → count ≡ length (entries value) → Rule (opening (0 ∷ 0 ∷ count ∷ []) (Some value ∷ []) (founder base start))
  opens value is based count counts =
      let m : At = record { issued = 0; served = 0; passes_made = 1; keeper = 0; tail = []; owner = λ _. 0; holder = λ _. 0; taken = false } in record {
        at = m;
        words = ap (λ (k : ℕ). 0 ∷ 0 ∷ k ∷ []) (counts ∙ ap length (is ∙ sym (append-nil start)));
        crowd = refl;
        few = omega arith;
        count = (founder base start, refl, refl);
        waiting = refl;
        ticketed = λ t le lt. let below : t < 0 = lt in absurd (omega arith);
        authors = tt;
        fits = one_view (Fit m) (founder base start) (inr record {
          base_is = refl;
          start_is = refl;
          ticket = λ t e. absurd (none_is e);
          turn = λ e. absurd (false≢true e);
          passes_made = λ n e. (sym (some_is e), refl);
          own = record { prefix = ([], refl); below = omega arith; holds = refl; mine = refl };
          others = tt;
        });
        home = λ _. (value, refl, is ∙ sym (append-nil start), based);
        held = λ e. absurd (false≢true e);
      }

  pub draws : (slots id : ℕ) (me : M) (b : B) → me.0.base ≡ Some b → me.0.ticket ≡ None → me.0.turn ≡ false → Allows Rule slots id me 0 (λ n. (n + 1) % 2 ^ 64) (drawn base_of entries (step slots 0 1 0 none) me)
  draws slots id me b based no_ticket out s r wide at small =
      let m = r.at in
      let n : ℕ = m.issued in
      let w : V = record me.0 { ticket = Some n } in
      let m' : At = record m { issued = n + 1; owner = put_at n id m.owner } in
      let mine = living m id me.0 (r.fits id me.0 at) b based in
      let waits = waiting_set s.views id me.0 w at in
      let zero_before : one_if me.0.ticket ≡ 0 = ap one_if no_ticket in
      let before = r.waiting in (
        w,
        keeps,
        tt,
        record {
          at = m';
          words = ap (λ ws. set ws 0 ((get_or ws 0 0 + 1) % 2 ^ 64)) r.words ∙ ap (λ (k : ℕ). k ∷ m.served % 2 ^ 64 ∷ length (start ++ m.tail) ∷ []) (mod_more n);
          crowd = length-set s.views id w ∙ r.crowd;
          few = r.few;
          count = counts_still s.views id me.0 w at (λ _ q. q) m.keeper m.passes_made r.count;
          waiting = omega arith;
          ticketed = λ t le lt. dite (ℕ_discrete t n)
              (λ is. (w, ap (get_elem? (set s.views id w)) (ap (put_at n id m.owner) is ∙ put_here n id m.owner) ∙ set_here s.views id w (inside s.views id me.0 at), ap (λ (k : ℕ). Some k) (sym is)))
              (λ ne. let below : t < n + 1 = lt in let h = r.ticketed t le (omega arith) in
              (h.0, ap (get_elem? (set s.views id w)) (put_else n id m.owner t ne) ∙ (set_else s.views id (m.owner t) w (elsewhere s.views id me.0 h.0 at no_ticket (m.owner t) t h.1 h.2) ∙ h.1), h.2));
          authors = r.authors;
          fits = each_set (Fit m') s.views id w
              (inr record {
                base_is = mine.base_is;
                start_is = mine.start_is;
                ticket = λ t e. let same : n ≡ t = some_is e in (omega arith, omega arith, ap (put_at n id m.owner) (sym same) ∙ put_here n id m.owner);
                turn = λ e. absurd (false≢true (sym out ∙ e));
                passes_made = mine.passes_made;
                own = mine.own;
                others = mine.others;
              })
              (λ seat v ne e. ⊎_elim inl (λ l. inr record {
                base_is = l.base_is;
                start_is = l.start_is;
                ticket = λ t f. let h = l.ticket t f in let below : t < n = h.1 in (h.0, omega arith, put_else n id m.owner t (λ q. absurd (omega arith)) ∙ h.2);
                turn = l.turn;
                passes_made = l.passes_made;
                own = l.own;
                others = l.others;
              }) (r.fits seat v e));
          home = r.home;
          held = λ e. let h = r.held e in let f = turning m (m.owner m.served) h.0 (r.fits (m.owner m.served) h.0 h.1) h.2 in let below : m.served < n = (f.ticket m.served (f.turn h.2).0).1 in
              (h.0, ap (get_elem? (set s.views id w)) (put_else n id m.owner m.served (λ q. absurd (omega arith))) ∙ (set_else s.views id (m.owner m.served) w (apart s.views id me.0 h.0 at out (m.owner m.served) h.1 h.2) ∙ h.1), h.2);
        },
        (n, ap (λ ws. get_or ws 0 0) r.words, refl),
      )

  pub looks : (slots id : ℕ) (me : M) (b : B) (t : ℕ) → me.0.base ≡ Some b → me.0.ticket ≡ Some t → me.0.turn ≡ false → Allows Rule slots id me 1 (λ n. n) (looked base_of entries (step slots 1 0 0 none) me)
  looks slots id me b t based ticket out s r wide at small =
      let m = r.at in
      let mine = living m id me.0 (r.fits id me.0 at) b based in
      let own = mine.ticket t ticket in
      let le : m.served ≤ t = own.0 in
      let below : t < m.issued = own.1 in
      let number : get_or s.words 1 0 ≡ m.served % 2 ^ 64 = ap (λ ws. get_or ws 1 0) r.words in
      let many = few s r in
      dite (ℕ_discrete m.served t)
      (λ is.
      let owns : m.owner m.served ≡ id = ap m.owner is ∙ own.2 in
      let free : m.taken ≡ false = elim (cases_Bool m.taken) [
        | inl e ↦ let h = r.held e in absurd (apart s.views id me.0 h.0 at out (m.owner m.served) h.1 h.2 owns)
        | inr e ↦ e
      ] in
      let home = r.home free in
      let value : T = home.0 in
      let w : V = record me.0 { turn = true; own = known me.0.own.number (entries value) me.0.own.mine } in
      let m' : At = record m { taken = true } in (
        w,
        takes 0 (Some value),
        ap (λ hs. get_elem? hs 0) home.1,
        record {
          at = m';
          words = ap (λ ws. set ws 1 (get_or ws 1 0)) r.words;
          crowd = length-set s.views id w ∙ r.crowd;
          few = r.few;
          count = counts_still s.views id me.0 w at (λ _ q. q) m.keeper m.passes_made r.count;
          waiting = let waits = waiting_set s.views id me.0 w at in let before = r.waiting in omega arith;
          ticketed = λ u from lt. still s.views id me.0 w at refl (m.owner u) u (r.ticketed u from lt);
          authors = r.authors;
          fits = each_set (Fit m') s.views id w
              (inr record {
                base_is = mine.base_is;
                start_is = mine.start_is;
                ticket = mine.ticket;
                turn = λ _. (ticket ∙ ap (λ (n : ℕ). Some n) (sym is), home.2, refl);
                passes_made = mine.passes_made;
                own = record { prefix = ([], sym home.2 ∙ sym (append-nil (entries value))); below = mine.own.below; holds = mine.own.holds; mine = mine.own.mine };
                others = mine.others;
              })
              (λ seat v ne e. ⊎_elim inl (λ l. inr record {
                base_is = l.base_is;
                start_is = l.start_is;
                ticket = l.ticket;
                turn = λ has. absurd (false≢true (sym free ∙ (l.turn has).2));
                passes_made = l.passes_made;
                own = l.own;
                others = l.others;
              }) (r.fits seat v e));
          home = λ e. absurd (true≢false e);
          held = λ _. (w, ap (get_elem? (set s.views id w)) owns ∙ set_here s.views id w (inside s.views id me.0 at), refl);
        },
        λ u f. let same : t ≡ u = some_is (sym ticket ∙ f) in (
          (λ _. (value, refl, subst (λ log. StartsWith log me.0.own.seen) (sym home.2) mine.own.prefix, mine.base_is ∙ ap (λ (x : B). Some x) (sym home.3), record { tail = m.tail; knows_seen = home.2 ∙ ap (λ (l : List (ℕ × E)). l ++ m.tail) (sym mine.start_is); knows_mine = mine.own.mine })),
          λ ne. absurd (ne (number ∙ ap (λ (n : ℕ). n % 2 ^ 64) (is ∙ same))),
        ),
      ))
      (λ other. (
        me.0,
        keeps,
        tt,
        subst (λ (p : List ℕ × List V). Rule record { words = p.0; homes = s.homes; views = p.1 }) (λ i. (sym (set-get_or s.words 1 0) i, sym (set_again s.views id me.0 at) i)) r,
        λ u f. let same : t ≡ u = some_is (sym ticket ∙ f) in (
          (λ e. absurd (other (one_turn m.served t (2 ^ 64) le (omega arith) (sym number ∙ (e ∙ ap (λ (n : ℕ). n % 2 ^ 64) (sym same)))))),
          λ _. refl,
        ),
      ))

  -- knowledge of a pass stays right when another pass adds an entry
  longer : (passes_made : ℕ) (tail : List (ℕ × E)) (holder : ℕ → ℕ) (seat : ℕ) (k : PassKnowledge E) (e : ℕ × E) → e.0 ≢ k.number → FitsKnown base start passes_made tail holder seat k → FitsKnown base start passes_made (tail ++ e ∷ []) holder seat k
  longer passes_made tail holder seat k e ne f = record {
    prefix = (f.prefix.0 ++ e ∷ [], sym (append_assoc start tail (e ∷ [])) ∙ (ap (λ l. l ++ e ∷ []) f.prefix.1 ∙ append_assoc k.seen f.prefix.0 (e ∷ [])));
    below = f.below;
    holds = f.holds;
    mine = by_other k.number tail e ne ∙ f.mine;
  }

  pub counts : (slots id : ℕ) (me : M) (e : ℕ × E) → me.0.turn ≡ true → e.0 ≡ me.0.own.number → length me.0.own.seen + 1 < 2 ^ 64 → Allows Rule slots id me 2 (λ n. (n + 1) % 2 ^ 64) (counted base_of entries (Some e) (step slots 2 1 0 none) me)
  counts slots id me e has number small s r wide at _ =
      let m = r.at in
      let mine = turning m id me.0 (r.fits id me.0 at) has in
      let turn = mine.turn has in
      let seen : me.0.own.seen ≡ start ++ m.tail = turn.1 in
      let tail : List (ℕ × E) = m.tail ++ e ∷ [] in
      let m' : At = record m { tail = tail } in
      let w : V = record me.0 { own = known me.0.own.number (me.0.own.seen ++ e ∷ []) (me.0.own.mine ++ e ∷ []) } in
      let owns : m.owner m.served ≡ id = (mine.ticket m.served turn.0).2 in
      let whole : start ++ tail ≡ me.0.own.seen ++ e ∷ [] = sym (append_assoc start m.tail (e ∷ [])) ∙ ap (λ l. l ++ e ∷ []) (sym seen) in
      let same_length : length me.0.own.seen ≡ length (start ++ m.tail) = ap length seen in
      let one_more : (length (start ++ m.tail) + 1) % 2 ^ 64 ≡ length (start ++ tail) =
      let a : length (start ++ tail) ≡ length me.0.own.seen + 1 = ap length whole ∙ length-append me.0.own.seen (e ∷ []) in omega arith in
      let other : (seat : ℕ) → seat ≢ id → (k : PassKnowledge E) → FitsKnown base start m.passes_made m.tail m.holder seat k → e.0 ≢ k.number =
      λ seat ne k f same. ne (sym f.holds ∙ (ap m.holder (sym same ∙ number) ∙ mine.own.holds)) in (
        w,
        keeps,
        tt,
        record {
          at = m';
          words = ap (λ ws. set ws 2 ((get_or ws 2 0 + 1) % 2 ^ 64)) r.words ∙ ap (λ (k : ℕ). m.issued % 2 ^ 64 ∷ m.served % 2 ^ 64 ∷ k ∷ []) one_more;
          crowd = length-set s.views id w ∙ r.crowd;
          few = r.few;
          count = counts_still s.views id me.0 w at (λ _ q. q) m.keeper m.passes_made r.count;
          waiting = let waits = waiting_set s.views id me.0 w at in let before = r.waiting in omega arith;
          ticketed = λ u from lt. still s.views id me.0 w at refl (m.owner u) u (r.ticketed u from lt);
          authors = all_more (λ (x : ℕ × E). x.0 < m.passes_made) m.tail (e ∷ []) r.authors (subst (λ (k : ℕ). k < m.passes_made) (sym number) mine.own.below, tt);
          fits = each_set (Fit m') s.views id w
              (inr record {
                base_is = mine.base_is;
                start_is = mine.start_is;
                ticket = mine.ticket;
                turn = λ _. (turn.0, sym whole, turn.2);
                passes_made = mine.passes_made;
                own = record {
                  prefix = ([], whole ∙ sym (append-nil (me.0.own.seen ++ e ∷ [])));
                  below = mine.own.below;
                  holds = mine.own.holds;
                  mine = by_more me.0.own.number m.tail e number ∙ ap (λ l. l ++ e ∷ []) mine.own.mine;
                };
                others = all_map (λ k f. (longer m.passes_made m.tail m.holder id k e (λ same. f.1 (sym same ∙ number)) f.0, f.1)) me.0.joined mine.others;
              })
              (λ seat v ne q. ⊎_elim inl (λ l. inr record {
                base_is = l.base_is;
                start_is = l.start_is;
                ticket = l.ticket;
                turn = λ p. absurd (ne (alone s r seat id v me.0 q p at has));
                passes_made = l.passes_made;
                own = longer m.passes_made m.tail m.holder seat v.own e (other seat ne v.own l.own) l.own;
                others = all_map (λ k f. (longer m.passes_made m.tail m.holder seat k e (other seat ne k f.0) f.0, f.1)) v.joined l.others;
              }) (r.fits seat v q));
          home = λ f. absurd (true≢false (sym turn.2 ∙ f));
          held = λ _. (w, ap (get_elem? (set s.views id w)) owns ∙ set_here s.views id w (inside s.views id me.0 at), has);
        },
        refl,
      )

  pub leaves : (id : ℕ) (me : M) (t new : ℕ) (value : T) → me.0.ticket ≡ Some t → me.0.turn ≡ true → new ≡ (t + 1) % 2 ^ 64 → me.1 ≡ (0, Some value) ∷ [] → entries value ≡ me.0.own.seen → Some (base_of value) ≡ me.0.base
      → Allows Rule 1 id me 1 (λ _. new) (λ _. left base_of entries (step 1 1 new 0 none) me new)
  leaves id me t new value ticket has next carried stands based s r wide at _ =
      let m = r.at in
      let mine = turning m id me.0 (r.fits id me.0 at) has in
      let turn = mine.turn has in
      let is : m.served ≡ t = some_is (sym turn.0 ∙ ticket) in
      let w : V = record me.0 { ticket = None; turn = false } in
      let m' : At = record m { served = m.served + 1; taken = false } in
      let owns : m.owner m.served ≡ id = (mine.ticket m.served turn.0).2 in
      let below : m.served < m.issued = (mine.ticket m.served turn.0).1 in (
        w,
        gives,
        tt,
        record {
          at = m';
          words = ap (λ ws. set ws 1 new) r.words ∙ ap (λ (k : ℕ). m.issued % 2 ^ 64 ∷ k ∷ length (start ++ m.tail) ∷ []) (next ∙ ap (λ (n : ℕ). (n + 1) % 2 ^ 64) (sym is));
          crowd = length-set s.views id w ∙ r.crowd;
          few = r.few;
          count = counts_still s.views id me.0 w at (λ _ q. q) m.keeper m.passes_made r.count;
          waiting = let waits = waiting_set s.views id me.0 w at in let one : one_if me.0.ticket ≡ 1 = ap one_if ticket in let before = r.waiting in omega arith;
          ticketed = λ u from lt.
              let after : m.served + 1 ≤ u = from in
              let h = r.ticketed u (omega arith) lt in
              let other : m.owner u ≢ id = λ e.
              let same : u ≡ m.served = some_is (sym h.2 ∙ (ap (λ (x : V). x.ticket) (some-injective h.0 me.0 (sym h.1 ∙ (ap (get_elem? s.views) e ∙ at))) ∙ turn.0)) in absurd (omega arith) in
              still_else s.views id w (m.owner u) u other h;
          authors = r.authors;
          fits = each_set (Fit m') s.views id w
              (inr record {
                base_is = mine.base_is;
                start_is = mine.start_is;
                ticket = λ u e. absurd (none_is e);
                turn = λ e. absurd (false≢true e);
                passes_made = mine.passes_made;
                own = mine.own;
                others = mine.others;
              })
              (λ seat v ne q. ⊎_elim inl (λ l. inr record {
                base_is = l.base_is;
                start_is = l.start_is;
                ticket = λ u e. let h = l.ticket u e in let le : m.served ≤ u = h.0 in
                    let differs : u ≢ m.served = λ same. ne (sym h.2 ∙ (ap m.owner same ∙ owns)) in (omega arith, h.1, h.2);
                turn = λ p. absurd (ne (alone s r seat id v me.0 q p at has));
                passes_made = l.passes_made;
                own = l.own;
                others = l.others;
              }) (r.fits seat v q));
          home = λ _. (value, ap (put_back s.homes) carried ∙ one_slot s.homes (some (Some value)) wide, stands ∙ turn.1, some_is (based ∙ mine.base_is));
          held = λ e. absurd (false≢true e);
        },
        ap (λ (c : List (ℕ × Option T)). (w, rest c)) carried,
      )
