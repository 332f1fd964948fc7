-- One more move of a walk: what holds of a walk holds after it.
use Rattle.std.proofs.Common.{◌≡◌, ℕ, true, false, ◌&&◌, List, [], ◌∷◌, ◌++◌, refl, sym, ap, subst, ◌∙◌, inl, inr}
use Rattle.std.specs.List.{list_all}
use Rattle.std.proofs.lemmas.Bool.{and_from, and_parts, cases_order}
use Rattle.pack_defs.specs.Book.{BookView, domain_of}
use Rattle.pack_defs.specs.ChannelMap.{overlaid, put}
use Rattle.pack_defs.specs.Lists.{has_entry, is_in}
use Rattle.pack_defs.proofs.MapLemmas.{put-ascending, put-before, put-behind, put-here}
use Rattle.pack_defs.proofs.Members.{list_any-from, list_any-gives}
use Rattle.assign_check.specs.Fault.{is_violated}
use Rattle.assign_check.specs.Assignment.{is_of}
use Rattle.assign_check.proofs.Moves.{put-stations}
use Rattle.cert_types.specs.Moves.{AreSpentMoves, IsSpentMove, has_violation, violates_some}
use Rattle.cert_types.proofs.WalkLemmas.{troubled-there}
use Rattle.walk_repack.specs.WalkState.{WalkStateView, IsWalkState, AreOnDomains}

-- If a station is of a violated pair, some pair is violated.
pub troubled-violates : (book : BookView) (entries : List (ℕ × ℕ)) (s : ℕ) → has_violation book entries s ≡ true → violates_some book entries ≡ true
troubled-violates book entries s h =
    let found = list_any-gives (λ p. is_of s p && is_violated entries p) book.pairs h in
    list_any-from (is_violated entries) book.pairs found.0 found.1 (and_parts (is_of s found.0) (is_violated entries found.0) found.2).1

put-domains : (book : BookView) (x : ℕ × ℕ) (entries : List (ℕ × ℕ)) → is_in (domain_of book x.0) x.1 ≡ true → AreOnDomains book entries → AreOnDomains book (put x entries)
put-domains book x [] d a = and_from (is_in (domain_of book x.0) x.1) true d refl
put-domains book x (y ∷ ys) d a =
    let on = λ (z : ℕ × ℕ). is_in (domain_of book z.0) z.1 in
    let parts = and_parts (on y) (list_all on ys) a in
    elim (cases_order x.0 y.0) [
      | inl e ↦ subst (λ m. list_all on m ≡ true) (sym (put-here x y ys e)) (and_from (on x) (list_all on ys) d parts.1)
      | inr o ↦ elim o [
        | inl less ↦ subst (λ m. list_all on m ≡ true) (sym (put-before x y ys less)) (and_from (on x) (list_all on (y ∷ ys)) d a)
        | inr more ↦ subst (λ m. list_all on m ≡ true) (sym (put-behind x y ys more)) (and_from (on y) (list_all on (put x ys)) parts.0 (put-domains book x ys d parts.1))
      ]
    ]

overlaid-more : (start moves : List (ℕ × ℕ)) (x : ℕ × ℕ) → overlaid start (moves ++ x ∷ []) ≡ put x (overlaid start moves)
overlaid-more start [] x = refl
overlaid-more start (y ∷ ys) x = overlaid-more (put y start) ys x

spent-more : (book : BookView) (start moves : List (ℕ × ℕ)) (x : ℕ × ℕ) → AreSpentMoves book start moves → IsSpentMove book (overlaid start moves) x → AreSpentMoves book start (moves ++ x ∷ [])
spent-more book start [] x a m = (m, tt)
spent-more book start (y ∷ ys) x a m = (a.0, spent-more book (put y start) ys x a.1 m)

-- What holds of a walk holds after another move.
pub walk_state-more : (v : WalkStateView) (s c : ℕ) → IsWalkState v → has_violation v.book v.entries s ≡ true → is_in (domain_of v.book s) c ≡ true → has_entry v.entries (s, c) ≡ false → IsWalkState (record { book = v.book; start = v.start; moves = v.moves ++ (s, c) ∷ []; entries = put (s, c) v.entries })
walk_state-more v s c h violating on other = record {
  ascending = put-ascending (s, c) v.entries h.ascending;
  leads = overlaid-more v.start v.moves (s, c) ∙ ap (put (s, c)) h.leads;
  stations = put-stations v.entries s c h.ascending (troubled-there v.book v.entries s violating) ∙ h.stations;
  on_domains = put-domains v.book (s, c) v.entries on h.on_domains;
  spent = λ still.
      spent-more v.book v.start v.moves (s, c) (h.spent (troubled-violates v.book v.entries s violating))
      (subst (λ es. IsSpentMove v.book es (s, c)) (sym h.leads) (record { violating = violating; on_domain = on; elsewhere = other; still = still }));
}

-- The same, with the later parts known by equations.
pub walk_state-next : (v : WalkStateView) (s c : ℕ) (moves entries : List (ℕ × ℕ)) → IsWalkState v → has_violation v.book v.entries s ≡ true → is_in (domain_of v.book s) c ≡ true → has_entry v.entries (s, c) ≡ false → moves ≡ v.moves ++ (s, c) ∷ [] → entries ≡ put (s, c) v.entries → IsWalkState (record { book = v.book; start = v.start; moves = moves; entries = entries })
walk_state-next v s c moves entries h violating on other f g =
    subst (λ (ms : List (ℕ × ℕ)). IsWalkState (record { book = v.book; start = v.start; moves = ms; entries = entries })) (sym f)
    (subst (λ (es : List (ℕ × ℕ)). IsWalkState (record { book = v.book; start = v.start; moves = v.moves ++ (s, c) ∷ []; entries = es })) (sym g)
    (walk_state-more v s c h violating on other))
