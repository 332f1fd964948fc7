-- The auction's walk to its next query, and the walk over the steps of a transcript, side by side.
use Rattle.std.proofs.Common.{◌≡◌, Bool, true, false, List, [], ◌∷◌, Option, Some, None, refl, subst, inl, inr, ◌⊎◌}
use Rattle.pack_defs.specs.declared.scenario.Scenario.{Scenario}
use Rattle.pack_defs.specs.Book.{BookView}
use Rattle.pack_defs.specs.ClockRule.{ClockTest, is_active}
use Rattle.auction_core.specs.declared.record.Shown.{Shown}
use Rattle.auction_core.specs.State.{CoreState, settled, settled_unasked, advance_to_query}
use Rattle.auction_core.specs.NotShown.{next_asked}

-- going on settles the next test that is asked, without a query
pub record IsUnasked (sc : Scenario) (book : BookView) (ts : List ClockTest) (state : CoreState) : Type 0 where
  pub test : ClockTest
  pub rest : List ClockTest
  pub own : Shown
  pub asked : next_asked state.clock ts ≡ test ∷ rest
  pub so : settled_unasked sc book state test ≡ Some own
  pub goes : advance_to_query sc book ts state ≡ advance_to_query sc book rest (settled sc state test own)

-- going on stops at the next test that is asked, or at the end
pub record IsStop (sc : Scenario) (book : BookView) (ts : List ClockTest) (state : CoreState) : Type 0 where
  pub stops : advance_to_query sc book ts state ≡ record state { left = next_asked state.clock ts }
  pub query : (t : ClockTest) (rest : List ClockTest) → next_asked state.clock ts ≡ t ∷ rest → settled_unasked sc book state t ≡ None

no-head : (u : ClockTest) (us : List ClockTest) → [] ≡ u ∷ us → ⊥
no-head u us e = cc

head-is : (t u : ClockTest) (ts us : List ClockTest) → t ∷ ts ≡ u ∷ us → t ≡ u
head-is t u ts us e = cc

pub goes-on : (sc : Scenario) (book : BookView) (ts : List ClockTest) (state : CoreState) → IsUnasked sc book ts state ⊎ IsStop sc book ts state
goes-on sc book [] state = inr (record { stops = refl; query = λ t rest e. absurd (no-head t rest e) })
goes-on sc book (t ∷ ts) state = outer (is_active state.clock t.station) refl (goes-on sc book ts state)
  where
    outer : (b : Bool) → is_active state.clock t.station ≡ b → IsUnasked sc book ts state ⊎ IsStop sc book ts state → IsUnasked sc book (t ∷ ts) state ⊎ IsStop sc book (t ∷ ts) state
    outer false idle (inl u) = inl (record { test = u.test; rest = u.rest; own = u.own; asked = rw idle u.asked; so = u.so; goes = rw idle u.goes })
    outer false idle (inr s) = inr (record { stops = rw idle s.stops; query = λ v rest e. s.query v rest (rw idle at e) })
    outer true active more = inner (settled_unasked sc book state t) refl
      where
        inner : (o : Option Shown) → settled_unasked sc book state t ≡ o → IsUnasked sc book (t ∷ ts) state ⊎ IsStop sc book (t ∷ ts) state
        inner (Some own) is = inl (record { test = t; rest = ts; own = own; asked = rw active refl; so = is; goes = rw (active, is) refl })
        inner None is = inr (record {
          stops = rw (active, is) refl;
          query = λ u rest e. subst (λ (v : ClockTest). settled_unasked sc book state v ≡ None) (head-is t u ts rest (rw active at e)) is;
        })
