-- One station that may use only one channel fits from that channel on.
use Rattle.std.proofs.Common.{◌≡◌, ℕ, ◌<◌, ◌≤◌, Bool, true, false, cond, leb, List, [], ◌∷◌, map, refl, ◌∙◌}
use Rattle.std.specs.List.{list_any, flat_map}
use Rattle.std.proofs.lemmas.Bool.{le-leb, lt-leb}
use Rattle.pack_defs.specs.Packing.{assignments, fits, is_apart}
use Rattle.target_seek.specs.TopChannels.{book_at, fits_at}
use Rattle.target_seek.specs.Examples.{one_station}

one_station-is : (channel top : ℕ) → fits_at (one_station channel) top ≡ leb channel top
unfolding one_station fits assignments is_apart
one_station-is channel top =
    let own : Bool → List ℕ = λ b. cond b (channel ∷ []) [] in
    elim (leb channel top) as (λ b. list_any (is_apart (book_at (one_station channel) top)) (flat_map (λ c. map (λ rest. (1, c) ∷ rest) ([] ∷ [])) (own b)) ≡ b) [
      | true ↦ refl
      | false ↦ refl
    ]

pub one_station-fits : (channel top : ℕ) → channel ≤ top → fits_at (one_station channel) top ≡ true
one_station-fits channel top within = one_station-is channel top ∙ le-leb channel top within

pub one_station-unfit : (channel top : ℕ) → top < channel → fits_at (one_station channel) top ≡ false
one_station-unfit channel top above = one_station-is channel top ∙ lt-leb channel top above
