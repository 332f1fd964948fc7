-- For `stations` and `rows`: the generator a few words later.
use Rattle.std.proofs.Common.{◌≡◌, ◌∙◌, ◌+◌, ◌-◌, ◌*◌, ◌%◌, ◌==◌, ◌∷◌, ◌++◌, [], ℕ, suc, Bool, true, false, List, Some, nat_lt, cond, ne_eqb, refl, sym, ap, arith, filter}
use Rattle.std.specs.List.{flat_map, range_with_len}
use Rattle.std.proofs.lemmas.List.{append-nil}
use Rattle.pack_defs.specs.declared.station.Station.{Station}
use Rattle.rand_pcg.specs.Lcg.{Lcg}
use Rattle.rand_pcg.specs.Pcg.{pcg32}
use Rattle.scenario_make.specs.Draws.{draw_at, generator_after}
use Rattle.scenario_make.specs.GeneratedFiles.{behind_links, block_end, link_draws, generated_rows_at, generated_station, generated_value, generated_volume}
use Rattle.scenario_make.proofs.RangeLemmas.{filter-more, written-more}

-- one more word
pub after-one : (g h : Lcg) (k n : ℕ) → h ≡ generator_after g k → n ≡ k + 1 → (pcg32 h).1 ≡ generator_after g n
unfolding generator_after
after-one g h k n e m = let s : n ≡ suc k = omega (arith, m) in rw (s, e) refl

-- no more words
pub after-none : (g : Lcg) (n : ℕ) → n ≡ 0 → g ≡ generator_after g n
unfolding generator_after
after-none g n e = rw e refl

-- ---- stations

abbrev pub station-with : ℕ → ℕ → ℕ → Station
station-with s v w = record { id = s; volume = v; value = Some w }

-- the station of these two draws
pub station-is : (g h next : Lcg) (i volume value : ℕ) → h ≡ generator_after g (2 * i) → next ≡ (pcg32 h).1 → volume ≡ 1 + (pcg32 h).0 % 1000 → value ≡ (pcg32 next).0 % (100 * volume + 1) → station-with (i + 1) volume value ≡ generated_station g (i + 1)
station-is g h next i volume value e n v w =
    let first : 2 * (i + 1 - 1) ≡ 2 * i = omega arith in
    let second : 2 * (i + 1 - 1) + 1 ≡ 2 * i + 1 = omega arith in
    let made : volume ≡ generated_volume g (i + 1) = v ∙ ap (λ x. 1 + (pcg32 x).0 % 1000) (e ∙ ap (generator_after g) (sym first)) in
    let later : next ≡ generator_after g (2 * (i + 1 - 1) + 1) = n ∙ after-one g h (2 * i) (2 * (i + 1 - 1) + 1) e second in
    let drawn : value ≡ generated_value g (i + 1) = w ∙ (ap (λ x. (pcg32 x).0 % (100 * volume + 1)) later ∙ ap (λ m. draw_at g (2 * (i + 1 - 1) + 1) (100 * m + 1)) made) in
    ap (λ m. station-with (i + 1) m value) made ∙ ap (λ m. station-with (i + 1) (generated_volume g (i + 1)) m) drawn

-- the two draws of a station
pub after-two : (g h next : Lcg) (i : ℕ) → h ≡ generator_after g (2 * i) → next ≡ (pcg32 h).1 → (pcg32 next).1 ≡ generator_after g (2 * (i + 1))
after-two g h next i e n =
    let later : next ≡ generator_after g (2 * i + 1) = n ∙ after-one g h (2 * i) (2 * i + 1) e refl in
    after-one g next (2 * i + 1) (2 * (i + 1)) later (omega arith)

-- ---- interference

-- the draw of a link
link-draw : (g h : Lcg) (s i : ℕ) → h ≡ generator_after g i → draw_at g (s + 1 + i - (s + 1)) 2 ≡ (pcg32 h).0 % 2
link-draw g h s i e = let k : s + 1 + i - (s + 1) ≡ i = omega arith in ap (λ n. draw_at g n 2) k ∙ ap (λ x. (pcg32 x).0 % 2) (sym e)

-- the links drawn so far
abbrev pub links-drawn : Lcg → ℕ → ℕ → List ℕ
links-drawn g s i = filter (λ t. draw_at g (t - (s + 1)) 2 == 1) (range_with_len (s + 1) i)

drawn-next : (g h : Lcg) (s i : ℕ) → h ≡ generator_after g i → links-drawn g s (i + 1) ≡ links-drawn g s i ++ cond ((pcg32 h).0 % 2 == 1) ((s + 1 + i) ∷ []) []
drawn-next g h s i e =
    filter-more (λ t. draw_at g (t - (s + 1)) 2 == 1) (s + 1) i (s + 1 + i) refl
    ∙ ap (λ d. links-drawn g s i ++ cond (d == 1) ((s + 1 + i) ∷ []) []) (link-draw g h s i e)

-- one more link
pub link-more : (g h : Lcg) (s i d : ℕ) → h ≡ generator_after g i → d ≡ (pcg32 h).0 % 2 → d ≡ 1 → links-drawn g s (i + 1) ≡ links-drawn g s i ++ (s + 1 + i) ∷ []
link-more g h s i d e drawn is = drawn-next g h s i e ∙ ap (λ x. links-drawn g s i ++ cond (x == 1) ((s + 1 + i) ∷ []) []) (sym drawn ∙ is)

-- no more link
pub link-none : (g h : Lcg) (s i d : ℕ) → h ≡ generator_after g i → d ≡ (pcg32 h).0 % 2 → (d ≡ 1 → ⊥) → links-drawn g s (i + 1) ≡ links-drawn g s i
link-none g h s i d e drawn other =
    drawn-next g h s i e
    ∙ (ap (λ x. links-drawn g s i ++ cond (x == 1) ((s + 1 + i) ∷ []) []) (sym drawn)
    ∙ (ap (λ b. links-drawn g s i ++ cond b ((s + 1 + i) ∷ []) []) (ne_eqb d 1 other) ∙ append-nil (links-drawn g s i)))

-- the generator after both kinds of draws
pub after-both : (g h next : Lcg) (s end : ℕ) → h ≡ generator_after g (end - s) → next ≡ cond (nat_lt s end) (pcg32 h).1 h → next ≡ generator_after g (link_draws s end)
after-both g h next s end e n = n ∙ by-case (nat_lt s end)
  where
    by-case : (b : Bool) → cond b (pcg32 h).1 h ≡ generator_after g (end - s + cond b 1 0)
    by-case true = after-one g h (end - s) (end - s + 1) e refl
    by-case false = let z : end - s + 0 ≡ end - s = omega arith in e ∙ ap (generator_after g) (sym z)

-- ---- rows

-- one more station of the row file
pub behind-one : (g h next : Lcg) (size i end : ℕ) → h ≡ behind_links g size i → end ≡ block_end size (i + 1) → next ≡ generator_after h (link_draws (i + 1) end) → next ≡ behind_links g size (i + 1)
unfolding behind_links
behind-one g h next size i end e m n =
    let k : i + 1 ≡ suc i = omega arith in
    rw (n, e, m, k) refl

-- the lines of this station
pub rows-one : (g h : Lcg) (size i end : ℕ) (text new : List ℕ) → h ≡ behind_links g size i → end ≡ block_end size (i + 1) → new ≡ text ++ generated_rows_at h (i + 1) end → text ≡ flat_map (λ s. generated_rows_at (behind_links g size (s - 1)) s (block_end size s)) (range_with_len 1 i) → new ≡ flat_map (λ s. generated_rows_at (behind_links g size (s - 1)) s (block_end size s)) (range_with_len 1 (i + 1))
rows-one g h size i end text new e m n old =
    let k : 1 + i ≡ i + 1 = omega arith in
    let j : i ≡ 1 + i - 1 = omega arith in
    let rows : generated_rows_at h (i + 1) end ≡ generated_rows_at (behind_links g size (1 + i - 1)) (1 + i) (block_end size (1 + i)) =
    ap (λ x. generated_rows_at x (i + 1) end) (e ∙ ap (behind_links g size) j)
    ∙ (ap (λ x. generated_rows_at (behind_links g size (1 + i - 1)) (i + 1) x) m
    ∙ ap (λ s. generated_rows_at (behind_links g size (1 + i - 1)) s (block_end size s)) (sym k)) in
    written-more (λ s. generated_rows_at (behind_links g size (s - 1)) s (block_end size s)) 1 i text new old (n ∙ ap (λ r. text ++ r) rows)
