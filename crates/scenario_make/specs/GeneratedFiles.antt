-- The auction of a seed: its stations, their interference, and the bytes of its three files.
use Rattle.std.specs.Prelude.{ℕ, ◌≡◌, zero, suc, ◌+◌, ◌-◌, ◌*◌, ◌/◌, ◌==◌, ◌&&◌, Bool, nat_lt, min, if◌then◌else◌, List, [], ◌∷◌, ◌++◌, map, filter, replicate, Some, None, codes, decimal}
use Rattle.std.specs.List.{flat_map, range_with_len}
use Rattle.rand_pcg.specs.Lcg.{Lcg}
use Rattle.serde_json.specs.Written.{compact_text}
use Rattle.pack_defs.specs.Lists.{is_empty}
use Rattle.pack_defs.specs.declared.domain.Domain.{Domain}
use Rattle.pack_defs.specs.declared.fall.Fall.TheVariants.{Listed}
use Rattle.pack_defs.specs.Limits.{MOST_PROOF_LINES}
use Rattle.pack_defs.specs.declared.scenario.Scenario.{Scenario}
use Rattle.pack_defs.specs.declared.station.Station.{Station}
use Rattle.pack_defs.specs.declared.worker.Kind.TheVariants.{Cdcl, Walk}
use Rattle.pack_defs.specs.declared.worker.Worker.{Worker}
use Rattle.scenario_json.specs.Write.{data_for}
use Rattle.scenario_make.specs.Draws.{draw_at, generator_after, generator_of}

-- ---- lines

-- The text of numbers, each after a comma.
abbrev pub comma_prefixed : List ℕ → List ℕ
comma_prefixed numbers = flat_map (λ n. 44 ∷ decimal n) numbers

-- A line: its key, its numbers, each after a comma, and the line end.
abbrev pub key_line : List ℕ → List ℕ → List ℕ
key_line key numbers = key ++ (comma_prefixed numbers ++ 10 ∷ [])

-- The stations of an auction of this size.
abbrev pub generated_facilities : ℕ → List ℕ
generated_facilities size = range_with_len 1 size

-- ---- the domain file

-- The line of a station, with the channels 14 to 17.
abbrev pub generated_domain_line : ℕ → List ℕ
generated_domain_line s = key_line (codes "DOMAIN") (s ∷ 14 ∷ 15 ∷ 16 ∷ 17 ∷ [])

-- The domain of the station: the channels 14 to 17.
abbrev pub generated_domain : ℕ → Domain
generated_domain s = record { station = s; channels = 14 ∷ 15 ∷ 16 ∷ 17 ∷ [] }

-- The domain file.
abbrev pub generated_domains : ℕ → List ℕ
generated_domains size = flat_map generated_domain_line (generated_facilities size)

-- ---- the stations, two draws each

-- The volume of a station: its first draw, plus 1.
abbrev pub generated_volume : Lcg → ℕ → ℕ
generated_volume g s = 1 + draw_at g (2 * (s - 1)) 1000

-- The value of a station: its second draw, at most 100 times its volume.
abbrev pub generated_value : Lcg → ℕ → ℕ
generated_value g s = draw_at g (2 * (s - 1) + 1) (100 * generated_volume g s + 1)

-- A station with its volume and value.
abbrev pub generated_station : Lcg → ℕ → Station
generated_station g s = record { id = s; volume = generated_volume g s; value = Some (generated_value g s) }

-- ---- interference

-- The last station in the block of a station. Blocks have 16 stations, beginning at station 1, and the last one ends with the
-- auction's last station.
abbrev pub block_end : ℕ → ℕ → ℕ
block_end size s = min size (16 * ((s - 1) / 16 + 1))

-- The stations after `s`, up to `end`, that interfere with `s` on the same channel: those whose draw of two is 1.
abbrev pub generated_links : Lcg → ℕ → ℕ → List ℕ
generated_links g s end = filter (λ t. draw_at g (t - (s + 1)) 2 == 1) (range_with_len (s + 1) (end - s))

-- Whether `s` and the next station interfere on adjacent channels: `s` is not the last of its block, and the draw of four after
-- those of its links is 0.
abbrev pub is_generated_adjacent : Lcg → ℕ → ℕ → Bool
is_generated_adjacent g s end = nat_lt s end && (draw_at g (end - s) 4 == 0)

-- The number of draws that a station takes for its interference.
abbrev pub link_draws : ℕ → ℕ → ℕ
link_draws s end = (end - s) + (if nat_lt s end then 1 else 0)

-- The generator after the interference of the first stations, from the generator before any.
unfoldable pub behind_links : Lcg → ℕ → ℕ → Lcg
behind_links g size zero = g
behind_links g size (suc s) = generator_after (behind_links g size s) (link_draws (suc s) (block_end size (suc s)))

-- ---- the row file

-- The lines of `s` and the stations that it interferes with on the same channel, one for each channel. There are none if it has no
-- links.
abbrev pub generated_link_lines : ℕ → List ℕ → List ℕ
generated_link_lines s links =
    if is_empty links then [] else flat_map (λ c. key_line (codes "CO") (c ∷ c ∷ s ∷ links)) (14 ∷ 15 ∷ 16 ∷ 17 ∷ [])

-- The lines of `s` and the next station, if they interfere on adjacent channels, one for each channel except the top one.
abbrev pub generated_adjacent_lines : ℕ → Bool → List ℕ
generated_adjacent_lines s adjacent =
    if adjacent then flat_map (λ c. key_line (codes "ADJ+1") (c ∷ (c + 1) ∷ s ∷ (s + 1) ∷ [])) (14 ∷ 15 ∷ 16 ∷ []) else []

-- The lines of a station, from the generator before its interference.
abbrev pub generated_rows_at : Lcg → ℕ → ℕ → List ℕ
generated_rows_at g s end = generated_link_lines s (generated_links g s end) ++ generated_adjacent_lines s (is_generated_adjacent g s end)

-- The lines of all stations, from the generator before any interference.
abbrev pub generated_rows_from : Lcg → ℕ → List ℕ
generated_rows_from g size = flat_map (λ s. generated_rows_at (behind_links g size (s - 1)) s (block_end size s)) (generated_facilities size)

-- The row file. Its interference is drawn after the stations.
abbrev pub generated_rows : ℕ → ℕ → List ℕ
generated_rows seed size = generated_rows_from (generator_after (generator_of seed) (2 * size)) size

-- ---- the scenario

-- A worker that learns, and one that walks with the seed of the auction.
abbrev pub generated_workers : ℕ → List Worker
generated_workers seed =
    record { kind = Cdcl; budget = MOST_PROOF_LINES; seed = 0 } ∷ record { kind = Walk; budget = 1000; seed = seed } ∷ []

-- The scenario of these stations. The price falls from 100 to 0 in ten rounds.
unfoldable pub scenario_with : ℕ → List Station → Scenario
scenario_with seed stations = record {
  version = 1;
  top = 17;
  opening = 100;
  fall = Listed (replicate 10 10);
  stations = stations;
  workers = generated_workers seed;
  owners = None;
}

-- The scenario of the auction.
abbrev pub generated_scenario : ℕ → ℕ → Scenario
generated_scenario seed size = scenario_with seed (map (generated_station (generator_of seed)) (generated_facilities size))

-- The scenario file.
abbrev pub generated_scenario_text : ℕ → ℕ → List ℕ
generated_scenario_text seed size = compact_text (data_for (generated_scenario seed size))

-- Whether these are the three files of the auction of this seed and size.
pub record AreGenerated (seed size : ℕ) (domains rows scenario : List ℕ) : Type 0 where
  pub domains_are : domains ≡ generated_domains size
  pub rows_are : rows ≡ generated_rows seed size
  pub scenario_is : scenario ≡ generated_scenario_text seed size
