-- For `make`: the generated files are accepted.
use Rattle.std.proofs.Common.{◌≡◌, ◌∙◌, ◌≤◌, ℕ, List, map, ap, subst, sym}
use Rattle.std.specs.Prelude.{Ok}
use Rattle.pack_defs.specs.Book.{cut_book}
use Rattle.pack_defs.specs.declared.pair.Pair.{Pair}
use Rattle.scenario_json.specs.Join.{book_unless, first_missing, joined}
use Rattle.scenario_make.specs.Accepted.{AreAccepted}
use Rattle.scenario_make.specs.GeneratedFiles.{generated_domain, generated_domains, generated_facilities, generated_rows, generated_scenario, generated_scenario_text}
use Rattle.scenario_make.proofs.DomainReadings.{domains-read, none-missing}
use Rattle.scenario_make.proofs.RowReadings.{rows-read}
use Rattle.scenario_make.proofs.ScenarioLemmas.{made-ids, made-reads, none-starts}

made-joins : (seed size : ℕ) (pairs : List Pair) → joined (generated_scenario seed size) (map generated_domain (generated_facilities size)) pairs
    ≡ Ok (cut_book (generated_scenario seed size).top (generated_facilities size) (map generated_domain (generated_facilities size)) pairs)
unfolding joined
made-joins seed size pairs =
    let domains = map generated_domain (generated_facilities size) in
    let top : ℕ = (generated_scenario seed size).top in
    ap (λ xs. book_unless (first_missing xs domains) (cut_book top xs domains pairs)) (made-ids seed size)
    ∙ ap (λ o. book_unless o (cut_book top (generated_facilities size) domains pairs)) (none-missing (generated_facilities size))

made-accepted : (seed size : ℕ) → seed ≤ 18446744073709551615 → size ≤ 4096 → AreAccepted (generated_domains size) (generated_rows seed size) (generated_scenario_text seed size)
made-accepted seed size low few =
    let rows = rows-read (map generated_domain (generated_facilities size)) seed size few in
    record {
      domains = map generated_domain (generated_facilities size);
      domains_read = domains-read size few;
      pairs_view = rows.0;
      rows_read = rows.1;
      sc = generated_scenario seed size;
      scenario_read = made-reads seed size low few;
      book = cut_book (generated_scenario seed size).top (generated_facilities size) (map generated_domain (generated_facilities size)) rows.0.list;
      joins = made-joins seed size rows.0.list;
      none_starts = none-starts seed size;
    }

-- the same of files with these bytes
pub are-accepted : (seed size : ℕ) (d r s : List ℕ) → seed ≤ 18446744073709551615 → size ≤ 4096 → d ≡ generated_domains size → r ≡ generated_rows seed size → s ≡ generated_scenario_text seed size → AreAccepted d r s
are-accepted seed size d r s low few a b c =
    subst (λ x. AreAccepted x r s) (sym a)
    (subst (λ x. AreAccepted (generated_domains size) x s) (sym b)
    (subst (λ x. AreAccepted (generated_domains size) (generated_rows seed size) x) (sym c) (made-accepted seed size low few)))
