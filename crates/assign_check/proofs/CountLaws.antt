-- What a count of violated pairs says: none at all, none of one station, and a map that is clean on its set.
use Rattle.std.proofs.Common.{◌≡◌, ℕ, true, false, ◌&&◌, nat_lt, List, map, None, sym, ap, ◌∙◌}
use Rattle.std.specs.List.{list_any}
use Rattle.pack_defs.specs.Book.{BookView, domain_of}
use Rattle.pack_defs.specs.Lists.{has_entry, is_in}
use Rattle.pack_defs.proofs.Members.{is_in-gives}
use Rattle.pack_defs.proofs.Words.{has_entry-from_Contains}
use Rattle.assign_check.specs.Fault.{is_violated, first_fault, IsCleanOn}
use Rattle.assign_check.specs.Assignment.{is_of, violations, violations_of}
use Rattle.assign_check.proofs.Counts.{counts-any}
use Rattle.assign_check.proofs.Faultless.{faultless, not-joined, on-stations}

-- a map violates more than zero pairs exactly if the book has a pair that it violates
pub any-violated : (book : BookView) (entries : List (ℕ × ℕ)) → nat_lt 0 (violations book entries) ≡ list_any (is_violated entries) book.pairs
any-violated book entries = counts-any (is_violated entries) book.pairs

-- the same for one station
pub any-violated_of : (book : BookView) (entries : List (ℕ × ℕ)) (s : ℕ) → nat_lt 0 (violations_of book entries s) ≡ list_any (λ p. is_of s p && is_violated entries p) book.pairs
any-violated_of book entries s = counts-any (λ p. is_of s p && is_violated entries p) book.pairs

pub none-violated_at_all : (book : BookView) (entries : List (ℕ × ℕ)) → violations book entries ≡ 0 → list_any (is_violated entries) book.pairs ≡ false
none-violated_at_all book entries e = sym (any-violated book entries) ∙ ap (nat_lt 0) e

-- a map that violates no pair, with exactly the set's stations on their domains, is clean on the set
pub counted-clean : (book : BookView) (set : List ℕ) (entries : List (ℕ × ℕ)) → violations book entries ≡ 0 → map (λ x. x.0) entries ≡ set → ((x : ℕ × ℕ) → has_entry entries x ≡ true → is_in (domain_of book x.0) x.1 ≡ true) → IsCleanOn book set entries
counted-clean book set entries none stations domains =
    let no = none-violated_at_all book entries none in
    on-stations book set entries stations (record {
      on_domain = λ x k. is_in-gives (domain_of book x.0) x.1 (domains x (has_entry-from_Contains entries x k));
      apart = λ x y k l. not-joined entries x y book.pairs (has_entry-from_Contains entries x k) (has_entry-from_Contains entries y l) no;
    })

-- hence it has no fault
pub counted-faultless : (book : BookView) (set : List ℕ) (entries : List (ℕ × ℕ)) → violations book entries ≡ 0 → map (λ x. x.0) entries ≡ set → ((x : ℕ × ℕ) → has_entry entries x ≡ true → is_in (domain_of book x.0) x.1 ≡ true) → first_fault book set entries ≡ None
counted-faultless book set entries none stations domains = faultless book set entries (counted-clean book set entries none stations domains)
