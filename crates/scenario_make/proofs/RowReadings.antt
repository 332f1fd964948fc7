-- For `laws`: the generated row file is read back. No line is rejected, and the pairs are few enough.
use Rattle.std.proofs.Common.{◌≡◌, ◌∙◌, ◌≤◌, ◌+◌, ◌-◌, ◌*◌, ◌/◌, ◌==◌, ◌&&◌, ◌∷◌, ◌++◌, [], ℕ, zero, suc, Bool, List, Option, Some, None, true, false, nat_lt, filter, fold, length, map, decimal, inl, inr, refl, sym, ap, arith, append_assoc}
use Rattle.std.specs.Prelude.{Ok, codes, min}
use Rattle.std.specs.List.{flat_map, range_with_len}
use Rattle.std.proofs.lemmas.Bool.{cases_Bool, le-ltb}
use Rattle.std.proofs.lemmas.List.{append-nil}
use Rattle.pack_defs.specs.Lists.{is_in}
use Rattle.pack_defs.specs.declared.domain.Domain.{Domain}
use Rattle.constraint_files.specs.Domains.{channels_of}
use Rattle.constraint_files.specs.Field.{number, numbers}
use Rattle.constraint_files.specs.Records.{after_lines, lines_of}
use Rattle.constraint_files.specs.PairTable.{PairsView, add_row, interference_row, pair_of, pairs_of, row_of_fields, row_on, with_kept, with_other}
use Rattle.constraint_files.specs.declared.interference_row.Offset.{Offset}
use Rattle.constraint_files.specs.declared.interference_row.Row.{Row}
use Rattle.rand_pcg.specs.Lcg.{Lcg}
use Rattle.scenario_make.specs.Draws.{draw_at, generator_after, generator_of}
use Rattle.scenario_make.specs.GeneratedFiles.{behind_links, block_end, key_line, is_generated_adjacent, generated_adjacent_lines, generated_link_lines, generated_links, generated_rows, generated_rows_at, generated_rows_from}
use Rattle.scenario_make.proofs.LineReadings.{AreSmall, IsKey, adjacent-key, number-again, numbers-again, same-key}
use Rattle.scenario_make.proofs.DomainReadings.{line-adds}
use Rattle.constraint_files.proofs.PairOrder.{with-few}

-- ---- how many pairs a row adds

kept-adds : (own theirs : Option (List ℕ)) (row : Row) (pairs_view : PairsView) (t : ℕ) → length (with_kept own theirs row pairs_view t).list ≤ length pairs_view.list + 1
kept-adds None theirs row pairs_view t = omega arith
kept-adds (Some own) None row pairs_view t = omega arith
kept-adds (Some own) (Some theirs) row pairs_view t = elim (cases_Bool (is_in own row.channel && is_in theirs row.other_channel)) [
  | inl b ↦ rw b (with-few pairs_view.list (pair_of row.station row.channel t row.other_channel))
  | inr f ↦ rw f (omega arith)
]

other-adds : (domains : List Domain) (row : Row) (pairs_view : PairsView) (t : ℕ) → length (with_other domains row pairs_view t).list ≤ length pairs_view.list + 1
other-adds domains row pairs_view t = elim (cases_Bool (t == row.station)) [
  | inl b ↦ rw b (omega arith)
  | inr f ↦ rw f (kept-adds (channels_of domains row.station) (channels_of domains t) row pairs_view t)
]

others-add : (domains : List Domain) (row : Row) (pairs_view : PairsView) (ts : List ℕ) → length (fold (with_other domains row) pairs_view ts).list ≤ length pairs_view.list + length ts
others-add domains row pairs_view [] = omega arith
others-add domains row pairs_view (t ∷ ts) =
    let one = other-adds domains row pairs_view t in
    let rest = others-add domains row (with_other domains row pairs_view t) ts in
    omega (arith, one, rest)

-- ---- texts that are accepted

-- wherever the text is, its lines are accepted and add at most `k` pairs
abbrev Adds : List Domain → List ℕ → ℕ → Type 0
Adds domains text k = (pairs_view : PairsView) (line : ℕ) (rest : List ℕ) → length pairs_view.list + k ≤ 4000000
    → (next : PairsView) × (after : ℕ) × (length next.list ≤ length pairs_view.list + k)
    × (after_lines (add_row domains) pairs_view line (lines_of (text ++ rest)) ≡ after_lines (add_row domains) next after (lines_of rest))

adds-nothing : (domains : List Domain) (k : ℕ) → Adds domains [] k
adds-nothing domains k pairs_view line rest h = (pairs_view, line, omega arith, refl)

adds-both : (domains : List Domain) (x y : List ℕ) (j k : ℕ) → Adds domains x j → Adds domains y k → Adds domains (x ++ y) (j + k)
adds-both domains x y j k first second pairs_view line rest h =
    let a = first pairs_view line (y ++ rest) (omega (arith, h)) in
    let b = second a.0 a.1 rest (omega (arith, h, a.2)) in
    (b.0, b.1, omega (arith, a.2, b.2), ap (λ t. after_lines (add_row domains) pairs_view line (lines_of t)) (append_assoc x y rest) ∙ (a.3 ∙ b.3))

adds-more : (domains : List Domain) (x : List ℕ) (j k : ℕ) → j ≤ k → Adds domains x j → Adds domains x k
adds-more domains x j k less first pairs_view line rest h =
    let a = first pairs_view line rest (omega (arith, h, less)) in
    (a.0, a.1, omega (arith, a.2, less), a.3)

-- a line with this row
adds-line : (domains : List Domain) (key : List ℕ) (n : ℕ) (ns : List ℕ) (row : Row) → IsKey key → AreSmall (n ∷ ns) → interference_row (key ∷ map decimal (n ∷ ns)) ≡ Ok row → Adds domains (key_line key (n ∷ ns)) (length row.others)
adds-line domains key n ns row k small is pairs_view line rest h =
    let next = fold (with_other domains row) pairs_view row.others in
    let bound = others-add domains row pairs_view row.others in
    let few : nat_lt 4000000 (length next.list) ≡ false = le-ltb 4000000 (length next.list) (omega (arith, h, bound)) in
    let made : add_row domains pairs_view (key ∷ map decimal (n ∷ ns)) ≡ Ok next = rw (is, few) refl in
    (next, line + 1, bound, line-adds (add_row domains) pairs_view next line key n ns rest k small made)

-- ---- rows

from-fields : (offset : Offset) (a b s : List ℕ) (others : List (List ℕ)) (x y z : ℕ) (ts : List ℕ) → number a ≡ Some x → number b ≡ Some y → number s ≡ Some z → numbers others ≡ Some ts → row_of_fields offset a b s others ≡ row_on offset x y z ts
from-fields offset a b s others x y z ts first second third rest = rw (first, second, third, rest) refl

same-row : (c s : ℕ) (ts : List ℕ) → AreSmall (c ∷ c ∷ s ∷ ts) → interference_row (codes "CO" ∷ map decimal (c ∷ c ∷ s ∷ ts)) ≡ row_on (record { above = 0; below = 0 }) c c s ts
unfolding interference_row
same-row c s ts h =
    from-fields (record { above = 0; below = 0 }) (decimal c) (decimal c) (decimal s) (map decimal ts) c c s ts (number-again c h.0) (number-again c h.0) (number-again s h.1.1.0) (numbers-again ts h.1.1.1)

adjacent-row : (c d s : ℕ) (ts : List ℕ) → AreSmall (c ∷ d ∷ s ∷ ts) → interference_row (codes "ADJ+1" ∷ map decimal (c ∷ d ∷ s ∷ ts)) ≡ row_on (record { above = 1; below = 0 }) c d s ts
unfolding interference_row
adjacent-row c d s ts h =
    from-fields (record { above = 1; below = 0 }) (decimal c) (decimal d) (decimal s) (map decimal ts) c d s ts (number-again c h.0) (number-again d h.1.0) (number-again s h.1.1.0) (numbers-again ts h.1.1.1)

abbrev row : ℕ → ℕ → ℕ → List ℕ → Row
row c d s ts = record { channel = c; other_channel = d; station = s; others = ts }

same-line : (domains : List Domain) (c s : ℕ) (ts : List ℕ) → AreSmall (c ∷ c ∷ s ∷ ts) → row_on (record { above = 0; below = 0 }) c c s ts ≡ Ok (row c c s ts) → Adds domains (key_line (codes "CO") (c ∷ c ∷ s ∷ ts)) (length ts)
same-line domains c s ts h is = adds-line domains (codes "CO") c (c ∷ s ∷ ts) (row c c s ts) same-key h (same-row c s ts h ∙ is)

adjacent-line : (domains : List Domain) (c d s : ℕ) → AreSmall (c ∷ d ∷ s ∷ (s + 1) ∷ []) → row_on (record { above = 1; below = 0 }) c d s ((s + 1) ∷ []) ≡ Ok (row c d s ((s + 1) ∷ [])) → Adds domains (key_line (codes "ADJ+1") (c ∷ d ∷ s ∷ (s + 1) ∷ [])) 1
adjacent-line domains c d s h is = adds-line domains (codes "ADJ+1") c (d ∷ s ∷ (s + 1) ∷ []) (row c d s ((s + 1) ∷ [])) adjacent-key h (adjacent-row c d s ((s + 1) ∷ []) h ∙ is)

-- ---- a station

link-lines : (domains : List Domain) (s : ℕ) (ts : List ℕ) (k : ℕ) → AreSmall (s ∷ ts) → length ts ≤ k → Adds domains (generated_link_lines s ts) (4 * k)
link-lines domains s [] k h few = adds-nothing domains (4 * k)
link-lines domains s (t ∷ ts) k h few =
    let all : List ℕ = t ∷ ts in
    let first : List ℕ = key_line (codes "CO") (14 ∷ 14 ∷ s ∷ all) in
    let second : List ℕ = key_line (codes "CO") (15 ∷ 15 ∷ s ∷ all) in
    let third : List ℕ = key_line (codes "CO") (16 ∷ 16 ∷ s ∷ all) in
    let fourth : List ℕ = key_line (codes "CO") (17 ∷ 17 ∷ s ∷ all) in
    let a = adds-more domains first (length all) k few (same-line domains 14 s all (omega arith, (omega arith, h)) refl) in
    let b = adds-more domains second (length all) k few (same-line domains 15 s all (omega arith, (omega arith, h)) refl) in
    let c = adds-more domains third (length all) k few (same-line domains 16 s all (omega arith, (omega arith, h)) refl) in
    let d = adds-more domains fourth (length all) k few (same-line domains 17 s all (omega arith, (omega arith, h)) refl) in
    adds-more domains (first ++ (second ++ (third ++ (fourth ++ [])))) (k + (k + (k + (k + 0)))) (4 * k) (omega arith)
    (adds-both domains first (second ++ (third ++ (fourth ++ []))) k (k + (k + (k + 0))) a
    (adds-both domains second (third ++ (fourth ++ [])) k (k + (k + 0)) b
    (adds-both domains third (fourth ++ []) k (k + 0) c
    (adds-both domains fourth [] k 0 d (adds-nothing domains 0)))))

adjacent-lines : (domains : List Domain) (s : ℕ) (adjacent : Bool) → s ≤ 4294967294 → Adds domains (generated_adjacent_lines s adjacent) 3
adjacent-lines domains s false h = adds-nothing domains 3
adjacent-lines domains s true h =
    let first : List ℕ = key_line (codes "ADJ+1") (14 ∷ 15 ∷ s ∷ (s + 1) ∷ []) in
    let second : List ℕ = key_line (codes "ADJ+1") (15 ∷ 16 ∷ s ∷ (s + 1) ∷ []) in
    let third : List ℕ = key_line (codes "ADJ+1") (16 ∷ 17 ∷ s ∷ (s + 1) ∷ []) in
    let small : AreSmall (s ∷ (s + 1) ∷ []) = (omega (arith, h), (omega (arith, h), tt)) in
    let a = adjacent-line domains 14 15 s (omega arith, (omega arith, small)) refl in
    let b = adjacent-line domains 15 16 s (omega arith, (omega arith, small)) refl in
    let c = adjacent-line domains 16 17 s (omega arith, (omega arith, small)) refl in
    adds-more domains (first ++ (second ++ (third ++ []))) (1 + (1 + (1 + 0))) 3 (omega arith)
    (adds-both domains first (second ++ (third ++ [])) 1 (1 + (1 + 0)) a
    (adds-both domains second (third ++ []) 1 (1 + 0) b
    (adds-both domains third [] 1 0 c (adds-nothing domains 0))))

few-pass : (p : ℕ → Bool) (a n : ℕ) → length (filter p (range_with_len a n)) ≤ n
few-pass p a zero = omega arith
few-pass p a (suc n) = elim (cases_Bool (p a)) [
  | inl t ↦ rw t (let rest = few-pass p (a + 1) n in omega (arith, rest))
  | inr f ↦ rw f (let rest = few-pass p (a + 1) n in omega (arith, rest))
]

small-pass : (p : ℕ → Bool) (a n : ℕ) → a + n ≤ 4294967296 → AreSmall (filter p (range_with_len a n))
small-pass p a zero h = tt
small-pass p a (suc n) h = elim (cases_Bool (p a)) [
  | inl t ↦ rw t (omega (arith, h), small-pass p (a + 1) n (omega (arith, h)))
  | inr f ↦ rw f (small-pass p (a + 1) n (omega (arith, h)))
]

rows-at : (domains : List Domain) (g : Lcg) (s end : ℕ) → end ≤ 4096 → s ≤ 4096 → end ≤ s + 15 → Adds domains (generated_rows_at g s end) 63
rows-at domains g s end few low near =
    let p = λ (t : ℕ). draw_at g (t - (s + 1)) 2 == 1 in
    let many : length (generated_links g s end) ≤ end - s = few-pass p (s + 1) (end - s) in
    let small : AreSmall (generated_links g s end) = small-pass p (s + 1) (end - s) (omega (arith, few, low)) in
    adds-both domains (generated_link_lines s (generated_links g s end)) (generated_adjacent_lines s (is_generated_adjacent g s end)) 60 3
    (link-lines domains s (generated_links g s end) 15 (omega (arith, low), small) (omega (arith, many, near)))
    (adjacent-lines domains s (is_generated_adjacent g s end) (omega (arith, low)))

-- ---- all stations

ends-near : (size s : ℕ) → 1 ≤ s → size ≤ 4096 → (block_end size s ≤ 4096) × (block_end size s ≤ s + 15)
ends-near size s h few =
    let low : min size (16 * ((s - 1) / 16 + 1)) ≤ size = omega arith in
    let near : min size (16 * ((s - 1) / 16 + 1)) ≤ 16 * ((s - 1) / 16 + 1) = omega arith in
    (omega (arith, low, few), omega (arith, near, h))

all-rows : (domains : List Domain) (g : Lcg) (size a n : ℕ) → 1 ≤ a → a + n ≤ 4097 → size ≤ 4096 → Adds domains (flat_map (λ s. generated_rows_at (behind_links g size (s - 1)) s (block_end size s)) (range_with_len a n)) (n * 63)
all-rows domains g size a zero low h few = adds-nothing domains 0
all-rows domains g size a (suc n) low h few =
    let near = ends-near size a low few in
    let here = rows-at domains (behind_links g size (a - 1)) a (block_end size a) near.0 (omega (arith, h)) near.1 in
    let rest = all-rows domains g size (a + 1) n (omega (arith, low)) (omega (arith, h)) few in
    adds-more domains (generated_rows_at (behind_links g size (a - 1)) a (block_end size a) ++ flat_map (λ s. generated_rows_at (behind_links g size (s - 1)) s (block_end size s)) (range_with_len (a + 1) n)) (63 + n * 63) (suc n * 63) (omega arith)
    (adds-both domains (generated_rows_at (behind_links g size (a - 1)) a (block_end size a)) (flat_map (λ s. generated_rows_at (behind_links g size (s - 1)) s (block_end size s)) (range_with_len (a + 1) n)) 63 (n * 63) here rest)

-- the rows are accepted over any domains
pub rows-read : (domains : List Domain) (seed size : ℕ) → size ≤ 4096 → (pairs_view : PairsView) × (pairs_of (generated_rows seed size) domains ≡ Ok pairs_view)
unfolding pairs_of after_lines lines_of
rows-read domains seed size few =
    let g = generator_after (generator_of seed) (2 * size) in
    let all = all-rows domains g size 1 size (omega arith) (omega (arith, few)) few (record { list = []; self_pairs = 0; strangers = 0 }) 1 [] (omega (arith, few)) in
    (all.0, ap (λ t. after_lines (add_row domains) (record { list = []; self_pairs = 0; strangers = 0 }) 1 (lines_of t)) (sym (append-nil (generated_rows_from g size))) ∙ all.3)
