-- Lines that are written field by field, for the contracts of `line_writers`.
use Rattle.std.proofs.Common.{◌≡◌, ◌<◌, ◌≤◌, ◌+◌, ◌∙◌, ◌∷◌, ◌++◌, [], ℕ, List, sym, append_assoc, append-nil, decimal, drop, get_or, length, map}
use Rattle.std.proofs.lemmas.List.{drop_all, drop_more}
use Rattle.cert_types.specs.declared.answer.Receipt.{Receipt}
use Rattle.auction_core.specs.LogNumbers.{first_of}
use Rattle.transcript_text.specs.Spelling.{receipt_text, receipts_text}
use Rattle.lrat_text.specs.Lines.{line_of}
use Rattle.lrat_text.specs.Write.{spaced}
use Rattle.lrat_text.proofs.WriteLemmas.{joined-spaced}

-- A text with a word, numbers and a line end appended.
pub line-parts : (text word : List ℕ) (numbers : List ℕ) → ((text ++ word) ++ spaced (map decimal numbers)) ++ 10 ∷ [] ≡ text ++ line_of (word ∷ map decimal numbers)
line-parts text word numbers = rw (joined-spaced word (map decimal numbers)) (simp append_assoc)

-- A text with another receipt appended.
pub receipts-more : (text : List ℕ) (clauses i : ℕ) (x : Receipt) (xs : List Receipt) → i < length xs → x ≡ get_or xs i x
    → (text ++ receipt_text i x (first_of clauses x)) ++ receipts_text (i + 1) (drop (i + 1) xs) (map (first_of clauses) (drop (i + 1) xs)) ≡ text ++ receipts_text i (drop i xs) (map (first_of clauses) (drop i xs))
unfolding receipts_text
receipts-more text clauses i x xs h e =
    rw (drop_more xs i x h, ← e) (append_assoc text (receipt_text i x (first_of clauses x)) (receipts_text (i + 1) (drop (i + 1) xs) (map (first_of clauses) (drop (i + 1) xs))))

pub receipts-all : (text : List ℕ) (clauses i : ℕ) (xs : List Receipt) (total : List ℕ) → length xs ≤ i → text ++ receipts_text i (drop i xs) (map (first_of clauses) (drop i xs)) ≡ total → text ≡ total
unfolding receipts_text
receipts-all text clauses i xs total h so = let none : drop i xs ≡ [] = drop_all i xs h in sym (append-nil text) ∙ rw none at so
