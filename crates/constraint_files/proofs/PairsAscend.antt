-- The pairs of a file ascend.
use Rattle.std.proofs.Common.{◌≡◌, ◌+◌, ◌&&◌, ◌∷◌, [], ℕ, List, Bool, Option, Some, None, Result, Ok, Err, true, false, cond, eqb, length, nat_lt, refl, fold}
use Rattle.pack_defs.specs.Lists.{is_in}
use Rattle.std.proofs.lemmas.Bool.{and_from, and_parts}
use Rattle.pack_defs.specs.Book.{comes_before, pairs_ascend}
use Rattle.pack_defs.specs.declared.domain.Domain.{Domain}
use Rattle.pack_defs.specs.declared.pair.Pair.{Pair}
use Rattle.constraint_files.specs.declared.interference_row.Row.{Row}
use Rattle.constraint_files.specs.Domains.{channels_of}
use Rattle.constraint_files.specs.Records.{lines_of}
use Rattle.pack_defs.specs.Steps.{◌>>=◌}
use Rattle.constraint_files.specs.declared.error.RowWhy.{RowWhy}
use Rattle.constraint_files.specs.declared.error.RowWhy.TheVariants.{TooMany}
use Rattle.constraint_files.specs.PairTable.{PairsView, add_row, within_pair_limit, interference_row, pair_of, pairs_of, with_kept, with_other, with_pair}
use Rattle.constraint_files.proofs.OrderLemmas.{lines-keep}

-- A pair inserted in its place keeps the pairs ascending.
above-first : (x p : Pair) (qs : List Pair) → comes_before x p ≡ true → pairs_ascend (x ∷ qs) ≡ true
    → pairs_ascend (with_pair qs p) ≡ true → pairs_ascend (x ∷ with_pair qs p) ≡ true
above-first x p [] below up later = rw below refl
above-first x p (q ∷ qs) below up later = go (comes_before q p) (comes_before p q) later
  where
    go : (after before : Bool) → pairs_ascend (cond after (q ∷ with_pair qs p) (cond before (p ∷ q ∷ qs) (q ∷ qs))) ≡ true
        → pairs_ascend (x ∷ cond after (q ∷ with_pair qs p) (cond before (p ∷ q ∷ qs) (q ∷ qs))) ≡ true
    go true before h = and_from _ _ (and_parts _ _ up).0 h
    go false true h = and_from _ _ below h
    go false false h = and_from _ _ (and_parts _ _ up).0 h

ascend-rest : (q : Pair) (qs : List Pair) → pairs_ascend (q ∷ qs) ≡ true → pairs_ascend qs ≡ true
ascend-rest q [] up = refl
ascend-rest q (r ∷ rs) up = (and_parts _ _ up).1

with-ascends : (qs : List Pair) (p : Pair) → pairs_ascend qs ≡ true → pairs_ascend (with_pair qs p) ≡ true
with-ascends [] p up = refl
with-ascends (q ∷ qs) p up = go (comes_before q p) (comes_before p q) refl refl (with-ascends qs p (ascend-rest q qs up))
  where
    go : (after before : Bool) → comes_before q p ≡ after → comes_before p q ≡ before → pairs_ascend (with_pair qs p) ≡ true
        → pairs_ascend (cond after (q ∷ with_pair qs p) (cond before (p ∷ q ∷ qs) (q ∷ qs))) ≡ true
    go true before a b later = above-first q p qs a up later
    go false true a b later = and_from _ _ b up
    go false false a b later = up

kept-ascends : (own theirs : Option (List ℕ)) (row : Row) (pairs_view : PairsView) (t : ℕ) → pairs_ascend pairs_view.list ≡ true → pairs_ascend (with_kept own theirs row pairs_view t).list ≡ true
kept-ascends None theirs row pairs_view t up = up
kept-ascends (Some own) None row pairs_view t up = up
kept-ascends (Some own) (Some theirs) row pairs_view t up = go (is_in own row.channel && is_in theirs row.other_channel)
  where
    go : (b : Bool) → pairs_ascend (cond b (record { list = with_pair pairs_view.list (pair_of row.station row.channel t row.other_channel); self_pairs = pairs_view.self_pairs; strangers = pairs_view.strangers }) pairs_view).list ≡ true
    go true = with-ascends pairs_view.list (pair_of row.station row.channel t row.other_channel) up
    go false = up

other-ascends : (domains : List Domain) (row : Row) (pairs_view : PairsView) (t : ℕ) → pairs_ascend pairs_view.list ≡ true → pairs_ascend (with_other domains row pairs_view t).list ≡ true
other-ascends domains row pairs_view t up = go (eqb t row.station)
  where
    go : (b : Bool) → pairs_ascend (cond b (record { list = pairs_view.list; self_pairs = pairs_view.self_pairs + 1; strangers = pairs_view.strangers }) (with_kept (channels_of domains row.station) (channels_of domains t) row pairs_view t)).list ≡ true
    go true = up
    go false = kept-ascends (channels_of domains row.station) (channels_of domains t) row pairs_view t up

others-ascend : (domains : List Domain) (row : Row) (pairs_view : PairsView) (ts : List ℕ) → pairs_ascend pairs_view.list ≡ true → pairs_ascend (fold (with_other domains row) pairs_view ts).list ≡ true
others-ascend domains row pairs_view [] up = up
others-ascend domains row pairs_view (t ∷ ts) up = others-ascend domains row (with_other domains row pairs_view t) ts (other-ascends domains row pairs_view t up)

few-ascend : (pairs_view last : PairsView) → pairs_ascend pairs_view.list ≡ true → within_pair_limit pairs_view ≡ Ok last → pairs_ascend last.list ≡ true
few-ascend pairs_view last up e = go (nat_lt 4000000 (length pairs_view.list)) e
  where
    go : (b : Bool) → cond b (Err TooMany) (Ok pairs_view) ≡ Ok last → pairs_ascend last.list ≡ true
    go true h = cc
    go false h =
        let is : pairs_view ≡ last = cc in
        rw (← is) up

pub row-ascends : (domains : List Domain) (pairs_view last : PairsView) (r : List (List ℕ)) → pairs_ascend pairs_view.list ≡ true → add_row domains pairs_view r ≡ Ok last → pairs_ascend last.list ≡ true
row-ascends domains pairs_view last r up e = go (interference_row r) e
  where
    go : (o : Result Row RowWhy) → (o >>= (λ row. within_pair_limit (fold (with_other domains row) pairs_view row.others))) ≡ Ok last → pairs_ascend last.list ≡ true
    go (Err why) h = cc
    go (Ok row) h = few-ascend (fold (with_other domains row) pairs_view row.others) last (others-ascend domains row pairs_view row.others up) h

-- The pairs of a file ascend.
pub pairs-ascend : (bytes : List ℕ) (domains : List Domain) (pairs_view : PairsView) → pairs_of bytes domains ≡ Ok pairs_view → pairs_ascend pairs_view.list ≡ true
unfolding pairs_of
pairs-ascend bytes domains pairs_view e =
    lines-keep (add_row domains) (λ (x : PairsView). pairs_ascend x.list ≡ true) (λ s last r p k. row-ascends domains s last r p k) (record { list = []; self_pairs = 0; strangers = 0 }) pairs_view 1 (lines_of bytes) refl e
