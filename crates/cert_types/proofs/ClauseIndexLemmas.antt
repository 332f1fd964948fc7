-- For `clause_index` and `fresh`: what a search of the index finds after one more clause is filed.
use Rattle.std.proofs.Common.{◌≡◌, ℕ, zero, suc, ◌+◌, ◌-◌, ◌*◌, ◌<◌, ◌≤◌, Bool, true, false, not, ◌&&◌, ◌||◌, ◌==◌, if◌then◌else◌, List, [], ◌∷◌, ◌++◌, length, replicate, get_or, take, map, Some, refl, sym, ap, ◌∙◌, subst, arith, ne_eqb}
use Rattle.std.specs.List.{list_any, list_all}
use Rattle.std.specs.Prelude.{slice_set}
use Rattle.std.proofs.lemmas.List.{get_or-set_same, get_or-set_other, take_more}
use Rattle.std.proofs.Math.Bool.{or-false, or_assoc}
use Rattle.clause_db.specs.declared.lit.Lit.{Lit}
use Rattle.clause_db.specs.Clause.{has_lit, same_lit, clause_at, code_of}
use Rattle.clause_db.specs.Clauses.{LitWithin}
use Rattle.clause_db.proofs.Literals.{lit_cases, same_lit-refl, same_lit-apart, code-is, code-below}
use Rattle.clause_db.proofs.Numbering.{clause_at-before}
use Rattle.rup_check.specs.KnownLiterals.{is_lit_within}
use Rattle.rup_check.specs.declared.line.Line.{Line}
use Rattle.rup_check.specs.Follows.{clauses_before}
use Rattle.rup_check.proofs.Marking.{within-to, within-from}
use Rattle.rup_check.proofs.Reading.{clauses-more, line-read}
use Rattle.cnf_encode.proofs.PairLemmas.{list_all-get}
use Rattle.cert_types.specs.declared.clause_index.IndexedClause.{IndexedClause}
use Rattle.cert_types.specs.Fresh.{is_subclause, is_fresh}
use Rattle.cert_types.specs.ClauseIndex.{ClauseIndexView, zero_lit, numbered_within, clause_within, indexed_within, indexed_at, some_indexed, has_indexed_within, indexed_clause_of, with_indexed, with_unkeyed, IsKey, IsClauseIndex}
use Rattle.cert_types.specs.Signature.{signature, covers}
use Rattle.cert_types.proofs.SignatureLemmas.{within-covers}
use Rattle.cert_types.proofs.UseLemmas.{unused}

any-push : {A : Type 0} (p : A → Bool) (xs : List A) (x : A) → list_any p (xs ++ x ∷ []) ≡ (list_any p xs || p x)
any-push p [] x = last (p x)
  where
    last : (b : Bool) → (b || false) ≡ b
    last true = refl
    last false = refl
any-push {A} p (y ∷ ys) x = step (p y) (any-push p ys x)
  where
    step : (a : Bool) → list_any p (ys ++ x ∷ []) ≡ (list_any p ys || p x) → (a || list_any p (ys ++ x ∷ [])) ≡ ((a || list_any p ys) || p x)
    step true e = refl
    step false e = e

or-moved : (a q r h : Bool) → ((a || q) || (r || (h && q))) ≡ ((a || r) || q)
or-moved true q r h = refl
or-moved false true true h = refl
or-moved false true false h = refl
or-moved false false true h = refl
or-moved false false false true = refl
or-moved false false false false = refl

or-swapped : (a b c : Bool) → ((a || b) || c) ≡ ((a || c) || b)
or-swapped true b c = refl
or-swapped false true true = refl
or-swapped false true false = refl
or-swapped false false true = refl
or-swapped false false false = refl

-- the files of a literal, after one more clause is filed under it or under another
files-same : (files : ClauseIndexView) (key : Lit) (f : IndexedClause) → length files.lists ≡ 2 * files.vars → LitWithin files.vars key → indexed_at (with_indexed files key f) key ≡ indexed_at files key ++ f ∷ []
files-same files key f size w =
    let within : is_lit_within files.vars key ≡ true = within-to files.vars key w in
    let below : code_of key < 2 * files.vars = code-below files.vars key w in
    let old : List IndexedClause = get_or files.lists (code_of key) [] in
    ap (λ (b : Bool). if b then get_or (slice_set files.lists (code_of key) (old ++ f ∷ [])) (code_of key) [] else []) within
    ∙ get_or-set_same files.lists (code_of key) (old ++ f ∷ []) [] (omega arith)
    ∙ ap (λ (b : Bool). (if b then old else []) ++ f ∷ []) (sym within)

files-other : (files : ClauseIndexView) (key l : Lit) (f : IndexedClause) → LitWithin files.vars key → (key ≡ l → ⊥) → indexed_at (with_indexed files key f) l ≡ indexed_at files l
files-other files key l f w n = step (is_lit_within files.vars l) refl
  where
    step : (b : Bool) → is_lit_within files.vars l ≡ b → (if b then get_or (slice_set files.lists (code_of key) (get_or files.lists (code_of key) [] ++ f ∷ [])) (code_of l) [] else []) ≡ (if b then get_or files.lists (code_of l) [] else [])
    step true e = get_or-set_other files.lists (code_of key) (code_of l) (get_or files.lists (code_of key) [] ++ f ∷ []) [] (λ c. n (sym (code-is files.vars l key (within-from files.vars l e) w c)))
    step false e = refl

some-more : (p : IndexedClause → Bool) (files : ClauseIndexView) (key : Lit) (f : IndexedClause) (lits : List Lit) → length files.lists ≡ 2 * files.vars → LitWithin files.vars key → some_indexed p (with_indexed files key f) lits ≡ (some_indexed p files lits || (has_lit lits key && p f))
some-more p files key f [] size w = refl
some-more p files key f (l ∷ ls) size w =
    let rest : some_indexed p (with_indexed files key f) ls ≡ (some_indexed p files ls || (has_lit ls key && p f)) = some-more p files key f ls size w in
    let a : Bool = list_any p (indexed_at files l) in
    let r : Bool = some_indexed p files ls in
    let h : Bool = has_lit ls key in
    lit_cases key l (some_indexed p (with_indexed files key f) (l ∷ ls) ≡ (some_indexed p files (l ∷ ls) || (has_lit (l ∷ ls) key && p f)))
    (λ same.
    let here : indexed_at (with_indexed files key f) l ≡ indexed_at files l ++ f ∷ [] = subst (λ (z : Lit). indexed_at (with_indexed files key f) z ≡ indexed_at files z ++ f ∷ []) same (files-same files key f size w) in
    let first : list_any p (indexed_at (with_indexed files key f) l) ≡ (a || p f) = ap (list_any p) here ∙ any-push p (indexed_at files l) f in
    let is : same_lit key l ≡ true = subst (λ (z : Lit). same_lit key z ≡ true) same (same_lit-refl key) in
    (λ i. first i || rest i) ∙ (or-moved a (p f) r h ∙ ap (λ (b : Bool). (a || r) || ((b || h) && p f)) (sym is)))
    (λ other.
    let first : list_any p (indexed_at (with_indexed files key f) l) ≡ a = ap (list_any p) (files-other files key l f w other) in
    let is : same_lit key l ≡ false = same_lit-apart key l other in
    (λ i. first i || rest i) ∙ (sym (or_assoc a r (h && p f)) ∙ ap (λ (b : Bool). (a || r) || ((b || h) && p f)) (sym is)))

-- freshness beside one more clause
fresh-more : (seen : List (List Lit)) (c lits : List Lit) → not (is_fresh (seen ++ c ∷ []) lits) ≡ (not (is_fresh seen lits) || is_subclause lits c)
fresh-more [] c lits = last (is_subclause lits c)
  where
    last : (w : Bool) → not (not w && true) ≡ w
    last true = refl
    last false = refl
fresh-more (d ∷ ds) c lits = step (is_subclause lits d) (fresh-more ds c lits)
  where
    step : (a : Bool) → not (is_fresh (ds ++ c ∷ []) lits) ≡ (not (is_fresh ds lits) || is_subclause lits c) → not (not a && is_fresh (ds ++ c ∷ []) lits) ≡ (not (not a && is_fresh ds lits) || is_subclause lits c)
    step true e = refl
    step false e = e

-- a clause that is filed like this is found for its supersets, and for no other literals
filed-more : (used : Lit → Bool) (all seen : List (List Lit)) (files : ClauseIndexView) (key : Lit) (f : IndexedClause) (c : List Lit) → length files.lists ≡ 2 * files.vars → LitWithin files.vars key → ((lits : List Lit) → (has_lit lits key && indexed_within all lits (signature lits) f) ≡ is_subclause lits c) → IsClauseIndex used all files seen → IsClauseIndex used all (with_indexed files key f) (seen ++ c ∷ [])
filed-more used all seen files key f c size w says h = λ lits u.
    let unkeyed : Bool = list_any (numbered_within all lits) files.unkeyed in
    let some : Bool = some_indexed (indexed_within all lits (signature lits)) files lits in
    ap (λ (b : Bool). unkeyed || b) (some-more (indexed_within all lits (signature lits)) files key f lits size w)
    ∙ (sym (or_assoc unkeyed some (has_lit lits key && indexed_within all lits (signature lits) f))
    ∙ ((λ i. h lits u i || says lits i) ∙ sym (fresh-more seen c lits)))

loose-more : (used : Lit → Bool) (all seen : List (List Lit)) (files : ClauseIndexView) (n : ℕ) (c : List Lit) → clause_at all n ≡ Some c → IsClauseIndex used all files seen → IsClauseIndex used all (with_unkeyed files n) (seen ++ c ∷ [])
loose-more used all seen files n c e h = λ lits u.
    let unkeyed : Bool = list_any (numbered_within all lits) files.unkeyed in
    let some : Bool = some_indexed (indexed_within all lits (signature lits)) files lits in
    ap (λ (b : Bool). b || some) (any-push (numbered_within all lits) files.unkeyed n)
    ∙ (or-swapped unkeyed (numbered_within all lits n) some
    ∙ ((λ i. h lits u i || clause_within lits (e i)) ∙ sym (fresh-more seen c lits)))

-- a clause with a literal that doesn't pass the test need not be filed
pub not-filed : (used : Lit → Bool) (all seen : List (List Lit)) (files : ClauseIndexView) (clause : List Lit) → list_all used clause ≡ false → IsClauseIndex used all files seen → IsClauseIndex used all files (seen ++ clause ∷ [])
not-filed used all seen files clause e h = λ lits u.
    h lits u
    ∙ (sym (or-false (not (is_fresh seen lits)))
    ∙ (ap (λ (b : Bool). not (is_fresh seen lits) || b) (sym (unused used lits clause e u))
    ∙ sym (fresh-more seen clause lits)))

-- ---- a clause under its literal at a place

and-all : (x c y s : Bool) → (s ≡ true → x ≡ true) → (s ≡ true → c ≡ true) → (s ≡ true → y ≡ true) → (x && (c && (y && s))) ≡ s
and-all x c y true f g h = ap (λ (b : Bool). b && (c && (y && true))) (f refl) ∙ (ap (λ (b : Bool). b && (y && true)) (g refl) ∙ ap (λ (b : Bool). b && true) (h refl))
and-all true true true false f g h = refl
and-all true true false false f g h = refl
and-all true false y false f g h = refl
and-all false c y false f g h = refl

-- the same for a clause of two literals
and-both : (x c y s : Bool) → (x && (y && true)) ≡ s → (s ≡ true → c ≡ true) → (x && (c && (y && true))) ≡ s
and-both true true y s e f = e
and-both true false true s e f = f (sym e) ∙ e
and-both true false false s e f = e
and-both false c y s e f = e

and-swapped : (a b : Bool) → (b && (a && true)) ≡ (a && (b && true))
and-swapped true true = refl
and-swapped true false = refl
and-swapped false true = refl
and-swapped false false = refl

-- a clause that is filed with its number
long-says : (all : List (List Lit)) (clause lits : List Lit) (n k j : ℕ) → 1 ≤ n → clause_at all n ≡ Some clause → k < length clause → j < length clause → ((length clause == 2) && not (k == j)) ≡ false → (has_lit lits (get_or clause k zero_lit) && indexed_within all lits (signature lits) (indexed_clause_of clause n k j)) ≡ is_subclause lits clause
long-says all clause lits n k j one e l m long =
    let number : (if (length clause == 2) && not (k == j) then 0 else n) ≡ n = ap (λ (b : Bool). if b then 0 else n) long in
    let some : (n == 0) ≡ false = ne_eqb n 0 (λ z. omega arith) in
    let whole : ((n == 0) || numbered_within all lits n) ≡ is_subclause lits clause = (λ i. some i || clause_within lits (e i)) in
    let covered : Bool = covers (signature lits) (signature clause) in
    ap (λ (m : ℕ). has_lit lits (get_or clause k zero_lit) && (covered && (has_lit lits (get_or clause j zero_lit) && ((m == 0) || numbered_within all lits m)))) number
    ∙ (ap (λ (b : Bool). has_lit lits (get_or clause k zero_lit) && (covered && (has_lit lits (get_or clause j zero_lit) && b))) whole
    ∙ and-all (has_lit lits (get_or clause k zero_lit)) covered (has_lit lits (get_or clause j zero_lit)) (is_subclause lits clause) (λ s. list_all-get (has_lit lits) clause k zero_lit s l) (λ s. within-covers lits clause s) (λ s. list_all-get (has_lit lits) clause j zero_lit s m))

-- a clause of two literals, filed with 0
pair-says : (all : List (List Lit)) (clause lits : List Lit) (k j : ℕ) → (has_lit lits (get_or clause k zero_lit) && (has_lit lits (get_or clause j zero_lit) && true)) ≡ is_subclause lits clause → (has_lit lits (get_or clause k zero_lit) && (covers (signature lits) (signature clause) && (has_lit lits (get_or clause j zero_lit) && true))) ≡ is_subclause lits clause
pair-says all clause lits k j e = and-both (has_lit lits (get_or clause k zero_lit)) (covers (signature lits) (signature clause)) (has_lit lits (get_or clause j zero_lit)) (is_subclause lits clause) e (λ s. within-covers lits clause s)

pub filed-says : (all : List (List Lit)) (clause lits : List Lit) (n k j : ℕ) → 1 ≤ n → clause_at all n ≡ Some clause → k < length clause → j < length clause → (has_lit lits (get_or clause k zero_lit) && indexed_within all lits (signature lits) (indexed_clause_of clause n k j)) ≡ is_subclause lits clause
filed-says all [] lits n k j one e l m = absurd (omega arith)
filed-says all (a ∷ []) lits n k j one e l m = long-says all (a ∷ []) lits n k j one e l m refl
filed-says all (a ∷ b ∷ []) lits n zero zero one e l m = long-says all (a ∷ b ∷ []) lits n 0 0 one e l m refl
filed-says all (a ∷ b ∷ []) lits n zero (suc zero) one e l m = pair-says all (a ∷ b ∷ []) lits 0 1 refl
filed-says all (a ∷ b ∷ []) lits n (suc zero) zero one e l m = pair-says all (a ∷ b ∷ []) lits 1 0 (and-swapped (has_lit lits a) (has_lit lits b))
filed-says all (a ∷ b ∷ []) lits n (suc zero) (suc zero) one e l m = long-says all (a ∷ b ∷ []) lits n 1 1 one e l m refl
filed-says all (a ∷ b ∷ []) lits n (suc (suc k)) j one e l m = absurd (omega arith)
filed-says all (a ∷ b ∷ []) lits n zero (suc (suc j)) one e l m = absurd (omega arith)
filed-says all (a ∷ b ∷ []) lits n (suc zero) (suc (suc j)) one e l m = absurd (omega arith)
filed-says all (a ∷ b ∷ c ∷ cs) lits n k j one e l m = long-says all (a ∷ b ∷ c ∷ cs) lits n k j one e l m (ap (λ (z : Bool). z && not (k == j)) (ne_eqb (length (a ∷ b ∷ c ∷ cs)) 2 (λ z. omega arith)))

-- the index after a clause is filed at a place
pub filed-at : (used : Lit → Bool) (old new : ClauseIndexView) (clause : List Lit) (n k j : ℕ) → 1 ≤ n → length old.lists ≡ 2 * old.vars → IsKey old.vars clause k → IsKey old.vars clause j → new ≡ with_indexed old (get_or clause k zero_lit) (indexed_clause_of clause n k j) → (all seen : List (List Lit)) → clause_at all n ≡ Some clause → IsClauseIndex used all old seen → IsClauseIndex used all new (seen ++ clause ∷ [])
filed-at used old new clause n k j one size key other e all seen there h =
    subst (λ (z : ClauseIndexView). IsClauseIndex used all z (seen ++ clause ∷ [])) (sym e)
    (filed-more used all seen old (get_or clause k zero_lit) (indexed_clause_of clause n k j) clause size key.1 (λ lits. filed-says all clause lits n k j one there key.0 other.0) h)

pub filed-loosely : (used : Lit → Bool) (old new : ClauseIndexView) (clause : List Lit) (n : ℕ) → new ≡ with_unkeyed old n → (all seen : List (List Lit)) → clause_at all n ≡ Some clause → IsClauseIndex used all old seen → IsClauseIndex used all new (seen ++ clause ∷ [])
filed-loosely used old new clause n e all seen there h =
    subst (λ (z : ClauseIndexView). IsClauseIndex used all z (seen ++ clause ∷ [])) (sym e) (loose-more used all seen old n clause there h)

-- one list changed
pub put-view : (old : ClauseIndexView) (vars : ℕ) (lists : List (List IndexedClause)) (unkeyed : List ℕ) (code : ℕ) (l : Lit) (f : IndexedClause) → vars ≡ old.vars → lists ≡ slice_set old.lists code (get_or old.lists code [] ++ f ∷ []) → unkeyed ≡ old.unkeyed → code ≡ code_of l → with_indexed old l f ≡ record { vars = vars; lists = lists; unkeyed = unkeyed }
put-view old vars lists unkeyed code l f a b c d = sym (λ i. record {
  vars = a i;
  lists = (b ∙ ap (λ (z : ℕ). slice_set old.lists z (get_or old.lists z [] ++ f ∷ [])) d) i;
  unkeyed = c i;
})

-- ---- an empty index

none-at : (p : IndexedClause → Bool) (count k : ℕ) → list_any p (get_or (replicate count []) k []) ≡ false
none-at p zero k = refl
none-at p (suc n) zero = refl
none-at p (suc n) (suc k) = none-at p n k

none-filed : (p : IndexedClause → Bool) (vars count : ℕ) (lits : List Lit) → some_indexed p (record { vars = vars; lists = replicate count []; unkeyed = [] }) lits ≡ false
none-filed p vars count [] = refl
none-filed p vars count (l ∷ ls) = step (is_lit_within vars l) ∙ none-filed p vars count ls
  where
    step : (b : Bool) → (list_any p (if b then get_or (replicate count []) (code_of l) [] else []) || some_indexed p (record { vars = vars; lists = replicate count []; unkeyed = [] }) ls) ≡ some_indexed p (record { vars = vars; lists = replicate count []; unkeyed = [] }) ls
    step true = ap (λ (z : Bool). z || some_indexed p (record { vars = vars; lists = replicate count []; unkeyed = [] }) ls) (none-at p count (code_of l))
    step false = refl

pub nothing-filed : (used : Lit → Bool) (all : List (List Lit)) (files : ClauseIndexView) (vars count : ℕ) → files ≡ record { vars = vars; lists = replicate count []; unkeyed = [] } → IsClauseIndex used all files []
nothing-filed used all files vars count e = λ lits u. ap (λ (z : ClauseIndexView). has_indexed_within all z lits) e ∙ none-filed (indexed_within all lits (signature lits)) vars count lits

-- ---- one more clause of the formula, and one more line

pub formula-filed : (used : Lit → Bool) (list : List (List Lit)) (lines : List Line) (old new : ClauseIndexView) (i : ℕ) (clause : List Lit) → i < length list → clause_at list (i + 1) ≡ Some clause → clause ≡ get_or list i [] → ((all seen : List (List Lit)) → clause_at all (i + 1) ≡ Some clause → IsClauseIndex used all old seen → IsClauseIndex used all new (seen ++ clause ∷ [])) → IsClauseIndex used (clauses_before list lines) old (take i list) → IsClauseIndex used (clauses_before list lines) new (take (i + 1) list)
formula-filed used list lines old new i clause l at is step h =
    let there : clause_at (clauses_before list lines) (i + 1) ≡ Some clause = clause_at-before list (map (λ (x : Line). x.lits) lines) (i + 1) (omega arith) (omega arith) ∙ at in
    let more : take (i + 1) list ≡ take i list ++ clause ∷ [] = take_more list i [] l ∙ ap (λ (z : List Lit). take i list ++ z ∷ []) (sym is) in
    subst (λ (z : List (List Lit)). IsClauseIndex used (clauses_before list lines) new z) (sym more) (step (clauses_before list lines) (take i list) there h)

pub line-filed : (used : Lit → Bool) (list : List (List Lit)) (lines : List Line) (old new : ClauseIndexView) (i n : ℕ) (line : Line) (lits : List Lit) → i < length lines → line ≡ get_or lines i line → lits ≡ line.lits → n ≡ length list + i + 1 → ((all seen : List (List Lit)) → clause_at all n ≡ Some lits → IsClauseIndex used all old seen → IsClauseIndex used all new (seen ++ lits ∷ [])) → IsClauseIndex used (clauses_before list lines) old (clauses_before list (take i lines)) → IsClauseIndex used (clauses_before list lines) new (clauses_before list (take (i + 1) lines))
line-filed used list lines old new i n line lits l r s e step h =
    let count : n - length list - 1 ≡ i = omega (arith, e) in
    let there : clause_at (clauses_before list lines) n ≡ Some lits = line-read list lines n (length list) line lits refl (omega (arith, e)) (omega (arith, e, l)) (r ∙ ap (λ (k : ℕ). get_or lines k line) (sym count)) s in
    let more : take (i + 1) lines ≡ take i lines ++ line ∷ [] = take_more lines i line l ∙ ap (λ (z : Line). take i lines ++ z ∷ []) (sym r) in
    let whole : clauses_before list (take (i + 1) lines) ≡ clauses_before list (take i lines) ++ lits ∷ [] = ap (λ (z : List Line). clauses_before list z) more ∙ clauses-more list (take i lines) line ∙ ap (λ (z : List Lit). clauses_before list (take i lines) ++ z ∷ []) (sym s) in
    subst (λ (z : List (List Lit)). IsClauseIndex used (clauses_before list lines) new z) (sym whole) (step (clauses_before list lines) (clauses_before list (take i lines)) there h)

-- what the search says of a line
pub not-found : (used : Lit → Bool) (all seen : List (List Lit)) (files : ClauseIndexView) (lits : List Lit) (found : Bool) → list_all used lits ≡ true → IsClauseIndex used all files seen → found ≡ has_indexed_within all files lits → found ≡ false → is_fresh seen lits ≡ true
not-found used all seen files lits found u h e f = back (is_fresh seen lits) (sym (h lits u) ∙ (sym e ∙ f))
  where
    back : (b : Bool) → not b ≡ false → b ≡ true
    back true e = refl
    back false e = cc

pub was-found : (used : Lit → Bool) (all seen : List (List Lit)) (files : ClauseIndexView) (lits : List Lit) (found : Bool) → list_all used lits ≡ true → IsClauseIndex used all files seen → found ≡ has_indexed_within all files lits → found ≡ true → is_fresh seen lits ≡ false
was-found used all seen files lits found u h e f = back (is_fresh seen lits) (sym (h lits u) ∙ (sym e ∙ f))
  where
    back : (b : Bool) → not b ≡ true → b ≡ false
    back true e = cc
    back false e = refl
