-- A domains file and a rows file that come in pieces read as they do in one piece.
use Rattle.std.proofs.Common.{◌≡◌, ◌∙◌, ◌+◌, ◌∷◌, ◌++◌, [], ℕ, List, Result, Ok, Err, refl, sym, length, subst}
use Rattle.std.proofs.lemmas.List.{append-nil}
use Rattle.pack_defs.specs.Book.{AreInOrder}
use Rattle.pack_defs.specs.declared.domain.Domain.{Domain}
use Rattle.constraint_files.specs.Domains.{add_domain_row, domains_fed, domains_of}
use Rattle.constraint_files.specs.LineReader.{FeedState, begun_line, fed_unless_rejected, fed_on, finished, whole_lines}
use Rattle.constraint_files.specs.Reads.{Reads}
use Rattle.constraint_files.specs.Records.{after_lines, after_records, line_records, lines_of, after_read_line}
use Rattle.constraint_files.specs.PairTable.{ArePairs, PairsView, RowsView, add_row, add_row_over, pairs_fed, pairs_of}
use Rattle.pack_defs.specs.Steps.{◌>>=◌}
use Rattle.constraint_files.specs.declared.error.ReadErr.{ReadErr}
use Rattle.constraint_files.specs.declared.error.ReadErr.TheVariants.{Row, NoMemory}
use Rattle.constraint_files.specs.declared.error.RowWhy.{RowWhy}
use Rattle.constraint_files.proofs.OrderLemmas.{add-in-order, lines-keep}
use Rattle.constraint_files.proofs.PairsAscend.{row-ascends}
use Rattle.constraint_files.proofs.PairsOfTwo.{row-two}
use Rattle.constraint_files.proofs.PieceLemmas.{fed-append, fed-end, fed-refused}

-- What each record preserves, a piece preserves.
fed-keeps : {S : Type 0} (add : S → List (List ℕ) → Result S RowWhy) (P : S → Type 0) → ((s last : S) (r : List (List ℕ)) → P s → add s r ≡ Ok last → P last)
    → (had has : FeedState S) (xs : List ℕ) → P had.made → fed_on add had xs ≡ Ok has → P has.made
unfolding fed_on
fed-keeps {S = S} add P keeps had has xs p e = go (after_lines add had.made had.line (whole_lines (had.begun ++ xs))) refl e
  where
    go : (o : Result S ReadErr) → after_lines add had.made had.line (whole_lines (had.begun ++ xs)) ≡ o
        → fed_unless_rejected o (begun_line (had.begun ++ xs)) (had.line + length (whole_lines (had.begun ++ xs))) ≡ Ok has → P has.made
    go (Err why) is h = cc
    go (Ok made) is h =
        let same : record { made = made; begun = begun_line (had.begun ++ xs); line = had.line + length (whole_lines (had.begun ++ xs)) } ≡ has = cc in
        subst (λ (f : FeedState S). P f.made) same (lines-keep add P keeps had.made made had.line (whole_lines (had.begun ++ xs)) p is)

-- ---- domains

pub domains-none : domains_fed [] ≡ Ok (record { made = []; begun = []; line = 1 })
unfolding domains_fed fed_on after_lines whole_lines begun_line
domains-none = refl

-- The effect of one more piece.
pub domains-more : (bytes piece : List ℕ) (has : FeedState (List Domain)) → domains_fed bytes ≡ Ok has → domains_fed (bytes ++ piece) ≡ fed_on add_domain_row has piece
unfolding domains_fed
domains-more bytes piece has e = fed-append add_domain_row (record { made = []; begun = []; line = 1 }) has bytes piece e

-- The end of the file.
pub domains-end : (bytes : List ℕ) (has : FeedState (List Domain)) → domains_fed bytes ≡ Ok has → domains_of bytes ≡ finished add_domain_row has
unfolding domains_fed domains_of
domains-end bytes has e = fed-end add_domain_row (record { made = []; begun = []; line = 1 }) has bytes e

-- If the first bytes of a file are rejected, the file is rejected with the same error, whatever follows.
pub domains-refused : (bytes more : List ℕ) (why : ReadErr) → domains_fed bytes ≡ Err why → domains_of (bytes ++ more) ≡ Err why
unfolding domains_fed domains_of
domains-refused bytes more why e = fed-refused add_domain_row (record { made = []; begun = []; line = 1 }) bytes more why e

-- The same for the complete file.
pub domains-stop : (bytes : List ℕ) (e : ReadErr) → Reads (domains_fed bytes) (Err e) → Reads (domains_of bytes) (Err e)
domains-stop bytes (Row l why) h = rw (append-nil bytes) at (domains-refused bytes [] (Row l why) h)
domains-stop bytes NoMemory h = tt

pub domains-keep : (had has : FeedState (List Domain)) (xs : List ℕ) → AreInOrder had.made → fed_on add_domain_row had xs ≡ Ok has → AreInOrder has.made
domains-keep had has xs order e = fed-keeps add_domain_row AreInOrder add-in-order had has xs order e

pub domains-done : (has : FeedState (List Domain)) (ds : List Domain) → AreInOrder has.made → finished add_domain_row has ≡ Ok ds → AreInOrder ds
unfolding finished
domains-done has ds order e = lines-keep add_domain_row AreInOrder add-in-order has.made ds has.line (lines_of has.begun) order e

-- ---- rows

-- The contents of rows, with the domains.
abbrev over : {E : Type 0} → List Domain → Result PairsView E → Result RowsView E
over domains (Ok pairs_view) = Ok (record { domains = domains; pairs_view = pairs_view })
over domains (Err why) = Err why

records-over : (domains : List Domain) (pairs_view : PairsView) (rs : List (List (List ℕ)))
    → after_records add_row_over (record { domains = domains; pairs_view = pairs_view }) rs ≡ over domains (after_records (add_row domains) pairs_view rs)
unfolding after_records
records-over domains pairs_view [] = refl
records-over domains pairs_view (r ∷ rs) = go (add_row domains pairs_view r) (λ next. records-over domains next rs)
  where
    go : (o : Result PairsView RowWhy) → ((next : PairsView) → after_records add_row_over (record { domains = domains; pairs_view = next }) rs ≡ over domains (after_records (add_row domains) next rs))
        → ((o >>= (λ t. Ok (record { domains = domains; pairs_view = t }))) >>= (λ next. after_records add_row_over next rs)) ≡ over domains (o >>= (λ next. after_records (add_row domains) next rs))
    go (Err why) later = refl
    go (Ok next) later = later next

lines-over : (domains : List Domain) (pairs_view : PairsView) (n : ℕ) (lines : List (List ℕ))
    → after_lines add_row_over (record { domains = domains; pairs_view = pairs_view }) n lines ≡ over domains (after_lines (add_row domains) pairs_view n lines)
unfolding after_lines
lines-over domains pairs_view n [] = refl
lines-over domains pairs_view n (line ∷ lines) = rw (records-over domains pairs_view (line_records line)) (go (after_records (add_row domains) pairs_view (line_records line)) (λ next. lines-over domains next (n + 1) lines))
  where
    go : (o : Result PairsView RowWhy) → ((next : PairsView) → after_lines add_row_over (record { domains = domains; pairs_view = next }) (n + 1) lines ≡ over domains (after_lines (add_row domains) next (n + 1) lines))
        → after_read_line n (over domains o) (λ next. after_lines add_row_over next (n + 1) lines) ≡ over domains (after_read_line n o (λ next. after_lines (add_row domains) next (n + 1) lines))
    go (Err why) later = refl
    go (Ok next) later = later next

over-ok : (domains : List Domain) (o : Result PairsView ReadErr) (rows : RowsView) → over domains o ≡ Ok rows → o ≡ Ok rows.pairs_view
over-ok domains (Ok pairs_view) rows e =
    let same : record { domains = domains; pairs_view = pairs_view } ≡ rows = cc in
    rw (← same) refl
over-ok domains (Err why) rows e = cc

over-err : (domains : List Domain) (o : Result PairsView ReadErr) (why : ReadErr) → over domains o ≡ Err why → o ≡ Err why
over-err domains (Ok pairs_view) why e = cc
over-err domains (Err w) why e = cc

-- A reader before the first row.
abbrev pub no_rows : List Domain → FeedState RowsView
no_rows domains = record { made = record { domains = domains; pairs_view = record { list = []; self_pairs = 0; strangers = 0 } }; begun = []; line = 1 }

pub pairs-none : (domains : List Domain) → pairs_fed [] domains ≡ Ok (no_rows domains)
unfolding pairs_fed fed_on after_lines whole_lines begun_line
pairs-none domains = refl

pub pairs-more : (bytes piece : List ℕ) (domains : List Domain) (has : FeedState RowsView) → pairs_fed bytes domains ≡ Ok has
    → pairs_fed (bytes ++ piece) domains ≡ fed_on add_row_over has piece
unfolding pairs_fed
pairs-more bytes piece domains has e = fed-append add_row_over (no_rows domains) has bytes piece e

pub pairs-end : (bytes : List ℕ) (domains : List Domain) (has : FeedState RowsView) (rows : RowsView) → pairs_fed bytes domains ≡ Ok has
    → finished add_row_over has ≡ Ok rows → pairs_of bytes domains ≡ Ok rows.pairs_view
unfolding pairs_fed pairs_of
pairs-end bytes domains has rows e done =
    over-ok domains (after_lines (add_row domains) (record { list = []; self_pairs = 0; strangers = 0 }) 1 (lines_of bytes)) rows
    (sym (lines-over domains (record { list = []; self_pairs = 0; strangers = 0 }) 1 (lines_of bytes)) ∙ fed-end add_row_over (no_rows domains) has bytes e ∙ done)

pub pairs-end-refused : (bytes : List ℕ) (domains : List Domain) (has : FeedState RowsView) (why : ReadErr) → pairs_fed bytes domains ≡ Ok has
    → finished add_row_over has ≡ Err why → pairs_of bytes domains ≡ Err why
unfolding pairs_fed pairs_of
pairs-end-refused bytes domains has why e done =
    over-err domains (after_lines (add_row domains) (record { list = []; self_pairs = 0; strangers = 0 }) 1 (lines_of bytes)) why
    (sym (lines-over domains (record { list = []; self_pairs = 0; strangers = 0 }) 1 (lines_of bytes)) ∙ fed-end add_row_over (no_rows domains) has bytes e ∙ done)

pub pairs-end-stops : (bytes : List ℕ) (domains : List Domain) (has : FeedState RowsView) (e : ReadErr) → pairs_fed bytes domains ≡ Ok has
    → Reads (finished add_row_over has) (Err e) → Reads (pairs_of bytes domains) (Err e)
pairs-end-stops bytes domains has (Row l why) e done = pairs-end-refused bytes domains has (Row l why) e done
pairs-end-stops bytes domains has NoMemory e done = tt

-- If the first bytes of a file are rejected, the file is rejected with the same error, whatever follows.
pub pairs-refused : (bytes more : List ℕ) (domains : List Domain) (why : ReadErr) → pairs_fed bytes domains ≡ Err why → pairs_of (bytes ++ more) domains ≡ Err why
unfolding pairs_fed pairs_of
pairs-refused bytes more domains why e =
    over-err domains (after_lines (add_row domains) (record { list = []; self_pairs = 0; strangers = 0 }) 1 (lines_of (bytes ++ more))) why
    (sym (lines-over domains (record { list = []; self_pairs = 0; strangers = 0 }) 1 (lines_of (bytes ++ more))) ∙ fed-refused add_row_over (no_rows domains) bytes more why e)

pub pairs-stop : (bytes : List ℕ) (domains : List Domain) (e : ReadErr) → Reads (pairs_fed bytes domains) (Err e) → Reads (pairs_of bytes domains) (Err e)
pairs-stop bytes domains (Row l why) h = rw (append-nil bytes) at (pairs-refused bytes [] domains (Row l why) h)
pairs-stop bytes domains NoMemory h = tt

-- A record preserves the order of the pairs.
abbrev AreRows : RowsView → Type 0
AreRows rows = ArePairs rows.pairs_view.list

add-over-keeps : (s last : RowsView) (r : List (List ℕ)) → AreRows s → add_row_over s r ≡ Ok last → AreRows last
add-over-keeps s last r p e = go (add_row s.domains s.pairs_view r) refl e
  where
    go : (o : Result PairsView RowWhy) → add_row s.domains s.pairs_view r ≡ o → (o >>= (λ t. Ok (record { domains = s.domains; pairs_view = t }))) ≡ Ok last → AreRows last
    go (Err why) is h = cc
    go (Ok pairs_view) is h =
        let same : record { domains = s.domains; pairs_view = pairs_view } ≡ last = cc in
        subst AreRows same (record { ascend = row-ascends s.domains s.pairs_view pairs_view r p.ascend is; of_two = row-two s.domains s.pairs_view pairs_view r p.of_two is })

pub pairs-keep : (had has : FeedState RowsView) (xs : List ℕ) → AreRows had.made → fed_on add_row_over had xs ≡ Ok has → AreRows has.made
pairs-keep had has xs p e = fed-keeps add_row_over AreRows add-over-keeps had has xs p e

pub pairs-done : (has : FeedState RowsView) (rows : RowsView) → AreRows has.made → finished add_row_over has ≡ Ok rows → AreRows rows
unfolding finished
pairs-done has rows p e = lines-keep add_row_over AreRows add-over-keeps has.made rows has.line (lines_of has.begun) p e
