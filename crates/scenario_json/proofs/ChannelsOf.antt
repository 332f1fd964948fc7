-- For `laws`: the channels of a file's domains are from 14 to 51, and so are those of a book that is made of them.
use Rattle.std.proofs.Common.{◌≡◌, ◌<◌, ◌≤◌, ◌∷◌, [], ℕ, List, Bool, Option, Some, None, Result, Ok, Err, true, false, codes, cond, eqb, length, map, nat_le, nat_lt, All, Contains, refl, arith, subst}
use Rattle.std.specs.List.{list_all}
use Rattle.std.specs.Option.{is_some, ok_or}
use Rattle.std.specs.Str.{bytes_eq}
use Rattle.std.proofs.lemmas.List.Elements.{All-cons, All-head, All-nil, All-tail}
use Rattle.std.proofs.lemmas.List.FromFn.{get_or-range_with_len, length-range_with_len}
use Rattle.pack_defs.proofs.Members.{Contains-from_filter, is_in-from, is_in-gives}
use Rattle.pack_defs.specs.Book.{BookView, channels_in, cut_book, cut_domain, domain_of}
use Rattle.pack_defs.specs.Lists.{is_in}
use Rattle.pack_defs.specs.Scenario.{facilities}
use Rattle.pack_defs.specs.declared.domain.Domain.{Domain}
use Rattle.pack_defs.specs.declared.pair.Pair.{Pair}
use Rattle.pack_defs.specs.declared.scenario.Scenario.{Scenario}
use Rattle.constraint_files.specs.Domains.{add_domain_row, channels_of, channels_to_keep, domain_with_channels, domain_row, domains_of, kept_channels, put_domain, with_domain}
use Rattle.constraint_files.specs.Field.{is_channel, number, numbers}
use Rattle.constraint_files.specs.Records.{lines_of}
use Rattle.pack_defs.specs.Steps.{◌>>=◌}
use Rattle.constraint_files.specs.declared.error.RowWhy.{RowWhy}
use Rattle.constraint_files.specs.declared.error.RowWhy.TheVariants.{BadKey, BadNumber, ChannelRange, SecondDomain, TooMany}
use Rattle.constraint_files.proofs.OrderLemmas.{lines-keep}
use Rattle.scenario_json.specs.Join.{book_unless, first_missing, joined}

-- each channel of the domain is one that a domain may have
abbrev IsKept : Domain → Type 0
IsKept d = (c : ℕ) → is_in d.channels c ≡ true → (14 ≤ c) × (c ≤ 51)

to-keep : (c : ℕ) → Contains channels_to_keep c → (14 ≤ c) × (c ≤ 51)
unfolding channels_to_keep
to-keep c (k, l, e) =
    let below : k < 38 = omega (arith, l, length-range_with_len 14 38) in
    let is = get_or-range_with_len 14 38 k c below in
    (omega (arith, is, e, below), omega (arith, is, e, below))

naming-kept : (s : ℕ) (named : List ℕ) (d : Domain) → domain_with_channels s named ≡ Ok d → IsKept d
naming-kept s named d e = go (list_all is_channel named) e
  where
    own : IsKept (record { station = s; channels = kept_channels named })
    own c h = to-keep c (Contains-from_filter (λ x. is_in named x) channels_to_keep c (is_in-gives (kept_channels named) c h)).0

    go : (b : Bool) → cond b (Ok (record { station = s; channels = kept_channels named })) (Err ChannelRange) ≡ Ok d → IsKept d
    go true h =
        let is : record { station = s; channels = kept_channels named } ≡ d = cc in
        subst IsKept is own
    go false h = cc

row-kept : (fields : List (List ℕ)) (d : Domain) → domain_row fields ≡ Ok d → IsKept d
unfolding domain_row
row-kept [] d e = cc
row-kept (key ∷ []) d e = cc
row-kept (key ∷ facility ∷ channels) d e = by_key (bytes_eq key (codes "DOMAIN")) e
  where
    by_numbers : (s : ℕ) (o : Option (List ℕ)) → (ok_or o BadNumber >>= domain_with_channels s) ≡ Ok d → IsKept d
    by_numbers s None h = cc
    by_numbers s (Some named) h = naming-kept s named d h

    by_station : (o : Option ℕ) → (ok_or o BadNumber >>= (λ s. ok_or (numbers channels) BadNumber >>= domain_with_channels s)) ≡ Ok d → IsKept d
    by_station None h = cc
    by_station (Some s) h = by_numbers s (numbers channels) h

    by_key : (b : Bool) → cond b (ok_or (number facility) BadNumber >>= (λ s. ok_or (numbers channels) BadNumber >>= domain_with_channels s)) (Err BadKey) ≡ Ok d → IsKept d
    by_key true h = by_station (number facility) h
    by_key false h = cc

with-kept : (d : Domain) (es : List Domain) → IsKept d → All IsKept es → All IsKept (with_domain d es)
with-kept d [] one all = All-cons IsKept d [] one all
with-kept d (e ∷ es) one all = go (nat_lt e.station d.station) (with-kept d es one (All-tail IsKept e es all))
  where
    go : (less : Bool) → All IsKept (with_domain d es) → All IsKept (cond less (e ∷ with_domain d es) (d ∷ e ∷ es))
    go true later = All-cons IsKept e (with_domain d es) (All-head IsKept e es all) later
    go false later = All-cons IsKept d (e ∷ es) one all

put-kept : (ds last : List Domain) (d : Domain) → IsKept d → All IsKept ds → put_domain ds d ≡ Ok last → All IsKept last
put-kept ds last d one all e = go (is_some (channels_of ds d.station)) (nat_le 65536 (length ds)) e
  where
    go : (second full : Bool) → cond second (Err SecondDomain) (cond full (Err TooMany) (Ok (with_domain d ds))) ≡ Ok last → All IsKept last
    go true full h = cc
    go false true h = cc
    go false false h =
        let is : with_domain d ds ≡ last = cc in
        subst (All IsKept) is (with-kept d ds one all)

add-kept : (ds last : List Domain) (r : List (List ℕ)) → All IsKept ds → add_domain_row ds r ≡ Ok last → All IsKept last
add-kept ds last r all e = go (domain_row r) (row-kept r) e
  where
    go : (o : Result Domain RowWhy) → ((d : Domain) → o ≡ Ok d → IsKept d) → (o >>= put_domain ds) ≡ Ok last → All IsKept last
    go (Err why) one h = cc
    go (Ok d) one h = put-kept ds last d (one d refl) all h

file-kept : (bytes : List ℕ) (ds : List Domain) → domains_of bytes ≡ Ok ds → All IsKept ds
unfolding domains_of
file-kept bytes ds e = lines-keep add_domain_row (All IsKept) add-kept [] ds 1 (lines_of bytes) (All-nil IsKept) e

in-domains : (ds : List Domain) (s c : ℕ) → All IsKept ds → is_in (channels_in ds s) c ≡ true → (14 ≤ c) × (c ≤ 51)
in-domains [] s c all h = cc
in-domains (d ∷ ds) s c all h = go (eqb d.station s) (in-domains ds s c (All-tail IsKept d ds all)) h
  where
    go : (own : Bool) → (is_in (channels_in ds s) c ≡ true → (14 ≤ c) × (c ≤ 51)) → is_in (cond own d.channels (channels_in ds s)) c ≡ true → (14 ≤ c) × (c ≤ 51)
    go true later k = All-head IsKept d ds all c k
    go false later k = later k

-- what is cut was in the domain
cut-kept : (top : ℕ) (domains : List Domain) (ids : List ℕ) → All IsKept domains → All IsKept (map (cut_domain top domains) ids)
cut-kept top domains [] all = All-nil IsKept
cut-kept top domains (x ∷ xs) all = All-cons IsKept (cut_domain top domains x) (map (cut_domain top domains) xs) own (cut-kept top domains xs all)
  where
    own : IsKept (cut_domain top domains x)
    own c h =
        let here = Contains-from_filter (λ y. nat_le y top) (channels_in domains x) c (is_in-gives (cut_domain top domains x).channels c h) in
        in-domains domains x c all (is_in-from (channels_in domains x) c here.0)

pub book-kept : (bytes : List ℕ) (domains : List Domain) (sc : Scenario) (pairs : List Pair) (book : BookView) (s c : ℕ)
    → domains_of bytes ≡ Ok domains → joined sc domains pairs ≡ Ok book → is_in (domain_of book s) c ≡ true → (14 ≤ c) × (c ≤ 51)
unfolding joined
book-kept bytes domains sc pairs book s c read made has = go (first_missing (facilities sc) domains) made
  where
    cut : BookView
    cut = cut_book sc.top (facilities sc) domains pairs

    go : (missing : Option ℕ) → book_unless missing cut ≡ Ok book → (14 ≤ c) × (c ≤ 51)
    go (Some x) h = cc
    go None h =
        let is : book ≡ cut = cc in
        in-domains cut.domains s c (cut-kept sc.top domains (facilities sc) (file-kept bytes domains read)) (subst (λ (b : BookView). is_in (domain_of b s) c ≡ true) is has)
