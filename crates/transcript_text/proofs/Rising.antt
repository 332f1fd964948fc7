-- Lists that were read ascend as their definitions demand.
use Rattle.std.proofs.Common.{◌≡◌, ℕ, zero, suc, Bool, true, false, List, [], ◌∷◌, map, Option, Some, None, Result, Ok, Err, refl, subst, if◌then◌else◌}
use Rattle.std.specs.Prelude.{nat_lt, codes}
use Rattle.std.proofs.lemmas.Bool.{and_from}
use Rattle.pack_defs.specs.Lists.{is_ascending}
use Rattle.pack_defs.specs.ChannelMap.{IsAscending}
use Rattle.pack_defs.specs.declared.scenario.Scenario.{Scenario}
use Rattle.transcript_text.specs.declared.error.TextErr.{TextErr}
use Rattle.transcript_text.specs.declared.error.TextErr.TheVariants.{BadLine}
use Rattle.pack_defs.specs.Steps.{◌>>=◌}
use Rattle.transcript_text.specs.Fields.{RemainingLines, RemainingFields, next_line, word_at, station_at, station_above, channel_at, line_end, is_above}
use Rattle.transcript_text.specs.LogLines.{entry_at, entries_at, stations_at}

-- A chain of two calls that succeeded: the result of the first, and the second's success on it.
pub after-ok : {A B : Type 0} (r : Result A TextErr) (f : A → Result B TextErr) (y : B) → (r >>= f) ≡ Ok y → (x : A) × (r ≡ Ok x) × (f x ≡ Ok y)
after-ok (Ok x) f y h = (x, refl, h)
after-ok (Err e) f y h = absurd cc

-- Whether each number is above the one before it.
abbrev pub Rises : Option ℕ → List ℕ → Type 0
Rises above [] = Unit {0}
Rises above (s ∷ ss) = (is_above above s ≡ true) × Rises (Some s) ss

pub rises-ascend : (above : Option ℕ) (ss : List ℕ) → Rises above ss → is_ascending ss ≡ true
rises-ascend above [] h = refl
rises-ascend above (s ∷ []) h = refl
rises-ascend above (s ∷ t ∷ ts) h = and_from (nat_lt s t) (is_ascending (t ∷ ts)) h.1.0 (rises-ascend (Some s) (t ∷ ts) h.1)

pub station-above : (sc : Scenario) (above : Option ℕ) (line : RemainingFields) (s : ℕ × RemainingFields) → station_above sc above line ≡ Ok s → is_above above s.0 ≡ true
unfolding station_above
station-above sc above line s e =
    let a = after-ok (station_at sc line) (λ s. if is_above above s.0 then Ok s else Err (BadLine line.number)) s e in
    go (is_above above a.0.0) a.0 refl a.2
  where
    go : (b : Bool) (x : ℕ × RemainingFields) → is_above above x.0 ≡ b → (if b then Ok x else Err (BadLine line.number)) ≡ Ok s → is_above above s.0 ≡ true
    go true x is h = let same : x ≡ s = cc in subst (λ z. is_above above z.0 ≡ true) same is
    go false x is h = absurd cc

entry-above : (sc : Scenario) (word : List ℕ) (above : Option ℕ) (line : RemainingFields) (x : ℕ × ℕ) → entry_at sc word above line ≡ Ok x → is_above above x.0 ≡ true
unfolding entry_at
entry-above sc word above line x e =
    let a = after-ok (word_at word line) _ x e in
    let b = after-ok (station_above sc above a.0) _ x a.2 in
    let c = after-ok (channel_at b.0.1) _ x b.2 in
    let d = after-ok (line_end c.0.1) _ x c.2 in
    let same : (b.0.0, c.0.0) ≡ x = cc in
    subst (λ z. is_above above z.0 ≡ true) same (station-above sc above a.0 b.0 b.1)

entries-rise : (sc : Scenario) (above : Option ℕ) (k : ℕ) (lines : RemainingLines) (y : List (ℕ × ℕ) × RemainingLines) → entries_at sc above k lines ≡ Ok y → Rises above (map (λ x. x.0) y.0)
unfolding entries_at
entries-rise sc above zero lines y e = let same : ([], lines) ≡ y = cc in subst (λ z. Rises above (map (λ x. x.0) z.0)) same tt
entries-rise sc above (suc k) lines y e =
    let a = after-ok (next_line lines) _ y e in
    let b = after-ok (entry_at sc (codes "at") above a.0.0) _ y a.2 in
    let d = after-ok (entries_at sc (Some b.0.0) k a.0.1) _ y b.2 in
    let same : (b.0 ∷ d.0.0, d.0.1) ≡ y = cc in
    subst (λ z. Rises above (map (λ x. x.0) z.0)) same (entry-above sc (codes "at") above a.0.0 b.0 b.1, entries-rise sc (Some b.0.0) k a.0.1 d.0 d.1)

pub entries-ascend : (sc : Scenario) (k : ℕ) (lines rest : RemainingLines) (xs : List (ℕ × ℕ)) → entries_at sc None k lines ≡ Ok (xs, rest) → IsAscending xs
entries-ascend sc k lines rest xs e = rises-ascend None (map (λ x. x.0) xs) (entries-rise sc None k lines (xs, rest) e)

stations-rise : (sc : Scenario) (n : ℕ) (above : Option ℕ) (fields : List (List ℕ)) (y : List ℕ) → stations_at sc n above fields ≡ Ok y → Rises above y
unfolding stations_at
stations-rise sc n above [] y e = let same : [] ≡ y = cc in subst (Rises above) same tt
stations-rise sc n above (field ∷ fields) y e =
    let a = after-ok (station_above sc above (record { number = n; fields = field ∷ [] })) _ y e in
    let b = after-ok (stations_at sc n (Some a.0.0) fields) _ y a.2 in
    let same : a.0.0 ∷ b.0 ≡ y = cc in
    subst (Rises above) same (station-above sc above (record { number = n; fields = field ∷ [] }) a.0 a.1, stations-rise sc n (Some a.0.0) fields b.0 b.1)

pub stations-ascend : (sc : Scenario) (n : ℕ) (fields : List (List ℕ)) (xs : List ℕ) → stations_at sc n None fields ≡ Ok xs → is_ascending xs ≡ true
stations-ascend sc n fields xs e = rises-ascend None xs (stations-rise sc n None fields xs e)
