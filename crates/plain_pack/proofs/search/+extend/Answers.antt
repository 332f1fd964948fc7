use Rattle.std.proofs.Common.{◌≡◌, ◌<◌, ◌≤◌, ◌+◌, ◌-◌, ◌∙◌, ℕ, true, false, List, [], ◌∷◌, ◌++◌, length, take, get_or, refl, sym, ap, subst, arith, rules, Contains}
use Rattle.std.proofs.Math.Seq.{take-append_seam}
use Rattle.std.proofs.lemmas.List.{length-append, take_more, take_all}
use Rattle.std.proofs.lemmas.List.Elements.{Contains-get_or}
use Rattle.pack_defs.specs.Book.{domain_of}
use Rattle.plain_pack.specs.Search.{Extends, is_compatible_with}
use Rattle.pack_defs.proofs.Words.{entry}
use Rattle.plain_pack.proofs.PackSearch.{beside, extends-by, extends-nil, none-beyond, none-by, none-whole, not-beside}
use Rattle.plain_pack.proofs.search.+extend.Goals as goal

nil-of : {X : Type 0} (xs : List X) → length xs ≡ 0 → xs ≡ []
nil-of [] h = refl
nil-of (x ∷ xs) h = absurd (omega arith)

Contains-at : (xs : List ℕ) (i : ℕ) → i < length xs → Contains xs (get_or xs i 0)
Contains-at xs i h = Contains-get_or xs i 0 h

-- A list without its last element.
without_last : (xs : List (ℕ × ℕ)) (x : ℕ × ℕ) (n : ℕ) → n ≡ length (xs ++ x ∷ []) → take (n - 1) (xs ++ x ∷ []) ≡ xs
without_last xs x n e =
    let k : n - 1 ≡ length xs = omega (arith, length-append xs (x ∷ [])) in
    rw k (take-append_seam xs (x ∷ []))

pub returns-in_default : goal.returns-in_default
returns-in_default t c =
    let none : length c.args.left.now ≡ 0 = c.in_default.ensures.cases in
    subst (λ z. Extends c.args.book.now c.args.chosen.now.items z c.args.chosen.now.items) (sym (nil-of c.args.left.now none))
    (extends-nil c.args.book.now c.args.chosen.now.items c.requires)

-- One more of the channels.
one_more : (channels : List ℕ) (i : ℕ) → i < length channels → take (i + 1) channels ≡ take i channels ++ get_or channels i 0 ∷ []
one_more channels i h = take_more channels i 0 h

pub loop-channel-preserved-then-not-is_compatible : goal.loop-channel-preserved-then-not-is_compatible
loop-channel-preserved-then-not-is_compatible t c =
    let inv = c.loop-channel.invariant in
    let inside : c.loop-channel.channel-index < length c.domain-channel-items.result.now = omega arith in
    let chosen : c.deref.result.now ≡ c.args.chosen.now.items = c.deref.ensures.value ∙ inv.chosen in
    let apart_not : is_compatible_with c.args.book.now c.args.chosen.now.items (c.in-Some.station.now, get_or c.domain-channel-items.result.now c.loop-channel.channel-index 0) ≡ false =
    rw chosen at (sym c.if-not-is_compatible.ensures) in
    record {
      chosen = inv.chosen;
      apart = inv.apart;
      none = rw (one_more c.domain-channel-items.result.now c.loop-channel.channel-index inside)
          (none-by c.args.book.now c.args.chosen.now.items c.in-Some.station.now (take c.loop-channel.channel-index c.domain-channel-items.result.now) (get_or c.domain-channel-items.result.now c.loop-channel.channel-index 0) c.in-Some.others.now inv.none
          (λ more l. not-beside c.args.book.now c.args.chosen.now.items (c.in-Some.station.now, get_or c.domain-channel-items.result.now c.loop-channel.channel-index 0) more apart_not));
    }

pub extend-requires : goal.extend-requires
extend-requires t c =
    let inv = c.loop-channel.invariant in
    let chosen : c.deref.result.now ≡ c.args.chosen.now.items = c.deref.ensures.value ∙ inv.chosen in
    let x = entry c.in-Some.station.now (get_or c.domain-channel-items.result.now c.loop-channel.channel-index 0) in
    let stands : is_compatible_with c.args.book.now c.args.chosen.now.items x ≡ true = rw chosen at (sym c.if-not-is_compatible.ensures) in
    let whole : c.push.new.self.items ≡ c.args.chosen.now.items ++ x ∷ [] = c.in_ok-push.ensures.items ∙ ap (λ z. z ++ x ∷ []) inv.chosen in
    let fewer : length c.in-Some.others.now + 1 ≡ length c.args.left.now = c.in-Some.ensures.cases.1 in
    (search rules, rw whole (beside c.args.book.now c.args.chosen.now.items x inv.apart stands))

pub returns-then-branch : goal.returns-then-branch
returns-then-branch t c =
    let inv = c.loop-channel.invariant in
    let x = entry c.in-Some.station.now (get_or c.domain-channel-items.result.now c.loop-channel.channel-index 0) in
    let whole : c.push.new.self.items ≡ c.args.chosen.now.items ++ x ∷ [] = c.in_ok-push.ensures.items ∙ ap (λ z. z ++ x ∷ []) inv.chosen in
    let found = rw (c.if-branch.true, whole) at c.in_ok-extend.ensures in
    let inside : c.loop-channel.channel-index < length c.domain-channel-items.result.now = omega arith in
    let on : Contains (domain_of c.args.book.now c.in-Some.station.now) x.1 =
    subst (λ z. Contains z x.1) c.domain-channel-items.ensures (Contains-at c.domain-channel-items.result.now c.loop-channel.channel-index inside) in
    let left : c.args.left.now ≡ c.in-Some.station.now ∷ c.in-Some.others.now = c.in-Some.ensures.cases.0 in
    rw left (extends-by c.args.book.now c.args.chosen.now.items x.0 x.1 c.in-Some.others.now c.extend.new.chosen.items on found)

pub loop-channel-preserved : goal.loop-channel-preserved
loop-channel-preserved t c =
    let inv = c.loop-channel.invariant in
    let x = entry c.in-Some.station.now (get_or c.domain-channel-items.result.now c.loop-channel.channel-index 0) in
    let whole : c.push.new.self.items ≡ c.args.chosen.now.items ++ x ∷ [] = c.in_ok-push.ensures.items ∙ ap (λ z. z ++ x ∷ []) inv.chosen in
    let none = rw (c.if-branch.false, whole) at c.in_ok-extend.ensures in
    let inside : c.loop-channel.channel-index < length c.domain-channel-items.result.now = omega arith in
    record {
      chosen = rw none.0 at c.pop.ensures.rest ∙ without_last c.args.chosen.now.items x _ (c.extend.new.chosen.ok.0 ∙ ap length none.0);
      apart = inv.apart;
      none = rw (one_more c.domain-channel-items.result.now c.loop-channel.channel-index inside)
          (none-by c.args.book.now c.args.chosen.now.items x.0 (take c.loop-channel.channel-index c.domain-channel-items.result.now) x.1 c.in-Some.others.now inv.none
          (none-beyond c.args.book.now c.args.chosen.now.items x c.in-Some.others.now none.1));
    }

pub returns : goal.returns
returns t c =
    let inv = c.loop-channel.invariant in
    let all : length c.domain-channel-items.result.now ≤ c.loop-channel.channel-index = omega arith in
    let left : c.args.left.now ≡ c.in-Some.station.now ∷ c.in-Some.others.now = c.in-Some.ensures.cases.0 in
    let none = rw (take_all c.loop-channel.channel-index c.domain-channel-items.result.now all, c.domain-channel-items.ensures) at inv.none in
    (inv.chosen, rw left (none-whole c.args.book.now c.args.chosen.now.items c.in-Some.station.now c.in-Some.others.now none))
