-- Exit statuses, and lists of them.
use Rattle.std.proofs.Common.{◌≡◌, ◌⊎◌, ◌∙◌, ℕ, true, false, not, inl, inr, List, [], ◌∷◌, refl, sym, subst}
use Rattle.std.specs.Prelude.{IsTrue}
use Rattle.std.specs.List.{list_all}
use Rattle.std.proofs.lemmas.Bool.{false≢true, false_from_ne_true, not-true}
use Rattle.pack_defs.specs.Lists.{is_in}
use Rattle.pack_defs.specs.ClockRule.{ClockTest}
use Rattle.pack_defs.proofs.Members.{is_in-gives, list_all-gives}
use Rattle.commands.specs.Records.{done_status}

-- A status that equals a member of a list is in the list.
pub one-of : (xs : List ℕ) (status n : ℕ) → status ≡ n → IsTrue (is_in xs n) → IsTrue (is_in xs status)
one-of xs status n is h = subst (λ z. IsTrue (is_in xs z)) (sym is) h

pub off : (xs : List ℕ) (status n : ℕ) → IsTrue (is_in xs status) → status ≡ n → is_in xs n ≡ false → ⊥
off xs status n h is out = false≢true (sym out ∙ subst (λ z. is_in xs z ≡ true) is h)

-- Two lists of statuses have none in common.
pub apart-lists : (xs ys : List ℕ) (status : ℕ) → list_all (λ x. not (is_in ys x)) xs ≡ true → IsTrue (is_in xs status) → IsTrue (is_in ys status) → ⊥
apart-lists xs ys status apart h k =
    let out = list_all-gives (λ x. not (is_in ys x)) xs status apart (is_in-gives xs status h) in
    false≢true (sym (not-true (is_in ys status) out) ∙ k)

-- A status of the one list is not in the other.
pub not-in : (xs ys : List ℕ) (status : ℕ) → list_all (λ x. not (is_in ys x)) xs ≡ true → IsTrue (is_in xs status) → is_in ys status ≡ false
not-in xs ys status apart h = false_from_ne_true (is_in ys status) (λ k. apart-lists xs ys status apart h k)

-- Status 0 means that no test is undecided.
pub none-open : (U : List ClockTest) → done_status U ≡ 0 → U ≡ []
none-open [] h = refl
none-open (t ∷ ts) h = cc

pub either-done : (U : List ClockTest) (status : ℕ) → status ≡ done_status U → (status ≡ 0) ⊎ (status ≡ 1)
either-done [] status h = inl h
either-done (t ∷ ts) status h = inr h

-- The first list of statuses is within the second.
pub within : (xs ys : List ℕ) (status : ℕ) → list_all (is_in ys) xs ≡ true → IsTrue (is_in xs status) → IsTrue (is_in ys status)
within xs ys status all h = list_all-gives (is_in ys) xs status all (is_in-gives xs status h)

-- The status of a finished auction.
pub done-within : (U : List ClockTest) → IsTrue (is_in (0 ∷ 1 ∷ []) (done_status U))
done-within [] = refl
done-within (t ∷ ts) = refl
