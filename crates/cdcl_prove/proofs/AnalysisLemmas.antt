-- For `analysis`: what the marks of an analysis keep.
use Rattle.std.proofs.Common.{◌≡◌, ℕ, ◌+◌, ◌<◌, ◌≤◌, true, false, List, [], Option, Some, None, length, get_or, take, refl, sym, ap, ◌∙◌, subst, inl, inr, ◌⊎◌}
use Rattle.std.specs.List.{All}
use Rattle.std.proofs.lemmas.Bool.{false≢true}
use Rattle.std.proofs.lemmas.List.Elements.{All-more, All-weaker}
use Rattle.std.proofs.lemmas.List.{get_or_default}
use Rattle.clause_db.specs.declared.lit.Lit.{Lit}
use Rattle.clause_db.specs.Clause.{clause_at}
use Rattle.clause_db.specs.Clauses.{Clauses}
use Rattle.rup_check.specs.Follows.{line_fault}
use Rattle.trail_prop.specs.declared.entry.TrailEntry.{TrailEntry}
use Rattle.trail_prop.specs.Entries.{lits_of}
use Rattle.trail_prop.specs.Trails.{IsTrail, IsFalseAt}
use Rattle.cdcl_prove.specs.declared.mark.VariableMark.{VariableMark}
use Rattle.cdcl_prove.specs.declared.mark.VariableMark.TheVariants.{Unseen, Kept, Resolved}
use Rattle.cdcl_prove.specs.Analysis.{is_kept, is_resolved, mark_of, keeps, resolves, has_seen, learnt_line_of, hints_of, AreVariablesSeen, IsReasonSeen, SeesMore, IsClosed, IsAnalysed}
use Rattle.cdcl_prove.proofs.TrailLemmas.{same-entry, fits-at}
use Rattle.cdcl_prove.proofs.Following.{line-follows}

pub more-nothing : (marks : List VariableMark) → SeesMore marks marks
more-nothing marks = record { size = refl; still = λ v h. h; same = λ v. refl }

pub more-then : (one two three : List VariableMark) → SeesMore one two → SeesMore two three → SeesMore one three
more-then one two three a b = record {
  size = b.size ∙ a.size;
  still = λ v h. b.still v (a.still v h);
  same = λ v. b.same v ∙ a.same v;
}

-- one more literal of a clause is met
pub met-more : (clause : List Lit) (i : ℕ) (d : Lit) (one two : List VariableMark) → SeesMore one two → i < length clause → has_seen two (get_or clause i d).var ≡ true → All (λ (l : Lit). has_seen one l.var ≡ true) (take i clause) → All (λ (l : Lit). has_seen two l.var ≡ true) (take (i + 1) clause)
met-more clause i d one two m l h a =
    All-more (λ (x : Lit). has_seen two x.var ≡ true) clause i d l (All-weaker (λ (x : Lit). has_seen one x.var ≡ true) (λ (x : Lit). has_seen two x.var ≡ true) (λ x k. m.still x.var k) (take i clause) a) h

pub met-still : (one two : List VariableMark) (o : Option (List Lit)) → ((v : ℕ) → has_seen one v ≡ true → has_seen two v ≡ true) → AreVariablesSeen (has_seen one) o → AreVariablesSeen (has_seen two) o
met-still one two None s m = m
met-still one two (Some clause) s m = All-weaker (λ (x : Lit). has_seen one x.var ≡ true) (λ (x : Lit). has_seen two x.var ≡ true) (λ x k. s x.var k) clause m

reason-still : (one two : List VariableMark) (clauses : List (List Lit)) (o : Option ℕ) → ((v : ℕ) → has_seen one v ≡ true → has_seen two v ≡ true) → IsReasonSeen (has_seen one) clauses o → IsReasonSeen (has_seen two) clauses o
reason-still one two clauses None s m = m
reason-still one two clauses (Some n) s m = met-still one two (clause_at clauses n) s m

-- nothing is resolved away if nothing was met
pub none-resolved : (marks : List VariableMark) → ((v : ℕ) → mark_of marks v ≡ Unseen) → (v : ℕ) → resolves marks v ≡ false
none-resolved marks u v = ap is_resolved (u v)

pub closed-at_first : (c : Clauses) (es : List TrailEntry) (one two : List VariableMark) → length one ≡ c.vars → ((v : ℕ) → mark_of one v ≡ Unseen) → SeesMore one two → IsClosed c.vars c.list es two
closed-at_first c es one two s u m = record {
  size = m.size ∙ s;
  closed = λ k d l r. absurd (false≢true (sym (m.same (get_or es k d).lit.var ∙ none-resolved one u (get_or es k d).lit.var) ∙ r));
}

-- an entry is resolved away once its reason is met
pub closed-after : (c : Clauses) (es : List TrailEntry) (at n : ℕ) (d : TrailEntry) (clause : List Lit) (one two three : List VariableMark) → IsTrail c es → at < length es → (get_or es at d).reason ≡ Some n → clause_at c.list n ≡ Some clause → IsClosed c.vars c.list es one → SeesMore one two → All (λ (l : Lit). has_seen two l.var ≡ true) clause → length three ≡ length two → ((v : ℕ) → has_seen two v ≡ true → has_seen three v ≡ true) → ((v : ℕ) → 1 ≤ v → resolves three v ≡ true → (v ≡ (get_or es at d).lit.var) ⊎ (resolves two v ≡ true)) → IsClosed c.vars c.list es three
closed-after c es at n d clause one two three t l r k before more met size still others = record {
  size = size ∙ (more.size ∙ before.size);
  closed = λ j e m q. elim (others (get_or es j e).lit.var (fits-at c [] es j e t m).within.0 q) [
    | inl same ↦
        let there : get_or es j e ≡ get_or es at d = get_or_default es j e d m ∙ same-entry c [] es j at d t m l (ap (λ (x : TrailEntry). x.lit.var) (sym (get_or_default es j e d m)) ∙ same) in
        let found : AreVariablesSeen (has_seen three) (clause_at c.list n) = subst (λ (o : Option (List Lit)). AreVariablesSeen (has_seen three) o) (sym k) (met-still two three (Some clause) still met) in
        subst (λ (o : Option ℕ). IsReasonSeen (has_seen three) c.list o) (sym (ap (λ (x : TrailEntry). x.reason) there ∙ r)) found
    | inr old ↦
        reason-still one three c.list (get_or es j e).reason (λ v h. still v (more.still v h)) (before.closed j e m (sym (more.same (get_or es j e).lit.var) ∙ old))
  ];
}

-- a mark is not both kept and resolved
apart : (m : VariableMark) → is_resolved m ≡ true → is_kept m ≡ false
apart Unseen e = refl
apart Kept e = cc
apart Resolved e = refl

-- the line of an analysed conflict follows
pub analysed-follows : (c : Clauses) (es : List TrailEntry) (conflict : ℕ) (marks : List VariableMark) → IsTrail c es → IsFalseAt (lits_of es) (clause_at c.list conflict) → IsAnalysed c.vars c.list es conflict marks → line_fault c.vars c.list (record { lits = learnt_line_of (keeps marks) es; hints = hints_of (resolves marks) es conflict }) ≡ None
analysed-follows c es conflict marks t f a =
    line-follows c (keeps marks) (resolves marks) es conflict t (λ v r. apart (mark_of marks v) r) a.closed.closed f a.met
