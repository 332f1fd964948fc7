use Rattle.std.proofs.Common.{arith, ◌≡◌, ℕ, ◌-◌, ◌++◌, ◌∷◌, List, true, ◌∙◌, sym, subst, length-set, []}
use Rattle.std.specs.Prelude.{slice_set}
use Rattle.clause_db.specs.declared.lit.Lit.{Lit}
use Rattle.clause_db.specs.Clauses.{LitWithin}
use Rattle.clause_db.specs.Clause.{code_of}
use Rattle.trail_prop.specs.Open.{is_open}
use Rattle.trail_prop.specs.Entries.{lits_of, MarksSay, AreIndexed, Assigned}
use Rattle.trail_prop.proofs.Known.{marks-push}
use Rattle.trail_prop.proofs.Places.{indexed-push}
use Rattle.trail_prop.proofs.Opening.{room-for-one, opens-push, lits-push}
use Rattle.trail_prop.proofs.assignment.TrueLiterals.push.Goals as goal

pub unreachable-requires : goal.unreachable-requires
unreachable-requires c =
    let w : LitWithin c.self.inside.vars c.args.entry.lit = subst (λ (v : Assigned). LitWithin v.vars c.args.entry.lit) (sym c.self.view_is) c.requires.within in
    let o : is_open (lits_of c.self.inside.entries.items) c.args.entry.lit ≡ true = subst (λ (v : Assigned). is_open (lits_of v.entries) c.args.entry.lit ≡ true) (sym c.self.view_is) c.requires.opens in
    let r = room-for-one c.self.inside.vars c.self.inside.entries.items c.args.entry c.self.invariant.opens w o in
    omega (arith, r, c.in-Err.ensures.full)

pub overflow_cast-len : goal.overflow_cast-len
overflow_cast-len c =
    let w : LitWithin c.self.inside.vars c.args.entry.lit = subst (λ (v : Assigned). LitWithin v.vars c.args.entry.lit) (sym c.self.view_is) c.requires.within in
    let o : is_open (lits_of c.self.inside.entries.items) c.args.entry.lit ≡ true = subst (λ (v : Assigned). is_open (lits_of v.entries) c.args.entry.lit ≡ true) (sym c.self.view_is) c.requires.opens in
    let r = room-for-one c.self.inside.vars c.self.inside.entries.items c.args.entry c.self.invariant.opens w o in
    omega (arith, r, c.self.invariant.small, c.self.inside.entries.ok.0)

pub invariant_of-self : goal.invariant_of-self
invariant_of-self c =
    let w : LitWithin c.self.inside.vars c.args.entry.lit = subst (λ (v : Assigned). LitWithin v.vars c.args.entry.lit) (sym c.self.view_is) c.requires.within in
    let o : is_open (lits_of c.self.inside.entries.items) c.args.entry.lit ≡ true = subst (λ (v : Assigned). is_open (lits_of v.entries) c.args.entry.lit ≡ true) (sym c.self.view_is) c.requires.opens in
    let m = marks-push c.self.inside.vars c.self.inside.marks.items (lits_of c.self.inside.entries.items) c.args.entry.lit c.self.invariant.marked c.self.invariant.size w in
    let i = c.in-Ok.ensures.items in
    record {
      opens = rw i (opens-push c.self.inside.vars [] c.self.inside.entries.items c.args.entry c.self.invariant.opens w o);
      marked = rw (c.code.ensures, i) (subst (λ (k : List Lit). MarksSay c.self.inside.vars (slice_set c.self.inside.marks.items (code_of c.args.entry.lit) true) k) (sym (lits-push c.self.inside.entries.items c.args.entry)) m);
      size = length-set c.self.inside.marks.items c.code.result true ∙ c.self.invariant.size;
      indexed = rw i (subst (λ (n : ℕ). AreIndexed (slice_set c.self.inside.index.items (c.args.entry.lit.var - 1) n) (c.self.inside.entries.items ++ c.args.entry ∷ [])) (sym c.self.inside.entries.ok.0 ∙ sym c.len.ensures) (indexed-push c.self.inside.vars c.self.inside.index.items c.self.inside.entries.items c.args.entry c.self.invariant.opens c.self.invariant.indexed c.self.invariant.places w o));
      places = length-set c.self.inside.index.items (c.args.entry.lit.var - 1) _ ∙ c.self.invariant.places;
      room = omega (arith, c.in-Ok.ensures.capacity);
      small = c.self.invariant.small;
    }
