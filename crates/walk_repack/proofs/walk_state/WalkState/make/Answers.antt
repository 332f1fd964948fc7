use Rattle.std.proofs.Common.{◌≡◌, ◌∙◌, ◌++◌, ◌∷◌, [], ℕ, List, true, false, sym, ap, subst}
use Rattle.pack_defs.specs.Book.{domain_of}
use Rattle.pack_defs.specs.Lists.{has_entry, is_in}
use Rattle.cert_types.specs.Moves.{has_violation}
use Rattle.cert_types.proofs.WalkLemmas.{troubled-there}
use Rattle.walk_repack.specs.WalkState.{WalkStateView}
use Rattle.walk_repack.proofs.WalkStateLemmas.{walk_state-next}
use Rattle.walk_repack.proofs.walk_state.WalkState.make.Goals as goal

pub set_channel-requires-clause-there : goal.set_channel-requires-clause-there
set_channel-requires-clause-there c =
    troubled-there c.self.inside.book.value c.self.inside.entries.items c.args.station
    (subst (λ (v : WalkStateView). has_violation v.book v.entries c.args.station ≡ true) (sym c.self.view_is) c.requires.violating)

pub invariant_of-self-2 : goal.invariant_of-self-2
invariant_of-self-2 c =
    let s = c.args.station in
    let to = c.args.channel in
    let v : WalkStateView = record { book = c.self.inside.book.value; start = c.self.inside.start.value.items; moves = c.self.inside.moves.items; entries = c.self.inside.entries.items } in
    walk_state-next v s to c.push_reserved.new.self.items c.set_channel.new.entries.items c.self.invariant
    (subst (λ (w : WalkStateView). has_violation w.book w.entries s ≡ true) (sym c.self.view_is) c.requires.violating)
    (subst (λ (w : WalkStateView). is_in (domain_of w.book s) to ≡ true) (sym c.self.view_is) c.requires.on_domain)
    (subst (λ (w : WalkStateView). has_entry w.entries (s, to) ≡ false) (sym c.self.view_is) c.requires.elsewhere)
    (c.push_reserved.ensures.items ∙ ap (λ (ms : List (ℕ × ℕ)). ms ++ (s, to) ∷ []) c.in_ok-reserve.ensures.items)
    c.set_channel.ensures
