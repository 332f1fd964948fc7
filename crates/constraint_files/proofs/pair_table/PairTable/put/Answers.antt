use Rattle.std.proofs.Common.{◌∷◌, ◌∙◌, [], ℕ, List, ap, fold}
use Rattle.std.proofs.lemmas.List.Sums.{fold-append}
use Rattle.pack_defs.specs.declared.pair.Pair.{Pair}
use Rattle.constraint_files.specs.PairTable.{PairsView, with_pair}
use Rattle.constraint_files.proofs.pair_table.PairTable.put.Goals as goal

abbrev seen_as : ℕ → ℕ → List Pair → PairsView
seen_as self_pairs strangers pairs = record { list = pairs; self_pairs = self_pairs; strangers = strangers }

pub returns : goal.returns
returns c =
    let t = c.self.inside in
    rw (← c.self.view_is) (ap (seen_as t.self_pairs t.strangers)
    (ap (λ ps. fold with_pair t.tree.keys ps) c.in_ok-push.ensures.items ∙ fold-append with_pair t.tree.keys t.last.items (c.args.pair ∷ [])))
