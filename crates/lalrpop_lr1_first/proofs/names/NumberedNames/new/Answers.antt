use Rattle.std.proofs.Common.{append-nil, ◌≡◌, ◌∙◌, ◌∷◌, [], ◌++◌, suc, ap, subst, sym, length}
use Rattle.std.proofs.Common.{rules}
use Rattle.std.specs.List.Sorted.{IsStrictlySortedBy}
use Rattle.std.proofs.Math.Seq.{append_snoc}
use Rattle.lalrpop_grammar_symbols.specs.contracts.names.NonterminalStringOrd.TheImpl as names
use Rattle.lalrpop_lr1_first.specs.Listings.{lent}
use Rattle.lalrpop_lr1_first.specs.Tables.{pairs_from}
use Rattle.lalrpop_lr1_first.proofs.NameLemmas.{copied_goes_on, lent_sorted, name_antisymm, pairs_keys}
use Rattle.lalrpop_lr1_first.proofs.names.NumberedNames.new.Goals as goal

pub loop-name-preserved : goal.loop-name-preserved
loop-name-preserved c =
    let keys = c.args.set.now.keys in
    let x = c.in-Some.name.now in
    let n = length c.loop-name.listed.items in
    let next : c.loop-name.name-iterator ≡ x ∷ c.next.new.self = search rules in
    let pushed : c.push.new.self.items ≡ c.loop-name.listed.items ++ x ∷ [] = search rules in
    let longer : length c.push.new.self.items ≡ suc n = search rules in (
      ap (λ l. l ++ c.next.new.self) pushed ∙ append_snoc c.loop-name.listed.items x c.next.new.self
          ∙ ap (λ l. c.loop-name.listed.items ++ l) (sym next) ∙ c.loop-name.invariant.0,
      ap (λ k. c.insert.new.self ++ pairs_from k (lent c.next.new.self)) longer
          ∙ copied_goes_on name_antisymm (pairs_from 0 (lent keys)) c.loop-name.numbers (pairs_from n (lent c.loop-name.name-iterator))
          (pairs_from (suc n) (lent c.next.new.self)) c.insert.new.self x.now n
          (subst (IsStrictlySortedBy (names.ghosts).cmp) (sym (pairs_keys (lent keys) 0))
          (lent_sorted (names.ghosts).cmp keys c.iter-name-items.ensures.ordered))
          c.loop-name.invariant.1 (ap (λ l. pairs_from n (lent l)) next) (search rules),
    )

pub returns-clause-ordered : goal.returns-clause-ordered
returns-clause-ordered c =
    let items = c.loop-name.listed.items in
    let none : c.loop-name.name-iterator ≡ [] = search rules in
    let same : items ≡ c.args.set.now.keys =
    sym (append-nil items) ∙ sym (ap (λ l. items ++ l) none) ∙ c.loop-name.invariant.0 in
    subst (λ ks. IsStrictlySortedBy (names.ghosts).cmp (lent ks)) (sym same)
    (lent_sorted (names.ghosts).cmp c.args.set.now.keys c.iter-name-items.ensures.ordered)
