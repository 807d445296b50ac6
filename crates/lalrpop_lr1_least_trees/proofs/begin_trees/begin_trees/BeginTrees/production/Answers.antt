use Rattle.std.proofs.Common.{◌≡◌, ◌∙◌, ⊎_elim, ap, arith, length, subst, sym, true}
use Rattle.std.specs.Prelude.{slice_get}
use Rattle.std.proofs.lemmas.Option.{get_or_from_slice_get, slice_get_within}
use Rattle.lalrpop_lr1_core.specs.Views.{production_view}
use Rattle.lalrpop_lr1_theory.proofs.StepLemmas.{some_same}
use Rattle.lalrpop_lr1_first.specs.FirstSetsOf.{IsProductionOf}
use Rattle.lalrpop_lr1_first.specs.declared.numbered.Numbered.{Numbered}
use Rattle.lalrpop_lr1_first.specs.NumberedGrammars.{table_productions}
use Rattle.lalrpop_lr1_first.proofs.TableLemmas.{long_map}
use Rattle.lalrpop_lr1_least_trees.specs.GrammarTrees.{productions_by}
use Rattle.lalrpop_lr1_least_trees.proofs.AnswerLemmas.{nothing_there}
use Rattle.lalrpop_lr1_least_trees.specs.declared.begin_trees.derived.DerivedOrigin.{DerivedOrigin}
use Rattle.lalrpop_lr1_least_trees.specs.BeginForests.{IsBeginRoot}
use Rattle.lalrpop_lr1_least_trees.proofs.BeginAnswerLemmas.{begin_root, none_begins}
use Rattle.lalrpop_lr1_least_trees.proofs.BeginLemmas.{entry_missing, entry_there}
use Rattle.lalrpop_lr1_least_trees.proofs.begin_trees.begin_trees.BeginTrees.production.Goals as goal

pub index-origin-requires : goal.index-origin-requires
index-origin-requires c =
    let it = c.args.self.now in
    let n = c.args.nonterminal.now in
    let e = entry_there it c.requires n c.in-Some.tree c.in-Some.ensures in
    let r = begin_root it c.requires c.requires.terminal c.requires.wanted n e.number e.at c.in-Some.tree e.least in
    let within = slice_get_within it.derived.origins.items c.in-Some.tree.rule r.source_is.1.origin r.source_is.1.at_origin in
    omega (arith, within)

pub production_at-requires : goal.production_at-requires
production_at-requires c =
    let it = c.args.self.now in
    let n = c.args.nonterminal.now in
    let e = entry_there it c.requires n c.in-Some.tree c.in-Some.ensures in
    let r = begin_root it c.requires c.requires.terminal c.requires.wanted n e.number e.at c.in-Some.tree e.least in
    let s = r.source_is.1 in
    let origin : c.index-origin.result.now ≡ s.origin =
    c.index-origin.ensures ∙ get_or_from_slice_get it.derived.origins.items c.in-Some.tree.rule s.origin c.index-origin.result.now
    s.at_origin in
    let within = slice_get_within (productions_by it.trees.now.table) s.origin.rule s.production s.at_production in
    let rule : c.index-origin.result.now.rule ≡ s.origin.rule = ap (λ (o : DerivedOrigin). o.rule) origin in
    let long : length c.table.result.now.productions.items ≡ length it.trees.now.table.productions.items =
    ap (λ (t : Numbered). length t.productions.items) c.table.ensures in
    omega (
      arith,
      within,
      rule,
      long,
      long_map production_view (table_productions it.trees.now.table),
      long_map (λ b. b.now) it.trees.now.table.productions.items,
    )

pub returns-in-None : goal.returns-in-None
returns-in-None c = λ g t of w ts b.
    let it = c.args.self.now in
    let n = c.args.nonterminal.now in
    ⊎_elim (λ missing. nothing_there it.trees.now c.requires.trees n true missing g of ts b.0)
    (λ k. none_begins it c.requires t w n k.0 k.1 g of k.2 ts b) (entry_missing it c.requires n c.in-None.ensures)

pub returns-in-Some : goal.returns-in-Some
returns-in-Some c = λ g t of w.
    let it = c.args.self.now in
    let n = c.args.nonterminal.now in
    let e = entry_there it c.requires n c.in-Some.tree c.in-Some.ensures in
    let r = begin_root it c.requires t w n e.number e.at c.in-Some.tree e.least in
    let s = r.source_is.1 in
    let origin : c.index-origin.result.now ≡ s.origin =
    c.index-origin.ensures ∙ get_or_from_slice_get it.derived.origins.items c.in-Some.tree.rule s.origin c.index-origin.result.now
    s.at_origin in
    let production : production_view c.production_at.result.now ≡ s.production =
    some_same (production_view c.production_at.result.now) s.production
    (sym c.production_at.ensures ∙ ap (λ (t : Numbered). slice_get (productions_by t) c.index-origin.result.now.rule) c.table.ensures
    ∙ ap (λ (o : DerivedOrigin). slice_get (productions_by it.trees.now.table) o.rule) origin ∙ s.at_production) in
    subst (λ p. IsBeginRoot (IsProductionOf g) n.0 t p c.index-origin.result.now.place) (sym production)
    (subst (λ (o : DerivedOrigin). IsBeginRoot (IsProductionOf g) n.0 t s.production o.place) (sym origin) (r.root g of))
