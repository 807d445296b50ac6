use Rattle.std.proofs.Common.{◌≡◌, ◌∙◌, ◌<◌, Contains, List, Some, ap, arith, length, slice_get, subst, sym}
use Rattle.std.specs.Borrow.{Bor}
use Rattle.std.proofs.lemmas.Option.{slice_get_within}
use Rattle.lalrpop_grammar_symbols.specs.declared.names.NonterminalString.{NonterminalString}
use Rattle.lalrpop_lr1_first.specs.Listings.{lent}
use Rattle.lalrpop_lr1_first.specs.NumberedGrammars.{table_names, table_productions}
use Rattle.lalrpop_lr1_first.proofs.TableLemmas.{long_map}
use Rattle.lalrpop_lr1_barren.specs.NamedLists.{HoldsNamed, production_lists}
use Rattle.lalrpop_lr1_barren.proofs.NamedLemmas.{none_named, some_named, view_long, view_read}
use Rattle.lalrpop_lr1_barren.proofs.reachable.named.NamedProductions.productions_of.Goals as goal

pub returns-in-None : goal.returns-in-None
returns-in-None c =
    let t = c.args.self.now.table.now in
    none_named t c.requires.table (production_lists c.args.self.now.lists.items) c.requires.lists c.args.name.now
    (λ d. c.in-None.ensures (subst (λ l. Contains (lent l) c.args.name.now) (sym c.names.ensures) d))

pub returns-in-Some : goal.returns-in-Some
returns-in-Some c =
    let t = c.args.self.now.table.now in
    let lists = c.args.self.now.lists.items in
    let name = c.args.name.now in
    let at : slice_get (table_names t) c.in-Some.place ≡ Some name =
    subst (λ (l : List (Bor NonterminalString)). slice_get (lent l) c.in-Some.place ≡ Some name) c.names.ensures c.in-Some.ensures in
    let inside : c.in-Some.place < length lists = omega (
      arith,
      slice_get_within (table_names t) c.in-Some.place name at,
      long_map (λ b. b.now) t.names.items,
      c.requires.lists.long,
      view_long lists,
    ) in
    subst (HoldsNamed (table_productions t) name)
    (view_read lists c.in-Some.place c.index.result.now inside c.index.ensures ∙ ap lent (sym c.as_slice.ensures.value))
    (some_named t c.requires.table (production_lists lists) c.requires.lists name c.in-Some.place at)
