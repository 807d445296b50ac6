-- Tables can be made of a lowered grammar, and of what inlining makes of it; for what is prepared.
use Rattle.std.specs.Prelude.{All, Some, slice_get}
use Rattle.std.proofs.Common.{◌≡◌, ◌∙◌, ◌<◌, ◌+◌, List, [], ◌∷◌, ap, sym, subst}
use Rattle.std.proofs.Common.{arith, length, Contains}
use Rattle.std.proofs.lemmas.List.Elements.{All-contains_itself}
use Rattle.lalrpop_grammar_symbols.specs.declared.names.NonterminalString.{NonterminalString}
use Rattle.lalrpop_grammar_language.specs.Among.{Among}
use Rattle.lalrpop_grammar_language.proofs.AmongLemmas.{contains_among}
use Rattle.lalrpop_grammar_repr.specs.Maps.{at_terminal}
use Rattle.lalrpop_grammar_repr.specs.declared.grammar.Grammar.{Grammar}
use Rattle.lalrpop_grammar_repr.specs.declared.production.NonterminalData.{NonterminalData}
use Rattle.lalrpop_grammar_repr.specs.declared.production.Production.{Production}
use Rattle.lalrpop_grammar_repr.specs.declared.production.Symbol.{Symbol}
use Rattle.lalrpop_grammar_repr.specs.declared.production.Symbol.TheVariants as symbols
use Rattle.lalrpop_lr1_theory.proofs.ListLemmas.{AllOf, all_of, contains_here, contains_later}
use Rattle.lalrpop_lr1_core.proofs.GraphLemmas.{in_flat}
use Rattle.lalrpop_lr1_core.specs.TheoryGrammars.{productions_of_grammar}
use Rattle.lalrpop_lr1_first.specs.NumberedGrammars.{HasItsTerminals}
use Rattle.lalrpop_lr1_first.specs.Tables.{HasNumberedTerminal, IsTerminalSet}
use Rattle.lalrpop_lr1_inline.specs.InlinedGrammars.{IsInlinedGrammar}
use Rattle.lalrpop_lr1_inline.specs.InlinedNames.{NonterminalEntries}
use Rattle.lalrpop_norm_lower.specs.TableReadiness.{IsReadyForTables}
use Rattle.lalrpop_run_prepare.proofs.SideLemmas.{AreSidesOf, IsSideOf, inlined_of}
use Rattle.lalrpop_run_prepare.proofs.TerminalLemmas.{among_numbered, number_placed, place_numbered}

-- what holds of each element is what holds by recursion
recursed : {A : Type 0} (P : A → Type 0) (xs : List A) → ((x : A) → Contains xs x → P x) → AllOf P xs
recursed P [] f = tt
recursed P (x ∷ xs) f = (f x (contains_here x xs), recursed P xs (λ y c. f y (contains_later x y xs c)))

-- of each symbol on the right sides, by where it stands
pub sides_where : (P : Symbol → Type 0) (es : NonterminalEntries)
    → ((n : NonterminalString) (d : NonterminalData) (p : Production) (s : Symbol) → Among es (n, d) → Among d.productions p
    → Among p.symbols s → P s) → AreSidesOf P es
sides_where P es f =
    recursed (λ (e : NonterminalString × NonterminalData). AllOf (IsSideOf P) e.1.productions) es
    (λ e c.
    recursed (IsSideOf P) e.1.productions
    (λ p d. recursed P p.symbols (λ s k. f e.0 e.1 p s (contains_among es e c) (contains_among e.1.productions p d) (contains_among p.symbols s k))))

-- and of a symbol of one of the grammar's productions
pub side_there : (P : Symbol → Type 0) (g : Grammar) → AreSidesOf P g.nonterminals → (p : Production)
    → Contains (productions_of_grammar g) p → (s : Symbol) → Contains p.symbols s → P s
side_there P g h p c s d =
    let e = in_flat (λ (x : NonterminalString × NonterminalData). x.1.productions) g.nonterminals p c in
    all_of P p.symbols
    (all_of (IsSideOf P) e.0.1.productions
    (all_of (λ (x : NonterminalString × NonterminalData). AllOf (IsSideOf P) x.1.productions) g.nonterminals h e.0 e.1) p e.2) s d

module _ (g : Grammar) (ready : IsReadyForTables g) where
  ready_set : IsTerminalSet g.terminals
  ready_set = record {
    numbered = λ k t e.
        ap (at_terminal t) ready.numbered ∙ place_numbered 0 g.terminals.all ready.ascending k t e
        ∙ ap Some (let place : 0 + k ≡ k = omega arith in place);
    places = λ k t e.
        let r = number_placed 0 g.terminals.all k t (ap (at_terminal t) (sym ready.numbered) ∙ e) in
        let same : r.0 ≡ k = let n = r.1 in omega (arith, n) in
        ap (slice_get g.terminals.all) (sym same) ∙ r.2;
  }

  numbered_where : (n : NonterminalString) (d : NonterminalData) (p : Production) (s : Symbol) → Among g.nonterminals (n, d)
      → Among d.productions p → Among p.symbols s → HasNumberedTerminal g.terminals s
  numbered_where n d p (symbols.Nonterminal m) i j k = tt
  numbered_where n d p (symbols.Terminal t) i j k =
      let r = among_numbered 0 g.terminals.all t (ready.known n d p t i j k) in
      (r.0, ap (at_terminal t) ready.numbered ∙ r.1)

  ready_sides : AreSidesOf (HasNumberedTerminal g.terminals) g.nonterminals
  ready_sides = sides_where (HasNumberedTerminal g.terminals) g.nonterminals numbered_where

  -- what tables ask of the grammar
  pub has_its_terminals : HasItsTerminals g
  has_its_terminals = record {
    numbered = ready_set;
    known = λ p c x d. side_there (HasNumberedTerminal g.terminals) g ready_sides p c x d;
  }

  -- what inlining asks of it
  pub has_its_actions : All (λ e. All (λ p. p.action.0 < length g.action_fn_defns) e.1.productions) g.nonterminals
  has_its_actions = λ k d h j q l.
      let e = All-contains_itself g.nonterminals k d h in
      let p = All-contains_itself _ j q l in
      ready.actions _ _ _ (contains_among g.nonterminals _ e) (contains_among _ _ p)

  -- what tables ask of what inlining makes of it
  pub expansion_has_its_terminals : (after : Grammar) → IsInlinedGrammar g after → HasItsTerminals after
  expansion_has_its_terminals after i =
      let same : after.terminals ≡ g.terminals = ap (λ (x : Grammar). x.terminals) i.others in
      let sides = inlined_of (HasNumberedTerminal g.terminals) i ready_sides in
      record {
        numbered = subst IsTerminalSet (sym same) ready_set;
        known = λ p c x d.
            subst (λ ts. HasNumberedTerminal ts x) (sym same)
            (side_there (HasNumberedTerminal g.terminals) after sides p c x d);
      }
